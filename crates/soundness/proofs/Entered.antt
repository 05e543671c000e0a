-- An entry of 32 bytes put into an empty place, by Make or for a missing extent, leaves the image sound. Assumes nothing.
use Prim.Native.Nat.{ℕ, ◌+◌, ◌*◌, ◌/◌, ◌%◌, ◌≤◌, ◌<◌}
use mathlib.Core.Path.{◌≡◌, refl, sym, ap, subst, ◌∙◌}
use mathlib.Core.Bool.{true, false}
use mathlib.Core.List.{List, [], ◌∷◌, ◌++◌}
use mathlib.Core.Logic.{◌⊎◌, inl, inr, ⊎_elim}
use native.Mathlib.Omega.{arith}
use native.Mathlib.Nat.{zero-add, add-zero}
use lib.ListN.{length, replicate, get_or-replicate}
use lib.Seq.{get_or-append-add}
use lib.Dec.{eqb, ltb}
use borrow.Author.Tests.{ne_eqb, ltb-true, ltb-false, le-leb}
use Rattle.words.specs.Tests.{all}
use Rattle.words.specs.Lists.{tab}
use Rattle.words.specs.Bytes.{byte, byte_from, low_from, put}
use Rattle.words.proofs.Tests.{either, equal?, never, and_fst, and_snd, lowest_holds, lowest_over}
use Rattle.words.proofs.Lists.{tab_ext}
use Rattle.words.proofs.Bytes.{put_in, put_out, length-put}
use Rattle.words.proofs.Sets.{and_both}
use Rattle.rules.specs.declared.kind.Kind.{Kind}
use Rattle.rules.specs.Kinds.{entries, top, last_module}
use Rattle.rules.specs.declared.file.File.{File}
use Rattle.rules.specs.Drive.{is_empty, name_at, extent_at, map_number, file_from, file_at, is_entry, entry_of, free_entry, legal_byte, legal_at, legal_name, good_user}
use Rattle.rules.specs.Drive.{good_numbers, good_fields}
use Rattle.rules.specs.Effects.{made_entry, made, new_entry}
use Rattle.rules.proofs.Sizes.{map_bytes, module_last}
use Rattle.rules.proofs.Sound.{Is, Names, SoundImage, entry_so, found_is, length_long}
use Rattle.rules.proofs.Frames.{Same, head_of, empty_same, extent_same, file_same, fields_same, map_same, names_same, user_good, user_is, long_same}
use Rattle.soundness.proofs.Numbers.{map_none}
use Rattle.soundness.proofs.Steps.{Stays, enters, fewer}
use Rattle.soundness.proofs.Changes.{Change}

-- ---- an entry v in place n

module _ (kind : Kind) (s v : List ℕ) (n : ℕ) (g : SoundImage kind s) (below : n < entries kind) (size : length v ≡ 32) where
  fits : 32 * n + length v ≤ length s
  fits = omega (arith, length_long kind s g.long)

  around : (e : ℕ) → (e ≡ n → ⊥) → Same s e (put (32 * n) v s) e
  around e q = record {
    at = λ k l.
        put_out (32 * n) v s fits (32 * e + k)
        (⊎_elim (λ (c : ltb e n ≡ true). let m = ltb-true e n c in inl (omega arith))
        (λ (c : ltb e n ≡ false). inr (let m = ltb-false e n c in let w : (e ≡ n → ⊥) = q in omega arith)) (either (ltb e n)));
  }

  within : Same v 0 (put (32 * n) v s) n
  within = record { at = λ k l. put_in (32 * n) v s fits k (omega arith) ∙ ap (λ (j : ℕ). byte v j) (sym (zero-add k)) }

  -- an entry whose map is zeros brings no block number: those that stand there then stood there before
  pub put_stays : ((k : ℕ) → k < 16 → byte v (16 + k) ≡ 0) → (e k : ℕ) → Names kind (put (32 * n) v s) e k → Stays kind s (put (32 * n) v s) e k
  put_stays zs e k m =
      ⊎_elim
      (λ (q : e ≡ n).
      let l = m.place_there in
      let z : map_number kind (put (32 * n) v s) e k ≡ 0 = rw q (map_bytes kind v (put (32 * n) v s) 0 n k l within.at ∙ map_none kind v k l zs) in
      absurd (m.some z))
      (λ (q : e ≡ n → ⊥).
      let w = around e q in
      let y = map_same kind s (put (32 * n) v s) e k w m.place_there in
      record { named = names_same kind s (put (32 * n) v s) e k (empty_same s e (put (32 * n) v s) e (head_of s e (put (32 * n) v s) e w)) y m; number = y })
      (equal? e n)

  -- a good entry of a missing extent, which is 0 or whose file has its extent 0, enters: the image stays sound, and nothing is taken away
  pub entry_put : is_empty s n ≡ true → is_empty v 0 ≡ false → good_fields kind v 0 ≡ true
      → ((k : ℕ) → k < 16 → byte v (16 + k) ≡ 0)
      → ((d : ℕ) → d < entries kind → Is s (file_at v 0) (extent_at v 0) d → ⊥)
      → ((extent_at v 0 ≡ 0) ⊎ ((d : ℕ) × (d < entries kind) × Is s (file_at v 0) 0 d))
      → (a m i j : ℕ) → Change kind s (put (32 * n) v s) (file_at v 0) a m i j
  entry_put was u good zs new begun a m i j =
      let t = put (32 * n) v s in
      let h = head_of v 0 t n within in
      let f = file_same v 0 t n h in
      let x = extent_same v 0 t n h in
      let len = length-put (32 * n) v s fits in
      let not-n : (e : ℕ) → is_empty s e ≡ false → e ≡ n → ⊥ = λ e w q. never was (ap (λ (i : ℕ). is_empty s i) (sym q) ∙ w) in
      record {
        sound = record {
          long = long_same kind s t len g.long;
          files = enters kind s t n below was (λ e l q. around e q) (fields_same kind v 0 t n within good)
              (rw (f, x) new) (rw (f, x) begun) (empty_same v 0 t n h ∙ u) g.files;
          maps = fewer kind s t len (put_stays zs) g.maps;
        };
        rest = λ e k w. inr (put_stays zs e k w);
        grown = record {
          head = λ e l w. head_of s e t e (around e (not-n e w));
          number = λ e k w. map_same kind s t e k (around e (not-n e w.entry_used)) w.place_there;
          rises = λ e l w. let z : byte t (32 * e + 15) ≡ byte s (32 * e + 15) = (around e (not-n e w)).at 15 (omega arith) in omega arith;
        };
        touches = record {
          long = len;
          entry = λ e l. ⊎_elim
              (λ (q : e ≡ n). inr (record { was = λ w. absurd (not-n e w q); now = λ w. rw q f }))
              (λ (q : e ≡ n → ⊥). inl (around e q)) (equal? e n);
        };
        data_kept = record { at = λ b l c. put_out (32 * n) v s fits b (inr (omega arith)) };
      }

-- ---- the lowest empty entry, and what is missing

-- the lowest empty entry is empty; ..
pub free_empty : (kind : Kind) (s : List ℕ) → free_entry kind s < entries kind → is_empty s (free_entry kind s) ≡ true
unfolding free_entry
free_empty kind s h = lowest_holds (is_empty s) (entries kind) h

-- .. an extent that is not found stands nowhere
pub none_there : (kind : Kind) (s : List ℕ) (f : File) (x : ℕ) → entries kind ≤ entry_of kind s f x → (d : ℕ) → d < entries kind → Is s f x d → ⊥
unfolding entry_of
none_there kind s f x h d l w = never (entry_so s f x d w) (lowest_over (is_entry s f x) (entries kind) d h l)

not_229 : (u : ℕ) → u ≤ 15 → eqb u 229 ≡ false
not_229 u h = ne_eqb u 229 (λ (q : u ≡ 229). absurd (omega arith))

-- ---- Make

-- the low seven bits of the low seven bits are these
pub low_low : (b : ℕ) → b % 128 % 128 ≡ b % 128
low_low b = omega arith

module _ (kind : Kind) (s fcb : List ℕ) (u : ℕ) (g : SoundImage kind s) (user : u ≤ 15) (legal : legal_name fcb 1 ≡ true)
    (gone : entries kind ≤ entry_of kind s (file_from u fcb 1) 0) (room : free_entry kind s < entries kind) where
  abbrev newcomer : List ℕ
  newcomer = (file_from u fcb 1).user ∷ ((file_from u fcb 1).name ++ replicate 20 0)

  new-file : file_at newcomer 0 ≡ file_from u fcb 1
  unfolding file_at file_from tab
  new-file = λ i. record { user = u; name = tab_ext (λ (k : ℕ). byte fcb (1 + k) % 128 % 128) (low_from fcb 1) 11 (λ k l. low_low (byte fcb (1 + k))) i }

  new_good : good_fields kind newcomer 0 ≡ true
  unfolding good_fields good_user good_numbers file_from tab legal_name legal_at legal_byte all
  new_good = and_both _ _ (le-leb u 15 user) (and_both _ _ (simp low_low legal) (and_both _ _ refl (and_both _ _ (le-leb 0 (last_module kind)
      (omega arith)) refl)))

  -- Make's entry has a map of zeros; ..
  pub new_zeros : (k : ℕ) → k < 16 → byte newcomer (16 + k) ≡ 0
  unfolding file_from tab
  new_zeros k l =
      get_or-append-add (u ∷ (tab (low_from fcb 1) 11 ++ replicate 4 0)) (replicate 16 0) k 0 ∙ get_or-replicate 16 k 0 0 l

  -- .. it enters, and nothing is taken away; ..
  pub made_change : (a m i j : ℕ) → Change kind s (made (free_entry kind s) (file_from u fcb 1) s) (file_from u fcb 1) a m i j
  unfolding made made_entry is_empty file_from tab
  made_change a m i j =
      subst (λ (f : File). Change kind s (put (32 * free_entry kind s) newcomer s) f a m i j) new-file
      (entry_put kind s newcomer (free_entry kind s) g room refl (free_empty kind s room) (not_229 u user) new_good new_zeros
      (rw new-file (none_there kind s (file_from u fcb 1) 0 gone)) (inl refl) a m i j)

  -- .. it is then extent 0 of the file
  pub made_is : Is (made (free_entry kind s) (file_from u fcb 1) s) (file_from u fcb 1) 0 (free_entry kind s)
  unfolding made made_entry is_empty file_from tab
  made_is =
      let t = put (32 * free_entry kind s) newcomer s in
      let h = head_of newcomer 0 t (free_entry kind s) (within kind s newcomer (free_entry kind s) g room refl) in
      record {
        used = empty_same newcomer 0 t (free_entry kind s) h ∙ not_229 u user;
        file = file_same newcomer 0 t (free_entry kind s) h ∙ new-file;
        extent = extent_same newcomer 0 t (free_entry kind s) h;
      }

  -- its count is 0, ..
  pub made_count : byte (made (free_entry kind s) (file_from u fcb 1) s) (32 * free_entry kind s + 15) ≡ 0
  unfolding made made_entry file_from tab
  made_count = (within kind s newcomer (free_entry kind s) g room refl).at 15 (omega arith)

  -- .. and every other entry stays as it was
  pub made_kept : (e : ℕ) → (e ≡ free_entry kind s → ⊥) → Same s e (made (free_entry kind s) (file_from u fcb 1) s) e
  unfolding made made_entry file_from tab
  made_kept e q = around kind s newcomer (free_entry kind s) g room refl e q

-- ---- a missing extent

module _ (kind : Kind) (s : List ℕ) (f : File) (x : ℕ) (g : SoundImage kind s) (named : length f.name ≡ 11) (far : x ≤ top kind / 128)
    (there : entry_of kind s f 0 < entries kind) (gone : entries kind ≤ entry_of kind s f x) (room : free_entry kind s < entries kind) where
  abbrev fresh : List ℕ
  fresh = new_entry s (entry_of kind s f 0) f x

  zeroth : Is s f 0 (entry_of kind s f 0)
  zeroth = found_is kind s f 0 named there

  zeroth_good : good_fields kind s (entry_of kind s f 0) ≡ true
  zeroth_good = g.files.fields (entry_of kind s f 0) there zeroth.used

  ext_file : file_at fresh 0 ≡ f
  unfolding new_entry file_at file_from tab
  ext_file = λ i. record { user = f.user; name = (zeroth.file i).name }

  ext_extent : extent_at fresh 0 ≡ x
  unfolding new_entry tab
  ext_extent = omega arith

  user_fits : f.user ≤ 15
  user_fits = let q = user_good kind s (entry_of kind s f 0) zeroth_good in omega (arith, user_is s f (entry_of kind s f 0) zeroth.file)

  ext_legal : legal_name fresh 1 ≡ legal_name s (name_at (entry_of kind s f 0))
  unfolding new_entry legal_name legal_at tab all
  ext_legal = simp add-zero

  ext_good : good_fields kind fresh 0 ≡ true
  unfolding new_entry good_fields good_user good_numbers tab
  ext_good =
      and_both _ _ (le-leb _ _ user_fits)
      (and_both _ _ (ext_legal ∙ and_fst _ _ (and_snd _ _ zeroth_good))
      (and_both _ _ (le-leb (x % 32) 31 (omega arith)) (and_both _ _ (le-leb (x / 32) (last_module kind) (let m = module_last kind in omega arith)) refl)))

  ext_zeros : (k : ℕ) → k < 16 → byte fresh (16 + k) ≡ 0
  unfolding new_entry tab
  ext_zeros k l =
      get_or-append-add (f.user ∷ (tab (byte_from s (name_at (entry_of kind s f 0))) 11 ++ (x % 32 ∷ 0 ∷ x / 32 ∷ 0 ∷ []))) (replicate 16 0) k 0
      ∙ get_or-replicate 16 k 0 0 l

  ext_long : length fresh ≡ 32
  unfolding new_entry tab
  ext_long = refl

  ext_used : is_empty fresh 0 ≡ false
  unfolding new_entry is_empty
  ext_used = not_229 f.user user_fits

  -- a missing extent's entry brings no block number; ..
  pub entered_stays : (e k : ℕ) → Names kind (put (32 * free_entry kind s) fresh s) e k → Stays kind s (put (32 * free_entry kind s) fresh s) e k
  entered_stays = put_stays kind s fresh (free_entry kind s) g room ext_long ext_zeros

  -- .. it is then that extent of the file; ..
  pub entered_is : Is (put (32 * free_entry kind s) fresh s) f x (free_entry kind s)
  entered_is =
      let t = put (32 * free_entry kind s) fresh s in
      let h = head_of fresh 0 t (free_entry kind s) (within kind s fresh (free_entry kind s) g room ext_long) in
      record {
        used = empty_same fresh 0 t (free_entry kind s) h ∙ ext_used;
        file = file_same fresh 0 t (free_entry kind s) h ∙ ext_file;
        extent = extent_same fresh 0 t (free_entry kind s) h ∙ ext_extent;
      }

  -- .. it enters, and nothing is taken away
  pub entered_change : (a m i j : ℕ) → Change kind s (put (32 * free_entry kind s) fresh s) f a m i j
  entered_change a m i j =
      subst (λ (h : File). Change kind s (put (32 * free_entry kind s) fresh s) h a m i j) ext_file
      (entry_put kind s fresh (free_entry kind s) g room ext_long (free_empty kind s room) ext_used ext_good ext_zeros
      (rw (ext_file, ext_extent) (none_there kind s f x gone)) (inr (rw ext_file (entry_of kind s f 0, there, zeroth))) a m i j)
