-- Rename gives the file's entries the new name and leaves the image sound. Assumes nothing.
use Prim.Native.Nat.{ℕ, zero, suc, ◌+◌, ◌*◌, ◌/◌, ◌%◌, ◌≤◌, ◌<◌}
use mathlib.Core.Path.{◌≡◌, refl, sym, ap, ◌∙◌}
use mathlib.Core.Bool.{true, false, not}
use mathlib.Core.List.{List}
use mathlib.Core.Logic.{◌⊎◌, inl, inr, ⊎_elim}
use native.Mathlib.Omega.{arith}
use native.Mathlib.Nat.{zero-add, add-zero}
use lib.ListN.{length, get_or}
use lib.Dec.{eqb, leb, ltb}
use borrow.Author.Tests.{ltb-true, ltb-false}
use Rattle.words.specs.Tests.{◌and◌, ◌if◌else◌}
use Rattle.words.specs.Lists.{tab}
use Rattle.words.specs.Bytes.{byte, low_from, put}
use Rattle.words.proofs.Tests.{either, never, and_fst, and_snd, all_ext}
use Rattle.words.proofs.Lists.{tab_ext, tab_get_d, tab_at, length-tab}
use Rattle.words.proofs.Bytes.{put_in, put_out, length-put}
use Rattle.words.proofs.Sets.{and_both}
use Rattle.rules.specs.declared.kind.Kind.{Kind}
use Rattle.rules.specs.Kinds.{entries, numbers}
use Rattle.rules.specs.declared.file.File.{File}
use Rattle.rules.specs.Drive.{is_empty, name_at, file_from, file_at, extent_at, map_number, is_of, legal_byte, legal_at, legal_name, good_user, good_numbers, good_fields}
use Rattle.rules.specs.Effects.{low_changed, renamed_at, renamed}
use Rattle.rules.proofs.Sound.{Names, SoundImage, length_long}
use Rattle.rules.proofs.Frames.{Same, head_of, name_byte, file_same, fields_same, of_same, of-file, file-of, names_same, long_same}
use Rattle.soundness.proofs.Numbers.{map_later}
use Rattle.soundness.proofs.Steps.{Stays, moves, fewer}
use Rattle.soundness.proofs.Changes.{Touches}
use Rattle.soundness.proofs.Turns.{Turned, turned}

-- one entry's name put anew
abbrev fresh : List ℕ → List ℕ → ℕ → List ℕ
fresh name t e = put (name_at e) (tab (low_changed t (name_at e) name) 11) t

module _ (kind : Kind) (name t : List ℕ) (e : ℕ) (below : e < entries kind) (long : 32 * entries kind + 32 ≤ length t) where
  v_long : length (tab (low_changed t (name_at e) name) 11) ≡ 11
  v_long = length-tab (low_changed t (name_at e) name) 11

  fits : 32 * e + 1 + length (tab (low_changed t (name_at e) name) 11) ≤ length t
  fits = omega (arith, v_long)

  fresh_in : (k : ℕ) → k < 11 → byte (fresh name t e) (32 * e + 1 + k) ≡ low_changed t (name_at e) name k
  fresh_in k l = put_in (name_at e) (tab (low_changed t (name_at e) name) 11) t fits k (omega (arith, v_long)) ∙ tab_at (low_changed t (name_at e) name) 11 k 0 l

  fresh_out : (i : ℕ) → (i ≤ 32 * e) ⊎ (32 * e + 12 ≤ i) → byte (fresh name t e) i ≡ byte t i
  fresh_out i c =
      put_out (name_at e) (tab (low_changed t (name_at e) name) 11) t fits i
      (⊎_elim (λ (h : i ≤ 32 * e). inl (omega arith)) (λ (h : 32 * e + 12 ≤ i). inr (omega (arith, v_long))) c)

  fresh_long : length (fresh name t e) ≡ length t
  fresh_long = length-put (name_at e) (tab (low_changed t (name_at e) name) 11) t fits

  fresh_around : (d : ℕ) → (d ≡ e → ⊥) → Same t d (fresh name t e) d
  fresh_around d n = record {
    at = λ k l. fresh_out (32 * d + k)
        (⊎_elim (λ (c : ltb d e ≡ true). let m = ltb-true d e c in inl (omega arith))
        (λ (c : ltb d e ≡ false). let m = ltb-false d e c in let w : (d ≡ e → ⊥) = n in inr (omega arith)) (either (ltb d e)));
  }

-- byte k of an entry stands in the name or not
where? : (k : ℕ) → ((j : ℕ) × (j < 11) × (k ≡ 1 + j)) ⊎ ((k ≡ 0) ⊎ (12 ≤ k))
where? zero = inr (inl refl)
where? (suc j) = ⊎_elim (λ (c : ltb j 11 ≡ true). inl (j, ltb-true j 11 c, omega arith))
    (λ (c : ltb j 11 ≡ false). let m = ltb-false j 11 c in inr (inr (omega arith))) (either (ltb j 11))

fresh_local : (kind : Kind) (name s t : List ℕ) (e : ℕ) → e < entries kind → 32 * entries kind + 32 ≤ length s → 32 * entries kind + 32 ≤ length t
    → Same s e t e → Same (fresh name s e) e (fresh name t e) e
unfolding low_changed
fresh_local kind name s t e l a b h = record {
  at = λ k m.
      ⊎_elim
      (λ (q : (j : ℕ) × (j < 11) × (k ≡ 1 + j)).
      let j = q.0 in
      let z : 32 * e + k ≡ 32 * e + 1 + j = omega (arith, q.2) in
      rw z (fresh_in kind name t e l b j q.1 ∙ ap (λ (x : ℕ). x / 128 * 128 + byte name j) (name_byte s e t e (head_of s e t e h) j q.1)
      ∙ sym (fresh_in kind name s e l a j q.1)))
      (λ (q : (k ≡ 0) ⊎ (12 ≤ k)).
      let c : (32 * e + k ≤ 32 * e) ⊎ (32 * e + 12 ≤ 32 * e + k) = ⊎_elim (λ (y : k ≡ 0). inl (omega arith)) (λ (y : 12 ≤ k). inr (omega arith)) q in
      fresh_out kind name t e l b (32 * e + k) c ∙ h.at k m ∙ sym (fresh_out kind name s e l a (32 * e + k) c))
      (where? k);
}

module _ (kind : Kind) (s : List ℕ) (f : File) (name : List ℕ) (g : SoundImage kind s) where
  w : 32 * entries kind + 32 ≤ length s
  w = length_long kind s g.long

  leave : (t : List ℕ) (e : ℕ) → is_of t f e ≡ false → renamed_at f name e t ≡ t
  unfolding renamed_at ◌if◌else◌
  leave t e h = rw h

  change : (t : List ℕ) (e : ℕ) → is_of t f e ≡ true → renamed_at f name e t ≡ fresh name t e
  unfolding renamed_at ◌if◌else◌
  change t e h = rw h

  at_long : (t : List ℕ) (e : ℕ) → e < entries kind → length t ≡ length s → length (renamed_at f name e t) ≡ length t
  at_long t e l q = ⊎_elim (λ h. ap length (change t e h) ∙ fresh_long kind name t e l (omega (arith, w))) (λ h. ap length (leave t e h)) (either (is_of t f e))

  at_frame : (t : List ℕ) (e d : ℕ) → e < entries kind → length t ≡ length s → (d ≡ e → ⊥) → Same t d (renamed_at f name e t) d
  at_frame t e d l q n =
      ⊎_elim (λ (h : is_of t f e ≡ true). rw (change t e h) (fresh_around kind name t e l (omega (arith, w)) d n))
      (λ (h : is_of t f e ≡ false). rw (leave t e h) (record { at = λ k m. refl })) (either (is_of t f e))

  at_beyond : (t : List ℕ) (e i : ℕ) → e < entries kind → length t ≡ length s → 32 * entries kind ≤ i → byte (renamed_at f name e t) i ≡ byte t i
  at_beyond t e i l q k =
      ⊎_elim (λ (h : is_of t f e ≡ true). rw (change t e h) (fresh_out kind name t e l (omega (arith, w)) i (inr (omega arith))))
      (λ (h : is_of t f e ≡ false). rw (leave t e h) refl) (either (is_of t f e))

  at_local : (t : List ℕ) (e : ℕ) → e < entries kind → length t ≡ length s → Same s e t e → Same (renamed_at f name e s) e (renamed_at f name e t) e
  at_local t e l q h =
      let o = of_same s e t e (head_of s e t e h) f in
      ⊎_elim
      (λ (y : is_of s f e ≡ true). rw (change s e y, change t e (o ∙ y)) (fresh_local kind name s t e l w (omega (arith, w)) h))
      (λ (y : is_of s f e ≡ false). rw (leave s e y, leave t e (o ∙ y)) h) (either (is_of s f e))

  -- Rename has gone over all entries
  pub all_renamed : Turned kind (renamed_at f name) s (entries kind) (renamed kind f name s)
  unfolding renamed
  all_renamed = turned kind (renamed_at f name) s at_long at_frame at_local at_beyond (entries kind) (omega arith)

  -- entries of other files stay as they were; ..
  pub renamed_kept : (e : ℕ) → e < entries kind → is_of s f e ≡ false → Same s e (renamed kind f name s) e
  renamed_kept e l h = rw (leave s e h) at (all_renamed.done e l l)

  given_anew : (e : ℕ) → e < entries kind → is_of s f e ≡ true → Same (fresh name s e) e (renamed kind f name s) e
  given_anew e l h = rw (change s e h) at (all_renamed.done e l l)

  -- bytes outside of the name
  outside : (e k : ℕ) → e < entries kind → k < 32 → (k ≡ 0) ⊎ (12 ≤ k) → byte (renamed kind f name s) (32 * e + k) ≡ byte s (32 * e + k)
  outside e k l m c =
      ⊎_elim
      (λ (h : is_of s f e ≡ true).
      (given_anew e l h).at k m
      ∙ fresh_out kind name s e l w (32 * e + k) (⊎_elim (λ (y : k ≡ 0). inl (omega arith)) (λ (y : 12 ≤ k). inr (omega arith)) c))
      (λ (h : is_of s f e ≡ false). (renamed_kept e l h).at k m) (either (is_of s f e))

  at_zero : (t : List ℕ) (e : ℕ) → byte t (32 * e + 0) ≡ byte t (32 * e)
  at_zero t e = ap (λ (i : ℕ). byte t i) (add-zero (32 * e))

  zeroth : (e : ℕ) → e < entries kind → byte (renamed kind f name s) (32 * e) ≡ byte s (32 * e)
  zeroth e l = sym (at_zero (renamed kind f name s) e) ∙ outside e 0 l (omega arith) (inl refl) ∙ at_zero s e

  -- .. those in use stay in use and the empty ones empty, ..
  pub renamed_empty : (e : ℕ) → e < entries kind → is_empty (renamed kind f name s) e ≡ is_empty s e
  unfolding is_empty
  renamed_empty e l = rw (zeroth e l)

  -- .. each with its extent ..
  pub renamed_extent : (e : ℕ) → e < entries kind → extent_at (renamed kind f name s) e ≡ extent_at s e
  renamed_extent e l = rw (outside e 12 l (omega arith) (inr (omega arith)), outside e 14 l (omega arith) (inr (omega arith)))

  -- .. its count ..
  pub renamed_count : (e : ℕ) → e < entries kind → byte (renamed kind f name s) (32 * e + 15) ≡ byte s (32 * e + 15)
  renamed_count e l = outside e 15 l (omega arith) (inr (omega arith))

  -- .. and its block numbers
  pub renamed_number : (e k : ℕ) → e < entries kind → k < numbers kind → map_number kind (renamed kind f name s) e k ≡ map_number kind s e k
  renamed_number e k l m = map_later kind s (renamed kind f name s) e k m (λ i u v. outside e i l v (inr (omega arith)))

  module _ (size : length f.name ≡ 11) (nsize : length name ≡ 11) (clear : (k : ℕ) → k < 11 → byte name k < 128) (legal : legal_name name 0 ≡ true)
      (none : (d : ℕ) → d < entries kind → is_empty s d ≡ false → file_at s d ≡ record { user = f.user; name = name } → ⊥) where
    low_now : (e : ℕ) → e < entries kind → is_of s f e ≡ true → (k : ℕ) → k < 11 → low_from (renamed kind f name s) (name_at e) k ≡ byte name k
    unfolding low_changed
    low_now e l h k m =
        let c = clear k m in
        let z : byte (renamed kind f name s) (32 * e + 1 + k) ≡ byte s (32 * e + 1 + k) / 128 * 128 + byte name k =
        name_byte (fresh name s e) e (renamed kind f name s) e (head_of (fresh name s e) e (renamed kind f name s) e (given_anew e l h)) k m
        ∙ fresh_in kind name s e l w k m in
        omega arith

    -- the file's entries are then of the new name under the same user, ..
    pub renamed_new : (e : ℕ) → e < entries kind → is_of s f e ≡ true → file_at (renamed kind f name s) e ≡ record { user = f.user; name = name }
    unfolding file_at file_from
    renamed_new e l h =
        let u : byte (renamed kind f name s) (32 * e) ≡ f.user = zeroth e l ∙ ap (λ (x : File). x.user) (of-file s f e size h) in
        let n = tab_ext (low_from (renamed kind f name s) (name_at e)) (λ (k : ℕ). get_or name k 0) 11 (low_now e l h) ∙ tab_get_d name 0 11 nsize in
        λ i. record { user = u i; name = n i }

    -- .. the others of the file that they were of;
    pub renamed_old : (e : ℕ) → e < entries kind → is_of s f e ≡ false → file_at (renamed kind f name s) e ≡ file_at s e
    renamed_old e l h = file_same s e (renamed kind f name s) e (head_of s e (renamed kind f name s) e (renamed_kept e l h))

    legal_now : (e : ℕ) → e < entries kind → is_of s f e ≡ true → legal_name (renamed kind f name s) (name_at e) ≡ true
    unfolding legal_name legal_at legal_byte
    legal_now e l h =
        let low : (k : ℕ) → k < 11 → byte (renamed kind f name s) (32 * e + 1 + k) % 128 ≡ byte name (0 + k) % 128 =
        λ k m. let c = clear k m in let y = low_now e l h k m in rw (zero-add k) (omega arith) in
        let z : byte (renamed kind f name s) (32 * e + 1) % 128 ≡ byte name 0 % 128 = rw add-zero at (low 0 (omega arith)) in
        rw (
          z,
          all_ext (legal_at (renamed kind f name s) (name_at e)) (legal_at name 0) 11
              (λ k m. ap (λ (b : ℕ). leb 32 b and leb b 126 and not (eqb b 63)) (low k m)),
        ) legal

    good_now : (e : ℕ) → e < entries kind → good_fields kind s e ≡ true → good_fields kind (renamed kind f name s) e ≡ true
    unfolding good_fields good_user good_numbers
    good_now e l g' =
        ⊎_elim
        (λ (h : is_of s f e ≡ true).
        let n = and_snd _ _ (and_snd _ _ g') in
        and_both _ _ (rw (zeroth e l) (and_fst _ _ g'))
        (and_both _ _ (legal_now e l h)
        (and_both _ _ (rw (outside e 12 l (omega arith) (inr (omega arith))) (and_fst _ _ n))
        (and_both _ _ (rw (outside e 14 l (omega arith) (inr (omega arith))) (and_fst _ _ (and_snd _ _ n)))
        (rw (outside e 15 l (omega arith) (inr (omega arith))) (and_snd _ _ (and_snd _ _ n))))))
        )
        (λ (h : is_of s f e ≡ false). fields_same kind s e (renamed kind f name s) e (renamed_kept e l h) g') (either (is_of s f e))

    -- the block numbers that stand there then stood there before, ..
    pub renamed_stays : (e k : ℕ) → Names kind (renamed kind f name s) e k → Stays kind s (renamed kind f name s) e k
    renamed_stays e k n =
        let y = renamed_number e k n.entry_there n.place_there in
        record { named = names_same kind s (renamed kind f name s) e k (renamed_empty e n.entry_there) y n; number = y }

    back : (d e : ℕ) → d < entries kind → e < entries kind → is_empty s d ≡ false → is_empty s e ≡ false
        → file_at (renamed kind f name s) d ≡ file_at (renamed kind f name s) e → file_at s d ≡ file_at s e
    back d e k l u v q =
        ⊎_elim
        (λ (a : is_of s f d ≡ true). ⊎_elim
        (λ (b : is_of s f e ≡ true). of-file s f d size a ∙ sym (of-file s f e size b))
        (λ (b : is_of s f e ≡ false). absurd (none e l v (sym (renamed_old e l b) ∙ sym q ∙ renamed_new d k a))) (either (is_of s f e)))
        (λ (a : is_of s f d ≡ false). ⊎_elim
        (λ (b : is_of s f e ≡ true). absurd (none d k u (sym (renamed_old d k a) ∙ q ∙ renamed_new e l b)))
        (λ (b : is_of s f e ≡ false). sym (renamed_old d k a) ∙ q ∙ renamed_old e l b) (either (is_of s f e)))
        (either (is_of s f d))

    forth : (d e : ℕ) → d < entries kind → e < entries kind → is_empty s d ≡ false → is_empty s e ≡ false → file_at s d ≡ file_at s e
        → file_at (renamed kind f name s) d ≡ file_at (renamed kind f name s) e
    forth d e k l u v q =
        ⊎_elim
        (λ (a : is_of s f d ≡ true). renamed_new d k a ∙ sym (renamed_new e l (file-of s f e v (sym q ∙ of-file s f d size a))))
        (λ (a : is_of s f d ≡ false). ⊎_elim
        (λ (b : is_of s f e ≡ true). absurd (never (file-of s f d u (q ∙ of-file s f e size b)) a))
        (λ (b : is_of s f e ≡ false). renamed_old d k a ∙ q ∙ sym (renamed_old e l b)) (either (is_of s f e)))
        (either (is_of s f d))

    -- .. the image is sound, ..
    pub renamed_sound : SoundImage kind (renamed kind f name s)
    renamed_sound =
        let t = renamed kind f name s in
        let was : (e : ℕ) → e < entries kind → is_empty (renamed kind f name s) e ≡ false → is_empty s e ≡ false = λ e l u. sym (renamed_empty e l) ∙ u in
        record {
          long = long_same kind s t all_renamed.len g.long;
          files = moves kind s t was (λ e l u q. good_now e l q) (λ e l u. renamed_extent e l)
              (λ d e k l u v q. back d e k l (was d k u) (was e l v) q)
              (λ d e k l u v q. (renamed_empty d k ∙ u, forth d e k l u (was e l v) q)) g.files;
          maps = fewer kind s t all_renamed.len renamed_stays g.maps;
        }

    -- .. and no other file's entry was touched
    pub renamed_touches : Touches kind s (renamed kind f name s) f (record { user = f.user; name = name })
    renamed_touches = record {
      long = all_renamed.len;
      entry = λ e l. ⊎_elim
          (λ (h : is_of s f e ≡ true). inr (record { was = λ v. of-file s f e size h; now = λ v. renamed_new e l h }))
          (λ (h : is_of s f e ≡ false). inl (renamed_kept e l h)) (either (is_of s f e));
    }
