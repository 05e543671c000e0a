-- One plain call leaves alone what it must: theorems 6 and 7. Assumes nothing.
use Prim.Native.Nat.{ℕ, ◌*◌, ◌≤◌, ◌<◌}
use mathlib.Core.Path.{◌≡◌, sym, ap, subst, ◌∙◌}
use mathlib.Core.Bool.{true, false}
use mathlib.Core.List.{List}
use mathlib.Core.Logic.{⊎_elim}
use native.Mathlib.Omega.{arith}
use lib.ListN.{length}
use borrow.Author.Tests.{eqb-true, eqb-false, leb-true, not-true}
use Rattle.words.specs.Bytes.{byte, part}
use Rattle.words.proofs.Tests.{and_fst, and_snd}
use Rattle.words.proofs.Bytes.{part_same}
use Rattle.rules.specs.declared.kind.Kind.{Kind}
use Rattle.rules.specs.Kinds.{entries}
use Rattle.rules.specs.declared.file.File.{File}
use Rattle.rules.specs.declared.item.Item.{Item}
use Rattle.rules.specs.Drive.{is_empty, user_byte, block_of}
use Rattle.rules.specs.Locks.{item_at, user_of, file_of, unpack, fresh_lock}
use Rattle.rules.specs.Call.{call}
use Rattle.rules.proofs.Sound.{SoundImage, sound_of, length_long}
use Rattle.rules.proofs.Items.{name_is}
use Rattle.rules.proofs.Frames.{Same}
use Rattle.rules.proofs.SoundList.{GoodOpen, GoodLock, Used, Vacant, is_plain, unpack_shape, user_fits}
use Rattle.soundness.proofs.Blocks.{At, at_of, blocks_same}
use Rattle.soundness.proofs.Kept.{SoundBoth, call_sound}
use Rattle.soundness.proofs.Left.{left}
use Rattle.history.specs.History.{Ask, State, Begun, outcome_of, lent}
use Rattle.history.specs.Held.{is_among}
use Rattle.history.specs.Groups.{Group, has_block}
use Rattle.history.specs.Demands.{Unchanged, is_under, FilesApart, ItemsApart}
use Rattle.history.proofs.Items.{alike_of}
use Rattle.history.proofs.Tallied.{listed_held}
use Rattle.history.proofs.Seen.{Seen}
use Rattle.history.proofs.Unharmed.{seen_left, unchanged}
use Rattle.history.proofs.Apart.{Others, others_left, items_left}
use Rattle.history.proofs.Grants.{image_sound, list_sound}
use Rattle.history.proofs.Run.{Inv}
use Rattle.history.proofs.Frame.{image_framed}

module _ (kind : Kind) (g : Begun kind) (s : State) (items : List Item) (groups : List Group) (i : Inv kind g s items groups) where
  abbrev sound : SoundImage kind s.image
  sound = image_sound kind g s items groups i

  -- 7: it changes no item of another process, ..
  pub items_kept : (q : Ask) → ItemsApart q.process (unpack s.list) (unpack (outcome_of (call kind) q s).left.list)
  unfolding outcome_of
  items_kept q = items_left kind q.process q.count (lent q s) _ _ (left kind q.function q.process q.count (lent q s)).list

  -- the state after a call
  next : (q : Ask) → SoundBoth kind (outcome_of (call kind) q s).left.list (outcome_of (call kind) q s).left.image
  unfolding outcome_of
  next q = call_sound kind q.function q.process q.count (lent q s) i.both

  user-of : (p : ℕ) → user_of (unpack s.list) p ≡ byte g.users p
  user-of p = ap (λ (us : List ℕ). byte us p) i.users

  long_after : (q : Ask) → length (outcome_of (call kind) q s).left.image ≡ length s.image
  unfolding outcome_of
  long_after q = image_framed kind q.process q.count (lent q s) _ (left kind q.function q.process q.count (lent q s)).image

  others : (q : Ask) → Others kind s.image (outcome_of (call kind) q s).left.image (user_of (unpack s.list) q.process)
  unfolding outcome_of
  others q = others_left kind q.process q.count (lent q s) sound _ (left kind q.function q.process q.count (lent q s)).image

  entry_part : (t : List ℕ) (e : ℕ) → e < entries kind → length t ≡ length s.image → Same s.image e t e → part (32 * e) 32 t ≡ part (32 * e) 32 s.image
  entry_part t e m long h =
      let w = length_long kind s.image sound.long in
      part_same s.image t (32 * e) 32 (omega arith) long (λ k l. h.at k l)

  -- .. and no file under another user
  pub files_kept : (q : Ask) (u : ℕ) → (byte g.users q.process ≡ u → ⊥) → FilesApart kind u s.image (outcome_of (call kind) q s).left.image
  unfolding is_under has_block
  files_kept q u n =
      let t = (outcome_of (call kind) q s).left.image in
      let v = user_of (unpack s.list) q.process in
      let w = others q in
      let after = sound_of kind t (next q).image_sound in
      let not-mine : (k : ℕ) → k ≡ v → k ≡ u → ⊥ = λ k a b. n (sym (user-of q.process) ∙ sym a ∙ b) in
      record {
        entry_same = λ e m c. ⊎_elim
            (λ (h : Same s.image e t e). entry_part t e m (long_after q) h)
            (λ (h : (is_empty s.image e ≡ false → user_byte s.image e ≡ v) × (is_empty t e ≡ false → user_byte t e ≡ v)).
            absurd (⊎_elim
            (λ (z : is_under u s.image e ≡ true). not-mine (user_byte s.image e) (h.0 (not-true _ (and_fst _ _ z))) (eqb-true _ _ (and_snd _ _ z)))
            (λ (z : is_under u t e ≡ true). not-mine (user_byte t e) (h.1 (not-true _ (and_fst _ _ z))) (eqb-true _ _ (and_snd _ _ z))) c))
            (w.entry e m);
        block_same = λ f r e l.
            let other : f.user ≡ v → ⊥ = λ z. not-mine f.user z e in
            blocks_same kind s.image t f r l sound after (λ b a. (w.forth f r b l other a).there) (λ b a. w.back f r b other a);
        bytes_same = λ f r e l some.
            let a = at_of kind s.image f r l (eqb-false _ _ (not-true _ some)) in
            (w.forth f r (block_of kind s.image f r) l (λ z. not-mine f.user z e) a).bytes;
      }

  -- 6: it does not change a record that another process has locked
  pub locked : (q : Ask) (p : ℕ) (name : List ℕ) (r : ℕ) → length name ≡ 11 → is_among (fresh_lock p name r) items ≡ true → (q.process ≡ p → ⊥)
      → Unchanged kind (byte g.users p) name r s.image (outcome_of (call kind) q s).left.image
  unfolding outcome_of is_plain
  locked q p name r long among n =
      let l = unpack s.list in
      let t = (call kind q.function q.process q.count (lent q s)).left.image in
      let f : File = record { user = byte g.users p; name = name } in
      let x = listed_held l items i.tallied (fresh_lock p name r) (λ (z : ◌≡◌ {A = ℕ} 2 0). absurd (omega arith)) among in
      let j = x.0 in
      let w = alike_of (fresh_lock p name r) (item_at l j) x.2 in
      let two : (item_at l j).kind ≡ 2 = sym w.kinds in
      let v : Used kind s.image l j =
      ⊎_elim (λ (v : Vacant l j). let z = v.kind_zero in absurd (omega arith)) (λ v. v) ((list_sound kind g s items groups i).place j x.1) in
      let k : GoodLock kind s.image l (item_at l j) =
      ⊎_elim (λ (o : GoodOpen kind s.image l (item_at l j)). let z = o.kind_one in absurd (omega arith)) (λ o. o) v.good in
      let nl = (unpack_shape s.list).names_long j x.1 in
      let en : (item_at l j).name ≡ name = sym (name_is name (item_at l j).name long nl w.names) in
      let eu : user_of l (item_at l j).process ≡ byte g.users p = ap (λ (z : ℕ). user_of l z) (sym w.processes) ∙ user-of p in
      let ef : file_of l (item_at l j) ≡ f = λ d. record { user = eu d; name = en d } in
      let er : (item_at l j).number ≡ r = sym w.numbers in
      let b = block_of kind s.image (file_of l (item_at l j)) (item_at l j).number in
      let at = at_of kind s.image (file_of l (item_at l j)) (item_at l j).number nl k.block in
      let seen =
      seen_left kind q.process q.count (lent q s) j x.1 (λ z. n (sym (w.processes ∙ z))) two sound b at _
      (left kind q.function q.process q.count (lent q s)).image in
      let pl = v.plain in
      let p15 : (item_at l j).process ≤ 15 = leb-true _ _ (and_fst _ _ pl) in
      let p16 : p ≤ 15 = (let z : p ≡ (item_at l j).process = w.processes in omega arith) in
      let at' = subst (λ (z : ℕ). At kind s.image f z b) er (subst (λ (h : File). At kind s.image h (item_at l j).number b) ef at) in
      let seen' = subst (λ (z : ℕ). Seen kind s.image t f z b) er (subst (λ (h : File). Seen kind s.image t h (item_at l j).number b) ef seen) in
      let after = (call_sound kind q.function q.process q.count (lent q s) i.both).image_sound in
      unchanged kind (byte g.users p) name r b s.image t sound (sound_of kind t after) i.both.image_sound after
      (rw (← (user-of p)) (user_fits l p (list_sound kind g s items groups i).limits (omega arith)))
      long (rw en at (and_fst _ _ (and_snd _ _ pl))) (rw en at (and_fst _ _ (and_snd _ _ (and_snd _ _ pl)))) at' seen'
