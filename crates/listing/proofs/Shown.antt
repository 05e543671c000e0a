-- One 17, then 18s: what they show is the matching entries. Assumes nothing.
use Prim.Native.Nat.{ℕ, zero, suc, ◌+◌, ◌*◌, ◌/◌, ◌%◌, ◌≤◌, ◌<◌}
use mathlib.Core.Path.{◌≡◌, refl, sym, ap, ◌∙◌}
use mathlib.Core.Bool.{Bool, true, false, not}
use mathlib.Core.List.{List, [], ◌∷◌, map}
use mathlib.Core.Logic.{⊎_elim}
use native.Mathlib.Omega.{arith}
use lib.ListN.{length}
use lib.Dec.{leb, eqb}
use borrow.Author.Tests.{le-leb, lt-leb, leb-true, leb-false, ne_eqb}
use Rattle.words.specs.Tests.{◌and◌, ◌if◌else◌, lowest}
use Rattle.words.specs.Lists.{passing}
use Rattle.words.specs.Bytes.{byte, part, put}
use Rattle.words.specs.Tables.{any_row}
use Rattle.words.proofs.Tests.{either, and_fst, lowest_holds, lowest_least, lowest_over}
use Rattle.words.proofs.Sets.{or_none, and_left}
use Rattle.words.proofs.Bytes.{part_long, part-byte, part_alike, put_in, length-put}
use Rattle.words.proofs.Passing.{passing_none, passing_first, passing_ext}
use Rattle.rules.specs.declared.kind.Kind.{Kind}
use Rattle.rules.specs.Kinds.{entries}
use Rattle.rules.specs.declared.list.LockList.{LockList}
use Rattle.rules.specs.declared.routine.Routine.TheVariants.{SearchFirst}
use Rattle.std.specs.Prelude.{Some}
use Rattle.rules.specs.Serves.{Buffers, buffers, chosen, is_unknown}
use Rattle.rules.specs.Drive.{sound_image}
use Rattle.rules.specs.Locks.{moved_to, pack, user_of, position_of}
use Rattle.rules.specs.Codes.{bad_drive, rows_inside, rows_all}
use Rattle.rules.specs.Effects.{is_match, is_match_from, match_from, searched, finds, finds_none, does17, does18}
use Rattle.rules.specs.Call.{asked, asked_by, rows_of, effect_of, rows_call, call}
use Rattle.rules.proofs.Tables.{accepted}
use Rattle.rules.proofs.Packing.{pack_long}
use Rattle.rules.proofs.Sound.{sound_length, length_long}
use Rattle.rules.proofs.Sizes.{record_in}
use Rattle.rules.proofs.SoundList.{Shape, unpacked, list_sound_so}
use Rattle.rules.proofs.Passed.{drive_good, numbers_good}
use Rattle.soundness.proofs.Leaves.{list_of}
use Rattle.soundness.proofs.Ends.{shape_of, list-of}
use Rattle.soundness.proofs.Shapes.{SoundShape, moved_on}
use Rattle.soundness.proofs.Moved.{moved_here}
use Rattle.soundness.proofs.Walk.{accepted_as, split}
use Rattle.listing.specs.Listing.{shown_by, shown_from, entry_in, matching, ShowsMatching}

-- ---- the entries from one on that match

module _ (user : ℕ) (fcb s : List ℕ) (n : ℕ) where
  -- none from x on
  none_from : (x : ℕ) → n ≤ lowest (is_match_from x user fcb s) n → passing (is_match_from x user fcb s) n ≡ []
  none_from x h = passing_none (is_match_from x user fcb s) n (λ i l. lowest_over (is_match_from x user fcb s) n i h l)

  -- the first from x on passes, and is not before x
  first_passes : (x e : ℕ) → e ≡ lowest (is_match_from x user fcb s) n → e < n → is_match_from x user fcb s e ≡ true
  first_passes x e h m = rw (← h) at (lowest_holds (is_match_from x user fcb s) n (rw (← h) m))

  first_up : (x e : ℕ) → e ≡ lowest (is_match_from x user fcb s) n → e < n → x ≤ e
  unfolding is_match_from
  first_up x e h m = leb-true x e (and_fst _ _ (first_passes x e h m))

  -- the first from x on, and those after it
  first_from : (x e : ℕ) → e ≡ lowest (is_match_from x user fcb s) n → e < n
      → passing (is_match_from x user fcb s) n ≡ e ∷ passing (is_match_from (e + 1) user fcb s) n
  unfolding is_match_from
  first_from x e h m =
      let up = first_up x e h m in
      passing_first (is_match_from x user fcb s) (is_match_from (e + 1) user fcb s) e n m (first_passes x e h m)
      (λ i l. lowest_least (is_match_from x user fcb s) n i (rw (← h) l))
      (λ i l. and_left _ _ (lt-leb (e + 1) i (omega arith)))
      (λ i l. ap (λ (t : Bool). t and is_match user fcb s i) (le-leb (e + 1) i (omega arith) ∙ sym (le-leb x i (omega arith))))

  -- from 0 on all of them
  all_from : passing (is_match_from 0 user fcb s) n ≡ passing (is_match user fcb s) n
  unfolding is_match_from ◌and◌
  all_from = passing_ext (is_match_from 0 user fcb s) (is_match user fcb s) n (λ i l. rw (le-leb 0 i (omega arith)))

-- ---- what a find shows

-- the 32 bytes at 32·A of the directory record with an entry are the entry
entry_shown : (s dma : List ℕ) (e : ℕ) → 32 * e + 32 ≤ length s → 128 * (e / 4) + 128 ≤ length s → length dma ≡ 2048
    → part (32 * (e % 4)) 32 (put 0 (part (128 * (e / 4)) 128 s) dma) ≡ part (32 * e) 32 s
entry_shown s dma e low record-low long =
    let v = part (128 * (e / 4)) 128 s in
    let w : length v ≡ 128 = part_long s (128 * (e / 4)) 128 record-low in
    let room : 0 + length v ≤ length dma = omega arith in
    let y = length-put 0 v dma room in
    part_alike s (put 0 v dma) (32 * e) (32 * (e % 4)) 32 low (omega arith)
    (λ k l. ap (byte (put 0 v dma)) (let z : 32 * (e % 4) + k ≡ 0 + (32 * (e % 4) + k) = omega arith in z)
    ∙ put_in 0 v dma room (32 * (e % 4) + k) (omega arith) ∙ part-byte s (128 * (e / 4)) 128 (32 * (e % 4) + k) (omega arith)
    ∙ ap (byte s) (let z : 128 * (e / 4) + (32 * (e % 4) + k) ≡ 32 * e + k = omega arith in z))

-- ---- 18 on what a search left

module _ (kind : Kind) (p c : ℕ) (fcb s : List ℕ) (few : p < 16) (one : 1 ≤ c) (most : c ≤ 16) (sound : sound_image kind s ≡ true) (full : length fcb ≡ 36)
    (drive : bad_drive 18 fcb ≡ false) where
  abbrev lent : List ℕ → LockList → Buffers
  lent dma l = buffers fcb dma (pack l) s

  -- no row refuses it, ..
  none_refuses : (dma : List ℕ) (l : LockList) → length dma ≡ 2048 → SoundShape kind l s → any_row (rows_call kind 18 p c (lent dma l)) ≡ false
  unfolding rows_call rows_all rows_inside rows_of chosen is_unknown any_row ◌if◌else◌
  none_refuses dma l long h =
      or_none _ _ (numbers_good 18 p c fcb dma (pack l) (record {
        known = refl;
        process_fits = few;
        run_some = one;
        run_fits = most;
        fcb_long = full;
        dma_long = long;
        list_long = pack_long l h.shape.items_long;
      }))
      (or_none _ _ (ap not sound) (or_none _ _ (ap not (list_sound_so kind l s h.sound h.shape)) (or_none _ _ drive refl)))

  -- .. so it searches from the position on
  goes_on : (dma : List ℕ) (l : LockList) → length dma ≡ 2048 → SoundShape kind l s
      → call kind 18 p c (lent dma l) ≡ searched kind p l (match_from kind (position_of l p) (user_of l p) fcb s) (lent dma l)
  unfolding effect_of chosen asked asked_by does18 ◌if◌else◌
  goes_on dma l long h =
      accepted kind 18 p c (lent dma l) (none_refuses dma l long h)
      ∙ ap (λ (k : LockList). searched kind p k (match_from kind (position_of k p) (user_of k p) fcb s) (lent dma l)) (unpacked kind l s h.sound h.shape)

  -- the list that a find leaves has the same user, and its search goes on after the entry
  moved_user : (l : LockList) (e : ℕ) → user_of (moved_to p e l) p ≡ user_of l p
  unfolding moved_to
  moved_user l e = refl

  from_next : (l : LockList) (e user : ℕ) → Shape l → user_of l p ≡ user
      → match_from kind (position_of (moved_to p e l) p) (user_of (moved_to p e l) p) fcb s ≡ match_from kind e user fcb s
  from_next l e user h u =
      ap (λ (x : ℕ). match_from kind x (user_of (moved_to p e l) p) fcb s) (moved_here l p e h few)
      ∙ ap (λ (x : ℕ). match_from kind e x fcb s) (moved_user l e ∙ u)

  -- no match from x on: nothing is shown
  found_none : (calls x e : ℕ) (dma list : List ℕ) (l : LockList) (user : ℕ) → e ≡ match_from kind x user fcb s → entries kind ≤ e
      → shown_from kind p c (suc calls) (searched kind p l e (buffers fcb dma list s)) ≡ map (entry_in s) (passing (is_match_from x user fcb s) (entries kind))
  unfolding shown_from searched finds_none match_from ◌if◌else◌
  found_none calls x e dma list l user q m =
      rw (le-leb _ _ m) (sym (ap (map (entry_in s)) (none_from user fcb s (entries kind) x (omega arith))))

  -- e is the first: it is shown, and then what the next 18s show
  found_one : (calls x e : ℕ) (dma list : List ℕ) (l : LockList) (user : ℕ) → e ≡ match_from kind x user fcb s → e < entries kind → length dma ≡ 2048
      → shown_from kind p c calls (call kind 18 p c (lent (put 0 (part (128 * (e / 4)) 128 s) dma) (moved_to p (e + 1) l)))
      ≡ map (entry_in s) (passing (is_match_from (e + 1) user fcb s) (entries kind))
      → shown_from kind p c (suc calls) (searched kind p l e (buffers fcb dma list s)) ≡ map (entry_in s) (passing (is_match_from x user fcb s) (entries kind))
  unfolding shown_from shown_by entry_in searched finds match_from ◌if◌else◌
  found_one calls x e dma list l user q m long rest =
      let z : leb (entries kind) e ≡ false = lt-leb _ _ m in
      let y : eqb (e % 4) 255 ≡ false = ne_eqb _ _ (λ (w : e % 4 ≡ 255). omega arith) in
      let room = length_long kind s (sound_length kind s sound) in
      let deep = record_in kind e m in
      rw (z, y)
      (ap (λ (v : List ℕ). v ∷ shown_from kind p c calls (call kind 18 p c (lent (put 0 (part (128 * (e / 4)) 128 s) dma) (moved_to p (e + 1) l))))
      (entry_shown s dma e (omega arith) (omega arith) long)
      ∙ ap (λ (vs : List (List ℕ)). part (32 * e) 32 s ∷ vs) rest ∙ sym (ap (map (entry_in s)) (first_from user fcb s (entries kind) x e q m)))

  -- a search from x on, by a list whose process has that user, shows the matches from x on
  shown-from : (calls x : ℕ) (dma list : List ℕ) (l : LockList) (user : ℕ) → x ≤ entries kind → entries kind < calls + x → length dma ≡ 2048
      → SoundShape kind l s → user_of l p ≡ user
      → shown_from kind p c calls (searched kind p l (match_from kind x user fcb s) (buffers fcb dma list s))
      ≡ map (entry_in s) (passing (is_match_from x user fcb s) (entries kind))
  shown-from zero x dma list l user low enough long h u = absurd (omega arith)
  shown-from (suc calls) x dma list l user low enough long h u =
      let e = match_from kind x user fcb s in
      ⊎_elim
      (λ (z : leb (entries kind) e ≡ true). found_none calls x e dma list l user refl (leb-true _ _ z))
      (λ (z : leb (entries kind) e ≡ false).
      let m : e < entries kind = leb-false _ _ z in
      let up : x ≤ e = unfold match_from in first_up user fcb s (entries kind) x e refl m in
      let next = moved_on kind p l s (e + 1) (omega arith) h in
      let room = length_long kind s (sound_length kind s sound) in
      let deep = record_in kind e m in
      let v = part (128 * (e / 4)) 128 s in
      let fits : length v ≡ 128 = part_long s (128 * (e / 4)) 128 (omega arith) in
      let wide : length (put 0 v dma) ≡ 2048 = length-put 0 v dma (omega arith) ∙ long in
      found_one calls x e dma list l user refl m long
      (ap (shown_from kind p c calls) (goes_on (put 0 v dma) (moved_to p (e + 1) l) wide next
      ∙ ap (λ (y : ℕ). searched kind p (moved_to p (e + 1) l) y (lent (put 0 v dma) (moved_to p (e + 1) l)))
      (from_next l (e + 1) user h.shape u))
      ∙ shown-from calls (e + 1) _ _ (moved_to p (e + 1) l) user (omega arith) (omega arith) wide next (moved_user l (e + 1) ∙ u)))
      (either (leb (entries kind) e))

-- ---- the whole listing

-- one 17 that no row refuses, then 18s: the matching entries, each once, in rising order
pub lists_matching : (kind : Kind) (p c : ℕ) (b : Buffers) → any_row (rows_call kind 17 p c b) ≡ false → ShowsMatching kind p c b
unfolding ShowsMatching effect_of chosen asked asked_by does17 bad_drive ◌if◌else◌
lists_matching kind p c b h calls enough =
    let a = accepted_as kind 17 p c b (Some SearchFirst) refl h in
    let ready = a.ok.ready in
    let drive : bad_drive 18 b.fcb ≡ false = drive_good kind 17 p c b (split kind 17 p c b h).0 in
    let l : SoundShape kind (list_of b) b.image = record { shape = shape_of kind p c b a.ok; sound = list-of kind p c b a.ok } in
    ap (shown_from kind p c calls) a.did
    ∙ shown-from kind p c b.fcb b.image a.ok.process_fits a.ok.run_some a.ok.run_fits ready.image_sound ready.fcb_long drive
    calls 0 b.dma b.list (list_of b) (user_of (list_of b) p) (omega arith) (omega arith) ready.dma_long l refl
    ∙ unfold matching in ap (map (entry_in b.image)) (all_from (user_of (list_of b) p) b.fcb b.image (entries kind))
