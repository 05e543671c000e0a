-- 34 and 40 record by record: each turn is the single call of its record. Assumes nothing.
use Rattle.std.proofs.Common.{◌≡◌, ℕ, suc, ◌+◌, ◌-◌, ◌*◌, ◌/◌, ◌<◌, ◌≤◌, Bool, true, false, leb, eqb, List, length, take, drop, Option, Some, refl, sym, ap, subst, ◌∙◌, ⊎_elim, add-one, arith, eq-eqb, ne_eqb, leb-false}
use Rattle.std.proofs.lemmas.Bool.{eqb-false}
use Rattle.std.proofs.Math.Seq.{take-length}
use Rattle.words.specs.Tests.{◌and◌, ◌or◌, ◌if◌else◌, lowest}
use Rattle.words.specs.Bytes.{part}
use Rattle.words.specs.Tables.{first_of, none_zero}
use Rattle.words.proofs.Tests.{either, equal?, lowest_holds, lowest_least}
use Rattle.words.proofs.Tables.{nonzeros, zero_none}
use Rattle.words.proofs.Bytes.{part_long}
use Rattle.rules.specs.declared.kind.Kind.{Kind}
use Rattle.rules.specs.declared.file.File.{File}
use Rattle.rules.specs.declared.list.LockList.{LockList}
use Rattle.rules.specs.declared.spot.Spot.{Spot}
use Rattle.rules.specs.declared.routine.Routine.{Routine}
use Rattle.rules.specs.Kinds.{most, entries}
use Rattle.rules.specs.Serves.{Buffers, Outcome, Did, buffers, outcome, chosen, is_unknown, with_image}
use Rattle.rules.specs.Drive.{blocks, good_length, entry_of, look_up, read_only, block_in, free_entry, free_block, sound_image}
use Rattle.rules.specs.Locks.{item_at, unpack, open_of, locked_by_other}
use Rattle.rules.specs.Asks.{caller_file, record_of}
use Rattle.rules.specs.Codes.{rows_may, rows_room, rows34, is_others}
use Rattle.rules.specs.Effects.{spot_at, stored, written, does34}
use Rattle.rules.specs.Call.{Ready, asked_by, rows_of, effect_of, call}
use Rattle.rules.specs.Several.{dma_at, single, back_at, run, several, told}
use Rattle.rules.specs.Vector.{vector_of}
use Rattle.rules.proofs.Sound.{SoundImage, sound_of, sound_length, length_long, length_few, found_is}
use Rattle.rules.proofs.Ends.{did_as, did_none}
use Rattle.rules.proofs.Singles.{Runs, is_write, is_zeros, dma_front, dma_still, asked_at, code_single, effect_single}
use Rattle.rules.proofs.Several.{code_at, several_none, several_more, stops_told, ends_told}
use Rattle.rules.proofs.Rows.{Passes34, passes_34}
use Rattle.directory.proofs.Runs.{known_none, known_more}
use Rattle.soundness.proofs.Blocks.{only, found_below}
use Rattle.soundness.specs.Taking.{taken_by}
use Rattle.soundness.proofs.Taken.{caller_long}
use Rattle.soundness.proofs.Vectors.{vector_written}
use Rattle.soundness.proofs.Written.{written_entry, written_first}
use Rattle.soundness.proofs.Kept.{SoundBoth, call_sound}
use Rattle.records.specs.By.{write_routine, OneDid, marked_by}
use Rattle.records.proofs.Writing.{may_by}
use Rattle.records.proofs.Marking.{file_there, marked_not, marked_so}
use Rattle.several.specs.So.{Asks, write_number, StopsAt, Writing}

-- ---- the record's bytes of the DMA

module _ (kind : Kind) (i : ℕ) (dma : List ℕ) (h : 128 * i + 128 ≤ length dma) where
  front_again : take 128 (part (128 * i) 128 dma) ≡ part (128 * i) 128 dma
  front_again =
      let n : length (part (128 * i) 128 dma) ≡ 128 = part_long dma (128 * i) 128 h in
      ap (λ (m : ℕ). take m (part (128 * i) 128 dma)) (sym n) ∙ take-length (part (128 * i) 128 dma)

  -- a record is written from the first 128 bytes alone
  written_front : (zeros : Bool) (w : Spot) (e₀ : ℕ) (f : File) (r : ℕ) (s : List ℕ)
      → written kind zeros w e₀ f r (dma_at i dma) s ≡ written kind zeros w e₀ f r (part (128 * i) 128 dma) s
  unfolding written stored
  written_front zeros w e₀ f r s = rw (dma_front i dma h, front_again) refl

-- the part that is lent for a record
pub lent_long : (dma : List ℕ) (i c : ℕ) → i < c → c ≤ 16 → length dma ≡ 2048 → 128 ≤ length (take (128 * i + 128 - 128 * i) (drop (128 * i) dma))
lent_long dma i c h g n₀ =
    let k : 128 * i + 128 - 128 * i ≡ 128 = omega arith in
    let n : length (part (128 * i) 128 dma) ≡ 128 = part_long dma (128 * i) 128 (omega arith) in
    rw k (omega arith)

-- a sound image has no more blocks than its kind of drive
pub few_of : (kind : Kind) (s : List ℕ) → sound_image kind s ≡ true → blocks kind s ≤ most kind
few_of kind s h = length_few kind s (sound_length kind s h)

-- ---- another's lock

module _ (l : LockList) (p : ℕ) (f : File) (r c i locked : ℕ) (is : locked ≡ lowest (is_others l p f r) c) (below : i < c) (so : i ≤ locked) where
  -- the record at distance i is locked by another exactly where it is the first that is
  locked_here : eqb i locked ≡ locked_by_other l p f (r + i)
  unfolding is_others
  locked_here =
      ⊎_elim
      (λ (q : i ≡ locked).
      let g : lowest (is_others l p f r) c ≡ i = sym (q ∙ is) in
      eq-eqb i locked q ∙ sym (subst (λ (k : ℕ). is_others l p f r k ≡ true) g (lowest_holds (is_others l p f r) c (omega arith))))
      (λ (q : i ≡ locked → ⊥). ne_eqb i locked q ∙ sym (lowest_least (is_others l p f r) c i (let e = is in omega arith)))
      (equal? i locked)

-- ---- no row of the table applies

module _ (kind : Kind) (p : ℕ) (l : LockList) (o : ℕ) (f : File) (e₀ e r : ℕ) (s : List ℕ) where
  real_34 : none_zero (rows34 kind p l o f e₀ e r s) ≡ true
  unfolding rows34 rows_may rows_room
  real_34 = search nonzeros depth 20 fits 20000

  passing : first_of (rows34 kind p l o f e₀ e r s) ≡ 0 → Passes34 kind p l o f e₀ e r s
  passing z = passes_34 kind p l o f e₀ e r s (zero_none (rows34 kind p l o f e₀ e r s) real_34 z)

-- ---- a turn

write_chosen : (zeros : Bool) → chosen (write_number zeros) ≡ Some (write_routine zeros)
unfolding chosen ◌if◌else◌ write_number
write_chosen false = refl
write_chosen true = refl

write_runs : (zeros : Bool) → Runs (Some (write_routine zeros))
write_runs false = is_write
write_runs true = is_zeros

module _ (kind : Kind) (zeros : Bool) (p c : ℕ) (f : File) (e₀ o r locked : ℕ) (b : Buffers) (a : Asks kind (write_number zeros) p c f o r b) (i e₁ : ℕ)
    (s : List ℕ) (w : Writing kind zeros p f e₀ r locked b i e₁ s) (below : i < c) where
  abbrev n : ℕ
  n = write_number zeros

  abbrev l : LockList
  l = unpack b.list

  abbrev b' : Buffers
  b' = with_image b s

  abbrev ok : Ready kind b
  ok = a.ready

  abbrev q : ℕ
  q = r + i

  abbrev v : List ℕ
  v = part (128 * i) 128 b.dma

  room : 128 * i + 128 ≤ length b.dma
  room = let k = a.run_fits in let m = ok.dma_long in omega arith

  long : good_length kind s ≡ true
  long = sound_length kind s w.image_sound

  again : Ready kind b'
  again = record {
    fcb_long = ok.fcb_long;
    dma_long = ok.dma_long;
    list_long = ok.list_long;
    image_long = length_long kind s long;
    blocks_few = length_few kind s long;
    image_sound = w.image_sound;
    list_sound = w.list_sound;
  }

  runs : Runs (chosen n)
  runs = rw (write_chosen zeros) (write_runs zeros)

  known : is_unknown (chosen n) ≡ false
  unfolding is_unknown
  known = ap is_unknown (write_chosen zeros)

  -- the single call of this record is 34's table and effect on what was found
  module _ (e : ℕ) (he : e ≡ entry_of kind s f (q / 128)) where
    table : (z : Bool) → first_of (rows_of (Some (write_routine z)) (asked_at kind p i b') b') ≡ first_of
        (rows34 kind p l (open_of l p (caller_file p l b.fcb)) (caller_file p l b.fcb) (entry_of kind s (caller_file p l b.fcb) 0)
        (entry_of kind s (caller_file p l b.fcb) ((record_of b.fcb + i) / 128)) (record_of b.fcb + i) s)
    unfolding rows_of asked_by look_up
    table false = refl
    table true = refl

    rows_found : first_of (rows_of (chosen n) (asked_at kind p i b') b') ≡ first_of (rows34 kind p l o f e₀ e q s)
    rows_found =
        ap (λ (k : Option Routine). first_of (rows_of k (asked_at kind p i b') b')) (write_chosen zeros)
        ∙ table zeros
        ∙ ap (λ (g : File). first_of (rows34 kind p l (open_of l p g) g (entry_of kind s g 0) (entry_of kind s g ((record_of b.fcb + i) / 128))
        (record_of b.fcb + i) s)) (sym a.file)
        ∙ ap (λ (m : ℕ). first_of (rows34 kind p l (open_of l p f) f (entry_of kind s f 0) (entry_of kind s f ((m + i) / 128)) (m + i) s)) (sym a.number)
        ∙ ap (λ (m : ℕ). first_of (rows34 kind p l m f (entry_of kind s f 0) (entry_of kind s f (q / 128)) q s)) (sym a.place)
        ∙ ap (λ (m : ℕ). first_of (rows34 kind p l o f m (entry_of kind s f (q / 128)) q s)) (sym w.first)
        ∙ ap (λ (m : ℕ). first_of (rows34 kind p l o f e₀ m q s)) (sym he)

    effects : (z : Bool) → effect_of (Some (write_routine z)) (asked_at kind p i b') (single i b') ≡ does34 kind z (caller_file p l b.fcb)
        (entry_of kind s (caller_file p l b.fcb) 0) (entry_of kind s (caller_file p l b.fcb) ((record_of b.fcb + i) / 128)) (record_of b.fcb + i)
        (single i b')
    unfolding effect_of asked_by look_up
    effects false = refl
    effects true = refl

    effect_found : effect_of (chosen n) (asked_at kind p i b') (single i b') ≡ does34 kind zeros f e₀ e q (single i b')
    effect_found =
        ap (λ (k : Option Routine). effect_of k (asked_at kind p i b') (single i b')) (write_chosen zeros)
        ∙ effects zeros
        ∙ ap (λ (g : File). does34 kind zeros g (entry_of kind s g 0) (entry_of kind s g ((record_of b.fcb + i) / 128)) (record_of b.fcb + i) (single i b'))
        (sym a.file)
        ∙ ap (λ (m : ℕ). does34 kind zeros f (entry_of kind s f 0) (entry_of kind s f ((m + i) / 128)) (m + i) (single i b')) (sym a.number)
        ∙ ap (λ (m : ℕ). does34 kind zeros f m (entry_of kind s f (q / 128)) q (single i b')) (sym w.first)
        ∙ ap (λ (m : ℕ). does34 kind zeros f e₀ m q (single i b')) (sym he)

    module _ (code : ℕ) (hc : code ≡ first_of (rows34 kind p l o f e₀ e q s)) where
      code_is : code_at kind n p i b' ≡ code
      code_is = code_single kind n p i b' again known a.process_fits a.drive room runs ∙ rows_found ∙ sym hc

      module _ (z : code ≡ 0) where
        abbrev t : List ℕ
        t = written kind zeros (spot_at kind s e q) e₀ f q v s

        done : call kind n p 1 (single i b') ≡ does34 kind zeros f e₀ e q (single i b')
        done = effect_single kind n p i b' again known a.process_fits a.drive room runs (rows_found ∙ sym hc ∙ z) ∙ effect_found

        front : written kind zeros (spot_at kind s e q) e₀ f q (dma_at i b.dma) s ≡ t
        front = written_front kind i b.dma room zeros (spot_at kind s e q) e₀ f q s

        turn_writes : several kind n p (suc i) b ≡ run 0 (suc i) (with_image b t)
        unfolding back_at single does34
        turn_writes =
            several_more kind n p i b b' w.so_far (code_is ∙ z)
            ∙ ap (λ (x : Outcome). run 0 (suc i) (back_at i b' x.left)) done
            ∙ ap (λ (d : List ℕ). run 0 (suc i) (buffers b.fcb d b.list (written kind zeros (spot_at kind s e q) e₀ f q (dma_at i b.dma) s)))
            (dma_still i b.dma room)
            ∙ ap (λ (d : List ℕ). run 0 (suc i) (with_image b d)) front

        both : SoundBoth kind b.list t
        unfolding single does34
        both =
            let k = call_sound kind n p 1 (single i b') (record { image_sound = w.image_sound; list_long = ok.list_long; list_sound = w.list_sound }) in
            let m : SoundBoth kind b.list (written kind zeros (spot_at kind s e q) e₀ f q (dma_at i b.dma) s) = subst
            (λ (y : Outcome). SoundBoth kind y.left.list y.left.image) done k in
            subst (λ (y : List ℕ). SoundBoth kind b.list y) front m

        passes : Passes34 kind p l o f e₀ e q s
        passes = passing kind p l o f e₀ e q s (sym hc ∙ z)

        named : length f.name ≡ 11
        named = rw a.file (caller_long p l b.fcb)

        -- the file is on the image, since the caller has it open
        there : entry_of kind s f 0 < entries kind
        there = let m = passes.may.is_open in rw a.file (file_there kind p s b.list b.fcb w.list_sound (rw (a.place, a.file) at m))

        -- as the laws of writing have it
        abbrev here : ℕ
        here = entry_of kind s f (q / 128)

        abbrev t₀ : List ℕ
        t₀ = written kind zeros (spot_at kind s here q) (entry_of kind s f 0) f q v s

        same : t ≡ t₀
        same = ap (λ (y : ℕ). written kind zeros (spot_at kind s y q) e₀ f q v s) he
            ∙ ap (λ (y : ℕ). written kind zeros (spot_at kind s here q) y f q v s) w.first

        sound₀ : SoundImage kind t₀
        sound₀ = sound_of kind t₀ (subst (λ (y : List ℕ). SoundBoth kind b.list y) same both).image_sound

        full : 128 ≤ length v
        full = let k : length v ≡ 128 = part_long b.dma (128 * i) 128 room in omega arith

        room₀ : (leb (entries kind) here and leb (entries kind) (free_entry kind s)) ≡ false
        room₀ = rw he at passes.room.entry_room

        block₀ : (eqb (block_in kind s here q) 0 and leb (blocks kind s) (free_block kind s)) ≡ false
        block₀ = rw he at passes.room.block_room

        spot_below : (spot_at kind s here q).entry < entries kind
        unfolding spot_at ◌if◌else◌ ◌and◌
        spot_below =
            ⊎_elim (λ (y : leb (entries kind) here ≡ true). rw y (leb-false (entries kind) _ (rw y at room₀)))
            (λ (y : leb (entries kind) here ≡ false). ⊎_elim
            (λ (u : eqb (block_in kind s here q) 0 ≡ true). rw (y, u) (leb-false (entries kind) here y))
            (λ (u : eqb (block_in kind s here q) 0 ≡ false). rw (y, u) (leb-false (entries kind) here y)) (either (eqb (block_in kind s here q) 0)))
            (either (leb (entries kind) here))

        at_spot : entry_of kind t₀ f (q / 128) ≡ (spot_at kind s here q).entry
        at_spot =
            let is = written_entry kind zeros s f q v (sound_of kind s w.image_sound) named
            (let k = passes.may.fits in omega arith) there full room₀ block₀ in
            let k = found_below kind t₀ f (q / 128) (spot_at kind s here q).entry spot_below is in
            only kind t₀ f (q / 128) (entry_of kind t₀ f (q / 128)) (spot_at kind s here q).entry sound₀.files k spot_below
            (found_is kind t₀ f (q / 128) named k) is

        at_first : entry_of kind t₀ f 0 ≡ entry_of kind s f 0
        at_first =
            let is = written_first kind zeros s f q v (sound_of kind s w.image_sound) named
            (let k = passes.may.fits in omega arith) there full room₀ block₀ in
            let k = found_below kind t₀ f 0 (entry_of kind s f 0) there is in
            only kind t₀ f 0 (entry_of kind t₀ f 0) (entry_of kind s f 0) sound₀.files k there (found_is kind t₀ f 0 named k) is

        first_still : e₀ ≡ entry_of kind t f 0
        first_still = w.first ∙ sym at_first ∙ ap (λ (y : List ℕ). entry_of kind y f 0) (sym same)

        entry_now : (spot_at kind s e q).entry ≡ entry_of kind t f (q / 128)
        entry_now = ap (λ (y : ℕ). (spot_at kind s y q).entry) he ∙ sym at_spot ∙ ap (λ (y : List ℕ). entry_of kind y f (q / 128)) (sym same)

        -- the vector of what it leaves
        vector_now : vector_of kind t ≡ taken_by (spot_at kind s e q) (vector_of kind s)
        vector_now =
            ap (λ (y : List ℕ). vector_of kind y) same
            ∙ vector_written kind zeros s f q v (sound_of kind s w.image_sound) named passes.may.fits there full room₀ block₀
            ∙ ap (λ (y : ℕ). taken_by (spot_at kind s y q) (vector_of kind s)) (sym he)

-- ---- the loop

pub writing_none : (kind : Kind) (zeros : Bool) (p c : ℕ) (f : File) (e₀ o r locked : ℕ) (b : Buffers) → Asks kind (write_number zeros) p c f o r b
    → e₀ ≡ entry_of kind b.image f 0 → Writing kind zeros p f e₀ r locked b 0 0 b.image
writing_none kind zeros p c f e₀ o r locked b a h = record {
  so_far = several_none kind (write_number zeros) p b;
  long = refl;
  image_sound = a.ready.image_sound;
  list_sound = a.ready.list_sound;
  first = h;
  unlocked = omega arith;
  known = known_none kind b.image f r;
}

module _ (kind : Kind) (zeros : Bool) (p c : ℕ) (f : File) (e₀ o r mode locked : ℕ) (b : Buffers) (x : StopsAt (unpack b.list) p f o r c mode locked)
    (a : Asks kind (write_number zeros) p c f o r b) (i e₁ : ℕ) (s : List ℕ) (w : Writing kind zeros p f e₀ r locked b i e₁ s) where
  -- u and j: the entry that was read, the file's extent 0
  module _ (below : i < c) (e : ℕ) (stopped : Bool) (code entry : ℕ) (t : List ℕ) (he : e ≡ entry_of kind s f ((r + i) / 128))
      (u : List ℕ) (j : ℕ) (hu : u ≡ s) (hj : j ≡ e₀) (hs : stopped ≡ (read_only u j or eqb mode 2))
      (d : OneDid kind zeros o stopped (eqb i locked) f e₀ e (r + i) (take (128 * i + 128 - 128 * i) (drop (128 * i) b.dma)) s code entry t) where
    locked_so : eqb i locked ≡ locked_by_other (unpack b.list) p f (r + i)
    locked_so = locked_here (unpack b.list) p f r c i locked x.locked_is below w.unlocked

    stops_so : stopped ≡ (read_only s e₀ or eqb (item_at (unpack b.list) o).mode 2)
    stops_so = rw (hu, hj) at hs ∙ ap (λ (m : ℕ). read_only s e₀ or eqb m 2) x.mode_is

    coded : code ≡ first_of (rows34 kind p (unpack b.list) o f e₀ e (r + i) s)
    unfolding rows34
    coded = rw (← may_by kind p (unpack b.list) o f e₀ (r + i) s, ← stops_so, ← locked_so) d.gives

    wrote : code ≡ 0 → t ≡ written kind zeros (spot_at kind s e (r + i)) e₀ f (r + i) (part (128 * i) 128 b.dma) s
    wrote z = let k : 128 * i + 128 - 128 * i ≡ 128 = omega arith in rw k at (d.wrote z)

    -- one more
    pub writing_more : code ≡ 0 → length t ≡ length s → Writing kind zeros p f e₀ r locked b (i + 1) entry t
    writing_more z n =
        let g = wrote z in
        let y = subst (λ (m : List ℕ). SoundBoth kind b.list m) (sym g) (both kind zeros p c f e₀ o r locked b a i e₁ s w below e he code coded z) in
        let not-here : i ≡ locked → ⊥ = eqb-false i locked (locked_so
        ∙ (passes kind zeros p c f e₀ o r locked b a i e₁ s w below e he code coded z).may.none_others) in
        let u = w.unlocked in
        record {
          so_far = rw add-one (turn_writes kind zeros p c f e₀ o r locked b a i e₁ s w below e he code coded z
              ∙ ap (λ (m : List ℕ). run 0 (suc i) (with_image b m)) (sym g));
          long = n ∙ w.long;
          image_sound = y.image_sound;
          list_sound = y.list_sound;
          first = first_still kind zeros p c f e₀ o r locked b a i e₁ s w below e he code coded z ∙ ap (λ (m : List ℕ). entry_of kind m f 0) (sym g);
          unlocked = omega arith;
          known = known_more kind t f r i entry (d.at z ∙ entry_now kind zeros p c f e₀ o r locked b a i e₁ s w below e he code coded z
              ∙ ap (λ (m : List ℕ). entry_of kind m f ((r + i) / 128)) (sym g)) d.within;
        }

    -- the vector is that of the image left
    pub writing_vector : (u v : List ℕ) → u ≡ vector_of kind s → v ≡ marked_by code (spot_at kind s e (r + i)) u → v ≡ vector_of kind t
    writing_vector u v hu hv =
        ⊎_elim
        (λ (z : code ≡ 0).
        rw (z, hu) at hv ∙ marked_so (spot_at kind s e (r + i)) (vector_of kind s)
        ∙ sym (vector_now kind zeros p c f e₀ o r locked b a i e₁ s w below e he code coded z) ∙ ap (λ (y : List ℕ). vector_of kind y) (sym (wrote z)))
        (λ (z : code ≡ 0 → ⊥).
        hv ∙ marked_not code (spot_at kind s e (r + i)) u (omega arith) ∙ hu ∙ ap (λ (y : List ℕ). vector_of kind y) (sym (d.kept z)))
        (equal? code 0)

    -- the first refusal stops the call
    pub writing_stops : (own answer : ℕ) → own ≡ code → 0 < code → answer ≡ own + 4096 * i
        → Did (told (several kind (write_number zeros) p c b)) answer (with_image b t)
    writing_stops own answer q n y =
        let ha : answer ≡ code + 4096 * i = y ∙ ap (λ (x : ℕ). x + 4096 * i) q in
        let k = code_is kind zeros p c f e₀ o r locked b a i e₁ s w below e he code coded in
        let g : told (several kind (write_number zeros) p c b) ≡ outcome answer (with_image b s) = stops_told kind (write_number zeros) p b (with_image b s) i c
        w.so_far (λ z. let y : code ≡ 0 = sym k ∙ z in omega arith) below
        ∙ ap (λ (m : ℕ). outcome m (with_image b s)) (ap (λ (m : ℕ). m + 4096 * i) k ∙ sym ha) in
        rw (d.kept (λ z. omega arith)) (did_as _ _ answer _ (sym g) (did_none answer (with_image b s)))

  -- all went well
  pub writing_ends : c ≤ i → i ≤ c → Did (told (several kind (write_number zeros) p c b)) 0 (with_image b s)
  writing_ends g h = did_as _ _ 0 _ (sym (ends_told kind (write_number zeros) p b (with_image b s) i c w.so_far g h)) (did_none 0 (with_image b s))

-- ---- what the call has found of the list

pub stops_at : (list : List ℕ) (l : LockList) (p : ℕ) (f : File) (o r c mode locked : ℕ) → l ≡ unpack list → mode ≡ (item_at l o).mode
    → locked ≡ lowest (is_others l p f r) c → StopsAt (unpack list) p f o r c mode locked
stops_at list l p f o r c mode locked hl hm hk = record {
  mode_is = hm ∙ ap (λ (m : LockList). (item_at m o).mode) hl;
  locked_is = hk ∙ ap (λ (m : LockList). lowest (is_others m p f r) c) hl;
}
