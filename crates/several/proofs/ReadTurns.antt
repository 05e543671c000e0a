-- 33 record by record: each turn is the single call of its record. Assumes nothing.
use Rattle.std.proofs.Common.{◌≡◌, ℕ, suc, ◌+◌, ◌*◌, ◌/◌, ◌<◌, ◌≤◌, false, List, length, Option, Some, refl, sym, ap, ◌∙◌, add-one, arith, eq-eqb}
use Rattle.words.specs.Tests.{◌if◌else◌}
use Rattle.words.specs.Tables.{first_of}
use Rattle.rules.specs.declared.kind.Kind.{Kind}
use Rattle.rules.specs.declared.code.Refusal.{Refusal}
use Rattle.rules.specs.declared.file.File.{File}
use Rattle.rules.specs.declared.list.LockList.{LockList}
use Rattle.rules.specs.declared.routine.Routine.{Routine}
use Rattle.rules.specs.declared.routine.Routine.TheVariants.{Read}
use Rattle.rules.specs.Refusals.{code_of}
use Rattle.rules.specs.Kinds.{entries}
use Rattle.rules.specs.Serves.{Buffers, Outcome, Did, outcome, chosen, is_unknown, with_dma}
use Rattle.rules.specs.Drive.{entry_of, block_in}
use Rattle.rules.specs.Locks.{unpack, open_of}
use Rattle.rules.specs.Asks.{caller_file, record_of}
use Rattle.rules.specs.Codes.{bad_drive, rows33}
use Rattle.rules.specs.Effects.{contents, does33}
use Rattle.rules.specs.Call.{Ready, asked_by, rows_of, effect_of}
use Rattle.rules.specs.Several.{single, back_at, run, several, told}
use Rattle.rules.proofs.Room.{read_room, contents_long}
use Rattle.rules.proofs.Ends.{did_as, did_none}
use Rattle.rules.proofs.Singles.{Runs, is_read, dma_back, asked_at, code_single, effect_single}
use Rattle.rules.proofs.Several.{code_at, several_none, several_more, stops_told, ends_told}
use Rattle.directory.proofs.Runs.{known_none, known_more}
use Rattle.records.specs.By.{read_at}
use Rattle.records.proofs.Reading.{read_at-refused}
use Rattle.rules.proofs.Refused.{code_above}
use Rattle.several.specs.So.{Asks, Reading}

-- ---- a turn

module _ (kind : Kind) (p c : ℕ) (f : File) (o r : ℕ) (b : Buffers) (a : Asks kind 33 p c f o r b) (i : ℕ) (dma : List ℕ) (long : length dma ≡ length b.dma)
    (below : i < c) where
  abbrev s : List ℕ
  s = b.image

  abbrev b' : Buffers
  b' = with_dma b dma

  abbrev ok : Ready kind b
  ok = a.ready

  room : 128 * i + 128 ≤ length dma
  room = let k = a.run_fits in let n = ok.dma_long in omega arith

  again : Ready kind b'
  again = record {
    fcb_long = ok.fcb_long;
    dma_long = long ∙ ok.dma_long;
    list_long = ok.list_long;
    image_long = ok.image_long;
    blocks_few = ok.blocks_few;
    image_sound = ok.image_sound;
    list_sound = ok.list_sound;
  }

  read_chosen : chosen 33 ≡ Some Read
  unfolding chosen ◌if◌else◌
  read_chosen = refl

  runs : Runs (chosen 33)
  runs = rw read_chosen is_read

  known : is_unknown (chosen 33) ≡ false
  unfolding is_unknown
  known = ap is_unknown read_chosen

  -- the single call of this record is 33's table and effect on what was found
  module _ (e : ℕ) (he : e ≡ entry_of kind s f ((r + i) / 128)) where
    rows_found : first_of (rows_of (chosen 33) (asked_at kind p i b') b') ≡ first_of (rows33 kind o e (r + i) s)
    unfolding rows_of asked_by
    rows_found =
        ap (λ (k : Option Routine). first_of (rows_of k (asked_at kind p i b') b')) read_chosen
        ∙ ap (λ (g : File). first_of (rows33 kind (open_of (unpack b.list) p g) (entry_of kind s g ((record_of b.fcb + i) / 128)) (record_of b.fcb + i) s))
        (sym a.file)
        ∙ ap (λ (q : ℕ). first_of (rows33 kind (open_of (unpack b.list) p f) (entry_of kind s f ((q + i) / 128)) (q + i) s)) (sym a.number)
        ∙ ap (λ (q : ℕ). first_of (rows33 kind q (entry_of kind s f ((r + i) / 128)) (r + i) s)) (sym a.place)
        ∙ ap (λ (q : ℕ). first_of (rows33 kind o q (r + i) s)) (sym he)

    effect_found : effect_of (chosen 33) (asked_at kind p i b') (single i b') ≡ does33 kind e (r + i) (single i b')
    unfolding effect_of asked_by
    effect_found =
        ap (λ (k : Option Routine). effect_of k (asked_at kind p i b') (single i b')) read_chosen
        ∙ ap (λ (g : File). does33 kind (entry_of kind s g ((record_of b.fcb + i) / 128)) (record_of b.fcb + i) (single i b')) (sym a.file)
        ∙ ap (λ (q : ℕ). does33 kind (entry_of kind s f ((q + i) / 128)) (q + i) (single i b')) (sym a.number)
        ∙ ap (λ (q : ℕ). does33 kind q (r + i) (single i b')) (sym he)

    module _ (code : ℕ) (hc : code ≡ first_of (rows33 kind o e (r + i) s)) where
      code_is : code_at kind 33 p i b' ≡ code
      code_is = code_single kind 33 p i b' again known a.process_fits a.drive room runs ∙ rows_found ∙ sym hc

      -- read
      turn_reads : several kind 33 p i b ≡ run 0 i b' → code ≡ 0
          → several kind 33 p (suc i) b ≡ run 0 (suc i) (with_dma b (read_at kind o e (r + i) (128 * i) s dma))
      unfolding back_at single does33 read_at ◌if◌else◌
      turn_reads h z =
          let v = contents kind s (block_in kind s e (r + i)) (r + i) in
          let n = contents_long kind s (block_in kind s e (r + i)) (r + i) (read_room kind o s f (r + i) e code _ ok.image_sound he hc z refl) in
          several_more kind 33 p i b b' h (code_is ∙ z)
          ∙ ap (λ (x : Outcome). run 0 (suc i) (back_at i b' x.left))
          (effect_single kind 33 p i b' again known a.process_fits a.drive room runs (rows_found ∙ sym hc ∙ z) ∙ effect_found)
          ∙ ap (λ (x : List ℕ). run 0 (suc i) (with_dma b x)) (dma_back i dma room v n)
          ∙ ap (λ (x : List ℕ). run 0 (suc i) (with_dma b x)) (rw (eq-eqb (first_of (rows33 kind o e (r + i) s)) 0 (sym hc ∙ z)) refl)

-- ---- the loop

pub reading_none : (kind : Kind) (p : ℕ) (f : File) (r : ℕ) (b : Buffers) → Reading kind p f r b 0 0 b.dma
reading_none kind p f r b = record { so_far = several_none kind 33 p b; long = refl; known = known_none kind b.image f r }

module _ (kind : Kind) (p c : ℕ) (f : File) (o r : ℕ) (b : Buffers) (a : Asks kind 33 p c f o r b) (i e₁ : ℕ) (dma : List ℕ)
    (w : Reading kind p f r b i e₁ dma) where
  module _ (below : i < c) (e : ℕ) (dma' : List ℕ) (he : e ≡ entry_of kind b.image f ((r + i) / 128)) where
    -- one more
    pub reading_more : 0 ≡ first_of (rows33 kind o e (r + i) b.image) → dma' ≡ read_at kind o e (r + i) (128 * i) b.image dma → e ≤ entries kind
        → length dma' ≡ length dma → Reading kind p f r b (i + 1) e dma'
    reading_more hc hd hl n = record {
      so_far = rw add-one (turn_reads kind p c f o r b a i dma w.long below e he 0 hc w.so_far refl
          ∙ ap (λ (x : List ℕ). run 0 (suc i) (with_dma b x)) (sym hd));
      long = n ∙ w.long;
      known = known_more kind b.image f r i e he hl;
    }

    -- the first refusal stops the call, and leaves the DMA
    pub reading_stops : (q : Refusal) (code answer at : ℕ) → code ≡ code_of q → code_of q ≡ first_of (rows33 kind o e (r + i) b.image)
        → dma' ≡ read_at kind o e (r + i) at b.image dma → answer ≡ code + 4096 * i → Did (told (several kind 33 p c b)) answer (with_dma b dma')
    reading_stops q code answer at hq hc hd h =
        let ha : answer ≡ code_of q + 4096 * i = h ∙ ap (λ (x : ℕ). x + 4096 * i) hq in
        let n : 0 < code_of q = code_above q in
        let k = code_is kind p c f o r b a i dma w.long below e he (code_of q) hc in
        let g : told (several kind 33 p c b) ≡ outcome answer (with_dma b dma) = stops_told kind 33 p b (with_dma b dma) i c w.so_far
        (λ z. let y : code_of q ≡ 0 = sym k ∙ z in omega arith) below ∙ ap (λ (x : ℕ). outcome x (with_dma b dma)) (ap (λ (x : ℕ). x + 4096 * i) k ∙ sym ha) in
        rw (hd, read_at-refused kind o e (r + i) at b.image dma (let m = hc in omega arith)) (did_as _ _ answer _ (sym g) (did_none answer (with_dma b dma)))

  -- all went well
  pub reading_ends : c ≤ i → i ≤ c → Did (told (several kind 33 p c b)) 0 (with_dma b dma)
  reading_ends g h = did_as _ _ 0 _ (sym (ends_told kind 33 p b (with_dma b dma) i c w.so_far g h)) (did_none 0 (with_dma b dma))

-- ---- what the call has found

pub asks : (kind : Kind) (n p c : ℕ) (b : Buffers) (l : LockList) (f : File) (o r : ℕ) → l ≡ unpack b.list → p < 16 → c ≤ 16 → bad_drive n b.fcb ≡ false
    → Ready kind b → f ≡ caller_file p l b.fcb → o ≡ open_of l p f → r ≡ record_of b.fcb → Asks kind n p c f o r b
asks kind n p c b l f o r hl few fits drive ready hf ho hr = record {
  ready = ready;
  drive = drive;
  process_fits = few;
  run_fits = fits;
  file = hf ∙ ap (λ (m : LockList). caller_file p m b.fcb) hl;
  place = ho ∙ ap (λ (m : LockList). open_of m p f) hl;
  number = hr;
}
