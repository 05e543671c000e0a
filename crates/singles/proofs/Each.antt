-- The plain engine: single calls one after another. Assumes nothing.
use Prim.Native.Nat.{ℕ, suc, ◌+◌, ◌-◌, ◌*◌, ◌/◌, ◌%◌, ◌≤◌, ◌<◌}
use mathlib.Core.Path.{◌≡◌, refl, sym, ap, ◌∙◌}
use mathlib.Core.Bool.{Bool, true, false, not}
use mathlib.Core.List.{List, [], ◌∷◌}
use mathlib.Core.Logic.{⊎_elim}
use native.Mathlib.Numerals.{add-one}
use native.Mathlib.Omega.{arith}
use lib.ListN.{length, take, drop}
use Rattle.words.specs.Bytes.{put, le}
use Rattle.words.specs.Tables.{◌∕◌, first_of, any_row}
use Rattle.words.proofs.Tests.{either}
use Rattle.words.proofs.Tables.{zero_none}
use Rattle.words.proofs.Sets.{not_yes, not_no}
use Rattle.rules.specs.Serves.{Buffers, Outcome, Did, buffers, chosen, is_search}
use Rattle.rules.specs.Asks.{record_of}
use Rattle.rules.specs.Codes.{rows_all}
use Rattle.rules.specs.Call.{rows_call, call}
use Rattle.rules.specs.Several.{serves_run, three_of, fcb_at, dma_at, single, back_at, run, several, singly, call_singly}
use Rattle.rules.proofs.Tables.{nonzero_all, refused, accepted_zero, answer_is}
use Rattle.rules.proofs.Passed.{Passed, passed}
use Rattle.rules.proofs.Ends.{did_as, did_left, did_none}
use Rattle.rules.proofs.Singles.{runs_plain, run-chosen, done_within}
use Rattle.rules.proofs.Several.{code_at, several_none, several_more, several_stops, several_stays, singly_first, singly_plain, singly_told}
use Rattle.rules.proofs.Vector.{five_passed}
use Rattle.rules.specs.Vector.{DidFive, besides, rows_vector, vector_of, singly_five}
use Rattle.calls.specs.Calls.{DidBeside, call_by, five_by}
use Rattle.calls.specs.Five.{rows_five}
use Rattle.calls.proofs.Fives.{five_as, five_did, refused_five, passed_five, passed_did}
use Rattle.singles.specs.Single.{DidSingle}
use Rattle.rules.specs.declared.kind.Kind.{Kind}
use Rattle.rules.proofs.Sizes.{top_fits}

-- ---- its FCB and its DMA

three_le : (n : ℕ) → n < 16777216 → le 3 n ≡ three_of n
unfolding le three_of
three_le n h =
    let e : n / 256 / 256 % 256 ≡ n / 256 / 256 = omega arith in
    ap (λ (x : ℕ). n % 256 ∷ n / 256 % 256 ∷ x ∷ []) e

pub fcb_made : (fcb v own : List ℕ) (r i : ℕ) → r ≡ record_of fcb → r + i < 16777216 → v ≡ le 3 (r + i) → own ≡ put 33 v fcb → own ≡ fcb_at i fcb
unfolding fcb_at
fcb_made fcb v own r i hr b hv h =
    h ∙ ap (λ (x : List ℕ). put 33 x fcb) (hv ∙ three_le (r + i) b ∙ ap (λ (x : ℕ). three_of (x + i)) hr)

pub dma_made : (dma own : List ℕ) (i : ℕ) → own ≡ put 0 (take (128 * i + 128 - 128 * i) (drop (128 * i) dma)) dma → own ≡ dma_at i dma
unfolding dma_at
dma_made dma own i h =
    let k : 128 * i + 128 - 128 * i ≡ 128 = omega arith in
    h ∙ ap (λ (x : ℕ). put 0 (take x (drop (128 * i) dma)) dma) k

-- ---- the single call

-- one that takes a run is no search
run_plain_call : (n : ℕ) → serves_run n ≡ true → is_search (chosen n) ≡ false
run_plain_call n s = runs_plain (chosen n) (run-chosen n s)

module _ (kind : Kind) (n p i : ℕ) (b : Buffers) (v : List ℕ) (w : v ≡ vector_of kind b.image) (fcb dma : List ℕ) (hf : fcb ≡ fcb_at i b.fcb)
    (hd : dma ≡ dma_at i b.dma) (code : ℕ) (fcb' dma' list' image' v' : List ℕ)
    (d : DidFive (five_by kind false n p 1 v (buffers fcb dma b.list b.image)) code (buffers fcb' dma' list' image') v') (s : serves_run n ≡ true) where
  four : DidBeside kind (call_by kind false n p 1 (buffers fcb dma b.list b.image)) code (buffers fcb' dma' list' image') v'
  four = five_did kind false n p 1 v (buffers fcb dma b.list b.image) code _ v' w d

  as_single : Did (call kind n p 1 (single i b)) code (buffers fcb' dma' list' image')
  unfolding call_by single
  as_single = did_as _ _ code _ (ap (λ (x : List ℕ). call kind n p 1 (buffers x dma b.list b.image)) hf
      ∙ ap (λ (x : List ℕ). call kind n p 1 (buffers (fcb_at i b.fcb) x b.list b.image)) hd) four.did

  still : (code ≡ 0 → ⊥) → (call kind n p 1 (single i b)).left ≡ single i b
  still z =
      ⊎_elim (λ (h : any_row (rows_call kind n p 1 (single i b)) ≡ true). ap (λ (o : Outcome). o.left) (refused kind n p 1 (single i b) h))
      (λ (h : any_row (rows_call kind n p 1 (single i b)) ≡ false). absurd (z (as_single.gives ∙ accepted_zero kind n p 1 (single i b) (run_plain_call n s) h)))
      (either (any_row (rows_call kind n p 1 (single i b))))

  -- refused
  pub one_refused : (code ≡ 0 → ⊥) → DidSingle kind n p i b code b.dma list' image' v'
  unfolding single
  one_refused z = record {
    gives = as_single.gives;
    done = λ y. absurd (z y);
    kept = λ y. λ j. record {
      fcb = b.fcb;
      dma = b.dma;
      list = (ap (λ (x : Buffers). x.list) (as_single.leaves ∙ still z)) j;
      image = (ap (λ (x : Buffers). x.image) (as_single.leaves ∙ still z)) j;
    };
    agrees = four.agrees;
  }

  -- done
  pub one_done : (left : List ℕ) → code ≡ 0 → left ≡ put (128 * i) (take (128 - 0) (drop 0 dma')) b.dma → DidSingle kind n p i b 0 left list' image' v'
  unfolding back_at
  one_done left z h = record {
    gives = sym z ∙ as_single.gives;
    done = λ y. λ j. record {
      fcb = b.fcb;
      dma = (h ∙ ap (λ (x : List ℕ). put (128 * i) (take 128 x) b.dma) (ap (λ (x : Buffers). x.dma) as_single.leaves)) j;
      list = (as_single.leaves j).list;
      image = (as_single.leaves j).image;
    };
    kept = λ y. absurd (y refl);
    agrees = four.agrees;
  }

-- ---- one after another

pub each_none : (kind : Kind) (n p : ℕ) (b : Buffers) → several kind n p 0 b ≡ run 0 0 b
each_none kind n p b = several_none kind n p b

module _ (kind : Kind) (n p c i : ℕ) (b : Buffers) (fcb₁ dma₁ list₁ image₁ : List ℕ) (h : several kind n p i b ≡ run 0 i (buffers fcb₁ dma₁ list₁ image₁)) where
  abbrev b' : Buffers
  b' = buffers fcb₁ dma₁ list₁ image₁

  module _ (code : ℕ) (dma list image v : List ℕ) (d : DidSingle kind n p i (buffers fcb₁ dma₁ list₁ image₁) code dma list image v)
      (s : serves_run n ≡ true) where
    code_told : code ≡ code_at kind n p i b'
    code_told = d.gives ∙ answer_is kind n p 1 (single i b') (run_plain_call n s)

    pub each_more : code ≡ 0 → several kind n p (i + 1) b ≡ run 0 (i + 1) (buffers fcb₁ dma list image)
    each_more z = rw add-one (several_more kind n p i b b' h (sym code_told ∙ z) ∙ ap (λ (x : Buffers). run 0 (suc i) x) (sym (d.done z)))

    -- the next record's number still has three bytes
    pub each_number : (r : ℕ) → length fcb₁ ≡ 36 → r ≡ record_of fcb₁ → code ≡ 0 → r + (i + 1) < 16777216
    each_number r long e z = let t = top_fits kind in let k = done_within kind n p i b' (run-chosen n s) long (sym code_told ∙ z) in omega arith

    pub each_stops : (code ≡ 0 → ⊥) → i < c → DidBeside kind (singly (several kind n p c b)) code (buffers fcb₁ dma list image) v
    unfolding singly
    each_stops z l =
        let y : code_at kind n p i b' ≡ 0 → ⊥ = λ q. z (code_told ∙ q) in
        let g = several_stays kind n p (suc i) c b (run (code_at kind n p i b') i b') (several_stops kind n p i b b' h y) y (omega arith) in
        let k = d.kept z in
        let o = did_left code_told refl (ap (λ (x : Buffers). x.dma) k) (ap (λ (x : Buffers). x.list) k) (ap (λ (x : Buffers). x.image) k) in
        record { did = rw g o; agrees = d.agrees }

    -- the vector goes on with the image
    pub each_vector : v ≡ vector_of kind image
    each_vector = d.agrees

  pub each_ends : (v : List ℕ) → v ≡ vector_of kind image₁ → c ≤ i → i ≤ c
      → DidBeside kind (singly (several kind n p c b)) 0 (buffers fcb₁ dma₁ list₁ image₁) v
  unfolding singly
  each_ends v w l m = let q : c ≡ i = omega arith in record { did = rw (q, h) (did_none 0 b'); agrees = w }

-- ---- the call

module _ (kind : Kind) (n p c : ℕ) (v : List ℕ) (b : Buffers) (r : Bool) (e : r ≡ serves_run n) where
  -- one that takes no run of records
  pub singly_other : (a : ℕ) (left : Buffers) (u : List ℕ) → not r ≡ true → DidFive (five_by kind false n p c v b) a left u
      → DidFive (singly_five kind n p c v b) a left u
  unfolding call_by five_by singly_five
  singly_other a left u h d =
      five_as _ _ a left u (ap (besides kind (first_of (rows_vector kind n p c v b)) v b) (sym (singly_plain kind n p c b (not_no r _ e h)))) d

  module _ (h : not r ≡ false) (code : ℕ) (k : code ≡ first_of (rows_five kind n p c v b)) where
    -- a general refusal
    pub singly_stopped : (code ≡ 0 → ⊥) → DidFive (singly_five kind n p c v b) code b v
    unfolding singly_five
    singly_stopped = refused_five kind n p c v b (call_singly kind n p c b) (singly_first kind n p c b) code k

    module _ (z : code ≡ 0) where
      none : (first_of (rows_vector kind n p c v b) ≡ 0) × (first_of (rows_all kind n p c b) ≡ 0)
      none = passed_five kind n p c v b (sym k ∙ z)

      -- what the general table leaves to the single calls
      pub goes_each : Passed kind p c b × (v ≡ vector_of kind b.image)
      goes_each =
          (passed kind n p c b (zero_none (rows_all kind n p c b) (nonzero_all kind n p c b) none.1), five_passed kind n p c v b none.0)

      pub singly_went : (a : ℕ) (left : Buffers) (u : List ℕ) → DidBeside kind (singly (several kind n p c b)) a left u
          → DidFive (singly_five kind n p c v b) a left u
      unfolding singly_five
      singly_went a left u d =
          passed_did kind n p c v b (call_singly kind n p c b) none.0 a left u
          (did_as _ _ a left (sym (singly_told kind n p c b (not_yes r _ e h) none.1)) d.did) d.agrees

-- an FCB, a DMA or a list of wrong length
pub singly_unsized : (kind : Kind) (n p c : ℕ) (v : List ℕ) (b : Buffers) → serves_run n ≡ true → 255 ∕ 13 ≡ first_of (rows_five kind n p c v b)
    → DidFive (singly_five kind n p c v b) (255 ∕ 13) b v
singly_unsized kind n p c v b s h = singly_stopped kind n p c v b true (sym s) refl (255 ∕ 13) h (λ z. omega arith)
