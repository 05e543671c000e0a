-- The reading of one record, and 33: the outcome at each end of their routines. Assumes nothing.
use Rattle.std.proofs.Common.{◌≡◌, ℕ, ◌+◌, ◌-◌, ◌*◌, ◌/◌, ◌<◌, ◌≤◌, true, List, length, take, drop, Some, refl, sym, ap, ◌∙◌, ⊎_elim, arith, rules, eq-eqb, ne_eqb}
use Rattle.std.proofs.lemmas.Bool.{eqb-false}
use Rattle.words.specs.Tests.{◌if◌else◌}
use Rattle.words.specs.Bytes.{put}
use Rattle.words.specs.Tables.{first_of}
use Rattle.words.proofs.Tests.{equal?}
use Rattle.words.proofs.Tables.{row_off, row_rest}
use Rattle.words.proofs.Sets.{leb_yes_as, leb_no_as, codes}
use Rattle.rules.specs.declared.kind.Kind.{Kind}
use Rattle.rules.specs.declared.file.File.{File}
use Rattle.rules.specs.declared.routine.Routine.TheVariants.{Read}
use Rattle.rules.specs.Kinds.{block_size}
use Rattle.rules.specs.Serves.{Buffers, outcome, with_dma}
use Rattle.rules.specs.Drive.{entry_of, block_in, block_of, record_at, blocks, sound_image}
use Rattle.rules.specs.Locks.{unpack, open_of}
use Rattle.rules.specs.Asks.{caller_file, record_of}
use Rattle.rules.specs.Codes.{rows_there, rows33}
use Rattle.rules.specs.Effects.{contents, does33}
use Rattle.rules.specs.Call.{decided, unless, asked_by, asked, rows_of, effect_of, served}
use Rattle.rules.proofs.Refused.{code_above}
use Rattle.rules.proofs.Sizes.{block_inside}
use Rattle.rules.proofs.Sound.{sound_length, length_whole, block_within}
use Rattle.records.specs.By.{Inside, read_at, by33}

-- ---- a record that is not there

pub ruleset there = (codes, leb_yes_as, leb_no_as)

-- ---- one record

-- the entry of the record's extent in a sound image
pub inside_of : (kind : Kind) (s : List ℕ) (f : File) (e r : ℕ) → sound_image kind s ≡ true → e ≡ entry_of kind s f (r / 128) → Inside kind s e r
unfolding block_of
inside_of kind s f e r h he = record {
  inside = λ n.
      let q : block_in kind s e r ≡ block_of kind s f r = ap (λ (d : ℕ). block_in kind s d r) he in
      let b : block_of kind s f r < blocks kind s = (block_within kind s f r (λ z. n (q ∙ z)) h).1 in
      rw (q, ← length_whole kind s (sound_length kind s h)) (block_inside kind (block_of kind s f r) (blocks kind s) b);
}

-- a record that passes the rows of 33 has a block
there_some : (kind : Kind) (o e r : ℕ) (s : List ℕ) → first_of (rows33 kind o e r s) ≡ 0 → block_in kind s e r ≡ 0 → ⊥
unfolding rows33 rows_there
there_some kind o e r s z =
    eqb-false _ _ (row_off 1 _ _ (λ y. omega arith) (row_rest 4 _ _ (λ y. omega arith)
    (row_rest 6 _ _ (λ y. omega arith) (row_rest 10 _ _ (λ y. omega arith) z))))

module _ (kind : Kind) (o e r at : ℕ) (s dma : List ℕ) where
  pub read_inside : (k : ℕ) → Inside kind s e r → 0 ≡ first_of (rows33 kind o e r s) → k ≡ block_in kind s e r → block_size kind * k + block_size kind ≤ length s
  read_inside k i z hk = rw hk (i.inside (there_some kind o e r s (sym z)))

  -- refused, ..
  pub read_at-refused : 0 < first_of (rows33 kind o e r s) → read_at kind o e r at s dma ≡ dma
  unfolding read_at ◌if◌else◌
  read_at-refused h = rw (ne_eqb (first_of (rows33 kind o e r s)) 0 (λ z. omega arith)) refl

  -- .. or read
  pub read_put : (k : ℕ) (dma' : List ℕ) → 0 ≡ first_of (rows33 kind o e r s) → k ≡ block_in kind s e r → dma' ≡ put at (contents kind s k r) dma → dma' ≡ read_at kind o e r at s dma
  unfolding read_at ◌if◌else◌
  read_put k dma' z hk h = rw (eq-eqb (first_of (rows33 kind o e r s)) 0 (sym z)) (h ∙ ap (λ (x : ℕ). put at (contents kind s x r) dma) hk)

pub ruleset reads = (rules, code_above, read_inside, read_at-refused, read_put)

-- the record's part of its block
pub copied : (kind : Kind) (s : List ℕ) (block r : ℕ)
    → take (record_at kind block r + 128 - record_at kind block r) (drop (record_at kind block r) s) ≡ contents kind s block r
unfolding contents
copied kind s block r = let n : record_at kind block r + 128 - record_at kind block r ≡ 128 = omega arith in rw n

-- ---- 33, from the reading of its record

pub read_ended : (kind : Kind) (o : ℕ) (f : File) (r : ℕ) (b : Buffers) → by33 kind o f r b
    ≡ outcome (first_of (rows33 kind o (entry_of kind b.image f (r / 128)) r b.image))
    (with_dma b (read_at kind o (entry_of kind b.image f (r / 128)) r 0 b.image b.dma))
unfolding by33 does33 read_at unless decided ◌if◌else◌
read_ended kind o f r b =
    let c : ℕ = first_of (rows33 kind o (entry_of kind b.image f (r / 128)) r b.image) in
    ⊎_elim (λ (z : c ≡ 0). rw (eq-eqb c 0 z, z)) (λ (z : c ≡ 0 → ⊥). rw (ne_eqb c 0 z)) (equal? c 0)

-- the call on the buffers
pub read_called : (kind : Kind) (p c : ℕ) (b : Buffers) → served kind (Some Read) p c b
    ≡ by33 kind (open_of (unpack b.list) p (caller_file p (unpack b.list) b.fcb)) (caller_file p (unpack b.list) b.fcb) (record_of b.fcb) b
unfolding by33 served asked asked_by rows_of effect_of
read_called kind p c b = refl
