-- 19 and 23: the outcome at each end of their routines. Assumes nothing.
use Rattle.std.proofs.Common.{ℕ, ◌≤◌, ◌<◌, ◌≡◌, refl, sym, ap, ◌∙◌, Bool, true, false, not, List, length, get_or, eqb, Some, arith, lt-ltb, le-ltb, leb-false}
use Rattle.words.specs.Tests.{◌and◌, ◌or◌, ◌if◌else◌, all, any}
use Rattle.words.specs.Bytes.{low_from}
use Rattle.words.specs.Lists.{tab}
use Rattle.words.specs.Bits.{is_set}
use Rattle.words.specs.Tables.{first_of}
use Rattle.words.proofs.Tests.{all_make, any_ext}
use Rattle.words.proofs.Lists.{tab_at}
use Rattle.rules.specs.declared.code.Refusal.{Refusal}
use Rattle.rules.specs.declared.file.File.{File}
use Rattle.rules.specs.declared.file.Found.{Found}
use Rattle.rules.specs.declared.kind.Kind.{Kind}
use Rattle.rules.specs.declared.list.LockList.{LockList}
use Rattle.rules.specs.declared.routine.Routine.TheVariants.{Delete, Rename}
use Rattle.rules.specs.Refusals.{code_of}
use Rattle.rules.specs.Serves.{Buffers, Did, buffers, with_image}
use Rattle.rules.specs.Kinds.{entries, most, vector_size}
use Rattle.rules.specs.Drive.{look_up, missing, file_from, sound_image}
use Rattle.rules.specs.Vector.{vector_of}
use Rattle.rules.specs.Locks.{item_at, unpack, pack, is_opened, opens_file_at, open_of, is_low}
use Rattle.rules.specs.Asks.{caller_file, new_file}
use Rattle.rules.specs.Codes.{stands_against, stands_against_at, opens_elsewhere_at, stops_delete, rows19, rows23}
use Rattle.rules.specs.Effects.{erased, renamed, closed, closed_where, does19, does23}
use Rattle.rules.specs.Call.{asked_by, asked, rows_of, effect_of, served}
use Rattle.rules.proofs.Sound.{sound_of}
use Rattle.rules.proofs.Vector.{vector-long, vector_bytes, vector_bit}
use Rattle.rules.proofs.Ends.{did_left}
use Rattle.rules.proofs.Refused.{did_err, did_ok}
use Rattle.soundness.specs.Taking.{is_block_of}
use Rattle.soundness.proofs.Vectors.{vector_erased}
use Rattle.writing.specs.Clears.{Cleared}
use Rattle.files.specs.By.{by19, by23}

-- the entry of a file that is not missing
pub entry_there : (kind : Kind) (x : Found) (t : Bool) → t ≡ missing kind x → t ≡ false → x.entry < entries kind
unfolding missing
entry_there kind x t h z = leb-false (entries kind) x.entry (sym h ∙ z)

-- ---- 19

-- an open by another process stands against any locked one, and no other does
pub elsewhere_against : (p : ℕ) (l : LockList) (f : File) → any (stands_against_at l p f 0) 64 ≡ stops_delete p l f
unfolding stops_delete stands_against_at stands_against opens_elsewhere_at
elsewhere_against p l f = any_ext (stands_against_at l p f 0) (opens_elsewhere_at l p f) 64 (λ i m.
    ap (λ (t : Bool). opens_file_at l f i and t) (against (not (eqb (item_at l i).process p)) (not (eqb (item_at l i).mode 0))))
  where
    against : (x y : Bool) → (x and (true or y)) ≡ x
    against true y = unfold ◌and◌ ◌or◌ in refl
    against false y = unfold ◌and◌ in refl

module _ (kind : Kind) (p : ℕ) (l : LockList) (o : ℕ) (f : File) (b : Buffers) where
  pub delete_refused : (why : Refusal) → code_of why ≡ first_of (rows19 kind p l f (look_up kind b.image f) b.fcb b.image)
      → Did (by19 kind p l o f b) (code_of why) b
  unfolding by19
  delete_refused why h = did_err _ b _ why h

  module _ (h : 0 ≡ first_of (rows19 kind p l f (look_up kind b.image f) b.fcb b.image)) (image : List ℕ) (hi : image ≡ erased kind f b.image) where
    -- where the caller has the file not open
    pub delete_unopened : 64 ≤ o → Did (by19 kind p l o f b) 0 (with_image b image)
    unfolding by19 does19 closed_where is_opened ◌if◌else◌
    delete_unopened i = did_ok _ b _ 0 _ h (did_left refl refl refl (rw (le-ltb _ _ i) refl) hi)

    -- where it has
    pub delete_opened : (list : List ℕ) → o < 64 → list ≡ pack (closed p f l) → Did (by19 kind p l o f b) 0 (buffers b.fcb b.dma list image)
    unfolding by19 does19 closed_where is_opened ◌if◌else◌
    delete_opened list i g = did_ok _ b _ 0 _ h (did_left refl refl refl (rw (lt-ltb _ _ i) g) hi)

-- the vector that is lent has the length that its kind of drive asks, ..
pub vector-size : (kind : Kind) (s v : List ℕ) → v ≡ vector_of kind s → length v ≡ vector_size kind
vector-size kind s v h = ap length h ∙ vector-long kind s

-- .. and with the bits of the file's blocks cleared it is that of the image left
pub delete_vector : (kind : Kind) (s : List ℕ) (f : File) (u v t : List ℕ) → sound_image kind s ≡ true → length f.name ≡ 11 → u ≡ vector_of kind s
    → Cleared (most kind) (is_block_of kind s f (entries kind)) u v → t ≡ erased kind f s → v ≡ vector_of kind t
delete_vector kind s f u v t g size hu a ht =
    vector_erased kind s f (sound_of kind s g) size v (a.long ∙ vector-size kind s u hu) (a.bytes (rw hu (vector_bytes kind s)))
    (λ x m. a.bit x m ∙ ap (λ (y : Bool). y and not (is_block_of kind s f (entries kind) x)) (ap (λ (y : List ℕ). is_set y x) hu ∙ vector_bit kind s x m))
    ∙ ap (λ (y : List ℕ). vector_of kind y) (sym ht)

pub ruleset deleting = (delete_refused, delete_unopened, delete_opened, vector-size, delete_vector)

-- the call on the buffers
pub delete_served : (kind : Kind) (p c : ℕ) (b : Buffers)
    → (let l = unpack b.list in let f = caller_file p l b.fcb in served kind (Some Delete) p c b ≡ by19 kind p l (open_of l p f) f b)
unfolding served rows_of effect_of asked asked_by by19
delete_served kind p c b = refl

-- ---- the ends of 23

-- a name that was read has its high bits clear
pub name_low : (p : ℕ) (l : LockList) (fcb : List ℕ) (new : File) → new ≡ new_file p l fcb → all (is_low new.name) 11 ≡ true
unfolding new_file file_from is_low
name_low p l fcb new h =
    ap (λ (g : File). all (is_low g.name) 11) h
    ∙ all_make (is_low (tab (low_from fcb 17) 11)) 11
    (λ k m. let e : get_or (tab (low_from fcb 17) 11) k 0 ≡ low_from fcb 17 k = tab_at (low_from fcb 17) 11 k 0 m in
    lt-ltb (get_or (tab (low_from fcb 17) 11) k 0) 128 (omega (arith, e)))

module _ (kind : Kind) (l : LockList) (f new : File) (b : Buffers) where
  pub rename_refused : (why : Refusal) → code_of why ≡ first_of (rows23 kind l f (look_up kind b.image f) (look_up kind b.image new) b.fcb b.image)
      → Did (by23 kind l f new b) (code_of why) b
  unfolding by23
  rename_refused why h = did_err _ b _ why h

  pub rename_done : (image : List ℕ) → 0 ≡ first_of (rows23 kind l f (look_up kind b.image f) (look_up kind b.image new) b.fcb b.image)
      → image ≡ renamed kind f new.name b.image → Did (by23 kind l f new b) 0 (with_image b image)
  unfolding by23 does23
  rename_done image h i = did_ok _ b _ 0 _ h (did_left refl refl refl refl i)

pub ruleset renaming = (rename_refused, rename_done)

-- the call on the buffers
pub rename_served : (kind : Kind) (p c : ℕ) (b : Buffers)
    → served kind (Some Rename) p c b ≡ by23 kind (unpack b.list) (caller_file p (unpack b.list) b.fcb) (new_file p (unpack b.list) b.fcb) b
unfolding served rows_of effect_of asked asked_by by23
rename_served kind p c b = refl

pub ruleset rename_called = (name_low, rename_served)
