-- What calls do to the size of a file. Assumes nothing.
use Prim.Native.Nat.{ℕ, ◌+◌, ◌*◌, ◌/◌, ◌%◌, ◌≤◌, ◌<◌}
use mathlib.Core.Path.{◌≡◌, sym, ap, ◌∙◌}
use mathlib.Core.Bool.{Bool, true, false}
use mathlib.Core.List.{List}
use mathlib.Core.Logic.{◌⊎◌, inl, inr, ⊎_elim}
use native.Mathlib.Omega.{arith}
use lib.ListN.{length}
use Rattle.words.specs.Bytes.{byte}
use Rattle.words.specs.Tables.{any_row}
use Rattle.words.proofs.Tests.{equal?}
use Rattle.rules.specs.declared.kind.Kind.{Kind}
use Rattle.rules.specs.declared.file.File.{File}
use Rattle.rules.specs.declared.routine.Routine.TheVariants.{Delete, Make, Rename, Write, WriteZeros, TestWrite}
use Rattle.std.specs.Prelude.{Some}
use Rattle.rules.specs.Kinds.{entries}
use Rattle.rules.specs.Serves.{Buffers, Outcome, chosen}
use Rattle.rules.specs.Drive.{is_empty, file_at, entry_of, look_up, free_entry}
use Rattle.rules.specs.Locks.{user_of}
use Rattle.rules.specs.Asks.{caller_file, record_of}
use Rattle.rules.specs.Effects.{file_size, count_to, made, renamed, does22, makes, does23, does34, does41}
use Rattle.rules.specs.Call.{call, rows_call, asked, asked_by, rows_of, effect_of}
use Rattle.rules.proofs.Passed.{Passed}
use Rattle.rules.proofs.Sound.{Is, SoundImage}
use Rattle.rules.proofs.Frames.{Same, head_of, head_back, is_same, file_same}
use Rattle.soundness.proofs.Changes.{Touches, Theirs}
use Rattle.soundness.proofs.Entered.{made_is, made_count, made_kept}
use Rattle.soundness.proofs.Erased.{erased_sound, erased_touches}
use Rattle.soundness.proofs.Renamed.{renamed_empty, renamed_extent, renamed_count}
use Rattle.soundness.proofs.Written.{Old, New}
use Rattle.soundness.proofs.Taken.{caller_long, new_long}
use Rattle.soundness.proofs.Sized.{of_is, there, size_had, size_least, size_rises, size_grown, size_untouched}
use Rattle.soundness.proofs.Ends.{image-of, caller_fits, made_of, renamed_of, renamed_touch, renamed_file, written_of}
use Rattle.soundness.proofs.Leaves.{Leaf, list_of, file_by, new_by, MayMake, MayRename, MayWrite, image_written, refused, reopened, newly_opened}
use Rattle.soundness.proofs.Leaves.{newly_made, now_closed, now_erased, now_dropped, now_renamed, now_read, now_sized, now_written, now_rewritten, now_locked}
use Rattle.soundness.proofs.Leaves.{lock_idle, now_unlocked, unlock_idle, now_told, now_ended, now_searched}
use Rattle.soundness.proofs.Walk.{walk, accepted_as, may_make, may_write, may_rewrite, may_rename, second_full}

module _ (kind : Kind) (p c : ℕ) (b : Buffers) (ok : Passed kind p c b) where
  abbrev file : File
  file = file_by p b

  named : length file.name ≡ 11
  named = caller_long p (list_of b) b.fcb

  -- 34, 40, 41: what writing did, whether the record had its block or took one
  wrote : (zeros : Bool) (v : List ℕ) → MayWrite kind p b → 128 ≤ length v
      → (e : ℕ) × (e < entries kind) × Is (image_written kind zeros p b v) file (record_of b.fcb / 128) e
      × (count_to (record_of b.fcb) ≤ byte (image_written kind zeros p b v) (32 * e + 15)) × SoundImage kind (image_written kind zeros p b v)
  wrote zeros v w full =
      ⊎_elim (λ (k : Old kind b.image _ file (record_of b.fcb)). (k.entry, k.wrote.below, k.wrote.is, k.wrote.count, k.wrote.change.sound))
      (λ (k : New kind b.image _ file (record_of b.fcb)). (k.entry, k.wrote.below, k.wrote.is, k.wrote.count, k.wrote.change.sound))
      (written_of kind p c b ok w zeros v full)

  -- the size is then more than the record's number
  pub written_size : (zeros : Bool) (v : List ℕ) → MayWrite kind p b → 128 ≤ length v
      → record_of b.fcb + 1 ≤ file_size kind (image_written kind zeros p b v) file
  written_size zeros v w full =
      let k = wrote zeros v w full in
      let z = size_least kind (image_written kind zeros p b v) file k.4 named _ k.0 k.1 k.2 in
      let y : record_of b.fcb % 128 + 1 ≤ byte (image_written kind zeros p b v) (32 * k.0 + 15) = k.3 in
      omega arith

  written_kept : (f : File) → length f.name ≡ 11 → (zeros : Bool) (v : List ℕ) → MayWrite kind p b → 128 ≤ length v
      → file_size kind b.image f ≤ file_size kind (image_written kind zeros p b v) f
  written_kept f n zeros v w full =
      ⊎_elim (λ (k : Old kind b.image _ file (record_of b.fcb)).
      size_grown kind b.image _ f (image-of kind p c b ok) k.wrote.change.sound n k.wrote.change.grown)
      (λ (k : New kind b.image _ file (record_of b.fcb)).
      size_grown kind b.image _ f (image-of kind p c b ok) k.wrote.change.sound n k.wrote.change.grown)
      (written_of kind p c b ok w zeros v full)

  -- 22: the new file has one entry, extent 0, with the count 0
  pub made_size : MayMake kind p b → file_size kind (made (free_entry kind b.image) file b.image) file ≡ 0
  unfolding caller_file
  made_size w =
      let s = b.image in
      let t = made (free_entry kind s) file s in
      let g = image-of kind p c b ok in
      let u = user_of (list_of b) p in
      let user = caller_fits kind p c b ok in
      let i = made_is kind s b.fcb u g user w.legal w.gone w.entry_room in
      let k = size_had kind t file (made_of kind p c b ok w 0 0 0 0).sound named
      (there kind t file (made_of kind p c b ok w 0 0 0 0).sound named 0 _ w.entry_room i) in
      ⊎_elim
      (λ (q : k.1 ≡ free_entry kind s).
      let x : k.0 ≡ 0 = sym k.3.extent ∙ ap (λ (e : ℕ). Rattle.rules.specs.Drive.extent_at t e) q ∙ i.extent in
      let y : byte t (32 * k.1 + 15) ≡ 0 = ap (λ (e : ℕ). byte t (32 * e + 15)) q ∙ made_count kind s b.fcb u g user w.legal w.gone w.entry_room in
      let z : file_size kind t file ≡ 128 * k.0 + byte t (32 * k.1 + 15) = k.4 in
      omega arith)
      (λ (q : k.1 ≡ free_entry kind s → ⊥).
      let same = made_kept kind s b.fcb u g user w.legal w.gone w.entry_room k.1 q in
      let was = is_same t s file k.0 k.1 (head_back s t k.1 (head_of s k.1 t k.1 same)) k.3 in
      let back = there kind s file g named k.0 k.1 k.2 was in
      let gone = w.gone in
      absurd (omega arith))
      (equal? k.1 (free_entry kind s))

  -- 23: the file's entries are then the new one's, and no others are
  module _ (w : MayRename kind p b) where
    abbrev after : List ℕ
    after = renamed kind file (new_by p b).name b.image

    renamed_forth : (x e : ℕ) → e < entries kind → Is b.image file x e → Is after (new_by p b) x e
    renamed_forth x e l i = record {
      used = renamed_empty kind b.image file (new_by p b).name (image-of kind p c b ok) e l ∙ i.used;
      file = renamed_file kind p c b ok w e l (of_is kind b.image file (image-of kind p c b ok) named x e i);
      extent = renamed_extent kind b.image file (new_by p b).name (image-of kind p c b ok) e l ∙ i.extent;
    }

    renamed_back : (x e : ℕ) → e < entries kind → Is after (new_by p b) x e → Is b.image file x e
    renamed_back x e l i =
        let s = b.image in
        let used : is_empty s e ≡ false = sym (renamed_empty kind s file (new_by p b).name (image-of kind p c b ok) e l) ∙ i.used in
        let extent = sym (renamed_extent kind s file (new_by p b).name (image-of kind p c b ok) e l) ∙ i.extent in
        ⊎_elim
        (λ (q : Same s e after e).
        let was : Is s (new_by p b) x e = record { used = used; file = sym (file_same s e after e (head_of s e after e q)) ∙ i.file; extent = extent } in
        let z = there kind s (new_by p b) (image-of kind p c b ok) (new_long p (list_of b) b.fcb) x e l was in
        let gone = w.gone_new in
        absurd (omega arith))
        (λ (q : Theirs s after file (new_by p b) e). record { used = used; file = q.was used; extent = extent })
        ((renamed_touch kind p c b ok w).entry e l)

    counts : (e : ℕ) → e < entries kind → byte after (32 * e + 15) ≡ byte b.image (32 * e + 15)
    counts e l = renamed_count kind b.image file (new_by p b).name (image-of kind p c b ok) e l

    -- the new name has the old size
    pub renamed_size : file_size kind after (new_by p b) ≡ file_size kind b.image file
    renamed_size =
        let g = image-of kind p c b ok in
        let h = renamed_of kind p c b ok w in
        let m = new_long p (list_of b) b.fcb in
        let a = size_rises kind b.image after file (new_by p b) g h named m (λ x e l i. (renamed_forth x e l i, let z = counts e l in omega arith)) in
        let d = size_rises kind after b.image (new_by p b) file h g m named (λ x e l i. (renamed_back x e l i, let z = counts e l in omega arith)) in
        omega arith

-- ---- every call

module _ (kind : Kind) (n p c : ℕ) (b : Buffers) (f : File) (long : length f.name ≡ 11)
    (stays : (chosen n ≡ Some Delete) ⊎ (chosen n ≡ Some Rename) → f ≡ file_by p b → ⊥) where
  -- an image of which no entry of the file was touched
  untouched : (t : List ℕ) (h : File) → Passed kind p c b → SoundImage kind t → Touches kind b.image t (file_by p b) h → (f ≡ file_by p b → ⊥)
      → file_size kind b.image f ≤ file_size kind t f
  untouched t h ok g w o = size_untouched kind b.image t (file_by p b) h f (image-of kind p c b ok) g long w o

  erased_kept : Passed kind p c b → (f ≡ file_by p b → ⊥)
      → file_size kind b.image f ≤ file_size kind (Rattle.rules.specs.Effects.erased kind (file_by p b) b.image) f
  erased_kept ok o =
      let g = image-of kind p c b ok in
      let m = caller_long p (list_of b) b.fcb in
      untouched _ (file_by p b) ok (erased_sound kind b.image (file_by p b) g m) (erased_touches kind b.image (file_by p b) g m) o

  kept_by : (o : Outcome) → Leaf kind n p c b o → file_size kind b.image f ≤ file_size kind o.left.image f
  kept_by o (refused code z) = omega arith
  kept_by o (reopened k ok w fcb) = omega arith
  kept_by o (newly_opened k ok w fcb) = omega arith
  kept_by o (newly_made k ok w fcb) =
      let d = made_of kind p c b ok w 0 0 0 0 in size_grown kind b.image _ f (image-of kind p c b ok) d.sound long d.grown
  kept_by o (now_closed k ok w) = omega arith
  kept_by o (now_erased k ok w u) = erased_kept ok (λ e. stays (inl k) e)
  kept_by o (now_dropped k ok w u) = erased_kept ok (λ e. stays (inl k) e)
  kept_by o (now_renamed k ok w) = untouched _ (new_by p b) ok (renamed_of kind p c b ok w) (renamed_touch kind p c b ok w) (λ e. stays (inr k) e)
  kept_by o (now_read k ok dma) = omega arith
  kept_by o (now_sized k ok fcb) = omega arith
  kept_by o (now_written k ok w zeros) = written_kept kind p c b ok f long zeros b.dma w (let z = ok.ready.dma_long in omega arith)
  kept_by o (now_rewritten k ok w some v full from) = written_kept kind p c b ok f long false v w full
  kept_by o (now_locked k ok w) = omega arith
  kept_by o (lock_idle k ok w) = omega arith
  kept_by o (now_unlocked k ok w) = omega arith
  kept_by o (unlock_idle k ok w) = omega arith
  kept_by o (now_told k ok dma) = omega arith
  kept_by o (now_ended k ok) = omega arith
  kept_by o (now_searched k ok answer e low dma) = omega arith

  -- no call but the file's own Delete or Rename lowers its size
  pub size_kept : file_size kind b.image f ≤ file_size kind (call kind n p c b).left.image f
  size_kept = kept_by _ (walk kind n p c b)

-- ---- calls that were accepted

module _ (kind : Kind) (n p c : ℕ) (b : Buffers) (pass : any_row (rows_call kind n p c b) ≡ false) where
  -- a file just made has size 0
  pub made_zero : chosen n ≡ Some Make → file_size kind (call kind n p c b).left.image (file_by p b) ≡ 0
  unfolding effect_of asked asked_by does22 makes
  made_zero e =
      let a = accepted_as kind n p c b (Some Make) e pass in
      rw a.did (made_size kind p c b a.ok (may_make kind n p c b a.ok a.passes))

  -- the size of a file is more than the number of a record just written, ..
  pub size_written : (chosen n ≡ Some Write) ⊎ (chosen n ≡ Some WriteZeros)
      → record_of b.fcb + 1 ≤ file_size kind (call kind n p c b).left.image (file_by p b)
  unfolding rows_of effect_of asked asked_by does34 look_up
  size_written w =
      ⊎_elim
      (λ (e : chosen n ≡ Some Write).
      let a = accepted_as kind n p c b (Some Write) e pass in
      rw a.did (written_size kind p c b a.ok false b.dma (may_write kind n p c b a.ok a.passes) (let z = a.ok.ready.dma_long in omega arith)))
      (λ (e : chosen n ≡ Some WriteZeros).
      let a = accepted_as kind n p c b (Some WriteZeros) e pass in
      rw a.did (written_size kind p c b a.ok true b.dma (may_write kind n p c b a.ok a.passes) (let z = a.ok.ready.dma_long in omega arith)))
      w

  -- .. by 41 too
  pub size_rewritten : chosen n ≡ Some TestWrite → record_of b.fcb + 1 ≤ file_size kind (call kind n p c b).left.image (file_by p b)
  unfolding effect_of asked asked_by does41 look_up
  size_rewritten e =
      let a = accepted_as kind n p c b (Some TestWrite) e pass in
      rw a.did (written_size kind p c b a.ok false _ (may_rewrite kind n p c b a.ok a.passes).0 (second_full kind n p c b a.ok))

  -- Rename gives the new name the old size
  pub size_renamed : chosen n ≡ Some Rename → file_size kind (call kind n p c b).left.image (new_by p b) ≡ file_size kind b.image (file_by p b)
  unfolding effect_of asked asked_by does23
  size_renamed e =
      let a = accepted_as kind n p c b (Some Rename) e pass in
      rw a.did (renamed_size kind p c b a.ok (may_rename kind n p c b a.ok a.passes))
