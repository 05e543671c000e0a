-- What a call may rely on that passes the general table. Assumes nothing.
use Prim.Native.Nat.{ℕ, ◌≤◌, ◌<◌}
use mathlib.Core.Path.{◌≡◌, ap}
use mathlib.Core.Bool.{true, false, not}
use mathlib.Core.List.{List}
use lib.ListN.{length}
use borrow.Author.Tests.{lt-leb, le-ltb, leb-false, ltb-false, eq-eqb, eqb-true, not-false}
use Rattle.words.specs.Tables.{any_row}
use Rattle.words.proofs.Tests.{or_fst, or_snd}
use Rattle.words.proofs.Sets.{or_none}
use Rattle.rules.specs.Serves.{Buffers, chosen, is_unknown, fcb_size, dma_size, list_size}
use Rattle.rules.specs.Drive.{sound_image}
use Rattle.rules.specs.Locks.{sound_list}
use Rattle.rules.specs.Codes.{bad_numbers, bad_drive, rows_inside, rows_all}
use Rattle.rules.specs.Call.{Ready}
use Rattle.rules.proofs.Sound.{sound_length, length_long, length_few}
use Rattle.rules.specs.declared.kind.Kind.{Kind}

-- ---- 255/13

pub record GoodNumbers (n p c : ℕ) (fcb dma list : List ℕ) : Type 0 where
  pub known : is_unknown (chosen n) ≡ false
  pub process_fits : p < 16
  pub run_some : 1 ≤ c
  pub run_fits : c ≤ 16
  pub fcb_long : length fcb ≡ fcb_size
  pub dma_long : length dma ≡ dma_size
  pub list_long : length list ≡ list_size

module _ (n p c : ℕ) (fcb dma list : List ℕ) where
  pub good-numbers : bad_numbers n p c fcb dma list ≡ false → GoodNumbers n p c fcb dma list
  unfolding bad_numbers
  good-numbers h =
      let a₁ = or_snd _ _ h in
      let a₂ = or_snd _ _ a₁ in
      let a₃ = or_snd _ _ a₂ in
      let a₄ = or_snd _ _ a₃ in
      let a₅ = or_snd _ _ a₄ in
      record {
        known = or_fst _ _ h;
        process_fits = leb-false 16 p (or_fst _ _ a₁);
        run_some = ltb-false c 1 (or_fst _ _ a₂);
        run_fits = ltb-false 16 c (or_fst _ _ a₃);
        fcb_long = eqb-true _ _ (not-false _ (or_fst _ _ a₄));
        dma_long = eqb-true _ _ (not-false _ (or_fst _ _ a₅));
        list_long = eqb-true _ _ (not-false _ (or_snd _ _ a₅));
      }

  pub numbers_good : GoodNumbers n p c fcb dma list → bad_numbers n p c fcb dma list ≡ false
  unfolding bad_numbers
  numbers_good g =
      or_none _ _ g.known
      (or_none _ _ (lt-leb 16 p g.process_fits) (or_none _ _ (le-ltb c 1 g.run_some) (or_none _ _ (le-ltb 16 c g.run_fits)
      (or_none _ _ (ap not (eq-eqb _ _ g.fcb_long)) (or_none _ _ (ap not (eq-eqb _ _ g.dma_long)) (ap not (eq-eqb _ _ g.list_long)))))))

-- ---- all of the general table

pub record Passed (kind : Kind) (p c : ℕ) (b : Buffers) : Type 0 where
  pub process_fits : p < 16
  pub run_some : 1 ≤ c
  pub run_fits : c ≤ 16
  pub ready : Ready kind b

-- the image's length follows from its soundness
pub ready_of : (kind : Kind) (n p c : ℕ) (b : Buffers) → GoodNumbers n p c b.fcb b.dma b.list → sound_image kind b.image ≡ true
    → sound_list kind b.list b.image ≡ true → Ready kind b
ready_of kind n p c b g image list =
    let w = sound_length kind b.image image in
    record {
      fcb_long = g.fcb_long;
      dma_long = g.dma_long;
      list_long = g.list_long;
      image_long = length_long kind b.image w;
      blocks_few = length_few kind b.image w;
      image_sound = image;
      list_sound = list;
    }

module _ (kind : Kind) (n p c : ℕ) (b : Buffers) (h : any_row (rows_all kind n p c b) ≡ false) where
  good : GoodNumbers n p c b.fcb b.dma b.list
  unfolding rows_all any_row
  good = good-numbers n p c b.fcb b.dma b.list (or_fst _ _ h)

  pub passed : Passed kind p c b
  unfolding rows_inside rows_all any_row
  passed =
      let h₁ = or_snd _ _ h in
      record {
        process_fits = good.process_fits;
        run_some = good.run_some;
        run_fits = good.run_fits;
        ready = ready_of kind n p c b good (not-false _ (or_fst _ _ h₁)) (not-false _ (or_fst _ _ (or_snd _ _ h₁)));
      }

  pub known : is_unknown (chosen n) ≡ false
  known = good.known

  pub drive_good : bad_drive n b.fcb ≡ false
  unfolding rows_inside rows_all any_row
  drive_good = or_fst _ _ (or_snd _ _ (or_snd _ _ (or_snd _ _ h)))
