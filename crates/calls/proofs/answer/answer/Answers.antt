-- `calls::answer::answer` meets its contract.
use Rattle.std.proofs.Common.{refl}
use Rattle.rules.specs.Serves.{buffers}
use Rattle.calls.proofs.Fives.{ends_unsized}
use Rattle.calls.proofs.Admitted.{wrong_fcb, wrong_dma, wrong_list}
use Rattle.calls.proofs.answer.answer.Goals as goal

pub returns-in_default : goal.returns-in_default
returns-in_default c =
    let b = buffers c.args.fcb.now c.args.dma.now c.args.list.now c.args.image.now in
    wrong_fcb _ _ _ _ _ b _ (ends_unsized _ _ _ _ _ _ b) _ _ _ _ refl refl refl c.code.ensures.0 c.in_default.ensures.cases

pub returns-in_default-as_mut_array : goal.returns-in_default-as_mut_array
returns-in_default-as_mut_array c =
    let b = buffers c.args.fcb.now c.args.dma.now c.args.list.now c.args.image.now in
    wrong_dma _ _ _ _ _ b _ (ends_unsized _ _ _ _ _ _ b) _ _ _ _ c.in-Some.ensures.cases.same refl refl c.code-in_default-as_mut_array.ensures.0 c.in_default-as_mut_array.ensures.cases

pub returns-in_default-as_mut_array-2 : goal.returns-in_default-as_mut_array-2
returns-in_default-as_mut_array-2 c =
    let b = buffers c.args.fcb.now c.args.dma.now c.args.list.now c.args.image.now in
    wrong_list _ _ _ _ _ b _ (ends_unsized _ _ _ _ _ _ b) _ _ _ _ c.in-Some.ensures.cases.same c.in-Some-as_mut_array.ensures.cases.same refl c.code-in_default-as_mut_array-2.ensures.0 c.in_default-as_mut_array-2.ensures.cases
