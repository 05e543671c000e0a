-- `calls::refuse::admitted_sized` meets its contract.
use Rattle.std.proofs.Common.{sym, rules}
use Rattle.std.proofs.lemmas.Result.{err_from_is_err_and}
use Rattle.rules.specs.Serves.{buffers}
use Rattle.calls.proofs.Passing.{chosen_number, vector_there}
use Rattle.calls.proofs.Fives.{code_other}
use Rattle.calls.proofs.Admitted.{sizes_so, sized_badly, sized_well}
use Rattle.calls.proofs.refuse.admitted_sized.Goals as goal

pub returns-in_default-clause-code : goal.returns-in_default-clause-code
returns-in_default-clause-code c = code_other _ _ _ _ _ _ _ c.routine_of.ensures c.in_default.is

pub returns-then-bad_sizes-clause-code : goal.returns-then-bad_sizes-clause-code
returns-then-bad_sizes-clause-code c = sized_badly _ _ _ _ _ _ _ (sym c.in-Some.ensures) (search rules) (search rules) (search rules) _ c.bad_sizes.ensures c.if-bad_sizes.true

pub refused-requires : goal.refused-requires
refused-requires c =
    let b = buffers c.args.fcb.now c.args.dma.now c.args.list.now c.args.image.now in
    let e = sizes_so _ _ _ _ _ b _ (sym c.in-Some.ensures) (search rules) (search rules) (search rules) _ c.bad_sizes.ensures in
    vector_there _ _ _ _ _ _ _ _ _ e c.if-bad_sizes.false

pub returns-in_err-refused-clause-code : goal.returns-in_err-refused-clause-code
returns-in_err-refused-clause-code c =
    let p = err_from_is_err_and c.from_residual.result c.from_residual.ensures.1 in
    rw (p.1, p.2) (sized_well _ _ _ _ _ _ _ (sym c.in-Some.ensures) (search rules) (search rules) (search rules) _ c.bad_sizes.ensures c.if-bad_sizes.false _ c.in_err-refused.ensures)

pub returns-clause-code : goal.returns-clause-code
returns-clause-code c =
    sized_well _ _ _ _ _ _ _ (sym c.in-Some.ensures) (search rules) (search rules) (search rules) _ c.bad_sizes.ensures c.if-bad_sizes.false 0 c.in_ok-refused.ensures

pub returns-clause-routine : goal.returns-clause-routine
returns-clause-routine c = chosen_number _ _ (sym c.in-Some.ensures)
