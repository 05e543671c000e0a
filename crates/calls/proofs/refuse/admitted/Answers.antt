-- On buffers of their lengths the same; any other length is 255/13.
use Rattle.rules.specs.Serves.{buffers}
use Rattle.calls.proofs.Admitted.{sized_wrong}
use Rattle.calls.proofs.refuse.admitted.Goals as goal

pub returns-in_default-clause-code : goal.returns-in_default-clause-code
returns-in_default-clause-code c =
    sized_wrong _ _ _ _ _ (buffers c.args.fcb.now c.args.dma.now c.args.list.now c.args.image.now) (λ x y t. c.in_default.ensures.cases x)

pub returns-in_default-as_array-clause-code : goal.returns-in_default-as_array-clause-code
returns-in_default-as_array-clause-code c =
    sized_wrong _ _ _ _ _ (buffers c.args.fcb.now c.args.dma.now c.args.list.now c.args.image.now) (λ x y t. c.in_default-as_array.ensures.cases y)

pub returns-in_default-as_array-2-clause-code : goal.returns-in_default-as_array-2-clause-code
returns-in_default-as_array-2-clause-code c =
    sized_wrong _ _ _ _ _ (buffers c.args.fcb.now c.args.dma.now c.args.list.now c.args.image.now) (λ x y t. c.in_default-as_array-2.ensures.cases t)

pub returns-clause-code : goal.returns-clause-code
returns-clause-code c =
    rw (c.in-Some.ensures.cases.same, c.in-Some-as_array.ensures.cases.same, c.in-Some-as_array-2.ensures.cases.same) at c.admitted_sized.ensures.code
