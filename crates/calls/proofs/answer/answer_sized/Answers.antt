-- `calls::answer::answer_sized` meets its contract.
use Rattle.std.proofs.Common.{rules, arith}
use Rattle.rules.specs.Serves.{buffers}
use Rattle.calls.proofs.Fives.{let_pass, own_drive, own_vector, ends_refused, ends_served}
use Rattle.calls.proofs.answer.answer_sized.Goals as goal

pub returns-in-Err : goal.returns-in-Err
returns-in-Err c = ends_refused _ _ _ _ _ _ _ c.in-Err.refusal _ c.in-Err.ensures.code c.code.ensures.0

pub overflow_cast-process : goal.overflow_cast-process
overflow_cast-process c =
    let b = buffers c.args.fcb.now c.args.dma.now c.args.list.now c.args.image.now in
    let k = let_pass _ _ _ _ _ b c.in-Ok.ensures.code in omega arith

pub serve_by-requires : goal.serve_by-requires
serve_by-requires c =
    let b = buffers c.args.fcb.now c.args.dma.now c.args.list.now c.args.image.now in
    let z = c.in-Ok.ensures.code in
    let k = let_pass _ _ _ _ _ b z in (
      k.process_fits,
      search rules,
      k.run_some,
      k.run_fits,
      own_drive _ _ _ _ _ b z _ c.in-Ok.ensures.routine,
      k.ready,
      own_vector _ _ _ _ _ b z,
    )

pub returns : goal.returns
returns c = ends_served _ _ _ _ _ _ _ c.in-Ok.ensures.code _ c.in-Ok.ensures.routine _ _ _ c.serve_by.ensures
