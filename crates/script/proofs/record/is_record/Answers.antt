-- `script::record::is_record` meets its contract.
use Rattle.std.proofs.Common.{arith, ◌∙◌, ne_eqb, eq-eqb}
use Rattle.script.specs.Records.{is_record}
use Rattle.words.proofs.Sets.{and_then, and_first}
use Rattle.script.proofs.Records.{begins_with}
use Rattle.script.proofs.record.is_record.Goals as goal

pub returns-then-s-size : goal.returns-then-s-size
unfolding is_record
returns-then-s-size c = and_then _ _ _ (eq-eqb _ _ c.if-s-size.true) (c.starts_with.ensures.value ∙ begins_with c.args.s.now 77 c.args.mark (omega arith))

pub returns-else-s-size : goal.returns-else-s-size
unfolding is_record
returns-else-s-size c = ne_eqb _ _ c.if-s-size.false ∙ and_first _ _ (ne_eqb _ _ c.if-s-size.false)
