-- `several::write::write_run` meets its contract.
use Rattle.std.proofs.Common.{rules}
use Rattle.rules.proofs.Refused.{code_above}
use Rattle.several.proofs.WriteTurns.{lent_long, few_of, writing_none, writing_more, writing_vector, writing_stops, writing_ends}
use Rattle.several.proofs.write.write_run.Goals as goal

pub loop-i-init : goal.loop-i-init
loop-i-init c = search (rules, writing_none)

pub write_one-requires : goal.write_one-requires
write_one-requires c = search (rules, lent_long, few_of)

pub returns-in-Err : goal.returns-in-Err
returns-in-Err c = search (writing_stops, writing_vector, code_above, c.in-Err.ensures)

pub loop-i-preserved : goal.loop-i-preserved
loop-i-preserved c = search (rules, writing_more, writing_vector, c.in-Ok.ensures)

pub returns : goal.returns
returns c = search (rules, writing_ends)
