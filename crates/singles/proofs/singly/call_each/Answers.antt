-- `singles::singly::call_each` meets its contract.
use Rattle.std.proofs.Common.{rules}
use Rattle.singles.proofs.Each.{each_none, each_more, each_number, each_vector, each_stops, each_ends}
use Rattle.singles.proofs.singly.call_each.Goals as goal

pub loop-i-init : goal.loop-i-init
loop-i-init c = (search each_none, search rules, search rules, search rules, search rules)

pub returns-then-code-ne0 : goal.returns-then-code-ne0
returns-then-code-ne0 c = search each_stops

pub loop-i-preserved : goal.loop-i-preserved
loop-i-preserved c = (search each_more, search rules, search rules, search each_number, search each_vector)

pub returns : goal.returns
returns c = search each_ends
