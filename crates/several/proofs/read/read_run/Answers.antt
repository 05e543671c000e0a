-- `several::read::read_run` meets its contract.
use Rattle.std.proofs.Common.{rules}
use Rattle.records.proofs.Reading.{inside_of}
use Rattle.several.proofs.ReadTurns.{reading_none, reading_more, reading_stops, reading_ends}
use Rattle.several.proofs.read.read_run.Goals as goal

pub loop-i-init : goal.loop-i-init
loop-i-init c = search reading_none

pub read_one-requires : goal.read_one-requires
read_one-requires c = search (rules, inside_of)

pub returns-in-Err : goal.returns-in-Err
returns-in-Err c = search (reading_stops, c.in-Err.ensures)

pub loop-i-preserved : goal.loop-i-preserved
loop-i-preserved c = search (reading_more, c.in_default.ensures)

pub returns : goal.returns
returns c = search reading_ends
