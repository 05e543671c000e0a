-- `calls::choose::routine_of` meets its contract.
use Rattle.words.proofs.Sets.{keys}
use Rattle.rules.specs.Serves.{chosen}
use Rattle.calls.proofs.choose.routine_of.Goals as goal

pub returns-in-15 : goal.returns-in-15
unfolding chosen
returns-in-15 c = search keys depth 20 fits 50000

pub returns-in-16 : goal.returns-in-16
unfolding chosen
returns-in-16 c = search keys depth 20 fits 50000

pub returns-in-17 : goal.returns-in-17
unfolding chosen
returns-in-17 c = search keys depth 20 fits 50000

pub returns-in-18 : goal.returns-in-18
unfolding chosen
returns-in-18 c = search keys depth 20 fits 50000

pub returns-in-19 : goal.returns-in-19
unfolding chosen
returns-in-19 c = search keys depth 20 fits 50000

pub returns-in-22 : goal.returns-in-22
unfolding chosen
returns-in-22 c = search keys depth 20 fits 50000

pub returns-in-23 : goal.returns-in-23
unfolding chosen
returns-in-23 c = search keys depth 20 fits 50000

pub returns-in-33 : goal.returns-in-33
unfolding chosen
returns-in-33 c = search keys depth 20 fits 50000

pub returns-in-34 : goal.returns-in-34
unfolding chosen
returns-in-34 c = search keys depth 20 fits 50000

pub returns-in-35 : goal.returns-in-35
unfolding chosen
returns-in-35 c = search keys depth 20 fits 50000

pub returns-in-40 : goal.returns-in-40
unfolding chosen
returns-in-40 c = search keys depth 20 fits 50000

pub returns-in-41 : goal.returns-in-41
unfolding chosen
returns-in-41 c = search keys depth 20 fits 50000

pub returns-in-42 : goal.returns-in-42
unfolding chosen
returns-in-42 c = search keys depth 20 fits 50000

pub returns-in-43 : goal.returns-in-43
unfolding chosen
returns-in-43 c = search keys depth 20 fits 50000

pub returns-in-46 : goal.returns-in-46
unfolding chosen
returns-in-46 c = search keys depth 20 fits 50000

pub returns-in-143 : goal.returns-in-143
unfolding chosen
returns-in-143 c = search keys depth 20 fits 50000

pub returns-in_default : goal.returns-in_default
unfolding chosen
returns-in_default c = search keys depth 20 fits 50000
