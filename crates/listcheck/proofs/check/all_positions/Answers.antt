-- What the chain answers.
use Rattle.std.proofs.Common.{leb, sym, ◌∙◌, rules, tests}
use Rattle.std.proofs.lemmas.Iterator.{YieldsList-from_slice}
use Rattle.std.proofs.lemmas.Iterator.Search.{all_from_yields_List}
use Rattle.rules.specs.Kinds.{entries}
use Rattle.listcheck.proofs.Checks.{positions_listed}
use Rattle.listcheck.proofs.check.all_positions.Goals as goal

pub returns : goal.returns
returns c =
    all_from_yields_List (λ n. leb n (entries c.args.kind)) _ _ _ c.all.ensures.ran (YieldsList-from_slice c.args.positions cc) (λ x b q k. search (rules, tests))
    ∙ sym (positions_listed _ _ (search rules))
