-- What the chain answers.
use Rattle.std.proofs.Common.{eqb, sym, ◌∙◌, rules, tests}
use Rattle.std.proofs.lemmas.Iterator.{YieldsList-from_slice}
use Rattle.std.proofs.lemmas.Iterator.Search.{any_from_yields_List}
use Rattle.packcall.proofs.Calling.{opens_listed}
use Rattle.packcall.proofs.call.holds_open.Goals as goal

pub returns : goal.returns
returns c =
    any_from_yields_List (λ it. eqb it.kind 1) _ _ _ c.any.ensures.ran (YieldsList-from_slice c.args.l.now.items cc) (λ x b q k. search (rules, tests))
    ∙ sym (opens_listed _ (search rules))
