-- What the chain answers.
use Rattle.std.proofs.Common.{leb, sym, ◌∙◌, rules, tests}
use Rattle.std.proofs.lemmas.Iterator.{YieldsList-from_slice}
use Rattle.std.proofs.lemmas.Iterator.Search.{all_from_yields_List}
use Rattle.listcheck.proofs.Tallies.{mosts}
use Rattle.listcheck.proofs.limits.all_at_most.Goals as goal

pub returns : goal.returns
returns c =
    all_from_yields_List (λ n. leb n c.args.most) _ _ _ c.all.ensures.ran (YieldsList-from_slice c.args.counts cc) (λ x b q k. search (rules, tests))
    ∙ sym (mosts _ _ (search rules))
