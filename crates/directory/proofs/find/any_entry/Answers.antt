-- The closure is the test.
use Rattle.std.proofs.Common.{◌∙◌, refl, arith, rules, tests}
use Rattle.std.proofs.lemmas.Iterator.{YieldsList-from_range}
use Rattle.std.proofs.lemmas.Iterator.Search.{any_from_yields_List}
use Rattle.rules.specs.Drive.{is_entry}
use Rattle.directory.proofs.Finding.{list_any-range}
use Rattle.directory.proofs.find.any_entry.Goals as goal

pub returns : goal.returns
returns c =
    let test = is_entry c.args.image.now c.args.f c.args.extent in
    any_from_yields_List test _ _ c.any.result c.any.ensures.ran (YieldsList-from_range 0 c.args.n c.args.n refl (omega arith)) (λ x b q k. search (rules, tests))
    ∙ list_any-range test c.args.n
