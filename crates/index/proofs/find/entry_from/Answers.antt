-- `find` stops at the lowest entry that passes.
use Rattle.std.proofs.Common.{◌≡◌, true, false, refl, rules}
use Rattle.std.proofs.lemmas.Iterator.{first_from_Range}
use Rattle.rules.specs.Drive.{is_entry}
use Rattle.directory.proofs.Finding.{lowest_by_find}
use Rattle.index.proofs.find.entry_from.Goals as goal

pub returns : goal.returns
returns c =
    let test = is_entry c.args.image.now c.args.f c.args.extent in
    lowest_by_find test c.args.from c.args.n c.requires.2 _ _ c.find.result refl c.unwrap_or.ensures
    (first_from_Range _ _ _ c.find.result (λ k. test k ≡ true) (λ k. test k ≡ false) c.find.ensures.ran (λ x q k. search rules) (λ x q k. search rules))
