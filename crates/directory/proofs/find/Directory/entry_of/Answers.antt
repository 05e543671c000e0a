-- `find` stops at the lowest entry that passes.
use Rattle.std.proofs.Common.{◌≡◌, true, false, rules}
use Rattle.std.proofs.lemmas.Iterator.{first_from_Range}
use Rattle.words.proofs.Tests.{any_none}
use Rattle.rules.specs.Drive.{is_entry, entry_of}
use Rattle.directory.proofs.Finding.{lowest_by_find}
use Rattle.directory.proofs.find.Directory.entry_of.Goals as goal

pub returns : goal.returns
unfolding entry_of
returns c =
    let test = is_entry c.args.self.now.image.now c.args.f c.args.extent in
    lowest_by_find test 0 _ (any_none test) _ _ c.find.result c.entries-n.ensures.0 c.unwrap_or.ensures
    (first_from_Range _ _ _ c.find.result (λ k. test k ≡ true) (λ k. test k ≡ false) c.find.ensures.ran (λ x q k. search rules) (λ x q k. search rules))
