-- `repack::pack::pack_image` meets its contract.
use borrow.Author.Rules.{rules}
use Rattle.rules.proofs.Sound.{image_long}
use Rattle.repack.proofs.pack.pack_image.Goals as goal

pub invariant_of-directory : goal.invariant_of-directory
invariant_of-directory c = search (rules, image_long)
