-- `repack::pack::pack_directory` meets its contract.
use borrow.Author.Rules.{rules}
use Rattle.repack.proofs.Laying.{directory_done}
use Rattle.repack.proofs.pack.pack_directory.Goals as goal

pub returns : goal.returns
returns c =
    directory_done _ _ _ _ _ _ _ c.lay_entries-to.ensures.1 c.entries.ensures.0 (search rules) (search rules) c.fill_to.ensures
