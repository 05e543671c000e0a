-- `locklist::limit::all_users` meets its contract.
use Rattle.std.proofs.Common.{leb, ◌∙◌, rules, tests, refl}
use Rattle.std.proofs.lemmas.Iterator.{YieldsList-from_slice}
use Rattle.std.proofs.lemmas.Iterator.Search.{all_from_yields_List}
use Rattle.rules.specs.Locks.{is_user}
use Rattle.rules.proofs.Chains.{all_all}
use Rattle.locklist.proofs.limit.all_users.Goals as goal

pub returns : goal.returns
unfolding is_user
returns c =
    all_from_yields_List (λ user. leb user 15) _ _ _ c.all.ensures.ran (YieldsList-from_slice c.args.users.now cc) (λ x b q k. search (rules, tests))
    ∙ all_all (λ user. leb user 15) (is_user c.args.users.now) 0 c.args.users.now 16 c.requires (λ k m. refl)
