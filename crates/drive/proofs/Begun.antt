-- Which files begin: an entry of extent 0 begins its own. Assumes nothing.
use Rattle.std.proofs.Common.{◌≡◌, ℕ, ◌<◌, Bool, true, false, not, List, refl, sym, ap, ◌∙◌}
use Rattle.words.specs.Tests.{any}
use Rattle.words.proofs.Tests.{any_found}
use Rattle.rules.specs.declared.kind.Kind.{Kind}
use Rattle.rules.specs.Drive.{is_empty, extent_at, file_at, is_entry, has_first, lacks_first}
use Rattle.rules.proofs.Sound.{entry_so}

-- after `if is_empty(..)` and `if extent_at(..) == 0`
pub begun_self : (s : List ℕ) (e : ℕ) (r : Bool) (x n : ℕ) → e < n → r ≡ is_empty s e → r ≡ false → x ≡ extent_at s e → x ≡ 0
    → true ≡ any (is_entry s (file_at s e) 0) n
begun_self s e r x n l h t g z =
    sym (any_found (is_entry s (file_at s e) 0) n e l (entry_so s (file_at s e) 0 e (record { used = sym h ∙ t; file = refl; extent = sym g ∙ z })))

-- after `if !is_begun(..) { .. }`
pub lacking : (kind : Kind) (s : List ℕ) (e : ℕ) (r : Bool) → r ≡ has_first kind s e → not r ≡ true → lacks_first kind s e ≡ true
unfolding lacks_first
lacking kind s e r h n = ap not (sym h) ∙ n

pub having : (kind : Kind) (s : List ℕ) (e : ℕ) (r : Bool) → r ≡ has_first kind s e → not r ≡ false → lacks_first kind s e ≡ false
unfolding lacks_first
having kind s e r h n = ap not (sym h) ∙ n
