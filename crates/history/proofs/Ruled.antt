-- The rule that a list chooses (T-11): Start writes that of the kind, and no call changes it. Assumes nothing.
use Prim.Native.Nat.{ℕ, ◌≤◌}
use mathlib.Core.Path.{◌≡◌, refl, sym, ap, ◌∙◌}
use mathlib.Core.List.{List, []}
use borrow.Author.Tests.{leb-true}
use Rattle.words.specs.Bytes.{byte}
use Rattle.words.specs.Tables.{◌∕◌}
use Rattle.rules.specs.declared.kind.Kind.{Kind}
use Rattle.rules.specs.declared.list.LockList.{LockList}
use Rattle.rules.specs.Kinds.{told_rule, rule_of}
use Rattle.rules.specs.Serves.{Buffers, Outcome}
use Rattle.rules.specs.Locks.{rule_at, pack, unpack, rule_in, is_rule, start}
use Rattle.rules.specs.Call.{call}
use Rattle.rules.specs.Several.{single, back_at, Run, run, call_run}
use Rattle.rules.proofs.Several.{Steps, begun, done, stopped, idle, steps}
use Rattle.rules.proofs.SoundList.{unpacked}
use Rattle.soundness.proofs.Left.{left}
use Rattle.sizing.proofs.Fresh.{fresh, fresh_packed, fresh_shape, fresh_sound, started}
use Rattle.history.specs.History.{Begun, first_state}
use Rattle.history.proofs.Ways.{Way, Ran, plain, barred, whole, partly, ways}
use Rattle.history.proofs.Frame.{list_framed}
use Rattle.history.proofs.Start.{begun_list}

-- an accepted Start writes the byte that it is given, 0 or 1
pub start_rule : (kind : Kind) (c o k u : ℕ) (users list : List ℕ) → (start kind c o k u users list).answer ≡ 0 ∕ 0
    → (byte (start kind c o k u users list).list rule_at ≡ u) × (u ≤ 1)
unfolding unpack is_rule
start_rule kind c o k u users list h =
    let w = started kind c o k u users list h in
    let l : LockList = fresh kind c o k u users in
    let e : (start kind c o k u users list).list ≡ pack l = w.written ∙ sym (fresh_packed kind c o k u users w.users_long) in
    let r : unpack (pack l) ≡ l = unpacked kind l [] (fresh_sound kind c o k u users [] w.limits) (fresh_shape kind c o k u users w.users_long) in
    (ap (λ (s : List ℕ). (unpack s).rule) e ∙ ap (λ (m : LockList). m.rule) r, leb-true u 1 w.limits.rule_good)

-- the list at the beginning chooses the rule of the kind
pub first_rule : (kind : Kind) (g : Begun kind) → rule_in (first_state kind g).list ≡ rule_of kind
unfolding rule_in unpack
first_rule kind g = ap (λ (l : LockList). told_rule l.rule) (begun_list kind g) ∙ g.told

module _ (kind : Kind) (n p : ℕ) where
  -- a plain call leaves the rule, ..
  call_rule : (m : ℕ) (b : Buffers) → (unpack (call kind n p m b).left.list).rule ≡ (unpack b.list).rule
  call_rule m b = (list_framed kind p m b _ _ (left kind n p m b).list).rules

  module _ (m : ℕ) (b : Buffers) where
    steps_rule : (j : ℕ) (x : Run) → Steps kind n p b j x → (unpack x.left.list).rule ≡ (unpack b.list).rule
    unfolding single back_at
    steps_rule j x begun = refl
    steps_rule j x (done d a z w) = call_rule 1 (single d a) ∙ steps_rule d (run 0 d a) z
    steps_rule j x (stopped d a z w) = steps_rule d (run 0 d a) z
    steps_rule j x (idle d y z w) = steps_rule d y z

    ran_rule : (j : ℕ) (left : Buffers) → Ran kind n p m b j left → (unpack left.list).rule ≡ (unpack b.list).rule
    ran_rule j left r = steps_rule j (run 0 j left) (rw r.is at (steps kind n p b j))

    way_rule : (x : Outcome) → Way kind n p m b x → (unpack x.left.list).rule ≡ (unpack b.list).rule
    way_rule x (plain h) = call_rule m b
    way_rule x (barred h code r) = refl
    way_rule x (whole left r) = ran_rule m left r
    way_rule x (partly j l left r code z) = ran_rule j left r

    -- .. and so does a call of several records
    pub rule_stays : rule_in (call_run kind n p m b).left.list ≡ rule_in b.list
    unfolding rule_in unpack
    rule_stays = ap told_rule (way_rule _ (ways kind n p m b))
