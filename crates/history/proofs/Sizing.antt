-- "Sizing a list so nobody is turned away" holds of every engine that serves as the rules do. Assumes nothing.
use Prim.Native.Nat.{ℕ, ◌+◌, ◌≤◌}
use mathlib.Core.Path.{◌≡◌, refl, sym, ap, ◌∙◌}
use mathlib.Core.Bool.{true, false}
use mathlib.Core.List.{List, [], ◌∷◌, ◌++◌}
use mathlib.Core.Logic.{⊎_elim}
use native.Mathlib.Omega.{arith}
use native.Mathlib.Nat.{mul-le-mul_right}
use lib.ListN.{length}
use Rattle.words.proofs.Tests.{either, and_fst, and_snd}
use Rattle.words.proofs.Sets.{and_both}
use Rattle.rules.specs.declared.kind.Kind.{Kind}
use Rattle.rules.specs.declared.item.Item.{Item}
use Rattle.rules.specs.declared.list.LockList.{LockList}
use Rattle.rules.specs.Serves.{Buffers, Outcome}
use Rattle.rules.specs.Locks.{unpack, pack, start}
use Rattle.rules.specs.Call.{call}
use Rattle.rules.specs.Several.{serves_run, single, back_at, Run, run, call_run}
use Rattle.rules.proofs.Packing.{pack_long}
use Rattle.rules.proofs.SoundList.{unpacked}
use Rattle.rules.proofs.Several.{run_plain, Steps, begun, done, stopped, idle, steps}
use Rattle.soundness.proofs.InBytes.{pack_bytes}
use Rattle.soundness.proofs.Left.{left}
use Rattle.sizing.specs.Sizes.{is_caller, OnlyBy, Suffices, NotTurnedAway}
use Rattle.sizing.proofs.Enough.{not_turned_away}
use Rattle.sizing.proofs.Callers.{still_only}
use Rattle.sizing.proofs.Fresh.{fresh, fresh_packed, fresh_at, fresh_shape, fresh_sound, started}
use Rattle.history.specs.History.{Ask, State, Engine, is_lendable, is_kept, state, lent, outcome_of}
use Rattle.history.specs.Demands.{Demand2}
use Rattle.history.specs.Sizing.{Lent, is_made_by, are_made_by, outcome_on, NoneTurnedAway, NobodyTurnedAway}
use Rattle.history.proofs.Ways.{Way, Ran, plain, barred, whole, partly, ways}
use Rattle.history.proofs.Frame.{list_framed}
use Rattle.history.proofs.Full.{run_not_11, run_not_14}
use Rattle.history.proofs.Lendable.{lendable_so, next_kept}

-- the limits are those that Start wrote, and items are of callers alone
record Fits (callers : List ℕ) (c o k : ℕ) (l : LockList) : Type 0 where
  capacity : l.capacity ≡ c
  openlimit : l.openlimit ≡ o
  locklimit : l.locklimit ≡ k
  only : OnlyBy callers l

module _ (kind : Kind) (callers : List ℕ) (c o k n p : ℕ) (on : is_caller callers p ≡ true) where
  -- a plain call leaves it so, ..
  call_fits : (m : ℕ) (b : Buffers) → Fits callers c o k (unpack b.list) → Fits callers c o k (unpack (call kind n p m b).left.list)
  call_fits m b i =
      let f = list_framed kind p m b _ _ (left kind n p m b).list in
      record {
        capacity = f.capacities ∙ i.capacity;
        openlimit = f.openlimits ∙ i.openlimit;
        locklimit = f.locklimits ∙ i.locklimit;
        only = still_only kind callers p m b on i.only n;
      }

  module _ (m : ℕ) (b : Buffers) (i : Fits callers c o k (unpack b.list)) where
    steps_fit : (j : ℕ) (x : Run) → Steps kind n p b j x → Fits callers c o k (unpack x.left.list)
    unfolding single back_at
    steps_fit j x begun = i
    steps_fit j x (done d a z w) = call_fits 1 (single d a) (steps_fit d (run 0 d a) z)
    steps_fit j x (stopped d a z w) = steps_fit d (run 0 d a) z
    steps_fit j x (idle d y z w) = steps_fit d y z

    ran_fits : (j : ℕ) (left : Buffers) → Ran kind n p m b j left → Fits callers c o k (unpack left.list)
    ran_fits j left r = steps_fit j (run 0 j left) (rw r.is at (steps kind n p b j))

    way_fits : (x : Outcome) → Way kind n p m b x → Fits callers c o k (unpack x.left.list)
    way_fits x (plain h) = call_fits m b i
    way_fits x (barred h code r) = i
    way_fits x (whole left r) = ran_fits m left r
    way_fits x (partly j l left r code z) = ran_fits j left r

    -- .. and so does a call of several records
    run_fits : Fits callers c o k (unpack (call_run kind n p m b).left.list)
    run_fits = way_fits _ (ways kind n p m b)

    module _ (enough : Suffices (length callers) c o k) where
      suffices : Suffices (length callers) (unpack b.list).capacity (unpack b.list).openlimit (unpack b.list).locklimit
      suffices = rw (i.capacity, i.openlimit, i.locklimit) enough

      -- .. and answers neither
      run-served : NotTurnedAway (call_run kind n p m b)
      run-served =
          ⊎_elim
          (λ (h : serves_run n ≡ true). record { place_left = run_not_11 kind n p m b h; places_left = run_not_14 kind n p m b h })
          (λ (h : serves_run n ≡ false). rw (run_plain kind n p m b h) (not_turned_away kind callers n p m b on i.only suffices))
          (either (serves_run n))

-- ---- every call after the other

module _ (kind : Kind) (e : Engine) (serves : Demand2 kind e) (callers : List ℕ) (c o k : ℕ) (enough : Suffices (length callers) c o k) where
  walk : (before : List Ask) (xs : List Lent) (list : List ℕ) → is_lendable list ≡ true → Fits callers c o k (unpack list) → are_made_by callers xs ≡ true
      → NoneTurnedAway e before xs list
  unfolding NoneTurnedAway are_made_by is_made_by outcome_on Demand2 is_kept
  walk before [] list may i h = tt
  walk before (x ∷ xs) list may i h =
      let made = and_fst _ _ h in
      let on = and_snd _ _ (and_snd _ _ made) in
      let s = state list x.image in
      let keeps : is_kept s ≡ true = and_both _ _ may (and_fst _ _ (and_snd _ _ made)) in
      let d : outcome_of (e before) x.ask s ≡ outcome_of (call_run kind) x.ask s = serves before x.ask s (and_fst _ _ made) keeps in
      let q = x.ask in
      rw d (
        served q s on i,
        walk (before ++ (q ∷ [])) xs _ (and_fst _ _ (next_kept kind q s (and_fst _ _ made) keeps)) (fits q s on i) (and_snd _ _ h),
      )
    where
      served : (q : Ask) (s : State) → is_caller callers q.process ≡ true → Fits callers c o k (unpack s.list)
          → NotTurnedAway (outcome_of (call_run kind) q s)
      served q s on i = unfold outcome_of in run-served kind callers c o k q.function q.process on q.count (lent q s) i enough

      fits : (q : Ask) (s : State) → is_caller callers q.process ≡ true → Fits callers c o k (unpack s.list)
          → Fits callers c o k (unpack (outcome_of (call_run kind) q s).left.list)
      fits q s on i = unfold outcome_of in run_fits kind callers c o k q.function q.process on q.count (lent q s) i

-- a fresh list
module _ (kind : Kind) (callers : List ℕ) (c o k u : ℕ) (users given : List ℕ) (ok : (start kind c o k u users given).answer ≡ 0) where
  abbrev l : LockList
  l = fresh kind c o k u users

  list_is : (start kind c o k u users given).list ≡ pack l
  list_is = let w = started kind c o k u users given ok in w.written ∙ sym (fresh_packed kind c o k u users w.users_long)

  fresh_fits : Fits callers c o k (unpack (start kind c o k u users given).list)
  fresh_fits =
      let w = started kind c o k u users given ok in
      rw list_is (rw (unpacked kind l [] (fresh_sound kind c o k u users [] w.limits) (fresh_shape kind c o k u users w.users_long)) (record {
        capacity = refl;
        openlimit = refl;
        locklimit = refl;
        only = record { each = λ i m z. absurd (z (ap (λ (it : Item). it.kind) (fresh_at i m kind c o k u users))) };
      }))

  fresh_lendable : is_lendable (start kind c o k u users given).list ≡ true
  fresh_lendable =
      let w = started kind c o k u users given ok in
      let shape = fresh_shape kind c o k u users w.users_long in
      rw list_is (lendable_so (pack l) (pack_bytes kind l [] (fresh_sound kind c o k u users [] w.limits) shape)
      (let z = pack_long l shape.items_long in omega arith))

-- such an engine turns nobody away
pub nobody_turned_away : (kind : Kind) (e : Engine) → Demand2 kind e → NobodyTurnedAway kind e
unfolding NobodyTurnedAway
nobody_turned_away kind e serves c o k u users given ok p callers few enough xs made =
    walk kind e serves callers c o k (fewer few enough) [] xs (start kind c o k u users given).list
    (fresh_lendable kind callers c o k u users given ok) (fresh_fits kind callers c o k u users given ok) made
  where
    fewer : length callers ≤ p → Suffices p c o k → Suffices (length callers) c o k
    fewer few enough = unfold Suffices in (let w = mul-le-mul_right (o + k) few in omega arith)
