-- What holds between calls: at the start, and after each plain call. Assumes nothing.
use Prim.Native.Nat.{ℕ}
use mathlib.Core.Path.{◌≡◌, refl, ap, subst, ◌∙◌}
use mathlib.Core.Bool.{true}
use mathlib.Core.List.{List, []}
use native.Mathlib.Omega.{arith}
use lib.ListN.{length}
use Rattle.words.proofs.Tests.{any_never}
use Rattle.words.proofs.Counts.{count_zero}
use Rattle.words.specs.Lists.{tally}
use Rattle.rules.specs.declared.kind.Kind.{Kind}
use Rattle.rules.specs.declared.item.Item.{Item}
use Rattle.rules.specs.declared.list.LockList.{LockList}
use Rattle.rules.specs.Serves.{Outcome}
use Rattle.rules.specs.Locks.{unpack}
use Rattle.rules.specs.Call.{call}
use Rattle.rules.specs.Several.{serves_run}
use Rattle.soundness.proofs.Kept.{SoundBoth, call_sound}
use Rattle.soundness.proofs.Walk.{walk}
use Rattle.soundness.proofs.Left.{left}
use Rattle.history.specs.History.{Ask, State, Begun, outcome_of, kept, event, first_state, lent}
use Rattle.history.specs.Deeds.{deed}
use Rattle.history.specs.Held.{holding}
use Rattle.history.specs.Groups.{Group, counting, groups_of}
use Rattle.history.proofs.Start.{begun_list, begun_sound, begun_empty, first}
use Rattle.history.proofs.Items.{Once, once_holding}
use Rattle.history.proofs.Solid.{Solid, solid_holding}
use Rattle.history.proofs.Tallied.{Tally, passes_at}
use Rattle.history.proofs.Positions.{Counted, start_counted}
use Rattle.history.proofs.Ways.{answer_low}
use Rattle.history.proofs.Done.{users_in}
use Rattle.history.proofs.Holding.{held_step}
use Rattle.history.proofs.Grouping.{count_step}
use Rattle.history.proofs.Frame.{list_framed, image_framed}

-- what holds between calls
pub record Inv (kind : Kind) (g : Begun kind) (s : State) (items : List Item) (groups : List Group) : Type 0 where
  -- the list and the image are sound
  pub both : SoundBoth kind s.list s.image
  -- the list has the users of the beginning, ..
  pub users : users_in s ≡ g.users
  -- .. its capacity, ..
  pub capacity : (unpack s.list).capacity ≡ g.capacity
  -- .. its open limit, ..
  pub openlimit : (unpack s.list).openlimit ≡ g.openlimit
  -- .. its lock limit, ..
  pub locklimit : (unpack s.list).locklimit ≡ g.locklimit
  -- .. and its rule
  pub rule : (unpack s.list).rule ≡ g.rule
  -- the image is as long as at the beginning
  pub long : length s.image ≡ length g.image
  -- as many in the list as of the items held pass any test that no empty place passes
  pub tallied : Tally (unpack s.list) items
  -- nothing is held twice
  pub once : Once items
  -- no empty place is held
  pub solid : Solid items
  -- as many groups on the image as of those counted pass any test
  pub counted : Counted kind s.image groups

module _ (kind : Kind) (g : Begun kind) where
  begun_tally : Tally (unpack (first_state kind g).list) []
  unfolding passes_at tally
  begun_tally = rw (begun_list kind g) (record {
    as_many = λ test w. count_zero (passes_at test (first kind g)) 64
        (any_never (passes_at test (first kind g)) 64 (λ i m. w.not_empty _ (begun_empty kind g i m)));
  })

  -- it holds at the start, ..
  pub begun_inv : Inv kind g (first_state kind g) [] (groups_of kind g.image)
  unfolding tally
  begun_inv = record {
    both = begun_sound kind g;
    users = ap (λ (l : LockList). l.users) (begun_list kind g);
    capacity = ap (λ (l : LockList). l.capacity) (begun_list kind g);
    openlimit = ap (λ (l : LockList). l.openlimit) (begun_list kind g);
    locklimit = ap (λ (l : LockList). l.locklimit) (begun_list kind g);
    rule = ap (λ (l : LockList). l.rule) (begun_list kind g);
    long = refl;
    tallied = begun_tally;
    once = record { once = λ x. omega arith };
    solid = record { none = refl };
    counted = start_counted kind g.image;
  }

  -- .. and after one plain call, of 33, 34 and 40 with count 1
  pub step_inv : (q : Ask) (s : State) (items : List Item) (groups : List Group) → Inv kind g s items groups → (serves_run q.function ≡ true → q.count ≡ 1)
      → Inv kind g (kept (outcome_of (call kind) q s)) (holding (deed g.users (event q (outcome_of (call kind) q s).answer)) items)
      (counting kind (deed g.users (event q (outcome_of (call kind) q s).answer)) groups)
  unfolding outcome_of
  step_inv q s items groups i one =
      let o : Outcome = call kind q.function q.process q.count (lent q s) in
      let w = walk kind q.function q.process q.count (lent q s) in
      let v = left kind q.function q.process q.count (lent q s) in
      let f = list_framed kind q.process q.count (lent q s) _ _ v.list in
      record {
        both = call_sound kind q.function q.process q.count (lent q s) i.both;
        users = f.users ∙ i.users;
        capacity = f.capacities ∙ i.capacity;
        openlimit = f.openlimits ∙ i.openlimit;
        locklimit = f.locklimits ∙ i.locklimit;
        rule = f.rules ∙ i.rule;
        long = image_framed kind q.process q.count (lent q s) _ v.image ∙ i.long;
        tallied = subst (λ (us : List ℕ). Tally (unpack o.left.list) (holding (deed us (event q o.answer)) items)) i.users
            (held_step kind q s items i.tallied o w);
        once = once_holding _ items i.once;
        solid = solid_holding _ items i.solid;
        counted = subst (λ (us : List ℕ). Counted kind o.left.image (counting kind (deed us (event q o.answer)) groups)) i.users
            (count_step kind q s groups i.counted one o (answer_low kind q.function q.process q.count (lent q s)) w);
      }
