-- Demand 3 of the engine of the rules. Assumes nothing.
use Prim.Native.Nat.{ℕ, suc, ◌+◌, ◌-◌, ◌*◌, ◌/◌}
use mathlib.Core.Path.{◌≡◌, refl, sym, ap, ◌∙◌}
use mathlib.Core.Bool.{Bool, true, false}
use mathlib.Core.List.{List, [], ◌∷◌, ◌++◌}
use native.Mathlib.Omega.{arith}
use lib.ListN.{length, take}
use lib.Seq.{get_or-take, length-take-le}
use borrow.Author.Tests.{eqb-false, not-true}
use Rattle.words.specs.Tests.{◌and◌, count}
use Rattle.words.specs.Lists.{tab}
use Rattle.words.specs.Bytes.{byte, byte_from, put, le}
use Rattle.words.proofs.Lists.{tab_ext, tab_get_d}
use Rattle.words.proofs.Counts.{count_ext}
use Rattle.rules.specs.declared.kind.Kind.{Kind}
use Rattle.rules.specs.Kinds.{block_size, block_records}
use Rattle.rules.specs.declared.item.Item.{Item}
use Rattle.std.specs.Prelude.{Option}
use Rattle.rules.specs.declared.routine.Routine.{Routine}
use Rattle.rules.specs.Serves.{Outcome}
use Rattle.rules.specs.Drive.{blocks, all_numbers, is_numbered, blocks_in_use, free_blocks, block_of}
use Rattle.rules.specs.Locks.{unpack}
use Rattle.rules.specs.Effects.{does46}
use Rattle.rules.specs.Call.{asked, asked_by, effect_of}
use Rattle.rules.specs.Several.{call_run}
use Rattle.rules.proofs.Sound.{SoundImage}
use Rattle.rules.proofs.Tables.{accepted, zero_accepted}
use Rattle.rules.proofs.Several.{run_plain}
use Rattle.rules.proofs.Look.{same-group}
use Rattle.history.specs.History.{Ask, State, Begun, lent, forgetful, outcome_of, kept, event, events_of, after, history_of, outcome_after}
use Rattle.history.specs.Deeds.{ends, tells, deed}
use Rattle.history.specs.Held.{any_open_by}
use Rattle.history.specs.Groups.{Group, has_block}
use Rattle.history.specs.Demands.{items_of, HeadStays, figure_in, Groups, Figure, NoneLeft, Stands, Next}
use Rattle.words.proofs.Tallies.{tally-all}
use Rattle.history.proofs.Positions.{holds_group, each_counted}
use Rattle.soundness.proofs.InUse.{in_use}
use Rattle.history.proofs.Dead.{none_then}
use Rattle.history.proofs.Served.{figure_plain}
use Rattle.history.proofs.Done.{told}
use Rattle.history.proofs.Grants.{image_sound, holds_same, add_up, full, none_left}
use Rattle.history.proofs.Run.{Inv}
use Rattle.history.proofs.Calls.{ours, always}
use Rattle.history.proofs.Spared.{locked_stays, files_apart, items_apart}

module _ (kind : Kind) (g : Begun kind) (s : State) (items : List Item) (groups : List Group) (i : Inv kind g s items groups) where
  abbrev sound : SoundImage kind s.image
  sound = image_sound kind g s items groups i

  -- 2
  head_kept : HeadStays g s
  unfolding unpack tab
  head_kept = record {
    rule = i.rule;
    head =
        let long : length (take 19 s.list) ≡ 19 = length-take-le 19 s.list (let k = i.both.list_long in omega arith) in
        let same : tab (λ (k : ℕ). byte (take 19 s.list) k) 19 ≡ tab (λ (k : ℕ). byte s.list k) 19 =
        tab_ext (λ (k : ℕ). byte (take 19 s.list) k) (λ (k : ℕ). byte s.list k) 19 (λ k m. get_or-take 19 s.list k 0 m) in
        let rest : tab (λ (k : ℕ). byte s.list (suc (suc (suc k)))) 16 ≡ g.users =
        tab_ext (λ (k : ℕ). byte s.list (suc (suc (suc k)))) (byte_from s.list 3) 16 (λ k m. let z : suc (suc (suc k)) ≡ 3 + k = omega arith in rw z refl)
        ∙ i.users in
        sym (tab_get_d (take 19 s.list) 0 19 long) ∙ same ∙ heads i.capacity i.openlimit i.locklimit rest;
  }
    where
      heads : {a b c d e f : ℕ} {u v : List ℕ} → a ≡ d → b ≡ e → c ≡ f → u ≡ v → a ∷ b ∷ c ∷ u ≡ d ∷ e ∷ f ∷ v
      heads p q r t = λ j. p j ∷ q j ∷ r j ∷ t j

  -- 4
  all_numbered : count (is_numbered kind s.image) (all_numbers kind) ≡ length groups
  unfolding holds_group
  all_numbered =
      count_ext (is_numbered kind s.image) (holds_group kind (λ (x : Group). true) s.image) (all_numbers kind)
      (λ j m. and_true (is_numbered kind s.image j))
      ∙ i.counted.as_many (λ (x : Group). true) ∙ tally-all (λ (x : Group). true) groups (λ x. refl)
    where
      and_true : (t : Bool) → t ≡ (t and true)
      and_true true = unfold ◌and◌ in refl
      and_true false = unfold ◌and◌ in refl

  groups_counted : Groups kind s.image groups
  groups_counted = record {
    as_many = in_use kind s.image sound ∙ all_numbered;
    each = each_counted kind s.image groups i.counted sound;
  }

  -- 5
  blocks_kept : blocks kind s.image ≡ blocks kind g.image
  unfolding blocks
  blocks_kept = ap (λ (n : ℕ). n / block_size kind) i.long

  figures : length groups + free_blocks kind s.image ≡ blocks kind g.image - 2
  figures =
      let a = Rattle.rules.proofs.Sound.add_up kind s.image in
      let b : blocks_in_use kind s.image ≡ length groups = groups_counted.as_many in
      let c = blocks_kept in
      omega arith

  figure : Figure kind (blocks kind g.image) s.image groups
  unfolding has_block
  figure = record {
    no_two = λ f h r q l m k e.
        let some : block_of kind s.image f r ≡ 0 → ⊥ = eqb-false _ _ (not-true _ k) in
        let w = same-group kind s.image i.both.image_sound f h r q l m some (λ z. some (e ∙ z)) e in
        λ j. record { file = w.0 j; number = w.1 j };
    adds = figures;
  }

  tells_figure : (q : Ask) → deed g.users (event q (outcome_of (call_run kind) q s).answer) ≡ tells
      → (outcome_of (call_run kind) q s).left.dma ≡ figure_in kind (blocks kind g.image) groups q.dma
  unfolding outcome_of asked asked_by effect_of does46 figure_in
  tells_figure q e =
      let b = lent q s in
      let w = told g.users q (call_run kind q.function q.process q.count b).answer e in
      let c = run_plain kind q.function q.process q.count b (figure_plain q.function w.1) in
      let z = zero_accepted kind q.function q.process q.count b (ap (λ (o : Outcome). o.answer) (sym c) ∙ w.0) in
      let m : free_blocks kind s.image ≡ blocks kind g.image - 2 - length groups = (let f = figures in omega arith) in
      ap (λ (o : Outcome). o.left.dma) (c ∙ accepted kind q.function q.process q.count b z)
      ∙ ap (λ (k : Option Routine). (effect_of k (asked kind q.process q.count b) b).left.dma) w.1
      ∙ ap (λ (n : ℕ). put 0 (le 3 (block_records kind * n)) q.dma) m

-- ---- the engine of the rules meets demand 3, whatever it is called with

-- after every list of calls it stands as demanded, ..
pub stands : (kind : Kind) (g : Begun kind) (qs : List Ask) → Stands kind g (history_of kind (ours kind) g qs) (after kind (ours kind) g qs)
stands kind g qs =
    let i = always kind g qs in
    record {
      sound_stays = record { image_sound = i.both.image_sound; list_long = i.both.list_long; list_sound = i.both.list_sound };
      head_stays = head_kept kind g _ _ _ i;
      list_is_grants = holds_same kind g _ _ _ i;
      places_add_up = add_up kind g _ _ _ i;
      blocks_are_groups = groups_counted kind g _ _ _ i;
      figure_fixed = figure kind g _ _ _ i;
    }

-- .. one more call does as demanded, ..
pub next : (kind : Kind) (g : Begun kind) (qs : List Ask) (q : Ask)
    → Next kind g (history_of kind (ours kind) g qs) (after kind (ours kind) g qs) q (outcome_after kind (ours kind) g qs q)
unfolding outcome_after forgetful
next kind g qs q =
    let i = always kind g qs in
    record {
      figure_told = tells_figure kind g _ _ _ i q;
      locked_stays = locked_stays kind g _ _ _ i q;
      files_apart = files_apart kind g _ _ _ i q;
      items_apart = items_apart kind g _ _ _ i q;
      full_when = full kind g _ _ _ i q;
    }

-- .. and the dead hold nothing
pub dead_hold_nothing : (kind : Kind) (g : Begun kind) (qs later : List Ask) (q : Ask) (p : ℕ)
    → deed g.users (event q (outcome_after kind (ours kind) g qs q).answer) ≡ ends p
    → any_open_by g.users p (events_of (ours kind) (qs ++ (q ∷ [])) later (kept (outcome_after kind (ours kind) g qs q))) ≡ false
    → NoneLeft p (unpack (after kind (ours kind) g (qs ++ (q ∷ later))).list) (items_of kind g (history_of kind (ours kind) g (qs ++ (q ∷ later))))
dead_hold_nothing kind g qs later q p d none =
    none_left kind g _ _ _ (always kind g (qs ++ (q ∷ later))) p (none_then kind (ours kind) g qs later q p d none)
