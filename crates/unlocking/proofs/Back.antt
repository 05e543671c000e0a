-- A Lock of records that the caller did not hold and the Unlock of that run give back the list byte for byte; of others never. Assumes nothing.
use Prim.Native.Nat.{ℕ, ◌+◌, ◌-◌, ◌<◌, ◌≤◌}
use mathlib.Core.Path.{◌≡◌, refl, sym, ap, subst, ◌∙◌}
use mathlib.Core.Bool.{Bool, true, false}
use mathlib.Core.List.{List, [], ◌∷◌, ◌++◌, map}
use mathlib.Core.Logic.{inl, inr, ⊎_elim}
use native.Mathlib.Omega.{arith}
use lib.ListN.{length, get_or, replicate}
use lib.Dec.{eqb}
use borrow.Author.Tests.{eqb-true, eq-eqb, ne_eqb, leb-true, le-leb, ltb-true, lt-ltb}
use Rattle.words.specs.Tests.{◌and◌, ◌if◌else◌, any}
use Rattle.words.specs.Lists.{tab}
use Rattle.words.specs.Bytes.{are_bytes, is_zero}
use Rattle.words.specs.Tables.{Row, only_if, first_of, any_row}
use Rattle.words.proofs.Tests.{either, fails_too, all_at, any_found, any_some, and_fst, and_snd, or_fst, or_snd}
use Rattle.words.proofs.Lists.{tab_ext, tab_get_d}
use Rattle.words.proofs.Sets.{and_both, or_none, not_of_false}
use Rattle.words.proofs.AreBytes.{byte_small}
use Rattle.words.proofs.Tables.{none_applies, any_append, any_only}
use Rattle.rules.specs.declared.kind.Kind.{Kind}
use Rattle.rules.specs.declared.file.File.{File}
use Rattle.rules.specs.declared.item.Item.{Item}
use Rattle.rules.specs.declared.list.LockList.{LockList}
use Rattle.rules.specs.Serves.{Outcome, outcome, chosen, is_unknown}
use Rattle.rules.specs.Locks.{blank, empty_place, fresh_lock, item_at, user_of, with_items, open_of, good_empty, unpack, pack}
use Rattle.rules.specs.Asks.{record_of}
use Rattle.rules.specs.Codes.{bad_numbers, bad_drive, rows_inside, rows_all, rows_run, rows42, rows43}
use Rattle.rules.specs.Effects.{is_of_file, is_in_run, locked_run, does42}
use Rattle.rules.specs.Call.{asked, asked_by, rows_of, effect_of, rows_call}
use Rattle.rules.proofs.Items.{name_refl, name_is}
use Rattle.rules.proofs.Tables.{accepted, zero_accepted}
use Rattle.rules.proofs.Lists.{gone_if, without_all}
use Rattle.rules.proofs.Passed.{Passed, passed}
use Rattle.rules.proofs.Rows.{run_open, passes_42}
use Rattle.rules.proofs.Packing.{pack_long, pack_unpack}
use Rattle.rules.proofs.SoundList.{Shape, Holder, SoundLocks, Vacant, Used, GoodOpen, GoodLock, unpack_shape, list_sound_of, list_sound_so, holder_open}
use Rattle.rules.proofs.SoundList.{unpacked}
use Rattle.soundness.proofs.Kept.{SoundBoth}
use Rattle.soundness.proofs.Held.{held_found, held_some}
use Rattle.soundness.proofs.Emptied.{at_gone, at_kept, gone_shape, gone_sound, unlock_whole}
use Rattle.soundness.proofs.Leaves.{MayLock}
use Rattle.soundness.proofs.Taken.{caller_user, caller_long}
use Rattle.soundness.proofs.Ends.{takes_of}
use Rattle.soundness.proofs.Run.{Running, Filled, running}
use Rattle.unlocking.specs.Unlocks.{Asking, lent_to, locks, unlocks, after, file_of_caller, holds_at, holds_some, GivesBack, TakesHeld}
use Rattle.unlocking.proofs.Opens.{NoOpens, SameOpens}
use Rattle.unlocking.proofs.Taken.{mode_of, table_of, away_on, acts_on, left_of, unlock_is, own_table, acted, unacted, same_table, gone_empties}

-- twenty zeros are the empty place
empty_is : (it : Item) → it.kind ≡ 0 → good_empty it ≡ true → length it.name ≡ 11 → it ≡ empty_place
unfolding good_empty is_zero tab
empty_is it z g n =
    let g₁ = and_snd _ _ g in
    let g₂ = and_snd _ _ g₁ in
    let p : it.process ≡ 0 = eqb-true _ _ (and_fst _ _ g) in
    let m : it.mode ≡ 0 = eqb-true _ _ (and_fst _ _ g₂) in
    let r : it.number ≡ 0 = eqb-true _ _ (and_snd _ _ g₂) in
    let name : it.name ≡ replicate 11 0 = sym (tab_get_d it.name 0 11 n)
    ∙ tab_ext (λ (k : ℕ). get_or it.name k 0) (λ (k : ℕ). 0) 11 (λ k l. eqb-true _ _ (all_at (is_zero it.name) 11 k (and_fst _ _ g₁) l)) in
    λ i. record { kind = z i; process = p i; name = name i; mode = m i; number = r i }

-- ---- what passes 42's table passes 43's

same_general : (kind : Kind) (q : Asking) (list image : List ℕ) → rows_all kind 42 q.process q.count (lent_to q list image)
    ≡ rows_all kind 43 q.process q.count (lent_to q list image)
unfolding rows_all rows_inside bad_numbers bad_drive chosen is_unknown ◌if◌else◌ ◌and◌
same_general kind q list image = refl

run_less : (kind : Kind) (l : LockList) (o r n : ℕ) (dma : List ℕ) (more : List Row) → any_row (rows_run kind l o r n dma more) ≡ false
    → any_row (rows_run kind l o r n dma []) ≡ false
unfolding rows_run any_row only_if ◌if◌else◌
run_less kind l o r n dma more h =
    or_none _ _ (or_fst _ _ h) (⊎_elim
    (λ (q : eqb (item_at l o).mode 1 ≡ true).
    let k = any_only (eqb (item_at l o).mode 1) _ q (or_snd _ _ h) in
    rw q (or_none _ _ (or_fst _ _ k) (or_none _ _ (or_fst _ _ (or_snd _ _ k)) refl)))
    (λ (q : eqb (item_at l o).mode 1 ≡ false). rw q refl)
    (either (eqb (item_at l o).mode 1)))

none_both : (xs ys : List Row) → any_row xs ≡ false → any_row ys ≡ false → any_row (xs ++ ys) ≡ false
unfolding any_row
none_both [] ys h k = k
none_both (x ∷ xs) ys h k = or_none _ _ (or_fst _ _ h) (none_both xs ys (or_snd _ _ h) k)

-- ---- an accepted Lock

module _ (kind : Kind) (q : Asking) (list image : List ℕ) (ok : (locks kind q list image).answer ≡ 0) where
  abbrev p : ℕ
  p = q.process

  abbrev l : LockList
  l = unpack list

  abbrev f : File
  f = file_of_caller q list

  abbrev r : ℕ
  r = record_of q.fcb

  abbrev o : ℕ
  o = open_of l p f

  quiet : any_row (rows_call kind 42 p q.count (lent_to q list image)) ≡ false
  unfolding locks
  quiet = zero_accepted kind 42 p q.count (lent_to q list image) ok

  general : any_row (rows_all kind 42 p q.count (lent_to q list image)) ≡ false
  unfolding rows_call
  general = (any_append (rows_all kind 42 p q.count (lent_to q list image)) _ quiet).0

  own : any_row (rows42 kind p l o f r q.count q.dma image) ≡ false
  unfolding rows_call chosen rows_of asked asked_by ◌if◌else◌
  own = (any_append (rows_all kind 42 p q.count (lent_to q list image)) _ quiet).1

  through : Passed kind p q.count (lent_to q list image)
  through = passed kind 42 p q.count (lent_to q list image) general

  was : SoundBoth kind list image
  was = let w = through.ready in record { image_sound = w.image_sound; list_long = w.list_long; list_sound = w.list_sound }

  locks_of : SoundLocks kind l image
  locks_of = list_sound_of kind list image was.list_sound

  -- the Unlock of its run has no row that applies, before it ..
  table_quiet : any_row (table_of kind image q list) ≡ false
  unfolding rows_call rows42 rows43
  table_quiet =
      let a : any_row (rows_all kind 43 p q.count (lent_to q list image)) ≡ false = ap any_row (sym (same_general kind q list image)) ∙ general in
      let b : any_row (rows_of (chosen 43) (asked kind p q.count (lent_to q list image)) (lent_to q list image)) ≡ false =
      ap any_row (own_table kind image q list) ∙ run_less kind l o r q.count q.dma _ own in
      none_both (rows_all kind 43 p q.count (lent_to q list image)) _ a b

  -- a caller that holds a record of its file has it open unlocked
  held_unlocked : holds_some q list ≡ true → mode_of q list ≡ 1
  unfolding holds_some holds_at mode_of
  held_unlocked some =
      let w = any_some (holds_at q list) q.count some in
      let h = held_some l p f (r + w.0) w.2 in
      let i = h.0 in
      let two : (item_at l i).kind ≡ 2 = h.3.kind_two in
      let name : (item_at l i).name ≡ f.name = name_is _ _ ((unpack_shape list).names_long i h.1) (caller_long p l q.fcb) h.3.named in
      ⊎_elim (λ (v : Vacant l i). let a = v.kind_zero in absurd (omega arith))
      (λ (v : Used kind image l i). ⊎_elim
      (λ (g : GoodOpen kind image l (item_at l i)). let a = g.kind_one in absurd (omega arith))
      (λ (g : GoodLock kind image l (item_at l i)).
      by_holder (subst (λ (n : List ℕ). Holder l p n) name (subst (λ (x : ℕ). Holder l x (item_at l i).name) h.2 g.holder)))
      v.good)
      (locks_of.place i h.1)
    where
      by_holder : Holder l p f.name → (item_at l (open_of l p f)).mode ≡ 1
      by_holder w = ap (λ (x : ℕ). (item_at l x).mode) (sym (holder_open kind l image locks_of p f w)) ∙ w.mode

  -- in modes 0 and 2 neither does anything
  module _ (mode : eqb (mode_of q list) 1 ≡ false) where
    lock-idle : locks kind q list image ≡ outcome 0 (lent_to q list image)
    unfolding locks chosen effect_of asked asked_by does42 mode_of ◌if◌else◌
    lock-idle = accepted kind 42 p q.count (lent_to q list image) quiet ∙ rw mode refl

    idle_back : after (unlocks kind) q (locks kind q list image) ≡ outcome 0 (lent_to q list image)
    unfolding ◌and◌
    idle_back =
        ap (λ (x : Outcome). unlocks kind q x.left.list x.left.image) lock-idle ∙ unlock_is kind image q list
        ∙ λ i. outcome (none_applies (table_of kind image q list) table_quiet i)
        (lent_to q (unacted kind image q list (rw (table_quiet, mode) refl) i) image)

  -- in unlocked mode
  module _ (mode : eqb (mode_of q list) 1 ≡ true) where
    may : MayLock kind p q.count (lent_to q list image)
    unfolding rows42 mode_of
    may =
        let w = passes_42 kind p l o f r q.count q.dma image (eqb-true _ _ mode) own in
        record {
          is_open = run_open kind l o r q.count q.dma _ own;
          is-unlocked = eqb-true _ _ mode;
          fits = w.fits;
          have_blocks = w.have_blocks;
          none_others = w.none_others;
          within = w.within;
          room = w.room;
        }

    ran : Running kind image l p f r q.count
    ran = running kind image l p f r q.count (unpack_shape list) locks_of (takes_of kind p q.count (lent_to q list image) through may) q.count
        (omega arith)

    -- the list with the run's locks
    abbrev k : LockList
    k = with_items l ran.items

    lock_does : locks kind q list image ≡ outcome 0 (lent_to q (pack k) image)
    unfolding locks chosen effect_of asked asked_by does42 locked_run mode_of ◌if◌else◌
    lock_does = accepted kind 42 p q.count (lent_to q list image) quiet ∙ rw (mode, ran.is) refl

    k_unpacked : unpack (pack k) ≡ k
    k_unpacked = unpacked kind k image ran.sound ran.shape

    now : SoundBoth kind (pack k) image
    now = record {
      image_sound = was.image_sound;
      list_long = pack_long k ran.shape.items_long;
      list_sound = list_sound_so kind k image ran.sound ran.shape;
    }

    filled_lock : (i : ℕ) → Filled l k p f r q.count i → NoOpens (item_at l i) (item_at k i)
    filled_lock i w = record {
      not_was = λ (z : (item_at l i).kind ≡ 1). let a = w.was_empty in absurd (omega arith);
      not_now = λ (z : (item_at k i).kind ≡ 1). let y : ◌≡◌ {A = ℕ} 2 1 = sym (ap (λ (it : Item). it.kind) w.now) ∙ z in absurd (omega arith);
    }

    opens : SameOpens l (unpack (pack k))
    opens = rw k_unpacked (record {
      users = refl;
      long_was = (unpack_shape list).items_long;
      long_now = ran.shape.items_long;
      place = λ i m. ⊎_elim (λ (e : item_at k i ≡ item_at l i). inl e) (λ (e : Filled l k p f r q.count i). inr (filled_lock i e)) (ran.place i m);
    })

    -- .. and after it
    abbrev away : Item → Bool
    away = away_on kind image q list

    acts_now : acts_on kind image q (pack k) ≡ true
    unfolding ◌and◌
    acts_now = (same_table kind image list (pack k) was now opens q).acts ∙ rw (table_quiet, mode) refl

    left_now : left_of kind image q (pack k) ≡ pack (without_all away k)
    left_now =
        acted kind image q (pack k) acts_now
        ∙ (λ i. pack (without_all ((same_table kind image list (pack k) was now opens q).away i) (k_unpacked i)))

    unlock_does : after (unlocks kind) q (locks kind q list image) ≡ outcome 0 (lent_to q (pack (without_all away k)) image)
    unlock_does =
        ap (λ (x : Outcome). unlocks kind q x.left.list x.left.image) lock_does ∙ unlock_is kind image q (pack k)
        ∙ λ i. outcome ((ap first_of (same_table kind image list (pack k) was now opens q).table ∙ none_applies (table_of kind image q list) table_quiet) i)
        (lent_to q (left_now i) image)

    -- a lock of the run goes
    fresh_away : (step : ℕ) → step < q.count → away (fresh_lock p f.name (r + step)) ≡ true
    unfolding is_in_run is_of_file
    fresh_away step m = and_both _ _ refl (and_both _ _ (le-leb r (r + step) (omega arith)) (and_both _ _ (lt-ltb (r + step) (r + q.count) (omega arith))
        (and_both _ _ refl (and_both _ _ (eq-eqb p p refl) (name_refl f.name)))))

    -- an item that was there before the Lock and that the Unlock takes is a lock of the run, which the caller held
    away_held : (i : ℕ) → i < 64 → away (item_at l i) ≡ true → any (holds_at q list) q.count ≡ true
    unfolding is_in_run is_of_file holds_at
    away_held i m h =
        let it = item_at l i in
        let h₁ = and_snd _ _ h in
        let h₂ = and_snd _ _ h₁ in
        let h₃ = and_snd _ _ (and_snd _ _ h₂) in
        let low : r ≤ it.number = leb-true _ _ (and_fst _ _ h₁) in
        let high : it.number < r + q.count = ltb-true _ _ (and_fst _ _ h₂) in
        let step = it.number - r in
        let by : it.process ≡ p = eqb-true _ _ (and_fst _ _ h₃) in
        let e : it.number ≡ r + step = omega arith in
        any_found (holds_at q list) q.count step (omega arith) (held_found l p f (r + step) i m by (record {
          kind_two = eqb-true _ _ (and_fst _ _ h);
          number = e;
          under = ap (λ (x : ℕ). user_of l x) by ∙ sym (caller_user p l q.fcb);
          named = and_snd _ _ h₃;
        }))

    -- a place that the run filled was empty: twenty zeros
    was_zeros : (i : ℕ) → i < 64 → (item_at l i).kind ≡ 0 → item_at l i ≡ empty_place
    was_zeros i m z =
        ⊎_elim (λ (v : Vacant l i). empty_is (item_at l i) z v.zeros ((unpack_shape list).names_long i m))
        (λ (v : Used kind image l i). ⊎_elim
        (λ (g : GoodOpen kind image l (item_at l i)). let a = g.kind_one in absurd (omega arith))
        (λ (g : GoodLock kind image l (item_at l i)). let a = g.kind_two in absurd (omega arith)) v.good)
        (locks_of.place i m)

    gone_at : (i : ℕ) → i < 64 → away (item_at k i) ≡ true → item_at (without_all away k) i ≡ empty_place
    unfolding without_all
    gone_at i m h = at_gone k away (gone_if away) (gone_empties away) ran.shape i m h

    kept_at : (i : ℕ) → i < 64 → away (item_at k i) ≡ false → item_at (without_all away k) i ≡ item_at k i
    unfolding without_all
    kept_at i m h = at_kept k away (gone_if away) (gone_empties away) ran.shape i m h

    after_shape : Shape (without_all away k)
    unfolding without_all
    after_shape = gone_shape k away (gone_if away) (gone_empties away) ran.shape

    module _ (none : holds_some q list ≡ false) where
      place_back : (i : ℕ) → i < 64 → item_at (without_all away k) i ≡ item_at l i
      unfolding holds_some
      place_back i m =
          ⊎_elim
          (λ (e : item_at k i ≡ item_at l i). kept_at i m (ap away e ∙ fails_too (any (holds_at q list) q.count) (away (item_at l i)) (away_held i m) none) ∙ e)
          (λ (e : Filled l k p f r q.count i). gone_at i m (ap away e.now ∙ fresh_away e.step e.before) ∙ sym (was_zeros i m e.was_empty))
          (ran.place i m)

      all_back : without_all away k ≡ l
      unfolding without_all
      all_back =
          let e : map (gone_if away) k.items ≡ l.items =
          sym (tab_get_d (map (gone_if away) k.items) blank 64 after_shape.items_long)
          ∙ tab_ext (item_at (without_all away k)) (item_at l) 64 place_back ∙ tab_get_d l.items blank 64 (unpack_shape list).items_long in
          ap (with_items l) e

      given_back : are_bytes list ≡ true → after (unlocks kind) q (locks kind q list image) ≡ outcome 0 (lent_to q list image)
      given_back bytes =
          unlock_does ∙ ap (λ (x : List ℕ). outcome 0 (lent_to q x image))
          (ap pack all_back ∙ pack_unpack kind list image was.list_long (λ i. byte_small list i bytes) was.list_sound)

    -- a lock that the caller held before is gone
    not_back : holds_some q list ≡ true → pack (without_all away k) ≡ list → ⊥
    unfolding holds_some holds_at is_in_run is_of_file without_all
    not_back some e =
        let w = any_some (holds_at q list) q.count some in
        let h = held_some l p f (r + w.0) w.2 in
        let i = h.0 in
        let m = h.1 in
        let two : (item_at l i).kind ≡ 2 = h.3.kind_two in
        let same : item_at k i ≡ item_at l i = ⊎_elim (λ (d : item_at k i ≡ item_at l i). d)
        (λ (d : Filled l k p f r q.count i). let a = d.was_empty in absurd (omega arith)) (ran.place i m) in
        let number : (item_at l i).number ≡ r + w.0 = h.3.number in
        let below : w.0 < q.count = w.1 in
        let goes : away (item_at l i) ≡ true = and_both _ _ (eq-eqb _ _ two) (and_both _ _ (le-leb r (item_at l i).number (omega arith))
        (and_both _ _ (lt-ltb (item_at l i).number (r + q.count) (omega arith))
        (and_both _ _ (not_of_false _ (ne_eqb _ _ (λ (z : (item_at l i).kind ≡ 0). absurd (omega arith))))
        (and_both _ _ (eq-eqb _ _ h.2) h.3.named)))) in
        let back : l ≡ without_all away k = ap unpack (sym e) ∙ after_unpacked in
        let zero : item_at l i ≡ empty_place = ap (λ (x : LockList). item_at x i) back ∙ gone_at i m (ap away same ∙ goes) in
        let z : (item_at l i).kind ≡ 0 = ap (λ (it : Item). it.kind) zero in
        absurd (omega arith)
      where
        after_unpacked : unpack (pack (without_all away k)) ≡ without_all away k
        after_unpacked = unfold without_all in unpacked kind (without_all away k) image
            (gone_sound k away (gone_if away) (gone_empties away) ran.shape kind image ran.sound (unlock_whole k p f r q.count)) after_shape

-- ---- the statements

-- an accepted Lock on records that the caller did not hold, and the Unlock of that run, give back the list byte for byte; ..
pub unlock_gives_back : (kind : Kind) → GivesBack (locks kind) (unlocks kind)
unfolding GivesBack
unlock_gives_back kind q list image bytes none ok =
    ⊎_elim
    (λ (mode : eqb (mode_of q list) 1 ≡ true). record {
      back = given_back kind q list image ok mode none bytes;
      keeps = rw (lock_does kind q list image ok mode) (record { fcb_same = refl; dma_same = refl; image_same = refl });
    })
    (λ (mode : eqb (mode_of q list) 1 ≡ false). record {
      back = idle_back kind q list image ok mode;
      keeps = rw (lock-idle kind q list image ok mode) (record { fcb_same = refl; dma_same = refl; image_same = refl });
    })
    (either (eqb (mode_of q list) 1))

-- .. on a record that it held they do not
pub takes_held : (kind : Kind) → TakesHeld (locks kind) (unlocks kind)
unfolding TakesHeld
takes_held kind q list image some ok e =
    let on = eq-eqb (mode_of q list) 1 (held_unlocked kind q list image ok some) in
    not_back kind q list image ok on some (sym (ap (λ (o : Outcome). o.left.list) (unlock_does kind q list image ok on)) ∙ e)
