-- All that is claimed holds. Assumes nothing.
use Prim.Native.Nat.{ℕ, ◌%◌, ◌<◌}
use mathlib.Core.Path.{◌≡◌, refl, sym, ap, subst, ◌∙◌}
use mathlib.Core.Bool.{true, false, not, true≢false}
use mathlib.Core.List.{List}
use mathlib.Core.Logic.{inl, inr, ⊎_elim}
use native.Mathlib.Omega.{arith}
use lib.ListN.{length, replicate}
use borrow.Author.Tests.{eq-eqb, ne_eqb, lt-ltb}
use Rattle.words.specs.Tests.{◌if◌else◌}
use Rattle.words.specs.Tables.{◌∕◌, any_row}
use Rattle.words.proofs.Tests.{either}
use Rattle.words.proofs.Sets.{or_none}
use Rattle.words.proofs.AreBytes.{byte_small}
use Rattle.rules.specs.declared.kind.Rule.{Rule}
use Rattle.rules.specs.declared.kind.Rule.TheVariants.{Mpm}
use Rattle.rules.specs.declared.kind.Kind.{Kind}
use Rattle.rules.specs.declared.kind.Kind.TheVariants.{Small, Large}
use Rattle.std.specs.Prelude.{Option, Some, None}
use Rattle.rules.specs.Kinds.{told_kind, rule_of, with_rule, is_large, vector_size}
use Rattle.rules.specs.Serves.{Outcome, outcome}
use Rattle.rules.specs.Drive.{look_up, sound_image, fault_number, fault_entry, image_number, image_entry, image_told}
use Rattle.rules.specs.Locks.{rule_in, start}
use Rattle.rules.specs.Several.{call_run}
use Rattle.rules.specs.Vector.{Built, built, vector_of, five, call_five, build, rows_build}
use Rattle.rules.proofs.Vector.{vector_bit, build_refused, build_accepted}
use Rattle.rules.specs.Told.{five_told, build_told, check_told, look_told}
use Rattle.rules.proofs.Tables.{accepted, accepted_zero, refused, zero_accepted, did_is}
use Rattle.rules.proofs.Several.{same_left, same_code}
use Rattle.rules.proofs.OneRecord.{one_record}
use Rattle.rules.proofs.Packing.{pack_unpack}
use Rattle.rules.proofs.SoundList.{list_sound_of, unpack_shape, unpacked}
use Rattle.rules.proofs.Look.{look_inside, look_apart}
use Rattle.rules.proofs.Answers.{one_told}
use Rattle.rules.proofs.Checks.{check_tells}
use Rattle.rules.proofs.Highest.{highest_most}
use Rattle.listing.proofs.Searches.{searches}
use Rattle.listing.proofs.Shown.{lists_matching}
use Rattle.soundness.proofs.SizedCalls.{made_zero, size_written, size_rewritten, size_renamed}
use Rattle.rules.proofs.Told.{other_check, other_look, other_five}
use Rattle.session.specs.Open.{rules}
use Rattle.session.specs.Session.{first_list}
use Rattle.session.proofs.Session.{the_session}
use Rattle.unlocking.proofs.All.{unlocking_told}
use Rattle.unlocking.proofs.Tried.{wrong_unlocks}
use Rattle.filling.proofs.Least.{least}
use Rattle.repair.specs.Salvage.{salvage_told}
use Rattle.repair.proofs.Cleaning.{repaired_sound}
use Rattle.repair.proofs.Unchanged.{repaired_same, report_none}
use Rattle.repair.proofs.Mends.{repaired_mends}
use Rattle.repair.proofs.Report.{report_compares}
use Rattle.packing.proofs.Sound.{packed_sound}
use Rattle.packing.proofs.Kept.{length-packed, look-packed, missing-packed, entry_packed}
use Rattle.packing.proofs.Twice.{packed_twice, free_packed, free_highest}
use Rattle.packing.proofs.Answers.{pack_accepts, pack_zero, pack_leaves}
use Rattle.packing.specs.Same.{same_told}
use Rattle.packing.proofs.Decides.{same_sym}
use Rattle.packing.proofs.Accepted.{same_refl, same_then, accepted_so, accepted_of, first_unsound, second_unsound, different, packed_accepted, accepted_packed}
use Rattle.repair.proofs.Outcome.{refused_nothing, good_answered, salvaged_twice}
use Rattle.history.specs.History.{Ask, State, Engine, is_word, is_lendable, is_possible, is_kept, lent, outcome_of, with_count}
use Rattle.history.specs.Deeds.{done_in}
use Rattle.history.specs.Demands.{NoTrace, Demand1, Demand2}
use Rattle.claims.specs.Five.{FiveEngine, OfRule, five_of, four}
use Rattle.claims.proofs.Five.{four_serves, vector_claims}
use Rattle.claims.proofs.Rules.{sound_zero, packed_rule, rule_claims}
use Rattle.claims.specs.Claims.{BuildClaims, Claims, KeepsContract, Refuses, ToldClaims, TheSession, LookClaims, CheckClaims, SizeClaims, SalvageClaims}
use Rattle.claims.specs.Claims.{PackClaims, SameClaims, AllClaims}
use Rattle.history.proofs.First.{leaves_no_trace, counted_possible, fewer_possible}
use Rattle.history.proofs.Alike.{meets_third}
use Rattle.history.proofs.Unlocks.{unlock_order}
use Rattle.history.proofs.Sizing.{nobody_turned_away}
use Rattle.history.proofs.Sized.{size_most, size_told, run_kept}
use Rattle.claims.proofs.Wrong.{refusing_differs, accepting_differs, idle_differs, not_idle, not_pretending, made_up_differs, not_made_up, not_unbitted}
use Rattle.claims.proofs.Wrong.{not_lavish, not_promoting}

-- ---- of an engine that serves as the rules do

module _ (kind : Kind) (e : Engine) (serves : Demand2 kind e) where
  so : (before : List Ask) (q : Ask) (s : State) → is_possible q ≡ true → is_kept s ≡ true → outcome_of (e before) q s ≡ outcome_of (call_run kind) q s
  unfolding Demand2
  so = serves

  -- of the call with as many records as were done, too
  no_trace : (before : List Ask) (q : Ask) (s : State) → is_possible q ≡ true → is_kept s ≡ true → NoTrace (e before) q s
  no_trace before q s may h =
      let o = so before q s may h in
      let w = leaves_no_trace kind q s in
      record {
        unchanged = λ z d. ap (λ (x : Outcome). x.left) o ∙ w.unchanged (rw o at z) (rw o at d);
        no_trace = λ z. rw o (so before (with_count (done_in (outcome_of (call_run kind) q s).answer) q) s (fewer_possible kind q s may) h
            ∙ w.no_trace (rw o at z));
      }

  -- such an engine meets the three demands, and is that of single calls but for the four bits
  pub claims : Claims kind e
  unfolding Demand1 outcome_of
  claims = record {
    demand_1 = no_trace;
    demand_2 = serves;
    demand_3 = meets_third kind e serves;
    as_singly_left = λ before q s may h. ap (λ (o : Outcome). o.left) (so before q s may h) ∙ same_left kind q.function q.process q.count (lent q s);
    as_singly_code = λ before q s may h. ap (λ (o : Outcome). o.answer % (0 ∕ 16)) (so before q s may h)
        ∙ same_code kind q.function q.process q.count (lent q s);
    one_record = λ before q s may h. so before (with_count 1 q) s (counted_possible q 1 may (omega arith)) h
        ∙ one_record kind q.function q.process (lent q s);
    unlock_order = unlock_order kind e serves;
    nobody_turned_away = nobody_turned_away kind e serves;
  }

-- ---- of an engine that keeps the contract, told the kind by a number and the rule by the list

module _ (e : ℕ → FiveEngine) (keeps : KeepsContract e) where
  told_so : (k : ℕ) → is_word k ≡ true → (before : List Ask) (q : Ask) (s : State) (v : List ℕ) → is_possible q ≡ true → is_kept s ≡ true → is_lendable v ≡ true
      → five_of (e k) before q s v ≡ five_told (told_kind k (rule_in s.list)) q.function q.process q.count v (lent q s)
  unfolding KeepsContract
  told_so k word before q s v may h b = let w = keeps k word before q s v may h b in
      λ j. record { did = did_is _ _ _ w.outcome_so j; vector = w.vector_so j }

  of_kind : (k : ℕ) (kind : Kind) → is_word k ≡ true → (before : List Ask) (q : Ask) (s : State) (v : List ℕ)
      → is_possible q ≡ true → is_kept s ≡ true → is_lendable v ≡ true → told_kind k (rule_in s.list) ≡ Some kind
      → five_of (e k) before q s v ≡ call_five kind q.function q.process q.count v (lent q s)
  unfolding five_told
  of_kind k kind word before q s v may h b told =
      told_so k word before q s v may h b ∙ ap (λ (t : Option Kind). five_told t q.function q.process q.count v (lent q s)) told

  other_kind : (k : ℕ) (u : Rule) → (k ≡ 0 → ⊥) → (k ≡ 1 → ⊥) → told_kind k u ≡ None
  unfolding told_kind ◌if◌else◌
  other_kind k u a b = rw (ne_eqb k 0 a, ne_eqb k 1 b)

  unknown : (k : ℕ) → (k ≡ 0 → ⊥) → (k ≡ 1 → ⊥) → is_word k ≡ true → (before : List Ask) (q : Ask) (s : State) (v : List ℕ)
      → is_possible q ≡ true → is_kept s ≡ true → is_lendable v ≡ true → five_of (e k) before q s v ≡ five (outcome (255 ∕ 13) (lent q s)) v
  unfolding five_told
  unknown k a b word before q s v may h y =
      told_so k word before q s v may h y
      ∙ ap (λ (t : Option Kind). five_told t q.function q.process q.count v (lent q s)) (other_kind k (rule_in s.list) a b)

  -- a book of one kind, told the other: f is the kind that k tells
  refuses : (own : Kind) (f : Rule → Kind) (k : ℕ) → is_word k ≡ true → ((u : Rule) → is_large own ≡ is_large (f u) → ⊥)
      → ((u : Rule) → told_kind k u ≡ Some (f u)) → (before : List Ask) (q : Ask) (s : State) (v : List ℕ)
      → is_possible q ≡ true → is_kept s ≡ true → is_lendable v ≡ true → sound_image own s.image ≡ true → Refuses e k before q s v
  unfolding Refuses
  refuses own f k word other told before q s v may h b sound =
      let u = rule_in s.list in
      let r = of_kind k (f u) word before q s v may h b (told u) in
      ⊎_elim (λ z. inl (r ∙ z)) (λ z. inr (r ∙ z)) (other_five own (f u) (other u) s.image sound q.function q.process q.count (lent q s) refl v)

  first_told : (u : Rule) → told_kind 0 u ≡ Some (Small u)
  unfolding told_kind ◌if◌else◌
  first_told u = refl

  second_told : (u : Rule) → told_kind 1 u ≡ Some (Large u)
  unfolding told_kind ◌if◌else◌
  second_told u = refl

  word : (k : ℕ) → k < 4294967296 → is_word k ≡ true
  unfolding is_word
  word k h = lt-ltb k 4294967296 h

  -- on lists that choose its rule, it serves as the rules do
  serves_first : (u : Rule) (before : List Ask) (q : Ask) (s : State) (v : List ℕ) → is_possible q ≡ true → is_kept s ≡ true → is_lendable v ≡ true
      → OfRule (Small u) s → five_of (e 0) before q s v ≡ call_five (Small u) q.function q.process q.count v (lent q s)
  unfolding rule_of
  serves_first u before q s v may h b same =
      of_kind 0 (Small u) (word 0 (omega arith)) before q s v may h b (ap (told_kind 0) same ∙ first_told u)

  serves_second : (u : Rule) (before : List Ask) (q : Ask) (s : State) (v : List ℕ) → is_possible q ≡ true → is_kept s ≡ true → is_lendable v ≡ true
      → OfRule (Large u) s → five_of (e 1) before q s v ≡ call_five (Large u) q.function q.process q.count v (lent q s)
  unfolding rule_of
  serves_second u before q s v may h b same =
      of_kind 1 (Large u) (word 1 (omega arith)) before q s v may h b (ap (told_kind 1) same ∙ second_told u)

  sizes_apart : (u w : Rule) → is_large (Small u) ≡ is_large (Large w) → ⊥
  unfolding is_large
  sizes_apart u w h = true≢false (sym h)

  told_claims : ToldClaims e
  told_claims = record {
    first_kind = λ u. claims (Small u) (four (Small u) (e 0)) (four_serves (Small u) (e 0) (serves_first u));
    second_kind = λ u. claims (Large u) (four (Large u) (e 1)) (four_serves (Large u) (e 1) (serves_second u));
    first_vector = λ u. vector_claims (Small u) (e 0) (serves_first u);
    second_vector = λ u. vector_claims (Large u) (e 1) (serves_second u);
    unknown_kind = unknown;
    first_as_second = λ u. refuses (Small u) (λ (w : Rule). Large w) 1 (word 1 (omega arith)) (sizes_apart u) second_told;
    second_as_first = λ u. refuses (Large u) (λ (w : Rule). Small w) 0 (word 0 (omega arith)) (λ w h. sizes_apart w u (sym h)) first_told;
  }

-- ---- of the rules

build_claims : BuildClaims
build_claims = record {
  refused = unbuilt;
  done = built_well;
  bit = λ kind s b low. vector_bit kind s b low;
}
  where
    quiet : (kind : Kind) (s v : List ℕ) → sound_image kind s ≡ true → length v ≡ vector_size kind → any_row (rows_build kind s v) ≡ false
    quiet kind s v sound long = unfold rows_build any_row in or_none _ _ (ap not (eq-eqb _ _ long)) (or_none _ _ (ap not sound) refl)

    built_well : (kind : Kind) (s v : List ℕ) → sound_image kind s ≡ true → length v ≡ vector_size kind → build_told (Some kind) s v ≡ built (0 ∕ 0) (vector_of kind s)
    built_well kind s v sound long = unfold build_told in build_accepted kind s v (quiet kind s v sound long)

    known : (kind : Kind) (s v : List ℕ) → ((build kind s v).answer ≡ 0 → ⊥) → (build kind s v).vector ≡ v
    known kind s v z =
        ⊎_elim (λ (h : any_row (rows_build kind s v) ≡ true). ap (λ (x : Built). x.vector) (build_refused kind s v h))
        (λ (h : any_row (rows_build kind s v) ≡ false). absurd (z (ap (λ (x : Built). x.answer) (build_accepted kind s v h))))
        (either (any_row (rows_build kind s v)))

    unbuilt : (told : Option Kind) (s v : List ℕ) → ((build_told told s v).answer ≡ 0 → ⊥) → (build_told told s v).vector ≡ v
    unbuilt (Some kind) s v z = unfold build_told in known kind s v z
    unbuilt None s v z = unfold build_told in refl

session_claims : TheSession
session_claims = record { first-list = started; as_listed = the_session }
  where
    started : (list : List ℕ) → length list ≡ 1316 → start (Small Mpm) 3 2 2 0 (replicate 16 0) list ≡ record { answer = 0 ∕ 0; list = first_list }
    started list h = unfold rules first_list in rw h refl

look_claims : LookClaims
look_claims = record {
  inside = λ kind user name r s some. look_inside kind user name r s some;
  apart = λ kind u v m n r q s a b. ⊎_elim (λ z. inl z) (λ z. inr z.apart) (look_apart kind u v m n r q s a b);
  other_check = checks;
  other_look = looks;
}
  where
    checks : (own kind : Kind) → (is_large own ≡ is_large kind → ⊥) → (s : List ℕ) → sound_image own s ≡ true → check_told (Some kind) s ≡ 1
    checks own kind other s sound = unfold check_told image_told image_number image_entry fault_number fault_entry in ap image_told (other_check own kind other s sound)

    looks : (own kind : Kind) → (is_large own ≡ is_large kind → ⊥) → (s : List ℕ) → sound_image own s ≡ true → (user : ℕ) (name : List ℕ) (r : ℕ)
        → look_told (Some kind) user name r s ≡ 0
    looks own kind other s sound user name r = unfold look_told in other_look own kind other s sound user name r

check_claims : CheckClaims
check_claims = record { tells = check_tells; told = λ kind s. unfold check_told in refl; told_apart = one_told }

size_claims : SizeClaims
size_claims = record {
  told = size_told;
  most = size_most;
  highest = λ kind s f e l h. unfold look_up in highest_most kind s f e l h;
  made = made_zero;
  written = size_written;
  rewritten = size_rewritten;
  kept = run_kept;
  renamed = size_renamed;
}

salvage_claims : SalvageClaims
unfolding salvage_told
salvage_claims = record {
  refused = refused_nothing;
  done = λ kind s r h l. good_answered kind s r l h;
  sound = repaired_sound;
  unchanged = λ kind s h. (repaired_same kind s h, report_none kind s h);
  mends = repaired_mends;
  reports = λ kind s h e l. report_compares kind s h e l;
  twice = salvaged_twice;
}

pack_claims : PackClaims
pack_claims = record {
  refused = pack_leaves;
  done = pack_accepts;
  done_only = pack_zero;
  sound = packed_sound;
  as_long = length-packed;
  look_stays = look-packed;
  same_extents = missing-packed;
  heads_stay = entry_packed;
  twice = packed_twice;
  as_many_free = free_packed;
  free_highest = free_highest;
}

same_claims : SameClaims
same_claims = record {
  accepted = λ kind s t g h k. accepted_so kind s t (record { first_sound = g; second_sound = h; same = k });
  accepted_only = λ told s t z.
      let w = accepted_of told s t z in (w.0, w.1, w.2.first_sound, w.2.second_sound, w.2.same);
  unknown_kind = λ s t. unfold same_told in refl;
  first_unsound = first_unsound;
  second_unsound = second_unsound;
  different = different;
  packed_form = λ kind s h.
      let g = sound_zero kind s h in
      let e = packed_rule Mpm kind s in (
        subst (λ (t : List ℕ). same_told (Some (with_rule Mpm kind)) s t ≡ 0) e (packed_accepted (with_rule Mpm kind) s g),
        subst (λ (t : List ℕ). same_told (Some (with_rule Mpm kind)) t s ≡ 0) e (accepted_packed (with_rule Mpm kind) s g),
      );
  itself = same_refl;
  turned = same_sym;
  through = same_then;
}

-- every promise, of every engine that keeps the contract, and of the rules
pub all_claims : AllClaims
all_claims = record {
  builds = build_claims;
  engine = told_claims;
  wrong_fall = record {
    refusing_differs = refusing_differs;
    accepting_differs = accepting_differs;
    idle_differs = idle_differs;
    not_idle = not_idle;
    not_pretending = not_pretending;
    made_up_differs = made_up_differs;
    not_made_up = not_made_up;
    not_unbitted = not_unbitted;
    not_lavish = not_lavish;
    not_promoting = not_promoting;
  };
  the_session = session_claims;
  tables = record { accepted = accepted; accepted_zero = accepted_zero; refused = refused; zero_accepted = zero_accepted };
  round_trips = record {
    pack_unpack = λ kind list s long bytes sound. pack_unpack kind list s long (λ i. byte_small list i bytes) sound;
    unpack_pack = λ kind list s sound. unpacked kind _ s (list_sound_of kind list s sound) (unpack_shape list);
  };
  looks = look_claims;
  checks = check_claims;
  unlocks = record { unlocking = unlocking_told; wrong_fall = wrong_unlocks };
  sizes = size_claims;
  searches = record { searched = searches; lists = lists_matching };
  salvages = salvage_claims;
  packs = pack_claims;
  sames = same_claims;
  rules = rule_claims;
  least = least;
}
