-- All that is claimed of Unlocks: by the rules, and as `mpm_call` promises it. Assumes nothing.
use Prim.Native.Nat.{ℕ}
use mathlib.Core.Path.{◌≡◌, refl, sym, subst, ◌∙◌}
use mathlib.Core.List.{List, [], ◌∷◌}
use native.Mathlib.Omega.{arith}
use Rattle.words.specs.Tests.{◌or◌}
use Rattle.words.specs.Tables.{◌∕◌}
use Rattle.rules.specs.declared.kind.Kind.{Kind}
use Rattle.std.specs.Prelude.{Option, Some, None}
use Rattle.rules.specs.Several.{serves_run}
use Rattle.rules.specs.Told.{call_told}
use Rattle.rules.proofs.Several.{run_plain}
use Rattle.unlocking.specs.Unlocks.{Asking, Doing, lent_to, locks, unlocks, locks_told, unlocks_told, Keeps, Commutes, Repeats, GivesBack, TakesHeld}
use Rattle.unlocking.specs.Unlocks.{list_after, Unlocking}
use Rattle.unlocking.proofs.Orders.{unlocks_commute, unlock_repeats, any_order}
use Rattle.unlocking.proofs.Back.{unlock_gives_back, takes_held}

-- by the rules, on drives of either kind; ..
pub unlocking : (kind : Kind) → Unlocking (locks kind) (unlocks kind)
unlocking kind = record {
  commutes = unlocks_commute kind;
  repeats = unlock_repeats kind;
  gives_back = unlock_gives_back kind;
  takes_held = takes_held kind;
  any_order = any_order kind;
}

-- 42 and 43 take no run of single calls
pub locks_plain : (kind : Kind) → locks_told (Some kind) ≡ locks kind
unfolding locks_told call_told locks serves_run ◌or◌
locks_plain kind = λ i q list image. run_plain kind 42 q.process q.count (lent_to q list image) refl i

-- (the same of 43)
pub unlocks_plain : (kind : Kind) → unlocks_told (Some kind) ≡ unlocks kind
unfolding unlocks_told call_told unlocks serves_run ◌or◌
unlocks_plain kind = λ i q list image. run_plain kind 43 q.process q.count (lent_to q list image) refl i

-- an unknown kind: every call is refused
other_after : (us : List Asking) (list image : List ℕ) → list_after (unlocks_told None) us list image ≡ list
unfolding list_after unlocks_told call_told
other_after [] list image = refl
other_after (u ∷ us) list image = other_after us list image

other_unlocking : Unlocking (locks_told None) (unlocks_told None)
unfolding Commutes Repeats GivesBack TakesHeld locks_told unlocks_told call_told
other_unlocking = record {
  commutes = λ u v list image. record {
    answers_u = refl;
    answers_v = refl;
    list_same = refl;
    keeps_u_first = same u list image;
    keeps_v_second = same v list image;
    keeps_v_first = same v list image;
    keeps_u_second = same u list image;
  };
  repeats = λ u list image. record { same = refl; keeps = same u list image };
  gives_back = λ q list image bytes none ok. absurd (refused ok);
  takes_held = λ q list image some ok e. refused ok;
  any_order = record {
    answers = λ us u list image. refl;
    ends = λ us vs w list image. other_after vs list image ∙ sym (other_after us list image);
  };
}
  where
    same : (q : Asking) (list image : List ℕ) → Keeps q image (unlocks_told None q list image)
    same q list image = unfold unlocks_told call_told in record { fcb_same = refl; dma_same = refl; image_same = refl }

    refused : ◌≡◌ {A = ℕ} (255 ∕ 13) 0 → ⊥
    refused e = absurd (omega arith)

-- .. and as `mpm_call` promises it, whatever number it is told
pub unlocking_told : (t : Option Kind) → Unlocking (locks_told t) (unlocks_told t)
unlocking_told (Some kind) =
    subst (λ (d : Doing). Unlocking d (unlocks_told (Some kind))) (sym (locks_plain kind))
    (subst (λ (d : Doing). Unlocking (locks kind) d) (sym (unlocks_plain kind)) (unlocking kind))
unlocking_told None = other_unlocking
