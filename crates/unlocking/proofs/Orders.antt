-- Two Unlocks in either order, any number of them in any order, one repeated. Assumes nothing.
use Prim.Native.Nat.{ℕ}
use mathlib.Core.Path.{◌≡◌, refl, sym, ap, ◌∙◌}
use mathlib.Core.List.{List, [], ◌∷◌}
use Rattle.words.specs.Tables.{first_of}
use Rattle.rules.specs.declared.kind.Kind.{Kind}
use Rattle.rules.specs.Serves.{Outcome, outcome}
use Rattle.unlocking.specs.Unlocks.{Asking, lent_to, after, unlocks, Keeps, Commutes, Repeats, list_after, Reordered, none, first, exchanged, then}
use Rattle.unlocking.specs.Unlocks.{AnyOrder}
use Rattle.unlocking.proofs.Taken.{table_of, left_of, unlock_is, left_same, left_commutes, left_again}

module _ (kind : Kind) (image : List ℕ) where
  abbrev told : Asking → List ℕ → Outcome
  told u list = outcome (first_of (table_of kind image u list)) (lent_to u (left_of kind image u list) image)

  told_keeps : (u : Asking) (list : List ℕ) → Keeps u image (told u list)
  told_keeps u list = record { fcb_same = refl; dma_same = refl; image_same = refl }

  -- u after v
  told_after : (u v : Asking) (list : List ℕ) → after (unlocks kind) u (unlocks kind v list image) ≡ told u (left_of kind image v list)
  told_after u v list = ap (λ (o : Outcome). unlocks kind u o.left.list o.left.image) (unlock_is kind image v list)
      ∙ unlock_is kind image u (left_of kind image v list)

  code_after : (u v : Asking) (list : List ℕ) → first_of (table_of kind image u (left_of kind image v list)) ≡ first_of (table_of kind image u list)
  code_after u v list = ap first_of (left_same kind image u v list).table

-- two Unlocks give the same answers and bytes in either order
pub unlocks_commute : (kind : Kind) → Commutes (unlocks kind)
unfolding Commutes
unlocks_commute kind u v list image =
    rw (told_after kind image v u list, told_after kind image u v list, unlock_is kind image u list, unlock_is kind image v list) (record {
      answers_u = code_after kind image u v list;
      answers_v = code_after kind image v u list;
      list_same = left_commutes kind image u v list;
      keeps_u_first = told_keeps kind image u list;
      keeps_v_second = told_keeps kind image v (left_of kind image u list);
      keeps_v_first = told_keeps kind image v list;
      keeps_u_second = told_keeps kind image u (left_of kind image v list);
    })

-- one repeated adds nothing
pub unlock_repeats : (kind : Kind) → Repeats (unlocks kind)
unfolding Repeats
unlock_repeats kind u list image = rw (told_after kind image u u list, unlock_is kind image u list) (record {
  same = λ i. outcome (code_after kind image u u list i) (lent_to u (left_again kind image u list i) image);
  keeps = told_keeps kind image u list;
})

-- ---- any number of them

module _ (kind : Kind) where
  answers_so : (us : List Asking) (u : Asking) (list image : List ℕ)
      → (unlocks kind u (list_after (unlocks kind) us list image) image).answer ≡ (unlocks kind u list image).answer
  unfolding list_after
  answers_so [] u list image = refl
  answers_so (v ∷ us) u list image =
      answers_so us u (unlocks kind v list image).left.list image
      ∙ ap (λ (o : Outcome). (unlocks kind u o.left.list image).answer) (unlock_is kind image v list)
      ∙ ap (λ (o : Outcome). o.answer) (unlock_is kind image u (left_of kind image v list))
      ∙ code_after kind image u v list ∙ sym (ap (λ (o : Outcome). o.answer) (unlock_is kind image u list))

  left_list : (u : Asking) (list image : List ℕ) → (unlocks kind u list image).left.list ≡ left_of kind image u list
  left_list u list image = ap (λ (o : Outcome). o.left.list) (unlock_is kind image u list)

  ends_so : (us vs : List Asking) → Reordered us vs → (list image : List ℕ) → list_after (unlocks kind) vs list image ≡ list_after (unlocks kind) us list image
  unfolding list_after
  ends_so us vs none list image = refl
  ends_so us vs (first u xs ys w) list image = ends_so xs ys w (unlocks kind u list image).left.list image
  ends_so us vs (exchanged u v xs) list image =
      ap (λ (k : List ℕ). list_after (unlocks kind) xs k image)
      (left_list u _ image ∙ ap (left_of kind image u) (left_list v list image) ∙ left_commutes kind image u v list
      ∙ sym (left_list v _ image ∙ ap (left_of kind image v) (left_list u list image)))
  ends_so us vs (then xs ys zs a b) list image = ends_so ys zs b list image ∙ ends_so xs ys a list image

  -- in any order they answer the same and leave the same list
  pub any_order : AnyOrder (unlocks kind)
  any_order = record { answers = answers_so; ends = ends_so }
