-- The session is as listed. Each call is computed from the state listed before it. Assumes nothing.
use Prim.Native.Nat.{ℕ}
use mathlib.Core.Path.{◌≡◌, refl, ◌∙◌}
use Rattle.words.specs.Tests.{◌or◌}
use Rattle.words.specs.Tables.{◌∕◌}
use Rattle.rules.specs.declared.kind.Kind.TheVariants.{Small}
use Rattle.rules.specs.declared.kind.Rule.TheVariants.{Mpm}
use Rattle.rules.specs.Serves.{Buffers, Outcome, outcome, buffers}
use Rattle.rules.specs.Call.{call}
use Rattle.rules.specs.Several.{serves_run, call_run}
use Rattle.rules.proofs.Several.{run_plain}
use Rattle.rules.proofs.OneRecord.{one_record}
use Rattle.session.specs.Open.{rules}
use Rattle.session.specs.Session.{AsListed, session, orders, fcb_with, dma_with, first_image, first_list, image_with, unwritten, written_with, list_with, open_by}
use Rattle.session.specs.Session.{lock_by, none, list0, list1, list3, list11, list12, list13, image0, image2, image5, image13}

s0 : call (Small Mpm) 22 1 1 (buffers (fcb_with 0) (dma_with 0) first_list first_image) ≡ outcome (0 ∕ 0) (buffers (fcb_with 0) (dma_with 0) list0 image0)
unfolding rules orders fcb_with dma_with first_image first_list image_with unwritten written_with list_with open_by lock_by none image0 list0
s0 = refl

s1 : call (Small Mpm) 15 2 1 (buffers (fcb_with 0) (dma_with 0) list0 image0) ≡ outcome (0 ∕ 0) (buffers (fcb_with 1) (dma_with 0) list1 image0)
unfolding rules orders fcb_with dma_with first_image first_list image_with unwritten written_with list_with open_by lock_by none image0 list0 list1
s1 = refl

s2 : call (Small Mpm) 34 1 1 (buffers (fcb_with 0) (dma_with 0) list1 image0) ≡ outcome (0 ∕ 0) (buffers (fcb_with 0) (dma_with 0) list1 image2)
unfolding rules orders fcb_with dma_with first_image first_list image_with unwritten written_with list_with open_by lock_by none image0 image2 list1
s2 = refl

s3 : call (Small Mpm) 42 1 1 (buffers (fcb_with 0) (dma_with 0) list1 image2) ≡ outcome (0 ∕ 0) (buffers (fcb_with 0) (dma_with 0) list3 image2)
unfolding rules orders fcb_with dma_with first_image first_list image_with unwritten written_with list_with open_by lock_by none image2 list1 list3
s3 = refl

s4 : call (Small Mpm) 34 2 1 (buffers (fcb_with 0) (dma_with 1) list3 image2) ≡ outcome (8 ∕ 0) (buffers (fcb_with 0) (dma_with 1) list3 image2)
unfolding rules orders fcb_with dma_with first_image first_list image_with unwritten written_with list_with open_by lock_by none image2 list3
s4 = refl

s5 : call (Small Mpm) 34 2 1 (buffers (fcb_with 8) (dma_with 1) list3 image2) ≡ outcome (0 ∕ 0) (buffers (fcb_with 8) (dma_with 1) list3 image5)
unfolding rules orders fcb_with dma_with first_image first_list image_with unwritten written_with list_with open_by lock_by none image2 image5 list3
s5 = refl

s6 : call (Small Mpm) 42 2 1 (buffers (fcb_with 8) (dma_with 1) list3 image5) ≡ outcome (14 ∕ 0) (buffers (fcb_with 8) (dma_with 1) list3 image5)
unfolding rules orders fcb_with dma_with first_image first_list image_with unwritten written_with list_with open_by lock_by none image5 list3
s6 = refl

s7 : call (Small Mpm) 34 2 1 (buffers (fcb_with 16) (dma_with 1) list3 image5) ≡ outcome (2 ∕ 0) (buffers (fcb_with 16) (dma_with 1) list3 image5)
unfolding rules orders fcb_with dma_with first_image first_list image_with unwritten written_with list_with open_by lock_by none image5 list3
s7 = refl

s8 : call (Small Mpm) 46 1 1 (buffers (fcb_with 0) (dma_with 0) list3 image5) ≡ outcome (0 ∕ 0) (buffers (fcb_with 0) (dma_with 0) list3 image5)
unfolding rules orders fcb_with dma_with first_image first_list image_with unwritten written_with list_with open_by lock_by none image5 list3
s8 = refl

s9 : call (Small Mpm) 42 1 1 (buffers (fcb_with 0) (dma_with 0) list3 image5) ≡ outcome (0 ∕ 0) (buffers (fcb_with 0) (dma_with 0) list3 image5)
unfolding rules orders fcb_with dma_with first_image first_list image_with unwritten written_with list_with open_by lock_by none image5 list3
s9 = refl

s10 : call (Small Mpm) 42 1 2 (buffers (fcb_with 0) (dma_with 0) list3 image5) ≡ outcome (12 ∕ 0) (buffers (fcb_with 0) (dma_with 0) list3 image5)
unfolding rules orders fcb_with dma_with first_image first_list image_with unwritten written_with list_with open_by lock_by none image5 list3
s10 = refl

s11 : call (Small Mpm) 143 1 1 (buffers (fcb_with 0) (dma_with 0) list3 image5) ≡ outcome (0 ∕ 0) (buffers (fcb_with 0) (dma_with 0) list11 image5)
unfolding rules orders fcb_with dma_with first_image first_list image_with unwritten written_with list_with open_by lock_by none image5 list11 list3
s11 = refl

s12 : call (Small Mpm) 42 2 1 (buffers (fcb_with 8) (dma_with 1) list11 image5) ≡ outcome (0 ∕ 0) (buffers (fcb_with 8) (dma_with 1) list12 image5)
unfolding rules orders fcb_with dma_with first_image first_list image_with unwritten written_with list_with open_by lock_by none image5 list11 list12
s12 = refl

s13 : call (Small Mpm) 19 2 1 (buffers (fcb_with 0) (dma_with 1) list12 image5) ≡ outcome (0 ∕ 0) (buffers (fcb_with 0) (dma_with 1) list13 image13)
unfolding rules orders fcb_with dma_with first_image first_list image_with unwritten written_with list_with open_by lock_by none image13 image5 list12 list13
s13 = refl

-- of one record, and of no run of records, the call is the plain one
one : (n p : ℕ) (b : Buffers) (o : Outcome) → call (Small Mpm) n p 1 b ≡ o → call_run (Small Mpm) n p 1 b ≡ o
one n p b o h = one_record (Small Mpm) n p b ∙ h

two : (p c : ℕ) (b : Buffers) (o : Outcome) → call (Small Mpm) 42 p c b ≡ o → call_run (Small Mpm) 42 p c b ≡ o
unfolding serves_run ◌or◌
two p c b o h = run_plain (Small Mpm) 42 p c b refl ∙ h

pub the_session : AsListed first_list first_image session
unfolding AsListed session
the_session = (
  one _ _ _ _ s0,
  (
    one _ _ _ _ s1,
    (
      one _ _ _ _ s2,
      (
        one _ _ _ _ s3,
        (
          one _ _ _ _ s4,
          (
            one _ _ _ _ s5,
            (
              one _ _ _ _ s6,
              (
                one _ _ _ _ s7,
                (one _ _ _ _ s8, (one _ _ _ _ s9, (two _ _ _ _ s10, (one _ _ _ _ s11, (one _ _ _ _ s12, (one _ _ _ _ s13, tt)))))),
              ),
            ),
          ),
        ),
      ),
    ),
  ),
)
