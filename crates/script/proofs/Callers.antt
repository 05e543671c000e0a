-- What the engine did with the parts of a record is what the record asks of it. Assumes nothing.
use Rattle.std.proofs.Common.{◌≡◌, ap, ◌∙◌, ℕ, List}
use Rattle.rules.specs.Kinds.{told_rule, told_kind}
use Rattle.rules.specs.Locks.{rule_in}
use Rattle.rules.specs.Serves.{Buffers, buffers}
use Rattle.rules.specs.Vector.{DidFive, built}
use Rattle.rules.specs.Told.{start_told, five_told, build_told}
use Rattle.locklist.specs.Start.{DidStart}
use Rattle.script.specs.Records.{first_number, second_number, third_number, users_in, rule_number, fcb_in, dma_in}
use Rattle.script.specs.Run.{first_kind, start_of, call_of, DidCall}

-- each number is a byte of the record, widened
pub did_start : (s : List ℕ) (c o k r x y z w : ℕ) (users list : List ℕ) (a : ℕ) (l : List ℕ)
    → DidStart (start_told (told_kind first_kind (told_rule r)) c o k r users list) a l
    → c ≡ x → x ≡ first_number s → o ≡ y → y ≡ second_number s → k ≡ z → z ≡ third_number s → r ≡ w → w ≡ rule_number s → users ≡ users_in s
    → DidStart (start_of s list) a l
unfolding start_of
did_start s c o k r x y z w users list a l d hc gc ho go hk gk hr gr u = rw (hc ∙ gc, ho ∙ go, hk ∙ gk, hr ∙ gr, u) at d

pub did_call : (s : List ℕ) (n p c x y z : ℕ) (fcb dma list image vector : List ℕ) (a : ℕ) (f d l i u : List ℕ)
    → DidFive (five_told (told_kind first_kind (rule_in list)) n p c vector (buffers fcb dma list image)) a (buffers f d l i) u
    → n ≡ x → x ≡ first_number s → p ≡ y → y ≡ second_number s → c ≡ z → z ≡ third_number s → fcb ≡ fcb_in s → dma ≡ dma_in s
    → DidCall (call_of s list image vector) a l i u
unfolding call_of
did_call s n p c x y z fcb dma list image vector a f d l i u did hn gn hp gp hc gc hf hd =
    let w : DidFive (call_of s list image vector) a (buffers f d l i) u = rw (hn ∙ gn, hp ∙ gp, hc ∙ gc, hf, hd) at did in
    record {
      gives = w.outcome_so.gives;
      leaves_list = ap (λ (x : Buffers). x.list) w.outcome_so.leaves;
      leaves_image = ap (λ (x : Buffers). x.image) w.outcome_so.leaves;
      leaves_vector = w.vector_so;
    }

-- the vector under the record's rule
pub did_build : (s image v : List ℕ) (r a : ℕ) (u : List ℕ) → r ≡ rule_number s → built a u ≡ build_told (told_kind first_kind (told_rule r)) image v
    → built a u ≡ build_told (told_kind first_kind (told_rule (rule_number s))) image v
did_build s image v r a u h e = e ∙ ap (λ (x : ℕ). build_told (told_kind first_kind (told_rule x)) image v) h
