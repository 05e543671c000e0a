-- What the passes may change: byte 0 of entries in use, and map bytes. Assumes nothing.
use Prim.Native.Nat.{ℕ, zero, suc, ◌+◌, ◌*◌, ◌≤◌, ◌<◌}
use mathlib.Core.Path.{◌≡◌, refl, sym, ap, ◌∙◌}
use mathlib.Core.Bool.{true, false}
use mathlib.Core.List.{List}
use mathlib.Core.Logic.{◌⊎◌, inl, inr, ⊎_elim}
use native.Mathlib.Omega.{arith}
use lib.Dec.{ltb}
use lib.ListN.{length, length-set}
use lib.Seq.{get_or-set_same, get_or-set_other}
use borrow.Author.Tests.{eq-eqb, not-true, ltb-true, ltb-false}
use Rattle.words.specs.Tests.{◌if◌else◌}
use Rattle.words.specs.Lists.{turns}
use Rattle.words.specs.Bytes.{byte}
use Rattle.words.proofs.Tests.{either, equal?, never, and_fst, or_fst}
use Rattle.rules.specs.declared.file.File.{File}
use Rattle.rules.specs.declared.kind.Kind.{Kind}
use Rattle.rules.specs.Kinds.{entries, numbers}
use Rattle.rules.specs.Drive.{is_empty, user_byte, file_at, extent_at, has_first}
use Rattle.rules.proofs.Sound.{Is}
use Rattle.rules.proofs.Frames.{Head, Same, head_of, same_refl, same_then, first, empty_same, extent_same, file_same}
use Rattle.soundness.proofs.Numbers.{numbered, number_out, number_long}
use Rattle.repair.specs.Salvage.{emptied, must_go, weeded_at, begun_at, must_zero, zeroed_at, zeroed_to, cleaned_at, cleaned_to}
use Rattle.repair.proofs.Zeros.{zeroed_byte}

-- entry e was in use; its byte 0 is E5h now, and the rest of it as it was
pub record Gone (s t : List ℕ) (e : ℕ) : Type 0 where
  pub was : is_empty s e ≡ false
  pub now : user_byte t e ≡ 0xE5
  pub rest : (k : ℕ) → 0 < k → k < 32 → byte t (32 * e + k) ≡ byte s (32 * e + k)

-- entries emptied: each is the same or gone
pub record Empties (kind : Kind) (s t : List ℕ) : Type 0 where
  pub len : length t ≡ length s
  pub past : (i : ℕ) → 32 * entries kind ≤ i → byte t i ≡ byte s i
  pub entry : (e : ℕ) → e < entries kind → Same s e t e ⊎ Gone s t e

-- map bytes zeroed: bytes 0 to 15 of each entry are the same, empty entries are, and every byte is as it was or zero
pub record Zeroes (kind : Kind) (s t : List ℕ) : Type 0 where
  pub len : length t ≡ length s
  pub past : (i : ℕ) → 32 * entries kind ≤ i → byte t i ≡ byte s i
  pub head : (e k : ℕ) → e < entries kind → k < 16 → byte t (32 * e + k) ≡ byte s (32 * e + k)
  pub empty : (e : ℕ) → e < entries kind → is_empty s e ≡ true → Same s e t e
  pub bytes : (i : ℕ) → (byte t i ≡ byte s i) ⊎ (byte t i ≡ 0)

-- the same where entry n is in use
record ZeroesIn (kind : Kind) (n : ℕ) (s t : List ℕ) : Type 0 where
  pub zeroes : is_empty s n ≡ false → Zeroes kind s t
  pub len : length t ≡ length s

-- what one step does, all do that come one after the other
module _ (kind : Kind) (R : List ℕ → List ℕ → Type 0) (step : ℕ → List ℕ → List ℕ)
    (none : (s : List ℕ) → R s s) (then : (s t u : List ℕ) → R s t → R t u → R s u) (len : (s t : List ℕ) → R s t → length t ≡ length s) where
  through : (s : List ℕ) (n : ℕ) → 32 * entries kind ≤ length s
      → ((t : List ℕ) (e : ℕ) → e < n → 32 * entries kind ≤ length t → R t (step e t)) → R s (turns step n s)
  unfolding turns
  through s zero long h = none s
  through s (suc n) long h =
      let g = through s n long (λ t e l. h t e (omega arith)) in
      let t = turns step n s in
      then s t (step n t) g (h t n (omega arith) (let k = len s t g in omega arith))

-- one entry emptied: it is empty, ..
pub emptied_there : (s : List ℕ) (n : ℕ) → 32 * n + 32 ≤ length s → is_empty (emptied n s) n ≡ true
unfolding emptied is_empty
emptied_there s n fits = eq-eqb _ _ (get_or-set_same s (32 * n) 229 0 (omega arith))

-- .. and the others stay
pub emptied_other : (s : List ℕ) (n e : ℕ) → (e ≡ n → ⊥) → Same s e (emptied n s) e
unfolding emptied
emptied_other s n e q = record {
  at = λ k l. get_or-set_other s (32 * n) (32 * e + k) 229 0 (λ (z : 32 * e + k ≡ 32 * n). q (omega arith));
}

module _ (kind : Kind) where
  -- ---- entries emptied

  empties_none : (s : List ℕ) → Empties kind s s
  empties_none s = record { len = refl; past = λ i l. refl; entry = λ e l. inl (same_refl s e) }

  -- an entry that is gone is empty
  pub gone_empty : (s t : List ℕ) (e : ℕ) → Gone s t e → is_empty t e ≡ true
  unfolding is_empty
  gone_empty s t e g = eq-eqb _ _ g.now

  -- emptied, and emptied again
  pub empties_then : (s t u : List ℕ) → Empties kind s t → Empties kind t u → Empties kind s u
  empties_then s t u g h = record {
    len = h.len ∙ g.len;
    past = λ i l. h.past i l ∙ g.past i l;
    entry = λ e l.
        ⊎_elim
        (λ (a : Same s e t e). ⊎_elim
        (λ (b : Same t e u e). inl (same_then s t u e a b))
        (λ (b : Gone t u e). inr (record {
          was = sym (empty_same s e t e (head_of s e t e a)) ∙ b.was;
          now = b.now;
          rest = λ k p m. b.rest k p m ∙ a.at k m;
        }))
        (h.entry e l))
        (λ (a : Gone s t e). ⊎_elim
        (λ (b : Same t e u e). inr (record {
          was = a.was;
          now = first t e u e (head_of t e u e b) ∙ a.now;
          rest = λ k p m. b.at k m ∙ a.rest k p m;
        }))
        (λ (b : Gone t u e). absurd (never (gone_empty s t e a) b.was)) (h.entry e l))
        (g.entry e l);
  }

  module _ (s : List ℕ) (n : ℕ) (below : n < entries kind) (long : 32 * entries kind ≤ length s) where
    emptied_gone : is_empty s n ≡ false → Gone s (emptied n s) n
    unfolding emptied
    emptied_gone u = record {
      was = u;
      now = get_or-set_same s (32 * n) 229 0 (omega arith);
      rest = λ j p m. get_or-set_other s (32 * n) (32 * n + j) 229 0 (λ (z : 32 * n + j ≡ 32 * n). absurd (omega arith));
    }

    -- one entry emptied changes nothing but its byte 0
    pub emptied_empties : is_empty s n ≡ false → Empties kind s (emptied n s)
    unfolding emptied
    emptied_empties u = record {
      len = length-set s (32 * n) 229;
      past = λ i k. get_or-set_other s (32 * n) i 229 0 (λ (z : i ≡ 32 * n). absurd (omega arith));
      entry = λ e k. ⊎_elim (λ (q : e ≡ n). rw q (inr (emptied_gone u))) (λ (q : e ≡ n → ⊥). inl (emptied_other s n e q)) (equal? e n);
    }

    weeded_empties : Empties kind s (weeded_at kind n s)
    unfolding weeded_at must_go ◌if◌else◌
    weeded_empties =
        ⊎_elim (λ (h : must_go kind s n ≡ true). rw h (emptied_empties (not-true _ (and_fst _ _ h))))
        (λ (h : must_go kind s n ≡ false). rw h (empties_none s)) (either (must_go kind s n))

    begun_empties : Empties kind s (begun_at kind n s)
    unfolding begun_at has_first ◌if◌else◌
    begun_empties =
        ⊎_elim (λ (h : has_first kind s n ≡ true). rw h (empties_none s))
        (λ (h : has_first kind s n ≡ false). rw h (emptied_empties (or_fst _ _ h))) (either (has_first kind s n))

  module _ (s : List ℕ) (n : ℕ) (m : n ≤ entries kind) (long : 32 * entries kind ≤ length s) where
    -- the first pass so far
    pub turns-weeded : Empties kind s (turns (weeded_at kind) n s)
    turns-weeded =
        through kind (Empties kind) (weeded_at kind) empties_none empties_then (λ a b g. g.len) s n long (λ t e l k. weeded_empties t e (omega arith) k)

    -- the second pass so far
    pub turns_begun : Empties kind s (turns (begun_at kind) n s)
    turns_begun =
        through kind (Empties kind) (begun_at kind) empties_none empties_then (λ a b g. g.len) s n long (λ t e l k. begun_empties t e (omega arith) k)

  -- an entry that is still in use is as it was
  module _ (s t : List ℕ) (h : Empties kind s t) (e : ℕ) (l : e < entries kind) (u : is_empty t e ≡ false) where
    -- all its bytes, ..
    pub still : Same s e t e
    still = ⊎_elim (λ (q : Same s e t e). q) (λ (q : Gone s t e). absurd (never (gone_empty s t e q) u)) (h.entry e l)

    still_head : Head s e t e
    still_head = head_of s e t e still

    -- .. in use, ..
    pub still_used : is_empty s e ≡ false
    still_used = sym (empty_same s e t e still_head) ∙ u

    -- .. of its file, ..
    pub still_file : file_at t e ≡ file_at s e
    still_file = file_same s e t e still_head

    -- .. and that extent of it
    pub still_extent : extent_at t e ≡ extent_at s e
    still_extent = extent_same s e t e still_head

  -- what is that extent of a file after was so before
  pub still_is : (s t : List ℕ) (f : File) (x e : ℕ) → Empties kind s t → e < entries kind → Is t f x e → Is s f x e
  still_is s t f x e h l i = record {
    used = still_used s t h e l i.used;
    file = sym (still_file s t h e l i.used) ∙ i.file;
    extent = sym (still_extent s t h e l i.used) ∙ i.extent;
  }

  -- ---- block numbers zeroed

  zeroes_none : (s : List ℕ) → Zeroes kind s s
  zeroes_none s = record { len = refl; past = λ i l. refl; head = λ e k l m. refl; empty = λ e l u. same_refl s e; bytes = λ i. inl refl }

  -- the heads of entries stay, ..
  pub zeroes_head : (s t : List ℕ) (e : ℕ) → e < entries kind → Zeroes kind s t → Head s e t e
  zeroes_head s t e l g = record { at = λ k m. g.head e k l (omega arith) }

  -- .. so that entries in use are those that were
  pub zeroes_empty : (s t : List ℕ) (e : ℕ) → e < entries kind → Zeroes kind s t → is_empty t e ≡ is_empty s e
  zeroes_empty s t e l g = empty_same s e t e (zeroes_head s t e l g)

  zeroes_then : (s t u : List ℕ) → Zeroes kind s t → Zeroes kind t u → Zeroes kind s u
  zeroes_then s t u g h = record {
    len = h.len ∙ g.len;
    past = λ i l. h.past i l ∙ g.past i l;
    head = λ e k l m. h.head e k l m ∙ g.head e k l m;
    empty = λ e l q. same_then s t u e (g.empty e l q) (h.empty e l (zeroes_empty s t e l g ∙ q));
    bytes = λ i.
        ⊎_elim
        (λ (b : byte u i ≡ byte t i). ⊎_elim (λ (a : byte t i ≡ byte s i). inl (b ∙ a)) (λ (a : byte t i ≡ 0). inr (b ∙ a)) (g.bytes i))
        (λ (b : byte u i ≡ 0). inr b) (h.bytes i);
  }

  -- one number zeroed in an entry in use
  module _ (s : List ℕ) (n q : ℕ) (below : n < entries kind) (short : q < numbers kind) (long : 32 * entries kind ≤ length s) where
    zeroed_out : (i : ℕ) → (i < 32 * n + 16) ⊎ (32 * n + 32 ≤ i) → byte (numbered kind n q 0 s) i ≡ byte s i
    zeroed_out = number_out kind s n q 0 (omega arith) short

    zeroed_long : length (numbered kind n q 0 s) ≡ length s
    zeroed_long = number_long kind s n q 0 (omega arith) short

    -- another entry's byte is not in its map
    elsewhere : (e k : ℕ) → (e ≡ n → ⊥) → k < 32 → (32 * e + k < 32 * n + 16) ⊎ (32 * n + 32 ≤ 32 * e + k)
    elsewhere e k x m =
        ⊎_elim (λ (z : ltb n e ≡ true). let y : n < e = ltb-true n e z in inr (omega arith))
        (λ (z : ltb n e ≡ false). let y : e ≤ n = ltb-false n e z in let v : e < n = omega (arith, x) in inl (omega arith)) (either (ltb n e))

    -- it changes bytes of that entry's map alone
    pub zeroed_zeroes : is_empty s n ≡ false → Zeroes kind s (numbered kind n q 0 s)
    zeroed_zeroes u = record {
      len = zeroed_long;
      past = λ i k. zeroed_out i (inr (omega arith));
      head = λ e k i j.
          ⊎_elim (λ (z : e ≡ n). zeroed_out (32 * e + k) (inl (omega arith)))
          (λ (z : e ≡ n → ⊥). zeroed_out (32 * e + k) (elsewhere e k z (omega arith))) (equal? e n);
      empty = λ e i h. record {
        at = λ k j.
            ⊎_elim (λ (z : e ≡ n). absurd (never (ap (λ (d : ℕ). is_empty s d) (sym z) ∙ h) u))
            (λ (z : e ≡ n → ⊥). zeroed_out (32 * e + k) (elsewhere e k z j)) (equal? e n);
      };
      bytes = zeroed_byte kind s n q (omega arith) short;
    }

    zero_step : ZeroesIn kind n s (zeroed_at kind n q s)
    unfolding zeroed_at ◌if◌else◌
    zero_step =
        ⊎_elim (λ (h : must_zero kind s n q ≡ true). rw h (record { zeroes = zeroed_zeroes; len = zeroed_long }))
        (λ (h : must_zero kind s n q ≡ false). rw h (record { zeroes = λ u. zeroes_none s; len = refl })) (either (must_zero kind s n q))

  in_then : (n : ℕ) → n < entries kind → (s t u : List ℕ) → ZeroesIn kind n s t → ZeroesIn kind n t u → ZeroesIn kind n s u
  in_then n l s t u g h = record {
    zeroes = λ k. zeroes_then s t u (g.zeroes k) (h.zeroes (zeroes_empty s t n l (g.zeroes k) ∙ k));
    len = h.len ∙ g.len;
  }

  -- the third pass in one entry so far
  pub to_zeroes : (s : List ℕ) (n q : ℕ) → n < entries kind → q ≤ numbers kind → 32 * entries kind ≤ length s → is_empty s n ≡ false
      → Zeroes kind s (zeroed_to kind n q s)
  unfolding zeroed_to
  to_zeroes s n q l m long u =
      (through kind (ZeroesIn kind n) (zeroed_at kind n) (λ t. record { zeroes = λ k. zeroes_none t; len = refl }) (in_then n l) (λ a b g. g.len) s q long
      (λ t e k w. zero_step t n e l (omega arith) w)).zeroes u

  cleaned_step : (s : List ℕ) (n : ℕ) → n < entries kind → 32 * entries kind ≤ length s → Zeroes kind s (cleaned_at kind n s)
  unfolding cleaned_at ◌if◌else◌
  cleaned_step s n l long =
      ⊎_elim (λ (u : is_empty s n ≡ true). rw u (zeroes_none s))
      (λ (u : is_empty s n ≡ false). rw u (to_zeroes s n (numbers kind) l (omega arith) long u)) (either (is_empty s n))

  -- the third pass so far
  pub turns_zeroes : (s : List ℕ) (n : ℕ) → n ≤ entries kind → 32 * entries kind ≤ length s → Zeroes kind s (cleaned_to kind n s)
  unfolding cleaned_to
  turns_zeroes s n m long =
      through kind (Zeroes kind) (cleaned_at kind) zeroes_none zeroes_then (λ a b g. g.len) s n long (λ t e l k. cleaned_step t e (omega arith) k)
