-- Bytes stay bytes: cut, joined, put into each other. Assumes nothing.
use Prim.Native.Nat.{ℕ, zero, suc, ◌+◌, ◌/◌, ◌%◌, ◌<◌}
use mathlib.Core.Path.{◌≡◌, refl}
use mathlib.Core.Bool.{true}
use mathlib.Core.List.{List, [], ◌∷◌, ◌++◌}
use native.Mathlib.Omega.{arith}
use lib.ListN.{length, get_or, take, drop, set, replicate}
use borrow.Author.Tests.{ltb-true, lt-ltb}
use Rattle.words.specs.Lists.{tab, flat, turns}
use Rattle.words.specs.Bytes.{byte, part, put, le, are_bytes}
use Rattle.words.proofs.Tests.{and_fst, and_snd}
use Rattle.words.proofs.Sets.{and_both}

pub bytes_cons : (x : ℕ) (s : List ℕ) → x < 256 → are_bytes s ≡ true → are_bytes (x ∷ s) ≡ true
unfolding are_bytes
bytes_cons x s h k = and_both _ _ (lt-ltb x 256 h) k

pub bytes_append : (a b : List ℕ) → are_bytes a ≡ true → are_bytes b ≡ true → are_bytes (a ++ b) ≡ true
unfolding are_bytes
bytes_append [] b h k = k
bytes_append (x ∷ a) b h k = and_both _ _ (and_fst _ _ h) (bytes_append a b (and_snd _ _ h) k)

pub bytes_take : (n : ℕ) (s : List ℕ) → are_bytes s ≡ true → are_bytes (take n s) ≡ true
unfolding are_bytes
bytes_take zero s h = refl
bytes_take (suc n) [] h = refl
bytes_take (suc n) (x ∷ s) h = and_both _ _ (and_fst _ _ h) (bytes_take n s (and_snd _ _ h))

pub bytes_drop : (n : ℕ) (s : List ℕ) → are_bytes s ≡ true → are_bytes (drop n s) ≡ true
unfolding are_bytes
bytes_drop zero s h = h
bytes_drop (suc n) [] h = refl
bytes_drop (suc n) (x ∷ s) h = bytes_drop n s (and_snd _ _ h)

pub bytes_part : (at n : ℕ) (s : List ℕ) → are_bytes s ≡ true → are_bytes (part at n s) ≡ true
bytes_part at n s h = bytes_take n (drop at s) (bytes_drop at s h)

pub bytes_put : (at : ℕ) (v s : List ℕ) → are_bytes v ≡ true → are_bytes s ≡ true → are_bytes (put at v s) ≡ true
unfolding put
bytes_put at v s h k =
    bytes_append (take at s ++ v) (drop (at + length v) s) (bytes_append (take at s) v (bytes_take at s k) h) (bytes_drop (at + length v) s k)

pub bytes_set : (s : List ℕ) (i x : ℕ) → x < 256 → are_bytes s ≡ true → are_bytes (set s i x) ≡ true
unfolding are_bytes
bytes_set [] i x h k = refl
bytes_set (y ∷ s) zero x h k = and_both _ _ (lt-ltb x 256 h) (and_snd _ _ k)
bytes_set (y ∷ s) (suc i) x h k = and_both _ _ (and_fst _ _ k) (bytes_set s i x h (and_snd _ _ k))

-- each of them is one, and past the end stands a zero
pub byte_small : (s : List ℕ) (i : ℕ) → are_bytes s ≡ true → byte s i < 256
unfolding are_bytes
byte_small [] i h = omega arith
byte_small (x ∷ s) zero h = ltb-true _ _ (and_fst _ _ h)
byte_small (x ∷ s) (suc i) h = byte_small s i (and_snd _ _ h)

pub bytes_replicate : (n x : ℕ) → x < 256 → are_bytes (replicate n x) ≡ true
unfolding are_bytes
bytes_replicate zero x h = refl
bytes_replicate (suc n) x h = and_both _ _ (lt-ltb x 256 h) (bytes_replicate n x h)

pub bytes_tab : (f : ℕ → ℕ) (n : ℕ) → ((k : ℕ) → k < n → f k < 256) → are_bytes (tab f n) ≡ true
unfolding are_bytes tab
bytes_tab f zero h = refl
bytes_tab f (suc n) h = and_both _ _ (lt-ltb (f 0) 256 (h 0 (omega arith))) (bytes_tab (λ (k : ℕ). f (suc k)) n (λ k m. h (suc k) (omega arith)))

pub bytes_flat : {A : Type 0} (f : A → List ℕ) (d : A) (xs : List A) → ((i : ℕ) → i < length xs → are_bytes (f (get_or xs i d)) ≡ true)
    → are_bytes (flat f xs) ≡ true
unfolding are_bytes flat
bytes_flat f d [] h = refl
bytes_flat f d (x ∷ xs) h = bytes_append (f x) (flat f xs) (h 0 (omega arith)) (bytes_flat f d xs (λ i m. h (suc i) (omega arith)))

pub bytes_le : (k n : ℕ) → are_bytes (le k n) ≡ true
unfolding are_bytes le
bytes_le zero n = refl
bytes_le (suc k) n = and_both _ _ (lt-ltb (n % 256) 256 (omega arith)) (bytes_le k (n / 256))

pub bytes_turns : (step : ℕ → List ℕ → List ℕ) (n : ℕ) (s : List ℕ) → ((k : ℕ) (t : List ℕ) → are_bytes t ≡ true → are_bytes (step k t) ≡ true)
    → are_bytes s ≡ true → are_bytes (turns step n s) ≡ true
unfolding turns
bytes_turns step zero s h k = k
bytes_turns step (suc n) s h k = h n (turns step n s) (bytes_turns step n s h k)
