-- A record is what its parts make, and its parts are what it was made of. Assumes nothing.
use Rattle.std.proofs.Common.{◌≡◌, refl, sym, ap, ◌∙◌, ℕ, ◌≤◌, true, false, true≢false, List, [], ◌∷◌, ◌++◌, length, take, drop, arith, eqb, eq-eqb, ne_eqb, eqb-true, ⊎_elim, length-append, length-drop, drop_of_length-le, take-append-drop, take_at, take_all, drop_at, drop-drop, drop-cons}
use Rattle.std.specs.List.{starts_with}
use lib.Seq.{get_or_at}
use Rattle.words.specs.Tests.{◌and◌}
use Rattle.words.specs.Bytes.{byte}
use Rattle.words.proofs.Tests.{either, and_fst, and_snd}
use Rattle.rules.specs.Serves.{processes, fcb_size, dma_size}
use Rattle.script.specs.Records.{start_size, call_size, start_record, call_record, is_record, is_start, is_call, first_number, second_number, third_number, users_in}
use Rattle.script.specs.Records.{rule_number, fcb_in, dma_in}

-- ---- from parts to the record and back

module _ (capacity opens locks : ℕ) (users : List ℕ) (rule : ℕ) (h : length users ≡ processes) where
  pub start_is : is_start (start_record capacity opens locks users rule) ≡ true
  unfolding start_record is_record ◌and◌
  start_is = rw (eq-eqb (length (start_record capacity opens locks users rule)) start_size (omega (arith, length-append users (rule ∷ []))))

  pub start_first : first_number (start_record capacity opens locks users rule) ≡ capacity
  unfolding start_record
  start_first = refl

  pub start_second : second_number (start_record capacity opens locks users rule) ≡ opens
  unfolding start_record
  start_second = refl

  pub start_third : third_number (start_record capacity opens locks users rule) ≡ locks
  unfolding start_record
  start_third = refl

  pub start_users : users_in (start_record capacity opens locks users rule) ≡ users
  unfolding start_record
  start_users = take_at users (rule ∷ []) processes h

  pub start_rule : rule_number (start_record capacity opens locks users rule) ≡ rule
  unfolding start_record
  start_rule = get_or_at users rule [] 0 processes h

module _ (function process count : ℕ) (fcb dma : List ℕ) (h : length fcb ≡ fcb_size) (g : length dma ≡ dma_size) where
  pub call_is : is_call (call_record function process count fcb dma) ≡ true
  unfolding call_record is_record ◌and◌
  call_is = rw (eq-eqb (length (call_record function process count fcb dma)) call_size (omega (arith, length-append fcb dma)))

  pub call_first : first_number (call_record function process count fcb dma) ≡ function
  unfolding call_record
  call_first = refl

  pub call_second : second_number (call_record function process count fcb dma) ≡ process
  unfolding call_record
  call_second = refl

  pub call_third : third_number (call_record function process count fcb dma) ≡ count
  unfolding call_record
  call_third = refl

  pub call_fcb : fcb_in (call_record function process count fcb dma) ≡ fcb
  unfolding call_record
  call_fcb = take_at fcb dma fcb_size h

  pub call_dma : dma_in (call_record function process count fcb dma) ≡ dma
  unfolding call_record
  call_dma = ap (take dma_size) (drop_at fcb dma fcb_size h) ∙ take_all dma_size dma (omega arith)

-- ---- its first two bytes, as `starts_with` compares them

eqb_turn : (a b : ℕ) → eqb a b ≡ eqb b a
eqb_turn a b =
    ⊎_elim (λ (e : eqb a b ≡ true). e ∙ sym (eq-eqb b a (sym (eqb-true a b e)))) (λ (e : eqb a b ≡ false).
    e ∙ sym (ne_eqb b a (λ q. true≢false (sym (eq-eqb a b (sym q)) ∙ e)))) (either (eqb a b))

pub begins_with : (s : List ℕ) (a b : ℕ) → 2 ≤ length s → starts_with eqb s (a ∷ b ∷ []) ≡ (eqb (byte s 0) a and eqb (byte s 1) b)
unfolding ◌and◌
begins_with [] a b h = absurd (omega arith)
begins_with (x ∷ []) a b h = absurd (omega arith)
begins_with (x ∷ y ∷ s) a b h = rw (eqb_turn a x, eqb_turn b y) (
    ⊎_elim (λ (e : eqb x a ≡ true). rw e (⊎_elim (λ (f : eqb y b ≡ true). rw f) (λ (f : eqb y b ≡ false). rw f) (either (eqb y b))))
    (λ (e : eqb x a ≡ false). rw e) (either (eqb x a)))

-- ---- from the record to its parts and back

module _ (size mark : ℕ) (s : List ℕ) (h : is_record size mark s ≡ true) where
  pub is_long : length s ≡ size
  unfolding is_record
  is_long = eqb-true (length s) size (and_fst (eqb (length s) size) (eqb (byte s 0) 0x4D and eqb (byte s 1) mark) h)

  marks : (eqb (byte s 0) 0x4D and eqb (byte s 1) mark) ≡ true
  unfolding is_record
  marks = and_snd (eqb (length s) size) (eqb (byte s 0) 0x4D and eqb (byte s 1) mark) h

  pub is-first : byte s 0 ≡ 0x4D
  is-first = eqb-true (byte s 0) 0x4D (and_fst (eqb (byte s 0) 0x4D) (eqb (byte s 1) mark) marks)

  pub is_second : byte s 1 ≡ mark
  is_second = eqb-true (byte s 1) mark (and_snd (eqb (byte s 0) 0x4D) (eqb (byte s 1) mark) marks)

-- the first five bytes, and the rest
five : (s : List ℕ) → 5 ≤ length s → s ≡ byte s 0 ∷ byte s 1 ∷ byte s 2 ∷ byte s 3 ∷ byte s 4 ∷ drop 5 s
five s h =
    let a : s ≡ byte s 0 ∷ drop 1 s = drop-cons s 0 0 (omega arith) in
    let b : drop 1 s ≡ byte s 1 ∷ drop 2 s = drop-cons s 1 0 (omega arith) in
    let c : drop 2 s ≡ byte s 2 ∷ drop 3 s = drop-cons s 2 0 (omega arith) in
    let d : drop 3 s ≡ byte s 3 ∷ drop 4 s = drop-cons s 3 0 (omega arith) in
    let e : drop 4 s ≡ byte s 4 ∷ drop 5 s = drop-cons s 4 0 (omega arith) in
    cc

pub start_made : (s : List ℕ) → is_start s ≡ true → s ≡ start_record (first_number s) (second_number s) (third_number s) (users_in s) (rule_number s)
unfolding start_record
start_made s h =
    let n = is_long start_size 0x53 s h in
    let a = is-first start_size 0x53 s h in
    let b = is_second start_size 0x53 s h in
    let d : drop processes (drop 5 s) ≡ drop 21 s = drop-drop processes 5 s in
    let l : drop 21 s ≡ byte s 21 ∷ drop 22 s = drop-cons s 21 0 (omega arith) in
    let z : drop 22 s ≡ [] = drop_of_length-le s {i = 22} (omega arith) in
    let w : take processes (drop 5 s) ++ drop processes (drop 5 s) ≡ drop 5 s = take-append-drop processes (drop 5 s) in
    cc (five s (omega arith))

pub call_made : (s : List ℕ) → is_call s ≡ true → s ≡ call_record (first_number s) (second_number s) (third_number s) (fcb_in s) (dma_in s)
unfolding call_record
call_made s h =
    let n = is_long call_size 0x43 s h in
    let a = is-first call_size 0x43 s h in
    let b = is_second call_size 0x43 s h in
    let e : take dma_size (drop 41 s) ≡ drop 41 s = take_all dma_size (drop 41 s) (rw length-drop (omega arith)) in
    let d : drop fcb_size (drop 5 s) ≡ drop 41 s = drop-drop fcb_size 5 s in
    let w : take fcb_size (drop 5 s) ++ drop fcb_size (drop 5 s) ≡ drop 5 s = take-append-drop fcb_size (drop 5 s) in
    cc (five s (omega arith))
