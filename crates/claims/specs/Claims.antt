-- What is claimed: a field for each promise, under the customer's sentence, in the customer's numbering. `proofs/Claims` gives the whole record.
-- What goes beyond the customer's text is marked with a plus. Assumes nothing.
use Rattle.std.specs.Prelude.{Result, ℕ, ◌+◌, ◌*◌, ◌%◌, ◌≤◌, ◌<◌, ◌≡◌, true, false, List, [], ◌⊎◌, length, replicate, leb, Option, Some, None}
use Rattle.words.specs.Bytes.{byte, are_bytes}
use Rattle.words.specs.Bits.{is_set}
use Rattle.words.specs.Tables.{◌∕◌, first_of, any_row}
use Rattle.rules.specs.declared.kind.Rule.{Rule}
use Rattle.rules.specs.declared.kind.Rule.TheVariants.{Mpm, Cpm}
use Rattle.rules.specs.declared.kind.Kind.{Kind}
use Rattle.rules.specs.declared.kind.Kind.TheVariants.{Small, Large}
use Rattle.rules.specs.declared.file.File.{File}
use Rattle.rules.specs.declared.routine.Routine.TheVariants.{SearchFirst, SearchNext, Delete, Make, Rename, Write, Size, WriteZeros, TestWrite}
use Rattle.rules.specs.Kinds.{told_rule, told_kind, with_rule, is_large, entries, most, vector_size, top, last_module}
use Rattle.rules.specs.Serves.{Buffers, outcome, chosen, is_search, list_size}
use Rattle.rules.specs.declared.answer.ImageFault.{ImageFault}
use Rattle.rules.specs.Drive.{entry_size, record_size, good_length, file_from, entry_byte, extent_at, is_of, no_entry, entry_of, look_up, is_free, free_blocks, blocks_in_use, is_empty, block_of, sound_image, image_check, image_told}
use Rattle.rules.specs.Checks.{CheckTells}
use Rattle.rules.specs.Locks.{rule_at, pack, unpack, rule_in, sound_list, start}
use Rattle.rules.specs.Call.{asked, rows_call, effect_of, call}
use Rattle.rules.specs.Asks.{caller_file, new_file, record_of}
use Rattle.rules.specs.Effects.{file_size}
use Rattle.rules.specs.Several.{call_singly, call_run}
use Rattle.rules.specs.Look.{look_at, look}
use Rattle.rules.specs.Vector.{five, built, DidFive, is_taken, vector_of, rows_vector}
use Rattle.rules.specs.Told.{five_told, build_told, check_told, look_told}
use Rattle.session.specs.Session.{AsListed, session, first_image, first_list}
use Rattle.unlocking.specs.Unlocks.{locks_told, unlocks_told, Unlocking}
use Rattle.unlocking.specs.Wrong.{WrongUnlocks}
use Rattle.filling.specs.Least.{Least}
use Rattle.listing.specs.Listing.{Searched, ShowsMatching}
use Rattle.repair.specs.Salvage.{salvaged, salvage_told, repaired, report_of, compared}
use Rattle.repair.specs.Mends.{Mends}
use Rattle.packing.specs.Packed.{packed}
use Rattle.packing.specs.Packs.{rows_pack, packs, pack_told}
use Rattle.packing.specs.Same.{SameBook, same_told}
use Rattle.history.specs.History.{Ask, State, Engine, Begun, is_word, are_possible, EachCall, lent, outcome_of, with_count, first_state, after}
use Rattle.history.specs.Demands.{Demand1, Demand2, Demand3}
use Rattle.history.specs.Unlocks.{UnlockOrder}
use Rattle.history.specs.Sizing.{NobodyTurnedAway}
use Rattle.claims.specs.Five.{FiveEngine, EachFive, OfRule, five_of, four, beside, beside_after}
use Rattle.claims.specs.Wrong.{refusing, accepting, idle, pretending, made_up, unbitted, lavish, promoting}

-- ---- Of an engine on drives of one kind, with books of one rule

pub record Claims (kind : Kind) (e : Engine) : Type 0 where
  -- 1. "A refusal leaves all buffers unchanged." T-07: "the refused record and those after it leave no trace".
  pub demand_1 : Demand1 e
  -- 2. "A call is accepted exactly when none of the refusals applies, and then has exactly the effect given there; otherwise it
  -- gives the first refusal that applies."
  pub demand_2 : Demand2 kind e
  -- 3. "From a sound image and a fresh list, after every sequence of calls .." T-07: "demand 3 counts the records done".
  pub demand_3 : Demand3 kind e
  -- T-07: "Those four bits apart, its answer and all buffers must equal those of single calls made one after another", ..
  pub as_singly_left : EachCall (λ (before : List Ask) (q : Ask) (s : State). (outcome_of (e before) q s).left ≡ (outcome_of (call_singly kind) q s).left)
  pub as_singly_code : EachCall (λ (before : List Ask) (q : Ask) (s : State). (outcome_of (e before) q s).answer % (0 ∕ 16) ≡ (outcome_of (call_singly kind) q s).answer)
  -- .. + and with count 1 it is the single call.
  pub one_record : EachCall (λ (before : List Ask) (q : Ask) (s : State). outcome_of (e before) (with_count 1 q) s ≡ outcome_of (call kind) (with_count 1 q) s)
  -- T-13: "two Unlock calls .. give the same answers and bytes in either order; one repeated adds nothing; an accepted Lock .. followed by
  -- the Unlock of that run, gives back the list byte for byte."
  pub unlock_order : UnlockOrder e
  -- T-10: "from a fresh list that only the engine changes, if at most p processes ever call and the capacity is at least p times the sum of the
  -- open and lock limits, then 255/11 and 14/0 are never given"
  pub nobody_turned_away : NobodyTurnedAway kind e

-- ---- Of an engine that is told the kind by a number, and the rule by the list

-- What `mpm_call` promises, word for word, of numbers of 32 bits and buffers of bytes.
unfoldable pub KeepsContract : (ℕ → FiveEngine) → Type 0
KeepsContract e = (k : ℕ) → is_word k ≡ true → EachFive (λ (before : List Ask) (q : Ask) (s : State) (v : List ℕ).
    DidFive (five_told (told_kind k (rule_in s.list)) q.function q.process q.count v (lent q s)) (five_of (e k) before q s v).did.answer
    (five_of (e k) before q s v).did.left (five_of (e k) before q s v).vector)

-- told the number k, it refuses the call, with 255/13 or 255/1, and leaves all five buffers as they were
unfoldable pub Refuses : (ℕ → FiveEngine) → ℕ → List Ask → Ask → State → List ℕ → Type 0
Refuses e k before q s v =
    (five_of (e k) before q s v ≡ five (outcome (255 ∕ 13) (lent q s)) v) ⊎ (five_of (e k) before q s v ≡ five (outcome (255 ∕ 1) (lent q s)) v)

-- T-04, "An allocation vector beside the image", of an engine on drives of one kind, with books of one rule
pub record VectorClaims (kind : Kind) (e : FiveEngine) : Type 0 where
  -- "every accepted call leaves it agreeing with the directory": + every call does that is lent one that agrees, one refused after some records too
  pub agrees_again : EachCall (λ (before : List Ask) (q : Ask) (s : State). OfRule kind s →
      (five_of e before q s (vector_of kind s.image)).vector ≡ vector_of kind (five_of e before q s (vector_of kind s.image)).did.left.image)
  -- "255/13 also for its length; 255/14, after 255/12, where it disagrees"; "unchanged on refusal"
  pub refused : EachFive (λ (before : List Ask) (q : Ask) (s : State) (v : List ℕ). OfRule kind s →
      any_row (rows_vector kind q.function q.process q.count v (lent q s)) ≡ true
      → five_of e before q s v ≡ five (outcome (first_of (rows_vector kind q.function q.process q.count v (lent q s))) (lent q s)) v)
  -- + a history that begins with the vector that the building routine gives: list and image are those of the engine of four buffers, of which
  -- demands 1 to 3 are claimed, and the vector is always that of the image
  pub history : (g : Begun kind) (qs : List Ask) → are_possible qs ≡ true
      → beside_after e [] qs (beside (first_state kind g) (vector_of kind g.image))
      ≡ beside (after kind (four kind e) g qs) (vector_of kind (after kind (four kind e) g qs).image)

pub record ToldClaims (e : ℕ → FiveEngine) : Type 0 where
  -- T-09: "0 the first, 1 this one". T-04: "Demands 2 and 3 read as before": of the engine lent a vector that agrees. T-11: "Both rules stay,
  -- and the shared facts are proved once over the highest record"
  pub first_kind : (u : Rule) → Claims (Small u) (four (Small u) (e 0))
  pub second_kind : (u : Rule) → Claims (Large u) (four (Large u) (e 1))
  pub first_vector : (u : Rule) → VectorClaims (Small u) (e 0)
  pub second_vector : (u : Rule) → VectorClaims (Large u) (e 1)
  -- "255/13 also for an unknown kind"
  pub unknown_kind : (k : ℕ) → (k ≡ 0 → ⊥) → (k ≡ 1 → ⊥) → is_word k ≡ true
      → EachFive (λ (before : List Ask) (q : Ask) (s : State) (v : List ℕ). five_of (e k) before q s v ≡ five (outcome (255 ∕ 13) (lent q s)) v)
  -- "A book of one kind must never be read as the other", whatever its rule and that of the list
  pub first_as_second : (u : Rule)
      → EachFive (λ (before : List Ask) (q : Ask) (s : State) (v : List ℕ). sound_image (Small u) s.image ≡ true → Refuses e 1 before q s v)
  pub second_as_first : (u : Rule)
      → EachFive (λ (before : List Ask) (q : Ask) (s : State) (v : List ℕ). sound_image (Large u) s.image ≡ true → Refuses e 0 before q s v)

-- ---- Of the rules

-- the caller's file
abbrev file_in : ℕ → Buffers → File
file_in p b = caller_file p (unpack b.list) b.fcb

-- "Shut out by demand 2: an engine refusing everything, one answering 0/0 to everything, one that answers well but stores nothing.
-- Demand 3 too stops the last, at the first Make, and one that does the first call's work and then pretends. A made-up figure from
-- 46 fails demand 2, and demand 3 ties the true one to the history."
pub record WrongFall : Type 0 where
  pub refusing_differs : Demand2 (Small Mpm) refusing → ⊥
  pub accepting_differs : Demand2 (Small Mpm) accepting → ⊥
  pub idle_differs : Demand2 (Small Mpm) (idle (Small Mpm)) → ⊥
  pub not_idle : Demand3 (Small Mpm) (idle (Small Mpm)) → ⊥
  pub not_pretending : Demand3 (Small Mpm) (pretending (Small Mpm)) → ⊥
  pub made_up_differs : (figure : ℕ) → figure < 16777216 → Demand2 (Small Mpm) (made_up (Small Mpm) figure) → ⊥
  pub not_made_up : (figure : ℕ) → figure < 16777216 → Demand3 (Small Mpm) (made_up (Small Mpm) figure) → ⊥
  -- + (T-07) the four bits are needed; "let only the engine change them" (the limits and users of the list) means: as Start wrote them
  pub not_unbitted : Demand3 (Small Mpm) (unbitted (Small Mpm)) → ⊥
  pub not_lavish : Demand3 (Small Mpm) (lavish (Small Mpm)) → ⊥
  pub not_promoting : Demand3 (Small Mpm) (promoting (Small Mpm)) → ⊥

-- "Calls S0 to S13 below are proved as one listed session over the written rules"; the list is the one that Start gives for 3, 2, 2,
-- rule 0 and sixteen zeros, whatever stood in it.
pub record TheSession : Type 0 where
  pub first-list : (list : List ℕ) → length list ≡ list_size → start (Small Mpm) 3 2 2 0 (replicate 16 0) list ≡ record { answer = 0 ∕ 0; list = first_list }
  pub as_listed : AsListed first_list first_image session

-- "Codes, in the order tested": a call is one table and one effect.
pub record Tables : Type 0 where
  pub accepted : (kind : Kind) (n p c : ℕ) (b : Buffers) → any_row (rows_call kind n p c b) ≡ false → call kind n p c b ≡ effect_of (chosen n) (asked kind p c b) b
  pub accepted_zero : (kind : Kind) (n p c : ℕ) (b : Buffers) → is_search (chosen n) ≡ false → any_row (rows_call kind n p c b) ≡ false
      → (call kind n p c b).answer ≡ 0 ∕ 0
  pub refused : (kind : Kind) (n p c : ℕ) (b : Buffers) → any_row (rows_call kind n p c b) ≡ true → call kind n p c b ≡ outcome (first_of (rows_call kind n p c b)) b
  pub zero_accepted : (kind : Kind) (n p c : ℕ) (b : Buffers) → (call kind n p c b).answer ≡ 0 ∕ 0 → any_row (rows_call kind n p c b) ≡ false

-- + What is packed and unpacked again is the same, of the lists that a sound list can be.
pub record RoundTrips : Type 0 where
  pub pack_unpack : (kind : Kind) (list s : List ℕ) → length list ≡ list_size → are_bytes list ≡ true → sound_list kind list s ≡ true → pack (unpack list) ≡ list
  pub unpack_pack : (kind : Kind) (list s : List ℕ) → sound_list kind list s ≡ true → unpack (pack (unpack list)) ≡ unpack list

-- "Look .. out comes that 128-byte part of the image itself": it lies past the directory and inside the image, ..
pub record LookClaims : Type 0 where
  pub inside : (kind : Kind) (user : ℕ) (name : List ℕ) (r : ℕ) (s : List ℕ) → (look_at kind user name r s ≡ 0 → ⊥)
      → (entry_size * entries kind ≤ look_at kind user name r s) × (look_at kind user name r s + record_size ≤ length s)
  -- .. + and two of them do not overlap, unless they are the same record of the same file.
  pub apart : (kind : Kind) (u v : ℕ) (m n : List ℕ) (r q : ℕ) (s : List ℕ) → (look_at kind u m r s ≡ 0 → ⊥) → (look_at kind v n q s ≡ 0 → ⊥)
      → ((file_from u m 0 ≡ file_from v n 0) × (r ≡ q))
      ⊎ ((look_at kind u m r s + record_size ≤ look_at kind v n q s) ⊎ (look_at kind v n q s + record_size ≤ look_at kind u m r s))
  -- T-09: told the other kind, with either rule, the image check answers 1 and Look shows an empty part.
  pub other_check : (own other : Kind) → (is_large own ≡ is_large other → ⊥) → (s : List ℕ) → sound_image own s ≡ true → check_told (Some other) s ≡ 1
  pub other_look : (own other : Kind) → (is_large own ≡ is_large other → ⊥) → (s : List ℕ) → sound_image own s ≡ true
      → (user : ℕ) (name : List ℕ) (r : ℕ) → look_told (Some other) user name r s ≡ 0

-- T-01: "Tell the lowest bad entry and why." Of every image, for either kind of drive; + another answer is another number.
pub record CheckClaims : Type 0 where
  pub tells : (kind : Kind) (s : List ℕ) → CheckTells kind s
  pub told : (kind : Kind) (s : List ℕ) → check_told (Some kind) s ≡ image_told (image_check kind s)
  pub told_apart : (a b : Result (Unit {0}) ImageFault) → image_told a ≡ image_told b → a ≡ b

-- T-13, of what `mpm_call` promises, told whatever number: the three statements, + any number of Unlocks in any order, and that a Lock and the
-- Unlock of its run never give back a list in which the caller held a record of the run. + Three other Unlocks fall.
pub record UnlockClaims : Type 0 where
  pub unlocking : (t : Option Kind) → Unlocking (locks_told t) (unlocks_told t)
  pub wrong_fall : WrongUnlocks

-- T-05, "Compute File Size", of every call that a row does not refuse; f is any file, its name of eleven bytes.
pub record SizeClaims : Type 0 where
  -- "FCB bytes 33 to 35 become 128 times the highest extent plus that extent's count .. up to 262,144" (under rule 1, 65,536); no entry has a higher extent
  pub told : (kind : Kind) (n p c : ℕ) (b : Buffers) → any_row (rows_call kind n p c b) ≡ false → chosen n ≡ Some Size
      → record_of (call kind n p c b).left.fcb ≡ file_size kind b.image (file_in p b)
  pub most : (kind : Kind) (s : List ℕ) (f : File) → length f.name ≡ 11 → sound_image kind s ≡ true → file_size kind s f ≤ top kind + 1
  pub highest : (kind : Kind) (s : List ℕ) (f : File) (e : ℕ) → e < entries kind → is_of s f e ≡ true → extent_at s e ≤ (look_up kind s f).extent
  -- + a file just made has size 0; after a 34, 40 or 41 of record r it is at least r + 1; ..
  pub made : (kind : Kind) (n p c : ℕ) (b : Buffers) → any_row (rows_call kind n p c b) ≡ false → chosen n ≡ Some Make
      → file_size kind (call kind n p c b).left.image (file_in p b) ≡ 0
  pub written : (kind : Kind) (n p c : ℕ) (b : Buffers) → any_row (rows_call kind n p c b) ≡ false
      → (chosen n ≡ Some Write) ⊎ (chosen n ≡ Some WriteZeros) → record_of b.fcb + 1 ≤ file_size kind (call kind n p c b).left.image (file_in p b)
  pub rewritten : (kind : Kind) (n p c : ℕ) (b : Buffers) → any_row (rows_call kind n p c b) ≡ false → chosen n ≡ Some TestWrite
      → record_of b.fcb + 1 ≤ file_size kind (call kind n p c b).left.image (file_in p b)
  -- .. no call, with one record or several, lowers it but the file's own Delete or Rename; and Rename gives the new name the old size.
  pub kept : (kind : Kind) (n p c : ℕ) (b : Buffers) (f : File) → length f.name ≡ 11
      → ((chosen n ≡ Some Delete) ⊎ (chosen n ≡ Some Rename) → f ≡ file_in p b → ⊥)
      → file_size kind b.image f ≤ file_size kind (call_run kind n p c b).left.image f
  pub renamed : (kind : Kind) (n p c : ℕ) (b : Buffers) → any_row (rows_call kind n p c b) ≡ false → chosen n ≡ Some Rename
      → file_size kind (call kind n p c b).left.image (new_file p (unpack b.list) b.fcb) ≡ file_size kind b.image (file_in p b)

-- T-02, "Directory listing for the clerks", of every search that no row refuses; that no call moves another process's position is in demand 3.
pub record SearchClaims : Type 0 where
  -- "A is its place there, 0 to 3"; "no match answers 255/0, and this one answer does set the position"; + nothing else changes
  pub searched : (kind : Kind) (n p c : ℕ) (b : Buffers) → (chosen n ≡ Some SearchFirst) ⊎ (chosen n ≡ Some SearchNext)
      → any_row (rows_call kind n p c b) ≡ false → are_bytes b.list ≡ true → Searched kind p b (call kind n p c b)
  -- + one 17, then 18s until 255/0: the 32 bytes at DMA 32·A are the matching entries', each once, in rising order
  pub lists : (kind : Kind) (p c : ℕ) (b : Buffers) → any_row (rows_call kind 17 p c b) ≡ false → ShowsMatching kind p c b

-- T-08, "Salvage for damaged books", of what `mpm_salvage` promises, told whatever number; s is the image, r the report buffer as lent.
pub record SalvageClaims : Type 0 where
  -- "Refusals: 1 wrong image length, 2 report buffer not 64 bytes, both changing nothing"; else it is done
  pub refused : (told : Option Kind) (s r : List ℕ) → ((salvage_told told s r).answer ≡ 0 → ⊥) → ((salvage_told told s r).image ≡ s) × ((salvage_told told s r).report ≡ r)
  pub done : (kind : Kind) (s r : List ℕ) → good_length kind s ≡ true → length r ≡ entries kind
      → salvage_told (Some kind) s r ≡ salvaged 0 (repaired kind s) (report_of kind s)
  -- "The result is sound, a sound image is unchanged, and no byte changes but byte 0 of emptied entries and the zeroed map bytes."
  pub sound : (kind : Kind) (s : List ℕ) → good_length kind s ≡ true → sound_image kind (repaired kind s) ≡ true
  pub unchanged : (kind : Kind) (s : List ℕ) → sound_image kind s ≡ true → (repaired kind s ≡ s) × (report_of kind s ≡ replicate (entries kind) 0)
  pub mends : (kind : Kind) (s : List ℕ) → good_length kind s ≡ true → Mends kind s (repaired kind s)
  -- "It reports for each of 64 entries 0 untouched, 255 emptied, else the number of map bytes zeroed": what comparing the images tells
  pub reports : (kind : Kind) (s : List ℕ) → good_length kind s ≡ true → (e : ℕ) → e < entries kind
      → byte (report_of kind s) e ≡ compared kind s (repaired kind s) e
  -- + salvaged twice is salvaged once, the second report all zeros
  pub twice : (kind : Kind) (s r : List ℕ) → good_length kind s ≡ true → length r ≡ entries kind
      → salvage_told (Some kind) (repaired kind s) r ≡ salvaged 0 (repaired kind s) (replicate (entries kind) 0)

-- T-04, the building routine, of what `mpm_vector` promises; s is the image, v the vector as lent.
pub record BuildClaims : Type 0 where
  -- "255/13 for the vector's length, then 255/1, the vector unchanged"; an unknown kind is refused too
  pub refused : (told : Option Kind) (s v : List ℕ) → ((build_told told s v).answer ≡ 0 → ⊥) → (build_told told s v).vector ≡ v
  pub done : (kind : Kind) (s v : List ℕ) → sound_image kind s ≡ true → length v ≡ vector_size kind → build_told (Some kind) s v ≡ built (0 ∕ 0) (vector_of kind s)
  -- "the high bit of byte 0 standing for block 0, a bit set where a block is used or belongs to the directory, bits from n on clear"
  pub bit : (kind : Kind) (s : List ℕ) (b : ℕ) → b < most kind → is_set (vector_of kind s) b ≡ is_taken kind s b

-- T-12, "Packing a book", of what `mpm_pack` promises; s is the image, list the list, out the second buffer as lent.
pub record PackClaims : Type 0 where
  -- "Refusals: .. the second buffer unchanged": it is done exactly where the kind is known and no row applies (image and list are only read)
  pub refused : (told : Option Kind) (s list out : List ℕ) → ((pack_told told s list out).answer ≡ 0 → ⊥) → (pack_told told s list out).out ≡ out
  pub done : (kind : Kind) (s list out : List ℕ) → any_row (rows_pack kind s list out) ≡ false
      → pack_told (Some kind) s list out ≡ packs (0 ∕ 0) (packed kind s)
  pub done_only : (told : Option Kind) (s list out : List ℕ) → (pack_told told s list out).answer ≡ 0
      → (kind : Kind) × (told ≡ Some kind) × (any_row (rows_pack kind s list out) ≡ false)
  -- "Look, attributes and counts of every file stay": bytes 0 to 15 of every extent; + the packed book is sound, and as long
  pub sound : (kind : Kind) (s : List ℕ) → sound_image kind s ≡ true → sound_image kind (packed kind s) ≡ true
  pub as_long : (kind : Kind) (s : List ℕ) → sound_image kind s ≡ true → length (packed kind s) ≡ length s
  pub look_stays : (kind : Kind) (s : List ℕ) → sound_image kind s ≡ true
      → (user : ℕ) (name : List ℕ) (r : ℕ) → look kind user name r (packed kind s) ≡ look kind user name r s
  pub same_extents : (kind : Kind) (s : List ℕ) → sound_image kind s ≡ true → (f : File) (x : ℕ) → length f.name ≡ 11
      → no_entry kind (entry_of kind (packed kind s) f x) ≡ no_entry kind (entry_of kind s f x)
  pub heads_stay : (kind : Kind) (s : List ℕ) → sound_image kind s ≡ true → (f : File) (x k : ℕ) → length f.name ≡ 11
      → entry_of kind s f x < entries kind → k < 16
      → entry_byte (packed kind s) (entry_of kind (packed kind s) f x) k ≡ entry_byte s (entry_of kind s f x) k
  -- "packing twice equals packing once"; + as many blocks are free, and they are the highest ones
  pub twice : (kind : Kind) (s : List ℕ) → sound_image kind s ≡ true → packed kind (packed kind s) ≡ packed kind s
  pub as_many_free : (kind : Kind) (s : List ℕ) → sound_image kind s ≡ true → free_blocks kind (packed kind s) ≡ free_blocks kind s
  pub free_highest : (kind : Kind) (s : List ℕ) → sound_image kind s ≡ true → (b : ℕ) → 2 ≤ b
      → is_free kind (packed kind s) b ≡ leb (2 + blocks_in_use kind s) b

-- T-14, "Accepting a book moved by others", of what `mpm_same` promises; s is the first image, t the second.
pub record SameClaims : Type 0 where
  -- "accepts the pair exactly when both are sound, hold the same files with the same extent 0 attributes, and Look shows for each record
  -- the same 128 bytes or nothing in both"
  pub accepted : (kind : Kind) (s t : List ℕ) → sound_image kind s ≡ true → sound_image kind t ≡ true → SameBook kind s t → same_told (Some kind) s t ≡ 0
  pub accepted_only : (told : Option Kind) (s t : List ℕ) → same_told told s t ≡ 0
      → (kind : Kind) × (told ≡ Some kind) × (sound_image kind s ≡ true) × (sound_image kind t ≡ true) × SameBook kind s t
  -- "Refusals: 1 first image unsound or kind of drive unknown, 2 second unsound, 3 they hold different books"
  pub unknown_kind : (s t : List ℕ) → same_told None s t ≡ 1
  pub first_unsound : (kind : Kind) (s t : List ℕ) → sound_image kind s ≡ false → same_told (Some kind) s t ≡ 1
  pub second_unsound : (kind : Kind) (s t : List ℕ) → sound_image kind s ≡ true → sound_image kind t ≡ false → same_told (Some kind) s t ≡ 2
  pub different : (kind : Kind) (s t : List ℕ) → sound_image kind s ≡ true → sound_image kind t ≡ true → (SameBook kind s t → ⊥)
      → same_told (Some kind) s t ≡ 3
  -- "A book and its packed form from T-12 are always accepted": in either order, whatever the rule that it was packed by (T-11: "pairs of
  -- images, where compared, are judged by rule 0"); + it is an equivalence
  pub packed_form : (kind : Kind) (s : List ℕ) → sound_image kind s ≡ true
      → (same_told (Some (with_rule Mpm kind)) s (packed kind s) ≡ 0) × (same_told (Some (with_rule Mpm kind)) (packed kind s) s ≡ 0)
  pub itself : (kind : Kind) (s : List ℕ) → SameBook kind s s
  pub turned : (kind : Kind) (s t : List ℕ) → SameBook kind s t → SameBook kind t s
  pub through : (kind : Kind) (s t v : List ℕ) → SameBook kind s t → SameBook kind t v → SameBook kind s v

-- T-11, "Programs written to the CP/M 2.2 rule", of drives of either size. All that is claimed above of every kind is claimed under both rules.
pub record RuleClaims : Type 0 where
  -- "0 MP/M II, 1 CP/M 2.2", "anything but 1 being rule 0"
  pub told_one : told_rule 1 ≡ Cpm
  pub told_other : (n : ℕ) → (n ≡ 1 → ⊥) → told_rule n ≡ Mpm
  -- "Under 1, record numbers end at 65,535 .. and modules at 15"; the record number is past the end exactly for a "nonzero byte 35", ..
  pub ends : (kind : Kind) → (top (with_rule Cpm kind) ≡ 65535) × (last_module (with_rule Cpm kind) ≡ 15)
  pub past : (kind : Kind) (fcb : List ℕ) → byte fcb 33 < 256 → byte fcb 34 < 256 → (byte fcb 35 ≡ 0 → ⊥) → top (with_rule Cpm kind) < record_of fcb
  pub not_past : (kind : Kind) (fcb : List ℕ) → byte fcb 33 < 256 → byte fcb 34 < 256 → byte fcb 35 ≡ 0 → record_of fcb ≤ top (with_rule Cpm kind)
  -- .. + and no file has a record past it: Look shows an empty part
  pub no_block : (kind : Kind) (s : List ℕ) (f : File) (r : ℕ) → sound_image (with_rule Cpm kind) s ≡ true → 65536 ≤ r → block_of (with_rule Cpm kind) s f r ≡ 0
  pub no_look : (kind : Kind) (user : ℕ) (name : List ℕ) (r : ℕ) (s : List ℕ) → 65536 ≤ r → look_at (with_rule Cpm kind) user name r s ≡ 0
  -- "Start takes the byte": an accepted Start writes it, + and the list then chooses that rule (demand 3: no call changes it)
  pub started : (kind : Kind) (c o k u : ℕ) (users list : List ℕ) → (start kind c o k u users list).answer ≡ 0 ∕ 0
      → (byte (start kind c o k u users list).list rule_at ≡ u) × (u ≤ 1)
  -- "255/12 for a byte above 1"
  pub above_one : (kind : Kind) (list s : List ℕ) → 1 < byte list rule_at → sound_list kind list s ≡ false
  -- + what is sound under rule 1 is sound under rule 0, and the other way round exactly where no module is above 15
  pub sound_too : (kind : Kind) (s : List ℕ) → sound_image (with_rule Cpm kind) s ≡ true → sound_image (with_rule Mpm kind) s ≡ true
  pub sound_when : (kind : Kind) (s : List ℕ) → sound_image (with_rule Mpm kind) s ≡ true
      → ((e : ℕ) → e < entries kind → is_empty s e ≡ false → entry_byte s e 14 ≤ 15) → sound_image (with_rule Cpm kind) s ≡ true
  pub sound_only : (kind : Kind) (s : List ℕ) → sound_image (with_rule Cpm kind) s ≡ true
      → (e : ℕ) → e < entries kind → is_empty s e ≡ false → entry_byte s e 14 ≤ 15

-- ---- All of it

pub record AllClaims : Type 0 where
  pub engine : (e : ℕ → FiveEngine) → KeepsContract e → ToldClaims e
  pub builds : BuildClaims
  pub wrong_fall : WrongFall
  pub the_session : TheSession
  pub tables : Tables
  pub round_trips : RoundTrips
  pub looks : LookClaims
  pub checks : CheckClaims
  pub unlocks : UnlockClaims
  pub sizes : SizeClaims
  pub searches : SearchClaims
  pub salvages : SalvageClaims
  pub packs : PackClaims
  pub sames : SameClaims
  pub rules : RuleClaims
  -- T-10: "Give also a sequence with one place fewer where one of them is": + for all limits and numbers of processes, so that the bound is the least.
  pub least : Least
