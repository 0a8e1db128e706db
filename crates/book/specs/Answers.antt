-- What setting, clearing and asking answer, in the order of their checks.
use Rattle.std.specs.Prelude.{◌≡◌, ℕ, cond, List, Some, None, Ok, Err, Option, Result, nat_lt}
use Rattle.std.specs.Option.{option_map}
use Rattle.refusal.specs.declared.Refusal.{Refusal}
use Rattle.refusal.specs.declared.Refusal.TheVariants.{NoSlot, KeyLength}
use Rattle.book.specs.declared.Slot.{Slot}
use Rattle.book.specs.Keys.{key_of, last_of}
use Rattle.book.specs.Book.{slot_count, good_key}

-- a slot above 7
abbrev pub slot_check : ℕ → Option Refusal
slot_check slot = cond (nat_lt slot slot_count) None (Some NoSlot)

-- the slot, and then the key's length
abbrev pub set_checks : ℕ → List ℕ → Option Refusal
set_checks slot key = cond (nat_lt slot slot_count) (cond (good_key key) None (Some KeyLength)) (Some NoSlot)

abbrev pub answer : Option Refusal → Result (Unit {0}) Refusal
answer None = Ok tt
answer (Some why) = Err why

-- Asking a slot for its last serial: nothing if it is empty.
abbrev pub Asked : (slot : ℕ) → Slot → Result (Option ℕ) Refusal → Type 0
Asked slot s r = r ≡ cond (nat_lt slot slot_count) (Ok (option_map (λ k. last_of s) (key_of s))) (Err NoSlot)
