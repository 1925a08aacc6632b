-- The sections of a drawer with k fields for bills in each: section h is its promise, field (k + 1) h, and the
-- k fields behind it.
--
--   promise_of k h       the number of section h's promise field
--   free_in bs b n       how many of the n fields behind field b are free
--   credited_in bs b n   the sum of the settled bills among them
--   section_of bs b k    what the section says whose promise is field b
--   covered s            a promised amount has a free field
--   places_in s          the places: the free fields, less 1 if an amount is promised
--   bad_in bs b n        the place of the earliest bad field among the promise b and n fields behind it
--   read_of bad s        a section as it is read: what it says, or the refusal of the bad field at a place
--
-- Assumes nothing.
use Rattle.std.specs.Prelude.{ℕ, zero, suc, ◌+◌, ◌-◌, ◌*◌, Bool, cond, not, ◌&&◌, ◌||◌, List, is_some, Some, None, Ok, Err, Option, Result, ◌==◌, nat_lt}
use Rattle.std.specs.Option.{option_or}
use Rattle.ledger.specs.Answers.{its_number}
use Rattle.drawer_image.specs.declared.fault.DrawerFault.{DrawerFault}
use Rattle.drawer_image.specs.declared.fault.DrawerFault.TheVariants.{BadField}
use Rattle.drawer_image.specs.declared.section.Section.{Section}
use Rattle.drawer_image.specs.Fields.{amount_at, promised_at, is_promise, is_settled, is_free}

abbrev pub promise_of : ℕ → ℕ → ℕ
promise_of k h = (k + 1) * h

unfoldable pub free_in : List ℕ → ℕ → ℕ → ℕ
free_in bs b zero = 0
free_in bs b (suc n) = free_in bs b n + cond (is_free bs (b + suc n)) 1 0

unfoldable pub credited_in : List ℕ → ℕ → ℕ → ℕ
credited_in bs b zero = 0
credited_in bs b (suc n) = credited_in bs b n + cond (is_settled bs (b + suc n)) (amount_at bs (b + suc n)) 0

abbrev pub section_of : List ℕ → ℕ → ℕ → Section
section_of bs b k = record { promised = promised_at bs b; credited = credited_in bs b k; free = free_in bs b k }

abbrev pub covered : Section → Bool
covered s = not (is_some s.promised) || nat_lt 0 s.free

abbrev pub places_in : Section → ℕ
places_in s = s.free - cond (is_some s.promised) 1 0

-- field b + n + 1 is what its position allows: free, or settled with no free field before it
abbrev pub allowed : List ℕ → ℕ → ℕ → Bool
allowed bs b n = is_free bs (b + suc n) || (free_in bs b n == 0 && is_settled bs (b + suc n))

-- no place where all is well with field j, else that of its first byte
abbrev pub unless : Bool → ℕ → Option ℕ
unless well j = cond well None (Some (7 * j))

unfoldable pub bad_in : List ℕ → ℕ → ℕ → Option ℕ
bad_in bs b zero = unless (is_promise bs b) b
bad_in bs b (suc n) = option_or (bad_in bs b n) (unless (allowed bs b n) (b + suc n))

abbrev pub read_of : Option ℕ → Section → Result Section DrawerFault
read_of None s = Ok s
read_of (Some place) s = Err (BadField its_number place)
