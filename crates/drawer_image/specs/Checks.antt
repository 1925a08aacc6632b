-- The check of a drawer's bytes, and what each section of any bytes holds.
--
--   count_fits k        k is 1 to 4,000
--   count_answer k      26 if k is not
--   size_answer n k     the answer to a length of n bytes: 26, 27 if it is not 98 × (k + 1)
--   wrong_field bs k    the place of the earliest bad field, else of the earliest promise that has no free field
--   checked bs k        the check's answer
--   Passes bs k         the bytes pass the check
--   sound bs b k        no field of the section of promise b is bad, and a promised amount has a free field
--   section_at bs k h   what section h holds: what it says if it is sound, else nothing
--
-- Assumes nothing.
use Rattle.std.specs.Prelude.{◌≡◌, ℕ, zero, suc, ◌+◌, ◌*◌, Bool, cond, not, ◌&&◌, List, length, is_some, Some, None, Ok, Err, Option, Result, ◌==◌, nat_le, nat_lt}
use Rattle.std.specs.Option.{option_or}
use Rattle.ledger.specs.Held.{heads, most_places}
use Rattle.ledger.specs.Answers.{its_number}
use Rattle.drawer_image.specs.declared.section.Section.{Section}
use Rattle.drawer_image.specs.declared.fault.DrawerFault.{DrawerFault}
use Rattle.drawer_image.specs.declared.fault.DrawerFault.TheVariants.{BadCount, BadLength, BadField}
use Rattle.drawer_image.specs.Sections.{promise_of, bad_in, unless, covered, section_of}

abbrev pub count_fits : ℕ → Bool
count_fits k = nat_lt 0 k && nat_le k most_places

abbrev pub Answer : Type 0
Answer = Result (Unit {0}) DrawerFault

abbrev pub count_answer : ℕ → Answer
count_answer k = cond (count_fits k) (Ok tt) (Err (BadCount its_number))

abbrev pub size_answer : ℕ → ℕ → Answer
size_answer n k =
    cond (count_fits k)
    (cond (n == 98 * (k + 1))
    (Ok tt)
    (Err (BadLength its_number)))
    (Err (BadCount its_number))

-- k and the length of the bytes are accepted
abbrev pub sized : List ℕ → ℕ → Bool
sized bs k = count_fits k && length bs == 98 * (k + 1)

-- the first that f tells below n
unfoldable pub earliest : (ℕ → Option ℕ) → ℕ → Option ℕ
earliest f zero = None
earliest f (suc n) = option_or (earliest f n) (f n)

abbrev pub bad_of : List ℕ → ℕ → ℕ → Option ℕ
bad_of bs k h = bad_in bs (promise_of k h) k

abbrev pub uncovered_of : List ℕ → ℕ → ℕ → Option ℕ
uncovered_of bs k h = unless (covered (section_of bs (promise_of k h) k)) (promise_of k h)

abbrev pub wrong_field : List ℕ → ℕ → Option ℕ
wrong_field bs k = option_or (earliest (bad_of bs k) heads) (earliest (uncovered_of bs k) heads)

abbrev pub refused_at : Option ℕ → Answer
refused_at None = Ok tt
refused_at (Some place) = Err (BadField its_number place)

abbrev pub checked : List ℕ → ℕ → Answer
checked bs k =
    cond (count_fits k)
    (cond (length bs == 98 * (k + 1))
    (refused_at (wrong_field bs k))
    (Err (BadLength its_number)))
    (Err (BadCount its_number))

abbrev pub Passes : List ℕ → ℕ → Type 0
Passes bs k = checked bs k ≡ Ok tt

-- a section that says nothing
abbrev pub empty_section : Section
empty_section = record { promised = None; credited = 0; free = 0 }

abbrev pub sound : List ℕ → ℕ → ℕ → Bool
sound bs b k = not (is_some (bad_in bs b k)) && covered (section_of bs b k)

unfoldable pub section_at : List ℕ → ℕ → ℕ → Section
section_at bs k h = cond (nat_lt h heads && (sized bs k && sound bs (promise_of k h) k)) (section_of bs (promise_of k h) k) empty_section
