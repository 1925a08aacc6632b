-- What the bytes of a drawer with k fields for bills in each section hold for each head.
--
--   held_in s         what a section says of its head
--   documented bs k   THE DOCUMENTED MEANING of bytes that pass the check: for each head what its section says
--   bytes_held bs k   the meaning of any bytes: a section that would not pass the check holds nothing
--   made bs k         what a drawer made of bytes holds: their documented meaning, or nothing if they are refused
--
-- Assumes nothing.
use Rattle.std.specs.Prelude.{ℕ, cond, List, is_ok, nat_lt}
use Rattle.ledger.specs.Held.{heads, Held, Heads, nothing}
use Rattle.drawer_image.specs.declared.section.Section.{Section}
use Rattle.drawer_image.specs.Sections.{promise_of, section_of, places_in}
use Rattle.drawer_image.specs.Checks.{checked, section_at}

abbrev pub held_in : Section → Held
held_in s = record { promised = s.promised; credited = s.credited; places = places_in s }

abbrev pub documented : List ℕ → ℕ → Heads
documented bs k h = cond (nat_lt h heads) (held_in (section_of bs (promise_of k h) k)) nothing

abbrev pub bytes_held : List ℕ → ℕ → Heads
bytes_held bs k h = held_in (section_at bs k h)

abbrev pub made : List ℕ → ℕ → Heads
made bs k = cond (is_ok (checked bs k)) (documented bs k) (λ h. nothing)
