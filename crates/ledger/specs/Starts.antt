-- Fourteen starts, one for each head: their check, and what is made of them.
--
--   start_fault_number f   the number of a fault, as its declaration shows it
--   all_fit starts         no start is above 4,000
--   starts_answer starts   the check's answer: 26 if a start is above 4,000
--   accepted starts        the starts, or 0 for every head if they are refused
--
-- Assumes nothing.
use Rattle.std.specs.Prelude.{ℕ, Bool, cond, List, replicate, Ok, Err, Result, nat_le}
use Rattle.std.specs.List.{list_all}
use Rattle.ledger.specs.Held.{heads, most_places}
use Rattle.ledger.specs.declared.StartFault.{StartFault}
use Rattle.ledger.specs.declared.StartFault.TheVariants.{AboveMost}

abbrev pub start_fault_number : StartFault → ℕ
start_fault_number AboveMost = 26

abbrev pub all_fit : List ℕ → Bool
all_fit starts = list_all (λ start. nat_le start most_places) starts

abbrev pub starts_answer : List ℕ → Result (Unit {0}) StartFault
starts_answer starts = cond (all_fit starts) (Ok tt) (Err AboveMost)

abbrev pub accepted : List ℕ → List ℕ
accepted starts = cond (all_fit starts) starts (replicate heads 0)
