-- The number of fields for bills, as an operator writes it.
--
--   CountRead text r     r is what the text writes, or none if it is not decimal; 4,001 stands for any larger number: both are refused alike
--
-- Assumes nothing.
use Rattle.std.specs.Prelude.{ℕ, ◌+◌, List, Option}
use Rattle.ledger.specs.Held.{most_places}
use Rattle.numbers.specs.Texts.{ReadCapped}

abbrev pub CountRead : List ℕ → Option ℕ → Type 0
CountRead text r = ReadCapped (most_places + 1) text r
