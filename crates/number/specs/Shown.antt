-- The number that a type shows.
--
--   shown n          the N of `n : Number N`, so that a definition reads the number off an enum's own declaration
--
-- Assumes nothing.
use Rattle.std.specs.Prelude.{ℕ}
use Rattle.number.specs.declared.Number.{Number}

abbrev pub shown : {n : ℕ} → Number n → ℕ
shown {n} number = n
