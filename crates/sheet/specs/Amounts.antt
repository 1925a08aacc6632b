-- What a bill is worth is an amount.
--
--   ValuesAreAmounts   a value on a sheet is 1 to 255,000,000
--
-- Assumes nothing.
use Rattle.std.specs.Prelude.{◌≡◌, ℕ, ◌≤◌, Some}
use Rattle.sheet.specs.Sheets.{value_of}
use Rattle.sheet.specs.declared.sheet.Sheet.{Sheet}

abbrev pub ValuesAreAmounts : Type 0
ValuesAreAmounts = (s : Sheet) (code value : ℕ) → value_of s code ≡ Some value → (1 ≤ value) × (value ≤ 255000000)
