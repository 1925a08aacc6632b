-- Bytes as text.
--
--   digit n            the uppercase digit for a number below 16
--   pair b             the two digits of a byte
--   blanked bs         the bytes as text, a blank and two digits each
--   spelled bs         the same without the first blank: one blank between
--   Bytes bs           each of them is below 256
--   Parsed line r      r is the bytes that the line spells, or no bytes are spelled like this
--   DigitOf, ByteOf    the same of one digit, and of the two digits of a byte
--
-- Assumes nothing.
use Rattle.std.specs.Prelude.{◌≡◌, ℕ, ◌+◌, ◌/◌, ◌%◌, ◌<◌, cond, List, [], ◌∷◌, ◌++◌, drop, Ok, Err, vec_items, Option, Result, Vec, MatchOption, ◌≢◌, nat_lt, slice_index}
use Rattle.std.specs.declared.alloc.Global.{Global}
use Rattle.hex_text.specs.declared.HexFault.{HexFault}
use Rattle.hex_text.specs.declared.HexFault.TheVariants.{NotHex, NoMemory}

abbrev pub digit : ℕ → ℕ
digit n = cond (nat_lt n 10) (48 + n) (55 + n)

abbrev pub pair : ℕ → List ℕ
pair b = digit (b / 16) ∷ digit (b % 16) ∷ []

unfoldable pub blanked : List ℕ → List ℕ
blanked [] = []
blanked (b ∷ bs) = 32 ∷ pair b ++ blanked bs

abbrev pub spelled : List ℕ → List ℕ
spelled bs = drop 1 (blanked bs)

abbrev pub Bytes : List ℕ → Type 0
Bytes bs = (k : ℕ) → slice_index bs k < 256

abbrev pub DigitOf : ℕ → Option ℕ → Type 0
DigitOf letter r = MatchOption r ((n : ℕ) → n < 16 → letter ≢ digit n) (λ n. (n < 16) × (letter ≡ digit n))

abbrev pub ByteOf : List ℕ → Option ℕ → Type 0
ByteOf group r = MatchOption r ((b : ℕ) → b < 256 → group ≢ pair b) (λ b. (b < 256) × (group ≡ pair b))

abbrev pub Parsed : List ℕ → Result (Vec ℕ Global) HexFault → Type 0
Parsed line (Ok v) = Bytes (vec_items v) × (line ≡ spelled (vec_items v))
Parsed line (Err NotHex) = (bs : List ℕ) → Bytes bs → line ≢ spelled bs
Parsed line (Err NoMemory) = Unit {0}
