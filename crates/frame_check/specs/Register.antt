-- The check of a frame: a register of 16 bits that runs over the bytes, low bit first.
--
--   check_of bytes        the check of the bytes: the register, from 0, after all of them
--   byte_step reg byte    the register after one byte
--   bit_step reg bit      the register after one bit: the whole rule
--   entry_of i            what the table holds at i: the register i after eight data bits 0
--   tabulated i xs        the test that each of xs is the entry of its place, counted from i
--
-- Assumes nothing.
use Rattle.std.specs.Prelude.{ℕ, zero, suc, ◌/◌, ◌%◌, Bool, true, cond, ◌&&◌, List, [], ◌∷◌, fold, ◌==◌, bit_xor}

-- The register shifts right by one, and 8408H is xored in when the bit shifted out differs from the data bit.
unfoldable pub bit_step : ℕ → ℕ → ℕ
bit_step reg bit = cond (reg % 2 == bit) (reg / 2) (bit_xor (reg / 2) 0x8408)

-- The low n bits of a byte, low bit first.
unfoldable pub bit_steps : ℕ → ℕ → ℕ → ℕ
bit_steps zero reg byte = reg
bit_steps (suc n) reg byte = bit_steps n (bit_step reg (byte % 2)) (byte / 2)

unfoldable pub byte_step : ℕ → ℕ → ℕ
byte_step reg byte = bit_steps 8 reg byte

abbrev pub check_of : List ℕ → ℕ
check_of bytes = fold byte_step 0 bytes

unfoldable pub entry_of : ℕ → ℕ
entry_of i = bit_steps 8 i 0

abbrev pub tabulated : ℕ → List ℕ → Bool
tabulated i [] = true
tabulated i (x ∷ xs) = x == entry_of i && tabulated (suc i) xs
