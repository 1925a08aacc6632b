-- What a bill is worth, by the mantissa and the exponent of its denomination.
--
--   right_pair m e     the exponent is at most 6, and 0 without a mantissa
--   worth m e          mantissa × 10 to the exponent, nothing without a mantissa
--
-- Assumes nothing.
use Rattle.std.specs.Prelude.{ℕ, ◌*◌, ◌^◌, Bool, cond, ◌&&◌, ◌||◌, Some, None, Option, ◌==◌, nat_le, nat_lt}

abbrev pub right_pair : ℕ → ℕ → Bool
right_pair m e = nat_le e 6 && (nat_lt 0 m || e == 0)

abbrev pub worth : ℕ → ℕ → Option ℕ
worth m e = cond (m == 0) None (Some (m * 10 ^ e))
