-- Which numbers are limits.
--
--   checked_limit n   n, if it is one of 1 to 14, else nothing
--
-- Assumes nothing.
use Rattle.std.specs.Prelude.{ℕ, cond, ◌&&◌, Some, None, Option, nat_le}

abbrev pub checked_limit : ℕ → Option ℕ
checked_limit n = cond (nat_le 1 n && nat_le n 14) (Some n) None
