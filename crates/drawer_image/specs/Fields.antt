-- The fields of a drawer's bytes: seven bytes each, field j from byte 7 j on.
--
--   tag_at bs j       the tag of field j, one byte
--   length_at bs j    its length, two bytes, low byte first
--   amount_at bs j    its amount, four bytes, low byte first
--   headed bs j t     it has the tag t, and the length 4
--   is_promise bs j   it is a promise: tag 50H, length 4, amount 0 to 255,000,000
--   is_settled bs j   it is a settled bill: tag 43H, length 4, amount 1 to 255,000,000
--   is_free bs j      it is free: tag 00H, length 4, amount 0
--   promised_at bs j  the amount that it promises if it is a promise, or none: 0 promises nothing
--   field_at bs j     what it is: a promise, a settled bill, free, or none of these
--   AreFields fs bs b fs are the fields of bs from field b on
--
-- Assumes nothing.
use Rattle.std.specs.Prelude.{◌≡◌, ℕ, ◌+◌, ◌*◌, ◌<◌, Bool, cond, ◌&&◌, List, [], length, take, drop, Some, None, Option, ◌==◌, nat_le, slice_index, slice_index_or}
use Rattle.ledger.specs.Held.{most_amount}
use Rattle.drawer_image.specs.declared.field.Field.{Field}
use Rattle.drawer_image.specs.declared.field.Field.TheVariants.{Promise, Settled, Free}

abbrev pub tag_at : List ℕ → ℕ → ℕ
tag_at bs j = slice_index bs (7 * j)

abbrev pub length_at : List ℕ → ℕ → ℕ
length_at bs j = slice_index bs (7 * j + 1) + slice_index bs (7 * j + 2) * 256

abbrev pub amount_at : List ℕ → ℕ → ℕ
amount_at bs j =
    slice_index bs (7 * j + 3)
    + slice_index bs (7 * j + 4) * 256
    + slice_index bs (7 * j + 5) * 65536
    + slice_index bs (7 * j + 6) * 16777216

abbrev pub headed : List ℕ → ℕ → ℕ → Bool
headed bs j t = tag_at bs j == t && length_at bs j == 4

unfoldable pub is_promise : List ℕ → ℕ → Bool
is_promise bs j = headed bs j 0x50 && nat_le (amount_at bs j) most_amount

unfoldable pub is_settled : List ℕ → ℕ → Bool
is_settled bs j = headed bs j 0x43 && (nat_le 1 (amount_at bs j) && nat_le (amount_at bs j) most_amount)

unfoldable pub is_free : List ℕ → ℕ → Bool
is_free bs j = headed bs j 0x00 && amount_at bs j == 0

abbrev pub promised_at : List ℕ → ℕ → Option ℕ
promised_at bs j = cond (amount_at bs j == 0) None (Some (amount_at bs j))

abbrev pub field_at : List ℕ → ℕ → Option Field
field_at bs j =
    cond (is_promise bs j) (Some (Promise (promised_at bs j)))
    (cond (is_settled bs j) (Some (Settled (amount_at bs j)))
    (cond (is_free bs j) (Some Free) None))

pub record AreFields (fs : List (List ℕ)) (bs : List ℕ) (b : ℕ) : Type 0 where
  pub each : (i : ℕ) → i < length fs → slice_index_or fs i [] ≡ take 7 (drop (7 * (b + i)) bs)
