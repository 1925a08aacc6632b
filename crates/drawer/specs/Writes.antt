-- The bytes after each call on a drawer, byte for byte.
--
--   put_amount bs j a           the bytes with a written as the amount of field j, low byte first
--   put_settled bs j a          the bytes with field j made a settled bill of a; its length stays
--   next_free bs k h            the first free field of section h: the settled bills stand before it
--   promised_bytes bs k h a r   the bytes after a promise of a for head h that is answered r
--   settled_bytes bs k h r      the bytes after settling: the bill is written first, then 0 into the promise
--   given_back_bytes bs k h r   the bytes after giving back
--
-- A call refused leaves the bytes as they are. Assumes nothing.
use Rattle.std.specs.Prelude.{ℕ, ◌+◌, ◌-◌, ◌*◌, ◌/◌, ◌%◌, cond, List, is_ok, slice_set}
use Rattle.ledger.specs.Answers.{Answer}
use Rattle.drawer_image.specs.Fields.{amount_at}
use Rattle.drawer_image.specs.Sections.{promise_of, free_in}

abbrev pub put_amount : List ℕ → ℕ → ℕ → List ℕ
put_amount bs j a =
    slice_set (slice_set (slice_set (slice_set bs (7 * j + 3) (a % 256)) (7 * j + 4) (a / 256 % 256)) (7 * j + 5) (a / 65536 % 256)) (7 * j + 6) (a / 16777216 % 256)

abbrev pub put_settled : List ℕ → ℕ → ℕ → List ℕ
put_settled bs j a = put_amount (slice_set bs (7 * j) 0x43) j a

abbrev pub next_free : List ℕ → ℕ → ℕ → ℕ
next_free bs k h = promise_of k h + (k - free_in bs (promise_of k h) k) + 1

abbrev pub promised_bytes : List ℕ → ℕ → ℕ → ℕ → Answer → List ℕ
promised_bytes bs k h a r = cond (is_ok r) (put_amount bs (promise_of k h) a) bs

abbrev pub settling_bytes : List ℕ → ℕ → ℕ → List ℕ
settling_bytes bs k h = put_amount (put_settled bs (next_free bs k h) (amount_at bs (promise_of k h))) (promise_of k h) 0

abbrev pub settled_bytes : List ℕ → ℕ → ℕ → Answer → List ℕ
settled_bytes bs k h r = cond (is_ok r) (settling_bytes bs k h) bs

abbrev pub given_back_bytes : List ℕ → ℕ → ℕ → Answer → List ℕ
given_back_bytes bs k h r = cond (is_ok r) (put_amount bs (promise_of k h) 0) bs
