-- What is shown of bytes that pass the check.
--
--   HoldsDocumented        a drawer of them holds what is documented
--   SettlesIntoFirstFree   a bill is settled into a free field of its section, and no field before that one is free
--
-- Assumes nothing.
use Rattle.std.specs.Prelude.{◌≡◌, ℕ, suc, ◌+◌, ◌<◌, true, false, List}
use Rattle.ledger.specs.Held.{heads}
use Rattle.drawer_image.specs.Fields.{amount_at, is_free}
use Rattle.drawer_image.specs.Sections.{promise_of}
use Rattle.drawer_image.specs.Checks.{Passes}
use Rattle.drawer.specs.Meaning.{documented, bytes_held}
use Rattle.drawer.specs.Writes.{next_free}

abbrev pub HoldsDocumented : Type 0
HoldsDocumented = (bs : List ℕ) (k : ℕ) → Passes bs k → bytes_held bs k ≡ documented bs k

-- field j is the first free one behind the promise b with k fields behind it
pub record FirstFree (bs : List ℕ) (b k j : ℕ) : Type 0 where
  pub position : ℕ
  pub inside : position < k
  pub here : j ≡ b + suc position
  pub free : is_free bs j ≡ true
  pub before : (i : ℕ) → i < position → is_free bs (b + suc i) ≡ false

abbrev pub SettlesIntoFirstFree : Type 0
SettlesIntoFirstFree =
    (bs : List ℕ) (k h : ℕ) → Passes bs k → h < heads → 0 < amount_at bs (promise_of k h) → FirstFree bs (promise_of k h) k (next_free bs k h)
