-- The check's answer as a relation: what is wrong where the answer says so, and that nothing is wrong before.
--
--   Allowed bs b i             field b + i is what its position in the section of promise b allows
--   Uncovered bs k h           section h promises an amount, and none of its fields is free
--   AllAllowed bs k            every field is what its position allows
--   EarliestBad bs k place     the field from byte `place` on is not, and every field before it is
--   EarliestUncovered ..       the section whose promise is there is uncovered, and none before it is
--   Passing bs k               k and the length fit, every field is allowed, no section is uncovered
--   Judged bs k answer         what each answer says
--
-- Assumes nothing.
use Rattle.std.specs.Prelude.{◌≡◌, ℕ, zero, suc, ◌+◌, ◌*◌, ◌<◌, ◌≤◌, true, false, ◌⊎◌, List, length, Ok, Err}
use Rattle.ledger.specs.Held.{heads, most_places}
use Rattle.drawer_image.specs.declared.fault.DrawerFault.TheVariants.{BadCount, BadLength, BadField}
use Rattle.drawer_image.specs.Fields.{amount_at, is_promise, is_settled, is_free}
use Rattle.drawer_image.specs.Sections.{promise_of}
use Rattle.drawer_image.specs.Checks.{Answer}

-- at 0 a promise; behind it a free field, or a settled one with no free field between
abbrev pub Allowed : List ℕ → ℕ → ℕ → Type 0
Allowed bs b zero = is_promise bs b ≡ true
Allowed bs b (suc n) =
    (is_free bs (b + suc n) ≡ true) ⊎ ((is_settled bs (b + suc n) ≡ true) × ((i : ℕ) → i < n → is_free bs (b + suc i) ≡ false))

abbrev pub AllAllowed : List ℕ → ℕ → Type 0
AllAllowed bs k = (h i : ℕ) → h < heads → i ≤ k → Allowed bs (promise_of k h) i

abbrev pub Uncovered : List ℕ → ℕ → ℕ → Type 0
Uncovered bs k h = (0 < amount_at bs (promise_of k h)) × ((i : ℕ) → i < k → is_free bs (promise_of k h + suc i) ≡ false)

pub record EarliestBad (bs : List ℕ) (k place : ℕ) : Type 0 where
  pub head : ℕ
  pub position : ℕ
  pub inside : (head < heads) × (position ≤ k)
  pub here : place ≡ 7 * (promise_of k head + position)
  pub bad : Allowed bs (promise_of k head) position → ⊥
  pub before : (h i : ℕ) → i ≤ k → promise_of k h + i < promise_of k head + position → Allowed bs (promise_of k h) i

pub record EarliestUncovered (bs : List ℕ) (k place : ℕ) : Type 0 where
  pub head : ℕ
  pub inside : head < heads
  pub here : place ≡ 7 * promise_of k head
  pub uncovered : Uncovered bs k head
  pub before : (h : ℕ) → h < head → Uncovered bs k h → ⊥

-- k is 1 to 4,000, and the bytes are those of 14 sections of k + 1 fields
abbrev pub Counted : ℕ → Type 0
Counted k = (0 < k) × (k ≤ most_places)

abbrev pub Long : List ℕ → ℕ → Type 0
Long bs k = length bs ≡ 98 * (k + 1)

pub record Passing (bs : List ℕ) (k : ℕ) : Type 0 where
  pub counted : Counted k
  pub long : Long bs k
  pub allowed : AllAllowed bs k
  pub covered : (h : ℕ) → h < heads → Uncovered bs k h → ⊥

abbrev pub Judged : List ℕ → ℕ → Answer → Type 0
Judged bs k (Ok done) = Passing bs k
Judged bs k (Err (BadCount n)) = Counted k → ⊥
Judged bs k (Err (BadLength n)) = Counted k × (Long bs k → ⊥)
Judged bs k (Err (BadField n place)) =
    Counted k × Long bs k × (EarliestBad bs k place ⊎ (AllAllowed bs k × EarliestUncovered bs k place))
