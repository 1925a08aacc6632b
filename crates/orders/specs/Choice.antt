-- Which head a slot is opened for.
--
--   Smallest t h       head h has the smallest slack, and the lowest number on a tie
--   TurnOf t wish h    the next turn is head h's: the head wished for if some order within the slacks starts with it,
--                      else the head of smallest slack
--   Chosen t wish r    r is the head whose turn is next, or nothing if there is no head
--   chosen t wish      the same, computed
--   ChosenIsComputed   of every table that can exist, Chosen t wish holds of chosen t wish and of nothing else
--
-- Assumes nothing.
use Rattle.std.specs.Prelude.{◌≡◌, ℕ, suc, ◌<◌, ◌≤◌, true, cond, ◌↔◌, [], ◌∷◌, Some, None, Option, nat_lt}
use Rattle.std.specs.Option.{option_map}
use Rattle.orders.specs.declared.turn.Turn.{Turn}
use Rattle.orders.specs.Tables.{Table, is_admitted, slack_of, is_empty}
use Rattle.orders.specs.Orders.{SomeOrder, SomeOrderFrom, Bounded}
use Rattle.orders.specs.Counts.{can_start}

-- ---- in the words of orders
pub record Smallest (t : Table) (h : ℕ) : Type 0 where
  pub admitted : is_admitted t h ≡ true
  pub smallest : (g : ℕ) → is_admitted t g ≡ true → slack_of t h ≤ slack_of t g
  pub lowest : (g : ℕ) → g < h → is_admitted t g ≡ true → slack_of t h < slack_of t g

pub record TurnOf (t : Table) (wish h : ℕ) : Type 0 where
  pub starts : SomeOrderFrom t h
  pub granted : SomeOrderFrom t wish → h ≡ wish
  pub otherwise : (SomeOrderFrom t wish → ⊥) → Smallest t h

abbrev pub Chosen : Table → ℕ → Option ℕ → Type 0
Chosen t wish None = is_empty t ≡ true
Chosen t wish (Some h) = TurnOf t wish h

-- ---- computed
-- the better of a head found so far, with its slack, and head i
abbrev pub smaller : Option (ℕ × ℕ) → ℕ → Option Turn → Option (ℕ × ℕ)
smaller found i None = found
smaller None i (Some turn) = Some (i, turn.slack)
smaller (Some best) i (Some turn) = cond (nat_lt turn.slack best.1) (Some (i, turn.slack)) (Some best)

-- the best of a head found so far and of the heads from i on
abbrev pub smallest_from : Option (ℕ × ℕ) → ℕ → Table → Option (ℕ × ℕ)
smallest_from found i [] = found
smallest_from found i (place ∷ t) = smallest_from (smaller found i place) (suc i) t

abbrev pub smallest_slack : Table → Option ℕ
smallest_slack t = option_map (λ best. best.0) (smallest_from None 0 t)

abbrev pub chosen : Table → ℕ → Option ℕ
chosen t wish = cond (can_start t wish) (Some wish) (smallest_slack t)

abbrev pub ChosenIsComputed : Type 0
ChosenIsComputed =
    (t : Table) (wish : ℕ) (r : Option ℕ) → ∥ SomeOrder t ∥₁ → Bounded t → Chosen t wish r ↔ (r ≡ chosen t wish)
