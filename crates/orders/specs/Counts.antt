-- Counts of small slacks, and that they decide whether an order exists.
--
--   heads_within k t     how many heads have a slack of at most k
--   OrderCounts t        for every k, at most k heads have a slack of at most k
--   StartCounts t h      head h is admitted with a slack of at least 1, and for every k from 1 at most k - 1 of the
--                        other heads have a slack of at most k
--   CountsDecideOrders   some order keeps every head within its slack exactly if OrderCounts holds, and some such
--                        order starts with h exactly if StartCounts holds of h
--   can_start t h        StartCounts of a table that can exist, as a computed test
--
-- Assumes nothing.
use Rattle.std.specs.Prelude.{◌≡◌, ℕ, suc, ◌+◌, ◌≤◌, Bool, true, false, ◌&&◌, ◌↔◌, Some, None, count_by, Option, nat_le}
use Rattle.std.specs.List.{list_all, range_with_len}
use Rattle.orders.specs.declared.turn.Turn.{Turn}
use Rattle.orders.specs.Tables.{Table, is_admitted, slack_of, without_head}
use Rattle.orders.specs.Orders.{SomeOrder, SomeOrderFrom}

abbrev pub slack_within : ℕ → Option Turn → Bool
slack_within k None = false
slack_within k (Some turn) = nat_le turn.slack k

abbrev pub heads_within : ℕ → Table → ℕ
heads_within k t = count_by (slack_within k) t

abbrev pub OrderCounts : Table → Type 0
OrderCounts t = (k : ℕ) → heads_within k t ≤ k

-- k counts from 0 here, so that a slack of `suc k` leaves k places to the others
abbrev pub StartCounts : Table → ℕ → Type 0
StartCounts t h =
    (is_admitted t h ≡ true) × (1 ≤ slack_of t h) × ((k : ℕ) → heads_within (suc k) (without_head t h) ≤ k)

pub record CountsDecideOrders : Type 0 where
  pub orders : (t : Table) → SomeOrder t ↔ OrderCounts t
  pub starts : (t : Table) (h : ℕ) → SomeOrderFrom t h ↔ StartCounts t h

-- ---- the computed test: no count passes 14, so no larger k has to be looked at
unfoldable pub leaves_first : Table → ℕ → Bool
leaves_first others n = list_all (λ k. nat_le (heads_within (k + 1) others) k) (range_with_len 0 n)

abbrev pub can_start : Table → ℕ → Bool
can_start t h = is_admitted t h && leaves_first (without_head t h) 14
