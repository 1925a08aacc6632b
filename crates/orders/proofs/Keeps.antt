-- What a table that can exist keeps, and what that says of its counts. Assumes nothing.
use Rattle.std.proofs.Common.{◌≡◌, ℕ, ◌≤◌, true, refl, ap, ⊎_elim, arith}
use mathlib.Core.Logic.{∥∥₁_elim}
use native.Mathlib.Bridge.{le_prop}
use Rattle.std.proofs.lemmas.Bool.{cases_lt}
use Rattle.orders.specs.Tables.{Table, turn_of, is_admitted, slack_of}
use Rattle.orders.specs.Orders.{SomeOrder, Bounded}
use Rattle.orders.specs.Counts.{slack_within, OrderCounts}
use Rattle.orders.proofs.Lists.{one}
use Rattle.orders.proofs.Counting.{counts_decide_orders_lem}
use Rattle.orders.proofs.Changes.{count_without_head, slack_within_lem}

abbrev pub Keeps : Table → Type 0
Keeps t = ∥ SomeOrder t ∥₁ × Bounded t

pub counts_of : (t : Table) → ∥ SomeOrder t ∥₁ → OrderCounts t
counts_of t order k = ∥∥₁_elim order le_prop (λ o. (counts_decide_orders_lem.orders t).0 o k)

pub order_of : (t : Table) → OrderCounts t → ∥ SomeOrder t ∥₁
order_of t counts = ∣ (counts_decide_orders_lem.orders t).1 counts ∣₁

pub slack_positive : (t : Table) (h : ℕ) → OrderCounts t → is_admitted t h ≡ true → 1 ≤ slack_of t h
slack_positive t h counts in' =
    ⊎_elim
    (λ lt.
    absurd
    (omega (
      arith,
      counts 0,
      count_without_head (slack_within 0) refl t h,
      ap one (slack_within_lem 0 (turn_of t h) in' (omega arith)),
    )))
    (λ ge. ge)
    (cases_lt (slack_of t h) 1)
