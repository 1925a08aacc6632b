use Rattle.std.proofs.Common.{◌≡◌, true, set, is_ok, Some, sym, ap, ◌∙◌, subst, arith}
use Rattle.orders.specs.Orders.{fits_limits}
use Rattle.orders.specs.Tables.{with_head}
use Rattle.orders.proofs.Keeps.{Keeps}
use Rattle.turns.proofs.Invariant.{with_head_keeps}
use Rattle.turns.proofs.Outcomes.{number_accepted}
use Rattle.turns.proofs.table.TurnTable.admit.Goals as goal

pub invariant_of-self : goal.invariant_of-self
invariant_of-self c =
    let table = c.args.self.now in
    let t = table.heads in
    let h = c.args.number in
    let joined : set t c.from.result (Some c.new.result) ≡ with_head t h c.args.limit = ap (λ i. set t i (Some c.new.result)) c.from.ensures ∙ ap (λ turn. set t h (Some turn)) c.new.ensures in
    let free = number_accepted t h (ap is_ok (sym c.check_number.ensures ∙ c.in_ok-check_number.was)) in
    let fits : fits_limits (with_head t h c.args.limit) ≡ true = ap fits_limits (sym joined) ∙ sym c.if-not-fits_limits.ensures in
    let keeps =
    subst Keeps (sym joined)
    (with_head_keeps t h c.args.limit (table.ordered, table.bounded) (omega (arith, table.bounded.2)) free.1 fits) in
    record { ordered = keeps.0; bounded = keeps.1 }
