use Rattle.std.proofs.Common.{sym, subst}
use Rattle.orders.proofs.Counting.{counts_decide_orders_lem}
use Rattle.orders.proofs.Keeps.{Keeps}
use Rattle.turns.proofs.Invariant.{served_keeps}
use Rattle.turns.proofs.table.TurnTable.serve.Goals as goal

pub invariant_of-self : goal.invariant_of-self
invariant_of-self c =
    let table = c.args.self.now in
    let t = table.heads in
    let h = c.in-Some.head in
    let keeps =
    subst Keeps (sym c.after_slot-self.ensures)
    (served_keeps t h (table.ordered, table.bounded) ((counts_decide_orders_lem.starts t h).0 c.in-Some.ensures.turn.starts)) in
    record { ordered = keeps.0; bounded = keeps.1 }
