use Rattle.orders.proofs.Counting.{counts_decide_orders_lem}
use Rattle.orders.proofs.Choice.{chosen_is_computed}
use Rattle.orders.proofs.law.counts_decide_orders.Goals as goal

pub returns : goal.returns
returns c = record { orders = counts_decide_orders_lem; choice = chosen_is_computed }
