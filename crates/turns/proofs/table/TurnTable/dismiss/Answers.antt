use Rattle.turns.proofs.Invariant.{without_head_keeps}
use Rattle.turns.proofs.table.TurnTable.dismiss.Goals as goal

pub invariant_of-self : goal.invariant_of-self
invariant_of-self c =
    let table = c.args.self.now in
    let keeps = without_head_keeps table.heads _ (table.ordered, table.bounded) in
    record { ordered = keeps.0; bounded = keeps.1 }
