use Rattle.turns.proofs.Invariant.{empty_keeps}
use Rattle.turns.proofs.table.TurnTable.new.Goals as goal

pub invariant_of-result : goal.invariant_of-result
invariant_of-result c = record { ordered = empty_keeps.0; bounded = empty_keeps.1 }
