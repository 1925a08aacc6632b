use Rattle.head.proofs.Listed.{moves_as_listed}
use Rattle.head.proofs.head.Head.new.Goals as goal

pub returns-clause-moves : goal.returns-clause-moves
returns-clause-moves c = moves_as_listed
