use Rattle.std.proofs.Common.{refl}
use Rattle.orders.specs.Counts.{leaves_first}
use Rattle.turns.proofs.law.worked_cases.Goals as goal

pub returns : goal.returns
unfolding leaves_first
returns c = λ l. refl
