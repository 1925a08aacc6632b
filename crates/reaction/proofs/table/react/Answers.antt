use Rattle.std.proofs.Common.{rules}
use Rattle.reaction.proofs.Same.{same}
use Rattle.reaction.proofs.table.react.Goals as goal

pub returns : goal.returns
returns c = same _ _ (search rules) (search rules)
