use Rattle.turns.proofs.Rounds.{turns_keep_their_law_lem}
use Rattle.turns.proofs.law.turns_keep_their_law.Goals as goal

pub returns : goal.returns
returns c = turns_keep_their_law_lem
