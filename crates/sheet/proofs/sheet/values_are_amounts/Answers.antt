use Rattle.sheet.proofs.Worths.{values_are_amounts_lem}
use Rattle.sheet.proofs.sheet.values_are_amounts.Goals as goal

pub returns : goal.returns
returns c = values_are_amounts_lem
