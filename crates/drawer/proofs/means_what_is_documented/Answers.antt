use Rattle.drawer.proofs.Checks.{holds_documented}
use Rattle.drawer.proofs.Accepted.{settles_into_first_free}
use Rattle.drawer.proofs.means_what_is_documented.Goals as goal

pub returns : goal.returns
returns c = record { held = holds_documented; settles = settles_into_first_free }
