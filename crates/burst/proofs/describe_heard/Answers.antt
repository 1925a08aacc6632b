use Rattle.std.proofs.Common.{rules}
use Rattle.hex_text.specs.Spelled.{blanked}
use Rattle.hex_text.proofs.Groups.{two_digits}
use Rattle.burst.proofs.describe_heard.Goals as goal

pub returns : goal.returns
unfolding blanked
returns c = search (rules, two_digits)
