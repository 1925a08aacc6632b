use Rattle.ledger.proofs.CallLaws.{accepted_as_named, promises_as_listed, ends_as_listed, refused_changes_nothing}
use Rattle.ledger.proofs.laws.calls_keep_to_their_head.Goals as goal

pub returns : goal.returns
returns c = record { promises = promises_as_listed; ends = ends_as_listed; accepted = accepted_as_named; refused = refused_changes_nothing }
