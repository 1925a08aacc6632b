use Rattle.message.specs.Heard.{found_by}
use Rattle.message.proofs.Scan.{frame_first, frame_nowhere}
use Rattle.message.proofs.heard.hear.Goals as goal

pub returns-in-Some : goal.returns-in-Some
returns-in-Some c =
    let is = frame_first c.args.received.now (λ i. (c.type_inv.received i).fits) (found_by c.in-Some.heard) c.in-Some.ensures in
    record { answer = is.0; hears = is.1 }

pub returns-in-None : goal.returns-in-None
returns-in-None c =
    let is = frame_nowhere c.args.received.now c.in-None.ensures c.fault_place.result _ c.fault_place.ensures.value c.fault_place.ensures.earliest c.heard_at.ensures.answer in
    record { answer = is.0; hears = is.1 }
