use Rattle.std.proofs.Common.{take}
use Rattle.ledger_script.specs.Scripts.{AnsweredAsTold}
use Rattle.ledger_script.proofs.run.Given as goal

-- the steps so far were answered as they say
abbrev pub invariant-loop-place : goal.invariant-loop-place
invariant-loop-place g l =
    AnsweredAsTold g.L.Ledger.held g.L.Ledger.depth l.initial.ledger (take l.place l.steps) l.ledger
    × g.L.Ledger.keeps l.initial.ledger l.ledger
