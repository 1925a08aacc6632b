use Rattle.std.proofs.Common.{◌≡◌, ◌+◌, ◌≤◌, drop}
use Rattle.ledger_calls.specs.Calls.{after_all}
use Rattle.ledger_calls.specs.Books.{journal, accepted_in}
use Rattle.ledger_calls.proofs.make_calls.Given as goal

-- the calls so far and those to come are all calls
abbrev pub invariant-loop-it : goal.invariant-loop-it
invariant-loop-it g l =
    (l.accepted ≤ l.it-index)
    × (l.accepted + accepted_in (journal (g.L.Ledger.held l.ledger) (drop l.it-index l.calls)) ≡ accepted_in (journal (g.L.Ledger.held l.initial.ledger) l.calls))
    × (after_all (g.L.Ledger.held l.ledger) (drop l.it-index l.calls) ≡ after_all (g.L.Ledger.held l.initial.ledger) l.calls)
    × g.L.Ledger.keeps l.initial.ledger l.ledger
