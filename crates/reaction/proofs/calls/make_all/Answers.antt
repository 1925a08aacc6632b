use Rattle.std.proofs.Common.{◌≡◌, None, refl, rules}
use Rattle.reaction.specs.Calls.{called_all, if_called}
use Rattle.reaction.proofs.calls.make_all.Goals as goal
use Rattle.reaction.proofs.calls.make_all.Goals.{in-Some, in_default}

pub returns-in-Some-promise : goal.returns-in-Some-promise
returns-in-Some-promise g c =
    let entry = c.args.ledger.now in
    let before = c.match-calls.ledger in
    let head = c.args.head in
    let ended : g.L.Ledger.held before ≡ called_all (g.L.Ledger.held entry) head (if_called c.args.calls.ending) = elim c.match-calls.branch [ in-Some w ↦ search rules | in_default w ↦ search rules ] in
    let depth : c.args.calls.ending ≡ None → g.L.Ledger.depth before head ≡ g.L.Ledger.depth entry head = λ none. elim c.match-calls.branch [ in-Some w ↦ search rules | in_default w ↦ search rules ] in
    let kept : g.L.Ledger.keeps entry before = elim c.match-calls.branch [ in-Some w ↦ search rules | in_default w ↦ search rules ] in
    record {
      answer = (g.L.Ledger.depth before head, depth, search rules);
      after = search rules;
      kept = g.L.Ledger.joins entry before _ kept c.make_call-in-Some-promise.ensures.kept;
    }

pub returns-in-None : goal.returns-in-None
returns-in-None g c =
    let entry = c.args.ledger.now in
    let head = c.args.head in
    let ended : g.L.Ledger.held c.match-calls.ledger ≡ called_all (g.L.Ledger.held entry) head (if_called c.args.calls.ending) = elim c.match-calls.branch [ in-Some w ↦ search rules | in_default w ↦ search rules ] in
    record {
      answer = (g.L.Ledger.depth entry head, λ none. refl, search rules);
      after = search rules;
      kept = elim c.match-calls.branch [ in-Some w ↦ search rules | in_default w ↦ search rules ];
    }
