use Rattle.std.proofs.Common.{◌≡◌, ℕ, ◌+◌, Bool, cond, drop, sym, ap, ◌∙◌, subst, arith}
use Rattle.ledger.specs.Held.{Heads}
use Rattle.ledger_calls.specs.Calls.{after_all}
use Rattle.ledger_calls.specs.Books.{journal, accepted_in, Balanced}
use Rattle.ledger_calls.proofs.Balances.{one_if_ok, balanced, refused_calls_leave_no_trace, turn_after, turn_accepted, last_after, last_accepted}
use Rattle.ledger_calls.proofs.make_calls.Goals as goal
use Rattle.ledger_calls.proofs.make_calls.Goals.{then-is_ok, else-is_ok}

pub loop-it-preserved : goal.loop-it-preserved
loop-it-preserved g c =
    let held = g.L.Ledger.held in
    let before = c.loop-it.ledger in
    let since = c.make_call.new.ledger in
    let calls = c.args.calls.now in
    let i = c.loop-it.it-index in
    let lt = c.loop-it-test.true in
    let made = c.make_call.ensures in
    let counted : accepted_in (journal (held before) (drop i calls)) ≡ one_if_ok c.make_call.result + accepted_in (journal (held since) (drop (i + 1) calls)) =
    turn_accepted (held before) (held since) _ c.make_call.result calls i lt made.answer made.after in
    let number : Bool → ℕ = λ b. cond b 1 0 in
    let one : one_if_ok c.make_call.result ≡ number c.is_ok.result = ap number (sym c.is_ok.ensures.value) in (
      elim c.if-is_ok.branch [ then-is_ok w ↦ omega (arith, w.accepted-is) | else-is_ok w ↦ omega (arith, w.accepted-is) ],
      elim c.if-is_ok.branch [
        | then-is_ok w ↦ omega (arith, w.accepted-is, ap number w.if-is_ok.true)
        | else-is_ok w ↦ omega (arith, w.accepted-is, ap number w.if-is_ok.false)
      ],
      turn_after (held before) (held since) calls i lt made.after ∙ c.loop-it.invariant.2,
      g.L.Ledger.joins c.args.ledger.now before since c.loop-it.invariant.3 made.kept,
    )

pub returns : goal.returns
returns g c =
    let t : Heads = g.L.Ledger.held c.args.ledger.now in
    let u : Heads = g.L.Ledger.held c.loop-it.ledger in
    let calls = c.args.calls.now in
    let i = c.loop-it.it-index in
    let le = c.loop-it-test.false in
    let after : u ≡ after_all t calls = sym (last_after u calls i le) ∙ c.loop-it.invariant.2 in
    record {
      accepted = omega (arith, c.loop-it.invariant.1, last_accepted u calls i le);
      after = after;
      books = subst (λ w. Balanced t (journal t calls) w) (sym after) (balanced t calls);
      within = g.L.Ledger.within c.loop-it.ledger;
      refused = refused_calls_leave_no_trace;
      kept = c.loop-it.invariant.3;
    }
