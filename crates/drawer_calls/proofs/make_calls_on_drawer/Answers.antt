use Rattle.std.proofs.Common.{rules}
use Rattle.drawer.specs.Meaning.{bytes_held}
use Rattle.drawer_calls.proofs.Documented.{calls_documented}
use Rattle.drawer_calls.proofs.make_calls_on_drawer.Goals as goal

pub returns : goal.returns
returns c =
    let made = c.new-drawer.result in
    let last = c.make_calls.new.ledger in
    record {
      passes = search rules;
      held =
          calls_documented c.args.bytes.now _ last.bytes.now c.args.bills made.bills last.bills (bytes_held made.bytes.now made.bills) c.args.calls.now
          c.new-drawer.ensures.bills c.new-drawer.ensures.held c.make_calls.ensures.kept.1 c.make_calls.ensures.after (search rules) (search rules);
      refused = search rules;
    }
