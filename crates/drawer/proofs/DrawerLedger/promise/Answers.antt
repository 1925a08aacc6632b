use Rattle.std.proofs.Common.{◌≡◌, Ok, sym, refl, ap, ◌∙◌, subst, arith, rules}
use Rattle.ledger.specs.Answers.{promise_check}
use Rattle.drawer_image.specs.declared.section.Section.{Section}
use Rattle.drawer_image.specs.Checks.{Passes}
use Rattle.drawer.specs.Meaning.{held_in, bytes_held}
use Rattle.drawer.specs.Writes.{put_amount}
use Rattle.drawer.proofs.Calls.{IsOpened, opened}
use Rattle.drawer.proofs.Accepted.{fits_places, promise_call}
use Rattle.drawer.proofs.DrawerLedger.promise.Goals as goal

pub put_amount-requires : goal.put_amount-requires
put_amount-requires c =
    let bs = c.args.self.now.bytes.now in
    let k = c.args.self.now.bills in
    let h = c.args.head in
    let read : IsOpened bs k h c.in_ok-first.first c.in_ok-first.held = search rules in
    let o = opened bs k h c.in_ok-first.first c.in_ok-first.held read in
    let fits : Ok tt ≡ promise_check c.in_ok-first.held.promised (held_in c.in_ok-first.held).places 0 c.args.amount = search rules in
    let ok = sym (fits ∙ ap (λ (s : Section). promise_check s.promised (held_in s).places 0 c.args.amount) o.2) in
    let p = fits_places bs k h c.args.amount ok in
    omega (arith, o.1, p.room)

pub returns : goal.returns
returns c =
    let bs = c.args.self.now.bytes.now in
    let k = c.args.self.now.bills in
    let h = c.args.head in
    let read : IsOpened bs k h c.in_ok-first.first c.in_ok-first.held = search rules in
    let o = opened bs k h c.in_ok-first.first c.in_ok-first.held read in
    let fits : Ok tt ≡ promise_check c.in_ok-first.held.promised (held_in c.in_ok-first.held).places 0 c.args.amount = search rules in
    let ok = sym (fits ∙ ap (λ (s : Section). promise_check s.promised (held_in s).places 0 c.args.amount) o.2) in
    let p = fits_places bs k h c.args.amount ok in
    let call = promise_call bs k h c.args.amount o.0 ok in
    let bytes = c.put_amount.ensures ∙ ap (λ x. put_amount bs x c.args.amount) o.1 in
    record {
      answer = sym call.0;
      after = ap (λ x. bytes_held x k) bytes ∙ call.1;
      kept = (refl, refl, λ e. subst (λ x. Passes x k) (sym bytes) (call.2 e), λ z. absurd (omega (arith, p.some)));
      bytes = bytes;
      same = refl;
    }
