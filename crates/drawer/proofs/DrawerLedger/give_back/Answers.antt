use Rattle.std.proofs.Common.{◌≡◌, Some, sym, refl, ap, ◌∙◌, subst, arith, rules}
use Rattle.drawer_image.specs.declared.section.Section.{Section}
use Rattle.drawer_image.specs.Checks.{Passes}
use Rattle.drawer.specs.Meaning.{bytes_held}
use Rattle.drawer.specs.Writes.{put_amount}
use Rattle.drawer.proofs.Calls.{IsOpened, opened}
use Rattle.drawer.proofs.Accepted.{held_places, give_call}
use Rattle.drawer.proofs.DrawerLedger.give_back.Goals as goal

pub put_amount-requires : goal.put_amount-requires
put_amount-requires c =
    let bs = c.args.self.now.bytes.now in
    let k = c.args.self.now.bills in
    let h = c.args.head in
    let read : IsOpened bs k h c.in_ok-first.first c.in_ok-first.held = search rules in
    let o = opened bs k h c.in_ok-first.first c.in_ok-first.held read in
    let read_amount : c.in_ok-first.held.promised ≡ Some c.in_ok-ok_or.field-0 = search rules in
    let held = ap (λ (x : Section). x.promised) (sym o.2) ∙ read_amount in
    omega (arith, o.1, (held_places bs k h c.in_ok-ok_or.field-0 held).room)

pub returns : goal.returns
returns c =
    let bs = c.args.self.now.bytes.now in
    let k = c.args.self.now.bills in
    let h = c.args.head in
    let read : IsOpened bs k h c.in_ok-first.first c.in_ok-first.held = search rules in
    let o = opened bs k h c.in_ok-first.first c.in_ok-first.held read in
    let read_amount : c.in_ok-first.held.promised ≡ Some c.in_ok-ok_or.field-0 = search rules in
    let held = ap (λ (x : Section). x.promised) (sym o.2) ∙ read_amount in
    let p = held_places bs k h c.in_ok-ok_or.field-0 held in
    let call = give_call bs k h c.in_ok-ok_or.field-0 o.0 held in
    let bytes = c.put_amount.ensures ∙ ap (λ x. put_amount bs x 0) o.1 in
    record {
      answer = sym call.0;
      after = ap (λ x. bytes_held x k) bytes ∙ call.1;
      kept = (refl, refl, λ e. subst (λ x. Passes x k) (sym bytes) (call.2 e), λ z. absurd (omega (arith, p.some)));
      bytes = bytes;
      same = refl;
    }
