use Rattle.std.proofs.Common.{◌≡◌, ◌+◌, ◌-◌, Some, length, sym, refl, ap, ◌∙◌, subst, ap₂, arith, rules}
use Rattle.drawer_image.specs.declared.section.Section.{Section}
use Rattle.drawer_image.specs.Checks.{Passes}
use Rattle.drawer.specs.Meaning.{bytes_held}
use Rattle.drawer.specs.Writes.{put_amount, put_settled}
use Rattle.drawer.proofs.Puts.{length_settled}
use Rattle.drawer.proofs.Calls.{IsOpened, opened}
use Rattle.drawer.proofs.Accepted.{held_places, held_next, held_settling, settle_call}
use Rattle.drawer.proofs.DrawerLedger.settle.Goals as goal

pub overflow_sub-next : goal.overflow_sub-next
overflow_sub-next c =
    let bs = c.args.self.now.bytes.now in
    let k = c.args.self.now.bills in
    let h = c.args.head in
    let read : IsOpened bs k h c.in_ok-promise.promise c.in_ok-promise.held = search rules in
    let o = opened bs k h c.in_ok-promise.promise c.in_ok-promise.held read in
    let read_amount : c.in_ok-promise.held.promised ≡ Some c.in_ok-amount.amount = search rules in
    let held = ap (λ (x : Section). x.promised) (sym o.2) ∙ read_amount in
    omega (arith, ap (λ (x : Section). x.free) o.2, (held_next bs k h c.in_ok-amount.amount held).within)

pub put_settled-requires : goal.put_settled-requires
put_settled-requires c =
    let bs = c.args.self.now.bytes.now in
    let k = c.args.self.now.bills in
    let h = c.args.head in
    let read : IsOpened bs k h c.in_ok-promise.promise c.in_ok-promise.held = search rules in
    let o = opened bs k h c.in_ok-promise.promise c.in_ok-promise.held read in
    let read_amount : c.in_ok-promise.held.promised ≡ Some c.in_ok-amount.amount = search rules in
    let held = ap (λ (x : Section). x.promised) (sym o.2) ∙ read_amount in
    omega (arith, o.1, ap (λ (x : Section). x.free) o.2, (held_next bs k h c.in_ok-amount.amount held).room)

pub put_amount-requires : goal.put_amount-requires
put_amount-requires c =
    let bs = c.args.self.now.bytes.now in
    let k = c.args.self.now.bills in
    let h = c.args.head in
    let read : IsOpened bs k h c.in_ok-promise.promise c.in_ok-promise.held = search rules in
    let o = opened bs k h c.in_ok-promise.promise c.in_ok-promise.held read in
    let read_amount : c.in_ok-promise.held.promised ≡ Some c.in_ok-amount.amount = search rules in
    let held = ap (λ (x : Section). x.promised) (sym o.2) ∙ read_amount in
    let long = ap length c.put_settled.ensures ∙ length_settled bs _ _ in
    omega (arith, o.1, (held_places bs k h c.in_ok-amount.amount held).room, long)

pub returns : goal.returns
returns c =
    let bs = c.args.self.now.bytes.now in
    let k = c.args.self.now.bills in
    let h = c.args.head in
    let read : IsOpened bs k h c.in_ok-promise.promise c.in_ok-promise.held = search rules in
    let o = opened bs k h c.in_ok-promise.promise c.in_ok-promise.held read in
    let read_amount : c.in_ok-promise.held.promised ≡ Some c.in_ok-amount.amount = search rules in
    let held = ap (λ (x : Section). x.promised) (sym o.2) ∙ read_amount in
    let a = c.in_ok-amount.amount in
    let p = held_places bs k h a held in
    let call = settle_call bs k h a o.0 held in
    let bytes =
    c.put_amount.ensures
    ∙ ap (λ x. put_amount x c.in_ok-promise.promise 0) c.put_settled.ensures
    ∙ ap₂ (λ x (s : Section). put_amount (put_settled bs (x + (k - s.free) + 1) a) x 0) o.1 o.2
    ∙ held_settling bs k h a held in
    record {
      answer = sym call.0;
      after = ap (λ x. bytes_held x k) bytes ∙ call.1;
      kept = (refl, refl, λ e. subst (λ x. Passes x k) (sym bytes) (call.2 e), λ z. absurd (omega (arith, p.some)));
      bytes = bytes;
      same = refl;
    }
