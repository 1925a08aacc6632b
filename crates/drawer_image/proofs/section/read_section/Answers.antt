use Rattle.std.proofs.Common.{◌≡◌, ℕ, ◌+◌, ◌-◌, ◌*◌, ◌<◌, ◌≤◌, List, [], length, get_or, take, drop, Some, None, Ok, Err, Option, Result, sym, ap, ◌∙◌, ap₂, arith, rules}
use Rattle.std.proofs.lemmas.Bool.{and_left, and_right, ne_eqb}
use Rattle.std.proofs.lemmas.Simd.{get_or-chunk}
use Rattle.ledger.specs.Held.{most_amount}
use Rattle.ledger.specs.Answers.{its_number}
use Rattle.drawer_image.specs.declared.field.Field.{Field}
use Rattle.drawer_image.specs.declared.field.Field.TheVariants.{Promise, Settled, Free}
use Rattle.drawer_image.specs.declared.section.Section.{Section}
use Rattle.drawer_image.specs.declared.fault.DrawerFault.{DrawerFault}
use Rattle.drawer_image.specs.declared.fault.DrawerFault.TheVariants.{BadField}
use Rattle.drawer_image.specs.Fields.{AreFields, field_at, promised_at}
use Rattle.drawer_image.specs.Sections.{section_of, free_in, credited_in, bad_in, read_of}
use Rattle.drawer_image.proofs.Fields.{read_at, field_none, field_promise, field_settled, field_free, field_unpromised, promise_unfree, promise_unsettled, settled_unfree}
use Rattle.drawer_image.proofs.Walks.{free_none, sum_none, good_first, bad_first, bad_bill, after_free, after_settled, settled_most}
use Rattle.drawer_image.proofs.section.read_section.Goals as goal
use Rattle.drawer_image.proofs.section.read_section.Goals.{in-Free, in-Settled}

abbrev Answer : Type 0
Answer = Result Section DrawerFault

module _ {fs : List (List ℕ)} {bs : List ℕ} {b : ℕ} (a : AreFields fs bs b) where
  promise_at : 0 < length fs → (f : Option Field) → f ≡ field_at (get_or fs 0 []) 0 → f ≡ field_at bs b
  promise_at lt f e = let z : b + 0 ≡ b = omega arith in read_at a 0 lt f e ∙ ap (field_at bs) z

  bill_at : (i : ℕ) → i < length fs - 1 → (f : Option Field) → f ≡ field_at (get_or (take (length fs - 1) (drop 1 fs)) i []) 0 → f ≡ field_at bs (b + i + 1)
  bill_at i lt f e =
      let z : b + (1 + i) ≡ b + i + 1 = omega arith in
      read_at a (1 + i) (omega arith) f (e ∙ ap (λ x. field_at x 0) (get_or-chunk 1 (length fs - 1) fs i [] lt)) ∙ ap (field_at bs) z

settled_small : (f : List ℕ) (a : ℕ) → Some (Settled a) ≡ field_at f 0 → a ≤ most_amount
settled_small f a e = let t = field_settled f 0 a e in omega (arith, settled_most f 0 t.1, t.2)

good_read : (bs : List ℕ) (b n : ℕ) (p : Option ℕ) (c f : ℕ) → bad_in bs b n ≡ None → p ≡ promised_at bs b → c ≡ credited_in bs b n → f ≡ free_in bs b n → ◌≡◌ {A = Answer} (Ok (record { promised = p; credited = c; free = f })) (read_of (bad_in bs b n) (section_of bs b n))
good_read bs b n p c f good e1 e2 e3 =
    ap₂ (λ x y. Ok (record { promised = x; credited = y; free = f })) e1 e2
    ∙ ap (λ z. Ok (record { promised = promised_at bs b; credited = credited_in bs b n; free = z })) e3
    ∙ ap (λ o. read_of o (section_of bs b n)) (sym good)

pub returns-in_err-promised : goal.returns-in_err-promised
returns-in_err-promised c = λ bs a.
    let r : c.from_residual.result ≡ Err (BadField its_number (7 * c.args.first)) = search rules in
    let f : None ≡ field_at (get_or c.args.fields.now 0 []) 0 = search rules in
    r ∙ bad_first bs c.args.first _ _ (field_none bs c.args.first (promise_at a c.requires.promise None f)).0

pub returns-in_default : goal.returns-in_default
returns-in_default c = λ bs a.
    let r : ◌≡◌ {A = Answer} (Err c.bad_field-bad.result) (Err (BadField its_number (7 * c.args.first))) = search rules in
    let f : Some c.in_ok-promised.field-0 ≡ field_at (get_or c.args.fields.now 0 []) 0 = search rules in
    r ∙ bad_first bs c.args.first _ _ (field_unpromised bs c.args.first c.in_ok-promised.field-0 (promise_at a c.requires.promise _ f) c.in_default.not-Promise)

pub loop-bill-init : goal.loop-bill-init
loop-bill-init c =
    let f : Some (Promise c.in-Promise.promised) ≡ field_at (get_or c.args.fields.now 0 []) 0 = search rules in
    record {
      read = λ bs a. (
        good_first bs c.args.first (field_promise bs c.args.first c.in-Promise.promised (promise_at a c.requires.promise _ f)).0,
        sym (free_none bs c.args.first),
        sym (sum_none bs c.args.first),
      );
      few = omega arith;
      small = omega arith;
    }

pub returns-in_err-ok_or : goal.returns-in_err-ok_or
returns-in_err-ok_or c = λ bs a.
    let b = c.args.first in
    let i = c.loop-bill.bill in
    let r : c.from_residual-in_err-ok_or.result ≡ Err (BadField its_number (7 * (b + i + 1))) = search rules in
    let f : None ≡ field_at (get_or (take (length c.args.fields.now - 1) (drop 1 c.args.fields.now)) i []) 0 = search rules in
    let n = field_none bs (b + i + 1) (bill_at a i (omega arith) None f) in
    r ∙ bad_bill bs b i _ _ (c.loop-bill.invariant.read bs a).0 (omega arith) n.2 (and_right _ _ n.1)

pub returns-in_default-2 : goal.returns-in_default-2
returns-in_default-2 c = λ bs a.
    let b = c.args.first in
    let i = c.loop-bill.bill in
    let r : ◌≡◌ {A = Answer} (Err c.bad_field-bad-in-loop-bill.result) (Err (BadField its_number (7 * (b + i + 1)))) = search rules in
    let f : Some (Settled c.in-Settled.amount) ≡ field_at (get_or (take (length c.args.fields.now - 1) (drop 1 c.args.fields.now)) i []) 0 = search rules in
    let s = field_settled bs (b + i + 1) c.in-Settled.amount (bill_at a i (omega arith) _ f) in
    let inv = c.loop-bill.invariant.read bs a in
    r ∙ bad_bill bs b i _ _ inv.0 (omega arith) (settled_unfree bs (b + i + 1) s.1) (and_left _ _ (ne_eqb (free_in bs b i) 0 (λ z. omega (arith, inv.1, c.if-free-eq0.false))))

pub returns-in_default-2-2 : goal.returns-in_default-2-2
returns-in_default-2-2 c = λ bs a.
    let b = c.args.first in
    let i = c.loop-bill.bill in
    let r : ◌≡◌ {A = Answer} (Err c.bad_field-bad-in-loop-bill.result) (Err (BadField its_number (7 * (b + i + 1)))) = search rules in
    let f : Some (Promise c.in_default-2.field-0) ≡ field_at (get_or (take (length c.args.fields.now - 1) (drop 1 c.args.fields.now)) i []) 0 = search rules in
    let p = (field_promise bs (b + i + 1) c.in_default-2.field-0 (bill_at a i (omega arith) _ f)).0 in
    r ∙ bad_bill bs b i _ _ (c.loop-bill.invariant.read bs a).0 (omega arith) (promise_unfree bs (b + i + 1) p) (and_right _ _ (promise_unsettled bs (b + i + 1) p))

pub loop-bill-preserved : goal.loop-bill-preserved
loop-bill-preserved c =
    let b = c.args.first in
    let i = c.loop-bill.bill in
    let inv = c.loop-bill.invariant in
    elim c.match-branch-4.branch [
      | in-Free w ↦
          let f : Some Free ≡ field_at (get_or (take (length c.args.fields.now - 1) (drop 1 c.args.fields.now)) i []) 0 = search rules in
          record {
            read = λ bs a.
                let s = after_free bs b i (inv.read bs a).0 (field_free bs (b + i + 1) (bill_at a i (omega arith) _ f)).2 in
                (s.0, omega (arith, w.free-is, s.1, (inv.read bs a).1), omega (arith, w.credited-is, s.2, (inv.read bs a).2));
            few = omega (arith, w.free-is, inv.few);
            small = omega (arith, w.credited-is, inv.small);
          }
      | in-Settled w ↦
          let f : Some (Settled w.in-Settled.amount) ≡ field_at (get_or (take (length c.args.fields.now - 1) (drop 1 c.args.fields.now)) i []) 0 = search rules in
          let few : w.in-Settled.amount ≤ most_amount = settled_small _ _ f in
          record {
            read = λ bs a.
                let t = field_settled bs (b + i + 1) w.in-Settled.amount (bill_at a i (omega arith) _ f) in
                let s = after_settled bs b i (inv.read bs a).0 (omega (arith, (inv.read bs a).1, w.if-free-eq0.true)) t.1 in
                (s.0, omega (arith, w.free-is, s.1, (inv.read bs a).1), omega (arith, w.credited-is, w.from-credited.ensures, s.2, t.2, (inv.read bs a).2));
            few = omega (arith, w.free-is, inv.few);
            small = omega (arith, w.credited-is, w.from-credited.ensures, inv.small, few);
          }
    ]

pub returns : goal.returns
returns c = λ bs a.
    let f : Some (Promise c.in-Promise.promised) ≡ field_at (get_or c.args.fields.now 0 []) 0 = search rules in
    let p = (field_promise bs c.args.first c.in-Promise.promised (promise_at a c.requires.promise _ f)).1 in
    let inv = c.loop-bill.invariant.read bs a in
    let n : c.loop-bill.bill ≡ length c.args.fields.now - 1 = omega arith in
    let all : ◌≡◌ {A = Answer} (Ok (record { promised = c.in-Promise.promised; credited = c.loop-bill.credited; free = c.loop-bill.free })) (read_of (bad_in bs c.args.first c.loop-bill.bill) (section_of bs c.args.first c.loop-bill.bill)) =
    good_read bs c.args.first c.loop-bill.bill _ _ _ inv.0 p inv.2 inv.1 in
    all ∙ ap (λ k. read_of (bad_in bs c.args.first k) (section_of bs c.args.first k)) n
