-- What the accepted calls of any ledger answer, and what is then held. Assumes nothing.
use Rattle.std.proofs.Common.{◌≡◌, ℕ, ◌<◌, ◌≤◌, ◌≢◌, Bool, true, false, cond, ◌||◌, eqb, ltb, leb, List, is_some, is_ok, Some, None, Ok, Err, Option, Result, refl, ap, ◌∙◌, arith}
use Rattle.std.proofs.lemmas.Bool.{cond-false, lt-leb, leb-false, eqb-false, ltb-false}
use Rattle.ledger.specs.Held.{heads, most_amount, Heads, with_head, promising, settling, giving_back}
use Rattle.ledger.specs.Answers.{Answer, its_number, question, promise_check, promise_answer, end_answer, promised_after, settled_after, given_back_after}
use Rattle.drawer_image.specs.declared.section.Section.{Section}
use Rattle.drawer_image.specs.Sections.{promise_of}
use Rattle.drawer_image.specs.Checks.{section_at}
use Rattle.ledger.specs.declared.LedgerFault.{LedgerFault}
use Rattle.ledger.specs.declared.LedgerFault.TheVariants.{NoSuchHead, BadAmount, AlreadyPromised, NoPlace, NonePromised}

-- what is answered about a head
asked : {A : Type 0} (h : ℕ) (x y : A) → Ok x ≡ question h y → (h < heads) × (x ≡ y)
asked {A} h x y e = go (leb heads h) (leb-false heads h) e
  where
    go : (z : Bool) → (z ≡ false → h < heads) → ◌≡◌ {A = Result A LedgerFault} (Ok x) (cond z (Err (NoSuchHead its_number)) (Ok y)) → (h < heads) × (x ≡ y)
    go true lt e = absurd cc
    go false lt e = (lt refl, cc)

-- a head whose section is opened
abbrev pub IsOpened : List ℕ → ℕ → ℕ → ℕ → Section → Type 0
IsOpened bs k h first s = ◌≡◌ {A = Result (ℕ × Section) LedgerFault} (Ok (first, s)) (question h (promise_of k h, section_at bs k h))

pub opened : (bs : List ℕ) (k h first : ℕ) (s : Section) → IsOpened bs k h first s → (h < heads) × (first ≡ promise_of k h) × (s ≡ section_at bs k h)
opened bs k h first s e =
    let a = asked {A = ℕ × Section} h (first, s) (promise_of k h, section_at bs k h) e in
    (a.0, ap (λ (p : ℕ × Section). p.0) a.1, ap (λ (p : ℕ × Section). p.1) a.1)

-- a promise that is accepted
pub promise_fits : (p : Option ℕ) (n a : ℕ) (u : Unit {0}) → Ok u ≡ promise_check p n 0 a → (0 < a) × (a ≤ most_amount) × (p ≡ None) × (0 < n)
promise_fits p n a u e = go p (eqb a 0) (ltb most_amount a) (eqb n 0) (eqb-false a 0) (ltb-false most_amount a) (eqb-false n 0) e
  where
    go : (p : Option ℕ) (x y z : Bool) → (x ≡ false → a ≢ 0) → (y ≡ false → a ≤ most_amount) → (z ≡ false → n ≢ 0)
        → ◌≡◌ {A = Answer} (Ok u) (cond (x || y) (Err (BadAmount its_number)) (cond (is_some p) (Err (AlreadyPromised its_number)) (cond z (Err (NoPlace its_number 0)) (Ok tt))))
        → (0 < a) × (a ≤ most_amount) × (p ≡ None) × (0 < n)
    go p true y z ax ay az e = absurd cc
    go p false true z ax ay az e = absurd cc
    go (Some q) false false z ax ay az e = absurd cc
    go None false false true ax ay az e = absurd cc
    go None false false false ax ay az e = let l = ax refl in let m = az refl in (omega arith, ay refl, refl, omega arith)

module _ (t : Heads) (h : ℕ) (lt : h < heads) where
  in_range : leb heads h ≡ false
  in_range = lt-leb heads h lt

  pub end_some : is_some (t h).promised ≡ true → end_answer t h ≡ Ok tt
  end_some e = cond-false (leb heads h) _ _ in_range ∙ ap (λ z. cond z (Ok tt) (Err (NonePromised its_number))) e

  pub settled_so : is_some (t h).promised ≡ true → settled_after t h ≡ with_head t h (settling (t h))
  settled_so e = ap (λ (r : Answer). cond (is_ok r) (with_head t h (settling (t h))) t) (end_some e)

  pub given_so : is_some (t h).promised ≡ true → given_back_after t h ≡ with_head t h (giving_back (t h))
  given_so e = ap (λ (r : Answer). cond (is_ok r) (with_head t h (giving_back (t h))) t) (end_some e)

  pub promise_ok : (d a : ℕ) → promise_check (t h).promised (t h).places d a ≡ Ok tt → promise_answer t d h a ≡ Ok tt
  promise_ok d a e = cond-false (leb heads h) _ _ in_range ∙ e

  pub promised_so : (a : ℕ) → promise_answer t 0 h a ≡ Ok tt → promised_after t h a ≡ with_head t h (promising (t h) a)
  promised_so a e = ap (λ (r : Answer). cond (is_ok r) (with_head t h (promising (t h) a)) t) e
