-- What an accepted call tells, and what holds after a call whether it was accepted or refused. Assumes nothing.
use Rattle.std.proofs.Common.{◌≡◌, ℕ, ◌≤◌, true, false, cond, ltb, is_ok, Ok, Err, Result, refl, ap}
use Rattle.std.proofs.lemmas.Bool.{false≢true, ltb-false, cond_both}
use Rattle.orders.specs.declared.limit.Limit.{Limit}
use Rattle.turns.specs.declared.fault.AdmissionFault.{AdmissionFault}
use Rattle.turns.specs.declared.fault.AdmissionFault.TheVariants as admission
use Rattle.turns.specs.declared.fault.DismissalFault.TheVariants as dismissal
use Rattle.orders.specs.Tables.{Table, is_admitted, without_head, with_head}
use Rattle.orders.specs.Orders.{fits_limits}
use Rattle.turns.specs.Calls.{and_then, if_accepted, number_answer, admission_answer, after_admission, after_dismissal}

pub number_accepted : (t : Table) (h : ℕ) → is_ok (number_answer t h) ≡ true → (h ≤ 13) × (is_admitted t h ≡ false)
number_accepted t h =
    cond_both (ltb 13 h) (Err admission.NumberOver13) (cond (is_admitted t h) (Err admission.AdmittedAlready) (Ok tt))
    (λ r. is_ok r ≡ true → (h ≤ 13) × (is_admitted t h ≡ false))
    (λ over e. absurd (false≢true e))
    (λ low.
    cond_both (is_admitted t h) (Err admission.AdmittedAlready) (Ok tt)
    (λ r. is_ok r ≡ true → (h ≤ 13) × (is_admitted t h ≡ false))
    (λ in' e. absurd (false≢true e))
    (λ out e. (ltb-false 13 h low, out)))

pub admission_accepted : (t : Table) (h : ℕ) (l : Limit) → admission_answer t h l ≡ Ok tt → h ≤ 13
admission_accepted t h l e = (number_accepted t h (first_accepted (number_answer t h) (ap is_ok e))).0
  where
    last : Result (Unit {0}) AdmissionFault
    last = cond (fits_limits (with_head t h l)) (Ok tt) (Err admission.Outnumbered)

    first_accepted : (r : Result (Unit {0}) AdmissionFault) → is_ok (and_then r last) ≡ true → is_ok r ≡ true
    first_accepted (Ok done) e = refl
    first_accepted (Err fault) e = e

module _ (P : Table → Type 0) (t : Table) (h : ℕ) (before : P t) where
  pub after_admission_lem : (l : Limit) → (h ≤ 13 → is_admitted t h ≡ false → fits_limits (with_head t h l) ≡ true → P (with_head t h l)) → P (after_admission t h l)
  after_admission_lem l accepted =
      let new = with_head t h l in
      let last : Result (Unit {0}) AdmissionFault = cond (fits_limits new) (Ok tt) (Err admission.Outnumbered) in
      cond_both (ltb 13 h) (Err admission.NumberOver13) (cond (is_admitted t h) (Err admission.AdmittedAlready) (Ok tt))
      (λ r. P (if_accepted (and_then r last) new t))
      (λ over. before)
      (λ low.
      cond_both (is_admitted t h) (Err admission.AdmittedAlready) (Ok tt)
      (λ r. P (if_accepted (and_then r last) new t))
      (λ in'. before)
      (λ out.
      cond_both (fits_limits new) (Ok tt) (Err admission.Outnumbered)
      (λ r. P (if_accepted r new t))
      (λ fits. accepted (ltb-false 13 h low) out fits)
      (λ over. before)))

  pub after_dismissal_lem : (is_admitted t h ≡ true → P (without_head t h)) → P (after_dismissal t h)
  after_dismissal_lem accepted =
      cond_both (ltb 13 h) (Err dismissal.NumberOver13) (cond (is_admitted t h) (Ok tt) (Err dismissal.NotAdmitted))
      (λ r. P (if_accepted r (without_head t h) t))
      (λ over. before)
      (λ low.
      cond_both (is_admitted t h) (Ok tt) (Err dismissal.NotAdmitted)
      (λ r. P (if_accepted r (without_head t h) t))
      accepted
      (λ out. before))
