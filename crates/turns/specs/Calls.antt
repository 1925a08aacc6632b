-- What admission and dismissal answer and what table they leave.
--
--   number_answer t h        12 if the number is over 13, then 13 if head h is admitted already, else accepted
--   admission_answer t h l   number_answer, then 15 if with head h the heads outnumbered some limit, l or an older one
--   after_admission t h l    t with head h, its slack at its limit l, if the admission is accepted, else t
--   dismissal_answer t h     12 if the number is over 13, then 16 if head h is not admitted, else accepted
--   after_dismissal t h      t without head h if the dismissal is accepted, else t
--
-- Assumes nothing.
use Rattle.std.specs.Prelude.{ℕ, cond, Ok, Err, Result, nat_lt}
use Rattle.orders.specs.declared.limit.Limit.{Limit}
use Rattle.turns.specs.declared.fault.AdmissionFault.{AdmissionFault}
use Rattle.turns.specs.declared.fault.AdmissionFault.TheVariants as admission
use Rattle.turns.specs.declared.fault.DismissalFault.{DismissalFault}
use Rattle.turns.specs.declared.fault.DismissalFault.TheVariants as dismissal
use Rattle.orders.specs.Tables.{Table, is_admitted, with_head, without_head}
use Rattle.orders.specs.Orders.{fits_limits}

-- the first answer if it is a refusal, else the second
abbrev pub and_then : {E : Type 0} → Result (Unit {0}) E → Result (Unit {0}) E → Result (Unit {0}) E
and_then (Ok done) next = next
and_then (Err fault) next = Err fault

-- the new table if a call was accepted, else the old one
abbrev pub if_accepted : {E : Type 0} → Result (Unit {0}) E → Table → Table → Table
if_accepted (Ok done) new old = new
if_accepted (Err fault) new old = old

-- ---- admission
abbrev pub number_answer : Table → ℕ → Result (Unit {0}) AdmissionFault
number_answer t h =
    cond (nat_lt 13 h) (Err admission.NumberOver13)
    (cond (is_admitted t h) (Err admission.AdmittedAlready)
    (Ok tt))

abbrev pub admission_answer : Table → ℕ → Limit → Result (Unit {0}) AdmissionFault
admission_answer t h l =
    and_then (number_answer t h)
    (cond (fits_limits (with_head t h l)) (Ok tt) (Err admission.Outnumbered))

abbrev pub after_admission : Table → ℕ → Limit → Table
after_admission t h l = if_accepted (admission_answer t h l) (with_head t h l) t

-- ---- dismissal
abbrev pub dismissal_answer : Table → ℕ → Result (Unit {0}) DismissalFault
dismissal_answer t h =
    cond (nat_lt 13 h) (Err dismissal.NumberOver13)
    (cond (is_admitted t h) (Ok tt)
    (Err dismissal.NotAdmitted))

abbrev pub after_dismissal : Table → ℕ → Table
after_dismissal t h = if_accepted (dismissal_answer t h) (without_head t h) t
