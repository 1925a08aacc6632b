-- Admission and dismissal.
--
--   admission_answer s n c   what admitting head n answers, where c is what the check of its sheet answers: 11, 12, 13, 14, 15
--   after_admission s n c    the hub after it
--   Admits s n d r s'        an admission of head n with the sheet d, answered r, leads from s to s'
--   admission_refusal e, sheet_refusal e, dismissal_refusal e
--                            the refusals of the turn table and of the sheet, as the hub's
--   dismissal_answer s n     what dismissing head n answers: 11, 12, 16
--   after_dismissal s n      the hub after it
--
-- A call refused leaves the hub as it is. Assumes nothing.
use Rattle.std.specs.Prelude.{◌≡◌, ℕ, cond, Some, None, Ok, Err, Result, slice_set}
use Rattle.sheet.specs.Sheets.{limit_of, sheet_answer, told}
use Rattle.sheet.specs.declared.fault.SheetFault.{SheetFault}
use Rattle.sheet.specs.declared.fault.SheetFault.TheVariants as checks
use Rattle.sheet.specs.declared.sheet.Draft.{Draft}
use Rattle.sheet.specs.declared.sheet.Sheet.{Sheet}
use Rattle.turns.specs.Calls.{number_answer}
use Rattle.turns.specs.Calls as turns
use Rattle.turns.specs.declared.fault.AdmissionFault.{AdmissionFault}
use Rattle.turns.specs.declared.fault.AdmissionFault.TheVariants as turned
use Rattle.turns.specs.declared.fault.DismissalFault.{DismissalFault}
use Rattle.turns.specs.declared.fault.DismissalFault.TheVariants as turned_away
use Rattle.reaction.specs.Setups.{fresh_setup}
use Rattle.hub.specs.States.{HubState, is_open}
use Rattle.hub.specs.declared.refusal.AdmissionRefusal.{AdmissionRefusal}
use Rattle.hub.specs.declared.refusal.AdmissionRefusal.TheVariants as admission
use Rattle.hub.specs.declared.refusal.DismissalRefusal.{DismissalRefusal}
use Rattle.hub.specs.declared.refusal.DismissalRefusal.TheVariants as dismissal

-- ADMISSION

-- the turn table's refusals are the hub's
abbrev pub admission_refusal : AdmissionFault → AdmissionRefusal
admission_refusal turned.NumberOver13 = admission.NumberOver13
admission_refusal turned.AdmittedAlready = admission.AdmittedAlready
admission_refusal turned.Outnumbered = admission.Outnumbered

-- and so is the sheet's
abbrev pub sheet_refusal : SheetFault → AdmissionRefusal
sheet_refusal checks.SheetWrong = admission.SheetWrong

-- what the turn table refuses is refused, else the next answer counts
abbrev pub unless_turned_down : Result (Unit {0}) AdmissionFault → Result (Unit {0}) AdmissionRefusal → Result (Unit {0}) AdmissionRefusal
unless_turned_down (Ok done) next = next
unless_turned_down (Err e) next = Err (admission_refusal e)

abbrev pub checked_answer : HubState → ℕ → Result Sheet SheetFault → Result (Unit {0}) AdmissionRefusal
checked_answer s n (Ok sheet) = unless_turned_down (turns.admission_answer s.table n (limit_of sheet)) (Ok tt)
checked_answer s n (Err e) = Err (sheet_refusal e)

abbrev pub admission_answer : HubState → ℕ → Result Sheet SheetFault → Result (Unit {0}) AdmissionRefusal
admission_answer s n checked =
    cond (is_open s.slot) (Err admission.SlotOpen)
    (unless_turned_down (number_answer s.table n)
    (checked_answer s n checked))

-- with head n admitted, none of its settings confirmed
abbrev pub with_head : HubState → ℕ → Sheet → HubState
with_head s n sheet = record {
  table = turns.after_admission s.table n (limit_of sheet);
  setups = slice_set s.setups n (Some (fresh_setup sheet));
  slot = s.slot;
  count = s.count;
}

abbrev pub admitted_by : HubState → ℕ → Result Sheet SheetFault → Result (Unit {0}) AdmissionRefusal → HubState
admitted_by s n (Ok sheet) (Ok done) = with_head s n sheet
admitted_by s n (Ok sheet) (Err e) = s
admitted_by s n (Err fault) answer = s

abbrev pub after_admission : HubState → ℕ → Result Sheet SheetFault → HubState
after_admission s n checked = admitted_by s n checked (admission_answer s n checked)

-- A sheet that was checked is known by what it was checked from, so `checked` is no choice.
pub record Admits (s : HubState) (n : ℕ) (d : Draft) (r : Result (Unit {0}) AdmissionRefusal) (after : HubState) : Type 0 where
  pub checked : Result Sheet SheetFault
  pub by_check : told checked ≡ sheet_answer d
  pub answer : r ≡ admission_answer s n checked
  pub leaves : after ≡ after_admission s n checked

-- DISMISSAL

abbrev pub dismissal_refusal : DismissalFault → DismissalRefusal
dismissal_refusal turned_away.NumberOver13 = dismissal.NumberOver13
dismissal_refusal turned_away.NotAdmitted = dismissal.NotAdmitted

abbrev pub unless_kept : Result (Unit {0}) DismissalFault → Result (Unit {0}) DismissalRefusal
unless_kept (Ok done) = Ok tt
unless_kept (Err e) = Err (dismissal_refusal e)

abbrev pub dismissal_answer : HubState → ℕ → Result (Unit {0}) DismissalRefusal
dismissal_answer s n = cond (is_open s.slot) (Err dismissal.SlotOpen) (unless_kept (turns.dismissal_answer s.table n))

abbrev pub without_head : HubState → ℕ → HubState
without_head s n = record {
  table = turns.after_dismissal s.table n;
  setups = slice_set s.setups n None;
  slot = s.slot;
  count = s.count;
}

abbrev pub dismissed_by : HubState → ℕ → Result (Unit {0}) DismissalRefusal → HubState
dismissed_by s n (Ok done) = without_head s n
dismissed_by s n (Err e) = s

abbrev pub after_dismissal : HubState → ℕ → HubState
after_dismissal s n = dismissed_by s n (dismissal_answer s n)
