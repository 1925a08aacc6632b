-- The number of each refusal, as its declaration shows it.
--
--   admission_number e   11, 12, 13, 14 or 15
--   dismissal_number e   11, 12 or 16
--   opening_number e     11, 17 or 7
--   report_number e      18 or 19
--   first_number e       18, 19 or 7
--   SecondRefusal, CutRefusal   the refusals of a second report, and of a power cut inside a first
--   first_refusal e      what refuses any report refuses a first one
--
-- Assumes nothing.
use Rattle.std.specs.Prelude.{ℕ}
use Rattle.number.specs.Shown.{shown}
use Rattle.hub.specs.declared.pass.First.{First}
use Rattle.hub.specs.declared.pass.Second.{Second}
use Rattle.hub.specs.declared.refusal.AdmissionRefusal.{AdmissionRefusal}
use Rattle.hub.specs.declared.refusal.AdmissionRefusal.TheVariants as admission
use Rattle.hub.specs.declared.refusal.DismissalRefusal.{DismissalRefusal}
use Rattle.hub.specs.declared.refusal.DismissalRefusal.TheVariants as dismissal
use Rattle.hub.specs.declared.refusal.FirstRefusal.{FirstRefusal}
use Rattle.hub.specs.declared.refusal.FirstRefusal.TheVariants as first
use Rattle.hub.specs.declared.refusal.OpeningRefusal.{OpeningRefusal}
use Rattle.hub.specs.declared.refusal.OpeningRefusal.TheVariants as opening
use Rattle.hub.specs.declared.refusal.ReportRefusal.{ReportRefusal}
use Rattle.hub.specs.declared.refusal.ReportRefusal.TheVariants as report

abbrev pub admission_number : AdmissionRefusal → ℕ
admission_number admission.SlotOpen = 11
admission_number admission.NumberOver13 = 12
admission_number admission.AdmittedAlready = 13
admission_number admission.SheetWrong = 14
admission_number admission.Outnumbered = 15

abbrev pub dismissal_number : DismissalRefusal → ℕ
dismissal_number dismissal.SlotOpen = 11
dismissal_number dismissal.NumberOver13 = 12
dismissal_number dismissal.NotAdmitted = 16

abbrev pub opening_number : OpeningRefusal → ℕ
opening_number opening.SlotOpen = 11
opening_number opening.NoHead = 17
opening_number opening.BufferTooShort = 7

abbrev pub SecondRefusal : Type 0
SecondRefusal = ReportRefusal Second

abbrev pub CutRefusal : Type 0
CutRefusal = ReportRefusal First

-- the cases that hold something show their number by its type
abbrev pub report_number : {R : Type 0} → ReportRefusal R → ℕ
report_number (report.NoSuchSlot n) = shown n
report_number (report.TooMuchReceived n pass) = shown n

abbrev pub first_number : FirstRefusal → ℕ
first_number (first.NoSuchSlot n) = shown n
first_number (first.TooMuchReceived n pass) = shown n
first_number (first.BufferTooShort n pass) = shown n

abbrev pub first_refusal : CutRefusal → FirstRefusal
first_refusal (report.NoSuchSlot n) = first.NoSuchSlot n
first_refusal (report.TooMuchReceived n pass) = first.TooMuchReceived n pass
