-- The number of each refusal.
--
--   admission_number f   12, 13 or 15
--   dismissal_number f   12 or 16
--
-- Assumes nothing.
use Rattle.std.specs.Prelude.{ℕ}
use Rattle.turns.specs.declared.fault.AdmissionFault.{AdmissionFault}
use Rattle.turns.specs.declared.fault.AdmissionFault.TheVariants as admission
use Rattle.turns.specs.declared.fault.DismissalFault.{DismissalFault}
use Rattle.turns.specs.declared.fault.DismissalFault.TheVariants as dismissal

abbrev pub admission_number : AdmissionFault → ℕ
admission_number admission.NumberOver13 = 12
admission_number admission.AdmittedAlready = 13
admission_number admission.Outnumbered = 15

abbrev pub dismissal_number : DismissalFault → ℕ
dismissal_number dismissal.NumberOver13 = 12
dismissal_number dismissal.NotAdmitted = 16
