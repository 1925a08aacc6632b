-- How the three kinds of status codes lie apart. Assumes nothing.
use Rattle.std.proofs.Common.{◌≡◌, ℕ, Bool, true, false, cond, sym, refl, ap}
use Rattle.codes.specs.Codes.{bare_code, detailed_code, complaint_code, status_code, code_data_count, data_count, is_status, is_detailed, is_complaint}
use Rattle.codes.specs.declared.status.BareCode.{BareCode}
use Rattle.codes.specs.declared.status.BareCode.TheVariants.{Idling, Accepting, Stacking, VendValid, Stacked, Returning, Disabled, Initializing, PowerUp, PowerUpWithBillInAcceptor, PowerUpWithBillInStacker, StackerFull, StackerOpen, JamInAcceptor, JamInStacker, Pause, Cheated}
use Rattle.codes.specs.declared.status.DetailedCode.{DetailedCode}
use Rattle.codes.specs.declared.status.DetailedCode.TheVariants.{Escrow, Rejecting, Failure}
use Rattle.codes.specs.declared.status.ComplaintCode.{ComplaintCode}
use Rattle.codes.specs.declared.status.ComplaintCode.TheVariants.{CommunicationError, InvalidCommand}
use Rattle.codes.specs.declared.status.StatusCode.{StatusCode}
use Rattle.codes.specs.declared.status.StatusCode.TheVariants.{Bare, Detailed, Complaint}

-- A code by the three tests: a status, with a data byte, a complaint.
abbrev pub Tests : ℕ → Bool → Bool → Type 0
Tests code detailed complaint = (is_status code ≡ true) × (is_detailed code ≡ detailed) × (is_complaint code ≡ complaint)

pub bare_tests : (code : BareCode) → Tests (bare_code code) false false
bare_tests Idling = (refl, refl, refl)
bare_tests Accepting = (refl, refl, refl)
bare_tests Stacking = (refl, refl, refl)
bare_tests VendValid = (refl, refl, refl)
bare_tests Stacked = (refl, refl, refl)
bare_tests Returning = (refl, refl, refl)
bare_tests Disabled = (refl, refl, refl)
bare_tests Initializing = (refl, refl, refl)
bare_tests PowerUp = (refl, refl, refl)
bare_tests PowerUpWithBillInAcceptor = (refl, refl, refl)
bare_tests PowerUpWithBillInStacker = (refl, refl, refl)
bare_tests StackerFull = (refl, refl, refl)
bare_tests StackerOpen = (refl, refl, refl)
bare_tests JamInAcceptor = (refl, refl, refl)
bare_tests JamInStacker = (refl, refl, refl)
bare_tests Pause = (refl, refl, refl)
bare_tests Cheated = (refl, refl, refl)

pub detailed_tests : (code : DetailedCode) → Tests (detailed_code code) true false
detailed_tests Escrow = (refl, refl, refl)
detailed_tests Rejecting = (refl, refl, refl)
detailed_tests Failure = (refl, refl, refl)

pub complaint_tests : (code : ComplaintCode) → Tests (complaint_code code) false true
complaint_tests CommunicationError = (refl, refl, refl)
complaint_tests InvalidCommand = (refl, refl, refl)

-- The two ways to count the data bytes of a code are one.
pub counted : (code : StatusCode) → code_data_count code ≡ data_count (status_code code)
counted (Bare code) = sym (ap (λ t. cond t 1 0) (bare_tests code).1)
counted (Detailed code) = sym (ap (λ t. cond t 1 0) (detailed_tests code).1)
counted (Complaint code) = sym (ap (λ t. cond t 1 0) (complaint_tests code).1)
