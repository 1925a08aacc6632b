-- Which message is a status.
--
--   status_answer c d      what reading answers for a command byte and data: the refusals in their order, or the status
--   status_byte s          the code of a status
--   status_data s          its data
--   told r                 what reading answered, a status by its code and data, which determine it
--   status_fault_number    the numbers of the refusals
--
-- Assumes nothing.
use Rattle.std.specs.Prelude.{ℕ, cond, List, [], ◌∷◌, length, Ok, Err, Result, ◌==◌}
use Rattle.codes.specs.Codes.{is_status, is_complaint, data_count, bare_code, detailed_code}
use Rattle.frame.specs.Frames.{Content, content}
use Rattle.status.specs.declared.Status.{Status}
use Rattle.status.specs.declared.Status.TheVariants.{Bare, Detailed}
use Rattle.status.specs.declared.StatusFault.{StatusFault}
use Rattle.status.specs.declared.StatusFault.TheVariants.{UnknownCode, WrongDataCount, Complaint}

abbrev pub status_answer : ℕ → List ℕ → Result Content StatusFault
status_answer c d =
    cond (is_status c)
    (cond (length d == data_count c) (cond (is_complaint c) (Err Complaint) (Ok (content c d))) (Err WrongDataCount))
    (Err UnknownCode)

abbrev pub status_byte : Status → ℕ
status_byte (Bare code) = bare_code code
status_byte (Detailed code byte) = detailed_code code

abbrev pub status_data : Status → List ℕ
status_data (Bare code) = []
status_data (Detailed code byte) = byte ∷ []

abbrev pub told : Result Status StatusFault → Result Content StatusFault
told (Ok s) = Ok (content (status_byte s) (status_data s))
told (Err e) = Err e

abbrev pub status_fault_number : StatusFault → ℕ
status_fault_number UnknownCode = 8
status_fault_number WrongDataCount = 9
status_fault_number Complaint = 10
