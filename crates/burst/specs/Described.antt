-- What is printed of a burst, the bytes received in one go.
--
--   described_burst bs    the line for received bytes
--   described_found f     the line for a message: kind, command byte and data, place, and why a status does not read
--   refusal k m           why a status does not read; none for one that reads and for the other kinds
--   refused_text r        the end of such a line, empty but for a status that does not read
--   kind_word k           the word for a kind
--   Answered line text    what is printed for a line of input: of the burst that it spells, or `bad`
--   without_end line      a line of input without the 0AH that ends it
--
-- Assumes nothing.
use Rattle.std.specs.Prelude.{◌≡◌, ℕ, ◌-◌, cond, ◌&&◌, List, [], ◌∷◌, ◌++◌, length, take, Ok, Err, Some, None, codes, decimal, Option, Result, ◌==◌, ◌≢◌, nat_lt, slice_index}
use Rattle.std.specs.Result.{result_err}
use Rattle.frame.specs.Faults.{frame_fault_number}
use Rattle.frame.specs.Frames.{Content}
use Rattle.hex_text.specs.Spelled.{Bytes, blanked, spelled}
use Rattle.message.specs.Heard.{Found, hear_answer}
use Rattle.message.specs.Kinds.{Kind, status, acknowledgement, setting, other}
use Rattle.message.specs.declared.heard.NothingHeard.{NothingHeard}
use Rattle.status.specs.Statuses.{status_answer, status_fault_number}
use Rattle.status.specs.declared.StatusFault.{StatusFault}

abbrev pub kind_word : Kind → List ℕ
kind_word status = codes "status"
kind_word acknowledgement = codes "acknowledgement"
kind_word setting = codes "setting"
kind_word other = codes "other"

abbrev pub refusal : Kind → Content → Option StatusFault
refusal status m = result_err (status_answer m.command m.«data»)
refusal acknowledgement m = None
refusal setting m = None
refusal other m = None

abbrev pub refused_text : Option StatusFault → List ℕ
refused_text None = []
refused_text (Some e) = codes " refused " ++ decimal (status_fault_number e)

abbrev pub described_found : Found → List ℕ
described_found f =
    kind_word f.kind ++ (blanked (f.says.command ∷ f.says.«data») ++ (codes " at " ++ (decimal f.place ++ refused_text (refusal f.kind f.says))))

abbrev pub described : Result Found NothingHeard → List ℕ
described (Ok f) = described_found f
described (Err n) = codes "fault " ++ (decimal (frame_fault_number n.fault) ++ (codes " at " ++ decimal n.place))

abbrev pub described_burst : List ℕ → List ℕ
described_burst bs = described (hear_answer bs)

abbrev pub Answered : List ℕ → List ℕ → Type 0
Answered line text =
    ((bs : List ℕ) → Bytes bs → line ≡ spelled bs → text ≡ described_burst bs) × (((bs : List ℕ) → Bytes bs → line ≢ spelled bs) → text ≡ codes "bad")

abbrev pub without_end : List ℕ → List ℕ
without_end line = cond (nat_lt 0 (length line) && slice_index line (length line - 1) == 0x0a) (take (length line - 1) line) line
