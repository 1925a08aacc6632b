-- What reading answers of a status code with its own number of data bytes. Assumes nothing.
use Rattle.std.proofs.Common.{◌≡◌, ℕ, List, [], ◌∷◌, length, slice_index, Ok, sym, arith}
use Rattle.codes.specs.Codes.{bare_code, detailed_code}
use Rattle.codes.specs.declared.status.BareCode.{BareCode}
use Rattle.codes.specs.declared.status.DetailedCode.{DetailedCode}
use Rattle.codes.proofs.Known.{bare_tests, detailed_tests}
use Rattle.frame.specs.Frames.{content}
use Rattle.status.specs.Statuses.{status_answer}

pub bare : (code : BareCode) (command : ℕ) (d : List ℕ) → bare_code code ≡ command → length d ≡ 0 → Ok (content (bare_code code) []) ≡ status_answer command d
bare code command [] e n =
    let t = bare_tests code in
    rw (sym e, t.0, t.1, t.2)
bare code command (x ∷ d) e n = absurd (omega arith)

pub detailed : (code : DetailedCode) (command : ℕ) (d : List ℕ) → detailed_code code ≡ command → length d ≡ 1 → Ok (content (detailed_code code) (slice_index d 0 ∷ [])) ≡ status_answer command d
detailed code command [] e n = absurd (omega arith)
detailed code command (x ∷ []) e n =
    let t = detailed_tests code in
    rw (sym e, t.0, t.1, t.2)
detailed code command (x ∷ y ∷ d) e n = absurd (omega arith)
