-- One line more, and the report on bytes that pass the check. Assumes nothing.
use Rattle.std.proofs.Common.{◌≡◌, ℕ, ◌+◌, List, [], ◌++◌, sym, refl, ap, ◌∙◌, add-one}
use Rattle.ledger.specs.Held.{heads, Heads}
use Rattle.drawer_image.specs.Checks.{Passes}
use Rattle.drawer.specs.Meaning.{bytes_held}
use Rattle.drawer.proofs.Checks.{holds_documented}
use Rattle.audit_report.specs.Reports.{line_of, ended, lines_of, report_by, report_of}

pub lines_none : (t : Heads) → lines_of t 0 ≡ []
unfolding lines_of
lines_none t = refl

pub lines_more : (t : Heads) (n : ℕ) → lines_of t (n + 1) ≡ lines_of t n ++ ended (line_of t n)
unfolding lines_of
lines_more t n = ap (lines_of t) (add-one n)

pub report_passed : (bs : List ℕ) (k : ℕ) → Passes bs k → lines_of (bytes_held bs k) heads ≡ report_of bs k
report_passed bs k e = ap (λ t. lines_of t heads) (holds_documented bs k e) ∙ sym (ap (report_by bs k) e)
