use Rattle.std.proofs.Common.{◌≡◌, string_bytes}
use Rattle.drawer.specs.Meaning.{bytes_held}
use Rattle.audit_report.specs.Reports.{lines_of}
use Rattle.audit_report.proofs.report.report_heads.Given as goal

abbrev pub invariant-loop-head : goal.invariant-loop-head
invariant-loop-head l = string_bytes l.text ≡ lines_of (bytes_held l.image l.bills) l.head
