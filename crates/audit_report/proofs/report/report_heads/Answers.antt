use Rattle.std.proofs.Common.{ℕ, List, ◌++◌, sym, ap, ◌∙◌, ap₂}
use Rattle.std.specs.Option.{unwrap_or}
use Rattle.drawer.specs.Meaning.{bytes_held}
use Rattle.audit_report.specs.declared.line.HeadLine.{HeadLine}
use Rattle.audit_report.specs.Reports.{head_text, ended}
use Rattle.audit_report.proofs.Lines.{lines_none, lines_more}
use Rattle.audit_report.proofs.report.report_heads.Goals as goal

pub loop-head-init : goal.loop-head-init
loop-head-init c = c.new-text.ensures.bytes ∙ sym (lines_none (bytes_held c.args.image.now c.args.bills))

pub loop-head-preserved : goal.loop-head-preserved
loop-head-preserved c =
    let line : HeadLine → List ℕ = λ l. ended (head_text l.head (unwrap_or l.promised 0) l.credited l.places) in
    c.in_ok-writeln.ensures.bytes
    ∙ ap₂ (λ x y. x ++ y) c.loop-head.invariant (ap line c.head_line-line.ensures)
    ∙ sym (lines_more (bytes_held c.args.image.now c.args.bills) c.loop-head.head)
