use Rattle.std.proofs.Common.{sym, ◌∙◌}
use Rattle.std.proofs.lemmas.Result.{IfOk-weaker}
use Rattle.audit_report.proofs.Lines.{report_passed}
use Rattle.audit_report.proofs.report.report.Goals as goal

pub returns-in-Ok : goal.returns-in-Ok
returns-in-Ok c =
    IfOk-weaker c.report_heads.result _ _ (λ text e. e ∙ report_passed c.args.image.now c.args.bills (sym c.in-Ok.ensures.answer)) c.report_heads.ensures
