use Rattle.std.proofs.Common.{◌≡◌, sym, subst, rules}
use Rattle.drawer_image.specs.Checks.{Answer, checked}
use Rattle.drawer_image.specs.Judged.{Judged}
use Rattle.drawer_image.proofs.Judges.{judged}
use Rattle.drawer_image.proofs.check.check.Goals as goal

pub returns-clause-judged : goal.returns-clause-judged
returns-clause-judged c =
    let bs = c.args.bytes.now in
    let answer : ◌≡◌ {A = Answer} c.check_fields.result (checked bs c.args.bills) = search rules in
    subst (Judged bs c.args.bills) (sym answer) (judged bs c.args.bills)
