use Rattle.std.proofs.Common.{sym, subst, arith}
use Rattle.numbers.specs.Texts.{Converted}
use Rattle.numbers.proofs.Values.{converts}
use Rattle.numbers.proofs.read.Goals as goal

pub returns : goal.returns
returns g c =
    let makes = g.N.TryFrom.try_from_gives in
    let text = c.args.text.now in
    let read = c.in_ok-read_number.ensures in
    subst (Converted makes text) (sym c.ok.ensures.value) (converts makes text c.in_ok-read_number.field-0 c.try_from.result (omega (arith, read.0)) read.1 c.try_from.ensures)
