use Rattle.std.proofs.Common.{rules, arith}
use Rattle.numbers.proofs.Values.{none_spelled, spelled_within, too_long}
use Rattle.numbers.proofs.read_number.Goals as goal

pub returns-then-text-gt-MOST_DIGITS : goal.returns-then-text-gt-MOST_DIGITS
returns-then-text-gt-MOST_DIGITS c = too_long c.args.text.now c.args.most (search rules) c.if-text-gt-MOST_DIGITS.true

pub returns-in_err-number : goal.returns-in_err-number
returns-in_err-number c = grind (arith, none_spelled, c.in_err-number.ensures)

pub returns : goal.returns
returns c =
    spelled_within c.args.text.now c.args.most _ c.in_ok-number.number _ (search rules) (search rules) c.in_ok-number.ensures (search rules)
