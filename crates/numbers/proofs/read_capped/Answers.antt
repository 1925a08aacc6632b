use Rattle.std.proofs.Common.{◌≡◌, get_or, arith, rules}
use Rattle.std.proofs.lemmas.Grind.{common_steps}
use Rattle.std.proofs.lemmas.Int.Digits.{digits_value_more, digits_more}
use Rattle.std.proofs.lemmas.Str.Parse.{digit_at}
use Rattle.std.specs.Char.{digit_value}
use Rattle.numbers.proofs.read_capped.Goals as goal

pub returns-in_err-value : goal.returns-in_err-value
returns-in_err-value c = grind (arith, common_steps, digit_at, c.in_err-value.ensures)

pub loop-digit-preserved : goal.loop-digit-preserved
loop-digit-preserved c =
    let text = c.args.text.now in
    let i = c.loop-digit.digit-index in
    let digit : c.in_ok-value.value ≡ digit_value (get_or text i 0) = search rules in
    let value = digits_value_more 10 text i c.loop-digit-test.true in
    record {
      digits = digits_more 10 text i c.loop-digit-test.true c.loop-digit.invariant.digits (search rules);
      value = omega arith;
    }
