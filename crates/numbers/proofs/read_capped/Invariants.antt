use Rattle.std.proofs.Common.{◌≡◌, min, take}
use Rattle.std.specs.Str.Parse.{AllDigits, digits_value}
use Rattle.numbers.proofs.read_capped.Given as goal

abbrev pub invariant-loop-digit : goal.invariant-loop-digit
invariant-loop-digit l = record { digits : AllDigits 10 (take l.digit-index l.text); value : l.number ≡ min l.cap (digits_value 10 (take l.digit-index l.text)) }
