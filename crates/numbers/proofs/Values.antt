-- What decimal digits write. Assumes nothing.
use Rattle.std.proofs.Common.{◌≡◌, ◌≢◌, ℕ, zero, suc, ◌^◌, ◌<◌, ◌≤◌, min, ◌+◌, List, length, get_or, decimal, Option, MatchOption, Some, None, Result, Ok, Err, sym, ap, subst, ◌∙◌, arith}
use Rattle.std.proofs.lemmas.Fmt.{decimal_is_IsNumeral, decimal-digits_value, first_decimal, decimal_digit, decimal_injective, length-decimal-le}
use Rattle.std.specs.Result.{result_ok}
use Rattle.std.proofs.lemmas.Str.Parse.{IsNumeralModel, numerals_by_value, tells_digits}
use Rattle.std.specs.Str.Parse.{AllDigits, digits_value}
use Rattle.numbers.specs.Texts.{Decimal, Spelled, Converted}

own : IsNumeralModel (AllDigits 10) (digits_value 10)
own = numerals_by_value (AllDigits 10) tells_digits

written : (text : List ℕ) → Decimal text → digits_value 10 text < 2 ^ 64 → text ≡ decimal (digits_value 10 text)
written text d small = sym (decimal-digits_value own text d.0.1 d.0.0 d.1 small)

-- no other decimal number begins with 0 than 0
leading_zero : (n : ℕ) → n < 2 ^ 64 → get_or (decimal n) 0 0 ≡ 48 → length (decimal n) ≡ 1
leading_zero zero small e = ap length (decimal_digit 0 (omega arith))
leading_zero (suc n) small e = absurd (omega (arith, first_decimal (suc n) (omega arith) small))

reads_back : (text : List ℕ) (n : ℕ) → n < 2 ^ 64 → text ≡ decimal n → Decimal text × (digits_value 10 text ≡ n)
reads_back text n small e =
    let p = decimal_is_IsNumeral n small in
    subst (λ (l : List ℕ). Decimal l × (digits_value 10 l ≡ n)) (sym e) ((p.0, leading_zero n small), p.1)

-- no number is spelled where no decimal digits stand
pub none_spelled : (text : List ℕ) (most : ℕ) → most < 2 ^ 64 → (Decimal text → ⊥) → (n : ℕ) → n ≤ most → text ≢ decimal n
none_spelled text most small none n h e = none (reads_back text n (omega arith) e).0

-- nor by a text of more digits than a number up to most has
pub too_long : (text : List ℕ) (most : ℕ) → most < 2 ^ 32 → 10 < length text → (n : ℕ) → n ≤ most → text ≢ decimal n
too_long text most small long n h e =
    let most_digits = length-decimal-le 10 n (omega arith) (omega arith) (omega arith) in
    omega (arith, ap length e)

-- what is read with a cap one above most spells a number up to most
pub spelled_within : (text : List ℕ) (most cap k : ℕ) (r : Option ℕ) → most < 2 ^ 32 → cap ≡ most + 1 → Decimal text × (k ≡ min cap (digits_value 10 text)) → MatchOption r (most < k) (λ x. (x ≤ most) × (x ≡ k)) → Spelled (λ n. n ≤ most) decimal text r
spelled_within text most cap k None small c e above = λ n h is. omega (arith, e.1, (reads_back text n (omega arith) is).1)
spelled_within text most cap k (Some x) small c e (h, is) = (h, written text e.0 (omega (arith, e.1)) ∙ ap decimal (omega (arith, e.1)))

-- what a conversion makes of the one number that the text spells
pub converts : {N E : Type 0} (C : ℕ → Result N E → Type 0) (text : List ℕ) (n : ℕ) (r : Result N E) → n < 2 ^ 32 → text ≡ decimal n → C n r → Converted C text (result_ok r)
converts C text n (Ok x) small is made = (n, small, is, made)
converts C text n (Err e) small is made = λ m h spells. (e, subst (λ (k : ℕ). C k (Err e)) (decimal_injective n m (omega arith) (omega arith) (sym is ∙ spells)) made)
