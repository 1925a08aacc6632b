-- What a denomination is worth lies within an amount. Assumes nothing.
use Rattle.std.proofs.Common.{◌≡◌, ℕ, zero, suc, [], ◌∷◌, ◌-◌, ◌*◌, ◌^◌, ◌≤◌, Bool, true, false, cond, eqb, get_or, Some, None, refl, mul-le-mul, arith}
use native.Mathlib.Nat.{one-le-pow, pow-le-pow_right}
use Rattle.std.proofs.lemmas.Bool.{eqb-false}
use Rattle.sheet.specs.Sheets.{is_bill, unassigned, worth_of}
use Rattle.sheet.specs.Amounts.{ValuesAreAmounts}
use Rattle.sheet.specs.declared.denomination.Denomination.{Denomination}

-- a power of ten, as the table has it
pub power_at : (e d : ℕ) → e ≤ 6 → get_or (1 ∷ 10 ∷ 100 ∷ 1000 ∷ 10000 ∷ 100000 ∷ 1000000 ∷ []) e d ≡ 10 ^ e
power_at zero d le = refl
power_at (suc zero) d le = refl
power_at (suc (suc zero)) d le = refl
power_at (suc (suc (suc zero))) d le = refl
power_at (suc (suc (suc (suc zero)))) d le = refl
power_at (suc (suc (suc (suc (suc zero))))) d le = refl
power_at (suc (suc (suc (suc (suc (suc zero)))))) d le = refl
power_at (suc (suc (suc (suc (suc (suc (suc e))))))) d le = absurd (omega arith)

-- no value is larger than the largest
pub product_small : (d : Denomination) → d.mantissa * 10 ^ d.exponent ≤ 255000000
product_small d =
    let power : 10 ^ d.exponent ≤ 10 ^ 6 = pow-le-pow_right {n = 10} (omega arith) d.small.1 in
    let product : d.mantissa * 10 ^ d.exponent ≤ 255 * 10 ^ 6 = mul-le-mul d.small.0 power in
    omega arith

product_positive : (m e : ℕ) → 1 ≤ m → 1 ≤ m * 10 ^ e
product_positive m e positive =
    let power : 1 ≤ 10 ^ e = one-le-pow e 10 (omega arith) in
    let product : 1 * 1 ≤ m * 10 ^ e = mul-le-mul positive power in
    omega arith

worth_amount : (d : Denomination) (value : ℕ) → worth_of d ≡ Some value → (1 ≤ value) × (value ≤ 255000000)
worth_amount d value e = go (eqb d.mantissa 0) (λ no. eqb-false d.mantissa 0 no) e
  where
    go : (none : Bool) → (none ≡ false → d.mantissa ≡ 0 → ⊥) → cond none None (Some (d.mantissa * 10 ^ d.exponent)) ≡ Some value → (1 ≤ value) × (value ≤ 255000000)
    go true some is = cc
    go false some is =
        let n = some refl in
        let v : d.mantissa * 10 ^ d.exponent ≡ value = cc in
        (omega (arith, product_positive d.mantissa d.exponent (omega arith)), omega (arith, product_small d))

pub values_are_amounts_lem : ValuesAreAmounts
values_are_amounts_lem s code value e = go (is_bill code) e
  where
    go : (bill : Bool) → cond bill (worth_of (get_or s.denominations (code - 0x61) unassigned)) None ≡ Some value → (1 ≤ value) × (value ≤ 255000000)
    go true is = worth_amount (get_or s.denominations (code - 0x61) unassigned) value is
    go false is = cc
