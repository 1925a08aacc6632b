-- A checked sheet values bills as the sheet that it was checked from does. Assumes nothing.
use Rattle.std.proofs.Common.{◌≡◌, ℕ, zero, suc, ◌-◌, cond, List, [], ◌∷◌, map, get_or, None, refl, ap}
use Rattle.sheet.specs.Sheets.{pair, pair_of, draft_of, is_bill, unassigned, value_of, worth_of_pair, value_on}
use Rattle.sheet.specs.declared.denomination.Denomination.{Denomination}
use Rattle.sheet.specs.declared.sheet.Sheet.{Sheet}

pair_at : (ds : List Denomination) (i : ℕ) → pair_of (get_or ds i unassigned) ≡ get_or (map pair_of ds) i (pair 0 0)
pair_at [] i = refl
pair_at (d ∷ ds) zero = refl
pair_at (d ∷ ds) (suc i) = pair_at ds i

pub value_on_draft : (s : Sheet) (code : ℕ) → value_of s code ≡ value_on (draft_of s) code
value_on_draft s code = ap (λ p. cond (is_bill code) (worth_of_pair p) None) (pair_at s.denominations (code - 0x61))
