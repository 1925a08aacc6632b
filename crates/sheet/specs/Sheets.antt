-- Sheets: which are right, and what a checked one says.
--
--   sheet_answer d       what checking answers: the sheet as it came, if it is right
--   denomination_answer p, denominations_answer ps
--                        the same of a pair, and of the pairs of a sheet
--   limit_of s           the limit on a sheet
--   place_of code        the place of a bill's code among the denominations, if it is one of 61H to 68H
--   value_of s code      what a bill of a code is worth, nothing for an unassigned code
--   value_on d code      the same, of a sheet as it came
--   is_enabled s code    whether bills of a code are taken
--   told r, draft_of s   a checked sheet as it came, which determines it
--   sheet_fault_number   the number of the refusal
--
-- Assumes nothing.
use Rattle.std.specs.Prelude.{ℕ, ◌-◌, ◌/◌, ◌%◌, ◌^◌, Bool, true, cond, ◌&&◌, List, [], ◌∷◌, map, Some, None, Ok, Err, Option, Result, ◌==◌, nat_le, slice_index_or}
use Rattle.std.proofs.Common.{lit≤}
use Rattle.orders.specs.declared.limit.Limit.{Limit}
use Rattle.sheet.specs.Values.{right_pair, worth}
use Rattle.sheet.specs.declared.denomination.Denomination.{Denomination}
use Rattle.sheet.specs.declared.denomination.Pair.{Pair}
use Rattle.sheet.specs.declared.fault.SheetFault.{SheetFault}
use Rattle.sheet.specs.declared.fault.SheetFault.TheVariants.{SheetWrong}
use Rattle.sheet.specs.declared.sheet.Draft.{Draft}
use Rattle.sheet.specs.declared.sheet.Sheet.{Sheet}

abbrev pub pair : ℕ → ℕ → Pair
pair m e = record { mantissa = m; exponent = e }

abbrev pub pair_of : Denomination → Pair
pair_of d = pair d.mantissa d.exponent

abbrev pub denomination_answer : Pair → Result Pair SheetFault
denomination_answer p = cond (right_pair p.mantissa p.exponent) (Ok p) (Err SheetWrong)

abbrev pub told_denomination : Result Denomination SheetFault → Result Pair SheetFault
told_denomination (Ok d) = Ok (pair_of d)
told_denomination (Err e) = Err e

abbrev pub right_pairs : List Pair → Bool
right_pairs [] = true
right_pairs (p ∷ ps) = right_pair p.mantissa p.exponent && right_pairs ps

abbrev pub right_sheet : Draft → Bool
right_sheet d = (nat_le 1 d.limit && nat_le d.limit 14) && right_pairs d.denominations

abbrev pub sheet_answer : Draft → Result Draft SheetFault
sheet_answer d = cond (right_sheet d) (Ok d) (Err SheetWrong)

abbrev pub denominations_answer : List Pair → Result (List Pair) SheetFault
denominations_answer ps = cond (right_pairs ps) (Ok ps) (Err SheetWrong)

abbrev pub told_denominations : Result (List Denomination) SheetFault → Result (List Pair) SheetFault
told_denominations (Ok ds) = Ok (map pair_of ds)
told_denominations (Err e) = Err e

abbrev pub draft_of : Sheet → Draft
draft_of s = record {
  limit = s.limit.value;
  denominations = map pair_of s.denominations;
  enable = s.enable;
  security = s.security;
  options = s.options;
}

abbrev pub told : Result Sheet SheetFault → Result Draft SheetFault
told (Ok s) = Ok (draft_of s)
told (Err e) = Err e

abbrev pub limit_of : Sheet → Limit
limit_of s = s.limit

-- the codes 61H to 68H
abbrev pub is_bill : ℕ → Bool
is_bill code = nat_le 0x61 code && nat_le code 0x68

abbrev pub place_of : ℕ → Option ℕ
place_of code = cond (is_bill code) (Some (code - 0x61)) None

abbrev pub unassigned : Denomination
unassigned = record { mantissa = 0; exponent = 0; small = (lit≤ tt, lit≤ tt) }

abbrev pub worth_of : Denomination → Option ℕ
worth_of d = worth d.mantissa d.exponent

abbrev pub value_of : Sheet → ℕ → Option ℕ
value_of s code = cond (is_bill code) (worth_of (slice_index_or s.denominations (code - 0x61) unassigned)) None

abbrev pub worth_of_pair : Pair → Option ℕ
worth_of_pair p = worth p.mantissa p.exponent

abbrev pub value_on : Draft → ℕ → Option ℕ
value_on d code = cond (is_bill code) (worth_of_pair (slice_index_or d.denominations (code - 0x61) (pair 0 0))) None

-- bit 0 is for 61H, and a 1 disables
abbrev pub is_enabled : Sheet → ℕ → Bool
is_enabled s code = is_bill code && s.enable / 2 ^ (code - 0x61) % 2 == 0

abbrev pub sheet_fault_number : SheetFault → ℕ
sheet_fault_number SheetWrong = 14
