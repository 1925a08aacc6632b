use Rattle.std.proofs.Common.{◌≡◌, true, map, length, take}
use Rattle.sheet.specs.Sheets.{right_pairs, pair_of}
use Rattle.sheet.proofs.sheet.check_denominations.Given as goal

-- the pairs so far are right, and stand in the checked ones
abbrev pub invariant-loop-place : goal.invariant-loop-place
invariant-loop-place l =
    (right_pairs (take l.place l.fn.pairs) ≡ true) × (map pair_of (take l.place l.checked) ≡ take l.place l.fn.pairs) × (length l.checked ≡ 8)
