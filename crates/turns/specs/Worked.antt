-- The worked cases, computed.
--
--   limit_from n   the limit n
--   three_heads    limits 3 3 3, then the wishes 0 0 1 2 1
--   third_head l   limits 2 and 4 are admitted, then head 2 with the limit l
--   WorkedCases    three_heads opens slots for 0, 1, 2, 0, 1; third_head l is refused with 15 at last, for every l
--
-- Assumes nothing.
use Rattle.std.specs.Prelude.{◌≡◌, ℕ, ◌≤◌, List, [], ◌∷◌, Ok, Err, Result}
use Rattle.std.proofs.Common.{lit≤}
use Rattle.orders.specs.declared.limit.Limit.{Limit}
use Rattle.turns.specs.declared.fault.AdmissionFault.{AdmissionFault}
use Rattle.turns.specs.declared.fault.AdmissionFault.TheVariants as admission
use Rattle.orders.specs.Tables.{empty_table}
use Rattle.turns.specs.Calls.{admission_answer, after_admission}
use Rattle.turns.specs.Runs.{Call, admit, serve, slots}

abbrev pub limit_from : (n : ℕ) → 1 ≤ n → n ≤ 14 → Limit
limit_from n least most = record { value = n; range = (least, most) }

abbrev two : Limit
two = limit_from 2 (lit≤ tt) (lit≤ tt)

abbrev three : Limit
three = limit_from 3 (lit≤ tt) (lit≤ tt)

abbrev four : Limit
four = limit_from 4 (lit≤ tt) (lit≤ tt)

abbrev pub three_heads : List Call
three_heads = admit 0 three ∷ admit 1 three ∷ admit 2 three ∷ serve 0 ∷ serve 0 ∷ serve 1 ∷ serve 2 ∷ serve 1 ∷ []

abbrev pub third_head : Limit → List (Result (Unit {0}) AdmissionFault)
third_head l =
    let one = after_admission empty_table 0 two in
    admission_answer empty_table 0 two ∷ admission_answer one 1 four ∷ admission_answer (after_admission one 1 four) 2 l ∷ []

abbrev pub WorkedCases : Type 0
WorkedCases =
    (l : Limit) →
    ◌≡◌ {A = List ℕ × List (Result (Unit {0}) AdmissionFault)}
    (slots empty_table three_heads, third_head l)
    (0 ∷ 1 ∷ 2 ∷ 0 ∷ 1 ∷ [], Ok tt ∷ Ok tt ∷ Err admission.Outnumbered ∷ [])
