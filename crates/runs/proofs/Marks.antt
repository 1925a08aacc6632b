-- Marks tell calls of the turn table, so what holds of all such calls holds of the marks. Assumes nothing.
use Rattle.std.proofs.Common.{◌≡◌, ℕ, ◌+◌, cond, eqb, List, [], ◌∷◌, ◌++◌, map, length, Some, None, Option, sym, refl, subst, arith}
use Rattle.orders.specs.Orders.{times}
use Rattle.orders.specs.Tables.{Table, empty_table}
use Rattle.orders.proofs.Keeps.{Keeps}
use Rattle.orders.proofs.Lists.{count_cons}
use Rattle.turns.specs.Runs.{Call, after_call, after_calls, slot_of, with_slot, slots, WishesAreGranted}
use Rattle.turns.specs.Runs as turns
use Rattle.turns.proofs.Invariant.{empty_keeps}
use Rattle.turns.proofs.Rounds.{calls_keep, turns_keep_their_law_lem}
use Rattle.runs.specs.Worlds.{Mark, World}
use Rattle.runs.specs.Law.{table_after, StaysAdmitted, slots_in, is_for, slots_for, EveryHeadGetsItsTurn, WishesPassedOverRightly}
use Rattle.runs.proofs.HubInvariant.{Faithful, HubKept}

-- MARKS BEFORE AND AFTER

pub table_append : (t : Table) (ms later : List Mark) → table_after t (ms ++ later) ≡ table_after (table_after t ms) later
table_append t [] later = refl
table_append t (m ∷ ms) later = table_append m.table ms later

pub faithful_append : (t : Table) (ms later : List Mark) → Faithful t ms → Faithful (table_after t ms) later → Faithful t (ms ++ later)
faithful_append t [] later told after = after
faithful_append t (m ∷ ms) later told after = grind (arith, faithful_append m.table ms later)

faithful_split : (t : Table) (ms later : List Mark) → Faithful t (ms ++ later) → Faithful t ms × Faithful (table_after t ms) later
faithful_split t [] later told = (tt, told)
faithful_split t (m ∷ ms) later told = grind (arith, faithful_split m.table ms later)

-- MARKS AS CALLS

abbrev calls_in : List Mark → List Call
calls_in ms = map (λ m. m.call) ms

table_told : (t : Table) (ms : List Mark) → Faithful t ms → table_after t ms ≡ after_calls t (calls_in ms)
table_told t [] told = refl
table_told t (m ∷ ms) (next, slot, told) = grind (arith, table_told m.table ms told)

-- a table that marks lead to can exist
pub marks_keep : (ms : List Mark) → Faithful empty_table ms → Keeps (table_after empty_table ms)
marks_keep ms told = subst Keeps (sym (table_told empty_table ms told)) (calls_keep empty_table (calls_in ms) empty_keeps)

stay_told : (h : ℕ) (t : Table) (ms : List Mark) → Faithful t ms → StaysAdmitted h t ms → turns.StaysAdmitted h t (calls_in ms)
stay_told h t [] told stay = stay
stay_told h t (m ∷ ms) (next, slot, told) stay = grind (arith, stay_told h m.table ms told stay.1)

slots_told : (t : Table) (ms : List Mark) → Faithful t ms → slots_in ms ≡ length (slots t (calls_in ms))
slots_told t [] told = refl
slots_told t (m ∷ ms) (next, slot, told) = grind (arith, slots_told m.table ms told)

times_with : (h : ℕ) (slot : Option ℕ) (later : List ℕ) → times h (with_slot slot later) ≡ cond (is_for h slot) 1 0 + times h later
times_with h None later = omega arith
times_with h (Some g) later = count_cons (eqb h) g later

times_told : (h : ℕ) (t : Table) (ms : List Mark) → Faithful t ms → slots_for h ms ≡ times h (slots t (calls_in ms))
times_told h t [] told = refl
times_told h t (m ∷ ms) (next, slot, told) = grind (arith, times_told h m.table ms told, times_with)

-- THE LAW OF TURNS

pub rounds_kept : (w : World) → HubKept w → EveryHeadGetsItsTurn w
rounds_kept w kept before during later h is stay enough =
    let t = table_after empty_table before in
    let parts = faithful_split empty_table before (during ++ later) (subst (Faithful empty_table) is kept.faithful) in
    let told = (faithful_split t during later parts.1).0 in
    let law : turns.EveryHeadGetsItsTurn t =
    subst turns.EveryHeadGetsItsTurn (sym (table_told empty_table before parts.0)) (turns_keep_their_law_lem.rounds (calls_in before)) in
    omega (
      arith,
      law (calls_in during) h (stay_told h t during told stay) (omega (arith, slots_told t during told)),
      times_told h t during told,
    )

pub wishes_kept : (w : World) → HubKept w → WishesPassedOverRightly w
wishes_kept w kept before later m wish is call in' =
    let t = table_after empty_table before in
    let parts = faithful_split empty_table before (m ∷ later) (subst (Faithful empty_table) is kept.faithful) in
    let law : WishesAreGranted t = subst WishesAreGranted (sym (table_told empty_table before parts.0)) (turns_keep_their_law_lem.wishes (calls_in before)) in
    let granted = law.passed_over wish in
    grind (arith, granted)
