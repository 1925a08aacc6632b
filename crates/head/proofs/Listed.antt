-- The moves that are computed are those that the tables list. Assumes nothing.
use Rattle.std.proofs.Common.{◌≡◌, Bool, true, List, [], ◌∷◌, Some, None, Ok, Err, refl, arith}
use Rattle.head.specs.declared.fault.MoveFault.TheVariants.{NotListed}
use Rattle.head.specs.declared.head.Head.{Head}
use Rattle.head.specs.declared.phase.Phase.{Phase}
use Rattle.head.specs.Moves.{Target, own_moves, power_cuts, Leads, to_accepting, to_rejecting, to_error, to_idle, to_disabled, to_phase, taking_to, Among, Moves, own, power_cut, same_phase, meets, takes, leads, moved, MovesAsListed}

-- WHAT A TARGET STANDS FOR

same_phases : (p q : Phase) → same_phase p q ≡ true → p ≡ q
same_phases p q e = grind arith

phases_same : (p : Phase) → same_phase p p ≡ true
phases_same p = grind arith

met : (x : Target) (q : Phase) → meets x q ≡ true → Leads x q (takes x)
met x q e = grind (arith, to_accepting, to_rejecting, to_error, to_idle, to_disabled, to_phase, taking_to, same_phases)

meets_it : {x : Target} {q : Phase} {t : Bool} → Leads x q t → meets x q ≡ true
meets_it (to_accepting l h) = grind arith
meets_it (to_rejecting l h) = grind arith
meets_it (to_error {e}) = grind arith
meets_it to_idle = refl
meets_it to_disabled = refl
meets_it (to_phase {p}) = phases_same p
meets_it (taking_to {p}) = phases_same p

takes_it : {x : Target} {q : Phase} {t : Bool} → Leads x q t → takes x ≡ t
takes_it l = grind arith

-- THE TABLES

found : (xs : List Target) (q : Phase) (t : Bool) → leads xs q ≡ Some t → Among xs q t
found [] q t e = grind arith
found (x ∷ []) q t e = grind (arith, met)
found (x ∷ y ∷ xs) q t e = grind (arith, met, found (y ∷ xs) q t)

-- No two targets of a row that stand for one move differ in whether it takes the bill.
pub own_leads : (i : Bool) (p q : Phase) (t : Bool) → Among (own_moves i p) q t → leads (own_moves i p) q ≡ Some t
own_leads i p q t a = grind (arith, meets_it, takes_it)

pub cut_leads : (p q : Phase) (t : Bool) → Among (power_cuts p) q t → leads (power_cuts p) q ≡ Some t
cut_leads p q t a = grind (arith, meets_it, takes_it)

-- Only power cuts lead to the phases after a cut.
no_own_move : (i : Bool) (p q : Phase) (t : Bool) → Among (power_cuts p) q t → leads (own_moves i p) q ≡ None
no_own_move i p q t a = grind (arith, meets_it)

-- THE MOVES

listed : (h : Head) (q : Phase) (after : Head) (t : Bool) → moved h q ≡ (after, Ok t) → Moves h q after t
listed h q after t e = grind (arith, own, power_cut, found)

answered : (h : Head) (q : Phase) (after : Head) (t : Bool) → Moves h q after t → moved h q ≡ (after, Ok t)
answered h q after t (own a) = grind (arith, own_leads)
answered h q after t (power_cut a) = grind (arith, no_own_move, cut_leads)

refused : (h : Head) (q : Phase) → (moved h q).1 ≡ Err NotListed → (moved h q).0 ≡ h
refused h q e = grind arith

pub moves_as_listed : MovesAsListed
moves_as_listed = record { listed = listed; answered = answered; refused = refused }
