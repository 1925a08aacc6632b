-- The own moves of a head, power cuts among them.
--
--   own_moves i p    where a head in the phase p with the inhibit bit i moves by itself
--   power_cuts p     where it finds itself when its power comes back
--   Moves h q h' t   the head h moves to the phase q and becomes h'; t tells whether it takes the bill
--   moved h q        the same, computed: the head after a move to the phase q, and what the move answers
--   MovesAsListed    moved answers Ok exactly for the moves of Moves, and a refused move changes nothing
--
-- Assumes nothing.
use Rattle.std.specs.Prelude.{◌≡◌, ℕ, ◌≤◌, Bool, true, false, cond, not, ◌&&◌, ◌||◌, ◌⊎◌, List, [], ◌∷◌, Some, None, Ok, Err, Option, Result, ◌==◌}
use Rattle.codes.specs.Codes.{within}
use Rattle.head.specs.declared.fault.MoveFault.{MoveFault}
use Rattle.head.specs.declared.fault.MoveFault.TheVariants.{NotListed}
use Rattle.head.specs.declared.head.Head.{Head}
use Rattle.head.specs.declared.phase.ErrorCode.{ErrorCode}
use Rattle.head.specs.declared.phase.Phase.{Phase}
use Rattle.head.specs.declared.phase.Phase.TheVariants.{Idle, Accepting, Escrow, Stacking, Vend, Stacked, Rejecting, Returning, Disabled, Init, Storing, Up40, Up41, Up42, Error}
use Rattle.head.specs.Phases.{code, held, idle, accepting, escrow, vend, rejecting, disabled, init, up40, up41, up42}

-- THE TABLES

-- Where a move leads: to Accepting with any bill's code, to Rejecting with any reason, to any error, to rest (Disabled
-- if the inhibit bit is 1, else Idle), to a phase, or to a phase while it takes the bill.
pub data Target : Type 0 where
  any_accepting : Target
  any_rejecting : Target
  any_error : Target
  at_rest : Bool → Target
  to : Phase → Target
  taking : Phase → Target

abbrev pub own_moves : Bool → Phase → List Target
own_moves i (Idle n) = any_accepting ∷ any_error ∷ []
own_moves i (Accepting n c) = to (escrow c) ∷ any_rejecting ∷ []
own_moves i (Escrow n c) = any_rejecting ∷ []
own_moves i (Stacking n c) = taking (vend c) ∷ any_rejecting ∷ []
own_moves i (Vend n c) = []
own_moves i (Stacked n c) = at_rest i ∷ any_error ∷ []
own_moves i (Rejecting n d) = at_rest i ∷ any_error ∷ []
own_moves i (Returning n) = at_rest i ∷ any_error ∷ []
own_moves i (Disabled n) = any_error ∷ []
own_moves i (Init n) = at_rest i ∷ []
own_moves i (Storing n c) = at_rest i ∷ to (vend c) ∷ []
own_moves i (Up40 n) = []
own_moves i (Up41 n) = []
own_moves i (Up42 n c) = []
own_moves i (Error e f) = to init ∷ []

abbrev pub power_cuts : Phase → List Target
power_cuts (Idle n) = to up40 ∷ []
power_cuts (Accepting n c) = to up40 ∷ to up41 ∷ []
power_cuts (Escrow n c) = to up41 ∷ []
power_cuts (Stacking n c) = to up41 ∷ taking (up42 c) ∷ []
power_cuts (Vend n c) = to (up42 c) ∷ []
power_cuts (Stacked n c) = to up40 ∷ to (up42 c) ∷ []
power_cuts (Rejecting n d) = to up40 ∷ to up41 ∷ []
power_cuts (Returning n) = to up40 ∷ to up41 ∷ []
power_cuts (Disabled n) = to up40 ∷ []
power_cuts (Init n) = to up40 ∷ []
power_cuts (Storing n c) = to up40 ∷ to (up42 c) ∷ []
power_cuts (Up40 n) = to up40 ∷ []
power_cuts (Up41 n) = to up41 ∷ []
power_cuts (Up42 n c) = to (up42 c) ∷ []
power_cuts (Error e f) = to up40 ∷ []

-- WHICH MOVES THEY LIST

-- A move to a phase, taking the bill or not, is one of those that a target stands for.
pub data Leads : Target → Phase → Bool → Type 0 where
  to_accepting : {c : ℕ} → 0x61 ≤ c → c ≤ 0x68 → Leads any_accepting (accepting c) false
  to_rejecting : {d : ℕ} → 0x71 ≤ d → d ≤ 0x7f → Leads any_rejecting (rejecting d) false
  to_error : {e : ErrorCode} {f : ℕ} → Leads any_error (Error e f) false
  to_idle : Leads (at_rest false) idle false
  to_disabled : Leads (at_rest true) disabled false
  to_phase : {p : Phase} → Leads (to p) p false
  taking_to : {p : Phase} → Leads (taking p) p true

-- It is one of those that some target of a list stands for.
abbrev pub Among : List Target → Phase → Bool → Type 0
Among [] q t = ⊥
Among (x ∷ []) q t = Leads x q t
Among (x ∷ y ∷ xs) q t = Leads x q t ⊎ Among (y ∷ xs) q t

-- A power cut sets the inhibit bit; any other move leaves it.
pub data Moves (h : Head) (q : Phase) : Head → Bool → Type 0 where
  own : {t : Bool} → Among (own_moves h.inhibited h.phase) q t → Moves h q (record { phase = q; inhibited = h.inhibited }) t
  power_cut : {t : Bool} → Among (power_cuts h.phase) q t → Moves h q (record { phase = q; inhibited = true }) t

-- COMPUTED

abbrev pub same : List ℕ → List ℕ → Bool
same [] [] = true
same [] (y ∷ ys) = false
same (x ∷ xs) [] = false
same (x ∷ xs) (y ∷ ys) = x == y && same xs ys

abbrev pub same_phase : Phase → Phase → Bool
same_phase p q = code p == code q && same (held p) (held q)

abbrev pub held_byte : List ℕ → ℕ
held_byte [] = 0
held_byte (x ∷ xs) = x

abbrev pub meets : Target → Phase → Bool
meets any_accepting q = code q == 0x12 && within 0x61 0x68 (held_byte (held q))
meets any_rejecting q = code q == 0x17 && within 0x71 0x7f (held_byte (held q))
meets any_error q = within 0x43 0x49 (code q)
meets (at_rest i) q = (code q == 0x11 && not i) || (code q == 0x1a && i)
meets (to p) q = same_phase p q
meets (taking p) q = same_phase p q

abbrev pub takes : Target → Bool
takes any_accepting = false
takes any_rejecting = false
takes any_error = false
takes (at_rest i) = false
takes (to p) = false
takes (taking p) = true

abbrev pub leads : List Target → Phase → Option Bool
leads [] q = None
leads (x ∷ xs) q = cond (meets x q) (Some (takes x)) (leads xs q)

-- With what the own moves and the power cuts say of a move to q.
abbrev pub made : Head → Phase → Option Bool → Option Bool → Head × Result Bool MoveFault
made h q (Some t) cut = (record { phase = q; inhibited = h.inhibited }, Ok t)
made h q None (Some t) = (record { phase = q; inhibited = true }, Ok t)
made h q None None = (h, Err NotListed)

abbrev pub moved : Head → Phase → Head × Result Bool MoveFault
moved h q = made h q (leads (own_moves h.inhibited h.phase) q) (leads (power_cuts h.phase) q)

-- THE TWO AGREE

pub record MovesAsListed : Type 0 where
  pub listed : (h : Head) (q : Phase) (after : Head) (t : Bool) → moved h q ≡ (after, Ok t) → Moves h q after t
  pub answered : (h : Head) (q : Phase) (after : Head) (t : Bool) → Moves h q after t → moved h q ≡ (after, Ok t)
  pub refused : (h : Head) (q : Phase) → (moved h q).1 ≡ Err NotListed → (moved h q).0 ≡ h
