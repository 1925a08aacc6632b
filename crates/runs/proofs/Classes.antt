-- Phases by what they mean for the money: how own moves and commands lead from one class to another, what a status tells, and how the hub reacts to it. Assumes nothing.
use Rattle.std.proofs.Common.{◌≡◌, ℕ, Bool, true, false, cond, eqb, [], Some, None, Option, unwrap_or, refl, arith}
use Rattle.frame.specs.Frames.{Content, content}
use Rattle.ledger_calls.specs.declared.Call.TheVariants.{Settle, GiveBack}
use Rattle.reaction.specs.Reactions.{row, priced_reply, bill_reply, reaction_to}
use Rattle.reaction.specs.Setups.{is_set_up}
use Rattle.reaction.specs.declared.fault.HeadFault.{HeadFault}
use Rattle.reaction.specs.declared.fault.HeadFault.TheVariants as fault
use Rattle.reaction.specs.declared.reaction.Reaction.{Reaction}
use Rattle.reaction.specs.declared.reaction.Reply.TheVariants as reply
use Rattle.reaction.specs.declared.setup.Setup.{Setup}
use Rattle.sheet.specs.Settings.{settings_of, nth}
use Rattle.sheet.specs.Sheets.{value_of, is_enabled}
use Rattle.sheet.specs.declared.sheet.Sheet.{Sheet}
use Rattle.head.specs.Commands.{cell, command_of}
use Rattle.head.specs.Moves.{own_moves, power_cuts, leads, Moves, own, power_cut, held_byte}
use Rattle.head.specs.Phases.{code, held, status, ReadAsStatus}
use Rattle.head.specs.declared.head.Head.{Head}
use Rattle.head.specs.declared.phase.ErrorCode.{ErrorCode}
use Rattle.head.specs.declared.phase.Phase.{Phase}
use Rattle.head.specs.declared.phase.Phase.TheVariants.{Idle, Accepting, Escrow, Stacking, Vend, Stacked, Rejecting, Returning, Disabled, Init, Storing, Up40, Up41, Up42, Error}
use Rattle.head.proofs.Listed.{own_leads, cut_leads}

-- No bill that counts; a bill of the code c in escrow; one on its way into the box; one in the box that may not be credited
-- yet; one in the box that is credited.
pub data Class : Type 0 where
  quiet boxed stored : Class
  lying entering : (c : ℕ) → Class

abbrev pub class : Phase → Class
class (Idle n) = quiet
class (Accepting n c) = quiet
class (Escrow n c) = lying c
class (Stacking n c) = entering c
class (Vend n c) = boxed
class (Stacked n c) = stored
class (Rejecting n d) = quiet
class (Returning n) = quiet
class (Disabled n) = quiet
class (Init n) = quiet
class (Storing n c) = stored
class (Up40 n) = quiet
class (Up41 n) = quiet
class (Up42 n c) = boxed
class (Error e f) = quiet

-- OWN MOVES

-- From one class to another: whether the move brings a bill into escrow, whether it takes the bill, and the byte that the
-- phase after it holds.
pub data Goes : Class → Class → (brings takes : Bool) → (byte : ℕ) → Type 0 where
  stays : {x : ℕ} → Goes quiet quiet false false x
  brought : {c x : ℕ} → Goes quiet (lying c) true false x
  refuses : {c x : ℕ} → Goes (lying c) quiet false false x
  ejects : {c x : ℕ} → Goes (entering c) quiet false false x
  takes : {c : ℕ} → Goes (entering c) boxed false true c
  holds : {x : ℕ} → Goes boxed boxed false false x
  forgets : {x : ℕ} → Goes stored quiet false false x
  again : {x : ℕ} → Goes stored boxed false false x

abbrev GoesTo : Class → Phase → Bool → Type 0
GoesTo C q t = Goes C (class q) (eqb (code q) 0x13) t (held_byte (held q))

own_goes : (i : Bool) (p q : Phase) (t : Bool) → leads (own_moves i p) q ≡ Some t → GoesTo (class p) q t
own_goes i p q t a = grind (arith, stays, brought, refuses, ejects, takes, holds, forgets, again)

cut_goes : (p q : Phase) (t : Bool) → leads (power_cuts p) q ≡ Some t → GoesTo (class p) q t
cut_goes p q t a = grind (arith, stays, brought, refuses, ejects, takes, holds, forgets, again)

pub move_goes : (h : Head) (q : Phase) (after : Head) (t : Bool) → Moves h q after t → Goes (class h.phase) (class after.phase) (eqb (code q) 0x13) t (held_byte (held q))
move_goes h q after t (own a) = own_goes h.inhibited h.phase q t (own_leads h.inhibited h.phase q t a)
move_goes h q after t (power_cut a) = cut_goes h.phase q t (cut_leads h.phase q t a)

-- COMMANDS

-- The second frames that are no settings: STACK-1, RETURN, RESET and ACK.
pub data Order : Type 0 where
  stack back reset acknowledge : Order

abbrev pub order_content : Order → Content
order_content stack = content 0x41 []
order_content back = content 0x43 []
order_content reset = content 0x40 []
order_content acknowledge = content 0x50 []

-- a phase after a message
abbrev pub phase_after : Phase → Content → Phase
phase_after p m = unwrap_or (cell p (command_of m)).0 p

-- From one class to another, by an order.
pub data Turns : Order → Class → Class → Type 0 where
  same : {o : Order} {C : Class} → Turns o C C
  stacks : {c : ℕ} → Turns stack (lying c) (entering c)
  returns : {c : ℕ} → Turns back (lying c) quiet
  resets : {c : ℕ} → Turns reset (lying c) quiet
  breaks_off : {c : ℕ} → Turns reset (entering c) quiet
  stores : Turns reset boxed stored
  lets_go : Turns acknowledge boxed stored

pub turns : (o : Order) (p : Phase) → Turns o (class p) (class (phase_after p (order_content o)))
turns o p = grind (arith, same, stacks, returns, resets, breaks_off, stores, lets_go)

-- The settings leave the class.
pub setting_stays : (s : Sheet) (i : ℕ) (m : Content) → nth (settings_of s) i ≡ Some m → (p : Phase) → class (phase_after p m) ≡ class p
setting_stays s i m e p = grind arith

-- STATUSES

-- What a status tells: no bill is on its way into the box; a bill of the code c lies in escrow; nothing; a bill is in the box.
pub data Told : Type 0 where
  free nothing boxing : Told
  offering : (c : ℕ) → Told

abbrev pub tells : Phase → Told
tells (Idle n) = free
tells (Accepting n c) = free
tells (Escrow n c) = offering c
tells (Stacking n c) = nothing
tells (Vend n c) = boxing
tells (Stacked n c) = nothing
tells (Rejecting n d) = free
tells (Returning n) = free
tells (Disabled n) = free
tells (Init n) = nothing
tells (Storing n c) = nothing
tells (Up40 n) = free
tells (Up41 n) = free
tells (Up42 n c) = boxing
tells (Error e f) = nothing

-- The reactions to what is told.
pub data Reacts (u : Setup) : Told → Reaction → Type 0 where
  back_only : Reacts u free (row (Some GiveBack) reply.Nothing refl)
  back_setting : Reacts u free (row (Some GiveBack) reply.NextSetting refl)
  back_reset : Reacts u free (row (Some GiveBack) reply.Reset refl)
  back_stack : {c value : ℕ} → value_of u.sheet c ≡ Some value → Reacts u (offering c) (row (Some GiveBack) (reply.Stack value) refl)
  back_return : {c : ℕ} {cause : HeadFault} → Reacts u (offering c) (row (Some GiveBack) (reply.Return cause) refl)
  idles : Reacts u nothing (row None reply.Nothing refl)
  idles_setting : Reacts u nothing (row None reply.NextSetting refl)
  settles : Reacts u boxing (row (Some Settle) reply.Acknowledge refl)
  settles_reset : Reacts u boxing (row (Some Settle) reply.Reset refl)

reacts_error : (u : Setup) (e : ErrorCode) (f : ℕ) → Reacts u nothing (reaction_to u (status (Error e f)))
reacts_error u e f = grind (arith, idles)

reacts_bill : (u : Setup) (c : ℕ) → Reacts u (offering c) (row (Some GiveBack) (bill_reply u c) refl)
reacts_bill u c = go (is_set_up u) (value_of u.sheet c) (is_enabled u.sheet c) refl
  where
    go : (set-up : Bool) (o : Option ℕ) (enabled : Bool) → value_of u.sheet c ≡ o → Reacts u (offering c) (row (Some GiveBack) (cond set-up (priced_reply o enabled) (reply.Return fault.Settings)) refl)
    go true None enabled is = back_return
    go true (Some value) true is = back_stack is
    go true (Some value) false is = back_return
    go false o enabled is = back_return

pub reacts : (u : Setup) (p : Phase) → Reacts u (tells p) (reaction_to u (status p))
reacts u (Idle n) = back_setting
reacts u (Accepting n c) = back_only
reacts u (Escrow n c) = reacts_bill u c
reacts u (Stacking n c) = idles
reacts u (Vend n c) = settles
reacts u (Stacked n c) = idles
reacts u (Rejecting n d) = back_only
reacts u (Returning n) = back_only
reacts u (Disabled n) = back_setting
reacts u (Init n) = idles_setting
reacts u (Storing n c) = idles_setting
reacts u (Up40 n) = back_reset
reacts u (Up41 n) = back_reset
reacts u (Up42 n c) = settles_reset
reacts u (Error e f) = reacts_error u e f

-- each status reads as itself
pub status_reads : (p : Phase) → ReadAsStatus p
status_reads p = grind arith
