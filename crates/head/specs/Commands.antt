-- What a head does on a message.
--
--   command_of m   which command a message is
--   row p          a row of the table: what a head in the phase p does on each command
--   obeyed h k     the head h after the command k, and its reply, if any
--
-- Assumes nothing.
use Rattle.std.specs.Prelude.{ℕ, Bool, true, false, cond, ◌||◌, List, [], ◌∷◌, Some, None, Option, ◌==◌}
use Rattle.std.specs.Option.{unwrap_or}
use Rattle.frame.specs.Frames.{Content}
use Rattle.head.specs.declared.phase.Phase.{Phase}
use Rattle.head.specs.declared.phase.Phase.TheVariants.{Idle, Accepting, Escrow, Stacking, Vend, Stacked, Rejecting, Returning, Disabled, Init, Storing, Up40, Up41, Up42, Error}
use Rattle.head.specs.declared.command.Command.{Command}
use Rattle.head.specs.declared.command.Command.TheVariants.{StatusRequest, Stack, Return, Reset, Acknowledge, Configure, Inhibit, Permit, Unknown}
use Rattle.head.specs.declared.command.Reply.{Reply}
use Rattle.head.specs.declared.command.Reply.TheVariants.{Status, Acknowledgement, InvalidCommand, Echo}
use Rattle.head.specs.declared.head.Head.{Head}
use Rattle.head.specs.Phases.{idle, stacking, stacked, rejecting, returning, disabled, init, storing}

-- WHICH COMMAND A MESSAGE IS, by the number of its data bytes

abbrev pub without_data : ℕ → Command
without_data c =
    cond (c == 0x11) StatusRequest
    (cond (c == 0x40) Reset
    (cond (c == 0x41) Stack
    (cond (c == 0x43) Return
    (cond (c == 0x50) Acknowledge
    Unknown))))

abbrev pub with_one : ℕ → ℕ → Command
with_one c a = cond (c == 0xc3) (cond (a == 0x00) Permit (cond (a == 0x01) Inhibit Unknown)) Unknown

abbrev pub with_two : ℕ → Command
with_two c = cond (c == 0xc0 || c == 0xc1 || c == 0xc5) Configure Unknown

abbrev pub sorted : ℕ → List ℕ → Command
sorted c [] = without_data c
sorted c (a ∷ []) = with_one c a
sorted c (a ∷ b ∷ []) = with_two c
sorted c (a ∷ b ∷ x ∷ xs) = Unknown

abbrev pub command_of : Content → Command
command_of m = sorted m.command m.«data»

-- THE TABLE

-- A cell: the phase that the head goes to, none where it stays in its own, and its reply, if any.
abbrev pub Cell : Type 0
Cell = Option Phase × Option Reply

-- 4BH, and nothing changes
abbrev pub no : Cell
no = (None, Some (InvalidCommand (record {})))

-- 50H
abbrev pub done : Phase → Cell
done q = (Some q, Some (Acknowledgement (record {})))

-- no answer
abbrev pub still : Cell
still = (None, None)

abbrev pub still_to : Phase → Cell
still_to q = (Some q, None)

-- the same message
abbrev pub echo : Cell
echo = (None, Some Echo)

abbrev pub echo_to : Phase → Cell
echo_to q = (Some q, Some Echo)

pub record Row : Type 0 where
  pub stack : Cell
  pub «return» : Cell
  pub reset : Cell
  pub acknowledge : Cell
  pub configure : Cell
  pub inhibit : Cell
  pub permit : Cell

abbrev pub cells : Cell → Cell → Cell → Cell → Cell → Cell → Cell → Row
cells s r z a c i p = record { stack = s; «return» = r; reset = z; acknowledge = a; configure = c; inhibit = i; permit = p }

-- The columns: STACK-1 (41H), RETURN (43H), RESET (40H), ACK (50H), C0H C1H C5H, C3H with 01H, C3H with 00H.
abbrev pub row : Phase → Row
row (Idle n) = cells no no (done init) still echo (echo_to disabled) echo
row (Accepting n c) = cells no no (done init) still no (echo_to (rejecting 0x79)) echo
row (Escrow n c) = cells (done (stacking c)) (done returning) (done init) still no (echo_to (rejecting 0x79)) echo
row (Stacking n c) = cells no no (done init) still no echo echo
row (Vend n c) = cells no no (done (storing c)) (still_to (stacked c)) no echo echo
row (Stacked n c) = cells no no (done (storing c)) still no echo echo
row (Rejecting n d) = cells no no (done init) still no echo echo
row (Returning n) = cells no no (done init) still no echo echo
row (Disabled n) = cells no no (done init) still echo echo (echo_to idle)
row (Init n) = cells no no (done init) still echo echo echo
row (Storing n c) = cells no no (done (storing c)) still echo echo echo
row (Up40 n) = cells no no (done init) still no echo echo
row (Up41 n) = cells no no (done init) still no echo echo
row (Up42 n c) = cells no no (done (storing c)) still no echo echo
row (Error e f) = cells no no (done init) still no echo echo

-- 11H is answered in every phase, all else is refused.
abbrev pub cell : Phase → Command → Cell
cell p StatusRequest = (None, Some (Status p))
cell p Stack = (row p).stack
cell p Return = (row p).«return»
cell p Reset = (row p).reset
cell p Acknowledge = (row p).acknowledge
cell p Configure = (row p).configure
cell p Inhibit = (row p).inhibit
cell p Permit = (row p).permit
cell p Unknown = no

-- C3H sets the inhibit bit.
abbrev pub bit_after : Bool → Command → Bool
bit_after i StatusRequest = i
bit_after i Stack = i
bit_after i Return = i
bit_after i Reset = i
bit_after i Acknowledge = i
bit_after i Configure = i
bit_after i Inhibit = true
bit_after i Permit = false
bit_after i Unknown = i

abbrev pub obeyed : Head → Command → Head × Option Reply
obeyed h k = (record { phase = unwrap_or (cell h.phase k).0 h.phase; inhibited = bit_after h.inhibited k }, (cell h.phase k).1)
