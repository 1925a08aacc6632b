-- Worlds: a hub with its ledger, fourteen heads, the line between them, and what is remembered of them all.
--
--   Taken              a bill taken: its number among its head's bills, its code, and how many slots had been opened then
--   Past               what is remembered of a head: the bill of its latest promise (the one that lay in escrow when its 13H
--                      was answered), its bills taken, latest first, and the bills whose promise was settled
--   Line               what is under way on the line
--   HeardSlot          a slot whose poll and answer arrived and whose first report completed: its number from 1 and its head
--   Mark               what the hub did with its turn table: the call, the head served by it, and the table after it
--   Memory             all that is remembered
--   World              a world
--   new_world ledger   a new hub over a ledger, and fourteen heads as they start
--   put k x f          f, but x at k
--
-- Bills have numbers, so that what is said of a bill is not said of another of the same worth. Slot numbers do not wrap.
-- Assumes nothing.
use Rattle.std.specs.Prelude.{ℕ, cond, List, [], None, Option, ◌==◌}
use Rattle.frame.specs.Frames.{Content}
use Rattle.orders.specs.Tables.{Table}
use Rattle.turns.specs.Runs.{Call}
use Rattle.sheet.specs.declared.sheet.Draft.{Draft}
use Rattle.ledger.specs.Held.{Heads}
use Rattle.head.specs.Phases.{new_head}
use Rattle.head.specs.declared.head.Head.{Head}
use Rattle.head.specs.declared.phase.Phase.{Phase}
use Rattle.hub.specs.States.{HubState, new_state}
use Rattle.runs.specs.declared.Allowance.{Allowance}
use Rattle.runs.specs.declared.Allowance.TheVariants.{Free}

pub record Taken : Type 0 where
  pub bill : ℕ
  pub code : ℕ
  pub slot : ℕ

pub record Past : Type 0 where
  pub promised : ℕ
  pub taken : List Taken
  pub credited : List ℕ

-- Nothing, the poll, the head's answer to it (the status of the phase it was in, and the number of its latest bill), the
-- second frame, or what the head answered to that, if anything.
pub data Line : Type 0 where
  still : Line
  poll : Line
  answer : (from : Phase) (bill : ℕ) → Line
  second : (m : Content) → Line
  replied : (o : Option Content) → Line

pub record HeardSlot : Type 0 where
  pub number : ℕ
  pub head : ℕ

pub record Mark : Type 0 where
  pub call : Call
  pub served : Option ℕ
  pub table : Table

-- `bills` is how many bills each head has brought into escrow, so the number of its latest; `sheets` the sheet that each
-- number was admitted with, if it ever was; `opened` how many slots were opened; `heard` latest first, `marks` latest last.
pub record Memory : Type 0 where
  pub bills : ℕ → ℕ
  pub pasts : ℕ → Past
  pub sheets : ℕ → Option Draft
  pub opened : ℕ
  pub heard : List HeardSlot
  pub marks : List Mark

-- `left` is how many own moves the head served may still make before its slot ends.
pub record World : Type 0 where
  pub hub : HubState
  pub ledger : Heads
  pub heads : ℕ → Head
  pub line : Line
  pub left : Allowance
  pub memory : Memory

abbrev pub put : {A : Type 0} → ℕ → A → (ℕ → A) → ℕ → A
put k x f = λ h. cond (h == k) x (f h)

abbrev pub new_memory : Memory
new_memory = record {
  bills = λ h. 0;
  pasts = λ h. record { promised = 0; taken = []; credited = [] };
  sheets = λ h. None;
  opened = 0;
  heard = [];
  marks = [];
}

abbrev pub new_world : Heads → World
new_world ledger = record {
  hub = new_state;
  ledger = ledger;
  heads = λ h. new_head;
  line = still;
  left = Free;
  memory = new_memory;
}
