-- What the hub knows of its heads and of the open slot, and what is awaited.
--
--   HubState             what clauses see of a hub's state, without its ledger: the turn table, the setups of the admitted heads, the slot,
--                        and the slot count
--   new_state            a new hub
--   restarted s          the hub after a restart: no head is admitted, no slot is open, the count stays
--   is_open slot         whether a slot is open
--   served_by slot       the head that the open slot is for
--   setup_of s h         the setup of head h, if it is admitted
--   first_of slot        the head whose first report a slot awaits, if it awaits one; second_of slot the same of the second
--   awaited_by of s n    the head whose report the hub awaits from a pass with the count n, where `of` is first_of or second_of
--   next_count s         the count of the next slot: 1 for the first, modulo 2^64
--
-- Assumes nothing.
use Rattle.std.specs.Prelude.{ℕ, ◌+◌, ◌%◌, ◌^◌, Bool, cond, List, replicate, is_some, Some, None, Option, ◌==◌, slice_index_or}
use Rattle.orders.specs.Tables.{Table, empty_table}
use Rattle.reaction.specs.declared.setup.Setup.{Setup}
use Rattle.hub.specs.declared.state.Slot.{Slot}
use Rattle.hub.specs.declared.state.Slot.TheVariants.{Closed, First, Second}

pub record HubState : Type 0 where
  pub table : Table
  pub setups : List (Option Setup)
  pub slot : Slot
  pub count : ℕ

abbrev pub new_state : HubState
new_state = record { table = empty_table; setups = replicate 14 None; slot = Closed; count = 0 }

abbrev pub restarted : HubState → HubState
restarted s = record { table = empty_table; setups = replicate 14 None; slot = Closed; count = s.count }

abbrev pub served_by : Slot → Option ℕ
served_by Closed = None
served_by (First h) = Some h
served_by (Second h sent) = Some h

abbrev pub is_open : Slot → Bool
is_open slot = is_some (served_by slot)

abbrev pub setup_of : HubState → ℕ → Option Setup
setup_of s h = slice_index_or s.setups h None

abbrev pub first_of : Slot → Option ℕ
first_of Closed = None
first_of (First h) = Some h
first_of (Second h sent) = None

abbrev pub second_of : Slot → Option ℕ
second_of Closed = None
second_of (First h) = None
second_of (Second h sent) = Some h

abbrev pub awaited_by : (Slot → Option ℕ) → HubState → ℕ → Option ℕ
awaited_by of s n = cond (n == s.count) (of s.slot) None

abbrev pub next_count : HubState → ℕ
next_count s = (s.count + 1) % 2 ^ 64
