-- The table after a slot.
--
--   served t h             t after a slot for head h: its slack is its limit again, all others fall by one
--   after_serving t wish   t after a slot for the head chosen, t itself if there is no head
--
-- Assumes nothing.
use Rattle.std.specs.Prelude.{ℕ, ◌-◌, map, Some, None, Option, slice_set}
use Rattle.std.specs.Option.{option_map}
use Rattle.orders.specs.declared.turn.Turn.{Turn}
use Rattle.orders.specs.Tables.{Table, turn_of}
use Rattle.orders.specs.Choice.{chosen}

-- a turn with another slack, and a place with it
abbrev pub turn_with_slack : (Turn → ℕ) → Turn → Turn
turn_with_slack slack turn = record { limit = turn.limit; slack = slack turn }

abbrev pub with_slack : (Turn → ℕ) → Option Turn → Option Turn
with_slack slack place = option_map (turn_with_slack slack) place

-- a turn, and a place, after a slot for another head
abbrev pub lowered_turn : Turn → Turn
lowered_turn turn = turn_with_slack (λ turn. turn.slack - 1) turn

abbrev pub lowered : Option Turn → Option Turn
lowered place = option_map lowered_turn place

-- a turn, and a place, after a slot for its own head
abbrev pub restored_turn : Turn → Turn
restored_turn turn = turn_with_slack (λ turn. turn.limit.value) turn

abbrev pub restored : Option Turn → Option Turn
restored place = option_map restored_turn place

abbrev pub served : Table → ℕ → Table
served t h = slice_set (map lowered t) h (restored (turn_of t h))

abbrev pub after_slot : Table → Option ℕ → Table
after_slot t None = t
after_slot t (Some h) = served t h

abbrev pub after_serving : Table → ℕ → Table
after_serving t wish = after_slot t (chosen t wish)
