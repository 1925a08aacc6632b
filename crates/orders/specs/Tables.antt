-- Turn tables: which heads are admitted, with what limits and slacks.
--
--   Table              a place for each head, lowest number first: its turn, or nothing where it is not admitted
--   turn_of t h        the turn of head h, if it is admitted
--   is_admitted t h    whether head h is admitted
--   limit_of t h       the limit of head h, 0 if it is not admitted
--   slack_of t h       the slack of head h, 0 if it is not admitted
--   head_count t       how many heads are admitted
--   is_empty t         whether no head is admitted
--   empty_table        the table with a place for each of 14 heads, none of them admitted
--   with_head t h l    t with head h admitted, its slack at its limit l
--   without_head t h   t with head h dismissed
--
-- Assumes nothing.
use Rattle.std.specs.Prelude.{ℕ, Bool, List, replicate, is_some, Some, None, count_by, Option, ◌==◌, slice_index_or, slice_set}
use Rattle.orders.specs.declared.limit.Limit.{Limit}
use Rattle.orders.specs.declared.turn.Turn.{Turn}

abbrev pub Table : Type 0
Table = List (Option Turn)

abbrev pub turn_of : Table → ℕ → Option Turn
turn_of t h = slice_index_or t h None

abbrev pub is_admitted : Table → ℕ → Bool
is_admitted t h = is_some (turn_of t h)

-- what stands at one place of a table
abbrev pub limit_in : Option Turn → ℕ
limit_in None = 0
limit_in (Some turn) = turn.limit.value

abbrev pub slack_in : Option Turn → ℕ
slack_in None = 0
slack_in (Some turn) = turn.slack

abbrev pub limit_of : Table → ℕ → ℕ
limit_of t h = limit_in (turn_of t h)

abbrev pub slack_of : Table → ℕ → ℕ
slack_of t h = slack_in (turn_of t h)

abbrev pub head_count : Table → ℕ
head_count t = count_by is_some t

abbrev pub is_empty : Table → Bool
is_empty t = head_count t == 0

abbrev pub empty_table : Table
empty_table = replicate 14 None

abbrev pub with_head : Table → ℕ → Limit → Table
with_head t h l = slice_set t h (Some (record { limit = l; slack = l.value }))

abbrev pub without_head : Table → ℕ → Table
without_head t h = slice_set t h None
