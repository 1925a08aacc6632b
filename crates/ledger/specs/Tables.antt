-- What a table holds.
--
--   table_held s   what is held for each head: its record, and nothing for a number that is no head's
--   fresh starts   what a table made of fourteen starts holds
--   table_beyond, table_within, table_amounts
--                  the facts that every ledger shows: nothing beyond the heads, the bound, the amounts
--
-- Assumes nothing.
use Rattle.std.specs.Prelude.{◌≡◌, ℕ, ◌≤◌, cond, List, None, nat_le, slice_index, slice_index_or}
use Rattle.std.proofs.Common.{ap, lit≤, lit<}
use Rattle.std.proofs.lemmas.Bool.{le-leb}
use Rattle.ledger.specs.Held.{heads, Held, Heads, nothing, Within, Amount}
use Rattle.ledger.specs.Starts.{accepted}
use Rattle.ledger.specs.declared.head_record.HeadRecord.{HeadRecord}
use Rattle.ledger.specs.declared.table.Table.{Table}

-- a record that holds nothing
abbrev pub blank : HeadRecord
blank = record { promised = None; credited = 0; places = 0; within = lit≤ tt; amount = (lit< tt, lit≤ tt) }

abbrev pub record_of : Table → ℕ → HeadRecord
record_of s h = cond (nat_le heads h) blank (slice_index_or s.records h blank)

abbrev pub held_in : HeadRecord → Held
held_in e = record { promised = e.promised; credited = e.credited; places = e.places }

abbrev pub table_held : Table → Heads
table_held s h = held_in (record_of s h)

-- a head that starts with so many places
abbrev pub starting : ℕ → Held
starting places = record { promised = None; credited = 0; places = places }

abbrev pub fresh : List ℕ → Heads
fresh starts h = cond (nat_le heads h) nothing (starting (slice_index (accepted starts) h))

pub table_beyond : (s : Table) (h : ℕ) → heads ≤ h → table_held s h ≡ nothing
table_beyond s h le = ap (λ b. held_in (cond b blank (slice_index_or s.records h blank))) (le-leb heads h le)

pub table_within : (s : Table) (h : ℕ) → Within (table_held s h)
table_within s h = (record_of s h).within

pub table_amounts : (s : Table) (h : ℕ) → Amount (table_held s h).promised
table_amounts s h = (record_of s h).amount
