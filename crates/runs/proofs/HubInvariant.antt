-- What every run keeps of the hub, apart from the money. Assumes nothing.
use Rattle.std.proofs.Common.{◌≡◌, ℕ, ◌<◌, true, List, [], ◌∷◌, length, is_some, Some}
use Rattle.orders.specs.Tables.{Table, empty_table, is_admitted}
use Rattle.turns.specs.Runs.{after_call, slot_of}
use Rattle.sheet.specs.Sheets.{draft_of}
use Rattle.reaction.specs.declared.setup.Setup.{Setup}
use Rattle.hub.specs.States.{served_by, setup_of}
use Rattle.runs.specs.Worlds.{Mark, World}
use Rattle.runs.specs.Law.{table_after}

-- each mark tells what its call does to the table before it
abbrev pub Faithful : Table → List Mark → Type 0
Faithful t [] = Unit {0}
Faithful t (m ∷ ms) = (m.table ≡ after_call t m.call) × (m.served ≡ slot_of t m.call) × Faithful m.table ms

pub record HubKept (w : World) : Type 0 where
  pub places : length w.hub.setups ≡ 14
  pub admitted : (h : ℕ) → is_admitted w.hub.table h ≡ true → is_some (setup_of w.hub h) ≡ true
  pub served : (h : ℕ) → served_by w.hub.slot ≡ Some h → (h < 14) × (is_some (setup_of w.hub h) ≡ true)
  pub sheets : (h : ℕ) (u : Setup) → setup_of w.hub h ≡ Some u → w.memory.sheets h ≡ Some (draft_of u.sheet)
  pub table : w.hub.table ≡ table_after empty_table w.memory.marks
  pub faithful : Faithful empty_table w.memory.marks
