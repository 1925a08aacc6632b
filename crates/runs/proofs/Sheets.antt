-- An accepted admission keeps what is so of its head's money: before its first sheet a head has taken no bill. Assumes nothing.
use Rattle.std.proofs.Common.{◌≡◌, ℕ, List, [], Some, None, Option, arith}
use Rattle.sheet.specs.declared.sheet.Draft.{Draft}
use Rattle.ledger.specs.Held.{Held}
use Rattle.runs.specs.Worlds.{Past, HeardSlot}
use Rattle.runs.specs.Steps.{SameSheet}
use Rattle.runs.proofs.Classes.{Class}
use Rattle.runs.proofs.Kept.{Agrees, Kept}

agrees_then : (d : Draft) (C : Class) (b : ℕ) (v : Held) (p : Past) → p.taken ≡ [] → Agrees C None b v p → Agrees C (Some d) b v p
agrees_then d C b v p e h = grind arith

pub sheet_keeps : (h : ℕ) (heard : List HeardSlot) (before : Option Draft) (d : Draft) (C : Class) (b : ℕ) (v : Held) (p : Past) → SameSheet before d → Kept h heard before C b v p → Kept h heard (Some d) C b v p
sheet_keeps h heard before d C b v p same k = grind (arith, agrees_then)
