use Rattle.std.proofs.Common.{◌≡◌, ◌∷◌, ◌++◌, take, vec_items}
use Rattle.hex_text.specs.Spelled.{Bytes, blanked}
use Rattle.hex_text.proofs.Groups.{joined, over}
use Rattle.hex_text.proofs.parse.Given as goal

abbrev pub invariant-loop-group : goal.invariant-loop-group
invariant-loop-group l = record { fit : Bytes (vec_items l.bytes); read : 32 ∷ over l.line ++ joined (take l.group-index l.groups) ≡ blanked (vec_items l.bytes) }
