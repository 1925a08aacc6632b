use Rattle.std.proofs.Common.{◌≡◌, ◌*◌, length, take}
use Rattle.hex_text.specs.Spelled.{blanked}
use Rattle.hex_text.proofs.lay.Given as goal

abbrev pub invariant-loop-byte : goal.invariant-loop-byte
invariant-loop-byte l = record { end : l.end ≡ 3 * l.byte-index; size : length l.text ≡ 96; laid : take (3 * l.byte-index) l.text ≡ blanked (take l.byte-index l.bytes) }
