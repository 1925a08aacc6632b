use Rattle.std.proofs.Common.{◌≡◌, take}
use Rattle.frame_check.specs.Register.{check_of}
use Rattle.frame_check.proofs.check.Given as goal

abbrev pub invariant-loop-byte : goal.invariant-loop-byte
invariant-loop-byte l = l.register ≡ check_of (take l.byte-index l.bytes)
