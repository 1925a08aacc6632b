use Rattle.std.proofs.Common.{◌≡◌, ◌*◌, take}
use Rattle.drawer_fresh.specs.Fresh.{repeated, fresh_section}
use Rattle.drawer_fresh.proofs.write_fresh.Given as goal

abbrev pub invariant-loop-other : goal.invariant-loop-other
invariant-loop-other l = take (l.section * l.other) l.others ≡ repeated l.other (fresh_section l.bills)
