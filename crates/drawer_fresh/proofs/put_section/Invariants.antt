use Rattle.std.proofs.Common.{◌≡◌, ℕ, ◌+◌, ◌*◌, length, take}
use Rattle.drawer_fresh.specs.Fresh.{fresh_section}
use Rattle.drawer_fresh.proofs.put_section.Given as goal

abbrev pub invariant-loop-place : goal.invariant-loop-place
invariant-loop-place l = (k : ℕ) → length l.initial.section ≡ 7 * (k + 1) → take l.place l.section ≡ take l.place (fresh_section k)
