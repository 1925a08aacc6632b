use Rattle.std.proofs.Common.{◌≡◌, ◌++◌, map, length, take, drop}
use Rattle.orders.specs.Slots.{lowered}
use Rattle.orders.proofs.places.lower_all.Given as goal

abbrev pub invariant-loop-place : goal.invariant-loop-place
invariant-loop-place l =
    (length l.places ≡ 14)
    × (l.places ≡ map lowered (take l.place-index l.fn.places) ++ drop l.place-index l.fn.places)
