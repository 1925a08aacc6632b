use Rattle.std.proofs.Common.{◌≡◌, ◌<◌, length, set, ap, ◌∙◌, rules, tests, arith}
use Rattle.std.proofs.lemmas.List.{length-set}
use Rattle.std.proofs.lemmas.List.Edits.{map_over_more}
use Rattle.orders.specs.Slots.{lowered}
use Rattle.orders.proofs.places.lower_all.Goals as goal

pub loop-place-preserved : goal.loop-place-preserved
loop-place-preserved c =
    let t = c.args.places.now in
    let next = c.loop-place.places in
    let i = c.loop-place.place-index in
    let here : i < length t = omega arith in
    let lower : c.map.result ≡ lowered c.place-item.result = search (rules, tests) in (
      omega (arith, length-set next i c.map.result, c.loop-place.invariant.0),
      ap (set next i) lower ∙ map_over_more lowered t next i c.place-item.result here c.loop-place.invariant.1 c.place-item.is,
    )
