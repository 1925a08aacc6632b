use Rattle.std.proofs.Common.{ℕ, ◌<◌, cond, is_some, Option, rules, tests, arith}
use Rattle.std.proofs.lemmas.Iterator.{YieldsList-from_slice, YieldsList-from_map}
use Rattle.std.proofs.lemmas.Iterator.Consumers.{YieldsList-at, fits_by_from_yields_list}
use Rattle.std.proofs.lemmas.List.Sums.{count_by-le-length}
use Rattle.orders.specs.declared.turn.Turn.{Turn}
use Rattle.orders.specs.Tables.{head_count}
use Rattle.orders.proofs.places.fits_limits.Goals as goal

-- what a place adds to the count
abbrev counted : Option Turn → ℕ
counted place = cond (is_some place) 1 0

pub sum-count-requires-clause-fits : goal.sum-count-requires-clause-fits
sum-count-requires-clause-fits c =
    let t = c.args.places.now in
    let few : head_count t < 256 = omega (arith, count_by-le-length is_some t) in
    fits_by_from_yields_list _ _ c.map.result _
    (YieldsList-from_map _ counted (YieldsList-at c.map.ensures.source (YieldsList-from_slice t cc)) c.map.ensures.closure (λ x r q k. search (rules, tests)))
    few
