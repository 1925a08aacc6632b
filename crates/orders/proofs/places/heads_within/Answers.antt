use Rattle.std.proofs.Common.{ℕ, ◌<◌, cond, Option, rules, tests, arith}
use Rattle.std.proofs.lemmas.Iterator.{YieldsList-from_slice, YieldsList-from_map}
use Rattle.std.proofs.lemmas.Iterator.Consumers.{YieldsList-at, sum_by_from_yields_List, fits_by_from_yields_list}
use Rattle.std.proofs.lemmas.List.Sums.{count_by-le-length}
use Rattle.orders.specs.declared.turn.Turn.{Turn}
use Rattle.orders.specs.Counts.{slack_within, heads_within}
use Rattle.orders.proofs.places.heads_within.Goals as goal

-- what a place adds to the count
abbrev counted : ℕ → Option Turn → ℕ
counted k place = cond (slack_within k place) 1 0

pub sum-requires-clause-fits : goal.sum-requires-clause-fits
sum-requires-clause-fits c =
    let t = c.args.places.now in
    let few : heads_within c.args.k t < 256 = omega (arith, count_by-le-length (slack_within c.args.k) t) in
    fits_by_from_yields_list _ _ c.map.result _
    (YieldsList-from_map _ (counted c.args.k) (YieldsList-at c.map.ensures.source (YieldsList-from_slice t cc)) c.map.ensures.closure (λ x r q k. search (rules, tests)))
    few

pub returns : goal.returns
returns c =
    let t = c.args.places.now in
    sum_by_from_yields_List _ _ c.map.result _ c.sum.ensures.ran
    (YieldsList-from_map _ (counted c.args.k) (YieldsList-at c.map.ensures.source (YieldsList-from_slice t cc)) c.map.ensures.closure (λ x r q k. search (rules, tests)))
