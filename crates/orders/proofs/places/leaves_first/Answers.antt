use Rattle.std.proofs.Common.{ℕ, ◌+◌, leb, rules, tests, refl}
use Rattle.std.proofs.lemmas.Iterator.{YieldsList-from_range}
use Rattle.std.proofs.lemmas.Iterator.Search.{all_from_yields_List}
use Rattle.orders.specs.Counts.{heads_within, leaves_first}
use Rattle.orders.proofs.places.leaves_first.Goals as goal

pub returns : goal.returns
unfolding leaves_first
returns c =
    let few = λ (k : ℕ). leb (heads_within (k + 1) c.args.others.now) k in
    all_from_yields_List few _ _ _ c.all.ensures.ran (YieldsList-from_range 0 14 14 refl refl) (λ x b q k. search (rules, tests))
