use Rattle.std.proofs.Common.{◌≡◌, ℕ, ◌+◌, [], ◌∷◌, length, None, Option, sym, refl, ap, ◌∙◌, add-one, rules, tests}
use Rattle.std.specs.Option.{option_map}
use Rattle.std.specs.List.{fold, range_with_len, zip}
use Rattle.std.proofs.lemmas.Iterator.{YieldsList-from_range, YieldsList-from_slice, YieldsList-from_zip}
use Rattle.std.proofs.lemmas.Iterator.Consumers.{fold_from_yields_List, YieldsList-at}
use Rattle.orders.specs.declared.turn.Turn.{Turn}
use Rattle.orders.specs.Tables.{Table}
use Rattle.orders.specs.Choice.{smaller, smallest_from}
use Rattle.orders.proofs.places.smallest_slack.Goals as goal

abbrev better : Option (ℕ × ℕ) → ℕ × Option Turn → Option (ℕ × ℕ)
better found (h, place) = smaller found h place

fold_is : (t : Table) (i : ℕ) (found : Option (ℕ × ℕ)) → fold better found (zip (range_with_len i (length t)) t) ≡ smallest_from found i t
fold_is [] i found = refl
fold_is (place ∷ t) i found =
    fold_is t (i + 1) (smaller found i place) ∙ ap (λ n. smallest_from (smaller found i place) n t) (add-one i)

pub returns : goal.returns
returns c =
    let t = c.args.places.now in
    let all = YieldsList-from_zip (YieldsList-at c.zip.ensures.first (YieldsList-from_range 0 14 (length t) refl (sym c.told-places))) (YieldsList-from_slice t c.zip.ensures.second.0) in
    let best : c.fold.result ≡ fold better None (zip (range_with_len 0 (length t)) t) =
    fold_from_yields_List _ better None c.fold.result c.fold.ensures.ran all (λ a x b q k. search (rules, tests)) in
    let number : c.map.result ≡ option_map (λ best. best.0) c.fold.result = search rules in
    number ∙ ap (option_map (λ best. best.0)) (best ∙ fold_is t 0 None)
