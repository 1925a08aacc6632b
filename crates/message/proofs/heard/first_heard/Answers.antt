use Rattle.std.proofs.Common.{◌≡◌, ℕ, drop, None, Some, Option, MatchOption, ◌<◌, List, length, rules, tests}
use Rattle.std.specs.Option.{option_map}
use Rattle.message.specs.Heard.{IsFirstHeard, frame_here, found_by}
use Rattle.message.specs.declared.heard.Heard.{Heard}
use Rattle.message.proofs.FirstMapped.{first_mapped}
use Rattle.message.proofs.heard.first_heard.Goals as goal

as_first : (bs : List ℕ) (r : Option Heard) → MatchOption r ((k : ℕ) → k < length bs → frame_here k (drop k bs) ≡ None) (λ h. (i : ℕ) × (i < length bs) × (frame_here i (drop i bs) ≡ Some (found_by h)) × ((k : ℕ) → k < i → frame_here k (drop k bs) ≡ None)) → IsFirstHeard bs (option_map found_by r)
as_first bs None h = h
as_first bs (Some heard) h = h

pub returns : goal.returns
returns c =
    let bs = c.args.received.now in
    as_first bs c.find_map.result
    (first_mapped (length bs) _ (λ i (h : Heard). frame_here i (drop i bs) ≡ Some (found_by h)) (λ i. frame_here i (drop i bs) ≡ None) c.find_map.result c.find_map.ensures.runs
    (λ a r q k. search rules) (λ x y k. search (rules, tests)) (λ x k. search (rules, tests)))
