use Rattle.std.proofs.Common.{rules, ◌≡◌, eqb, tests, ap, ◌∙◌, take, drop}
use Rattle.std.specs.List.{position}
use Rattle.std.proofs.lemmas.Iterator.{YieldsList-from_slice}
use Rattle.std.proofs.lemmas.Iterator.Search.{position_from_yields_List}
use Rattle.numbers.proofs.Cuts.{front_at, rest_at}
use Rattle.numbers.proofs.split_before.Goals as goal

pub returns : goal.returns
returns c =
    let m = c.args.mark in
    let text = c.args.text.now in
    let found : c.position.result ≡ position (λ b. eqb b m) text =
    position_from_yields_List (λ b. eqb b m) _ _ _ c.position.ensures.ran (YieldsList-from_slice text (cc)) (λ x b q k. search (rules, tests))
    in
    record {
      front = c.split_at.ensures.front ∙ ap (λ n. take n text) c.unwrap_or-end.ensures ∙ front_at m text _ found;
      back = c.split_at.ensures.back ∙ ap (λ n. drop n text) c.unwrap_or-end.ensures ∙ rest_at m text _ found;
    }
