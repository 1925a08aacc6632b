use Rattle.std.proofs.Common.{◌++◌, ◌∷◌, [], sym, ◌∙◌, ap₂, arith}
use Rattle.std.proofs.lemmas.List.{take_all, take_more, take_more_set}
use Rattle.drawer_fresh.specs.Fresh.{fresh_section}
use Rattle.drawer_fresh.proofs.Lists.{length_section}
use Rattle.drawer_fresh.proofs.put_section.Goals as goal

pub loop-place-preserved : goal.loop-place-preserved
loop-place-preserved c = λ k long.
    let i = c.loop-place.place in
    let all = length_section k in
    let byte = c.fresh_byte.ensures k (omega (arith, long)) in
    take_more_set c.loop-place.section i c.fresh_byte.result (omega arith) ∙ ap₂ (λ xs y. xs ++ y ∷ []) (c.loop-place.invariant k long) byte ∙ sym (take_more (fresh_section k) i 0 (omega (arith, long, all)))

pub returns : goal.returns
returns c = λ k long.
    let i = c.loop-place.place in
    let all = length_section k in
    sym (take_all i c.loop-place.section (omega arith)) ∙ c.loop-place.invariant k long ∙ take_all i (fresh_section k) (omega (arith, long, all))
