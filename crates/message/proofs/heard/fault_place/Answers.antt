use Rattle.std.proofs.Common.{ℕ, eqb, ap, ◌∙◌, unwrap_or, rules}
use Rattle.std.proofs.lemmas.Iterator.{YieldsList-from_slice}
use Rattle.std.proofs.lemmas.Iterator.Search.{position_from_yields_List}
use borrow.Author.Tests.{tests}
use Rattle.message.proofs.heard.fault_place.Goals as goal

pub returns-clause-value : goal.returns-clause-value
returns-clause-value c =
    c.unwrap_or.ensures ∙ ap (λ o. unwrap_or o 0) (position_from_yields_List (λ (b : ℕ). eqb b 0xfc) _ _ _ c.position.ensures.ran (YieldsList-from_slice c.args.received.now cc) (λ x b q k. search (rules, tests)))
