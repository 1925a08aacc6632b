use Rattle.std.proofs.Common.{cond, is_some, sym, ◌∙◌, rules, tests}
use Rattle.std.proofs.lemmas.Iterator.{YieldsList-from_slice}
use Rattle.std.proofs.lemmas.Iterator.Search.{all_from_yields_List}
use Rattle.std.proofs.lemmas.List.Folds.{sum_by-zero}
use Rattle.turns.proofs.table.TurnTable.is_empty.Goals as goal

pub returns : goal.returns
returns c =
    let t = c.args.self.now.heads in
    all_from_yields_List _ _ _ _ c.all.ensures.ran (YieldsList-from_slice t cc) (λ x b q k. search (rules, tests))
    ∙ sym (sum_by-zero (λ place. cond (is_some place) 1 0) t)
