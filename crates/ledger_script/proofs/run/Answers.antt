use Rattle.std.proofs.Common.{◌≡◌, ◌+◌, take, get_or, ◌∷◌, [], ◌++◌, sym, ap, ◌∙◌, subst, add-one, rules}
use Rattle.std.proofs.Math.Seq.{take-suc}
use Rattle.std.proofs.lemmas.Fn.{FoldsTo-push}
use Rattle.ledger_script.specs.Scripts.{Answered, AnsweredAsTold, no_step}
use Rattle.ledger_script.proofs.run.Goals as goal

pub returns-then-ne-clause-answers : goal.returns-then-ne-clause-answers
returns-then-ne-clause-answers g c = record {
  ledger = c.loop-place.ledger;
  before = c.loop-place.invariant.0;
  below = c.loop-place-test.true;
  answer = c.make_call.result;
  otherwise = λ same. search rules;
  answered = record { answer = c.make_call.ensures.answer; after = c.make_call.ensures.after };
}

pub loop-place-preserved : goal.loop-place-preserved
loop-place-preserved g c =
    let steps = c.args.steps.now in
    let i = c.loop-place.place in
    let taken : take (i + 1) steps ≡ take i steps ++ (get_or steps i no_step ∷ []) = ap (λ n. take n steps) (add-one i) ∙ take-suc steps i no_step c.loop-place-test.true in
    let answered : Answered g.L.Ledger.held g.L.Ledger.depth c.loop-place.ledger (get_or steps i no_step) (get_or steps i no_step).2 c.make_call.new.ledger =
    record { answer = search rules; after = c.make_call.ensures.after } in (
      subst (λ xs. AnsweredAsTold g.L.Ledger.held g.L.Ledger.depth c.args.ledger.now xs c.make_call.new.ledger) (sym taken)
          (FoldsTo-push _ _ _ _ _ _ c.loop-place.invariant.0 answered),
      g.L.Ledger.joins _ _ _ c.loop-place.invariant.1 c.make_call.ensures.kept,
    )
