-- What running a script on a ledger means, where a ledger is seen by what it holds and by its depth with 24.
--
--   Answered held depth s step r u
--                        the call of the step, made of the ledger s, is answered r and leaves the ledger u
--   AnsweredAsTold held depth s steps u
--                        the calls of the steps lead in order from s to u, each answered as its step says
--   FirstAnsweredOtherwise held depth s steps i u
--                        the steps before i are answered as they say, and the one at i otherwise, which leaves u
--
-- Assumes nothing.
use Rattle.std.specs.Prelude.{◌≡◌, ℕ, ◌<◌, List, length, take, slice_index_or, Ok, ◌≢◌}
use Rattle.std.specs.List.{FoldsTo}
use Rattle.ledger.specs.Held.{Heads}
use Rattle.ledger.specs.Answers.{Answer}
use Rattle.ledger_calls.specs.Calls.{call_answer, call_after}
use Rattle.ledger_calls.specs.declared.Call.TheVariants.{Promise}
use Rattle.ledger_script.specs.declared.Step.{Step}

-- a step for a place where there is none
abbrev pub no_step : Step
no_step = record { 0 = 0; 1 = Promise 0; 2 = Ok tt }

module _ {L : Type 0} (held : L → Heads) (depth : L → ℕ → ℕ) where
  pub record Answered (s : L) (step : Step) (r : Answer) (u : L) : Type 0 where
    pub answer : r ≡ call_answer (held s) (depth s step.0) step.0 step.1
    pub after : held u ≡ call_after (held s) step.0 step.1

  abbrev pub AnsweredAsTold : L → List Step → L → Type 0
  AnsweredAsTold s steps u = FoldsTo (λ t step v. Answered t step step.2 v) s steps u

  pub record FirstAnsweredOtherwise (s : L) (steps : List Step) (i : ℕ) (u : L) : Type 0 where
    pub ledger : L
    pub before : AnsweredAsTold s (take i steps) ledger
    pub below : i < length steps
    pub answer : Answer
    pub otherwise : answer ≢ (slice_index_or steps i no_step).2
    pub answered : Answered ledger (slice_index_or steps i no_step) answer u
