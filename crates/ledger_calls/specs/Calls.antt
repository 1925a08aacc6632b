-- The calls that change a ledger, as values.
--
--   call_answer t d h c   the answer to the call c for head h of a ledger that holds t and gives the depth d with 24
--   call_after t h c      what is held after it
--   after_all t cs        what is held after the calls cs, made in order
--
-- Assumes nothing.
use Rattle.std.specs.Prelude.{ℕ, List, [], ◌∷◌}
use Rattle.ledger.specs.Held.{Heads}
use Rattle.ledger.specs.Answers.{Answer, promise_answer, end_answer, promised_after, settled_after, given_back_after}
use Rattle.ledger_calls.specs.declared.Call.{Call}
use Rattle.ledger_calls.specs.declared.Call.TheVariants.{Promise, Settle, GiveBack}
use Rattle.ledger_calls.specs.declared.HeadCall.{HeadCall}

abbrev pub call_answer : Heads → ℕ → ℕ → Call → Answer
call_answer t d h (Promise a) = promise_answer t d h a
call_answer t d h Settle = end_answer t h
call_answer t d h GiveBack = end_answer t h

abbrev pub call_after : Heads → ℕ → Call → Heads
call_after t h (Promise a) = promised_after t h a
call_after t h Settle = settled_after t h
call_after t h GiveBack = given_back_after t h

unfoldable pub after_all : Heads → List HeadCall → Heads
after_all t [] = t
after_all t (c ∷ cs) = after_all (call_after t c.head c.call) cs
