-- The ledger calls of a first report, in order.
--
--   calls_of r o           the calls of the reaction r, where the amount o, if any, is promised: the end of that promise, then
--                          the promise of a bill in escrow
--   listed cs              the same of the calls that the code hands on
--   parts_of r o           the calls of the reaction r as the code hands them on
--   called_all t h cs      what a ledger that holds t holds after these calls for head h, made in order
--   promise_made t d h r   what the promise among the calls of r was answered: done where there is none
--   PromiseAnswered t d h cs r
--                          the promise among the calls cs, made in order, was answered r
--   verdict r made         why the bill in escrow is returned, if it is
--
-- Assumes nothing.
use Rattle.std.specs.Prelude.{◌≡◌, ℕ, List, [], ◌∷◌, ◌++◌, Some, None, Ok, Err, Option, Result}
use Rattle.ledger.specs.Answers.{Answer, promise_answer}
use Rattle.ledger.specs.Held.{Heads}
use Rattle.ledger_calls.specs.Calls.{call_after}
use Rattle.ledger_calls.specs.declared.Call.{Call}
use Rattle.ledger_calls.specs.declared.Call.TheVariants.{Promise}
use Rattle.reaction.specs.declared.calls.Calls.{Calls}
use Rattle.reaction.specs.declared.fault.HeadFault.{HeadFault}
use Rattle.reaction.specs.declared.fault.HeadFault.TheVariants as fault
use Rattle.reaction.specs.declared.reaction.Reaction.{Reaction}
use Rattle.reaction.specs.declared.reaction.Reply.{Reply}
use Rattle.reaction.specs.declared.reaction.Reply.TheVariants as reply

-- the end of a promise, only where an amount is promised
abbrev pub ending_of : Option Call → Option ℕ → Option Call
ending_of ending None = None
ending_of ending (Some amount) = ending

abbrev pub promise_of : Reply → Option ℕ
promise_of reply.Nothing = None
promise_of reply.NextSetting = None
promise_of (reply.Stack value) = Some value
promise_of (reply.Return cause) = None
promise_of reply.Acknowledge = None
promise_of reply.Reset = None

abbrev pub if_called : Option Call → List Call
if_called None = []
if_called (Some call) = call ∷ []

abbrev pub if_promised : Option ℕ → List Call
if_promised None = []
if_promised (Some value) = Promise value ∷ []

abbrev pub calls_of : Reaction → Option ℕ → List Call
calls_of r o = if_called (ending_of r.ending o) ++ if_promised (promise_of r.reply)

abbrev pub listed : Calls → List Call
listed cs = if_called cs.ending ++ if_promised cs.promise

abbrev pub parts_of : Reaction → Option ℕ → Calls
parts_of r o = record { ending = ending_of r.ending o; promise = promise_of r.reply }

abbrev pub called_all : Heads → ℕ → List Call → Heads
called_all t h [] = t
called_all t h (c ∷ cs) = called_all (call_after t h c) h cs

-- THE PROMISE AND ITS ANSWER

-- where d is the depth that comes with 24: a promise that was just given back leaves a free place, so that 24 comes only
-- where no call was made before
abbrev pub answered_for : Heads → ℕ → ℕ → Option ℕ → Answer
answered_for t d h None = Ok tt
answered_for t d h (Some value) = promise_answer t d h value

abbrev pub promise_made : Heads → ℕ → ℕ → Reaction → Answer
promise_made t d h r = answered_for (called_all t h (if_called (ending_of r.ending (t h).promised))) d h (promise_of r.reply)

-- of any calls: the depth that comes with 24 is d where no call came before
abbrev pub PromiseAnswered : Heads → ℕ → ℕ → Calls → Answer → Type 0
PromiseAnswered t d h cs r =
    (e : ℕ) × (cs.ending ≡ None → e ≡ d) × (r ≡ answered_for (called_all t h (if_called cs.ending)) e h cs.promise)

abbrev pub from_ledger : Answer → Result (Unit {0}) HeadFault
from_ledger (Ok done) = Ok tt
from_ledger (Err e) = Err (fault.Ledger e)

abbrev pub verdict : Reply → Answer → Result (Unit {0}) HeadFault
verdict reply.Nothing made = Ok tt
verdict reply.NextSetting made = Ok tt
verdict (reply.Stack value) made = from_ledger made
verdict (reply.Return cause) made = Err cause
verdict reply.Acknowledge made = Ok tt
verdict reply.Reset made = Ok tt
