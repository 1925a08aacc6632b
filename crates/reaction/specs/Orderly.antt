-- Which end of a promise goes with which reply.
--
--   is_orderly ending r   a bill is promised only once a promise that stands was given back, so that its place is free; and
--                         no promise ends with another
--
-- Assumes nothing.
use Rattle.std.specs.Prelude.{Bool, true, false, Some, None, Option}
use Rattle.ledger_calls.specs.declared.Call.{Call}
use Rattle.ledger_calls.specs.declared.Call.TheVariants.{Promise, Settle, GiveBack}
use Rattle.reaction.specs.declared.reaction.Reply.{Reply}
use Rattle.reaction.specs.declared.reaction.Reply.TheVariants as reply

abbrev pub promises_nothing : Reply → Bool
promises_nothing reply.Nothing = true
promises_nothing reply.NextSetting = true
promises_nothing (reply.Stack value) = false
promises_nothing (reply.Return cause) = true
promises_nothing reply.Acknowledge = true
promises_nothing reply.Reset = true

abbrev pub is_orderly : Option Call → Reply → Bool
is_orderly None r = promises_nothing r
is_orderly (Some (Promise amount)) r = false
is_orderly (Some Settle) r = promises_nothing r
is_orderly (Some GiveBack) r = true
