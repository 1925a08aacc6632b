-- Reports, and a power cut inside the first.
--
--   heard_in bs               the message heard in the received bytes bs, if any; said_in r the same of what hearing answered
--   status_in bs              the status heard: a message that does not read as one counts as nothing heard; status_of m the
--                             same of a message; status_read r the same of what the code read
--   check of s p bs           whether the report with the pass p and the received bytes bs is accepted, and for which head:
--                             else 18 or 19; `of` is first_of for a first report, also one with a power cut inside, and second_of for a
--                             second
--   head_accepted r           what accepting a report answers, without the pass that comes with the head
--   first_check s p bs room   the same of a first report with a buffer of this length: 18, 19 or 7
--   first_reaction s h bs     the reaction to the received bytes for head h; reaction_in u m the same of its setup u and the
--                             status m
--   first_calls s t h bs      the ledger calls of that report, in order, where the ledger holds t
--   calls_awaited s t bs      the same of the report that the open slot awaits: none if it awaits no first report
--   after_first s c bs        the hub after a first report that was checked with the answer c; after_reply s h r sent the same
--                             of the reaction r for head h, where `sent` tells whether the second frame is a setting
--   ledger_after_first s t c bs   what the ledger holds after it
--   first_sent s t d h bs     its second frame, if any; d is the depth that comes with 24; sent_by u r v the same of the setup
--                             u, the reaction r and the verdict v, and sends_setting u r whether it is a setting
--   first_told s t d p c bs   what it tells; told_first r the same of what the code answered
--   taken_as m next           whether what the head said was taken: the message m must be a status, and then `next` counts;
--                             taken_by r the same of what the code read
--   by_head v, length_of m    the verdict v, and the length of the frame m, as a report tells them
--   buffer_after_first s t d c bs was   the buffer after it
--   after_second s c bs       the hub after a second report that was checked with the answer c; after_hearing s h m the same of the message m heard from head h
--   sent_in slot              whether a setting was just sent
--   second_told c bs          what it tells; told_second r the same of what the code answered
--   after_cut s c             the hub after a power cut inside a first report that was checked with the answer c: restarted
--   ledger_after_cut s t c bs k   what the ledger holds after it: the first k calls are made
--   cut_told s t c bs k       what it tells: how many calls were made
--
-- Refused, a report leaves hub, ledger and buffer as they are. Assumes nothing.
use Rattle.std.specs.Prelude.{ℕ, ◌+◌, min, Bool, false, cond, List, [], length, take, is_some, Some, None, Ok, Err, Option, Result, nat_lt, slice_set}
use Rattle.std.specs.Option.{option_map}
use Rattle.frame.specs.Frames.{Content}
use Rattle.message.specs.Heard.{Found, hear_answer, told_heard}
use Rattle.message.specs.declared.heard.Heard.{Heard}
use Rattle.message.specs.declared.heard.NothingHeard.{NothingHeard}
use Rattle.status.specs.Statuses.{status_answer}
use Rattle.status.specs.declared.Status.{Status}
use Rattle.status.specs.declared.StatusFault.{StatusFault}
use Rattle.ledger.specs.Held.{Heads}
use Rattle.ledger.specs.Answers.{its_number}
use Rattle.ledger_calls.specs.declared.Call.{Call}
use Rattle.reaction.specs.Calls.{calls_of, called_all, promise_made, verdict}
use Rattle.reaction.specs.Frames.{second_frame, setting_sent, written}
use Rattle.reaction.specs.Reactions.{no_reaction, reaction_to, setup_after, status_content}
use Rattle.reaction.specs.Setups.{setting_if, setup_hearing}
use Rattle.reaction.specs.declared.fault.HeadFault.{HeadFault}
use Rattle.reaction.specs.declared.reaction.Reaction.{Reaction}
use Rattle.reaction.specs.declared.setup.Setup.{Setup}
use Rattle.hub.specs.Passes.{FirstPass, SecondPass, pass_of}
use Rattle.hub.specs.Refusals.{CutRefusal, SecondRefusal, first_refusal}
use Rattle.hub.specs.States.{HubState, setup_of, first_of, awaited_by, restarted}
use Rattle.hub.specs.declared.pass.Pass.{Pass}
use Rattle.hub.specs.declared.refusal.FirstRefusal.{FirstRefusal}
use Rattle.hub.specs.declared.refusal.FirstRefusal.TheVariants as first
use Rattle.hub.specs.declared.refusal.ReportRefusal.{ReportRefusal}
use Rattle.hub.specs.declared.refusal.ReportRefusal.TheVariants as report
use Rattle.hub.specs.declared.report.FirstReport.{FirstReport}
use Rattle.hub.specs.declared.report.ReportFault.{ReportFault}
use Rattle.hub.specs.declared.report.ReportFault.TheVariants as reported
use Rattle.hub.specs.declared.state.Slot.{Slot}
use Rattle.hub.specs.declared.state.Slot.TheVariants.{Closed, First, Second}

-- WHAT IS HEARD

abbrev pub said_in : Result Found NothingHeard → Option Content
said_in (Ok f) = Some f.says
said_in (Err n) = None

abbrev pub heard_in : List ℕ → Option Content
heard_in bs = said_in (hear_answer bs)

abbrev pub read_as : Result Content StatusFault → Option Content
read_as (Ok m) = Some m
read_as (Err e) = None

abbrev pub status_of : Option Content → Option Content
status_of None = None
status_of (Some m) = read_as (status_answer m.command m.«data»)

abbrev pub status_in : List ℕ → Option Content
status_in bs = status_of (heard_in bs)

-- WHICH REPORTS ARE ACCEPTED

abbrev pub handed : {R : Type 0} → Option ℕ → Pass R → List ℕ → Result ℕ (ReportRefusal R)
handed None p bs = Err (report.NoSuchSlot its_number)
handed (Some h) p bs = cond (nat_lt 512 (length bs)) (Err (report.TooMuchReceived its_number p)) (Ok h)

abbrev pub check : {R : Type 0} → (Slot → Option ℕ) → HubState → Pass R → List ℕ → Result ℕ (ReportRefusal R)
check of s p bs = handed (awaited_by of s p.count) p bs

-- the head of a report that was accepted, without its pass
abbrev pub head_accepted : {P E : Type 0} → Result (ℕ × P) E → Result ℕ E
head_accepted (Ok accepted) = Ok accepted.0
head_accepted (Err refusal) = Err refusal

-- THE FIRST REPORT

abbrev pub with_room : ℕ → FirstPass → Result ℕ CutRefusal → Result ℕ FirstRefusal
with_room room p (Ok h) = cond (nat_lt room 7) (Err (first.BufferTooShort its_number p)) (Ok h)
with_room room p (Err e) = Err (first_refusal e)

abbrev pub first_check : HubState → FirstPass → List ℕ → ℕ → Result ℕ FirstRefusal
first_check s p bs room = with_room room p (check first_of s p bs)

-- nothing is done for a head without a setup, which no open slot is for
abbrev pub reaction_in : Option Setup → Option Content → Reaction
reaction_in None m = no_reaction
reaction_in (Some u) None = no_reaction
reaction_in (Some u) (Some m) = reaction_to u m

abbrev pub first_reaction : HubState → ℕ → List ℕ → Reaction
first_reaction s h bs = reaction_in (setup_of s h) (status_in bs)

abbrev pub first_calls : HubState → Heads → ℕ → List ℕ → List Call
first_calls s t h bs = calls_of (first_reaction s h bs) (t h).promised

abbrev pub calls_if : Option ℕ → (ℕ → List Call) → List Call
calls_if None calls = []
calls_if (Some h) calls = calls h

abbrev pub calls_awaited : HubState → Heads → List ℕ → List Call
calls_awaited s t bs = calls_if (first_of s.slot) (λ h. first_calls s t h bs)

abbrev pub first_verdict : HubState → Heads → ℕ → ℕ → List ℕ → Result (Unit {0}) HeadFault
first_verdict s t d h bs = verdict (first_reaction s h bs).reply (promise_made t d h (first_reaction s h bs))

abbrev pub sent_by : Option Setup → Reaction → Result (Unit {0}) HeadFault → Option Content
sent_by None r v = None
sent_by (Some u) r v = second_frame u r.reply v

abbrev pub first_sent : HubState → Heads → ℕ → ℕ → List ℕ → Option Content
first_sent s t d h bs = sent_by (setup_of s h) (first_reaction s h bs) (first_verdict s t d h bs)

abbrev pub sends_setting : Option Setup → Reaction → Bool
sends_setting None r = false
sends_setting (Some u) r = is_some (setting_sent u r.reply)

-- the hub after the reaction r to a status of head h, where `sent` tells whether the second frame is a setting
abbrev pub after_reply : HubState → ℕ → Reaction → Bool → HubState
after_reply s h r sent = record {
  table = s.table;
  setups = slice_set s.setups h (option_map (λ u. setup_after u r) (setup_of s h));
  slot = Second h sent;
  count = s.count;
}

abbrev pub after_first : HubState → Result ℕ FirstRefusal → List ℕ → HubState
after_first s (Ok h) bs = after_reply s h (first_reaction s h bs) (sends_setting (setup_of s h) (first_reaction s h bs))
after_first s (Err e) bs = s

abbrev pub ledger_after_first : HubState → Heads → Result ℕ FirstRefusal → List ℕ → Heads
ledger_after_first s t (Ok h) bs = called_all t h (first_calls s t h bs)
ledger_after_first s t (Err e) bs = t

abbrev pub buffer_after_first : HubState → Heads → (ℕ → ℕ) → Result ℕ FirstRefusal → List ℕ → List ℕ → List ℕ
buffer_after_first s t d (Ok h) bs was = (written (first_sent s t (d h) h bs) was).0
buffer_after_first s t d (Err e) bs was = was

-- the length of a message's frame, 0 for none
abbrev pub length_of : Option Content → ℕ
length_of None = 0
length_of (Some m) = length m.«data» + 5

-- what a first report tells, with the data that it borrows as a list
pub record FirstTold : Type 0 where
  pub heard : Result Found NothingHeard
  pub taken : Result (Unit {0}) ReportFault
  pub long : ℕ
  pub pass : SecondPass

abbrev pub by_head : Result (Unit {0}) HeadFault → Result (Unit {0}) ReportFault
by_head (Ok done) = Ok tt
by_head (Err e) = Err (reported.Head e)

abbrev pub by_status : Result Content StatusFault → Result (Unit {0}) ReportFault → Result (Unit {0}) ReportFault
by_status (Ok m) next = next
by_status (Err e) next = Err (reported.Status e)

abbrev pub taken_as : Option Content → Result (Unit {0}) ReportFault → Result (Unit {0}) ReportFault
taken_as None next = next
taken_as (Some m) next = by_status (status_answer m.command m.«data») next

abbrev pub first_told : HubState → Heads → (ℕ → ℕ) → FirstPass → Result ℕ FirstRefusal → List ℕ → Result FirstTold FirstRefusal
first_told s t d p (Ok h) bs = Ok (record {
  heard = hear_answer bs;
  taken = taken_as (heard_in bs) (by_head (first_verdict s t (d h) h bs));
  long = length_of (first_sent s t (d h) h bs);
  pass = pass_of p.count;
})
first_told s t d p (Err e) bs = Err e

abbrev pub told_first : Result FirstReport FirstRefusal → Result FirstTold FirstRefusal
told_first (Ok r) = Ok (record { heard = told_heard r.heard; taken = r.taken; long = r.length; pass = r.pass })
told_first (Err e) = Err e

-- the same of a status as the code reads it
abbrev pub status_read : Result (Option Status) StatusFault → Option Content
status_read (Ok status) = option_map status_content status
status_read (Err e) = None

abbrev pub taken_by : Result (Option Status) StatusFault → Result (Unit {0}) ReportFault → Result (Unit {0}) ReportFault
taken_by (Ok status) next = next
taken_by (Err e) next = Err (reported.Status e)

-- THE SECOND REPORT

-- whether a setting was just sent
abbrev pub sent_in : Slot → Bool
sent_in Closed = false
sent_in (First h) = false
sent_in (Second h sent) = sent

-- the hub after it heard the message m, if any, from head h
abbrev pub after_hearing : HubState → ℕ → Option Content → HubState
after_hearing s h m = record {
  table = s.table;
  setups = slice_set s.setups h (option_map (λ u. setup_hearing (setting_if (sent_in s.slot) u) m u) (setup_of s h));
  slot = Closed;
  count = s.count;
}

abbrev pub after_second : HubState → Result ℕ SecondRefusal → List ℕ → HubState
after_second s (Ok h) bs = after_hearing s h (heard_in bs)
after_second s (Err e) bs = s

abbrev pub second_told : Result ℕ SecondRefusal → List ℕ → Result (Result Found NothingHeard) SecondRefusal
second_told (Ok h) bs = Ok (hear_answer bs)
second_told (Err e) bs = Err e

abbrev pub told_second : Result (Result Heard NothingHeard) SecondRefusal → Result (Result Found NothingHeard) SecondRefusal
told_second (Ok heard) = Ok (told_heard heard)
told_second (Err e) = Err e

-- A POWER CUT INSIDE THE FIRST REPORT

abbrev pub after_cut : HubState → Result ℕ CutRefusal → HubState
after_cut s (Ok h) = restarted s
after_cut s (Err e) = s

abbrev pub ledger_after_cut : HubState → Heads → Result ℕ CutRefusal → List ℕ → ℕ → Heads
ledger_after_cut s t (Ok h) bs k = called_all t h (take k (first_calls s t h bs))
ledger_after_cut s t (Err e) bs k = t

abbrev pub cut_told : HubState → Heads → Result ℕ CutRefusal → List ℕ → ℕ → Result ℕ CutRefusal
cut_told s t (Ok h) bs k = Ok (min k (length (first_calls s t h bs)))
cut_told s t (Err e) bs k = Err e
