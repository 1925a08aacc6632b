-- The second frame of a slot.
--
--   second_frame u r v    the frame that the reply r to a head with the setup u comes to, where v tells whether a bill in
--                         escrow is returned
--   frame_message f       a second frame as a message
--   frame_content f       the same of a second frame, if there is one
--   sent_setting f        the setting that it is, if it is one
--   room_answer m room    what writing it into a buffer of a length answers: 7 exactly where it does not fit
--   buffer_with m was r   the buffer after a write that answered r: the frame, if any, starts it and the rest stays
--   written m buffer      the buffer with a message's frame at its start, and the frame's length, 0 for none
--   SevenSuffice m was r buffer
--                         a buffer of seven bytes or more takes the frame: the write's answer r, and the buffer after it
--
-- Assumes nothing.
use Rattle.std.specs.Prelude.{◌≡◌, ℕ, ◌+◌, ◌≤◌, cond, List, [], length, Some, None, Ok, Err, Option, Result, nat_lt}
use Rattle.number.specs.Shown.{shown}
use Rattle.frame.specs.Frames.{Content, content, buffer_after}
use Rattle.frame.specs.declared.fault.WriteFault.{WriteFault}
use Rattle.frame.specs.declared.fault.WriteFault.TheVariants.{BufferTooShort}
use Rattle.sheet.specs.Settings.{setting_content}
use Rattle.reaction.specs.Setups.{next_setting}
use Rattle.reaction.specs.declared.fault.HeadFault.{HeadFault}
use Rattle.reaction.specs.declared.reaction.Reply.{Reply}
use Rattle.reaction.specs.declared.reaction.Reply.TheVariants as reply
use Rattle.reaction.specs.declared.second.SecondFrame.{SecondFrame}
use Rattle.reaction.specs.declared.second.SecondFrame.TheVariants as second
use Rattle.reaction.specs.declared.setup.Setup.{Setup}

abbrev pub frame_message : SecondFrame → Content
frame_message (second.Setting s) = setting_content s
frame_message (second.Stack n) = content (shown n) []
frame_message (second.Return n) = content (shown n) []
frame_message (second.Reset n) = content (shown n) []
frame_message (second.Acknowledge n) = content (shown n) []

abbrev pub frame_content : Option SecondFrame → Option Content
frame_content None = None
frame_content (Some f) = Some (frame_message f)

abbrev pub sent_setting : Option SecondFrame → Option Content
sent_setting None = None
sent_setting (Some (second.Setting s)) = Some (setting_content s)
sent_setting (Some (second.Stack n)) = None
sent_setting (Some (second.Return n)) = None
sent_setting (Some (second.Reset n)) = None
sent_setting (Some (second.Acknowledge n)) = None

-- STACK-1 where the bill in escrow is promised, else RETURN
abbrev pub stack_or_return : Result (Unit {0}) HeadFault → Content
stack_or_return (Ok done) = content 0x41 []
stack_or_return (Err cause) = content 0x43 []

abbrev pub second_frame : Setup → Reply → Result (Unit {0}) HeadFault → Option Content
second_frame u reply.Nothing v = None
second_frame u reply.NextSetting v = next_setting u
second_frame u (reply.Stack value) v = Some (stack_or_return v)
second_frame u (reply.Return cause) v = Some (content 0x43 [])
second_frame u reply.Acknowledge v = Some (content 0x50 [])
second_frame u reply.Reset v = Some (content 0x40 [])

-- the setting that it is, if it is one
abbrev pub setting_sent : Setup → Reply → Option Content
setting_sent u reply.Nothing = None
setting_sent u reply.NextSetting = next_setting u
setting_sent u (reply.Stack value) = None
setting_sent u (reply.Return cause) = None
setting_sent u reply.Acknowledge = None
setting_sent u reply.Reset = None

abbrev pub room_answer : Option Content → ℕ → Result ℕ WriteFault
room_answer (Some m) room = cond (nat_lt room (length m.«data» + 5)) (Err BufferTooShort) (Ok (length m.«data» + 5))
room_answer None room = Ok 0

abbrev pub buffer_with : Option Content → List ℕ → Result ℕ WriteFault → List ℕ
buffer_with (Some m) was r = buffer_after m was r
buffer_with None was r = was

abbrev pub written : Option Content → List ℕ → List ℕ × ℕ
written (Some m) was = (buffer_after m was (Ok (length m.«data» + 5)), length m.«data» + 5)
written None was = (was, 0)

abbrev pub SevenSuffice : Option Content → List ℕ → Result ℕ WriteFault → List ℕ → Type 0
SevenSuffice m was r buffer = 7 ≤ length was → (r ≡ Ok (written m was).1) × (buffer ≡ (written m was).0)
