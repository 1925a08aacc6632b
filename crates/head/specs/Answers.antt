-- What a head answers to received bytes.
--
--   head_after h m, answer_to h m    the head after a message m, and its answer to it, if any
--   receive_answer h bs buffer       what receiving the bytes bs answers: 7, or the length of the answer, 0 for none
--   head_receiving h bs r            the head after it, where it answered r
--   buffer_receiving h bs buffer r   the buffer after it: the answer's frame starts it and the rest stays
--   reply_content r m                the message that a reply to m is
--   written a buffer                 the buffer with an answer at its start, and the answer's length
--   EchoShort r m                    if the reply r to m is its echo, then m has at most two data bytes
--
-- Assumes nothing.
use Rattle.std.specs.Prelude.{ℕ, ◌+◌, ◌≤◌, cond, List, [], length, Some, None, Ok, Err, Option, Result, nat_lt}
use Rattle.std.specs.Option.{option_map}
use Rattle.number.specs.Shown.{shown}
use Rattle.frame.specs.Frames.{Content, content, buffer_after}
use Rattle.message.specs.Heard.{Found, hear_answer}
use Rattle.message.specs.declared.heard.NothingHeard.{NothingHeard}
use Rattle.head.specs.declared.command.Reply.{Reply}
use Rattle.head.specs.declared.command.Reply.TheVariants.{Status, Acknowledgement, InvalidCommand, Echo}
use Rattle.head.specs.declared.fault.ReceiveFault.{ReceiveFault}
use Rattle.head.specs.declared.fault.ReceiveFault.TheVariants.{BufferTooShort}
use Rattle.head.specs.declared.head.Head.{Head}
use Rattle.head.specs.Phases.{status}
use Rattle.head.specs.Commands.{command_of, obeyed}

abbrev pub reply_content : Reply → Content → Content
reply_content (Status p) m = status p
reply_content (Acknowledgement n) m = content (shown n) []
reply_content (InvalidCommand n) m = content (shown n) []
reply_content Echo m = m

abbrev pub EchoShort : Reply → Content → Type 0
EchoShort (Status p) m = Unit {0}
EchoShort (Acknowledgement n) m = Unit {0}
EchoShort (InvalidCommand n) m = Unit {0}
EchoShort Echo m = length m.«data» ≤ 2

abbrev pub written : Option Content → List ℕ → List ℕ × ℕ
written (Some m) was = (buffer_after m was (Ok (length m.«data» + 5)), length m.«data» + 5)
written None was = (was, 0)

abbrev pub head_after : Head → Content → Head
head_after h m = (obeyed h (command_of m)).0

abbrev pub answer_to : Head → Content → Option Content
answer_to h m = option_map (λ r. reply_content r m) (obeyed h (command_of m)).1

-- With the message heard, or nothing.
abbrev pub head_hearing : Head → Result Found NothingHeard → Head
head_hearing h (Ok f) = head_after h f.says
head_hearing h (Err e) = h

abbrev pub answer_hearing : Head → Result Found NothingHeard → Option Content
answer_hearing h (Ok f) = answer_to h f.says
answer_hearing h (Err e) = None

abbrev pub receive_answer : Head → List ℕ → List ℕ → Result ℕ ReceiveFault
receive_answer h bytes buffer = cond (nat_lt (length buffer) 7) (Err BufferTooShort) (Ok (written (answer_hearing h (hear_answer bytes)) buffer).1)

abbrev pub head_receiving : Head → List ℕ → Result ℕ ReceiveFault → Head
head_receiving h bytes (Ok n) = head_hearing h (hear_answer bytes)
head_receiving h bytes (Err e) = h

abbrev pub buffer_receiving : Head → List ℕ → List ℕ → Result ℕ ReceiveFault → List ℕ
buffer_receiving h bytes buffer (Ok n) = (written (answer_hearing h (hear_answer bytes)) buffer).0
buffer_receiving h bytes buffer (Err e) = buffer
