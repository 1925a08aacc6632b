-- The kind of a message, by its command byte.
--
--   kind_of command      which kind a command byte has
--   message_kind m       the kind that a message is given as
--   message_content m    its command byte and its data, borrowed from the received bytes
--   Carries f m          m is the message that a frame carries: of the kind of its command byte, with what it says
--
-- Assumes nothing.
use Rattle.std.specs.Prelude.{◌≡◌, ℕ, cond, ◌==◌}
use Rattle.number.specs.Shown.{shown}
use Rattle.codes.specs.Codes.{is_status, is_setting, status_code, setting_code}
use Rattle.frame.specs.Frames.{Content, content, content_of}
use Rattle.frame.specs.declared.Frame.{Frame}
use Rattle.message.specs.declared.kind.Message.{Message}
use Rattle.message.specs.declared.kind.Message.TheVariants.{Status, Acknowledgement, Setting, Other}

pub data Kind : Type 0 where
  status : Kind
  acknowledgement : Kind
  setting : Kind
  other : Kind

abbrev pub kind_of : ℕ → Kind
kind_of command = cond (is_status command) status (cond (command == 0x50) acknowledgement (cond (is_setting command) setting other))

abbrev pub message_kind : Message → Kind
message_kind (Status code part) = status
message_kind (Acknowledgement number part) = acknowledgement
message_kind (Setting code part) = setting
message_kind (Other command part) = other

abbrev pub message_content : Message → Content
message_content (Status code part) = content (status_code code) part.now
message_content (Acknowledgement number part) = content (shown number) part.now
message_content (Setting code part) = content (setting_code code) part.now
message_content (Other command part) = content command part.now

abbrev pub Carries : Frame → Message → Type 0
Carries f m = (message_kind m ≡ kind_of f.command) × (message_content m ≡ content_of f)
