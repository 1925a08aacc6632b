-- The command bytes that the hub knows.
--
--   is_bare, is_detailed, is_complaint    the codes of statuses with no data, with one byte, and of complaints
--   is_status, is_setting                 the codes of statuses, complaints with them, and of settings
--   data_count c, code_data_count code    how many data bytes go with a status code, by its byte and by the code
--   bare_code and its like                the byte of a code
--   Decodes byte_of is b r                r is the code whose byte is b, or refuses b exactly if b is no such code
--
-- Two codes never have the same byte, so that a code is known by its byte. Assumes nothing.
use Rattle.std.specs.Prelude.{◌≡◌, ℕ, Bool, true, false, cond, ◌&&◌, ◌||◌, Result, MatchResult, ◌==◌, nat_le}
use Rattle.codes.specs.declared.status.BareCode.{BareCode}
use Rattle.codes.specs.declared.status.BareCode.TheVariants.{Idling, Accepting, Stacking, VendValid, Stacked, Returning, Disabled, Initializing, PowerUp, PowerUpWithBillInAcceptor, PowerUpWithBillInStacker, StackerFull, StackerOpen, JamInAcceptor, JamInStacker, Pause, Cheated}
use Rattle.codes.specs.declared.status.DetailedCode.{DetailedCode}
use Rattle.codes.specs.declared.status.DetailedCode.TheVariants.{Escrow, Rejecting, Failure}
use Rattle.codes.specs.declared.status.ComplaintCode.{ComplaintCode}
use Rattle.codes.specs.declared.status.ComplaintCode.TheVariants.{CommunicationError, InvalidCommand}
use Rattle.codes.specs.declared.status.StatusCode.{StatusCode}
use Rattle.codes.specs.declared.status.StatusCode.TheVariants.{Bare, Detailed, Complaint}
use Rattle.codes.specs.declared.unknown.UnknownCode.{UnknownCode}
use Rattle.codes.specs.declared.setting.SettingCode.{SettingCode}
use Rattle.codes.specs.declared.setting.SettingCode.TheVariants.{EnableDenominations, SecurityDenominations, Inhibit, OptionalFunction}

-- from a to b, both included
abbrev pub within : ℕ → ℕ → ℕ → Bool
within a b c = nat_le a c && nat_le c b

abbrev pub is_bare : ℕ → Bool
is_bare c = c == 0x11 || c == 0x12 || within 0x14 0x16 c || c == 0x18 || c == 0x1a || c == 0x1b || within 0x40 0x48 c

abbrev pub is_detailed : ℕ → Bool
is_detailed c = c == 0x13 || c == 0x17 || c == 0x49

abbrev pub is_complaint : ℕ → Bool
is_complaint c = c == 0x4a || c == 0x4b

abbrev pub is_status : ℕ → Bool
is_status c = is_bare c || (is_detailed c || is_complaint c)

abbrev pub data_count : ℕ → ℕ
data_count c = cond (is_detailed c) 1 0

abbrev pub is_setting : ℕ → Bool
is_setting c = c == 0xc0 || c == 0xc1 || c == 0xc3 || c == 0xc5

abbrev pub Decodes : {Code : Type 0} → (Code → ℕ) → (ℕ → Bool) → ℕ → Result Code UnknownCode → Type 0
Decodes byte_of is b r =
    MatchResult r (λ code. (is b ≡ true) × (byte_of code ≡ b)) (λ unknown. (is b ≡ false) × (unknown.0 ≡ b))

abbrev pub bare_code : BareCode → ℕ
bare_code Idling = 0x11
bare_code Accepting = 0x12
bare_code Stacking = 0x14
bare_code VendValid = 0x15
bare_code Stacked = 0x16
bare_code Returning = 0x18
bare_code Disabled = 0x1a
bare_code Initializing = 0x1b
bare_code PowerUp = 0x40
bare_code PowerUpWithBillInAcceptor = 0x41
bare_code PowerUpWithBillInStacker = 0x42
bare_code StackerFull = 0x43
bare_code StackerOpen = 0x44
bare_code JamInAcceptor = 0x45
bare_code JamInStacker = 0x46
bare_code Pause = 0x47
bare_code Cheated = 0x48

abbrev pub detailed_code : DetailedCode → ℕ
detailed_code Escrow = 0x13
detailed_code Rejecting = 0x17
detailed_code Failure = 0x49

abbrev pub complaint_code : ComplaintCode → ℕ
complaint_code CommunicationError = 0x4a
complaint_code InvalidCommand = 0x4b

abbrev pub status_code : StatusCode → ℕ
status_code (Bare c) = bare_code c
status_code (Detailed c) = detailed_code c
status_code (Complaint c) = complaint_code c

abbrev pub code_data_count : StatusCode → ℕ
code_data_count (Bare c) = 0
code_data_count (Detailed c) = 1
code_data_count (Complaint c) = 0

abbrev pub setting_code : SettingCode → ℕ
setting_code EnableDenominations = 0xc0
setting_code SecurityDenominations = 0xc1
setting_code Inhibit = 0xc3
setting_code OptionalFunction = 0xc5
