-- A head's setup: its sheet, and how many of its settings the head has confirmed, in their order.
--
--   fresh_setup s            the setup of a head just admitted or reset: no setting is confirmed
--   next_setting u           the first unconfirmed setting, if any
--   is_set_up u              whether all settings are confirmed
--   same_content m n         whether two messages have the same command byte and the same data
--   setting_if sent u        the setting that was just sent: the first unconfirmed one, if a setting was sent
--   setup_hearing sent o u   the setup after a second report: where the setting `sent` was just sent, and the message heard
--                            (o, if any) is its exact echo, one more setting is confirmed
--   OnlyTheExactEchoConfirms
--                            two messages are the same to the test exactly if they are equal, and a second report confirms
--                            a setting exactly if the message heard equals it
--
-- Assumes nothing.
use Rattle.std.specs.Prelude.{◌≡◌, suc, Bool, true, false, cond, not, ◌&&◌, is_some, Some, None, Option, ◌==◌}
use Rattle.std.specs.Str.{bytes_eq}
use Rattle.frame.specs.Frames.{Content}
use Rattle.sheet.specs.Settings.{settings_of, nth}
use Rattle.sheet.specs.declared.sheet.Sheet.{Sheet}
use Rattle.reaction.specs.declared.setup.Setup.{Setup}

abbrev pub fresh_setup : Sheet → Setup
fresh_setup s = record { sheet = s; confirmed = 0 }

abbrev pub next_setting : Setup → Option Content
next_setting u = nth (settings_of u.sheet) u.confirmed

abbrev pub is_set_up : Setup → Bool
is_set_up u = not (is_some (next_setting u))

abbrev pub same_content : Content → Content → Bool
same_content m n = m.command == n.command && bytes_eq m.«data» n.«data»

-- whether the message heard is the setting just sent
abbrev pub is_echo : Option Content → Option Content → Bool
is_echo None heard = false
is_echo (Some sent) None = false
is_echo (Some sent) (Some heard) = same_content sent heard

abbrev pub one_more : Setup → Setup
one_more u = record { sheet = u.sheet; confirmed = suc u.confirmed }

abbrev pub setting_if : Bool → Setup → Option Content
setting_if sent u = cond sent (next_setting u) None

abbrev pub setup_hearing : Option Content → Option Content → Setup → Setup
setup_hearing sent heard u = cond (is_echo sent heard) (one_more u) u

pub record OnlyTheExactEchoConfirms : Type 0 where
  pub equal : (m n : Content) → same_content m n ≡ true → m ≡ n
  pub same : (m n : Content) → m ≡ n → same_content m n ≡ true
  pub confirms : (m : Content) (u : Setup) → setup_hearing (Some m) (Some m) u ≡ one_more u
  pub only : (sent heard : Option Content) (u : Setup) → setup_hearing sent heard u ≡ one_more u → (m : Content) × (sent ≡ Some m) × (heard ≡ Some m)
