-- How the hub reacts to a status, by its code: what becomes of a promise that stands, and what the second frame is.
--
--   reaction_to u m     the reaction to the status m of a head with the setup u: a row of the table
--   bill_reply u code   the reply to a bill in escrow: its value is to be promised, or it is returned, and why
--   status_content s    a status as a message
--   no_reaction         nothing is called and nothing is sent
--   setup_after u r     the setup after the reaction: a reset leaves no setting confirmed
--
-- Assumes nothing.
use Rattle.std.specs.Prelude.{◌≡◌, ℕ, Bool, true, false, cond, ◌||◌, List, [], ◌∷◌, Some, None, Option, ◌==◌, slice_index, refl}
use Rattle.frame.specs.Frames.{Content, content}
use Rattle.ledger_calls.specs.declared.Call.{Call}
use Rattle.ledger_calls.specs.declared.Call.TheVariants.{Settle, GiveBack}
use Rattle.sheet.specs.Sheets.{value_of, is_enabled}
use Rattle.status.specs.Statuses.{status_byte, status_data}
use Rattle.status.specs.declared.Status.{Status}
use Rattle.reaction.specs.Orderly.{is_orderly}
use Rattle.reaction.specs.Setups.{fresh_setup, is_set_up}
use Rattle.reaction.specs.declared.fault.HeadFault.TheVariants as fault
use Rattle.reaction.specs.declared.reaction.Reaction.{Reaction}
use Rattle.reaction.specs.declared.reaction.Reply.{Reply}
use Rattle.reaction.specs.declared.reaction.Reply.TheVariants as reply
use Rattle.reaction.specs.declared.setup.Setup.{Setup}

abbrev pub status_content : Status → Content
status_content s = content (status_byte s) (status_data s)

abbrev pub is_one_of : List ℕ → ℕ → Bool
is_one_of [] code = false
is_one_of (c ∷ cs) code = code == c || is_one_of cs code

-- A BILL IN ESCROW

-- all settings are confirmed, and the bill is worth this
abbrev pub priced_reply : Option ℕ → Bool → Reply
priced_reply None enabled = reply.Return fault.Value
priced_reply (Some value) enabled = cond enabled (reply.Stack value) (reply.Return fault.Disabled)

abbrev pub bill_reply : Setup → ℕ → Reply
bill_reply u code = cond (is_set_up u) (priced_reply (value_of u.sheet code) (is_enabled u.sheet code)) (reply.Return fault.Settings)

-- THE TABLE: what a promise that stands comes to, and the reply

abbrev pub row : (ending : Option Call) (r : Reply) → is_orderly ending r ≡ true → Reaction
row ending r orderly = record { ending = ending; reply = r; orderly = orderly }

abbrev pub no_reaction : Reaction
no_reaction = row None reply.Nothing refl

abbrev pub reaction_to : Setup → Content → Reaction
reaction_to u m =
    cond (is_one_of (0x11 ∷ 0x1a ∷ []) m.command) (row (Some GiveBack) reply.NextSetting refl)
    (cond (is_one_of (0x12 ∷ 0x17 ∷ 0x18 ∷ []) m.command) (row (Some GiveBack) reply.Nothing refl)
    (cond (is_one_of (0x1b ∷ []) m.command) (row None reply.NextSetting refl)
    (cond (is_one_of (0x13 ∷ []) m.command) (row (Some GiveBack) (bill_reply u (slice_index m.«data» 0)) refl)
    (cond (is_one_of (0x15 ∷ []) m.command) (row (Some Settle) reply.Acknowledge refl)
    (cond (is_one_of (0x40 ∷ 0x41 ∷ []) m.command) (row (Some GiveBack) reply.Reset refl)
    (cond (is_one_of (0x42 ∷ []) m.command) (row (Some Settle) reply.Reset refl)
    no_reaction))))))

abbrev pub setup_replied : Setup → Reply → Setup
setup_replied u reply.Nothing = u
setup_replied u reply.NextSetting = u
setup_replied u (reply.Stack value) = u
setup_replied u (reply.Return cause) = u
setup_replied u reply.Acknowledge = u
setup_replied u reply.Reset = fresh_setup u.sheet

abbrev pub setup_after : Setup → Reaction → Setup
setup_after u r = setup_replied u r.reply
