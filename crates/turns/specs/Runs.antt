-- Runs of a turn table: any calls in any order, accepted or refused, and what holds of them all.
--
--   Call                       an admission, a dismissal, a dismissal of all heads, or a slot to be served
--   after_call t call          the table after a call, by the definitions of the calls' own contracts
--   after_calls t calls        the table after a list of calls, first to last
--   slots t calls              the heads that slots were opened for, first to last
--   StaysAdmitted h t calls    head h is admitted in t and after every call
--   TurnOrAdmission h t call   the call opens a slot for head h, or admits it
--   SlacksCountSlots t         a head's slack is its limit less the slots opened since its last turn or its admission
--   EveryHeadGetsItsTurn t     any L slots opened in a row while a head of limit L stays admitted include one for it
--   WishesAreGranted t         a wish is granted exactly if some order within the slacks starts with it, so it is
--                              passed over exactly if no such order does
--   TurnsKeepTheirLaw          these three, at every moment of every run that starts with the empty table
--
-- Assumes nothing.
use Rattle.std.specs.Prelude.{◌≡◌, ℕ, ◌+◌, ◌≤◌, true, ◌↔◌, List, [], ◌∷◌, length, Some, None, Ok, Option}
use Rattle.orders.specs.declared.limit.Limit.{Limit}
use Rattle.orders.specs.Tables.{Table, is_admitted, limit_of, slack_of, empty_table}
use Rattle.orders.specs.Orders.{times, SomeOrderFrom}
use Rattle.orders.specs.Choice.{chosen}
use Rattle.orders.specs.Slots.{after_serving}
use Rattle.turns.specs.Calls.{admission_answer, after_admission, after_dismissal}

-- a number and a wish are any number, also one that is no head's
pub data Call : Type 0 where
  admit : (number : ℕ) (l : Limit) → Call
  dismiss : (number : ℕ) → Call
  dismiss_all : Call
  serve : (wish : ℕ) → Call

abbrev pub after_call : Table → Call → Table
after_call t (admit number l) = after_admission t number l
after_call t (dismiss number) = after_dismissal t number
after_call t dismiss_all = empty_table
after_call t (serve wish) = after_serving t wish

abbrev pub after_calls : Table → List Call → Table
after_calls t [] = t
after_calls t (call ∷ calls) = after_calls (after_call t call) calls

-- the head that a call opens a slot for, if it opens one
abbrev pub slot_of : Table → Call → Option ℕ
slot_of t (admit number l) = None
slot_of t (dismiss number) = None
slot_of t dismiss_all = None
slot_of t (serve wish) = chosen t wish

-- a slot, if one was opened, before later ones
abbrev pub with_slot : Option ℕ → List ℕ → List ℕ
with_slot None later = later
with_slot (Some h) later = h ∷ later

abbrev pub slots : Table → List Call → List ℕ
slots t [] = []
slots t (call ∷ calls) = with_slot (slot_of t call) (slots (after_call t call) calls)

abbrev pub StaysAdmitted : ℕ → Table → List Call → Type 0
StaysAdmitted h t [] = is_admitted t h ≡ true
StaysAdmitted h t (call ∷ calls) = (is_admitted t h ≡ true) × StaysAdmitted h (after_call t call) calls

-- ---- the slacks, as they are meant
abbrev pub TurnOrAdmission : ℕ → Table → Call → Type 0
TurnOrAdmission h t (admit number l) = (number ≡ h) × (admission_answer t number l ≡ Ok tt)
TurnOrAdmission h t (dismiss number) = ⊥
TurnOrAdmission h t dismiss_all = ⊥
TurnOrAdmission h t (serve wish) = chosen t wish ≡ Some h

-- `last` is the head's last turn or its admission, and `since` what was called after it
abbrev pub SlacksCountSlots : Table → Type 0
SlacksCountSlots t =
    (last : Call) (since : List Call) (h : ℕ) →
    TurnOrAdmission h t last →
    StaysAdmitted h (after_call t last) since →
    times h (slots (after_call t last) since) ≡ 0 →
    slack_of (after_calls t (last ∷ since)) h + length (slots (after_call t last) since) ≡ limit_of (after_calls t (last ∷ since)) h

-- ---- the law
abbrev pub EveryHeadGetsItsTurn : Table → Type 0
EveryHeadGetsItsTurn t =
    (calls : List Call) (h : ℕ) →
    StaysAdmitted h t calls →
    limit_of t h ≤ length (slots t calls) →
    1 ≤ times h (slots t calls)

-- the slot is opened for the head wished for
abbrev pub Granted : Table → ℕ → Type 0
Granted t wish = chosen t wish ≡ Some wish

pub record WishesAreGranted (t : Table) : Type 0 where
  pub granted : (wish : ℕ) → Granted t wish ↔ SomeOrderFrom t wish
  pub passed_over : (wish : ℕ) → (Granted t wish → ⊥) ↔ (SomeOrderFrom t wish → ⊥)

-- `before` is the run so far, and each part speaks of the table that it leaves
pub record TurnsKeepTheirLaw : Type 0 where
  pub slacks : (before : List Call) → SlacksCountSlots (after_calls empty_table before)
  pub rounds : (before : List Call) → EveryHeadGetsItsTurn (after_calls empty_table before)
  pub wishes : (before : List Call) → WishesAreGranted (after_calls empty_table before)
