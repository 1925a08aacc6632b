-- The law of runs.
--
--   EveryBoxCloses w h          what is credited for head h, with its promised amount if that bill is taken, is what its
--                               bills taken are worth
--   EveryHeadGetsItsTurn w      any L slots opened in a row while a head of limit L stays admitted include one for it
--   WishesPassedOverRightly w   a wish for an admitted head is passed over exactly when no order of the admitted heads
--                               starts with it and keeps every head within its slack
--   EveryTakenBillIsCredited w h   a taken bill of head h is credited no later than in the head's first later slot whose poll
--                               and answer arrive and whose first report completes
--   Law w                       all of these
--   RunsKeepTheLaw              the law stands at every moment of every run
--
-- Assumes nothing.
use Rattle.std.specs.Prelude.{◌≡◌, ℕ, ◌+◌, ◌<◌, ◌≤◌, Bool, true, false, cond, ◌||◌, ◌↔◌, List, [], ◌∷◌, ◌++◌, is_some, Some, None, Option, ◌==◌, ◌≢◌}
use Rattle.std.specs.Option.{unwrap_or}
use Rattle.std.specs.List.{AllByRecursion}
use Rattle.orders.specs.Orders.{SomeOrderFrom}
use Rattle.orders.specs.Tables.{Table, empty_table, is_admitted, limit_of}
use Rattle.turns.specs.Runs.{serve}
use Rattle.sheet.specs.Sheets.{value_on}
use Rattle.sheet.specs.declared.sheet.Draft.{Draft}
use Rattle.ledger.specs.Held.{Heads}
use Rattle.runs.specs.Worlds.{Taken, Past, HeardSlot, Mark, World}
use Rattle.runs.specs.Steps.{Event, Run}

-- MONEY

-- what a bill of a code is worth on the sheet that its head was admitted with
abbrev pub worth_on : Option Draft → ℕ → ℕ
worth_on None code = 0
worth_on (Some d) code = unwrap_or (value_on d code) 0

abbrev pub worth_of : Option Draft → List Taken → ℕ
worth_of sheet [] = 0
worth_of sheet (t ∷ ts) = worth_on sheet t.code + worth_of sheet ts

abbrev pub is_taken : ℕ → List Taken → Bool
is_taken bill [] = false
is_taken bill (t ∷ ts) = bill == t.bill || is_taken bill ts

abbrev pub is_among : ℕ → List ℕ → Bool
is_among bill [] = false
is_among bill (b ∷ bs) = bill == b || is_among bill bs

-- the promised amount, if the promise's bill is taken
abbrev pub owed : Option ℕ → Bool → ℕ
owed None taken = 0
owed (Some amount) taken = cond taken amount 0

abbrev pub EveryBoxCloses : World → ℕ → Type 0
EveryBoxCloses w h =
    (w.ledger h).credited + owed (w.ledger h).promised (is_taken (w.memory.pasts h).promised (w.memory.pasts h).taken)
    ≡ worth_of (w.memory.sheets h) (w.memory.pasts h).taken

-- TURNS: of any stretch of what the hub did with its turn table

abbrev pub table_after : Table → List Mark → Table
table_after t [] = t
table_after t (m ∷ ms) = table_after m.table ms

-- head h is admitted before the marks and after each
abbrev pub StaysAdmitted : ℕ → Table → List Mark → Type 0
StaysAdmitted h t [] = is_admitted t h ≡ true
StaysAdmitted h t (m ∷ ms) = (is_admitted t h ≡ true) × StaysAdmitted h m.table ms

abbrev pub slots_in : List Mark → ℕ
slots_in [] = 0
slots_in (m ∷ ms) = cond (is_some m.served) 1 0 + slots_in ms

abbrev pub is_for : ℕ → Option ℕ → Bool
is_for h None = false
is_for h (Some g) = h == g

abbrev pub slots_for : ℕ → List Mark → ℕ
slots_for h [] = 0
slots_for h (m ∷ ms) = cond (is_for h m.served) 1 0 + slots_for h ms

abbrev pub EveryHeadGetsItsTurn : World → Type 0
EveryHeadGetsItsTurn w =
    (before during later : List Mark) (h : ℕ) →
    w.memory.marks ≡ before ++ (during ++ later) →
    StaysAdmitted h (table_after empty_table before) during →
    limit_of (table_after empty_table before) h ≤ slots_in during →
    1 ≤ slots_for h during

abbrev pub WishesPassedOverRightly : World → Type 0
WishesPassedOverRightly w =
    (before later : List Mark) (m : Mark) (wish : ℕ) →
    w.memory.marks ≡ before ++ (m ∷ later) →
    m.call ≡ serve wish →
    is_admitted (table_after empty_table before) wish ≡ true →
    (m.served ≢ Some wish) ↔ (SomeOrderFrom (table_after empty_table before) wish → ⊥)

-- PROMPTNESS

abbrev pub CreditedBy : Past → HeardSlot → Taken → Type 0
CreditedBy p s t = t.slot < s.number → is_among t.bill p.credited ≡ true

abbrev pub EveryTakenBillIsCredited : World → ℕ → Type 0
EveryTakenBillIsCredited w h =
    AllByRecursion (λ s. s.head ≡ h → AllByRecursion (CreditedBy (w.memory.pasts h) s) (w.memory.pasts h).taken) w.memory.heard

-- THE LAW

pub record Law (w : World) : Type 0 where
  pub boxes : (h : ℕ) → EveryBoxCloses w h
  pub rounds : EveryHeadGetsItsTurn w
  pub wishes : WishesPassedOverRightly w
  pub credits : (h : ℕ) → EveryTakenBillIsCredited w h

abbrev pub RunsKeepTheLaw : Type 0
RunsKeepTheLaw = (ledger : Heads) (es : List Event) (w : World) → Run ledger es w → Law w
