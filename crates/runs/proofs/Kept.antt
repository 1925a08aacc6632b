-- What every run keeps of the money. Assumes nothing.
use Rattle.std.proofs.Common.{◌≡◌, ℕ, ◌<◌, ◌≤◌, true, false, ◌⊎◌, List, [], ◌∷◌, is_some, Some, None, Option}
use Rattle.std.specs.List.{AllByRecursion}
use Rattle.frame.specs.Frames.{Content}
use Rattle.sheet.specs.Settings.{settings_of, nth}
use Rattle.sheet.specs.declared.sheet.Draft.{Draft}
use Rattle.sheet.specs.declared.sheet.Sheet.{Sheet}
use Rattle.ledger.specs.Held.{Held, Heads}
use Rattle.head.specs.declared.head.Head.{Head}
use Rattle.hub.specs.States.{served_by}
use Rattle.runs.specs.declared.Allowance.{Allowance}
use Rattle.runs.specs.declared.Allowance.TheVariants.{Free, One, Spent}
use Rattle.runs.specs.Worlds.{Taken, Past, Line, still, poll, answer, second, replied, HeardSlot, Memory, World}
use Rattle.runs.specs.Law.{worth_on, worth_of, is_taken, is_among, CreditedBy}
use Rattle.runs.proofs.Classes.{Class, class, quiet, lying, entering, boxed, stored, Order, stack, back, reset, acknowledge, order_content, Told, free, nothing, boxing, offering, tells}

-- OF ONE HEAD AND ITS LEDGER
-- Throughout, `sheet` is the sheet that the head was admitted with, b the number of its latest bill, v what the ledger holds
-- for it, and p what is remembered of it.

-- every bill taken is credited
pub record Settled (sheet : Option Draft) (total : ℕ) (credited : List ℕ) (taken : List Taken) : Type 0 where
  pub sum : total ≡ worth_of sheet taken
  pub all : AllByRecursion (λ t. is_among t.bill credited ≡ true) taken

abbrev pub AllSettled : Option Draft → Held → Past → Type 0
AllSettled sheet v p = Settled sheet v.credited p.credited p.taken

-- the bill of the promise, if there is one, is not taken
abbrev pub Untaken : Option ℕ → ℕ → List Taken → Type 0
Untaken o bill taken = (a : ℕ) → o ≡ Some a → is_taken bill taken ≡ false

-- the latest bill taken is promised, and every other is credited
abbrev pub Owing : Option Draft → Held → ℕ → List ℕ → List Taken → Type 0
Owing sheet v bill credited [] = ⊥
Owing sheet v bill credited (t ∷ ts) = (v.promised ≡ Some (worth_on sheet t.code)) × (bill ≡ t.bill) × Settled sheet v.credited credited ts

-- what is so of a head by the class of its phase
abbrev pub Agrees : Class → Option Draft → ℕ → Held → Past → Type 0
Agrees quiet sheet b v p = AllSettled sheet v p × Untaken v.promised p.promised p.taken
Agrees (lying c) sheet b v p = AllSettled sheet v p × Untaken v.promised p.promised p.taken × (is_taken b p.taken ≡ false)
Agrees (entering c) sheet b v p = AllSettled sheet v p × (is_some sheet ≡ true) × (v.promised ≡ Some (worth_on sheet c)) × (p.promised ≡ b) × (is_taken b p.taken ≡ false)
Agrees boxed sheet b v p = (AllSettled sheet v p × (v.promised ≡ None)) ⊎ Owing sheet v p.promised p.credited p.taken
Agrees stored sheet b v p = AllSettled sheet v p × (v.promised ≡ None)

-- bills are taken of heads with a sheet alone
abbrev pub Priced : Option Draft → List Taken → Type 0
Priced None taken = taken ≡ []
Priced (Some d) taken = Unit {0}

-- every bill taken before the slot was opened is credited, if it is the head's
abbrev pub Prompt : ℕ → Past → HeardSlot → Type 0
Prompt h p s = s.head ≡ h → AllByRecursion (CreditedBy p s) p.taken

pub record Kept (h : ℕ) (heard : List HeardSlot) (sheet : Option Draft) (C : Class) (b : ℕ) (v : Held) (p : Past) : Type 0 where
  pub below : AllByRecursion (λ t. t.bill ≤ b) p.taken
  pub priced : Priced sheet p.taken
  pub agrees : Agrees C sheet b v p
  pub prompt : AllByRecursion (Prompt h p) heard

-- OF THE HEAD THAT IS SERVED
-- with the number n of its slot and what is left to it

-- its poll has arrived
abbrev pub Tied : Allowance → Type 0
Tied Free = ⊥
Tied One = Unit {0}
Tied Spent = Unit {0}

abbrev pub NoneLeft : Allowance → Type 0
NoneLeft Free = ⊥
NoneLeft One = ⊥
NoneLeft Spent = Unit {0}

-- no bill is in the box, or on its way into it
abbrev pub Calm : Class → Type 0
Calm quiet = Unit {0}
Calm (lying c) = Unit {0}
Calm (entering c) = ⊥
Calm boxed = ⊥
Calm stored = ⊥

abbrev pub Boxed : Class → Type 0
Boxed quiet = ⊥
Boxed (lying c) = ⊥
Boxed (entering c) = ⊥
Boxed boxed = Unit {0}
Boxed stored = ⊥

-- the bill i with the code c, of which the head told, is still in escrow; or the head has given it up, and makes no move
abbrev pub Lies : Allowance → ℕ → ℕ → Class → ℕ → Past → Type 0
Lies l c i quiet b p = NoneLeft l × (is_taken i p.taken ≡ false)
Lies l c i (lying k) b p = Tied l × (k ≡ c) × (b ≡ i)
Lies l c i (entering k) b p = ⊥
Lies l c i boxed b p = ⊥
Lies l c i stored b p = ⊥

-- every bill taken before this slot is credited
abbrev pub Old : ℕ → Past → Type 0
Old n p = AllByRecursion (λ t. t.slot < n → is_among t.bill p.credited ≡ true) p.taken

-- what the answer told still stands
abbrev pub Heard : ℕ → Allowance → Told → ℕ → Class → ℕ → Past → Type 0
Heard n l free i C b p = Calm C
Heard n l (offering c) i C b p = Lies l c i C b p
Heard n l nothing i C b p = Old n p
Heard n l boxing i C b p = Boxed C

-- before STACK-1 arrives
abbrev pub Ready : Allowance → Option Draft → Class → ℕ → Held → Past → Type 0
Ready l sheet quiet b v p = NoneLeft l
Ready l sheet (lying c) b v p = Tied l × (v.promised ≡ Some (worth_on sheet c)) × (p.promised ≡ b)
Ready l sheet (entering c) b v p = ⊥
Ready l sheet boxed b v p = ⊥
Ready l sheet stored b v p = ⊥

-- before ACK or RESET arrives
abbrev pub Safe : Class → Held → Type 0
Safe quiet v = Unit {0}
Safe (lying c) v = Unit {0}
Safe (entering c) v = ⊥
Safe boxed v = v.promised ≡ None
Safe stored v = ⊥

abbrev pub Awaits : Order → Allowance → Option Draft → Class → ℕ → Held → Past → Type 0
Awaits stack l sheet C b v p = Ready l sheet C b v p
Awaits back l sheet C b v p = Unit {0}
Awaits reset l sheet C b v p = Safe C v
Awaits acknowledge l sheet C b v p = Safe C v

-- the head awaits the second frame as it should
pub data Sent (l : Allowance) (sheet : Option Draft) (C : Class) (b : ℕ) (v : Held) (p : Past) : Content → Type 0 where
  ordered : (o : Order) → Awaits o l sheet C b v p → Sent l sheet C b v p (order_content o)
  setting : (s : Sheet) (i : ℕ) {m : Content} → nth (settings_of s) i ≡ Some m → Sent l sheet C b v p m

abbrev pub OnLine : ℕ → Line → Allowance → Option Draft → Class → ℕ → Held → Past → Type 0
OnLine n still l sheet C b v p = Unit {0}
OnLine n poll l sheet C b v p = Unit {0}
OnLine n (answer from i) l sheet C b v p = Heard n l (tells from) i C b p
OnLine n (second m) l sheet C b v p = Sent l sheet C b v p m
OnLine n (replied o) l sheet C b v p = Unit {0}

-- OF ALL

abbrev pub KeptOf : Heads → (ℕ → Head) → Memory → ℕ → Type 0
KeptOf ledger heads m h = Kept h m.heard (m.sheets h) (class (heads h).phase) (m.bills h) (ledger h) (m.pasts h)

abbrev pub LineOf : Heads → (ℕ → Head) → Line → Allowance → Memory → ℕ → Type 0
LineOf ledger heads line left m h = OnLine m.opened line left (m.sheets h) (class (heads h).phase) (m.bills h) (ledger h) (m.pasts h)

pub record MoneyKept (served : Option ℕ) (ledger : Heads) (heads : ℕ → Head) (line : Line) (left : Allowance) (m : Memory) : Type 0 where
  pub kept : (h : ℕ) → KeptOf ledger heads m h
  pub inside : (h : ℕ) → served ≡ Some h → LineOf ledger heads line left m h
  pub numbers : AllByRecursion (λ s. s.number ≤ m.opened) m.heard

abbrev pub MoneyKeptIn : World → Type 0
MoneyKeptIn w = MoneyKept (served_by w.hub.slot) w.ledger w.heads w.line w.left w.memory
