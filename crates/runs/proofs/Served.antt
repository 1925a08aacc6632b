-- For which head a report is, what it hears, and when a slot is closed. Assumes nothing.
use Rattle.std.proofs.Common.{◌≡◌, ℕ, Bool, true, false, cond, eqb, ltb, ◌⊎◌, List, length, Some, None, Ok, Err, Option, Result, refl, ap, ◌∙◌, inl, inr}
use Rattle.sheet.specs.declared.fault.SheetFault.{SheetFault}
use Rattle.sheet.specs.declared.sheet.Sheet.{Sheet}
use Rattle.head.specs.Phases.{status}
use Rattle.head.specs.declared.phase.Phase.{Phase}
use Rattle.hub.specs.Passes.{FirstPass, SecondPass}
use Rattle.hub.specs.Refusals.{CutRefusal}
use Rattle.hub.specs.States.{HubState, served_by, first_of, second_of, awaited_by, is_open}
use Rattle.hub.specs.Heads.{admission_answer}
use Rattle.hub.specs.Reports.{heard_in, status_in, status_of, read_as, handed, check, with_room, first_check}
use Rattle.hub.specs.declared.pass.Pass.{Pass}
use Rattle.hub.specs.declared.state.Slot.{Slot}
use Rattle.hub.specs.declared.state.Slot.TheVariants.{Closed, First, Second}
use Rattle.runs.specs.Worlds.{Line, still, poll, answer, second, replied}
use Rattle.runs.specs.Steps.{FairlyHeard}
use Rattle.runs.proofs.Basics.{passed}
use Rattle.runs.proofs.Classes.{status_reads}

-- WHOSE REPORT

-- what a slot awaits is a report of the head served
abbrev Serves : (Slot → Option ℕ) → Type 0
Serves of = (slot : Slot) (h : ℕ) → of slot ≡ Some h → served_by slot ≡ Some h

first_serves : Serves first_of
first_serves Closed h e = e
first_serves (First g) h e = e
first_serves (Second g sent) h e = cc

second_serves : Serves second_of
second_serves Closed h e = e
second_serves (First g) h e = cc
second_serves (Second g sent) h e = e

awaited_serves : {of : Slot → Option ℕ} → Serves of → (s : HubState) (n h : ℕ) → awaited_by of s n ≡ Some h → served_by s.slot ≡ Some h
awaited_serves {of} serves s n h = go (eqb n s.count)
  where
    go : (b : Bool) → cond b (of s.slot) None ≡ Some h → served_by s.slot ≡ Some h
    go true e = serves s.slot h e
    go false e = cc

handed_for : {R : Type 0} (o : Option ℕ) (p : Pass R) (bs : List ℕ) (h : ℕ) → handed o p bs ≡ Ok h → o ≡ Some h
handed_for None p bs h e = cc
handed_for (Some g) p bs h e = let taken = (passed (ltb 512 (length bs)) _ _ h e).1 in cc

report_for : {R : Type 0} {of : Slot → Option ℕ} → Serves of → (s : HubState) (p : Pass R) (bs : List ℕ) (h : ℕ) → check of s p bs ≡ Ok h → served_by s.slot ≡ Some h
report_for {of = of} serves s p bs h e = awaited_serves serves s p.count h (handed_for (awaited_by of s p.count) p bs h e)

pub cut_for : (s : HubState) (p : FirstPass) (bs : List ℕ) (h : ℕ) → check first_of s p bs ≡ Ok h → served_by s.slot ≡ Some h
cut_for = report_for first_serves

pub second_for : (s : HubState) (p : SecondPass) (bs : List ℕ) (h : ℕ) → check second_of s p bs ≡ Ok h → served_by s.slot ≡ Some h
second_for = report_for second_serves

pub first_for : (s : HubState) (p : FirstPass) (bs : List ℕ) (room h : ℕ) → first_check s p bs room ≡ Ok h → served_by s.slot ≡ Some h
first_for s p bs room h e = cut_for s p bs h (in_room (check first_of s p bs) e)
  where
    in_room : (r : Result ℕ CutRefusal) → with_room room p r ≡ Ok h → r ≡ Ok h
    in_room (Ok g) e = let fits = (passed (ltb room 7) _ _ h e).1 in cc
    in_room (Err f) e = cc

-- WHAT IS HEARD

status_heard : (bs : List ℕ) (p : Phase) → heard_in bs ≡ Some (status p) → status_in bs ≡ Some (status p)
status_heard bs p e = ap status_of e ∙ ap read_as (status_reads p)

-- nothing, or the head's answer
pub hears : (line : Line) (bs : List ℕ) → FairlyHeard line bs → (status_in bs ≡ None) ⊎ ((from : Phase) × (bill : ℕ) × (line ≡ answer from bill) × (status_in bs ≡ Some (status from)))
hears still bs e = inl e
hears poll bs e = inl e
hears (answer from bill) bs (inl e) = inr (from, bill, refl, status_heard bs from e)
hears (answer from bill) bs (inr e) = inl e
hears (second m) bs e = inl e
hears (replied o) bs e = inl e

-- ADMISSIONS

not_open : (slot : Slot) → is_open slot ≡ false → served_by slot ≡ None
not_open Closed e = refl
not_open (First h) e = cc
not_open (Second h sent) e = cc

-- a head is admitted between slots
pub admits_closed : (s : HubState) (n : ℕ) (checked : Result Sheet SheetFault) → admission_answer s n checked ≡ Ok tt → served_by s.slot ≡ None
admits_closed s n checked e = not_open s.slot (passed (is_open s.slot) _ _ tt e).0
