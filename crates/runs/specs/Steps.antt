-- The steps of a run.
--
--   Event              what happens: a call of the hub, a power cut, a frame's arrival, an own move of a head
--   Step w e v         e happens in the world w and leads to the world v
--   Run l es w         the events es, first to last, lead from a new hub over a ledger that holds l to the world w
--   Unused l           nothing is promised or credited
--   FairlyHeard l bs   what an accepted first report is handed: the head's answer if poll and answer arrived, else nothing
--   SameSheet o d      a number was not admitted before, or with this sheet
--   Allows s k l l'    head k may make an own move while the slot is for s; l is what was left to the head served, l' what
--                      is left then
--   noted and its like what is remembered of ledger calls
--
-- Hub, ledger and heads change by the definitions that the contracts of their calls cite. A power cut inside a first report
-- is one step with the restart that follows it; a cut elsewhere is the call done, or not begun, and a restart. What lies
-- between two ledger calls of a report is what a cut there leaves. Assumes nothing.
use Rattle.std.specs.Prelude.{◌≡◌, ℕ, suc, ◌<◌, Bool, cond, ◌⊎◌, List, [], ◌∷◌, ◌++◌, take, is_ok, Some, None, Ok, Err, Option, Result, ◌==◌, ◌≢◌}
use Rattle.frame.specs.Frames.{Content}
use Rattle.turns.specs.Runs.{admit, dismiss, dismiss_all, serve}
use Rattle.turns.specs.Runs as turns
use Rattle.sheet.specs.Sheets.{limit_of, sheet_answer, told}
use Rattle.sheet.specs.declared.fault.SheetFault.{SheetFault}
use Rattle.sheet.specs.declared.sheet.Draft.{Draft}
use Rattle.sheet.specs.declared.sheet.Sheet.{Sheet}
use Rattle.ledger.specs.Answers.{promise_answer, end_answer}
use Rattle.ledger.specs.Held.{Heads}
use Rattle.ledger_calls.specs.Calls.{call_after}
use Rattle.ledger_calls.specs.declared.Call.{Call}
use Rattle.ledger_calls.specs.declared.Call.TheVariants.{Promise, Settle, GiveBack}
use Rattle.head.specs.Answers.{head_after, answer_to}
use Rattle.head.specs.Moves.{Moves, held_byte}
use Rattle.head.specs.Phases.{code, held, status}
use Rattle.head.specs.declared.head.Head.{Head}
use Rattle.head.specs.declared.phase.Phase.{Phase}
use Rattle.hub.specs.Passes.{FirstPass, SecondPass}
use Rattle.hub.specs.Refusals.{CutRefusal, SecondRefusal}
use Rattle.hub.specs.States.{HubState, served_by, first_of, second_of, restarted}
use Rattle.hub.specs.Heads.{admission_answer, after_admission, dismissal_answer, after_dismissal}
use Rattle.hub.specs.Slots.{opening_answer, after_opening}
use Rattle.hub.specs.Reports.{heard_in, status_in, check, first_check, first_calls, first_sent, after_first, ledger_after_first, after_second, after_cut, ledger_after_cut}
use Rattle.hub.specs.declared.pass.Opening.{Opening}
use Rattle.hub.specs.declared.refusal.AdmissionRefusal.{AdmissionRefusal}
use Rattle.hub.specs.declared.refusal.DismissalRefusal.{DismissalRefusal}
use Rattle.hub.specs.declared.refusal.FirstRefusal.{FirstRefusal}
use Rattle.hub.specs.declared.refusal.OpeningRefusal.{OpeningRefusal}
use Rattle.runs.specs.declared.Allowance.{Allowance}
use Rattle.runs.specs.declared.Allowance.TheVariants.{Free, One, Spent}
use Rattle.runs.specs.Worlds.{Taken, Past, Line, still, poll, answer, second, replied, Mark, Memory, World, put, new_world}

-- Calls are handed any number, any bytes, any length of buffer and any pass.
pub data Event : Type 0 where
  admission : (number : ℕ) (d : Draft) → Event
  dismissal : (number : ℕ) → Event
  opening : (wish room : ℕ) → Event
  first_report : (p : FirstPass) (bytes : List ℕ) (room : ℕ) → Event
  second_report : (p : SecondPass) (bytes : List ℕ) → Event
  cut : (p : FirstPass) (bytes : List ℕ) (calls : ℕ) → Event
  restart : Event
  arrival : Event
  own_move : (head : ℕ) (to : Phase) → Event

-- WHAT IS REMEMBERED

abbrev pub with_marks : Memory → List Mark → Memory
with_marks m marks = record { bills = m.bills; pasts = m.pasts; sheets = m.sheets; opened = m.opened; heard = m.heard; marks = m.marks ++ marks }

abbrev pub with_past : Memory → ℕ → Past → Memory
with_past m h p = record { bills = m.bills; pasts = put h p m.pasts; sheets = m.sheets; opened = m.opened; heard = m.heard; marks = m.marks }

-- of the turn table, by the hub after the call
abbrev pub marked : turns.Call → Option ℕ → HubState → List Mark
marked c served s = (record { call = c; served = served; table = s.table }) ∷ []

-- of an admission
abbrev pub sheeted : Memory → ℕ → Draft → Memory
sheeted m n d = record { bills = m.bills; pasts = m.pasts; sheets = put n (Some d) m.sheets; opened = m.opened; heard = m.heard; marks = m.marks }

abbrev pub memory_admitting : Memory → ℕ → Draft → HubState → Result Sheet SheetFault → Result (Unit {0}) AdmissionRefusal → Memory
memory_admitting m n d after (Ok sheet) (Ok done) = with_marks (sheeted m n d) (marked (admit n (limit_of sheet)) None after)
memory_admitting m n d after (Ok sheet) (Err e) = m
memory_admitting m n d after (Err fault) r = m

-- of a dismissal
abbrev pub memory_dismissing : Memory → ℕ → HubState → Result (Unit {0}) DismissalRefusal → Memory
memory_dismissing m n after (Ok done) = with_marks m (marked (dismiss n) None after)
memory_dismissing m n after (Err e) = m

-- of an opening
abbrev pub one_more_slot : Memory → Memory
one_more_slot m = record { bills = m.bills; pasts = m.pasts; sheets = m.sheets; opened = suc m.opened; heard = m.heard; marks = m.marks }

-- of a ledger call for head h, where t is held before it, and `lay` is the bill that lay in escrow when the status was answered
abbrev pub noted : ℕ → Heads → ℕ → Call → Past → Past
noted lay t h (Promise a) p = cond (is_ok (promise_answer t 0 h a)) (record { promised = lay; taken = p.taken; credited = p.credited }) p
noted lay t h Settle p = cond (is_ok (end_answer t h)) (record { promised = p.promised; taken = p.taken; credited = p.promised ∷ p.credited }) p
noted lay t h GiveBack p = p

abbrev pub noted_all : ℕ → Heads → ℕ → List Call → Past → Past
noted_all lay t h [] p = p
noted_all lay t h (c ∷ cs) p = noted_all lay (call_after t h c) h cs (noted lay t h c p)

abbrev pub bill_answered : Line → ℕ
bill_answered still = 0
bill_answered poll = 0
bill_answered (answer from bill) = bill
bill_answered (second m) = 0
bill_answered (replied o) = 0

-- of a first report: where something is heard, it is the head's answer
abbrev pub heard_answer : Memory → ℕ → Option Content → Memory
heard_answer m h None = m
heard_answer m h (Some s) = record { bills = m.bills; pasts = m.pasts; sheets = m.sheets; opened = m.opened; heard = (record { number = m.opened; head = h }) ∷ m.heard; marks = m.marks }

-- of an own move to the phase q that takes the bill or does not
abbrev pub bringing : Phase → ℕ → ℕ
bringing q n = cond (code q == 0x13) (suc n) n

abbrev pub taking : Bool → Taken → Past → Past
taking took t p = cond took (record { promised = p.promised; taken = t ∷ p.taken; credited = p.credited }) p

abbrev pub memory_moving : Memory → ℕ → Phase → Bool → Memory
memory_moving m k q took = record {
  bills = put k (bringing q (m.bills k)) m.bills;
  pasts = put k (taking took (record { bill = m.bills k; code = held_byte (held q); slot = m.opened }) (m.pasts k)) m.pasts;
  sheets = m.sheets;
  opened = m.opened;
  heard = m.heard;
  marks = m.marks;
}

-- WORLDS AFTER

abbrev pub admitted_world : World → ℕ → Draft → Result Sheet SheetFault → World
admitted_world w n d checked = record {
  hub = after_admission w.hub n checked;
  ledger = w.ledger;
  heads = w.heads;
  line = w.line;
  left = w.left;
  memory = memory_admitting w.memory n d (after_admission w.hub n checked) checked (admission_answer w.hub n checked);
}

abbrev pub dismissed_world : World → ℕ → World
dismissed_world w n = record {
  hub = after_dismissal w.hub n;
  ledger = w.ledger;
  heads = w.heads;
  line = w.line;
  left = w.left;
  memory = memory_dismissing w.memory n (after_dismissal w.hub n) (dismissal_answer w.hub n);
}

abbrev pub opened_world : World → ℕ → Result Opening OpeningRefusal → World
opened_world w wish (Ok o) = record {
  hub = after_opening w.hub wish (Ok o);
  ledger = w.ledger;
  heads = w.heads;
  line = poll;
  left = Free;
  memory = with_marks (one_more_slot w.memory) (marked (serve wish) (Some o.head) (after_opening w.hub wish (Ok o)));
}
opened_world w wish (Err e) = w

abbrev pub sending : Option Content → Line
sending None = still
sending (Some m) = second m

abbrev pub reported_world : World → List ℕ → Result ℕ FirstRefusal → World
reported_world w bs (Ok h) = record {
  hub = after_first w.hub (Ok h) bs;
  ledger = ledger_after_first w.hub w.ledger (Ok h) bs;
  heads = w.heads;
  line = sending (first_sent w.hub w.ledger 0 h bs);
  left = w.left;
  memory = heard_answer (with_past w.memory h (noted_all (bill_answered w.line) w.ledger h (first_calls w.hub w.ledger h bs) (w.memory.pasts h))) h (status_in bs);
}
reported_world w bs (Err e) = w

abbrev pub ended_world : World → List ℕ → Result ℕ SecondRefusal → World
ended_world w bs (Ok h) = record {
  hub = after_second w.hub (Ok h) bs;
  ledger = w.ledger;
  heads = w.heads;
  line = still;
  left = Free;
  memory = w.memory;
}
ended_world w bs (Err e) = w

abbrev pub cut_world : World → List ℕ → ℕ → Result ℕ CutRefusal → World
cut_world w bs n (Ok h) = record {
  hub = after_cut w.hub (Ok h);
  ledger = ledger_after_cut w.hub w.ledger (Ok h) bs n;
  heads = w.heads;
  line = still;
  left = Free;
  memory = with_marks (with_past w.memory h (noted_all (bill_answered w.line) w.ledger h (take n (first_calls w.hub w.ledger h bs)) (w.memory.pasts h))) (marked dismiss_all None (after_cut w.hub (Ok h)));
}
cut_world w bs n (Err e) = w

abbrev pub restarted_world : World → World
restarted_world w = record {
  hub = restarted w.hub;
  ledger = w.ledger;
  heads = w.heads;
  line = still;
  left = Free;
  memory = with_marks w.memory (marked dismiss_all None (restarted w.hub));
}

-- the poll changes nothing in the head; it answers the status of its phase
abbrev pub answered_world : World → ℕ → World
answered_world w h = record {
  hub = w.hub;
  ledger = w.ledger;
  heads = w.heads;
  line = answer (w.heads h).phase (w.memory.bills h);
  left = One;
  memory = w.memory;
}

abbrev pub obeyed_world : World → ℕ → Content → World
obeyed_world w h m = record {
  hub = w.hub;
  ledger = w.ledger;
  heads = put h (head_after (w.heads h) m) w.heads;
  line = replied (answer_to (w.heads h) m);
  left = w.left;
  memory = w.memory;
}

abbrev pub moved_world : World → ℕ → Phase → Head → Bool → Allowance → World
moved_world w k q after took left = record {
  hub = w.hub;
  ledger = w.ledger;
  heads = put k after w.heads;
  line = w.line;
  left = left;
  memory = memory_moving w.memory k q took;
}

-- STEPS

-- The head's answer is heard only if the poll arrived. The answer may have been lost, too.
abbrev pub FairlyHeard : Line → List ℕ → Type 0
FairlyHeard still bs = status_in bs ≡ None
FairlyHeard poll bs = status_in bs ≡ None
FairlyHeard (answer from bill) bs = (heard_in bs ≡ Some (status from)) ⊎ (status_in bs ≡ None)
FairlyHeard (second m) bs = status_in bs ≡ None
FairlyHeard (replied o) bs = status_in bs ≡ None

abbrev pub SameSheet : Option Draft → Draft → Type 0
SameSheet None d = Unit {0}
SameSheet (Some before) d = d ≡ before

-- From a poll's arrival to its slot's end the head served makes one own move at most, at all other times any number.
pub data Allows (served : Option ℕ) (k : ℕ) : Allowance → Allowance → Type 0 where
  elsewhere : {l : Allowance} → (served ≢ Some k) → Allows served k l l
  freely : Allows served k Free Free
  once : served ≡ Some k → Allows served k One Spent

pub data Step (w : World) : Event → World → Type 0 where
  -- `checked` is what the check of the sheet answers. All accepted admissions of a number carry one sheet.
  admits : (n : ℕ) (d : Draft) (checked : Result Sheet SheetFault) → told checked ≡ sheet_answer d →
      (admission_answer w.hub n checked ≡ Ok tt → SameSheet (w.memory.sheets n) d) →
      Step w (admission n d) (admitted_world w n d checked)
  dismisses : (n : ℕ) → Step w (dismissal n) (dismissed_world w n)
  opens : (wish room : ℕ) → Step w (opening wish room) (opened_world w wish (opening_answer w.hub wish room))
  -- what a refused report is handed is free, and so is what second reports are
  reports : (p : FirstPass) (bs : List ℕ) (room : ℕ) →
      ((h : ℕ) → first_check w.hub p bs room ≡ Ok h → FairlyHeard w.line bs) →
      Step w (first_report p bs room) (reported_world w bs (first_check w.hub p bs room))
  ends : (p : SecondPass) (bs : List ℕ) → Step w (second_report p bs) (ended_world w bs (check second_of w.hub p bs))
  cuts : (p : FirstPass) (bs : List ℕ) (n : ℕ) →
      ((h : ℕ) → check first_of w.hub p bs ≡ Ok h → FairlyHeard w.line bs) →
      Step w (cut p bs n) (cut_world w bs n (check first_of w.hub p bs))
  restarts : Step w restart (restarted_world w)
  -- A frame reaches its head once, as sent, and before its own report or the restart in its place; or never.
  poll_arrives : (h : ℕ) → w.line ≡ poll → served_by w.hub.slot ≡ Some h → Step w arrival (answered_world w h)
  second_arrives : (h : ℕ) (m : Content) → w.line ≡ second m → served_by w.hub.slot ≡ Some h → Step w arrival (obeyed_world w h m)
  moves : (k : ℕ) (q : Phase) (after : Head) (took : Bool) (left : Allowance) → k < 14 → Moves (w.heads k) q after took →
      Allows (served_by w.hub.slot) k w.left left →
      Step w (own_move k q) (moved_world w k q after took left)

abbrev pub Unused : Heads → Type 0
Unused ledger = (h : ℕ) → ((ledger h).promised ≡ None) × ((ledger h).credited ≡ 0)

pub data Run (ledger : Heads) : List Event → World → Type 0 where
  starts : Unused ledger → Run ledger [] (new_world ledger)
  goes_on : {es : List Event} {w v : World} {e : Event} → Run ledger es w → Step w e v → Run ledger (es ++ (e ∷ [])) v
