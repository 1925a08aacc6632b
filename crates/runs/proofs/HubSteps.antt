-- Every step keeps what a run keeps of the hub, so the law of turns stands at every moment of every run. Assumes nothing.
use Rattle.std.proofs.Common.{◌≡◌, ℕ, ◌<◌, ◌≤◌, Bool, true, false, cond, eqb, ltb, List, [], ◌∷◌, ◌++◌, map, length, set, is_some, is_ok, Some, None, Ok, Err, Option, Result, sym, refl, ap, ◌∙◌, subst, ⊎_elim, arith}
use Rattle.std.specs.Option.{option_map}
use Rattle.std.proofs.lemmas.Bool.{ltb-false, eq-eqb, ne_eqb, cases_eq, cond-true, cond-false}
use Rattle.std.proofs.lemmas.List.{get_or-set_other, length-set}
use Rattle.frame.specs.Frames.{Content}
use Rattle.orders.specs.Choice.{Chosen, chosen}
use Rattle.orders.specs.Slots.{lowered_turn, lowered, restored, after_slot}
use Rattle.orders.specs.Tables.{Table, turn_of, is_admitted, is_empty, empty_table, without_head}
use Rattle.orders.proofs.Changes.{inside, at_set, turn_lowered, some_mapped}
use Rattle.orders.proofs.Choice.{chosen_right}
use Rattle.orders.proofs.Counting.{counts_decide_orders_lem, turn_without, turn_others}
use Rattle.orders.proofs.Keeps.{Keeps}
use Rattle.turns.specs.Calls.{if_accepted, number_answer}
use Rattle.turns.specs.Calls as turns
use Rattle.turns.specs.Runs.{after_call, slot_of}
use Rattle.turns.specs.declared.fault.AdmissionFault.{AdmissionFault}
use Rattle.turns.specs.declared.fault.DismissalFault.{DismissalFault}
use Rattle.turns.proofs.Invariant.{none_replicated, not_in_empty}
use Rattle.turns.proofs.Outcomes.{number_accepted, after_admission_lem, after_dismissal_lem}
use Rattle.sheet.specs.Sheets.{draft_of, right_sheet, sheet_answer, told}
use Rattle.sheet.specs.declared.fault.SheetFault.{SheetFault}
use Rattle.sheet.specs.declared.fault.SheetFault.TheVariants.{SheetWrong}
use Rattle.sheet.specs.declared.sheet.Draft.{Draft}
use Rattle.sheet.specs.declared.sheet.Sheet.{Sheet}
use Rattle.ledger.specs.Held.{Heads}
use Rattle.reaction.specs.Reactions.{setup_replied, setup_after}
use Rattle.reaction.specs.Setups.{setting_if, is_echo, one_more, setup_hearing, fresh_setup}
use Rattle.reaction.specs.declared.reaction.Reply.{Reply}
use Rattle.reaction.specs.declared.reaction.Reply.TheVariants as reply
use Rattle.reaction.specs.declared.setup.Setup.{Setup}
use Rattle.hub.specs.States.{HubState, new_state, restarted, served_by, is_open, setup_of, first_of, second_of}
use Rattle.hub.specs.Heads.{admission_answer, admitted_by, with_head, unless_turned_down, checked_answer, dismissal_answer, dismissed_by, unless_kept}
use Rattle.hub.specs.Heads as hub
use Rattle.hub.specs.Passes.{FirstPass, SecondPass}
use Rattle.hub.specs.Refusals.{CutRefusal, SecondRefusal}
use Rattle.hub.specs.Slots.{opened_for, opening_answer, after_opening}
use Rattle.hub.specs.Reports.{heard_in, status_in, first_reaction, check, first_check, after_first, sent_in}
use Rattle.hub.specs.declared.pass.Opening.{Opening}
use Rattle.hub.specs.declared.refusal.AdmissionRefusal.{AdmissionRefusal}
use Rattle.hub.specs.declared.refusal.DismissalRefusal.{DismissalRefusal}
use Rattle.hub.specs.declared.refusal.FirstRefusal.{FirstRefusal}
use Rattle.hub.specs.declared.refusal.OpeningRefusal.{OpeningRefusal}
use Rattle.hub.specs.declared.state.Slot.{Slot}
use Rattle.hub.specs.declared.state.Slot.TheVariants.{Closed}
use Rattle.runs.specs.Worlds.{Mark, Memory, World, put, new_world}
use Rattle.runs.specs.Steps.{Event, Step, admits, dismisses, opens, reports, ends, cuts, restarts, poll_arrives, second_arrives, moves, Run, starts, goes_on, memory_admitting, memory_dismissing, heard_answer, admitted_world, dismissed_world, opened_world, reported_world, ended_world, cut_world, restarted_world}
use Rattle.runs.specs.Law.{table_after, EveryHeadGetsItsTurn, WishesPassedOverRightly}
use Rattle.runs.proofs.Basics.{passed}
use Rattle.runs.proofs.HubInvariant.{Faithful, HubKept}
use Rattle.runs.proofs.Served.{first_for, second_for}
use Rattle.runs.proofs.Marks.{table_append, faithful_append, marks_keep, rounds_kept, wishes_kept}

-- WHAT AN ACCEPTED CALL TELLS

-- an admission: the number is a head's, and the sheet is the one that was checked
admitted_number : (s : HubState) (n : ℕ) (sheet : Sheet) (done : Unit {0}) → admission_answer s n (Ok sheet) ≡ Ok done → n ≤ 13
admitted_number s n sheet done is =
    (number_accepted s.table n (in_turn (number_answer s.table n) (passed (is_open s.slot) _ _ done is).1)).0
  where
    in_turn : (r : Result (Unit {0}) AdmissionFault) → unless_turned_down r (checked_answer s n (Ok sheet)) ≡ Ok done → is_ok r ≡ true
    in_turn (Ok _) is = refl
    in_turn (Err e) is = cc

sheet_told : (b : Bool) (d e : Draft) → Ok e ≡ cond b (Ok d) (Err SheetWrong) → e ≡ d
sheet_told true d e is = cc
sheet_told false d e is = cc

-- a dismissal: no slot is open, the number is a head's, and the head is admitted no more
dismissed_idle : (s : HubState) (n : ℕ) (done : Unit {0}) → dismissal_answer s n ≡ Ok done → is_open s.slot ≡ false
dismissed_idle s n done is = (passed (is_open s.slot) _ _ done is).0

dismissed_turn : (s : HubState) (n : ℕ) (done : Unit {0}) → dismissal_answer s n ≡ Ok done → turns.dismissal_answer s.table n ≡ Ok tt
dismissed_turn s n done is = in_turn (turns.dismissal_answer s.table n) (passed (is_open s.slot) _ _ done is).1
  where
    in_turn : (r : Result (Unit {0}) DismissalFault) → unless_kept r ≡ Ok done → r ≡ Ok tt
    in_turn (Ok _) is = refl
    in_turn (Err e) is = cc

dismissed_number : (t : Table) (n : ℕ) → turns.dismissal_answer t n ≡ Ok tt → n ≤ 13
dismissed_number t n is = ltb-false 13 n (passed (ltb 13 n) _ _ tt is).0

dismissed_gone : (t : Table) (n : ℕ) → turns.dismissal_answer t n ≡ Ok tt → is_admitted (turns.after_dismissal t n) n ≡ false
dismissed_gone t n is = ap (λ r. is_admitted (if_accepted r (without_head t n) t) n) is ∙ ap is_some (turn_without t n)

-- an opening: the head is the one chosen
abbrev head_in : Result Opening OpeningRefusal → Option ℕ
head_in (Ok o) = Some o.head
head_in (Err e) = None

opened_chosen : (s : HubState) (wish room : ℕ) (o : Opening) → opening_answer s wish room ≡ Ok o → chosen s.table wish ≡ Some o.head
opened_chosen s wish room o is =
    let idle = (passed (is_open s.slot) _ _ o is).1 in
    let some = (passed (is_empty s.table) _ _ o idle).1 in
    let fits = (passed (ltb room 5) _ _ o some).1 in
    found (chosen s.table wish) fits
  where
    found : (choice : Option ℕ) → opened_for s choice ≡ Ok o → choice ≡ Some o.head
    found (Some h) is = ap head_in is
    found None is = cc

-- THE PARTS OF WHAT IS KEPT

-- what the hub knows of its heads, where `sheets` is remembered
record HeadsKept (s : HubState) (sheets : ℕ → Option Draft) : Type 0 where
  places : length s.setups ≡ 14
  admitted : (h : ℕ) → is_admitted s.table h ≡ true → is_some (setup_of s h) ≡ true
  served : (h : ℕ) → served_by s.slot ≡ Some h → (h < 14) × (is_some (setup_of s h) ≡ true)
  known : (h : ℕ) (u : Setup) → setup_of s h ≡ Some u → sheets h ≡ Some (draft_of u.sheet)

-- the marks tell of the table
record MarksKept (t : Table) (ms : List Mark) : Type 0 where
  table : t ≡ table_after empty_table ms
  faithful : Faithful empty_table ms

heads_of : {w : World} → HubKept w → HeadsKept w.hub w.memory.sheets
heads_of kept = record { places = kept.places; admitted = kept.admitted; served = kept.served; known = kept.sheets }

marks_of : {w : World} → HubKept w → MarksKept w.hub.table w.memory.marks
marks_of kept = record { table = kept.table; faithful = kept.faithful }

both_kept : {w : World} → HeadsKept w.hub w.memory.sheets → MarksKept w.hub.table w.memory.marks → HubKept w
both_kept heads marks = record {
  places = heads.places;
  admitted = heads.admitted;
  served = heads.served;
  sheets = heads.known;
  table = marks.table;
  faithful = marks.faithful;
}

-- MARKS

marked_kept : (t : Table) (ms : List Mark) (m : Mark) → MarksKept t ms → m.table ≡ after_call t m.call → m.served ≡ slot_of t m.call → MarksKept m.table (ms ++ (m ∷ []))
marked_kept t ms m kept next slot = record {
  table = sym (table_append empty_table ms (m ∷ []));
  faithful = faithful_append empty_table ms (m ∷ []) kept.faithful (subst (λ u. Faithful u (m ∷ [])) kept.table (next, slot, tt));
}

table_keeps : (t : Table) (ms : List Mark) → MarksKept t ms → Keeps t
table_keeps t ms kept = subst Keeps (sym kept.table) (marks_keep ms kept.faithful)

-- NO HEAD

none_kept : (s : HubState) (sheets : ℕ → Option Draft) → HeadsKept (restarted s) sheets
none_kept s sheets = record {
  places = refl;
  admitted = λ h in'. cc (sym (not_in_empty h) ∙ in');
  served = λ h is. cc;
  known = λ h u is. cc (sym (none_replicated 14 h) ∙ is);
}

-- ONE HEAD

admitted_kept : (s : HubState) (sheets : ℕ → Option Draft) (n : ℕ) (sheet : Sheet) (d : Draft) → HeadsKept s sheets → n ≤ 13 → draft_of sheet ≡ d → HeadsKept (with_head s n sheet) (put n (Some d) sheets)
admitted_kept s sheets n sheet d kept low same =
    let lt : n < length s.setups = omega (arith, kept.places) in
    let new : Option Setup = Some (fresh_setup sheet) in
    record {
      places = length-set s.setups n new ∙ kept.places;
      admitted = at_set (λ h u. is_admitted (turns.after_admission s.table n sheet.limit) h ≡ true → is_some u ≡ true) s.setups n new lt
          (λ _. refl)
          (λ h ne in'. kept.admitted h (admitted_before h ne in'));
      served = at_set (λ h u. served_by s.slot ≡ Some h → (h < 14) × (is_some u ≡ true)) s.setups n new lt
          (λ _. (omega arith, refl))
          (λ h ne. kept.served h);
      known = at_set (λ h u. (v : Setup) → u ≡ Some v → put n (Some d) sheets h ≡ Some (draft_of v.sheet)) s.setups n new lt
          (λ v is. let own : fresh_setup sheet ≡ v = cc in
          cond-true (eqb n n) (Some d) (sheets n) (eq-eqb n n refl) ∙ ap Some (sym same ∙ ap (λ u. draft_of u.sheet) own))
          (λ h ne v is. cond-false (eqb h n) (Some d) (sheets h) (ne_eqb h n ne) ∙ kept.known h v is);
    }
  where
    admitted_before : (h : ℕ) → (h ≡ n → ⊥) → is_admitted (turns.after_admission s.table n sheet.limit) h ≡ true → is_admitted s.table h ≡ true
    admitted_before h ne =
        after_admission_lem (λ t. is_admitted t h ≡ true → is_admitted s.table h ≡ true) s.table n (λ in'. in') sheet.limit
        (λ _ _ _ in'. sym (ap is_some (get_or-set_other s.table n h _ None ne)) ∙ in')

dismissed_kept : (s : HubState) (sheets : ℕ → Option Draft) (n : ℕ) → HeadsKept s sheets → is_open s.slot ≡ false → turns.dismissal_answer s.table n ≡ Ok tt → HeadsKept (hub.without_head s n) sheets
dismissed_kept s sheets n kept idle gone =
    let lt : n < length s.setups = omega (arith, kept.places, dismissed_number s.table n gone) in
    record {
      places = length-set s.setups n None ∙ kept.places;
      admitted = at_set (λ h u. is_admitted (turns.after_dismissal s.table n) h ≡ true → is_some u ≡ true) s.setups n None lt
          (λ in'. sym (dismissed_gone s.table n gone) ∙ in')
          (λ h ne in'. kept.admitted h (admitted_before h ne in'));
      served = λ h is. cc (sym idle ∙ ap is_some is);
      known = at_set (λ h u. (v : Setup) → u ≡ Some v → sheets h ≡ Some (draft_of v.sheet)) s.setups n None lt
          (λ v is. cc)
          (λ h ne. kept.known h);
    }
  where
    admitted_before : (h : ℕ) → (h ≡ n → ⊥) → is_admitted (turns.after_dismissal s.table n) h ≡ true → is_admitted s.table h ≡ true
    admitted_before h ne =
        after_dismissal_lem (λ t. is_admitted t h ≡ true → is_admitted s.table h ≡ true) s.table n (λ in'. in')
        (λ _ in'. sym (ap is_some (turn_others s.table n h ne)) ∙ in')

-- A SLOT

-- the head chosen is admitted
chosen_admitted : (t : Table) (wish h : ℕ) → Keeps t → chosen t wish ≡ Some h → is_admitted t h ≡ true
chosen_admitted t wish h keeps is =
    ((counts_decide_orders_lem.starts t h).0 (subst (Chosen t wish) is (chosen_right t wish keeps)).starts).0

-- a slot admits no head
admitted_before_slot : (t : Table) (g h : ℕ) → is_admitted t g ≡ true → is_admitted (after_slot t (Some g)) h ≡ true → is_admitted t h ≡ true
admitted_before_slot t g h own in' =
    ⊎_elim
    (λ e. subst (λ k. is_admitted t k ≡ true) (sym e) own)
    (λ ne.
    sym (some_mapped lowered_turn (turn_of t h))
    ∙ sym (ap is_some (get_or-set_other (map lowered t) g h (restored (turn_of t g)) None ne ∙ turn_lowered t h))
    ∙ in')
    (cases_eq h g)

opened_kept : (s : HubState) (sheets : ℕ → Option Draft) (wish : ℕ) (o : Opening) → HeadsKept s sheets → Keeps s.table → chosen s.table wish ≡ Some o.head → HeadsKept (after_opening s wish (Ok o)) sheets
opened_kept s sheets wish o kept keeps is =
    let own = chosen_admitted s.table wish o.head keeps is in
    record {
      places = kept.places;
      admitted = λ h in'. kept.admitted h (admitted_before_slot s.table o.head h own (subst (λ slot. is_admitted (after_slot s.table slot) h ≡ true) is in'));
      served = λ h e.
          let same : o.head ≡ h = cc in
          subst (λ k. (k < 14) × (is_some (setup_of s k) ≡ true)) same
          (omega (arith, inside s.table o.head own, keeps.1.2), kept.admitted o.head own);
      known = kept.known;
    }

-- REPORTS

-- a setup changed but for its sheet
known_mapped : (f : Setup → Setup) → ((u : Setup) → (f u).sheet ≡ u.sheet) → (sheet : Option Draft) (o : Option Setup) → ((u : Setup) → o ≡ Some u → sheet ≡ Some (draft_of u.sheet)) → (v : Setup) → option_map f o ≡ Some v → sheet ≡ Some (draft_of v.sheet)
known_mapped f same sheet None known v is = cc
known_mapped f same sheet (Some u) known v is =
    let own : f u ≡ v = cc in
    known u refl ∙ ap (λ x. Some (draft_of x)) (sym (same u) ∙ ap (λ x. x.sheet) own)

-- the head served has its setup changed but for the sheet, and goes on being served or not
reported_kept : (s : HubState) (sheets : ℕ → Option Draft) (h : ℕ) (f : Setup → Setup) (next : Slot) → HeadsKept s sheets → served_by s.slot ≡ Some h → ((u : Setup) → (f u).sheet ≡ u.sheet) → ((k : ℕ) → served_by next ≡ Some k → served_by s.slot ≡ Some k) → HeadsKept (record { table = s.table; setups = set s.setups h (option_map f (setup_of s h)); slot = next; count = s.count }) sheets
reported_kept s sheets h f next kept own same before =
    let (low, some) = kept.served h own in
    let lt : h < length s.setups = omega (arith, kept.places) in
    let new = option_map f (setup_of s h) in
    let stays = some_mapped f (setup_of s h) ∙ some in
    record {
      places = length-set s.setups h new ∙ kept.places;
      admitted = at_set (λ k u. is_admitted s.table k ≡ true → is_some u ≡ true) s.setups h new lt
          (λ _. stays)
          (λ k ne. kept.admitted k);
      served = at_set (λ k u. served_by next ≡ Some k → (k < 14) × (is_some u ≡ true)) s.setups h new lt
          (λ _. (low, stays))
          (λ k ne is. kept.served k (before k is));
      known = at_set (λ k u. (v : Setup) → u ≡ Some v → sheets k ≡ Some (draft_of v.sheet)) s.setups h new lt
          (known_mapped f same (sheets h) (setup_of s h) (kept.known h))
          (λ k ne. kept.known k);
    }

replied_sheet : (u : Setup) (r : Reply) → (setup_replied u r).sheet ≡ u.sheet
replied_sheet u reply.Nothing = refl
replied_sheet u reply.NextSetting = refl
replied_sheet u (reply.Stack value) = refl
replied_sheet u (reply.Return cause) = refl
replied_sheet u reply.Acknowledge = refl
replied_sheet u reply.Reset = refl

hearing_sheet : (sent heard : Option Content) (u : Setup) → (setup_hearing sent heard u).sheet ≡ u.sheet
hearing_sheet sent heard u = echoed (is_echo sent heard)
  where
    echoed : (b : Bool) → (cond b (one_more u) u).sheet ≡ u.sheet
    echoed true = refl
    echoed false = refl

-- what is heard changes neither sheets nor marks
heard_sheets : (m : Memory) (h : ℕ) (heard : Option Content) → (heard_answer m h heard).sheets ≡ m.sheets
heard_sheets m h None = refl
heard_sheets m h (Some s) = refl

heard_marks : (m : Memory) (h : ℕ) (heard : Option Content) → (heard_answer m h heard).marks ≡ m.marks
heard_marks m h None = refl
heard_marks m h (Some s) = refl

-- EVERY STEP

-- the world after an admission that was answered r
abbrev admitted_as : World → ℕ → Draft → Sheet → Result (Unit {0}) AdmissionRefusal → World
admitted_as w n d sheet r = record {
  hub = admitted_by w.hub n (Ok sheet) r;
  ledger = w.ledger;
  heads = w.heads;
  line = w.line;
  left = w.left;
  memory = memory_admitting w.memory n d (admitted_by w.hub n (Ok sheet) r) (Ok sheet) r;
}

admission_keeps : (w : World) (n : ℕ) (d : Draft) (checked : Result Sheet SheetFault) → told checked ≡ sheet_answer d → HubKept w → HubKept (admitted_world w n d checked)
admission_keeps w n d (Err fault) by kept = kept
admission_keeps w n d (Ok sheet) by kept = answered (admission_answer w.hub n (Ok sheet)) refl
  where
    answered : (r : Result (Unit {0}) AdmissionRefusal) → admission_answer w.hub n (Ok sheet) ≡ r → HubKept (admitted_as w n d sheet r)
    answered (Ok done) is =
        let same = sheet_told (right_sheet d) d (draft_of sheet) by in
        both_kept
        (admitted_kept w.hub w.memory.sheets n sheet d (heads_of kept) (admitted_number w.hub n sheet done is) same)
        (marked_kept w.hub.table w.memory.marks _ (marks_of kept) refl refl)
    answered (Err e) is = kept

-- the same of a dismissal
abbrev dismissed_as : World → ℕ → Result (Unit {0}) DismissalRefusal → World
dismissed_as w n r = record {
  hub = dismissed_by w.hub n r;
  ledger = w.ledger;
  heads = w.heads;
  line = w.line;
  left = w.left;
  memory = memory_dismissing w.memory n (dismissed_by w.hub n r) r;
}

dismissal_keeps : (w : World) (n : ℕ) → HubKept w → HubKept (dismissed_world w n)
dismissal_keeps w n kept = answered (dismissal_answer w.hub n) refl
  where
    answered : (r : Result (Unit {0}) DismissalRefusal) → dismissal_answer w.hub n ≡ r → HubKept (dismissed_as w n r)
    answered (Ok done) is =
        both_kept
        (dismissed_kept w.hub w.memory.sheets n (heads_of kept) (dismissed_idle w.hub n done is) (dismissed_turn w.hub n done is))
        (marked_kept w.hub.table w.memory.marks _ (marks_of kept) refl refl)
    answered (Err e) is = kept

opening_keeps : (w : World) (wish room : ℕ) (r : Result Opening OpeningRefusal) → opening_answer w.hub wish room ≡ r → HubKept w → HubKept (opened_world w wish r)
opening_keeps w wish room (Ok o) is kept =
    let slot = opened_chosen w.hub wish room o is in
    both_kept
    (opened_kept w.hub w.memory.sheets wish o (heads_of kept) (table_keeps w.hub.table w.memory.marks (marks_of kept)) slot)
    (marked_kept w.hub.table w.memory.marks _ (marks_of kept) refl (sym slot))
opening_keeps w wish room (Err e) is kept = kept

first_keeps : (w : World) (p : FirstPass) (bs : List ℕ) (room : ℕ) (r : Result ℕ FirstRefusal) → first_check w.hub p bs room ≡ r → HubKept w → HubKept (reported_world w bs r)
first_keeps w p bs room (Ok h) is kept =
    let own = first_for w.hub p bs room h is in
    let reaction = first_reaction w.hub h bs in
    both_kept
    (subst (HeadsKept (after_first w.hub (Ok h) bs)) (sym (heard_sheets _ h (status_in bs)))
    (reported_kept w.hub w.memory.sheets h (λ u. setup_after u reaction) _ (heads_of kept) own
    (λ u. replied_sheet u reaction.reply)
    (λ k e. own ∙ e)))
    (subst (MarksKept w.hub.table) (sym (heard_marks _ h (status_in bs))) (marks_of kept))
first_keeps w p bs room (Err e) is kept = kept

second_keeps : (w : World) (p : SecondPass) (bs : List ℕ) (r : Result ℕ SecondRefusal) → check second_of w.hub p bs ≡ r → HubKept w → HubKept (ended_world w bs r)
second_keeps w p bs (Ok h) is kept =
    both_kept
    (reported_kept w.hub w.memory.sheets h (λ u. setup_hearing (setting_if (sent_in w.hub.slot) u) (heard_in bs) u) Closed (heads_of kept)
    (second_for w.hub p bs h is)
    (λ u. hearing_sheet (setting_if (sent_in w.hub.slot) u) (heard_in bs) u)
    (λ k e. cc))
    (marks_of kept)
second_keeps w p bs (Err e) is kept = kept

cut_keeps : (w : World) (bs : List ℕ) (n : ℕ) (r : Result ℕ CutRefusal) → HubKept w → HubKept (cut_world w bs n r)
cut_keeps w bs n (Ok h) kept =
    both_kept (none_kept w.hub w.memory.sheets) (marked_kept w.hub.table w.memory.marks _ (marks_of kept) refl refl)
cut_keeps w bs n (Err e) kept = kept

restart_keeps : (w : World) → HubKept w → HubKept (restarted_world w)
restart_keeps w kept =
    both_kept (none_kept w.hub w.memory.sheets) (marked_kept w.hub.table w.memory.marks _ (marks_of kept) refl refl)

step_keeps : (w : World) {e : Event} {v : World} → Step w e v → HubKept w → HubKept v
step_keeps w (admits n d checked by same) kept = admission_keeps w n d checked by kept
step_keeps w (dismisses n) kept = dismissal_keeps w n kept
step_keeps w (opens wish room) kept = opening_keeps w wish room (opening_answer w.hub wish room) refl kept
step_keeps w (reports p bs room fair) kept = first_keeps w p bs room (first_check w.hub p bs room) refl kept
step_keeps w (ends p bs) kept = second_keeps w p bs (check second_of w.hub p bs) refl kept
step_keeps w (cuts p bs n fair) kept = cut_keeps w bs n (check first_of w.hub p bs) kept
step_keeps w restarts kept = restart_keeps w kept
step_keeps w (poll_arrives h line served) kept = both_kept (heads_of kept) (marks_of kept)
step_keeps w (second_arrives h m line served) kept = both_kept (heads_of kept) (marks_of kept)
step_keeps w (moves k q after took left low move allows) kept = both_kept (heads_of kept) (marks_of kept)

-- EVERY RUN

start_keeps : (ledger : Heads) → HubKept (new_world ledger)
start_keeps ledger = both_kept (none_kept new_state (new_world ledger).memory.sheets) (record { table = refl; faithful = tt })

pub hub_kept : (ledger : Heads) (es : List Event) {w : World} → Run ledger es w → HubKept w
hub_kept ledger es (starts unused) = start_keeps ledger
hub_kept ledger es (goes_on run step) = step_keeps _ step (hub_kept ledger _ run)

pub turns_part : (ledger : Heads) (es : List Event) (w : World) → Run ledger es w → EveryHeadGetsItsTurn w × WishesPassedOverRightly w
turns_part ledger es w run = let kept = hub_kept ledger es run in (rounds_kept w kept, wishes_kept w kept)
