-- Every step keeps what is so of the money. Assumes nothing.
use Rattle.std.proofs.Common.{◌≡◌, ℕ, suc, ◌<◌, ◌≤◌, Bool, true, cond, eqb, List, ◌∷◌, take, is_some, Some, None, Ok, Err, Option, Result, sym, refl, ap, ◌∙◌, subst, subst₂, inl, inr, arith}
use Rattle.std.proofs.ByRecursion.{All-weaker}
use Rattle.frame.specs.Frames.{Content}
use Rattle.sheet.specs.declared.fault.SheetFault.{SheetFault}
use Rattle.sheet.specs.declared.sheet.Draft.{Draft}
use Rattle.sheet.specs.declared.sheet.Sheet.{Sheet}
use Rattle.ledger_calls.specs.declared.Call.{Call}
use Rattle.reaction.specs.Calls.{calls_of, called_all, promise_made, verdict}
use Rattle.reaction.specs.Frames.{second_frame}
use Rattle.reaction.specs.Reactions.{no_reaction, reaction_to}
use Rattle.reaction.specs.declared.reaction.Reaction.{Reaction}
use Rattle.reaction.specs.declared.setup.Setup.{Setup}
use Rattle.head.specs.Answers.{head_after}
use Rattle.head.specs.Moves.{Moves, held_byte}
use Rattle.head.specs.Phases.{held, status}
use Rattle.head.specs.declared.head.Head.{Head}
use Rattle.head.specs.declared.phase.Phase.{Phase}
use Rattle.hub.specs.States.{served_by, setup_of, first_of, second_of}
use Rattle.hub.specs.Heads.{admission_answer, admitted_by, dismissal_answer, dismissed_by}
use Rattle.hub.specs.Slots.{opening_answer}
use Rattle.hub.specs.Passes.{FirstPass}
use Rattle.hub.specs.Refusals.{CutRefusal, SecondRefusal}
use Rattle.hub.specs.Reports.{reaction_in, sent_by, check, first_check}
use Rattle.hub.specs.declared.pass.Opening.{Opening}
use Rattle.hub.specs.declared.refusal.AdmissionRefusal.{AdmissionRefusal}
use Rattle.hub.specs.declared.refusal.DismissalRefusal.{DismissalRefusal}
use Rattle.hub.specs.declared.refusal.FirstRefusal.{FirstRefusal}
use Rattle.hub.specs.declared.refusal.OpeningRefusal.{OpeningRefusal}
use Rattle.runs.specs.declared.Allowance.{Allowance}
use Rattle.runs.specs.declared.Allowance.TheVariants.{Free, One}
use Rattle.runs.specs.Worlds.{Past, still, answer, second, HeardSlot, Mark, World}
use Rattle.runs.specs.Steps.{Event, with_marks, with_past, memory_admitting, memory_dismissing, noted_all, bill_answered, heard_answer, bringing, taking, opened_world, sending, reported_world, ended_world, cut_world, answered_world, obeyed_world, moved_world, FairlyHeard, SameSheet, Allows, elsewhere, freely, once, Step, admits, dismisses, opens, reports, ends, cuts, restarts, poll_arrives, second_arrives, moves}
use Rattle.ledger.proofs.CallLaws.{some_of}
use Rattle.runs.proofs.Basics.{same_some, at_eq}
use Rattle.runs.proofs.HubInvariant.{HubKept}
use Rattle.runs.proofs.Classes.{class, move_goes, tells, reacts}
use Rattle.runs.proofs.Kept.{Kept, Heard, OnLine, KeptOf, LineOf, MoneyKept, MoneyKeptIn}
use Rattle.runs.proofs.OwnMoves.{Loses, still_free, the_one, kept_moves, line_moves}
use Rattle.runs.proofs.Frames.{frame_keeps, answer_stands}
use Rattle.runs.proofs.Calls.{calls_others}
use Rattle.runs.proofs.Reports.{lay, KeptWith, Through, through_all, through_some, Reported, answer_goes, nothing_goes}
use Rattle.runs.proofs.Sheets.{sheet_keeps}
use Rattle.runs.proofs.Served.{first_for, cut_for, hears, admits_closed}

-- WHAT IS LEFT TO THE HEAD SERVED

loses : {served : Option ℕ} {k : ℕ} {l m : Allowance} → Allows served k l m → served ≡ Some k → Loses l m
loses (elsewhere ne) is = absurd (ne is)
loses freely is = still_free
loses (once _) is = the_one

others_keep : {served : Option ℕ} {k : ℕ} {l m : Allowance} → Allows served k l m → (h : ℕ) → (h ≡ k → ⊥) → served ≡ Some h → l ≡ m
others_keep (elsewhere _) h ne is = refl
others_keep freely h ne is = refl
others_keep (once here) h ne is = absurd (ne (same_some is here))

module _ (w : World) (hub : HubKept w) (inv : MoneyKeptIn w) where
  -- ADMISSION AND DISMISSAL

  admitted : (n : ℕ) (d : Draft) (checked : Result Sheet SheetFault) (r : Result (Unit {0}) AdmissionRefusal) → admission_answer w.hub n checked ≡ r → (r ≡ Ok tt → SameSheet (w.memory.sheets n) d) →
      MoneyKept (served_by (admitted_by w.hub n checked r).slot) w.ledger w.heads w.line w.left (memory_admitting w.memory n d (admitted_by w.hub n checked r) checked r)
  admitted n d (Ok sheet) (Ok tt) e same = record {
    kept =
        at_eq (λ h b. Kept h w.memory.heard (cond b (Some d) (w.memory.sheets h)) (class (w.heads h).phase) (w.memory.bills h) (w.ledger h) (w.memory.pasts h)) n
        (sheet_keeps n w.memory.heard (w.memory.sheets n) d (class (w.heads n).phase) (w.memory.bills n) (w.ledger n) (w.memory.pasts n) (same refl) (inv.kept n))
        (λ h ne. inv.kept h);
    inside = λ h is. cc (sym (admits_closed w.hub n (Ok sheet) e) ∙ is);
    numbers = inv.numbers;
  }
  admitted n d (Ok sheet) (Err f) e same = inv
  admitted n d (Err fault) r e same = inv

  dismissed : (n : ℕ) (r : Result (Unit {0}) DismissalRefusal) → MoneyKept (served_by (dismissed_by w.hub n r).slot) w.ledger w.heads w.line w.left (memory_dismissing w.memory n (dismissed_by w.hub n r) r)
  dismissed n (Ok done) = record { kept = inv.kept; inside = inv.inside; numbers = inv.numbers }
  dismissed n (Err e) = inv

  -- SLOTS

  opened : (wish : ℕ) (r : Result Opening OpeningRefusal) → MoneyKeptIn (opened_world w wish r)
  opened wish (Ok o) = record {
    kept = inv.kept;
    inside = λ h is. tt;
    numbers = All-weaker (λ s. s.number ≤ w.memory.opened) (λ s. s.number ≤ suc w.memory.opened) (λ s le. omega arith) w.memory.heard inv.numbers;
  }
  opened wish (Err e) = inv

  ended : (bs : List ℕ) (r : Result ℕ SecondRefusal) → MoneyKeptIn (ended_world w bs r)
  ended bs (Ok h) = record { kept = inv.kept; inside = λ k is. cc; numbers = inv.numbers }
  ended bs (Err e) = inv

  restarted_so : (marks : List Mark) → MoneyKept None w.ledger w.heads still Free (with_marks w.memory marks)
  restarted_so marks = record { kept = inv.kept; inside = λ h is. cc; numbers = inv.numbers }

  -- FIRST REPORTS

  module _ (h : ℕ) (is : served_by w.hub.slot ≡ Some h) where
    in_hub : h < 14
    in_hub = (hub.served h is).0

    abbrev calls_to : Reaction → List Call
    calls_to r = calls_of r (w.ledger h).promised

    abbrev past_after : List Call → Past
    past_after cs = noted_all (lay w h) w.ledger h cs (w.memory.pasts h)

    -- all heads, after calls for this one, with the slots heard until then
    all_kept : (heard : List HeardSlot) (cs : List Call) →
        Kept h heard (w.memory.sheets h) (class (w.heads h).phase) (w.memory.bills h) (called_all w.ledger h cs h) (past_after cs) →
        ((k : ℕ) → (k ≡ h → ⊥) → Kept k heard (w.memory.sheets k) (class (w.heads k).phase) (w.memory.bills k) (w.ledger k) (w.memory.pasts k)) →
        (k : ℕ) → Kept k heard (w.memory.sheets k) (class (w.heads k).phase) (w.memory.bills k) (called_all w.ledger h cs k) (cond (eqb k h) (past_after cs) (w.memory.pasts k))
    all_kept heard cs here there =
        at_eq (λ k x. Kept k heard (w.memory.sheets k) (class (w.heads k).phase) (w.memory.bills k) (called_all w.ledger h cs k) (cond x (past_after cs) (w.memory.pasts k))) h here
        (λ k ne. subst (λ v. Kept k heard (w.memory.sheets k) (class (w.heads k).phase) (w.memory.bills k) v (w.memory.pasts k)) (sym (calls_others w.ledger h cs k ne)) (there k ne))

    -- one more slot heard, which is not for head k
    not_mine : (s : HeardSlot) (k : ℕ) → (k ≡ s.head → ⊥) → KeptOf w.ledger w.heads w.memory k →
        Kept k (s ∷ w.memory.heard) (w.memory.sheets k) (class (w.heads k).phase) (w.memory.bills k) (w.ledger k) (w.memory.pasts k)
    not_mine s k ne g = record { below = g.below; priced = g.priced; agrees = g.agrees; prompt = ((λ e. absurd (ne (sym e))), g.prompt) }

    -- a report, and a cut after n of its calls, where the setup is u and o is heard
    abbrev ReportedTo : Option Setup → Option Content → Type 0
    ReportedTo u o =
        let r = reaction_in u o in
        MoneyKept (Some h) (called_all w.ledger h (calls_to r)) w.heads (sending (sent_by u r (verdict r.reply (promise_made w.ledger 0 h r)))) w.left
        (heard_answer (with_past w.memory h (past_after (calls_to r))) h o)

    abbrev CutAt : ℕ → List Mark → Option Setup → Option Content → Type 0
    CutAt n marks u o =
        let cs = take n (calls_to (reaction_in u o)) in
        MoneyKept None (called_all w.ledger h cs) w.heads still Free (with_marks (with_past w.memory h (past_after cs)) marks)

    cut_after : (n : ℕ) (marks : List Mark) (cs : List Call) → KeptWith w h (called_all w.ledger h (take n cs) h) (past_after (take n cs)) →
        MoneyKept None (called_all w.ledger h (take n cs)) w.heads still Free (with_marks (with_past w.memory h (past_after (take n cs))) marks)
    cut_after n marks cs g = record {
      kept = all_kept w.memory.heard (take n cs) g (λ k ne. inv.kept k);
      inside = λ k e. cc;
      numbers = inv.numbers;
    }

    nothing_through : Through w h (λ v p. Unit {0}) (calls_to no_reaction) w.ledger (w.memory.pasts h)
    nothing_through = nothing_goes w h w.ledger (w.memory.pasts h) (inv.kept h)

    reported_nothing : (u : Setup) → ReportedTo (Some u) None
    reported_nothing u = record {
      kept = all_kept w.memory.heard (calls_to no_reaction) (through_all w h (λ v p. Unit {0}) (calls_to no_reaction) w.ledger (w.memory.pasts h) nothing_through).0 (λ k ne. inv.kept k);
      inside = λ k e. tt;
      numbers = inv.numbers;
    }

    cut_nothing : (n : ℕ) (marks : List Mark) (u : Setup) → CutAt n marks (Some u) None
    cut_nothing n marks u = cut_after n marks (calls_to no_reaction) (through_some w h (λ v p. Unit {0}) n (calls_to no_reaction) w.ledger (w.memory.pasts h) nothing_through)

    -- the head's answer is heard
    module _ (u : Setup) (set-up : setup_of w.hub h ≡ Some u) (from : Phase) (bill : ℕ) (answers : w.line ≡ answer from bill) where
      abbrev r : Reaction
      r = reaction_to u (status from)

      abbrev sent : Option Content
      sent = second_frame u r.reply (verdict r.reply (promise_made w.ledger 0 h r))

      -- what it told stands
      stands : Heard w.memory.opened w.left (tells from) (lay w h) (class (w.heads h).phase) (w.memory.bills h) (w.memory.pasts h)
      stands =
          subst (λ i. Heard w.memory.opened w.left (tells from) i (class (w.heads h).phase) (w.memory.bills h) (w.memory.pasts h)) (sym (ap bill_answered answers))
          (subst (λ line. LineOf w.ledger w.heads line w.left w.memory h) answers (inv.inside h is))

      answer_through : Through w h (Reported w h sent) (calls_to r) w.ledger (w.memory.pasts h)
      answer_through = answer_goes w h u (hub.sheets h u set-up) in_hub (reacts u from) w.ledger (w.memory.pasts h) (inv.kept h) stands

      reported_answer : ReportedTo (Some u) (Some (status from))
      reported_answer =
          let done = through_all w h (Reported w h sent) (calls_to r) w.ledger (w.memory.pasts h) answer_through in
          let now : HeardSlot = record { number = w.memory.opened; head = h } in
          record {
            kept =
                all_kept (now ∷ w.memory.heard) (calls_to r)
                (record { below = done.0.below; priced = done.0.priced; agrees = done.0.agrees; prompt = ((λ e. done.1.0), done.0.prompt) })
                (λ k ne. not_mine now k ne (inv.kept k));
            inside =
                at_eq (λ k x. Some h ≡ Some k → OnLine w.memory.opened (sending sent) w.left (w.memory.sheets k) (class (w.heads k).phase) (w.memory.bills k) (called_all w.ledger h (calls_to r) k) (cond x (past_after (calls_to r)) (w.memory.pasts k))) h
                (λ e. done.1.1)
                (λ k ne e. absurd (ne (sym (same_some refl e))));
            numbers = (omega arith, inv.numbers);
          }

      cut_answer : (n : ℕ) (marks : List Mark) → CutAt n marks (Some u) (Some (status from))
      cut_answer n marks = cut_after n marks (calls_to r) (through_some w h (Reported w h sent) n (calls_to r) w.ledger (w.memory.pasts h) answer_through)

    -- the head served has a setup
    its_setup : (u : Setup) × (setup_of w.hub h ≡ Some u)
    its_setup = some_of (setup_of w.hub h) (hub.served h is).1

    reported_for : (bs : List ℕ) → FairlyHeard w.line bs → MoneyKeptIn (reported_world w bs (Ok h))
    reported_for bs fair =
        let (u, set-up) = its_setup in
        elim (hears w.line bs fair) [
          | inl none ↦ subst₂ ReportedTo (sym set-up) (sym none) (reported_nothing u)
          | inr x ↦ subst₂ ReportedTo (sym set-up) (sym x.3) (reported_answer u set-up x.0 x.1 x.2)
        ]

    cut_during : (bs : List ℕ) (n : ℕ) → FairlyHeard w.line bs → MoneyKeptIn (cut_world w bs n (Ok h))
    cut_during bs n fair =
        let (u, set-up) = its_setup in
        elim (hears w.line bs fair) [
          | inl none ↦ subst₂ (CutAt n _) (sym set-up) (sym none) (cut_nothing n _ u)
          | inr x ↦ subst₂ (CutAt n _) (sym set-up) (sym x.3) (cut_answer u set-up x.0 x.1 x.2 n _)
        ]

    -- FRAMES

    poll_answered : MoneyKeptIn (answered_world w h)
    poll_answered = record {
      kept = inv.kept;
      inside = λ k e.
          subst (λ z. Heard w.memory.opened One (tells (w.heads h).phase) (w.memory.bills h) (class (w.heads z).phase) (w.memory.bills z) (w.memory.pasts z)) (same_some is e)
          (answer_stands (w.memory.sheets h) (w.memory.bills h) (w.ledger h) (w.memory.pasts h) w.memory.opened (w.heads h).phase (inv.kept h).agrees);
      numbers = inv.numbers;
    }

    has_sheet : is_some (w.memory.sheets h) ≡ true
    has_sheet =
        let (u, set-up) = its_setup in
        ap is_some (hub.sheets h u set-up)

    frame_obeyed : (m : Content) → w.line ≡ second m → MoneyKeptIn (obeyed_world w h m)
    frame_obeyed m sends = record {
      kept =
          at_eq (λ k x. Kept k w.memory.heard (w.memory.sheets k) (class (cond x (head_after (w.heads h) m) (w.heads k)).phase) (w.memory.bills k) (w.ledger k) (w.memory.pasts k)) h
          (frame_keeps (w.memory.sheets h) (w.memory.bills h) (w.ledger h) (w.memory.pasts h) h w.memory.heard (w.heads h).phase w.left m has_sheet
          (subst (λ line. LineOf w.ledger w.heads line w.left w.memory h) sends (inv.inside h is)) (inv.kept h))
          (λ k ne. inv.kept k);
      inside = λ k e. tt;
      numbers = inv.numbers;
    }

  -- OWN MOVES

  moved : (k : ℕ) (q : Phase) (after : Head) (took : Bool) (left : Allowance) → Moves (w.heads k) q after took → Allows (served_by w.hub.slot) k w.left left → MoneyKeptIn (moved_world w k q after took left)
  moved k q after took left move allows =
      let go = move_goes (w.heads k) q after took move in
      let bill = bringing q (w.memory.bills k) in
      let past = taking took (record { bill = w.memory.bills k; code = held_byte (held q); slot = w.memory.opened }) (w.memory.pasts k) in
      record {
        kept =
            at_eq (λ h x. Kept h w.memory.heard (w.memory.sheets h) (class (cond x after (w.heads h)).phase) (cond x bill (w.memory.bills h)) (w.ledger h) (cond x past (w.memory.pasts h))) k
            (kept_moves (w.memory.sheets k) (w.memory.bills k) w.memory.opened (w.ledger k) (w.memory.pasts k) go k w.memory.heard inv.numbers (inv.kept k))
            (λ h ne. inv.kept h);
        inside =
            at_eq (λ h x. served_by w.hub.slot ≡ Some h → OnLine w.memory.opened w.line left (w.memory.sheets h) (class (cond x after (w.heads h)).phase) (cond x bill (w.memory.bills h)) (w.ledger h) (cond x past (w.memory.pasts h))) k
            (λ e. line_moves (w.memory.sheets k) (w.memory.bills k) w.memory.opened (w.ledger k) (w.memory.pasts k) go (loses allows e) w.line (inv.kept k).agrees (inv.inside k e))
            (λ h ne e. subst (λ l. LineOf w.ledger w.heads w.line l w.memory h) (others_keep allows h ne e) (inv.inside h e));
        numbers = inv.numbers;
      }

  -- EVERY STEP

  reported : (p : FirstPass) (bs : List ℕ) (room : ℕ) → ((h : ℕ) → first_check w.hub p bs room ≡ Ok h → FairlyHeard w.line bs) → MoneyKeptIn (reported_world w bs (first_check w.hub p bs room))
  reported p bs room fair = go (first_check w.hub p bs room) refl
    where
      go : (r : Result ℕ FirstRefusal) → first_check w.hub p bs room ≡ r → MoneyKeptIn (reported_world w bs r)
      go (Ok h) e = reported_for h (first_for w.hub p bs room h e) bs (fair h e)
      go (Err f) e = inv

  cut_off : (p : FirstPass) (bs : List ℕ) (n : ℕ) → ((h : ℕ) → check first_of w.hub p bs ≡ Ok h → FairlyHeard w.line bs) → MoneyKeptIn (cut_world w bs n (check first_of w.hub p bs))
  cut_off p bs n fair = go (check first_of w.hub p bs) refl
    where
      go : (r : Result ℕ CutRefusal) → check first_of w.hub p bs ≡ r → MoneyKeptIn (cut_world w bs n r)
      go (Ok h) e = cut_during h (cut_for w.hub p bs h e) bs n (fair h e)
      go (Err f) e = inv

  pub step_keeps : {v : World} {e : Event} → Step w e v → MoneyKeptIn v
  step_keeps (admits n d checked told same) = admitted n d checked (admission_answer w.hub n checked) refl same
  step_keeps (dismisses n) = dismissed n (dismissal_answer w.hub n)
  step_keeps (opens wish room) = opened wish (opening_answer w.hub wish room)
  step_keeps (reports p bs room fair) = reported p bs room fair
  step_keeps (ends p bs) = ended bs (check second_of w.hub p bs)
  step_keeps (cuts p bs n fair) = cut_off p bs n fair
  step_keeps restarts = restarted_so _
  step_keeps (poll_arrives h polled is) = poll_answered h is
  step_keeps (second_arrives h m sends is) = frame_obeyed h is m sends
  step_keeps (moves k q after took left _ move allows) = moved k q after took left move allows
