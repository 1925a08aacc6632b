-- First reports keep what is so of the money after each of their ledger calls, and leave the line as it should be. Assumes nothing.
use Rattle.std.proofs.Common.{◌≡◌, ℕ, zero, suc, ◌<◌, cond, List, [], ◌∷◌, ◌++◌, take, is_ok, Some, None, Ok, Err, Option, sym, refl, ap, subst, arith}
use Rattle.frame.specs.Frames.{Content}
use Rattle.sheet.specs.Settings.{settings_of, nth}
use Rattle.sheet.specs.Sheets.{draft_of, value_of}
use Rattle.sheet.specs.declared.sheet.Draft.{Draft}
use Rattle.sheet.specs.declared.sheet.Sheet.{Sheet}
use Rattle.sheet.proofs.Drafts.{value_on_draft}
use Rattle.ledger.specs.Held.{Held, Heads}
use Rattle.ledger.specs.Answers.{Answer, promise_answer, promised_after, settled_after, given_back_after}
use Rattle.ledger.proofs.CallLaws.{promise_accepted, settle_accepted, give_back_accepted, refused_changes_nothing}
use Rattle.ledger_calls.specs.Calls.{call_after}
use Rattle.ledger_calls.specs.declared.Call.{Call}
use Rattle.ledger_calls.specs.declared.Call.TheVariants.{Promise, Settle, GiveBack}
use Rattle.reaction.specs.Calls.{ending_of, if_called, calls_of, called_all, promise_made, from_ledger, verdict}
use Rattle.reaction.specs.Frames.{second_frame, stack_or_return}
use Rattle.reaction.specs.Reactions.{no_reaction}
use Rattle.reaction.specs.Setups.{next_setting}
use Rattle.reaction.specs.declared.reaction.Reaction.{Reaction}
use Rattle.reaction.specs.declared.setup.Setup.{Setup}
use Rattle.runs.specs.declared.Allowance.{Allowance}
use Rattle.runs.specs.Worlds.{Past, World}
use Rattle.runs.specs.Steps.{noted, noted_all, bill_answered, sending}
use Rattle.runs.specs.Law.{worth_on}
use Rattle.runs.proofs.Classes.{Class, class, stack, back, reset, acknowledge, order_content, Told, Reacts, back_only, back_setting, back_reset, back_stack, back_return, idles, idles_setting, settles, settles_reset}
use Rattle.runs.proofs.Kept.{AllSettled, Kept, Calm, Boxed, Lies, Old, Heard, Ready, Safe, ordered, setting, OnLine}
use Rattle.runs.proofs.Frames.{settled_old}
use Rattle.runs.proofs.Calls.{end_accepted, settled_past, promised_past, agrees_back, agrees_promise, all_settled, agrees_settled, settled_unpromised, calm_settled, lies_calm, prompt_settled}

calm_safe : (C : Class) (v : Held) → Calm C → Safe C v
calm_safe C v k = grind arith

boxed_safe : (C : Class) (v : Held) → v.promised ≡ None → Boxed C → Safe C v
boxed_safe C v none k = grind arith

-- the value promised is what the bill is worth on the sheet
promised_worth_lem : (sheet : Option Draft) (s : Sheet) (c value : ℕ) → sheet ≡ Some (draft_of s) → value_of s c ≡ Some value → value ≡ worth_on sheet c
promised_worth_lem sheet s c value is worth = grind (arith, value_on_draft)

ready : (l : Allowance) (sheet : Option Draft) (C : Class) (b c i value : ℕ) (v : Held) (p : Past) → value ≡ worth_on sheet c → v.promised ≡ Some value → Lies l c i C b p → Ready l sheet C b v (promised_past i p)
ready l sheet C b c i value v p worth is k = grind arith

-- Of head h, while the slot is for it.
module _ (w : World) (h : ℕ) where
  abbrev sheet : Option Draft
  sheet = w.memory.sheets h

  abbrev its_class : Class
  its_class = class (w.heads h).phase

  -- the number of its latest bill, and of the one that lay in escrow when its status was answered
  abbrev latest : ℕ
  latest = w.memory.bills h

  abbrev pub lay : ℕ
  lay = bill_answered w.line

  abbrev pub KeptWith : Held → Past → Type 0
  KeptWith v p = Kept h w.memory.heard (w.memory.sheets h) (class (w.heads h).phase) (w.memory.bills h) v p

  -- it awaits the second frame as it should
  abbrev pub LineWith : Option Content → Held → Past → Type 0
  LineWith sent v p = OnLine w.memory.opened (sending sent) w.left (w.memory.sheets h) (class (w.heads h).phase) (w.memory.bills h) v p

  -- what is so stays so after each call, and Q is so after the last
  abbrev pub Through : (Held → Past → Type 0) → List Call → Heads → Past → Type 0
  Through Q [] t p = KeptWith (t h) p × Q (t h) p
  Through Q (c ∷ cs) t p = KeptWith (t h) p × Through Q cs (call_after t h c) (noted lay t h c p)

  pub through_all : (Q : Held → Past → Type 0) (cs : List Call) (t : Heads) (p : Past) → Through Q cs t p → KeptWith (called_all t h cs h) (noted_all lay t h cs p) × Q (called_all t h cs h) (noted_all lay t h cs p)
  through_all Q [] t p f = f
  through_all Q (c ∷ cs) t p f = through_all Q cs (call_after t h c) (noted lay t h c p) f.1

  pub through_some : (Q : Held → Past → Type 0) (k : ℕ) (cs : List Call) (t : Heads) (p : Past) → Through Q cs t p → KeptWith (called_all t h (take k cs) h) (noted_all lay t h (take k cs) p)
  through_some Q zero [] t p f = f.0
  through_some Q zero (c ∷ cs) t p f = f.0
  through_some Q (suc k) [] t p f = f.0
  through_some Q (suc k) (c ∷ cs) t p f = through_some Q k cs (call_after t h c) (noted lay t h c p) f.1

  -- ENDING A PROMISE

  -- given back, if there is one
  back_then : (Q : Heads → Held → Past → Type 0) (cs : List Call) (t : Heads) (p : Past) (o : Option ℕ) → (t h).promised ≡ o → h < 14 → Calm its_class → KeptWith (t h) p →
      ((u : Heads) → KeptWith (u h) p → Through (Q u) cs u p) →
      Through (Q (called_all t h (if_called (ending_of (Some GiveBack) o)))) (if_called (ending_of (Some GiveBack) o) ++ cs) t p
  back_then Q cs t p None is in_hub k g next = next t g
  back_then Q cs t p (Some a) is in_hub k g next =
      let gone = (give_back_accepted t h (end_accepted t h a in_hub is)).1 in (
        g,
        next (given_back_after t h) (record {
          below = g.below;
          priced = g.priced;
          agrees = agrees_back sheet latest (t h) (given_back_after t h h) p its_class gone.after gone.credited k g.agrees;
          prompt = g.prompt;
        }),
      )

  -- settled, if there is one
  settle_then : (Q : Held → Past → Type 0) (t : Heads) (p : Past) (o : Option ℕ) → (t h).promised ≡ o → h < 14 → Boxed its_class → KeptWith (t h) p →
      ((v : Held) (q : Past) → v.promised ≡ None → AllSettled sheet v q → Q v q) → Through Q (if_called (ending_of (Some Settle) o) ++ []) t p
  settle_then Q t p None is in_hub k g last = (g, last (t h) p is (settled_unpromised sheet latest (t h) p its_class is k g.agrees))
  settle_then Q t p (Some x) is in_hub k g last =
      let ok = end_accepted t h x in_hub is in
      let gone = (settle_accepted t h ok).1 in
      let v = settled_after t h h in
      let all = all_settled sheet latest (t h) v p its_class (settle_accepted t h ok).0 gone.before gone.credited k g.agrees in (
        g,
        subst (λ y. Through Q [] (settled_after t h) (cond y (settled_past p) p)) (sym ok) (
          record {
            below = g.below;
            priced = g.priced;
            agrees = agrees_settled sheet latest v (settled_past p) its_class gone.after k all;
            prompt = prompt_settled h p w.memory.heard g.prompt;
          },
          last v (settled_past p) gone.after all,
        ),
      )

  no_ending : (Q : Held → Past → Type 0) (t : Heads) (p : Past) (o : Option ℕ) → KeptWith (t h) p → Q (t h) p → Through Q (if_called (ending_of None o) ++ []) t p
  no_ending Q t p o g q = grind arith

  -- PROMISING THE BILL IN ESCROW

  -- after the report: bills taken before this slot are credited, and the head awaits the frame sent as it should
  abbrev pub Reported : Option Content → Held → Past → Type 0
  Reported sent v p = Old w.memory.opened p × LineWith sent v p

  abbrev Answered : Answer → Held → Past → Type 0
  Answered r v p = Reported (Some (stack_or_return (from_ledger r))) v p

  promise_then : (c value : ℕ) → value ≡ worth_on sheet c → (t : Heads) (p : Past) → Lies w.left c lay its_class latest p → Old w.memory.opened p → KeptWith (t h) p → Through (Answered (promise_answer t 0 h value)) (Promise value ∷ []) t p
  promise_then c value worth t p k old g = (g, go (promise_answer t 0 h value) refl)
    where
      go : (r : Answer) → promise_answer t 0 h value ≡ r → Through (Answered r) [] (promised_after t h value) (cond (is_ok r) (promised_past lay p) p)
      go (Ok done) e =
          let made = promise_accepted t 0 h value (ap is_ok e) in (
            record {
              below = g.below;
              priced = g.priced;
              agrees = agrees_promise sheet latest (t h) (promised_after t h value h) p its_class w.left c lay made.credited k g.agrees;
              prompt = g.prompt;
            },
            (old, ordered stack (ready w.left sheet its_class latest c lay value (promised_after t h value h) p worth made.after k)),
          )
      go (Err f) e = subst (λ u. Through (Answered (Err f)) [] u p) (sym (refused_changes_nothing.promise t 0 h value (ap is_ok e))) (g, (old, ordered back tt))

  -- ALL REACTIONS

  calm_old : (v : Held) (p : Past) → Calm its_class → KeptWith v p → Old w.memory.opened p
  calm_old v p k g = settled_old sheet latest v p w.memory.opened (calm_settled sheet latest v p its_class k g.agrees)

  back_done : (sent : Option Content) (t : Heads) (p : Past) → h < 14 → Calm its_class → KeptWith (t h) p → ((v : Held) → LineWith sent v p) → Through (Reported sent) (if_called (ending_of (Some GiveBack) (t h).promised) ++ []) t p
  back_done sent t p in_hub k g line = back_then (λ u. Reported sent) [] t p (t h).promised refl in_hub k g (λ u kept. (kept, (calm_old (u h) p k kept, line (u h))))

  settled_done : (sent : Option Content) (t : Heads) (p : Past) → h < 14 → Boxed its_class → KeptWith (t h) p → ((v : Held) (q : Past) → Safe its_class v → LineWith sent v q) → Through (Reported sent) (if_called (ending_of (Some Settle) (t h).promised) ++ []) t p
  settled_done sent t p in_hub k g line =
      settle_then (Reported sent) t p (t h).promised refl in_hub k g (λ v q none all. (settled_old sheet latest v q w.memory.opened all, line v q (boxed_safe its_class v none k)))

  setting_line : (s : Sheet) (i : ℕ) (o : Option Content) → nth (settings_of s) i ≡ o → (v : Held) (p : Past) → LineWith o v p
  setting_line s i None is v p = tt
  setting_line s i (Some m) is v p = setting s i is

  next_line : (u : Setup) (v : Held) (p : Past) → LineWith (next_setting u) v p
  next_line u v p = setting_line u.sheet u.confirmed (next_setting u) refl v p

  pub answer_goes : (u : Setup) → sheet ≡ Some (draft_of u.sheet) → h < 14 → {s : Told} {r : Reaction} → Reacts u s r → (t : Heads) (p : Past) → KeptWith (t h) p → Heard w.memory.opened w.left s lay its_class latest p →
      Through (Reported (second_frame u r.reply (verdict r.reply (promise_made t 0 h r)))) (calls_of r (t h).promised) t p
  answer_goes u is in_hub back_only t p g k = back_done None t p in_hub k g (λ v. tt)
  answer_goes u is in_hub back_setting t p g k = back_done (next_setting u) t p in_hub k g (λ v. next_line u v p)
  answer_goes u is in_hub back_reset t p g k = back_done (Some (order_content reset)) t p in_hub k g (λ v. ordered reset (calm_safe its_class v k))
  answer_goes u is in_hub (back_stack {c} {value} worth) t p g k =
      let calm = lies_calm w.left its_class c lay latest p k in
      back_then (λ x. Answered (promise_answer x 0 h value)) (Promise value ∷ []) t p (t h).promised refl in_hub calm g
      (λ x kept. promise_then c value (promised_worth_lem sheet u.sheet c value is worth) x p k (calm_old (x h) p calm kept) kept)
  answer_goes u is in_hub (back_return {c}) t p g k = back_done (Some (order_content back)) t p in_hub (lies_calm w.left its_class c lay latest p k) g (λ v. ordered back tt)
  answer_goes u is in_hub idles t p g k = no_ending (Reported None) t p (t h).promised g (k, tt)
  answer_goes u is in_hub idles_setting t p g k = no_ending (Reported (next_setting u)) t p (t h).promised g (k, next_line u (t h) p)
  answer_goes u is in_hub settles t p g k = settled_done (Some (order_content acknowledge)) t p in_hub k g (λ v q safe. ordered acknowledge safe)
  answer_goes u is in_hub settles_reset t p g k = settled_done (Some (order_content reset)) t p in_hub k g (λ v q safe. ordered reset safe)

  -- where nothing is heard, nothing is called
  pub nothing_goes : (t : Heads) (p : Past) → KeptWith (t h) p → Through (λ v q. Unit {0}) (calls_of no_reaction (t h).promised) t p
  nothing_goes t p g = no_ending (λ v q. Unit {0}) t p (t h).promised g tt
