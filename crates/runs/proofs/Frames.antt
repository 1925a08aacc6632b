-- What the frames of a slot do to a head keeps what is so of the money. Assumes nothing.
use Rattle.std.proofs.Common.{◌≡◌, ℕ, true, List, is_some, None, Option, sym, subst, arith}
use Rattle.std.proofs.ByRecursion.{All-weaker}
use Rattle.frame.specs.Frames.{Content}
use Rattle.sheet.specs.declared.sheet.Draft.{Draft}
use Rattle.ledger.specs.Held.{Held}
use Rattle.head.specs.declared.phase.Phase.{Phase}
use Rattle.runs.specs.declared.Allowance.{Allowance}
use Rattle.runs.specs.declared.Allowance.TheVariants.{One}
use Rattle.runs.specs.Worlds.{Past, HeardSlot}
use Rattle.runs.proofs.Classes.{Class, class, boxed, stored, Order, Turns, phase_after, turns, setting_stays, tells}
use Rattle.runs.proofs.Kept.{AllSettled, Agrees, Kept, Old, Heard, Awaits, Sent, ordered, setting}

module _ (sheet : Option Draft) (b : ℕ) (v : Held) (p : Past) where
  -- where nothing is promised, a bill in the box is credited
  pub boxed_settled : v.promised ≡ None → Agrees boxed sheet b v p → Agrees stored sheet b v p
  boxed_settled none h = grind arith

  order_keeps : {o : Order} {C D : Class} → Turns o C D → (l : Allowance) → is_some sheet ≡ true → Awaits o l sheet C b v p → Agrees C sheet b v p → Agrees D sheet b v p
  order_keeps go l some r h = grind (arith, boxed_settled)

  frame_agrees : (q : Phase) (l : Allowance) (m : Content) → is_some sheet ≡ true → Sent l sheet (class q) b v p m → Agrees (class q) sheet b v p → Agrees (class (phase_after q m)) sheet b v p
  frame_agrees q l m some (ordered o r) h = order_keeps (turns o q) l some r h
  frame_agrees q l m some (setting s i is) h = subst (λ C. Agrees C sheet b v p) (sym (setting_stays s i m is q)) h

  pub frame_keeps : (h : ℕ) (heard : List HeardSlot) (q : Phase) (l : Allowance) (m : Content) → is_some sheet ≡ true → Sent l sheet (class q) b v p m →
      Kept h heard sheet (class q) b v p → Kept h heard sheet (class (phase_after q m)) b v p
  frame_keeps h heard q l m some sent k = record { below = k.below; priced = k.priced; agrees = frame_agrees q l m some sent k.agrees; prompt = k.prompt }

  -- if all bills taken are credited, then those taken before a slot are
  pub settled_old : (n : ℕ) → AllSettled sheet v p → Old n p
  settled_old n s = All-weaker _ _ (λ t h lt. h) p.taken s.all

  -- when the poll arrives, what the answer tells stands
  pub answer_stands : (n : ℕ) (q : Phase) → Agrees (class q) sheet b v p → Heard n One (tells q) b (class q) b p
  answer_stands n q h = let old : AllSettled sheet v p → Old n p = settled_old n in grind (arith, old)
