-- Own moves keep what is so of the money. Assumes nothing.
use Rattle.std.proofs.Common.{◌≡◌, ℕ, suc, ◌≤◌, Bool, true, false, cond, List, [], ◌∷◌, None, Option, refl, inl, inr, arith}
use Rattle.std.specs.List.{AllByRecursion}
use Rattle.std.proofs.ByRecursion.{All-weaker}
use Rattle.frame.specs.Frames.{Content}
use Rattle.sheet.specs.declared.sheet.Draft.{Draft}
use Rattle.ledger.specs.Held.{Held}
use Rattle.runs.specs.declared.Allowance.{Allowance}
use Rattle.runs.specs.declared.Allowance.TheVariants.{Free, One, Spent}
use Rattle.runs.specs.Worlds.{Taken, Past, Line, still, poll, answer, second, replied, HeardSlot}
use Rattle.runs.specs.Steps.{taking}
use Rattle.runs.specs.Law.{is_taken}
use Rattle.runs.proofs.Classes.{Class, Goes, stays, brought, refuses, ejects, takes, holds, forgets, again, Order, Told, tells}
use Rattle.runs.proofs.Kept.{Untaken, Agrees, Priced, Prompt, Kept, Calm, Boxed, Lies, Old, Heard, Ready, Safe, Awaits, Sent, ordered, setting, OnLine}

new_number : (b : ℕ) (ts : List Taken) → AllByRecursion (λ t. t.bill ≤ b) ts → is_taken (suc b) ts ≡ false
new_number b [] h = refl
new_number b (t ∷ ts) h = grind (arith, new_number b ts)

pub untaken_none : {o : Option ℕ} (bill : ℕ) (taken : List Taken) → o ≡ None → Untaken o bill taken
untaken_none bill taken none a some = cc

-- what is known of the promise of a bill that is on its way into the box
pub untaken_entering : {o : Option ℕ} (b bill : ℕ) (taken : List Taken) → bill ≡ b → is_taken b taken ≡ false → Untaken o bill taken
untaken_entering b bill taken is new a some = cc

-- how a move changes what is left: it has nothing to lose, or loses the one
pub data Loses : Allowance → Allowance → Type 0 where
  still_free : Loses Free Free
  the_one : Loses One Spent

calm_moves : {C D : Class} {x y : Bool} {c : ℕ} → Goes C D x y c → Calm C → Calm D
calm_moves go h = grind arith

boxed_moves : {C D : Class} {x y : Bool} {c : ℕ} → Goes C D x y c → Boxed C → Boxed D
boxed_moves go h = grind arith

safe_moves : {C D : Class} {x y : Bool} {c : ℕ} → Goes C D x y c → (v : Held) → Safe C v → Safe D v
safe_moves go v h = grind arith

module _ (sheet : Option Draft) (b n : ℕ) (v : Held) (p : Past) where
  -- the number of the latest bill, and what is remembered, after a move that brings a bill or takes it
  abbrev bill_after : Bool → ℕ
  bill_after brings = cond brings (suc b) b

  abbrev past_after : Bool → ℕ → Past
  past_after took c = taking took (record { bill = b; code = c; slot = n }) p

  below_moves : {C D : Class} {x y : Bool} {c : ℕ} → Goes C D x y c → AllByRecursion (λ t. t.bill ≤ b) p.taken → AllByRecursion (λ t. t.bill ≤ bill_after x) (past_after y c).taken
  below_moves go h = grind (arith, All-weaker)

  priced_moves : {C D : Class} {x y : Bool} {c : ℕ} → Goes C D x y c → Agrees C sheet b v p → Priced sheet p.taken → Priced sheet (past_after y c).taken
  priced_moves go a h = grind arith

  agrees_moves : {C D : Class} {x y : Bool} {c : ℕ} → Goes C D x y c → AllByRecursion (λ t. t.bill ≤ b) p.taken → Agrees C sheet b v p → Agrees D sheet (bill_after x) v (past_after y c)
  agrees_moves stays low h = h
  agrees_moves brought low h = (h.0, h.1, new_number b p.taken low)
  agrees_moves refuses low h = (h.0, h.1)
  agrees_moves ejects low h = (h.0, untaken_entering b p.promised p.taken h.3 h.4)
  agrees_moves takes low h = inr (h.2, h.3, h.0)
  agrees_moves holds low h = h
  agrees_moves forgets low h = (h.0, untaken_none p.promised p.taken h.1)
  agrees_moves again low h = inl h

  -- a bill that is taken now has no later slot yet
  prompt_takes : (h c : ℕ) (heard : List HeardSlot) → AllByRecursion (λ s. s.number ≤ n) heard → AllByRecursion (Prompt h p) heard → AllByRecursion (Prompt h (past_after true c)) heard
  prompt_takes h c [] low all = tt
  prompt_takes h c (s ∷ heard) low all = grind (arith, prompt_takes h c heard low.1 all.1)

  prompt_moves : (y : Bool) (h c : ℕ) (heard : List HeardSlot) → AllByRecursion (λ s. s.number ≤ n) heard → AllByRecursion (Prompt h p) heard → AllByRecursion (Prompt h (past_after y c)) heard
  prompt_moves y h c heard low all = grind (arith, prompt_takes)

  pub kept_moves : {C D : Class} {x y : Bool} {c : ℕ} → Goes C D x y c → (h : ℕ) (heard : List HeardSlot) → AllByRecursion (λ s. s.number ≤ n) heard →
      Kept h heard sheet C b v p → Kept h heard sheet D (cond x (suc b) b) v (taking y (record { bill = b; code = c; slot = n }) p)
  kept_moves {x = x} {y = y} {c = c} go h heard low k = record {
    below = below_moves go k.below;
    priced = priced_moves go k.agrees k.priced;
    agrees = agrees_moves go k.below k.agrees;
    prompt = prompt_moves y h c heard low k.prompt;
  }

  old_moves : (y : Bool) (c : ℕ) → Old n p → Old n (past_after y c)
  old_moves true c h = grind arith
  old_moves false c h = h

  lies_moves : {C D : Class} {x y : Bool} {c : ℕ} {l m : Allowance} → Goes C D x y c → Loses l m → (k i : ℕ) → Agrees C sheet b v p → Lies l k i C b p → Lies m k i D (bill_after x) (past_after y c)
  lies_moves go less k i a h = grind arith

  ready_moves : {C D : Class} {x y : Bool} {c : ℕ} {l m : Allowance} → Goes C D x y c → Loses l m → Ready l sheet C b v p → Ready m sheet D (bill_after x) v (past_after y c)
  ready_moves go less h = grind arith

  heard_moves : {C D : Class} {x y : Bool} {c : ℕ} {l m : Allowance} → Goes C D x y c → Loses l m → (s : Told) (i : ℕ) → Agrees C sheet b v p → Heard n l s i C b p → Heard n m s i D (bill_after x) (past_after y c)
  heard_moves go less s i a h = grind (arith, calm_moves, lies_moves, old_moves, boxed_moves)

  awaits_moves : {C D : Class} {x y : Bool} {c : ℕ} {l m : Allowance} → Goes C D x y c → Loses l m → (o : Order) → Awaits o l sheet C b v p → Awaits o m sheet D (bill_after x) v (past_after y c)
  awaits_moves go less o h = grind (arith, ready_moves, safe_moves)

  sent_moves : {C D : Class} {x y : Bool} {c : ℕ} {l m : Allowance} → Goes C D x y c → Loses l m → (f : Content) → Sent l sheet C b v p f → Sent m sheet D (bill_after x) v (past_after y c) f
  sent_moves go less f (ordered o h) = ordered o (awaits_moves go less o h)
  sent_moves go less f (setting s i is) = setting s i is

  pub line_moves : {C D : Class} {x y : Bool} {c : ℕ} {l m : Allowance} → Goes C D x y c → Loses l m → (line : Line) → Agrees C sheet b v p →
      OnLine n line l sheet C b v p → OnLine n line m sheet D (cond x (suc b) b) v (taking y (record { bill = b; code = c; slot = n }) p)
  line_moves go less still a h = tt
  line_moves go less poll a h = tt
  line_moves go less (answer from i) a h = heard_moves go less (tells from) i a h
  line_moves go less (second f) a h = sent_moves go less f h
  line_moves go less (replied o) a h = tt
