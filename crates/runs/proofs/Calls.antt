-- What each ledger call of a first report does to the money of its head. Assumes nothing.
use Rattle.std.proofs.Common.{◌≡◌, ℕ, ◌+◌, ◌<◌, true, List, [], ◌∷◌, is_ok, Some, None, Option, refl, arith}
use Rattle.std.specs.List.{AllByRecursion}
use Rattle.std.proofs.ByRecursion.{All-weaker}
use Rattle.sheet.specs.declared.sheet.Draft.{Draft}
use Rattle.ledger.specs.Held.{Held, Heads}
use Rattle.ledger.specs.Answers.{end_answer}
use Rattle.ledger.specs.Laws.{OthersStay}
use Rattle.ledger.proofs.CallLaws.{ends_as_listed, promise_accepted, settle_accepted, give_back_accepted, refused_changes_nothing}
use Rattle.ledger_calls.specs.Calls.{call_after}
use Rattle.ledger_calls.specs.declared.Call.{Call}
use Rattle.ledger_calls.specs.declared.Call.TheVariants.{Promise, Settle, GiveBack}
use Rattle.reaction.specs.Calls.{called_all}
use Rattle.runs.specs.declared.Allowance.{Allowance}
use Rattle.runs.specs.Worlds.{Taken, Past, HeardSlot}
use Rattle.runs.specs.Law.{is_among}
use Rattle.runs.proofs.Classes.{Class}
use Rattle.runs.proofs.Kept.{Settled, AllSettled, Owing, Agrees, Prompt, Calm, Boxed, Lies}
use Rattle.runs.proofs.OwnMoves.{untaken_none}
use Rattle.runs.proofs.Frames.{boxed_settled}

-- THE OTHER HEADS

call_others : (t : Heads) (h : ℕ) (c : Call) → OthersStay h t (call_after t h c)
call_others t h (Promise a) k ne = grind (arith, promise_accepted, refused_changes_nothing)
call_others t h Settle k ne = grind (arith, settle_accepted, refused_changes_nothing)
call_others t h GiveBack k ne = grind (arith, give_back_accepted, refused_changes_nothing)

pub calls_others : (t : Heads) (h : ℕ) (cs : List Call) → OthersStay h t (called_all t h cs)
calls_others t h [] k ne = refl
calls_others t h (c ∷ cs) k ne = grind (arith, call_others t h c k ne, calls_others (call_after t h c) h cs k ne)

-- ENDING A PROMISE

-- what is promised for a head can be ended
pub end_accepted : (t : Heads) (h a : ℕ) → h < 14 → (t h).promised ≡ Some a → is_ok (end_answer t h) ≡ true
end_accepted t h a lt is = grind (arith, ends_as_listed)

-- OF ONE HEAD

-- what is remembered of a head once its promise is settled, and once the bill i is promised
abbrev pub settled_past : Past → Past
settled_past p = record { promised = p.promised; taken = p.taken; credited = p.promised ∷ p.credited }

abbrev pub promised_past : ℕ → Past → Past
promised_past i p = record { promised = i; taken = p.taken; credited = p.credited }

grows : (b x : ℕ) (xs : List ℕ) → is_among b xs ≡ true → is_among b (x ∷ xs) ≡ true
grows b x xs h = grind arith

-- settling what is owed
owed_settled : (sheet : Option Draft) (v : Held) (a bill : ℕ) (credited : List ℕ) (taken : List Taken) → v.promised ≡ Some a → Owing sheet v bill credited taken → Settled sheet (v.credited + a) (bill ∷ credited) taken
owed_settled sheet v a bill credited [] is h = absurd h
owed_settled sheet v a bill credited (t ∷ ts) is h = record { sum = grind arith; all = grind (arith, All-weaker, grows) }

module _ (sheet : Option Draft) (b : ℕ) (v v' : Held) (p : Past) where
  pub agrees_back : (C : Class) → v'.promised ≡ None → v'.credited ≡ v.credited → Calm C → Agrees C sheet b v p → Agrees C sheet b v' p
  agrees_back C none total k h = grind (arith, untaken_none)

  pub agrees_promise : (C : Class) (l : Allowance) (c i : ℕ) → v'.credited ≡ v.credited → Lies l c i C b p → Agrees C sheet b v p → Agrees C sheet b v' (promised_past i p)
  agrees_promise C l c i total k h = grind (arith, untaken_none)

  pub all_settled : (C : Class) (a : ℕ) → v.promised ≡ Some a → v'.credited ≡ v.credited + a → Boxed C → Agrees C sheet b v p → AllSettled sheet v' (settled_past p)
  all_settled C a is total k h = let owing : Owing sheet v p.promised p.credited p.taken → Settled sheet (v.credited + a) (p.promised ∷ p.credited) p.taken = owed_settled sheet v a p.promised p.credited p.taken is in grind (arith, owing)

pub agrees_settled : (sheet : Option Draft) (b : ℕ) (v : Held) (p : Past) (C : Class) → v.promised ≡ None → Boxed C → AllSettled sheet v p → Agrees C sheet b v p
agrees_settled sheet b v p C none k h = grind arith

pub settled_unpromised : (sheet : Option Draft) (b : ℕ) (v : Held) (p : Past) (C : Class) → v.promised ≡ None → Boxed C → Agrees C sheet b v p → AllSettled sheet v p
settled_unpromised sheet b v p C none k h = grind (arith, boxed_settled)

pub calm_settled : (sheet : Option Draft) (b : ℕ) (v : Held) (p : Past) (C : Class) → Calm C → Agrees C sheet b v p → AllSettled sheet v p
calm_settled sheet b v p C k h = grind arith

pub lies_calm : (l : Allowance) (C : Class) (c i b : ℕ) (p : Past) → Lies l c i C b p → Calm C
lies_calm l C c i b p h = grind arith

pub prompt_settled : (h : ℕ) (p : Past) (heard : List HeardSlot) → AllByRecursion (Prompt h p) heard → AllByRecursion (Prompt h (settled_past p)) heard
prompt_settled h p heard all =
    All-weaker (Prompt h p) (Prompt h (settled_past p))
    (λ s k here. All-weaker (λ t. t.slot < s.number → is_among t.bill p.credited ≡ true) (λ t. t.slot < s.number → is_among t.bill (p.promised ∷ p.credited) ≡ true) (λ t f lt. grows t.bill p.promised p.credited (f lt)) p.taken (k here))
    heard all
