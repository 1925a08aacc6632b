-- The books of a ledger: what any calls, made in order, come to.
--
--   Fate                 what a call came to: so much promised, settled or given back, or refused
--   Entry                a line of the journal: the head and what its call came to
--   journal t cs         the journal of the calls cs, made in order of a ledger that holds t at first
--   accepted_in es       how many entries are not refusals
--   sum_for worth h es   the sum of `worth` over the entries of head h
--   Balanced t es u      from t to u by the entries es: for each head
--                        · the credited total has grown by what was settled, and by nothing else;
--                        · what was promised at first and since is what was settled, was given back or is still promised;
--                        · each promise has taken a place, and each give-back has freed one
--   RefusedCallsLeaveNoTrace
--                        calls with a refused one among them leave what the others leave
--
-- Assumes nothing.
use Rattle.std.specs.Prelude.{◌≡◌, ℕ, ◌+◌, false, cond, List, [], ◌∷◌, ◌++◌, is_ok, ◌==◌}
use Rattle.std.specs.Option.{unwrap_or}
use Rattle.ledger.specs.Held.{Held, Heads}
use Rattle.ledger_calls.specs.Calls.{call_answer, call_after, after_all}
use Rattle.ledger_calls.specs.declared.Call.{Call}
use Rattle.ledger_calls.specs.declared.Call.TheVariants.{Promise, Settle, GiveBack}
use Rattle.ledger_calls.specs.declared.HeadCall.{HeadCall}

pub data Fate : Type 0 where
  promised : (amount : ℕ) → Fate
  settled : (amount : ℕ) → Fate
  given_back : (amount : ℕ) → Fate
  refused : Fate

pub record Entry : Type 0 where
  pub head : ℕ
  pub fate : Fate

-- what is promised, 0 for none
abbrev pub owed : Held → ℕ
owed v = unwrap_or v.promised 0

-- what an accepted call comes to
abbrev pub fate_of : Held → Call → Fate
fate_of v (Promise a) = promised a
fate_of v Settle = settled (owed v)
fate_of v GiveBack = given_back (owed v)

abbrev pub entry_of : Heads → HeadCall → Entry
entry_of t c = record {
  head = c.head;
  fate = cond (is_ok (call_answer t 0 c.head c.call)) (fate_of (t c.head) c.call) refused;
}

unfoldable pub journal : Heads → List HeadCall → List Entry
journal t [] = []
journal t (c ∷ cs) = entry_of t c ∷ journal (call_after t c.head c.call) cs

abbrev pub one : Fate → ℕ
one (promised a) = 1
one (settled a) = 1
one (given_back a) = 1
one refused = 0

unfoldable pub accepted_in : List Entry → ℕ
accepted_in [] = 0
accepted_in (e ∷ es) = one e.fate + accepted_in es

unfoldable pub sum_for : (Fate → ℕ) → ℕ → List Entry → ℕ
sum_for worth h [] = 0
sum_for worth h (e ∷ es) = cond (h == e.head) (worth e.fate) 0 + sum_for worth h es

-- what an entry is worth as a promise, as a settling and as a give-back, and what it does to the places
abbrev pub promised_worth : Fate → ℕ
promised_worth (promised a) = a
promised_worth (settled a) = 0
promised_worth (given_back a) = 0
promised_worth refused = 0

abbrev pub settled_worth : Fate → ℕ
settled_worth (promised a) = 0
settled_worth (settled a) = a
settled_worth (given_back a) = 0
settled_worth refused = 0

abbrev pub given_back_worth : Fate → ℕ
given_back_worth (promised a) = 0
given_back_worth (settled a) = 0
given_back_worth (given_back a) = a
given_back_worth refused = 0

abbrev pub places_taken : Fate → ℕ
places_taken (promised a) = 1
places_taken (settled a) = 0
places_taken (given_back a) = 0
places_taken refused = 0

abbrev pub places_freed : Fate → ℕ
places_freed (promised a) = 0
places_freed (settled a) = 0
places_freed (given_back a) = 1
places_freed refused = 0

pub record BalancedAt (t : Heads) (es : List Entry) (u : Heads) (h : ℕ) : Type 0 where
  pub credited : (u h).credited ≡ (t h).credited + sum_for settled_worth h es
  pub promises : owed (t h) + sum_for promised_worth h es ≡ (sum_for settled_worth h es + sum_for given_back_worth h es) + owed (u h)
  pub places : (t h).places + sum_for places_freed h es ≡ (u h).places + sum_for places_taken h es

abbrev pub Balanced : Heads → List Entry → Heads → Type 0
Balanced t es u = (h : ℕ) → BalancedAt t es u h

abbrev pub RefusedCallsLeaveNoTrace : Type 0
RefusedCallsLeaveNoTrace =
    (t : Heads) (before : List HeadCall) (c : HeadCall) (rest : List HeadCall) (d : ℕ) →
    is_ok (call_answer (after_all t before) d c.head c.call) ≡ false →
    after_all t (before ++ (c ∷ rest)) ≡ after_all t (before ++ rest)
