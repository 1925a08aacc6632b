-- The books balance over any calls. Assumes nothing.
use Rattle.std.proofs.Common.{◌≡◌, ℕ, ◌+◌, ◌<◌, ◌≤◌, false, cond, List, [], ◌∷◌, length, get_or, drop, is_ok, sym, ap, ◌∙◌, add-one, arith, drop-cons}
use Rattle.std.proofs.lemmas.List.{drop_all}
use Rattle.std.proofs.lemmas.Bool.Decides.{nat_tests}
use Rattle.ledger.specs.Held.{Heads}
use Rattle.ledger.specs.Answers.{Answer}
use Rattle.ledger_calls.specs.Calls.{call_answer, call_after, after_all}
use Rattle.ledger_calls.specs.Books.{Fate, refused, Entry, fate_of, entry_of, journal, one, accepted_in, sum_for, BalancedAt, Balanced, RefusedCallsLeaveNoTrace}
use Rattle.ledger_calls.specs.declared.Call.{Call}
use Rattle.ledger_calls.specs.declared.Call.TheVariants.{Promise, Settle, GiveBack}
use Rattle.ledger_calls.specs.declared.HeadCall.{HeadCall}
use Rattle.ledger.proofs.CallLaws.{refused_changes_nothing}

pub refused_stays : (t : Heads) (d h : ℕ) (c : Call) → is_ok (call_answer t d h c) ≡ false → call_after t h c ≡ t
refused_stays t d h (Promise a) is = refused_changes_nothing.promise t d h a is
refused_stays t d h Settle is = refused_changes_nothing.settle t h is
refused_stays t d h GiveBack is = refused_changes_nothing.give_back t h is

-- the entry of one call, made of a head's fate
abbrev line : ℕ → Fate → List Entry
line h f = record { head = h; fate = f } ∷ []

step : (t : Heads) (k : ℕ) (c : Call) (h : ℕ) → BalancedAt t (line k (cond (is_ok (call_answer t 0 k c)) (fate_of (t k) c) refused)) (call_after t k c) h
unfolding sum_for
step t k (Promise a) h = record { credited = grind (arith, nat_tests); promises = grind (arith, nat_tests); places = grind (arith, nat_tests) }
step t k Settle h = record { credited = grind (arith, nat_tests); promises = grind (arith, nat_tests); places = grind (arith, nat_tests) }
step t k GiveBack h = record { credited = grind (arith, nat_tests); promises = grind (arith, nat_tests); places = grind (arith, nat_tests) }

join : (t s u : Heads) (e : Entry) (es : List Entry) (h : ℕ) → BalancedAt t (e ∷ []) s h → BalancedAt s es u h → BalancedAt t (e ∷ es) u h
unfolding sum_for
join t s u e es h first rest = record {
  credited = omega (arith, first.credited, rest.credited);
  promises = omega (arith, first.promises, rest.promises);
  places = omega (arith, first.places, rest.places);
}

pub balanced : (t : Heads) (cs : List HeadCall) → Balanced t (journal t cs) (after_all t cs)
unfolding journal after_all sum_for
balanced t [] h = record { credited = omega arith; promises = omega arith; places = omega arith }
balanced t (c ∷ cs) h =
    let s : Heads = call_after t c.head c.call in
    join t s (after_all s cs) (entry_of t c) (journal s cs) h (step t c.head c.call h) (balanced s cs h)

pub refused_calls_leave_no_trace : RefusedCallsLeaveNoTrace
unfolding after_all
refused_calls_leave_no_trace t [] c rest d is = ap (λ u. after_all u rest) (refused_stays t d c.head c.call is)
refused_calls_leave_no_trace t (b ∷ before) c rest d is =
    refused_calls_leave_no_trace (call_after t b.head b.call) before c rest d is

-- the call at i of the calls, with the calls from there on
abbrev pub call_at : List HeadCall → ℕ → HeadCall
call_at cs i = get_or cs i (record { head = 0; call = Promise 0 })

from : (cs : List HeadCall) (i : ℕ) → i < length cs → drop i cs ≡ call_at cs i ∷ drop (i + 1) cs
from cs i lt = drop-cons cs i (record { head = 0; call = Promise 0 }) lt ∙ ap (λ n. call_at cs i ∷ drop n cs) (sym (add-one i))

-- 1 for a call that was accepted
abbrev pub one_if_ok : Answer → ℕ
one_if_ok r = cond (is_ok r) 1 0

-- one call made of those to come: it answers r and leaves u
pub turn_after : (t u : Heads) (cs : List HeadCall) (i : ℕ) → i < length cs →
    u ≡ call_after t (call_at cs i).head (call_at cs i).call →
    after_all u (drop (i + 1) cs) ≡ after_all t (drop i cs)
unfolding after_all
turn_after t u cs i lt is = ap (λ w. after_all w (drop (i + 1) cs)) is ∙ sym (ap (after_all t) (from cs i lt))

pub turn_accepted : (t u : Heads) (d : ℕ) (r : Answer) (cs : List HeadCall) (i : ℕ) → i < length cs →
    r ≡ call_answer t d (call_at cs i).head (call_at cs i).call →
    u ≡ call_after t (call_at cs i).head (call_at cs i).call →
    accepted_in (journal t (drop i cs)) ≡ one_if_ok r + accepted_in (journal u (drop (i + 1) cs))
unfolding accepted_in journal
turn_accepted t u d r cs i lt answers leaves =
    ap (λ xs. accepted_in (journal t xs)) (from cs i lt)
    ∙ ap (λ n. n + accepted_in (journal (call_after t (call_at cs i).head (call_at cs i).call) (drop (i + 1) cs)))
    (counts t d (call_at cs i).head (call_at cs i).call ∙ ap one_if_ok (sym answers))
    ∙ ap (λ w. one_if_ok r + accepted_in (journal w (drop (i + 1) cs))) (sym leaves)
  where
    counts : (t : Heads) (d h : ℕ) (c : Call) →
        one (cond (is_ok (call_answer t 0 h c)) (fate_of (t h) c) refused) ≡ one_if_ok (call_answer t d h c)
    counts t d h (Promise a) = grind (arith, nat_tests)
    counts t d h Settle = grind (arith, nat_tests)
    counts t d h GiveBack = grind (arith, nat_tests)

-- no call is left to come
pub last_after : (t : Heads) (cs : List HeadCall) (i : ℕ) → length cs ≤ i → after_all t (drop i cs) ≡ t
unfolding after_all
last_after t cs i le = ap (after_all t) (drop_all i cs le)

pub last_accepted : (t : Heads) (cs : List HeadCall) (i : ℕ) → length cs ≤ i → accepted_in (journal t (drop i cs)) ≡ 0
unfolding accepted_in journal
last_accepted t cs i le = ap (λ xs. accepted_in (journal t xs)) (drop_all i cs le)
