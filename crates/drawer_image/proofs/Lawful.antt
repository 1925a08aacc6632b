-- What every section that holds something keeps: a bound on its total and its free fields. Assumes nothing.
use Rattle.std.proofs.Common.{◌≡◌, ℕ, zero, suc, ◌+◌, ◌*◌, ◌<◌, ◌≤◌, Bool, true, false, cond, not, ◌&&◌, ◌||◌, eqb, ltb, leb, ◌≢◌, List, is_some, Some, None, sym, refl, ap, ◌∙◌, arith}
use Rattle.std.proofs.lemmas.Bool.{cond_both, and_parts, leb-true, eqb-false, ltb-true, both_ways}
use Rattle.ledger.specs.Held.{heads, Amount, most_amount, most_places, most_total}
use Rattle.drawer_image.specs.declared.section.Section.{Section}
use Rattle.drawer_image.specs.Fields.{amount_at, headed, is_promise, is_settled, is_free}
use Rattle.drawer_image.specs.Sections.{promise_of, free_in, credited_in, bad_in, section_of}
use Rattle.drawer_image.specs.Checks.{sized, sound, section_at, empty_section}
use Rattle.drawer_image.proofs.Fields.{free_unsettled}
use Rattle.drawer_image.proofs.Walks.{settled_most}
use Rattle.drawer_image.proofs.Judges.{good_each}
use Rattle.drawer_image.proofs.Sounds.{Sound, is_sized, is_sound}

-- each field is free, or holds at most the largest amount
pub each : (bs : List ℕ) (b n : ℕ) → credited_in bs b n + most_amount * free_in bs b n ≤ most_amount * n
unfolding free_in credited_in
each bs b zero = omega arith
each bs b (suc n) = step (each bs b n) (is_free bs (b + suc n)) (is_settled bs (b + suc n)) (free_unsettled bs (b + suc n)) (settled_most bs (b + suc n))
  where
    step : credited_in bs b n + most_amount * free_in bs b n ≤ most_amount * n → (f s : Bool) → (f ≡ true → s ≡ false) → (s ≡ true → amount_at bs (b + suc n) ≤ most_amount)
        → (credited_in bs b n + cond s (amount_at bs (b + suc n)) 0) + most_amount * (free_in bs b n + cond f 1 0) ≤ most_amount * suc n
    step ih true true apart most = absurd (both_ways true (apart refl) refl)
    step ih true false apart most = omega arith
    step ih false true apart most = omega (arith, most refl)
    step ih false false apart most = omega arith

-- without a bad field the promise is one
pub promise_good : (bs : List ℕ) (b n : ℕ) → bad_in bs b n ≡ None → is_promise bs b ≡ true
promise_good bs b n e = good_each bs b n e 0 (omega arith)

pub record Lawful (s : Section) : Type 0 where
  pub few : s.credited + most_amount * s.free ≤ most_total
  pub amount : Amount s.promised
  pub some : is_some s.promised ≡ true → 0 < s.free

lawful_empty : Lawful empty_section
lawful_empty = record { few = omega arith; amount = (omega arith, omega arith); some = λ p. absurd cc }

lawful_sound : (bs : List ℕ) (k b : ℕ) → k ≤ most_places → Sound bs k b → Lawful (section_of bs b k)
unfolding is_promise
lawful_sound bs k b le s =
    record {
      few = omega (arith, each bs b k);
      amount = amount (eqb (amount_at bs b) 0) (eqb-false (amount_at bs b) 0);
      some = λ p. ltb-true 0 (free_in bs b k) (sym (ap (λ x. not x || ltb 0 (free_in bs b k)) p) ∙ s.backs);
    }
  where
    most : amount_at bs b ≤ most_amount
    most = leb-true (amount_at bs b) most_amount (and_parts (headed bs b 0x50) (leb (amount_at bs b) most_amount) (promise_good bs b k s.good)).1

    amount : (z : Bool) → (z ≡ false → amount_at bs b ≢ 0) → Amount (cond z None (Some (amount_at bs b)))
    amount true ne = (omega arith, omega arith)
    amount false ne = let n = ne refl in (omega arith, most)

pub lawful_at : (bs : List ℕ) (k h : ℕ) → Lawful (section_at bs k h)
unfolding section_at
lawful_at bs k h =
    cond_both (ltb h heads && (sized bs k && sound bs (promise_of k h) k)) (section_of bs (promise_of k h) k) empty_section Lawful
    (λ e.
    let p = and_parts (sized bs k) (sound bs (promise_of k h) k) (and_parts (ltb h heads) _ e).1 in
    lawful_sound bs k (promise_of k h) (is_sized bs k p.0).few (is_sound bs k (promise_of k h) p.1))
    (λ _. lawful_empty)
