-- The check's answer, computed, is the one that the relation tells. Assumes nothing.
use Rattle.std.proofs.Common.{◌≡◌, ℕ, zero, suc, ◌+◌, ◌*◌, ◌<◌, ◌≤◌, Bool, true, false, cond, ◌&&◌, ◌||◌, eqb, ltb, leb, ◌⊎◌, List, length, Some, None, Err, Option, sym, refl, ap, ◌∙◌, subst, ap₂, inl, inr, ⊎_elim, mul-le-mul_left, mul-add, arith}
use Rattle.ledger.specs.Held.{heads, most_places}
use Rattle.ledger.specs.Answers.{its_number}
use Rattle.std.proofs.lemmas.Bool.{and_parts, and_from, or_cases, or_parts, or_from, or_left, or_right, eq-eqb, ne_eqb, lt-ltb, le-ltb, le-leb, eqb-true, eqb-false, ltb-true, ltb-false, leb-true, both_ways, cases_order, cases_eq}
use Rattle.std.specs.Option.{option_or}
use Rattle.drawer_image.specs.declared.fault.DrawerFault.TheVariants.{BadCount, BadLength}
use Rattle.drawer_image.specs.Fields.{amount_at, is_promise, is_settled, is_free}
use Rattle.drawer_image.specs.Sections.{promise_of, free_in, bad_in, allowed, unless, covered, section_of}
use Rattle.drawer_image.specs.Checks.{count_fits, earliest, bad_of, uncovered_of, refused_at, checked}
use Rattle.drawer_image.specs.Judged.{Allowed, AllAllowed, Uncovered, EarliestBad, EarliestUncovered, Counted, Long, Judged}
use Rattle.drawer_image.proofs.Fields.{promises_none}
use Rattle.drawer_image.proofs.Earliest.{unless_none, option_parts, earliest_each, earliest_first}

-- no free field among n
pub free_zero : (bs : List ℕ) (b n : ℕ) → free_in bs b n ≡ 0 → (i : ℕ) → i < n → is_free bs (b + suc i) ≡ false
unfolding free_in
free_zero bs b zero e i lt = absurd (omega arith)
free_zero bs b (suc n) e i lt =
    let p = parts (is_free bs (b + suc n)) e in
    ⊎_elim (λ (same : i ≡ n). ap (λ x. is_free bs (b + suc x)) same ∙ p.1) (λ ne. free_zero bs b n p.0 i (omega (arith, ne))) (cases_eq i n)
  where
    parts : (f : Bool) → free_in bs b n + cond f 1 0 ≡ 0 → (free_in bs b n ≡ 0) × (f ≡ false)
    parts true e = absurd (omega arith)
    parts false e = (omega arith, refl)

zero_free : (bs : List ℕ) (b n : ℕ) → ((i : ℕ) → i < n → is_free bs (b + suc i) ≡ false) → free_in bs b n ≡ 0
unfolding free_in
zero_free bs b zero all = refl
zero_free bs b (suc n) all = ap₂ (λ x f. x + cond f 1 0) (zero_free bs b n (λ i lt. all i (omega arith))) (all n (omega arith))

-- what a position allows
is_allowed : (bs : List ℕ) (b n : ℕ) → allowed bs b n ≡ true → Allowed bs b (suc n)
is_allowed bs b n e =
    ⊎_elim (λ f. inl f)
    (λ (z : (eqb (free_in bs b n) 0 && is_settled bs (b + suc n)) ≡ true).
    let p = and_parts (eqb (free_in bs b n) 0) (is_settled bs (b + suc n)) z in
    inr (p.1, free_zero bs b n (eqb-true (free_in bs b n) 0 p.0)))
    (or_cases (is_free bs (b + suc n)) (eqb (free_in bs b n) 0 && is_settled bs (b + suc n)) e)

allowed_by : (bs : List ℕ) (b n : ℕ) → Allowed bs b (suc n) → allowed bs b n ≡ true
allowed_by bs b n a =
    ⊎_elim (λ f. or_left (is_free bs (b + suc n)) (eqb (free_in bs b n) 0 && is_settled bs (b + suc n)) f)
    (λ (s : (is_settled bs (b + suc n) ≡ true) × ((i : ℕ) → i < n → is_free bs (b + suc i) ≡ false)).
    or_right (is_free bs (b + suc n)) (eqb (free_in bs b n) 0 && is_settled bs (b + suc n))
    (and_from (eqb (free_in bs b n) 0) (is_settled bs (b + suc n)) (eq-eqb (free_in bs b n) 0 (zero_free bs b n s.1)) s.0))
    a

ill : (x : Bool) (j place : ℕ) → unless x j ≡ Some place → (x ≡ false) × (place ≡ 7 * j)
ill true j place e = absurd (let z : ◌≡◌ {A = ℕ} 0 1 = cc in omega arith)
ill false j place e = (refl, cc)

-- a section without a bad field
pub good_each : (bs : List ℕ) (b n : ℕ) → bad_in bs b n ≡ None → (i : ℕ) → i ≤ n → Allowed bs b i
unfolding bad_in
good_each bs b zero e zero le = unless_none (is_promise bs b) b e
good_each bs b zero e (suc i) le = absurd (omega arith)
good_each bs b (suc n) e i le =
    let p = option_parts (bad_in bs b n) (unless (allowed bs b n) (b + suc n)) e in
    ⊎_elim (λ (same : i ≡ suc n). subst (Allowed bs b) (sym same) (is_allowed bs b n (unless_none (allowed bs b n) (b + suc n) p.1)))
    (λ ne. good_each bs b n p.0 i (omega (arith, ne))) (cases_eq i (suc n))

-- the earliest bad field of a section
record Found (bs : List ℕ) (b n place : ℕ) : Type 0 where
  position : ℕ
  inside : position ≤ n
  here : place ≡ 7 * (b + position)
  bad : Allowed bs b position → ⊥
  before : (i : ℕ) → i < position → Allowed bs b i

found : (bs : List ℕ) (b n place : ℕ) → bad_in bs b n ≡ Some place → Found bs b n place
unfolding bad_in
found bs b zero place e =
    let p = ill (is_promise bs b) b place e in
    record { position = 0; inside = omega arith; here = omega (arith, p.1); bad = λ a. both_ways (is_promise bs b) p.0 a; before = λ i lt. absurd (omega arith) }
found bs b (suc n) place e = go (found bs b n place) (bad_in bs b n) refl e
  where
    go : (bad_in bs b n ≡ Some place → Found bs b n place) → (o : Option ℕ) → bad_in bs b n ≡ o → option_or o (unless (allowed bs b n) (b + suc n)) ≡ Some place → Found bs b (suc n) place
    go ih None q e =
        let p = ill (allowed bs b n) (b + suc n) place e in
        record { position = suc n; inside = omega arith; here = p.1; bad = λ a. both_ways (allowed bs b n) p.0 (allowed_by bs b n a); before = λ i lt. good_each bs b n q i (omega arith) }
    go ih (Some x) q e =
        let r = ih (q ∙ e) in
        record { position = r.position; inside = omega (arith, r.inside); here = r.here; bad = r.bad; before = r.before }

-- a field before another stands in an earlier section, or earlier in its own
earlier : (k g i h j : ℕ) → j ≤ k → promise_of k g + i < promise_of k h + j → (g < h) ⊎ ((g ≡ h) × (i < j))
earlier k g i h j le lt =
    ⊎_elim (λ (same : g ≡ h). inr (same, (let e : promise_of k g ≡ promise_of k h = ap (promise_of k) same in omega arith)))
    (λ (o : (g < h) ⊎ (h < g)).
    ⊎_elim (λ (l : g < h). inl l)
    (λ (m : h < g). absurd (let n : h + 1 ≤ g = omega arith in omega (arith, mul-le-mul_left (k + 1) n, mul-add (k + 1) h 1))) o)
    (cases_order g h)

earliest_bad : (bs : List ℕ) (k place : ℕ) → earliest (bad_of bs k) heads ≡ Some place → EarliestBad bs k place
earliest_bad bs k place e =
    let s = earliest_first (bad_of bs k) heads place e in
    let f = found bs (promise_of k s.at) k place s.told in
    record {
      head = s.at;
      position = f.position;
      inside = (omega (arith, s.below), f.inside);
      here = f.here;
      bad = f.bad;
      before = λ h i le lt.
          ⊎_elim (λ (l : h < s.at). good_each bs (promise_of k h) k (s.before h l) i le)
          (λ (p : (h ≡ s.at) × (i < f.position)). subst (λ (x : ℕ). Allowed bs (promise_of k x) i) (sym p.0) (f.before i p.1))
          (earlier k h i s.at f.position f.inside lt);
    }

-- a promise without a free field
covered_when : (bs : List ℕ) (k h : ℕ) → covered (section_of bs (promise_of k h) k) ≡ (eqb (amount_at bs (promise_of k h)) 0 || ltb 0 (free_in bs (promise_of k h) k))
covered_when bs k h = ap (λ x. x || ltb 0 (free_in bs (promise_of k h) k)) (promises_none bs (promise_of k h))

is_uncovered : (bs : List ℕ) (k h : ℕ) → covered (section_of bs (promise_of k h) k) ≡ false → Uncovered bs k h
is_uncovered bs k h e =
    let p = or_parts (eqb (amount_at bs (promise_of k h)) 0) (ltb 0 (free_in bs (promise_of k h) k)) (sym (covered_when bs k h) ∙ e) in
    let ne = eqb-false (amount_at bs (promise_of k h)) 0 p.0 in
    let z = ltb-false 0 (free_in bs (promise_of k h) k) p.1 in
    (omega (arith, ne), free_zero bs (promise_of k h) k (omega arith))

uncovered_by : (bs : List ℕ) (k h : ℕ) → Uncovered bs k h → covered (section_of bs (promise_of k h) k) ≡ false
uncovered_by bs k h u =
    let z = zero_free bs (promise_of k h) k u.1 in
    covered_when bs k h
    ∙ or_from (eqb (amount_at bs (promise_of k h)) 0) (ltb 0 (free_in bs (promise_of k h) k))
    (ne_eqb (amount_at bs (promise_of k h)) 0 (λ e. omega (arith, u.0))) (le-ltb 0 (free_in bs (promise_of k h) k) (omega arith))

not_uncovered : (bs : List ℕ) (k h : ℕ) → uncovered_of bs k h ≡ None → Uncovered bs k h → ⊥
not_uncovered bs k h e u = both_ways (covered (section_of bs (promise_of k h) k)) (uncovered_by bs k h u) (unless_none (covered (section_of bs (promise_of k h) k)) (promise_of k h) e)

earliest_uncovered : (bs : List ℕ) (k place : ℕ) → earliest (uncovered_of bs k) heads ≡ Some place → EarliestUncovered bs k place
earliest_uncovered bs k place e =
    let s = earliest_first (uncovered_of bs k) heads place e in
    let p = ill (covered (section_of bs (promise_of k s.at) k)) (promise_of k s.at) place s.told in
    record {
      head = s.at;
      inside = omega (arith, s.below);
      here = p.1;
      uncovered = is_uncovered bs k s.at p.0;
      before = λ h lt. not_uncovered bs k h (s.before h lt);
    }

all_allowed : (bs : List ℕ) (k : ℕ) → earliest (bad_of bs k) heads ≡ None → AllAllowed bs k
all_allowed bs k e h i le li = good_each bs (promise_of k h) k (earliest_each (bad_of bs k) heads e h (omega arith)) i li

counted_fits : (k : ℕ) → Counted k → count_fits k ≡ true
counted_fits k c = and_from (ltb 0 k) (leb k most_places) (lt-ltb 0 k c.0) (le-leb k most_places c.1)

fits_count : (k : ℕ) → count_fits k ≡ true → Counted k
fits_count k e = let p = and_parts (ltb 0 k) (leb k most_places) e in (ltb-true 0 k p.0, leb-true k most_places p.1)

-- the whole of it
pub judged : (bs : List ℕ) (k : ℕ) → Judged bs k (checked bs k)
judged bs k = go (count_fits k) refl (eqb (length bs) (98 * (k + 1))) refl (earliest (bad_of bs k) heads) refl (earliest (uncovered_of bs k) heads) refl
  where
    go : (x : Bool) → count_fits k ≡ x → (y : Bool) → eqb (length bs) (98 * (k + 1)) ≡ y → (o : Option ℕ) → earliest (bad_of bs k) heads ≡ o → (q : Option ℕ) → earliest (uncovered_of bs k) heads ≡ q
        → Judged bs k (cond x (cond y (refused_at (option_or o q)) (Err (BadLength its_number))) (Err (BadCount its_number)))
    go false ex y ey o eo q eq = λ c. both_ways (count_fits k) ex (counted_fits k c)
    go true ex false ey o eo q eq = (fits_count k ex, λ (l : Long bs k). both_ways (eqb (length bs) (98 * (k + 1))) ey (eq-eqb (length bs) (98 * (k + 1)) l))
    go true ex true ey (Some place) eo q eq = (fits_count k ex, eqb-true (length bs) (98 * (k + 1)) ey, inl (earliest_bad bs k place eo))
    go true ex true ey None eo (Some place) eq = (fits_count k ex, eqb-true (length bs) (98 * (k + 1)) ey, inr (all_allowed bs k eo, earliest_uncovered bs k place eq))
    go true ex true ey None eo None eq =
        record {
          counted = fits_count k ex;
          long = eqb-true (length bs) (98 * (k + 1)) ey;
          allowed = all_allowed bs k eo;
          covered = λ h le. not_uncovered bs k h (earliest_each (uncovered_of bs k) heads eq h (omega arith));
        }
