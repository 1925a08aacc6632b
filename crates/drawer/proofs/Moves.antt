-- What a section says after its promise, or a settled bill, is written. Assumes nothing.
use Rattle.std.proofs.Common.{◌≡◌, ℕ, zero, suc, ◌+◌, ◌-◌, ◌*◌, ◌^◌, ◌<◌, ◌≤◌, Bool, true, false, cond, ◌&&◌, ◌||◌, eqb, leb, ◌≢◌, ◌⊎◌, List, length, Some, None, Option, sym, refl, ap, ◌∙◌, subst, ap₂, inl, inr, ⊎_elim, add-one, arith}
use Rattle.std.proofs.lemmas.Bool.{and_parts, and_from, le-leb, eqb-true, cases_lt}
use Rattle.std.specs.Option.{option_or}
use Rattle.ledger.specs.Held.{most_amount}
use Rattle.drawer_image.specs.declared.section.Section.{Section}
use Rattle.drawer_image.specs.Fields.{tag_at, length_at, amount_at, headed, is_promise, is_settled, is_free}
use Rattle.drawer.specs.Writes.{put_amount, put_settled}
use Rattle.drawer_image.specs.Sections.{free_in, credited_in, bad_in, unless, section_of}
use Rattle.drawer_image.proofs.Lawful.{promise_good}
use Rattle.drawer_image.proofs.Walks.{bad_more, free_none, after_free, after_settled}
use Rattle.drawer_image.proofs.Fields.{same_free, same_promise}
use Rattle.drawer.proofs.Puts.{Kept, tag_kept, length_kept, amount_same, put_other, settled_other, settled_tag, settled_length, settled_amount}
use Rattle.drawer.proofs.Frames.{free_frame, sum_frame, bad_frame}

-- the amount of a promise, as an amount or none
abbrev pub promised_as : ℕ → Option ℕ
promised_as a = cond (eqb a 0) None (Some a)

abbrev pub says : Option ℕ → ℕ → ℕ → Section
says p c f = record { promised = p; credited = c; free = f }

-- one bill less
good_cases : (bs : List ℕ) (b i : ℕ) → bad_in bs b (i + 1) ≡ None → (bad_in bs b i ≡ None) × ((is_free bs (b + i + 1) ≡ true) ⊎ ((free_in bs b i ≡ 0) × (is_settled bs (b + i + 1) ≡ true)))
good_cases bs b i e = go (bad_in bs b i) (is_free bs (b + i + 1)) (eqb (free_in bs b i) 0) (is_settled bs (b + i + 1)) (eqb-true (free_in bs b i) 0) (sym (bad_more bs b i) ∙ e)
  where
    go : (o : Option ℕ) (f z s : Bool) → (z ≡ true → free_in bs b i ≡ 0) → option_or o (unless (f || (z && s)) (b + i + 1)) ≡ None → (o ≡ None) × ((f ≡ true) ⊎ ((free_in bs b i ≡ 0) × (s ≡ true)))
    go (Some x) f z s q e = absurd (let n : ◌≡◌ {A = ℕ} 0 1 = cc in omega arith)
    go None true z s q e = (refl, inl refl)
    go None false true true q e = (refl, inr (q refl, refl))
    go None false true false q e = absurd (let n : ◌≡◌ {A = ℕ} 0 1 = cc in omega arith)
    go None false false s q e = absurd (let n : ◌≡◌ {A = ℕ} 0 1 = cc in omega arith)

good_less : (bs : List ℕ) (b n d : ℕ) → bad_in bs b (n + d) ≡ None → bad_in bs b n ≡ None
good_less bs b n zero e = let z : n + 0 ≡ n = omega arith in ap (bad_in bs b) (sym z) ∙ e
good_less bs b n (suc d) e = let z : n + suc d ≡ n + d + 1 = omega arith in good_less bs b n d (good_cases bs b (n + d) (ap (bad_in bs b) (sym z) ∙ e)).0

-- the first free field stands after the settled ones
pub located : (bs : List ℕ) (b n : ℕ) → bad_in bs b n ≡ None → 0 < free_in bs b n → (free_in bs b (n - free_in bs b n) ≡ 0) × (is_free bs (b + (n - free_in bs b n) + 1) ≡ true)
located bs b zero e p = absurd (omega (arith, free_none bs b))
located bs b (suc n) e p = go (good_cases bs b n (ap (bad_in bs b) (add-one n) ∙ e)) (located bs b n)
  where
    Found : ℕ → Type 0
    Found m = (free_in bs b m ≡ 0) × (is_free bs (b + m + 1) ≡ true)

    go : (bad_in bs b n ≡ None) × ((is_free bs (b + n + 1) ≡ true) ⊎ ((free_in bs b n ≡ 0) × (is_settled bs (b + n + 1) ≡ true))) → (bad_in bs b n ≡ None → 0 < free_in bs b n → Found (n - free_in bs b n)) → Found (suc n - free_in bs b (suc n))
    go (g, inl f) ih =
        let more = ap (free_in bs b) (sym (add-one n)) ∙ (after_free bs b n g f).1 in
        ⊎_elim
        (λ (lt : 0 < free_in bs b n). let e : n - free_in bs b n ≡ suc n - free_in bs b (suc n) = omega arith in subst Found e (ih g lt))
        (λ (le : free_in bs b n ≤ 0). let e : n ≡ suc n - free_in bs b (suc n) = omega arith in subst Found e ((omega arith), f))
        (cases_lt 0 (free_in bs b n))
    go (g, inr (z, s)) ih = absurd (let more = ap (free_in bs b) (sym (add-one n)) ∙ (after_settled bs b n g z s).1 in omega arith)

-- a bill settled at place m, the first free one
module _ (bs : List ℕ) (b m a : ℕ) (room : 7 * (b + m + 1) + 7 ≤ length bs) (least : 0 < a) (most : a ≤ most_amount) (zero_free : free_in bs b m ≡ 0) (unused : is_free bs (b + m + 1) ≡ true) where
  abbrev cs : List ℕ
  cs = put_settled bs (b + m + 1) a

  here : is_settled cs (b + m + 1) ≡ true
  unfolding is_settled is_free
  here =
      let l = eqb-true (length_at bs (b + m + 1)) 4 (and_parts (eqb (tag_at bs (b + m + 1)) 0) (eqb (length_at bs (b + m + 1)) 4) (and_parts (headed bs (b + m + 1) 0) (eqb (amount_at bs (b + m + 1)) 0) unused).0).1 in
      let big : a < 2 ^ 32 = omega arith in
      ap₂ (λ x y. x && (leb 1 y && leb y most_amount))
      (ap₂ (λ x y. eqb x 0x43 && eqb y 4) (settled_tag bs (b + m + 1) a room) (settled_length bs (b + m + 1) a ∙ l))
      (settled_amount bs (b + m + 1) a room big)
      ∙ and_from (leb 1 a) (leb a most_amount) (le-leb 1 a (omega arith)) (le-leb a most_amount most)

  other : (i : ℕ) → i ≢ m → Kept bs cs (b + suc i)
  other i ne = settled_other bs (b + m + 1) a (b + suc i) (λ e. ne (omega arith))

  -- n bills after the settling, of which the settled one is one
  abbrev Settled : ℕ → Type 0
  Settled n = (bad_in cs b n ≡ None) × (free_in bs b n ≡ free_in cs b n + 1) × (credited_in cs b n ≡ credited_in bs b n + a)

  first : is_promise cs b ≡ is_promise bs b
  first = same_promise (settled_other bs (b + m + 1) a b (λ e. omega arith))

  at_once : bad_in bs b m ≡ None → Settled (m + 1)
  at_once e =
      let same : (i : ℕ) → i < m → Kept bs cs (b + suc i) = λ i lt. other i (λ e. omega arith) in
      let zf = free_frame bs cs b m same ∙ zero_free in
      let x = after_settled cs b m (bad_frame bs cs b m first same ∙ e) zf here in
      let y = after_free bs b m e unused in
      let z = sum_frame bs cs b m same in
      let big : a < 2 ^ 32 = omega arith in
      let w = settled_amount bs (b + m + 1) a room big in
      (x.0, omega (arith, x.1, y.1), omega (arith, x.2, y.2))

  later : (n : ℕ) → m < n → bad_in bs b (n + 1) ≡ None → (bad_in bs b n ≡ None → Settled n) → Settled (n + 1)
  later n lt e ih =
      let q = good_cases bs b n e in
      let s = ih q.0 in
      let z : b + suc n ≡ b + n + 1 = omega arith in
      ⊎_elim
      (λ (f : is_free bs (b + n + 1) ≡ true).
      let g : is_free cs (b + n + 1) ≡ true = ap (is_free cs) (sym z) ∙ same_free (other n (λ e. omega arith)) ∙ ap (is_free bs) z ∙ f in
      let x = after_free cs b n s.0 g in
      let y = after_free bs b n q.0 f in
      (x.0, omega (arith, x.1, y.1, s.1), omega (arith, x.2, y.2, s.2)))
      (λ (f : (free_in bs b n ≡ 0) × (is_settled bs (b + n + 1) ≡ true)). absurd (omega (arith, f.0, s.1)))
      q.1

  by : (d : ℕ) → bad_in bs b (m + 1 + d) ≡ None → Settled (m + 1 + d)
  by zero e = let z : m + 1 + 0 ≡ m + 1 = omega arith in subst Settled (sym z) (at_once (good_less bs b m 1 (ap (bad_in bs b) (sym z) ∙ e)))
  by (suc d) e = let z : m + 1 + suc d ≡ m + 1 + d + 1 = omega arith in subst Settled (sym z) (later (m + 1 + d) (omega arith) (ap (bad_in bs b) (sym z) ∙ e) (by d))

  pub after_settling : (n : ℕ) → m < n → bad_in bs b n ≡ None → Settled n
  after_settling n lt e = let z : m + 1 + (n - (m + 1)) ≡ n = omega arith in subst Settled z (by (n - (m + 1)) (ap (bad_in bs b) z ∙ e))

-- a promise written into a good section
module _ (bs : List ℕ) (k b a : ℕ) (room : 7 * b + 7 ≤ length bs) (most : a ≤ most_amount) (good : bad_in bs b k ≡ None) where
  abbrev ds : List ℕ
  ds = put_amount bs b a

  bills : (i : ℕ) → i < k → Kept bs ds (b + suc i)
  bills i lt = put_other bs b a (b + suc i) (λ e. omega arith)

  told : amount_at ds b ≡ a
  told = let big : a < 2 ^ 32 = omega arith in amount_same bs b a room big

  promise_still : is_promise ds b ≡ is_promise bs b
  unfolding is_promise
  promise_still =
      let p = promise_good bs b k good in
      let q = and_parts (headed bs b 0x50) (leb (amount_at bs b) most_amount) p in
      ap₂ (λ x y. x && leb y most_amount) (ap₂ (λ x y. eqb x 0x50 && eqb y 4) (tag_kept bs b a b) (length_kept bs b a b)) told
      ∙ and_from (headed bs b 0x50) (leb a most_amount) q.0 (le-leb a most_amount most) ∙ sym p

  pub promise_good_still : bad_in ds b k ≡ None
  promise_good_still = bad_frame bs ds b k promise_still bills ∙ good

  pub promise_says : section_of ds b k ≡ says (promised_as a) (credited_in bs b k) (free_in bs b k)
  promise_says =
      ap₂ (λ p q. says p q (free_in ds b k)) (ap promised_as told) (sum_frame bs ds b k bills) ∙ ap (says (promised_as a) (credited_in bs b k)) (free_frame bs ds b k bills)
