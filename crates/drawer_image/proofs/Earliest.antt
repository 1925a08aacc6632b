-- The earliest of what a function tells, and the places of a drawer's fields. Assumes nothing.
use Rattle.std.proofs.Common.{◌≡◌, ℕ, zero, suc, ◌+◌, ◌-◌, ◌*◌, ◌<◌, ◌≤◌, Bool, true, false, Some, None, Option, sym, refl, ap, ◌∙◌, ap₂, ⊎_elim, mul-le-mul_left, add-one, arith}
use Rattle.std.specs.Option.{option_or}
use Rattle.std.proofs.lemmas.Bool.{cases_eq, cases_lt}
use Rattle.ledger.specs.Held.{heads}
use Rattle.drawer_image.specs.Sections.{unless}
use Rattle.drawer_image.specs.Checks.{earliest}

pub room : (k h n : ℕ) → h < heads → n ≡ 98 * (k + 1) → 7 * ((k + 1) * h + k) + 7 ≤ n
room k h n lt e = let le : h ≤ 13 = omega arith in omega (arith, mul-le-mul_left (k + 1) le)

-- which section stands among n fields
pub section_inside : (k h n : ℕ) → n ≡ 14 * (k + 1) → (k + 1) * h + (k + 1) ≤ n → h < heads
section_inside k h n e le = ⊎_elim (λ (lt : h < heads). lt) (λ (out : heads ≤ h). absurd (omega (arith, mul-le-mul_left (k + 1) out))) (cases_lt h heads)

pub section_outside : (k h n : ℕ) → n ≡ 14 * (k + 1) → n < (k + 1) * h + (k + 1) → heads ≤ h
section_outside k h n e lt = ⊎_elim (λ (inside : h < heads). absurd (let le : h ≤ 13 = omega arith in omega (arith, mul-le-mul_left (k + 1) le))) (λ (out : heads ≤ h). out) (cases_lt h heads)

pub earliest_none : (f : ℕ → Option ℕ) → earliest f 0 ≡ None
unfolding earliest
earliest_none f = refl

pub earliest_more : (f : ℕ → Option ℕ) (n : ℕ) → earliest f (n + 1) ≡ option_or (earliest f n) (f n)
unfolding earliest
earliest_more f n = ap (earliest f) (add-one n)

pub earliest_stays : (f : ℕ → Option ℕ) (n d j : ℕ) → earliest f n ≡ Some j → earliest f (n + d) ≡ Some j
unfolding earliest
earliest_stays f n zero j e = let z : n + 0 ≡ n = omega arith in ap (earliest f) z ∙ e
earliest_stays f n (suc d) j e = let z : n + suc d ≡ suc (n + d) = omega arith in ap (earliest f) z ∙ ap (λ o. option_or o (f (n + d))) (earliest_stays f n d j e)

pub earliest_by : (f : ℕ → Option ℕ) (n m j : ℕ) → earliest f n ≡ Some j → n ≤ m → earliest f m ≡ Some j
earliest_by f n m j e le = let z : n + (m - n) ≡ m = omega arith in ap (earliest f) (sym z) ∙ earliest_stays f n (m - n) j e

-- all is well with a field
pub unless_none : (x : Bool) (j : ℕ) → unless x j ≡ None → x ≡ true
unless_none true j e = refl
unless_none false j e = absurd (let z : ◌≡◌ {A = ℕ} 0 1 = cc in omega arith)

-- none at all
pub option_parts : (o q : Option ℕ) → option_or o q ≡ None → (o ≡ None) × (q ≡ None)
option_parts None q e = (refl, e)
option_parts (Some x) q e = absurd (let z : ◌≡◌ {A = ℕ} 0 1 = cc in omega arith)

pub earliest_each : (f : ℕ → Option ℕ) (n : ℕ) → earliest f n ≡ None → (i : ℕ) → i < n → f i ≡ None
unfolding earliest
earliest_each f zero e i lt = absurd (omega arith)
earliest_each f (suc n) e i lt =
    let p = option_parts (earliest f n) (f n) e in
    ⊎_elim (λ (same : i ≡ n). ap f same ∙ p.1) (λ ne. earliest_each f n p.0 i (omega (arith, ne))) (cases_eq i n)

pub earliest_all : (f : ℕ → Option ℕ) (n : ℕ) → ((i : ℕ) → i < n → f i ≡ None) → earliest f n ≡ None
unfolding earliest
earliest_all f zero all = refl
earliest_all f (suc n) all = ap₂ option_or (earliest_all f n (λ i lt. all i (omega arith))) (all n (omega arith))

-- the one that is told, and none before it
pub record First (f : ℕ → Option ℕ) (n place : ℕ) : Type 0 where
  pub at : ℕ
  pub below : at < n
  pub told : f at ≡ Some place
  pub before : (i : ℕ) → i < at → f i ≡ None

pub earliest_first : (f : ℕ → Option ℕ) (n place : ℕ) → earliest f n ≡ Some place → First f n place
unfolding earliest
earliest_first f zero place e = absurd (let z : ◌≡◌ {A = ℕ} 0 1 = cc in omega arith)
earliest_first f (suc n) place e = go (earliest_first f n place) (earliest f n) refl e
  where
    go : (earliest f n ≡ Some place → First f n place) → (o : Option ℕ) → earliest f n ≡ o → option_or o (f n) ≡ Some place → First f (suc n) place
    go ih None q e = record { at = n; below = omega arith; told = e; before = earliest_each f n q }
    go ih (Some x) q e = let r = ih (q ∙ e) in record { at = r.at; below = omega (arith, r.below); told = r.told; before = r.before }
