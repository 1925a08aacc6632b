-- Sections of which no field changed, and places of fields. Assumes nothing.
use Rattle.std.proofs.Common.{◌≡◌, ℕ, zero, suc, ◌+◌, ◌*◌, ◌<◌, ◌≤◌, cond, ◌&&◌, ◌||◌, eqb, ◌≢◌, List, refl, ap, ap₂, mul-le-mul_left, mul-add, arith}
use Rattle.std.specs.Option.{option_or}
use Rattle.drawer_image.specs.Fields.{is_promise}
use Rattle.drawer_image.specs.Sections.{free_in, credited_in, bad_in, unless}
use Rattle.drawer.proofs.Puts.{Kept}
use Rattle.drawer_image.proofs.Fields.{same_free, same_settled}

pub apart : (k g h i j : ℕ) → g ≢ h → i ≤ k → j ≤ k → (k + 1) * g + i ≢ (k + 1) * h + j
apart k g h i j ne li lj e = grind (arith, up, down)
  where
    up : g + 1 ≤ h → (k + 1) * g + (k + 1) ≤ (k + 1) * h
    up l = omega (arith, mul-le-mul_left (k + 1) l, mul-add (k + 1) g 1)

    down : h + 1 ≤ g → (k + 1) * h + (k + 1) ≤ (k + 1) * g
    down l = omega (arith, mul-le-mul_left (k + 1) l, mul-add (k + 1) h 1)

module _ (bs cs : List ℕ) where
  pub free_frame : (b n : ℕ) → ((i : ℕ) → i < n → Kept bs cs (b + suc i)) → free_in cs b n ≡ free_in bs b n
  unfolding free_in
  free_frame b zero s = refl
  free_frame b (suc n) s = ap₂ (λ x y. x + cond y 1 0) (free_frame b n (λ i lt. s i (omega arith))) (same_free (s n (omega arith)))

  pub sum_frame : (b n : ℕ) → ((i : ℕ) → i < n → Kept bs cs (b + suc i)) → credited_in cs b n ≡ credited_in bs b n
  unfolding credited_in
  sum_frame b zero s = refl
  sum_frame b (suc n) s =
      let e = s n (omega arith) in
      ap₂ (λ x y. x + y) (sum_frame b n (λ i lt. s i (omega arith))) (ap₂ (λ x y. cond x y 0) (same_settled e) e.amount)

  pub bad_frame : (b n : ℕ) → is_promise cs b ≡ is_promise bs b → ((i : ℕ) → i < n → Kept bs cs (b + suc i)) → bad_in cs b n ≡ bad_in bs b n
  unfolding bad_in
  bad_frame b zero p s = ap (λ x. unless x b) p
  bad_frame b (suc n) p s =
      let e = s n (omega arith) in
      ap₂ (λ o x. option_or o (unless x (b + suc n))) (bad_frame b n p (λ i lt. s i (omega arith)))
      (ap₂ (λ x y. x || y) (same_free e) (ap₂ (λ x y. eqb x 0 && y) (free_frame b n (λ i lt. s i (omega arith))) (same_settled e)))
