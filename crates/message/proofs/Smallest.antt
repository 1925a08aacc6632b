-- The smallest place at which something is told. Assumes nothing.
use Rattle.std.proofs.Common.{◌≡◌, ℕ, zero, suc, ◌+◌, ◌<◌, List, [], ◌∷◌, length, drop, Some, None, Option, sym, refl, ap, ◌∙◌, add-zero, add-suc, suc-add, zero-add, arith}
use Rattle.std.specs.Option.{option_or}
use Rattle.message.specs.Heard.{smallest}

module _ {X : Type 0} (at : ℕ → List ℕ → Option X) where
  -- told at p, and nowhere before
  from : (bs : List ℕ) (i p : ℕ) (x : X) → p < length bs → at (i + p) (drop p bs) ≡ Some x → ((q : ℕ) → q < p → at (i + q) (drop q bs) ≡ None) → smallest at i bs ≡ Some x
  unfolding smallest
  from [] i p x h here before = absurd (omega arith)
  from (b ∷ bs) i zero x h here before =
      ap (λ o. option_or o (smallest at (suc i) bs)) (ap (λ k. at k (b ∷ bs)) (sym (add-zero i)) ∙ here)
  from (b ∷ bs) i (suc p) x h here before =
      ap (λ o. option_or o (smallest at (suc i) bs)) (ap (λ k. at k (b ∷ bs)) (sym (add-zero i)) ∙ before 0 (omega arith)) ∙ from bs (suc i) p x (omega arith) (ap (λ k. at k (drop p bs)) (next p) ∙ here) (λ q lt. ap (λ k. at k (drop q bs)) (next q) ∙ before (suc q) (omega arith))
    where
      next : (q : ℕ) → suc i + q ≡ i + suc q
      next q = suc-add i q ∙ sym (add-suc i q)

  never : (bs : List ℕ) (i : ℕ) → ((q : ℕ) → q < length bs → at (i + q) (drop q bs) ≡ None) → smallest at i bs ≡ None
  unfolding smallest
  never [] i none = refl
  never (b ∷ bs) i none =
      ap (λ o. option_or o (smallest at (suc i) bs)) (ap (λ k. at k (b ∷ bs)) (sym (add-zero i)) ∙ none 0 (omega arith)) ∙ never bs (suc i) (λ q lt. ap (λ k. at k (drop q bs)) (next q) ∙ none (suc q) (omega arith))
    where
      next : (q : ℕ) → suc i + q ≡ i + suc q
      next q = suc-add i q ∙ sym (add-suc i q)

  pub smallest_at : (bs : List ℕ) (p : ℕ) (x : X) → p < length bs → at p (drop p bs) ≡ Some x → ((q : ℕ) → q < p → at q (drop q bs) ≡ None) → smallest at 0 bs ≡ Some x
  smallest_at bs p x h here before =
      from bs 0 p x h (ap (λ k. at k (drop p bs)) (zero-add p) ∙ here) (λ q lt. ap (λ k. at k (drop q bs)) (zero-add q) ∙ before q lt)

  pub smallest_none : (bs : List ℕ) → ((q : ℕ) → q < length bs → at q (drop q bs) ≡ None) → smallest at 0 bs ≡ None
  smallest_none bs none = never bs 0 (λ q lt. ap (λ k. at k (drop q bs)) (zero-add q) ∙ none q lt)
