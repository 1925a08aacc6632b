-- What `find_map` over the numbers below n finds: the answer at the smallest number that has one. Assumes nothing.
use Rattle.std.specs.Option.{IfSome, IsSomeAnd, MatchOption, option_map}
use Rattle.std.proofs.Common.{◌-◌, true, ◌≡◌, ℕ, ◌+◌, ◌<◌, Some, None, Option, ap, ◌∙◌, subst, arith}
use Rattle.std.specs.Fn.{Called}
use Rattle.std.specs.Iterator.Runs.{SomeRun, Run, AllItemsGive, IsFirstToGive, CallKeepsClosure}
use Rattle.std.specs.declared.ops.Range.{Range}
use Rattle.std.proofs.iter.Yields.{nat_range_steps}
use Rattle.std.proofs.iter.runs.Sources.{range_runs}
use denote.Param.Members.{Mut}

same : {A : Type 0} (o : Option A) (x : A) → option_map (λ y. y) o ≡ Some x → o ≡ Some x
same None x e = e
same (Some y) x e = e

reads : (n : ℕ) (p : Run nat_range_steps) → p.from ≡ record { start = 0; end = n } → (k : ℕ) → k < p.len → p.at k ≡ Some k
reads n p from k lt =
    let start : p.from.start ≡ 0 = ap (λ (s : Range ℕ). s.start) from in
    let is : p.from.start + k ≡ k = omega arith in
    same (p.at k) k ((range_runs p p.seen).3 k lt ∙ ap Some is)

module _ {F B : Type 0} {g : Mut F (ℕ × Unit {0}) (Option B)} (n : ℕ) (f : F) (Hit : ℕ → B → Type 0) (Miss : ℕ → Type 0) where
  pub first_mapped : (r : Option B)
      → SomeRun nat_range_steps (record { start = 0; end = n }) (λ p. MatchOption r ((p.whole ≡ true) × AllItemsGive p g f None) (λ y. (i : ℕ) × (i < p.len) × (p.len ≡ i + 1) × IsFirstToGive p g f (Some y) None i))
      → CallKeepsClosure g f → ((x : ℕ) (y : B) → Called g f (x, tt) (Some y) f → Hit x y) → ((x : ℕ) → Called g f (x, tt) None f → Miss x)
      → MatchOption r ((k : ℕ) → k < n → Miss k) (λ y. (i : ℕ) × (i < n) × Hit i y × ((k : ℕ) → k < i → Miss k))
  first_mapped None (p, from, h) keeps hits misses = λ k lt.
      let start : p.from.start ≡ 0 = ap (λ (s : Range ℕ). s.start) from in
      let end : p.from.end ≡ n = ap (λ (s : Range ℕ). s.end) from in
      let long : p.len ≡ p.from.end - p.from.start = (range_runs p p.seen).1 h.0 in
      misses k (subst (λ o. IfSome o (λ x. Called g f (x, tt) None f)) (reads n p from k (omega arith)) (h.1 keeps k))
  first_mapped (Some y) (p, from, h) keeps hits misses =
      let start : p.from.start ≡ 0 = ap (λ (s : Range ℕ). s.start) from in
      let end : p.from.end ≡ n = ap (λ (s : Range ℕ). s.end) from in
      let long = (range_runs p p.seen).0 in
      let calls = h.3 keeps in (
        h.0,
        omega arith,
        hits h.0 y (subst (λ o. IsSomeAnd o (λ x. Called g f (x, tt) (Some y) f)) (reads n p from h.0 h.1) calls.0),
        λ k before. misses k (subst (λ o. IsSomeAnd o (λ x. Called g f (x, tt) None f)) (reads n p from k (omega arith)) (calls.1 k before)),
      )
