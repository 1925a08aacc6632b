-- Small facts of lists, options, results and tables of heads. Assumes nothing.
use Rattle.std.proofs.Common.{◌≡◌, ℕ, Bool, true, false, cond, eqb, Some, Ok, Err, Option, Result, arith}

pub same_some : {X : Type 0} {o : Option X} {x y : X} → o ≡ Some x → o ≡ Some y → x ≡ y
same_some p q = cc

-- a check that was passed
pub passed : {A E : Type 0} (b : Bool) (f : E) (next : Result A E) (x : A) → cond b (Err f) next ≡ Ok x → (b ≡ false) × (next ≡ Ok x)
passed b f next x e = grind arith

-- what holds of k with its new values, and of every other head with its old ones, holds of all
pub at_eq : (Q : ℕ → Bool → Type 0) (k : ℕ) → Q k true → ((h : ℕ) → (h ≡ k → ⊥) → Q h false) → (h : ℕ) → Q h (eqb h k)
at_eq Q k here there h = grind arith
