-- The rule of the table at each entry, from the one test that runs over all of them. Assumes nothing.
use Rattle.std.proofs.Common.{◌≡◌, ℕ, zero, suc, ◌+◌, ◌<◌, Bool, true, false, ◌&&◌, T, eqb, List, [], ◌∷◌, length, get_or, sym, ◌∙◌, subst, le_of_suc-le-suc, not-suc-le-zero, add-zero, add-suc, suc-add, zero-add, eqb→eq}
use Rattle.frame_check.specs.Register.{entry_of, tabulated}

both_hold : (a b : Bool) → T (a && b) → T a × T b
both_hold true b t = (tt, t)
both_hold false b t = absurd t

from : (xs : List ℕ) (i : ℕ) → T (tabulated i xs) → (k : ℕ) → k < length xs → get_or xs k 0 ≡ entry_of (i + k)
from [] i t k h = absurd (not-suc-le-zero h)
from (x ∷ xs) i t zero h =
    subst (λ (m : ℕ). x ≡ entry_of m) (sym (add-zero i)) (eqb→eq x (entry_of i) (both_hold (eqb x (entry_of i)) (tabulated (suc i) xs) t).0)
from (x ∷ xs) i t (suc k) h =
    subst (λ (m : ℕ). get_or xs k 0 ≡ entry_of m) (suc-add i k ∙ sym (add-suc i k))
    (from xs (suc i) (both_hold (eqb x (entry_of i)) (tabulated (suc i) xs) t).1 k (le_of_suc-le-suc h))

pub entry_at : (xs : List ℕ) → T (tabulated 0 xs) → (k : ℕ) → k < length xs → get_or xs k 0 ≡ entry_of k
entry_at xs t k h = subst (λ (m : ℕ). get_or xs k 0 ≡ entry_of m) (zero-add k) (from xs 0 t k h)
