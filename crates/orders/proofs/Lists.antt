-- Counts over lists, lists with the same entries, and a list sorted by a key. Assumes nothing.
use Rattle.std.proofs.Common.{◌≡◌, ℕ, zero, suc, ◌+◌, ◌-◌, ◌<◌, ◌≤◌, Bool, true, false, cond, eqb, leb, List, [], ◌∷◌, length, get_or, count_by, refl, ap, ◌∙◌, ⊎_elim, arith}
use Rattle.std.specs.List.{AllByRecursion as All}
use Rattle.std.proofs.lemmas.Bool.{eqb-true, eq-eqb, leb-true, leb-false, le-leb, cases_Bool, cond-true, cond-false}
use Rattle.std.proofs.ByRecursion.{All-get_or, All-weaker}
use Rattle.std.proofs.lemmas.List.Sums.{sum_by-cons, sum_by-le-sum_by}
use Rattle.orders.specs.Orders.{times}

-- ---- counts
-- what an entry adds to a count
abbrev pub one : Bool → ℕ
one b = cond b 1 0

pub count_cons : {X : Type 0} (p : X → Bool) (x : X) (xs : List X) → count_by p (x ∷ xs) ≡ cond (p x) 1 0 + count_by p xs
count_cons p x xs = sum_by-cons (λ y. cond (p y) 1 0) x xs

pub count_yes : {X : Type 0} (p : X → Bool) (x : X) (xs : List X) → p x ≡ true → count_by p (x ∷ xs) ≡ suc (count_by p xs)
count_yes p x xs e = omega (arith, count_cons p x xs, cond-true {A = ℕ} (p x) 1 0 e)

pub count_no : {X : Type 0} (p : X → Bool) (x : X) (xs : List X) → p x ≡ false → count_by p (x ∷ xs) ≡ count_by p xs
count_no p x xs e = omega (arith, count_cons p x xs, cond-false {A = ℕ} (p x) 1 0 e)

-- a test that passes more counts more
pub count_le : {X : Type 0} (p q : X → Bool) → ((x : X) → p x ≡ true → q x ≡ true) → (xs : List X) → count_by p xs ≤ count_by q xs
count_le p q wider xs = sum_by-le-sum_by (λ x. one (p x)) (λ x. one (q x)) xs (λ x. one_le (p x) (q x) (wider x))
  where
    one_le : (b c : Bool) → (b ≡ true → c ≡ true) → one b ≤ one c
    one_le false c wider = omega arith
    one_le true c wider = rw (wider refl) (omega arith)

-- entries that pass stand at places below n, and places below a are left out
pub count_early : (p : ℕ → Bool) (n a : ℕ) (o : List ℕ) → ((i : ℕ) → i < length o → p (get_or o i 0) ≡ true → a + i < n) → count_by p o ≤ n - a
count_early p n a [] early = omega arith
count_early p n a (x ∷ o) early =
    let rest = count_early p n (a + 1) o (λ i lt e. omega (arith, early (suc i) (omega arith) e)) in
    ⊎_elim
    (λ e. omega (arith, rest, count_yes p x o e, early 0 (omega arith) e))
    (λ e. omega (arith, rest, count_no p x o e))
    (cases_Bool (p x))

pub times_own : (x : ℕ) (xs : List ℕ) → times x (x ∷ xs) ≡ suc (times x xs)
times_own x xs = count_yes (eqb x) x xs (eq-eqb x x refl)

pub times_here : (o : List ℕ) (i : ℕ) → i < length o → 0 < times (get_or o i 0) o
times_here [] i lt = absurd (omega arith)
times_here (x ∷ o) zero lt = omega (arith, times_own x o)
times_here (x ∷ o) (suc i) lt = omega (arith, times_here o i (omega arith), count_cons (eqb (get_or o i 0)) x o)

-- ---- lists with the same entries
-- one x taken out
abbrev without : ℕ → List ℕ → List ℕ
without x [] = []
without x (y ∷ ys) = cond (eqb x y) ys (y ∷ without x ys)

count_without : (p : ℕ → Bool) (x : ℕ) (ys : List ℕ) → 0 < times x ys → count_by p ys ≡ cond (p x) 1 0 + count_by p (without x ys)
count_without p x [] has = absurd (omega arith)
count_without p x (y ∷ ys) has =
    ⊎_elim
    (λ e.
    omega (
      arith,
      count_cons p y ys,
      ap (λ z. one (p z)) (eqb-true x y e),
      ap (count_by p) (cond-true (eqb x y) ys (y ∷ without x ys) e),
    ))
    (λ e.
    omega (
      arith,
      count_cons p y ys,
      count_cons p y (without x ys),
      count_without p x ys (omega (arith, count_no (eqb x) y ys e)),
      ap (count_by p) (cond-false (eqb x y) ys (y ∷ without x ys) e),
    ))
    (cases_Bool (eqb x y))

pub same_count : (p : ℕ → Bool) (xs ys : List ℕ) → ((h : ℕ) → times h xs ≡ times h ys) → count_by p xs ≡ count_by p ys
same_count p [] [] same = refl
same_count p [] (y ∷ ys) same = absurd (omega (arith, same y, times_own y ys))
same_count p (x ∷ xs) ys same =
    let has : 0 < times x ys = omega (arith, same x, times_own x xs) in
    let rest =
    same_count p xs (without x ys)
    (λ h. omega (arith, same h, count_cons (eqb h) x xs, count_without (eqb h) x ys has)) in
    omega (arith, rest, count_cons p x xs, count_without p x ys has)

-- ---- a list sorted by a key, smallest first
module _ (key : ℕ → ℕ) where
  abbrev Sorted : List ℕ → Type 0
  Sorted [] = Unit {0}
  Sorted (x ∷ xs) = All (λ y. key x ≤ key y) xs × Sorted xs

  abbrev insert : ℕ → List ℕ → List ℕ
  insert x [] = x ∷ []
  insert x (y ∷ ys) = cond (leb (key x) (key y)) (x ∷ y ∷ ys) (y ∷ insert x ys)

  abbrev pub sort : List ℕ → List ℕ
  sort [] = []
  sort (x ∷ xs) = insert x (sort xs)

  count_insert : (p : ℕ → Bool) (x : ℕ) (ys : List ℕ) → count_by p (insert x ys) ≡ cond (p x) 1 0 + count_by p ys
  count_insert p x [] = count_cons p x []
  count_insert p x (y ∷ ys) =
      let here = leb (key x) (key y) in
      ⊎_elim
      (λ e. ap (count_by p) (cond-true here (x ∷ y ∷ ys) (y ∷ insert x ys) e) ∙ count_cons p x (y ∷ ys))
      (λ e.
      omega (
        arith,
        ap (count_by p) (cond-false here (x ∷ y ∷ ys) (y ∷ insert x ys) e),
        count_cons p y (insert x ys),
        count_cons p y ys,
        count_insert p x ys,
      ))
      (cases_Bool here)

  pub count_sort : (p : ℕ → Bool) (xs : List ℕ) → count_by p (sort xs) ≡ count_by p xs
  count_sort p [] = refl
  count_sort p (x ∷ xs) = omega (arith, count_insert p x (sort xs), count_cons p x xs, count_sort p xs)

  all_insert : (P : ℕ → Type 0) (x : ℕ) (ys : List ℕ) → P x → All P ys → All P (insert x ys)
  all_insert P x [] px all = (px, tt)
  all_insert P x (y ∷ ys) px all =
      ⊎_elim (λ e. rw e (px, all)) (λ e. rw e (all.0, all_insert P x ys px all.1)) (cases_Bool (leb (key x) (key y)))

  sorted_insert : (x : ℕ) (ys : List ℕ) → Sorted ys → Sorted (insert x ys)
  sorted_insert x [] sorted = (tt, tt)
  sorted_insert x (y ∷ ys) sorted =
      ⊎_elim
      (λ e.
      let le = leb-true (key x) (key y) e in
      rw e ((le, All-weaker (λ z. key y ≤ key z) (λ z. key x ≤ key z) (λ z g. omega arith) ys sorted.0), sorted))
      (λ e.
      let gt = leb-false (key x) (key y) e in
      rw e (all_insert (λ z. key y ≤ key z) x ys (omega arith) sorted.0, sorted_insert x ys sorted.1))
      (cases_Bool (leb (key x) (key y)))

  pub sorted_sort : (xs : List ℕ) → Sorted (sort xs)
  sorted_sort [] = tt
  sorted_sort (x ∷ xs) = sorted_insert x (sort xs) (sorted_sort xs)

  -- the entry at i has i entries before it, none with a larger key
  pub sorted_place : (xs : List ℕ) → Sorted xs → (i : ℕ) → i < length xs → i < count_by (λ y. leb (key y) (key (get_or xs i 0))) xs
  sorted_place [] sorted i lt = absurd (omega arith)
  sorted_place (x ∷ xs) sorted zero lt =
      omega (arith, count_yes (λ y. leb (key y) (key x)) x xs (le-leb (key x) (key x) (omega arith)))
  sorted_place (x ∷ xs) sorted (suc i) lt =
      let inside : i < length xs = omega arith in
      let le = All-get_or (λ y. key x ≤ key y) xs i 0 inside sorted.0 in
      let here = key (get_or xs i 0) in
      omega (arith, count_yes (λ y. leb (key y) here) x xs (le-leb (key x) here le), sorted_place xs sorted.1 i inside)
