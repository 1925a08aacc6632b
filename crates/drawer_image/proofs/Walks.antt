-- One bill more of a section, and what is known of it. Assumes nothing.
use Rattle.std.proofs.Common.{◌≡◌, ℕ, zero, suc, ◌+◌, ◌-◌, ◌*◌, ◌<◌, ◌≤◌, true, false, cond, ◌&&◌, ◌||◌, eqb, List, Some, None, Err, Option, Result, sym, refl, ap, ◌∙◌, ap₂, add-one, arith}
use Rattle.std.proofs.lemmas.Bool.{or_right, or_from}
use Rattle.std.proofs.lemmas.Bool.Decides.{nat_tests}
use Rattle.std.specs.Option.{option_or}
use Rattle.std.specs.Result.{result_ok}
use Rattle.ledger.specs.Held.{most_amount}
use Rattle.drawer_image.proofs.Fields.{free_unsettled, settled_unfree}
use Rattle.drawer_image.specs.Fields.{amount_at, is_promise, is_settled, is_free}
use Rattle.ledger.specs.Answers.{its_number}
use Rattle.drawer_image.specs.declared.section.Section.{Section}
use Rattle.drawer_image.specs.declared.fault.DrawerFault.{DrawerFault}
use Rattle.drawer_image.specs.declared.fault.DrawerFault.TheVariants.{BadField}
use Rattle.drawer_image.specs.Sections.{free_in, credited_in, bad_in, unless, allowed, read_of}

next : (b i : ℕ) → b + suc i ≡ b + i + 1
next b i = omega arith

pub free_none : (bs : List ℕ) (b : ℕ) → free_in bs b 0 ≡ 0
unfolding free_in
free_none bs b = refl

pub sum_none : (bs : List ℕ) (b : ℕ) → credited_in bs b 0 ≡ 0
unfolding credited_in
sum_none bs b = refl

pub bad_none : (bs : List ℕ) (b : ℕ) → bad_in bs b 0 ≡ unless (is_promise bs b) b
unfolding bad_in
bad_none bs b = refl

pub free_more : (bs : List ℕ) (b i : ℕ) → free_in bs b (i + 1) ≡ free_in bs b i + cond (is_free bs (b + i + 1)) 1 0
unfolding free_in
free_more bs b i = ap (free_in bs b) (add-one i) ∙ ap (λ x. free_in bs b i + cond (is_free bs x) 1 0) (next b i)

pub sum_more : (bs : List ℕ) (b i : ℕ) → credited_in bs b (i + 1) ≡ credited_in bs b i + cond (is_settled bs (b + i + 1)) (amount_at bs (b + i + 1)) 0
unfolding credited_in
sum_more bs b i = ap (credited_in bs b) (add-one i) ∙ ap (λ x. credited_in bs b i + cond (is_settled bs x) (amount_at bs x) 0) (next b i)

pub bad_more : (bs : List ℕ) (b i : ℕ) → bad_in bs b (i + 1) ≡ option_or (bad_in bs b i) (unless (is_free bs (b + i + 1) || (eqb (free_in bs b i) 0 && is_settled bs (b + i + 1))) (b + i + 1))
unfolding bad_in
bad_more bs b i =
    ap (bad_in bs b) (add-one i)
    ∙ ap (λ x. option_or (bad_in bs b i) (unless (is_free bs x || (eqb (free_in bs b i) 0 && is_settled bs x)) x)) (next b i)

-- the earliest bad field stays the earliest
pub bad_stays : (bs : List ℕ) (b n d j : ℕ) → bad_in bs b n ≡ Some j → bad_in bs b (n + d) ≡ Some j
unfolding bad_in
bad_stays bs b n zero j e = let z : n + 0 ≡ n = omega arith in ap (bad_in bs b) z ∙ e
bad_stays bs b n (suc d) j e =
    let z : n + suc d ≡ suc (n + d) = omega arith in
    ap (bad_in bs b) z ∙ ap (λ o. option_or o (unless (allowed bs b (n + d)) (b + suc (n + d)))) (bad_stays bs b n d j e)

-- a settled bill is at most the largest amount
pub settled_most : (bs : List ℕ) (j : ℕ) → is_settled bs j ≡ true → amount_at bs j ≤ most_amount
unfolding is_settled
settled_most bs j e = grind (arith, nat_tests)

-- one bill more: a free one, a settled one, a bad one
pub after_free : (bs : List ℕ) (b i : ℕ) → bad_in bs b i ≡ None → is_free bs (b + i + 1) ≡ true → (bad_in bs b (i + 1) ≡ None) × (free_in bs b (i + 1) ≡ free_in bs b i + 1) × (credited_in bs b (i + 1) ≡ credited_in bs b i)
after_free bs b i e f = (
  bad_more bs b i ∙ ap₂ (λ o x. option_or o (unless (x || (eqb (free_in bs b i) 0 && is_settled bs (b + i + 1))) (b + i + 1))) e f,
  free_more bs b i ∙ ap (λ x. free_in bs b i + cond x 1 0) f,
  (let s = sum_more bs b i ∙ ap (λ x. credited_in bs b i + cond x (amount_at bs (b + i + 1)) 0) (free_unsettled bs (b + i + 1) f) in omega arith),
)

pub after_settled : (bs : List ℕ) (b i : ℕ) → bad_in bs b i ≡ None → free_in bs b i ≡ 0 → is_settled bs (b + i + 1) ≡ true → (bad_in bs b (i + 1) ≡ None) × (free_in bs b (i + 1) ≡ free_in bs b i) × (credited_in bs b (i + 1) ≡ credited_in bs b i + amount_at bs (b + i + 1))
after_settled bs b i e z f = (
  bad_more bs b i ∙ ap₂ (λ o x. option_or o (unless x (b + i + 1))) e (or_right (is_free bs (b + i + 1)) _ (ap₂ (λ n x. eqb n 0 && x) z f)),
  (let s = free_more bs b i ∙ ap (λ x. free_in bs b i + cond x 1 0) (settled_unfree bs (b + i + 1) f) in omega arith),
  sum_more bs b i ∙ ap (λ x. credited_in bs b i + cond x (amount_at bs (b + i + 1)) 0) f,
)

pub after_bad : (bs : List ℕ) (b i : ℕ) → bad_in bs b i ≡ None → is_free bs (b + i + 1) ≡ false → (eqb (free_in bs b i) 0 && is_settled bs (b + i + 1)) ≡ false → bad_in bs b (i + 1) ≡ Some (7 * (b + i + 1))
after_bad bs b i e f s = bad_more bs b i ∙ ap₂ (λ o x. option_or o (unless x (b + i + 1))) e (or_from (is_free bs (b + i + 1)) _ f s)

pub bad_by : (bs : List ℕ) (b n m j : ℕ) → bad_in bs b n ≡ Some j → n ≤ m → bad_in bs b m ≡ Some j
bad_by bs b n m j e le = let z : n + (m - n) ≡ m = omega arith in ap (bad_in bs b) (sym z) ∙ bad_stays bs b n (m - n) j e

-- a promise, a bad one, and a bad field for a bill
pub good_first : (bs : List ℕ) (b : ℕ) → is_promise bs b ≡ true → bad_in bs b 0 ≡ None
good_first bs b e = bad_none bs b ∙ ap (λ x. unless x b) e

pub bad_first : (bs : List ℕ) (b n : ℕ) (s : Section) → is_promise bs b ≡ false → Err (BadField its_number (7 * b)) ≡ read_of (bad_in bs b n) s
bad_first bs b n s e = ap (λ o. read_of o s) (sym (bad_by bs b 0 n (7 * b) (bad_none bs b ∙ ap (λ x. unless x b) e) (omega arith)))

pub bad_bill : (bs : List ℕ) (b i n : ℕ) (s : Section) → bad_in bs b i ≡ None → i < n → is_free bs (b + i + 1) ≡ false → (eqb (free_in bs b i) 0 && is_settled bs (b + i + 1)) ≡ false → Err (BadField its_number (7 * (b + i + 1))) ≡ read_of (bad_in bs b n) s
bad_bill bs b i n s good lt f t = ap (λ o. read_of o s) (sym (bad_by bs b (i + 1) n (7 * (b + i + 1)) (after_bad bs b i good f t) (omega arith)))

-- what was read
pub read_ok : (o : Option ℕ) (s t : Section) (r : Result Section DrawerFault) → r ≡ read_of o s → Some t ≡ result_ok r → (o ≡ None) × (t ≡ s)
read_ok None s t r e x = let y = x ∙ ap (λ (z : Result Section DrawerFault). result_ok z) e in (refl, cc)
read_ok (Some j) s t r e x = absurd (let y = x ∙ ap (λ (z : Result Section DrawerFault). result_ok z) e in cc)

pub read_err : (o : Option ℕ) (s : Section) (r : Result Section DrawerFault) → r ≡ read_of o s → None ≡ result_ok r → (j : ℕ) × (o ≡ Some j) × (r ≡ Err (BadField its_number j))
read_err None s r e x = absurd (let y = x ∙ ap (λ (z : Result Section DrawerFault). result_ok z) e in cc)
read_err (Some i) s r e x = (i, refl, e)
