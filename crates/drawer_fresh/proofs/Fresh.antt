-- Fresh bytes pass the check, and hold nothing. Assumes nothing.
use Rattle.std.proofs.Common.{◌≡◌, ℕ, zero, suc, ◌+◌, ◌-◌, ◌*◌, ◌<◌, ◌≤◌, true, cond, ◌&&◌, eqb, ltb, leb, List, get_or, Some, None, sym, refl, ap, ◌∙◌, ap₂, mul_assoc, arith}
use Rattle.std.proofs.lemmas.List.{get_or_append_left, get_or-append_right}
use Rattle.std.proofs.lemmas.Bool.{cond-true, lt-ltb}
use Rattle.ledger.specs.Held.{heads, most_amount, most_places, nothing}
use Rattle.drawer_image.specs.Fields.{tag_at, length_at, amount_at, is_promise, is_free}
use Rattle.drawer_image.specs.Sections.{promise_of, free_in, credited_in, bad_in, unless, section_of, covered}
use Rattle.drawer_image.proofs.Walks.{free_none, sum_none, bad_none, after_free}
use Rattle.drawer_image.proofs.Passed.{sounds_passes}
use Rattle.drawer.specs.Meaning.{held_in}
use Rattle.drawer_fresh.specs.Fresh.{empty_field, repeated, fresh_section, fresh_bytes, HoldsFresh}
use Rattle.drawer_fresh.proofs.Lists.{length_repeated, get_or_repeated, length_section}

-- byte o of field i of section h
byte_of : (k h i o : ℕ) → h < heads → i ≤ k → o < 7 → get_or (fresh_bytes k) (7 * (promise_of k h + i) + o) 0 ≡ get_or (fresh_section k) (7 * i + o) 0
byte_of k h i o lh li lo =
    let m = 7 * (k + 1) in
    let a = mul_assoc 7 (k + 1) h in
    let z : 7 * (promise_of k h + i) + o ≡ m * h + (7 * i + o) = omega arith in
    ap (λ x. get_or (fresh_bytes k) x 0) z ∙ get_or_repeated heads m (fresh_section k) (length_section k) h (7 * i + o) lh (omega arith)

promise_byte : (k h o : ℕ) → h < heads → o < 7 → get_or (fresh_bytes k) (7 * promise_of k h + o) 0 ≡ get_or (empty_field 0x50) o 0
promise_byte k h o lh lo =
    let z : 7 * promise_of k h + o ≡ 7 * (promise_of k h + 0) + o = omega arith in
    let w : 7 * 0 + o ≡ o = omega arith in
    ap (λ x. get_or (fresh_bytes k) x 0) z ∙ byte_of k h 0 o lh (omega arith) lo ∙ ap (λ x. get_or (fresh_section k) x 0) w
    ∙ get_or_append_left (empty_field 0x50) (repeated k (empty_field 0x00)) 0 o lo

bill_byte : (k h n o : ℕ) → h < heads → n < k → o < 7 → get_or (fresh_bytes k) (7 * (promise_of k h + n + 1) + o) 0 ≡ get_or (empty_field 0x00) o 0
bill_byte k h n o lh ln lo =
    let z : 7 * (promise_of k h + n + 1) + o ≡ 7 * (promise_of k h + (n + 1)) + o = omega arith in
    let w : 7 * (n + 1) + o - 7 ≡ 7 * n + o = omega arith in
    ap (λ x. get_or (fresh_bytes k) x 0) z ∙ byte_of k h (n + 1) o lh (omega arith) lo
    ∙ get_or-append_right (empty_field 0x50) (repeated k (empty_field 0x00)) 7 (7 * (n + 1) + o) 0 refl (omega arith)
    ∙ ap (λ x. get_or (repeated k (empty_field 0x00)) x 0) w ∙ get_or_repeated k 7 (empty_field 0x00) refl n o ln lo

-- a field that is empty, with the tag t
record Empty (bs : List ℕ) (j t : ℕ) : Type 0 where
  tag : tag_at bs j ≡ t
  len : length_at bs j ≡ 4
  amount : amount_at bs j ≡ 0

empty_by : (bs : List ℕ) (j t : ℕ) → ((o : ℕ) → o < 7 → get_or bs (7 * j + o) 0 ≡ get_or (empty_field t) o 0) → Empty bs j t
empty_by bs j t e =
    let z : 7 * j ≡ 7 * j + 0 = omega arith in
    let e1 = e 1 (omega arith) in
    let e2 = e 2 (omega arith) in
    let e3 = e 3 (omega arith) in
    let e4 = e 4 (omega arith) in
    let e5 = e 5 (omega arith) in
    let e6 = e 6 (omega arith) in
    record { tag = ap (λ x. get_or bs x 0) z ∙ e 0 (omega arith); len = omega arith; amount = omega arith }

empty_promise : (k h : ℕ) → h < heads → Empty (fresh_bytes k) (promise_of k h) 0x50
empty_promise k h lt = empty_by (fresh_bytes k) (promise_of k h) 0x50 (λ o lo. promise_byte k h o lt lo)

fresh_promise : (k h : ℕ) → h < heads → is_promise (fresh_bytes k) (promise_of k h) ≡ true
unfolding is_promise
fresh_promise k h lt =
    let e = empty_promise k h lt in
    ap₂ (λ x y. x && leb y most_amount) (ap₂ (λ x y. eqb x 0x50 && eqb y 4) e.tag e.len) e.amount

fresh_free : (k h n : ℕ) → h < heads → n < k → is_free (fresh_bytes k) (promise_of k h + n + 1) ≡ true
unfolding is_free
fresh_free k h n lt ln =
    let e = empty_by (fresh_bytes k) (promise_of k h + n + 1) 0x00 (λ o lo. bill_byte k h n o lt ln lo) in
    ap₂ (λ x y. x && eqb y 0) (ap₂ (λ x y. eqb x 0x00 && eqb y 4) e.tag e.len) e.amount

-- n fields for bills of a section
Free : ℕ → ℕ → ℕ → Type 0
Free k h n = (bad_in (fresh_bytes k) (promise_of k h) n ≡ None) × (free_in (fresh_bytes k) (promise_of k h) n ≡ n) × (credited_in (fresh_bytes k) (promise_of k h) n ≡ 0)

all_free : (k h n : ℕ) → h < heads → n ≤ k → Free k h n
unfolding Free
all_free k h zero lt le =
    (bad_none (fresh_bytes k) (promise_of k h) ∙ ap (λ x. unless x (promise_of k h)) (fresh_promise k h lt), free_none (fresh_bytes k) (promise_of k h), sum_none (fresh_bytes k) (promise_of k h))
all_free k h (suc n) lt le =
    let ih = all_free k h n lt (omega arith) in
    let s = after_free (fresh_bytes k) (promise_of k h) n ih.0 (fresh_free k h n lt (omega arith)) in
    let z : n + 1 ≡ suc n = omega arith in (
      ap (bad_in (fresh_bytes k) (promise_of k h)) (sym z) ∙ s.0,
      ap (free_in (fresh_bytes k) (promise_of k h)) (sym z) ∙ s.1 ∙ omega (arith, ih.1),
      ap (credited_in (fresh_bytes k) (promise_of k h)) (sym z) ∙ s.2 ∙ ih.2,
    )

section_fresh : (k h : ℕ) → h < heads → section_of (fresh_bytes k) (promise_of k h) k ≡ record { promised = None; credited = 0; free = k }
unfolding Free
section_fresh k h lt =
    let f = all_free k h k lt (omega arith) in
    ap₂ (λ p c. record { promised = p; credited = c; free = free_in (fresh_bytes k) (promise_of k h) k }) (ap (λ a. cond (eqb a 0) None (Some a)) (empty_promise k h lt).amount) f.2
    ∙ ap (λ n. record { promised = None; credited = 0; free = n }) f.1

pub holds_fresh : (k : ℕ) → 0 < k → k ≤ most_places → HoldsFresh (fresh_bytes k) k
unfolding Free
holds_fresh k some few =
    record {
      passes = sounds_passes (fresh_bytes k) k (record {
        size = record { some = some; few = few; long = length_repeated heads (7 * (k + 1)) (fresh_section k) (length_section k) ∙ omega arith };
        each = λ h lt. record { good = (all_free k h k lt (omega arith)).0; backs = ap covered (section_fresh k h lt) };
      });
      holds = λ h lt.
          cond-true (ltb h heads) (held_in (section_of (fresh_bytes k) (promise_of k h) k)) nothing (lt-ltb h heads lt)
          ∙ ap held_in (section_fresh k h lt)
          ∙ (let z : k - 0 ≡ k = omega arith in ap (λ n. record { promised = None; credited = 0; places = n }) z);
    }
