-- An order within the slacks exists exactly if the counts of small slacks allow it. Assumes nothing.
use Rattle.std.proofs.Common.{◌≡◌, ℕ, zero, suc, ◌+◌, ◌-◌, ◌*◌, ◌/◌, ◌<◌, ◌≤◌, Bool, true, cond, eqb, leb, List, [], ◌∷◌, length, get_or, is_some, Some, None, Decides, count_by, Option, sym, refl, ap, ◌∙◌, subst, ⊎_elim, add-zero, mul_comm, div-lt_iff_lt-mul, zero-add, div-one, arith}
use Rattle.std.proofs.lemmas.Bool.{eq-eqb, ne_eqb, leb-true, le-leb, cases_Bool, cases_eq, cases_lt, cond-true, cond-false}
use Rattle.std.specs.List.{range_with_len}
use Rattle.std.proofs.lemmas.List.Elements.{All-get_or, All-from_get_or}
use Rattle.std.proofs.lemmas.List.FromFn.{length-range_with_len, get_or-range_with_len}
use Rattle.std.proofs.lemmas.List.Sums.{AllPass-from_list_all, list_all-from_AllPass}
use Rattle.std.proofs.lemmas.List.{get_or-set_same, get_or-set_other, get_or_past, length-set}
use Rattle.orders.specs.declared.turn.Turn.{Turn}
use Rattle.orders.specs.Tables.{Table, turn_of, is_admitted, slack_in, slack_of, without_head}
use Rattle.orders.specs.Orders.{times, Order, WithinSlacks, SomeOrderFrom}
use Rattle.orders.specs.Counts.{slack_within, heads_within, StartCounts, CountsDecideOrders, leaves_first}
use Rattle.orders.proofs.Lists.{one, count_cons, count_yes, count_no, count_le, count_early, times_own, times_here, same_count, sort, count_sort, sorted_sort, sorted_place}

-- ---- the admitted heads, lowest number first, where the first place of the table is head i's
abbrev heads_from : ℕ → Table → List ℕ
heads_from i [] = []
heads_from i (None ∷ t) = heads_from (suc i) t
heads_from i (Some turn ∷ t) = i ∷ heads_from (suc i) t

times_under : (h i : ℕ) (t : Table) → h < i → times h (heads_from i t) ≡ 0
times_under h i [] lt = refl
times_under h i (None ∷ t) lt = times_under h (suc i) t (omega arith)
times_under h i (Some turn ∷ t) lt =
    count_no (eqb h) i (heads_from (suc i) t) (ne_eqb h i (λ e. omega arith)) ∙ times_under h (suc i) t (omega arith)

times_at : (i j : ℕ) (t : Table) → times (i + j) (heads_from i t) ≡ cond (is_admitted t j) 1 0
times_at i j [] = refl
times_at i zero (None ∷ t) = times_under (i + 0) (suc i) t (omega arith)
times_at i zero (Some turn ∷ t) =
    omega (
      arith,
      count_yes (eqb (i + 0)) i (heads_from (suc i) t) (eq-eqb (i + 0) i (omega arith)),
      times_under (i + 0) (suc i) t (omega arith),
    )
times_at i (suc j) (None ∷ t) = ap (λ n. times n (heads_from (suc i) t)) (omega arith) ∙ times_at (suc i) j t
times_at i (suc j) (Some turn ∷ t) =
    count_no (eqb (i + suc j)) i (heads_from (suc i) t) (ne_eqb (i + suc j) i (λ e. omega arith))
    ∙ ap (λ n. times n (heads_from (suc i) t)) (omega arith)
    ∙ times_at (suc i) j t

heads_order : (t : Table) → Order t (heads_from 0 t)
heads_order t h = ap (λ n. times n (heads_from 0 t)) (sym (zero-add h)) ∙ times_at 0 h t

-- what is counted over the table is counted over its heads
count_heads : (p : ℕ → Bool) (k i : ℕ) (t : Table) → ((j : ℕ) → is_admitted t j ≡ true → p (i + j) ≡ leb (slack_of t j) k) → count_by p (heads_from i t) ≡ heads_within k t
count_heads p k i [] is = refl
count_heads p k i (None ∷ t) is =
    count_heads p k (suc i) t (λ j a. ap p (omega arith) ∙ is (suc j) a) ∙ sym (count_no (slack_within k) None t refl)
count_heads p k i (Some turn ∷ t) is =
    omega (
      arith,
      count_cons p i (heads_from (suc i) t),
      ap one (ap p (sym (add-zero i)) ∙ is 0 refl),
      count_cons (slack_within k) (Some turn) t,
      count_heads p k (suc i) t (λ j a. ap p (omega arith) ∙ is (suc j) a),
    )

count_order : (k : ℕ) (t : Table) (o : List ℕ) → Order t o → count_by (λ h. leb (slack_of t h) k) o ≡ heads_within k t
count_order k t o order =
    same_count (λ h. leb (slack_of t h) k) o (heads_from 0 t) (λ h. order h ∙ sym (heads_order t h))
    ∙ count_heads (λ h. leb (slack_of t h) k) k 0 t (λ j a. ap (λ n. leb (slack_of t n) k) (zero-add j))

-- ---- both ways, with w places to a slot and the first a places taken: no head's slot, counted from 1, is above its slack
abbrev WithinSlots : (a w : ℕ) → Table → List ℕ → Type 0
WithinSlots a w t o = (i : ℕ) → i < length o → (a + i) / w < slack_of t (get_or o i 0)

module _ (a w : ℕ) (t : Table) (some : 0 < w) where
  order_counts : (o : List ℕ) → Order t o → WithinSlots a w t o → (k : ℕ) → heads_within k t ≤ w * k - a
  order_counts o order within k =
      subst (λ n. n ≤ w * k - a) (count_order k t o order)
      (count_early (λ h. leb (slack_of t h) k) (w * k) a o
      (λ i lt e.
      let le = leb-true (slack_of t (get_or o i 0)) k e in
      let slot : (a + i) / w < k = omega (arith, within i lt) in
      omega (arith, (div-lt_iff_lt-mul some).0 slot, mul_comm k w)))

  abbrev by_slack : List ℕ
  by_slack = sort (slack_of t) (heads_from 0 t)

  by_slack_order : Order t by_slack
  by_slack_order h = count_sort (slack_of t) (eqb h) (heads_from 0 t) ∙ heads_order t h

  counts_order : ((k : ℕ) → heads_within k t ≤ w * k - a) → (o : List ℕ) × Order t o × WithinSlots a w t o
  counts_order counts = (
    by_slack,
    by_slack_order,
    λ i lt.
        let s = slack_of t (get_or by_slack i 0) in
        let here = sorted_place (slack_of t) by_slack (sorted_sort (slack_of t) (heads_from 0 t)) i lt in
        let all = count_order s t by_slack by_slack_order in
        let place : a + i < s * w = omega (arith, here, all, counts s, mul_comm s w) in
        (div-lt_iff_lt-mul some).1 place,
  )

-- with one place to a slot, a slot is a place
slot_is_place : (n : ℕ) {s : ℕ} → n / 1 < s → n < s
slot_is_place n lt = rw (div-one n) at lt

place_is_slot : (n : ℕ) {s : ℕ} → n < s → n / 1 < s
place_is_slot n lt = rw (div-one n) lt

-- ---- a table with one head without_head
pub turn_without : (t : Table) (h : ℕ) → turn_of (without_head t h) h ≡ None
turn_without t h =
    ⊎_elim
    (λ lt. get_or-set_same t h None None lt)
    (λ ge. get_or_past (without_head t h) h None (omega (arith, length-set t h None)))
    (cases_lt h (length t))

pub turn_others : (t : Table) (h g : ℕ) → (g ≡ h → ⊥) → turn_of (without_head t h) g ≡ turn_of t g
turn_others t h g ne = get_or-set_other t h g None None ne

module _ (t : Table) (h : ℕ) (o : List ℕ) where
  order_rest : Order t (h ∷ o) → (is_admitted t h ≡ true) × Order (without_head t h) o
  order_rest order =
      let own : suc (times h o) ≡ cond (is_admitted t h) 1 0 = sym (times_own h o) ∙ order h in
      let in' : is_admitted t h ≡ true =
      ⊎_elim (λ e. e) (λ e. absurd (omega (arith, own, cond-false {A = ℕ} (is_admitted t h) 1 0 e))) (cases_Bool (is_admitted t h)) in (
        in',
        λ g.
            ⊎_elim
            (λ e.
            subst (λ n. times n o ≡ cond (is_admitted (without_head t h) n) 1 0) (sym e)
            (rw (turn_without t h) (omega (arith, own, cond-true {A = ℕ} (is_admitted t h) 1 0 in'))))
            (λ ne. rw (turn_others t h g ne) (sym (count_no (eqb g) h o (ne_eqb g h ne)) ∙ order g))
            (cases_eq g h),
      )

  order_first : is_admitted t h ≡ true → Order (without_head t h) o → Order t (h ∷ o)
  order_first in' order g =
      ⊎_elim
      (λ e.
      subst (λ n. times n (h ∷ o) ≡ cond (is_admitted t n) 1 0) (sym e)
      (omega (
        arith,
        times_own h o,
        cond-true {A = ℕ} (is_admitted t h) 1 0 in',
        order h,
        ap (λ turn. one (is_some turn)) (turn_without t h),
      )))
      (λ ne. count_no (eqb g) h o (ne_eqb g h ne) ∙ (rw (turn_others t h g ne) at (order g)))
      (cases_eq g h)

  slack_rest : Order (without_head t h) o → (i : ℕ) → i < length o → slack_of (without_head t h) (get_or o i 0) ≡ slack_of t (get_or o i 0)
  slack_rest order i lt =
      ap slack_in
      (turn_others t h (get_or o i 0)
      (λ e.
      omega (
        arith,
        times_here o i lt,
        ap (λ g. times g o) e,
        order h,
        ap (λ turn. one (is_some turn)) (turn_without t h),
      )))

-- ---- the theorem
within_wider : (k : ℕ) (place : Option Turn) → slack_within k place ≡ true → slack_within (suc k) place ≡ true
within_wider k None e = e
within_wider k (Some turn) e = le-leb turn.slack (suc k) (omega (arith, leb-true turn.slack k e))

pub within_more : (k : ℕ) (t : Table) → heads_within k t ≤ heads_within (suc k) t
within_more k t = count_le (slack_within k) (slack_within (suc k)) (within_wider k) t

start_counts : (t : Table) (h : ℕ) → SomeOrderFrom t h → StartCounts t h
start_counts t h (o, order, within) =
    let rest = order_rest t h o order in (
      rest.0,
      omega (arith, within 0 (omega arith)),
      λ k.
          omega (
            arith,
            order_counts 1 1 (without_head t h) (omega arith) o rest.1
                (λ i lt. place_is_slot (1 + i) (rw (slack_rest t h o rest.1 i lt) (omega (arith, within (suc i) (omega arith)))))
                (suc k),
          ),
    )

counts_start : (t : Table) (h : ℕ) → StartCounts t h → SomeOrderFrom t h
counts_start t h (in', positive, counts) =
    let (o, order, within) = counts_order 1 1 (without_head t h) (omega arith) room in
    (o, order_first t h o in' order, places o order within)
  where
    room : (k : ℕ) → heads_within k (without_head t h) ≤ 1 * k - 1
    room zero = omega (arith, within_more 0 (without_head t h), counts 0)
    room (suc k) = omega (arith, counts k)

    places : (o : List ℕ) → Order (without_head t h) o → WithinSlots 1 1 (without_head t h) o → WithinSlacks t (h ∷ o)
    places o order within zero lt = positive
    places o order within (suc i) lt =
        let inside : i < length o = omega arith in
        let slot = rw (slack_rest t h o order i inside) at (within i inside) in
        omega (arith, slot_is_place (1 + i) slot)

pub counts_decide_orders_lem : CountsDecideOrders
counts_decide_orders_lem = record {
  orders = λ t. (
    λ (o, order, within) k.
        omega (arith, order_counts 0 1 t (omega arith) o order (λ i lt. place_is_slot (0 + i) (omega (arith, within i lt))) k),
    λ counts.
        let (o, order, within) = counts_order 0 1 t (omega arith) (λ k. omega (arith, counts k)) in
        (o, order, λ i lt. omega (arith, slot_is_place (0 + i) (within i lt))),
  );
  starts = λ t h. (start_counts t h, counts_start t h);
}

-- ---- the computed test of the first n counts
pub leaves_first_decides : (others : Table) (n : ℕ) → Decides (leaves_first others n) ((k : ℕ) → k < n → heads_within (suc k) others ≤ k)
unfolding leaves_first
leaves_first_decides others n = (
  λ all k lt.
      let passes = All-get_or (λ j. few j ≡ true) ks k 0 (omega (arith, length-range_with_len 0 n)) (AllPass-from_list_all few ks all) in
      few_at k (get_or ks k 0) (get_or-range_with_len 0 n k 0 lt) passes,
  λ each.
      list_all-from_AllPass few ks
      (All-from_get_or (λ j. few j ≡ true) ks 0
      (λ k lt. let here : k < n = omega (arith, length-range_with_len 0 n) in at_few k (get_or ks k 0) (get_or-range_with_len 0 n k 0 here) (each k here))),
)
  where
    ks : List ℕ
    ks = range_with_len 0 n

    few : ℕ → Bool
    few k = leb (heads_within (k + 1) others) k

    few_at : (k j : ℕ) → j ≡ 0 + k → few j ≡ true → heads_within (suc k) others ≤ k
    few_at k j is passes =
        let next : j + 1 ≡ suc k = omega arith in
        omega (arith, leb-true (heads_within (j + 1) others) j passes, ap (λ m. heads_within m others) next)

    at_few : (k j : ℕ) → j ≡ 0 + k → heads_within (suc k) others ≤ k → few j ≡ true
    at_few k j is le =
        let next : j + 1 ≡ suc k = omega arith in
        le-leb (heads_within (j + 1) others) j (omega (arith, ap (λ m. heads_within m others) next))
