-- The computed choice is the one that the words of orders name. Assumes nothing.
use Rattle.std.proofs.Common.{◌≡◌, ℕ, suc, ◌+◌, ◌<◌, ◌≤◌, true, false, ltb, [], ◌∷◌, length, is_some, Some, None, Decides, Option, sym, refl, ap, ◌∙◌, subst, ⊎_elim, add-zero, zero-add, arith}
use Rattle.std.specs.Option.{option_map}
use Rattle.std.proofs.lemmas.Bool.{false≢true, ltb-true, ltb-false, lt-leb, cases_Bool, cases_lt, cases_order, cond-true, cond-false}
use Rattle.std.proofs.lemmas.Bool.Decides.{Decides-and, Decides-like}
use Rattle.std.proofs.lemmas.List.{get_or_past, length-set}
use Rattle.std.proofs.lemmas.List.Sums.{count_by-le-length}
use Rattle.orders.specs.declared.turn.Turn.{Turn}
use Rattle.orders.specs.Tables.{Table, turn_of, is_admitted, slack_in, slack_of, is_empty, without_head}
use Rattle.orders.specs.Orders.{SomeOrderFrom}
use Rattle.orders.specs.Counts.{slack_within, heads_within, OrderCounts, leaves_first, can_start}
use Rattle.orders.specs.Choice.{Smallest, Chosen, smaller, smallest_from, smallest_slack, chosen, ChosenIsComputed}
use Rattle.orders.proofs.Lists.{one, count_no}
use Rattle.orders.proofs.Counting.{counts_decide_orders_lem, leaves_first_decides}
use Rattle.orders.proofs.Changes.{inside, empty_each, each_empty, count_without_head, slack_within_lem}
use Rattle.orders.proofs.Keeps.{Keeps, counts_of, slack_positive}

-- ---- the search for the smallest slack: the best of the places below i, with its slack
abbrev BestBelow : Table → ℕ → Option (ℕ × ℕ) → Type 0
BestBelow t i None = (g : ℕ) → g < i → is_admitted t g ≡ false
BestBelow t i (Some best) =
    (best.0 < i)
    × (is_admitted t best.0 ≡ true)
    × (slack_of t best.0 ≡ best.1)
    × ((g : ℕ) → g < i → is_admitted t g ≡ true → best.1 ≤ slack_of t g)
    × ((g : ℕ) → g < best.0 → is_admitted t g ≡ true → best.1 < slack_of t g)

here_or_below : (P : ℕ → Type 0) (i : ℕ) → P i → ((g : ℕ) → g < i → P g) → (g : ℕ) → g < suc i → P g
here_or_below P i here below g lt = ⊎_elim (λ l. below g l) (λ ge. subst P (omega arith) here) (cases_lt g i)

-- one place more
best_more : (t : Table) (i : ℕ) (found : Option (ℕ × ℕ)) (place : Option Turn) → turn_of t i ≡ place → BestBelow t i found → BestBelow t (suc i) (smaller found i place)
best_more t i None None is none = here_or_below (λ g. is_admitted t g ≡ false) i (ap is_some is) none
best_more t i (Some best) None is (lt, in', has, small, low) = (
  omega arith,
  in',
  has,
  here_or_below (λ g. is_admitted t g ≡ true → best.1 ≤ slack_of t g) i (λ a. absurd (false≢true (sym (ap is_some is) ∙ a))) small,
  low,
)
best_more t i None (Some turn) is none = (
  omega arith,
  ap is_some is,
  ap slack_in is,
  here_or_below (λ g. is_admitted t g ≡ true → turn.slack ≤ slack_of t g) i (λ a. omega (arith, ap slack_in is)) (λ g lt a. absurd (false≢true (sym (none g lt) ∙ a))),
  λ g lt a. absurd (false≢true (sym (none g lt) ∙ a)),
)
best_more t i (Some best) (Some turn) is (lt, in', has, small, low) =
    let first = ltb turn.slack best.1 in
    ⊎_elim
    (λ e.
    let less = ltb-true turn.slack best.1 e in
    subst (BestBelow t (suc i)) (sym (cond-true first (Some (i, turn.slack)) (Some best) e)) (
      omega arith,
      ap is_some is,
      ap slack_in is,
      here_or_below (λ g. is_admitted t g ≡ true → turn.slack ≤ slack_of t g) i (λ a. omega (arith, ap slack_in is)) (λ g l a. omega (arith, small g l a)),
      λ g l a. omega (arith, small g l a),
    ))
    (λ e.
    let more = ltb-false turn.slack best.1 e in
    subst (BestBelow t (suc i)) (sym (cond-false first (Some (i, turn.slack)) (Some best) e)) (
      omega arith,
      in',
      has,
      here_or_below (λ g. is_admitted t g ≡ true → best.1 ≤ slack_of t g) i (λ a. omega (arith, ap slack_in is)) small,
      low,
    ))
    (cases_Bool first)

best_from : (t : Table) (i : ℕ) (found : Option (ℕ × ℕ)) (rest : Table) → ((j : ℕ) → turn_of t (i + j) ≡ turn_of rest j) → BestBelow t i found → BestBelow t (i + length rest) (smallest_from found i rest)
best_from t i found [] same best = subst (λ n. BestBelow t n found) (sym (add-zero i)) best
best_from t i found (place ∷ rest) same best =
    subst (λ n. BestBelow t n (smallest_from (smaller found i place) (suc i) rest)) (omega arith)
    (best_from t (suc i) (smaller found i place) rest (λ j. ap (turn_of t) (omega arith) ∙ same (suc j))
    (best_more t i found place (ap (turn_of t) (sym (add-zero i)) ∙ same 0) best))

abbrev pub SmallestOf : Table → Option ℕ → Type 0
SmallestOf t None = is_empty t ≡ true
SmallestOf t (Some h) = Smallest t h

best_all : (t : Table) (i : ℕ) (found : Option (ℕ × ℕ)) → length t ≤ i → BestBelow t i found → SmallestOf t (option_map (λ best. best.0) found)
best_all t i None all none =
    each_empty t (λ h. ⊎_elim (λ lt. none h (omega arith)) (λ ge. rw (get_or_past t h None ge)) (cases_lt h (length t)))
best_all t i (Some best) all (lt, in', has, small, low) = record {
  admitted = in';
  smallest = λ g a. omega (arith, small g (omega (arith, inside t g a)) a);
  lowest = λ g less a. omega (arith, low g less a);
}

pub smallest_right : (t : Table) → SmallestOf t (smallest_slack t)
smallest_right t =
    best_all t (0 + length t) (smallest_from None 0 t) (omega arith)
    (best_from t 0 None t (λ j. ap (turn_of t) (zero-add j)) (λ g lt. absurd (omega arith)))

smallest_unique : (t : Table) (h g : ℕ) → Smallest t h → Smallest t g → h ≡ g
smallest_unique t h g first second =
    ⊎_elim
    (λ e. e)
    (⊎_elim
    (λ lt. absurd (omega (arith, second.lowest h lt first.admitted, first.smallest g second.admitted)))
    (λ gt. absurd (omega (arith, first.lowest g gt second.admitted, second.smallest h first.admitted))))
    (cases_order h g)

-- ---- the head of smallest slack can start
within_none : (k : ℕ) (t : Table) → ((g : ℕ) → is_admitted t g ≡ true → k < slack_of t g) → heads_within k t ≡ 0
within_none k [] above = refl
within_none k (None ∷ t) above = count_no (slack_within k) None t refl ∙ within_none k t (λ g a. above (suc g) a)
within_none k (Some turn ∷ t) above =
    count_no (slack_within k) (Some turn) t (lt-leb turn.slack k (above 0 refl)) ∙ within_none k t (λ g a. above (suc g) a)

smallest_starts : (t : Table) (h : ℕ) → OrderCounts t → Smallest t h → SomeOrderFrom t h
smallest_starts t h counts least =
    (counts_decide_orders_lem.starts t h).1 (
      least.admitted,
      slack_positive t h counts least.admitted,
      λ k.
          let gone = count_without_head (slack_within (suc k)) refl t h in
          ⊎_elim
          (λ lt. omega (arith, gone, within_none (suc k) t (λ g a. omega (arith, least.smallest g a))))
          (λ le. omega (arith, gone, counts (suc k), ap one (slack_within_lem (suc k) (turn_of t h) least.admitted le)))
          (cases_lt (suc k) (slack_of t h)),
    )

-- ---- the computed test
-- past 14 nothing has to be counted
all_counts : (t : Table) (h : ℕ) → length t ≡ 14 → ((k : ℕ) → k < 14 → heads_within (suc k) (without_head t h) ≤ k) → (k : ℕ) → heads_within (suc k) (without_head t h) ≤ k
all_counts t h long first k =
    ⊎_elim
    (λ lt. first k lt)
    (λ ge. omega (arith, length-set t h None, count_by-le-length (slack_within (suc k)) (without_head t h)))
    (cases_lt k 14)

pub can_start_decides : (t : Table) (h : ℕ) → Keeps t → Decides (can_start t h) (SomeOrderFrom t h)
can_start_decides t h (order, (fits, slacks, long)) =
    Decides-like (can_start t h)
    (λ p. (counts_decide_orders_lem.starts t h).1 (p.0, slack_positive t h (counts_of t order) p.0, all_counts t h long p.1))
    (λ starts. let counts = (counts_decide_orders_lem.starts t h).0 starts in (counts.0, λ k lt. counts.2 k))
    (Decides-and (is_admitted t h) (leaves_first (without_head t h) 14) (λ e. e, λ e. e) (leaves_first_decides (without_head t h) 14))

-- ---- the choice
module _ (t : Table) (wish : ℕ) (keeps : Keeps t) where
  from_smallest : (r : Option ℕ) → (SomeOrderFrom t wish → ⊥) → SmallestOf t r → Chosen t wish r
  from_smallest None never least = least
  from_smallest (Some h) never least = record {
    starts = smallest_starts t h (counts_of t keeps.0) least;
    granted = λ starts. absurd (never starts);
    otherwise = λ _. least;
  }

  pub chosen_right : Chosen t wish (chosen t wish)
  chosen_right =
      let test = can_start_decides t wish keeps in
      ⊎_elim
      (λ e.
      subst (Chosen t wish) (sym (cond-true (can_start t wish) (Some wish) (smallest_slack t) e))
      (record { starts = test.0 e; granted = λ _. refl; otherwise = λ never. absurd (never (test.0 e)) }))
      (λ e.
      subst (Chosen t wish) (sym (cond-false (can_start t wish) (Some wish) (smallest_slack t) e))
      (from_smallest (smallest_slack t) (λ starts. false≢true (sym e ∙ test.1 starts)) (smallest_right t)))
      (cases_Bool (can_start t wish))

  chosen_unique : (r s : Option ℕ) → Chosen t wish r → Chosen t wish s → r ≡ s
  chosen_unique None None first second = refl
  chosen_unique None (Some g) first second =
      absurd (false≢true (sym (empty_each t first g) ∙ ((counts_decide_orders_lem.starts t g).0 second.starts).0))
  chosen_unique (Some h) None first second =
      absurd (false≢true (sym (empty_each t second h) ∙ ((counts_decide_orders_lem.starts t h).0 first.starts).0))
  chosen_unique (Some h) (Some g) first second =
      let test = can_start_decides t wish keeps in
      ⊎_elim
      (λ e. ap Some (first.granted (test.0 e) ∙ sym (second.granted (test.0 e))))
      (λ e.
      let never : SomeOrderFrom t wish → ⊥ = λ starts. false≢true (sym e ∙ test.1 starts) in
      ap Some (smallest_unique t h g (first.otherwise never) (second.otherwise never)))
      (cases_Bool (can_start t wish))

pub chosen_is_computed : ChosenIsComputed
chosen_is_computed t wish r order bounded =
    let right = chosen_right t wish (order, bounded) in
    (λ is. chosen_unique t wish (order, bounded) r (chosen t wish) is right, λ e. subst (Chosen t wish) (sym e) right)
