-- What a changed place, an lowered table and a served head do to counts, limits and slacks. Assumes nothing.
use Rattle.std.proofs.Common.{◌≡◌, ℕ, zero, suc, ◌+◌, ◌-◌, ◌<◌, ◌≤◌, Bool, true, false, leb, List, [], ◌∷◌, map, length, get_or, set, is_some, Some, None, count_by, Option, sym, refl, ap, ◌∙◌, subst, ⊎_elim, arith}
use Rattle.std.specs.Option.{option_map}
use Rattle.std.proofs.Math.ListN.{get_or-map}
use Rattle.std.proofs.lemmas.Bool.{false≢true, eqb-true, eq-eqb, leb-true, leb-false, le-leb, lt-leb, and_parts, and_from, cases_Bool, cases_eq, cases_lt}
use Rattle.std.proofs.lemmas.List.{get_or-set_same, get_or-set_other, get_or_past, length-map, set_past}
use Rattle.std.proofs.lemmas.List.Sums.{sum_by-set, get_or-le-sum_by}
use Rattle.orders.specs.declared.turn.Turn.{Turn}
use Rattle.orders.specs.Tables.{Table, turn_of, is_admitted, limit_in, limit_of, slack_in, head_count, is_empty, without_head}
use Rattle.orders.specs.Orders.{limits_allow, fits_limits}
use Rattle.orders.specs.Counts.{slack_within, heads_within}
use Rattle.orders.specs.Slots.{with_slack, lowered_turn, lowered, restored_turn, restored, served}
use Rattle.orders.proofs.Lists.{one, count_cons, count_no, count_le}
use Rattle.orders.proofs.Counting.{turn_without, turn_others}

pub inside : (t : Table) (h : ℕ) → is_admitted t h ≡ true → h < length t
inside t h in' =
    ⊎_elim (λ lt. lt) (λ ge. absurd (false≢true (rw (get_or_past t h None ge) at in'))) (cases_lt h (length t))

-- ---- one place set
pub count_set : (p : Option Turn → Bool) (t : Table) (h : ℕ) (place : Option Turn) → h < length t → count_by p (set t h place) + one (p (turn_of t h)) ≡ count_by p t + one (p place)
count_set p t h place lt = sum_by-set (λ e. one (p e)) t h place None lt

-- what holds of the new place and of every other, each at its own number, holds of every place
pub at_set : {X : Type 0} (P : ℕ → Option X → Type 0) (t : List (Option X)) (h : ℕ) (place : Option X) → h < length t → P h place → ((g : ℕ) → (g ≡ h → ⊥) → P g (get_or t g None)) → (g : ℕ) → P g (get_or (set t h place) g None)
at_set P t h place lt here others g =
    ⊎_elim
    (λ e. subst (λ n. P n (get_or (set t h place) n None)) (sym e) (subst (P h) (sym (get_or-set_same t h place None lt)) here))
    (λ ne. subst (P g) (sym (get_or-set_other t h g place None ne)) (others g ne))
    (cases_eq g h)

-- ---- one head without_head
pub count_without_head : (p : Option Turn → Bool) → p None ≡ false → (t : Table) (h : ℕ) → count_by p (without_head t h) + one (p (turn_of t h)) ≡ count_by p t
count_without_head p none t h =
    ⊎_elim
    (λ lt. omega (arith, count_set p t h None lt, ap one none))
    (λ ge. omega (arith, ap (count_by p) (set_past t h None ge), ap (λ e. one (p e)) (get_or_past t h None ge), ap one none))
    (cases_lt h (length t))

pub at_without : (P : Option Turn → Type 0) (t : Table) (h : ℕ) → P None → ((g : ℕ) → P (turn_of t g)) → (g : ℕ) → P (turn_of (without_head t h) g)
at_without P t h none all g =
    ⊎_elim
    (λ e. subst (λ n. P (turn_of (without_head t h) n)) (sym e) (subst P (sym (turn_without t h)) none))
    (λ ne. subst P (sym (turn_others t h g ne)) (all g))
    (cases_eq g h)

-- ---- a place with another slack
-- mapped, what stands at a place still stands there
pub some_mapped : {X Y : Type 0} (f : X → Y) (place : Option X) → is_some (option_map f place) ≡ is_some place
some_mapped f None = refl
some_mapped f (Some x) = refl

pub limit_with : (slack : Turn → ℕ) (place : Option Turn) → limit_in (with_slack slack place) ≡ limit_in place
limit_with slack None = refl
limit_with slack (Some turn) = refl

-- ---- a slot for another head
slack_within_lowered : (k : ℕ) (place : Option Turn) → slack_within k (lowered place) ≡ slack_within (suc k) place
slack_within_lowered k None = refl
slack_within_lowered k (Some turn) =
    ⊎_elim
    (λ e. e ∙ sym (le-leb turn.slack (suc k) (omega (arith, leb-true (turn.slack - 1) k e))))
    (λ e. e ∙ sym (lt-leb turn.slack (suc k) (omega (arith, leb-false (turn.slack - 1) k e))))
    (cases_Bool (leb (turn.slack - 1) k))

pub slack_lowered : (place : Option Turn) → slack_in (lowered place) ≡ slack_in place - 1
slack_lowered None = refl
slack_lowered (Some turn) = refl

count_lowered : (p q : Option Turn → Bool) → ((place : Option Turn) → p (lowered place) ≡ q place) → (t : Table) → count_by p (map lowered t) ≡ count_by q t
count_lowered p q same [] = refl
count_lowered p q same (place ∷ t) =
    omega (arith, count_cons p (lowered place) (map lowered t), count_cons q place t, ap one (same place), count_lowered p q same t)

pub turn_lowered : (t : Table) (g : ℕ) → turn_of (map lowered t) g ≡ lowered (turn_of t g)
turn_lowered t g = get_or-map lowered t g None

-- ---- a slot for the head itself
pub slack_restored : (place : Option Turn) → slack_in (restored place) ≡ limit_in place
slack_restored None = refl
slack_restored (Some turn) = refl

module _ (t : Table) (h : ℕ) (lt : h < length t) where
  here : h < length (map lowered t)
  here = omega (arith, length-map t lowered)

  pub count_served : head_count (served t h) ≡ head_count t
  count_served =
      omega (
        arith,
        count_set is_some (map lowered t) h (restored (turn_of t h)) here,
        ap (λ e. one (is_some e)) (turn_lowered t h),
        ap one (some_mapped lowered_turn (turn_of t h)),
        ap one (some_mapped restored_turn (turn_of t h)),
        count_lowered is_some is_some (some_mapped lowered_turn) t,
      )

  -- of the others, those within k now were within k + 1 before
  pub within_served : (k : ℕ) → heads_within k (served t h) ≡ heads_within (suc k) (without_head t h) + one (slack_within k (restored (turn_of t h)))
  within_served k =
      omega (
        arith,
        count_set (slack_within k) (map lowered t) h (restored (turn_of t h)) here,
        ap (λ e. one (slack_within k e)) (turn_lowered t h),
        ap one (slack_within_lowered k (turn_of t h)),
        count_lowered (slack_within k) (slack_within (suc k)) (slack_within_lowered k) t,
        count_without_head (slack_within (suc k)) refl t h,
      )

  pub at_served : (P : Option Turn → Type 0) → P (restored (turn_of t h)) → ((g : ℕ) → (g ≡ h → ⊥) → P (lowered (turn_of t g))) → (g : ℕ) → P (turn_of (served t h) g)
  at_served P own others =
      at_set (λ _. P) (map lowered t) h (restored (turn_of t h)) here own (λ g ne. subst P (sym (turn_lowered t g)) (others g ne))

-- ---- small slacks, one head at a time
within_some : (k : ℕ) (place : Option Turn) → slack_within k place ≡ true → is_some place ≡ true
within_some k None e = e
within_some k (Some turn) e = refl

pub within_le_count : (k : ℕ) (t : Table) → heads_within k t ≤ head_count t
within_le_count k t = count_le (slack_within k) is_some (within_some k) t

pub slack_within_lem : (k : ℕ) (place : Option Turn) → is_some place ≡ true → slack_in place ≤ k → slack_within k place ≡ true
slack_within_lem k None some le = absurd (false≢true some)
slack_within_lem k (Some turn) some le = le-leb turn.slack k le

-- ---- the limits, one head at a time
limits_each : (n : ℕ) (t : Table) → limits_allow n t ≡ true → (h : ℕ) → is_admitted t h ≡ true → n ≤ limit_of t h
limits_each n [] all h in' = absurd (false≢true in')
limits_each n (None ∷ t) all zero in' = absurd (false≢true in')
limits_each n (Some turn ∷ t) all zero in' = leb-true n turn.limit.value (and_parts (leb n turn.limit.value) (limits_allow n t) all).0
limits_each n (None ∷ t) all (suc h) in' = limits_each n t all h in'
limits_each n (Some turn ∷ t) all (suc h) in' =
    limits_each n t (and_parts (leb n turn.limit.value) (limits_allow n t) all).1 h in'

each_limits : (n : ℕ) (t : Table) → ((h : ℕ) → is_admitted t h ≡ true → n ≤ limit_of t h) → limits_allow n t ≡ true
each_limits n [] all = refl
each_limits n (None ∷ t) all = each_limits n t (λ h. all (suc h))
each_limits n (Some turn ∷ t) all =
    and_from (leb n turn.limit.value) (limits_allow n t) (le-leb n turn.limit.value (all 0 refl)) (each_limits n t (λ h. all (suc h)))

pub fits_each : (t : Table) → fits_limits t ≡ true → (h : ℕ) → is_admitted t h ≡ true → head_count t ≤ limit_of t h
fits_each t = limits_each (head_count t) t

pub each_fits : (t : Table) → ((h : ℕ) → is_admitted t h ≡ true → head_count t ≤ limit_of t h) → fits_limits t ≡ true
each_fits t = each_limits (head_count t) t

-- ---- no head, one head at a time
pub empty_each : (t : Table) → is_empty t ≡ true → (h : ℕ) → is_admitted t h ≡ false
empty_each t none h =
    ⊎_elim
    (λ lt.
    ⊎_elim
    (λ in'.
    absurd
    (omega (
      arith,
      eqb-true (head_count t) 0 none,
      get_or-le-sum_by (λ e. one (is_some e)) t h None lt,
      ap one in',
    )))
    (λ out. out)
    (cases_Bool (is_admitted t h)))
    (λ ge. ap is_some (get_or_past t h None ge))
    (cases_lt h (length t))

pub each_empty : (t : Table) → ((h : ℕ) → is_admitted t h ≡ false) → is_empty t ≡ true
each_empty t none = eq-eqb (head_count t) 0 (no_count t none)
  where
    no_count : (t : Table) → ((h : ℕ) → is_admitted t h ≡ false) → head_count t ≡ 0
    no_count [] none = refl
    no_count (place ∷ t) none = count_no is_some place t (none 0) ∙ no_count t (λ h. none (suc h))
