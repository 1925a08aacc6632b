-- Every call keeps an order within the slacks in being. Assumes nothing.
use Rattle.std.proofs.Common.{◌≡◌, ℕ, zero, suc, ◌-◌, ◌<◌, ◌≤◌, true, false, leb, map, length, get_or, replicate, is_some, Some, None, Option, sym, refl, ap, ◌∙◌, subst, ⊎_elim, arith}
use Rattle.std.proofs.lemmas.Bool.{false≢true, leb-true, cases_Bool}
use Rattle.std.proofs.lemmas.List.{get_or-set_same, length-set, length-map}
use Rattle.orders.specs.declared.limit.Limit.{Limit}
use Rattle.orders.specs.declared.turn.Turn.{Turn}
use Rattle.orders.specs.Tables.{Table, turn_of, is_admitted, limit_in, slack_in, head_count, empty_table, without_head, with_head}
use Rattle.orders.specs.Orders.{fits_limits}
use Rattle.orders.specs.Counts.{slack_within, StartCounts}
use Rattle.orders.specs.Slots.{served, lowered_turn, lowered, restored}
use Rattle.orders.proofs.Lists.{one}
use Rattle.orders.proofs.Keeps.{Keeps, counts_of, order_of}
use Rattle.orders.proofs.Changes.{inside, count_set, at_set, count_without_head, at_without, some_mapped, limit_with, slack_lowered, slack_restored, count_served, within_served, at_served, within_le_count, fits_each, each_fits}

-- ---- no head
pub none_replicated : {X : Type 0} (n h : ℕ) → get_or {A = Option X} (replicate n None) h None ≡ None
none_replicated zero h = refl
none_replicated (suc n) zero = refl
none_replicated (suc n) (suc h) = none_replicated n h

pub not_in_empty : (h : ℕ) → is_admitted empty_table h ≡ false
not_in_empty h = ap is_some (none_replicated 14 h)

pub empty_keeps : Keeps empty_table
empty_keeps = (
  order_of empty_table (λ k. omega arith),
  (refl, λ h. omega (arith, ap slack_in (none_replicated 14 h)), refl),
)

-- ---- dismissal
pub without_head_keeps : (t : Table) (h : ℕ) → Keeps t → Keeps (without_head t h)
without_head_keeps t h (order, (fits, slacks, long)) = (
  order_of (without_head t h) (λ k. omega (arith, count_without_head (slack_within k) refl t h, counts_of t order k)),
  (
    each_fits (without_head t h)
        (at_without (λ e. is_some e ≡ true → head_count (without_head t h) ≤ limit_in e) t h (λ e. absurd (false≢true e))
        (λ g in'. omega (arith, count_without_head is_some refl t h, fits_each t fits g in'))),
    at_without (λ e. slack_in e ≤ limit_in e) t h (omega arith) slacks,
    length-set t h None ∙ long,
  ),
)

-- ---- admission
none_of : (place : Option Turn) → is_some place ≡ false → place ≡ None
none_of None e = refl
none_of (Some turn) e = absurd (false≢true (sym e))

pub with_head_keeps : (t : Table) (h : ℕ) (l : Limit) → Keeps t → h < length t → is_admitted t h ≡ false → fits_limits (with_head t h l) ≡ true → Keeps (with_head t h l)
with_head_keeps t h l (order, (old, slacks, long)) lt out fits =
    let new : Option Turn = Some (record { limit = l; slack = l.value }) in
    let own : head_count (with_head t h l) ≤ l.value =
    subst (λ e. is_some e ≡ true → head_count (with_head t h l) ≤ limit_in e) (get_or-set_same t h new None lt)
    (fits_each (with_head t h l) fits h) refl in (
      order_of (with_head t h l)
          (λ k.
          let put = count_set (slack_within k) t h new lt in
          let gone : one (slack_within k (turn_of t h)) ≡ 0 = ap (λ e. one (slack_within k e)) (none_of (turn_of t h) out) in
          ⊎_elim
          (λ e. omega (arith, within_le_count k (with_head t h l), leb-true l.value k e))
          (λ e. omega (arith, put, ap one e, counts_of t order k))
          (cases_Bool (leb l.value k))),
      (
        fits,
        at_set (λ _ e. slack_in e ≤ limit_in e) t h new lt (omega arith) (λ g ne. slacks g),
        length-set t h new ∙ long,
      ),
    )

-- ---- a slot
pub served_keeps : (t : Table) (h : ℕ) → Keeps t → StartCounts t h → Keeps (served t h)
served_keeps t h (order, (fits, slacks, long)) (in', positive, counts) =
    let lt = inside t h in' in
    let same = count_served t h lt in (
      order_of (served t h)
          (λ k.
          ⊎_elim
          (λ e.
          omega (
            arith,
            within_le_count k (served t h),
            fits_each t fits h in',
            restored_limit k (turn_of t h) e,
          ))
          (λ e. omega (arith, within_served t h lt k, ap one e, counts k))
          (cases_Bool (slack_within k (restored (turn_of t h))))),
      (
        each_fits (served t h)
            (at_served t h lt (λ e. is_some e ≡ true → head_count (served t h) ≤ limit_in e)
            (λ _. omega (arith, limit_with (λ turn. turn.limit.value) (turn_of t h), fits_each t fits h in'))
            (λ g ne some. omega (arith, limit_with (λ turn. turn.slack - 1) (turn_of t g), fits_each t fits g (sym (some_mapped lowered_turn (turn_of t g)) ∙ some)))),
        at_served t h lt (λ e. slack_in e ≤ limit_in e)
            (omega (arith, slack_restored (turn_of t h), limit_with (λ turn. turn.limit.value) (turn_of t h)))
            (λ g ne. omega (arith, slack_lowered (turn_of t g), limit_with (λ turn. turn.slack - 1) (turn_of t g), slacks g)),
        length-set (map lowered t) h (restored (turn_of t h)) ∙ length-map t lowered ∙ long,
      ),
    )
  where
    restored_limit : (k : ℕ) (place : Option Turn) → slack_within k (restored place) ≡ true → limit_in place ≤ k
    restored_limit k None e = omega arith
    restored_limit k (Some turn) e = leb-true turn.limit.value k e
