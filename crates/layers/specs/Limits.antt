-- What a limit makes of the ledger below.
--
--   limit_held held s               what is held for each head, where the ledger below holds `held`: as below, but the places
--                                   are the lesser of the limit's own left and those below
--   limit_depth depth s h           the depth with 24: 0 if the limit's own left is spent, else one more than below
--   left_after_promise left h r     the own left after a promise for head h that answers r: one less if accepted
--   left_after_give_back left h r   the same after a give-back: one more if accepted, stopping at 4,000
--   limit_beyond, limit_within      two of the facts that every ledger shows, from those of the ledger below
--
-- Assumes nothing.
use Rattle.std.specs.Prelude.{◌≡◌, ℕ, ◌+◌, ◌-◌, min, cond, List, is_ok, None, ◌==◌, slice_index, slice_set}
use Rattle.std.proofs.Common.{ap, ◌∙◌}
use Rattle.std.proofs.Math.Nat.{min-zero, min-le_right, add-le-add, mul-le-mul_left, le_refl, le_trans}
use Rattle.ledger.specs.Held.{most_amount, most_places, Held, Heads, nothing, Within}
use Rattle.ledger.specs.Answers.{Answer}
use Rattle.layers.specs.Depths.{deeper}
use Rattle.layers.specs.declared.limit.Limit.{Limit}

-- v with no more places than so many
abbrev pub limited : ℕ → Held → Held
limited left v = record { promised = v.promised; credited = v.credited; places = min left v.places }

abbrev pub limit_held : {L : Type 0} → (L → Heads) → Limit L → Heads
limit_held held s h = limited (slice_index s.left h) (held s.below h)

abbrev pub limit_depth : {L : Type 0} → (L → ℕ → ℕ) → Limit L → ℕ → ℕ
limit_depth depth s h = cond (slice_index s.left h == 0) 0 (deeper (depth s.below h))

abbrev pub left_after_promise : List ℕ → ℕ → Answer → List ℕ
left_after_promise left h r = cond (is_ok r) (slice_set left h (slice_index left h - 1)) left

abbrev pub left_after_give_back : List ℕ → ℕ → Answer → List ℕ
left_after_give_back left h r = cond (is_ok r) (slice_set left h (min most_places (slice_index left h + 1))) left

pub limit_beyond : {L : Type 0} (held : L → Heads) (s : Limit L) (h : ℕ) → held s.below h ≡ nothing → limit_held held s h ≡ nothing
limit_beyond held s h e =
    ap (limited (slice_index s.left h)) e
    ∙ ap (λ n. record { promised = None; credited = 0; places = n }) (min-zero (slice_index s.left h))

pub limit_within : {L : Type 0} (held : L → Heads) (s : Limit L) (h : ℕ) → Within (held s.below h) → Within (limit_held held s h)
limit_within held s h within =
    le_trans (add-le-add (le_refl _) (mul-le-mul_left most_amount (add-le-add (min-le_right (slice_index s.left h) _) (le_refl _)))) within
