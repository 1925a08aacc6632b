-- Orders of the admitted heads, and which tables can exist.
--
--   times h o           how often head h stands in the list o
--   Order t o           o lists each admitted head once, and nothing else
--   WithinSlacks t o    no head's place in o, counted from 1, is above its slack
--   SomeOrder t         some order keeps every head within its slack
--   SomeOrderFrom t h   some order that keeps every head within its slack starts with head h
--   fits_limits t       whether the heads outnumber no head's limit
--   Bounded t           the heads outnumber no limit, no slack is above its limit, and there are 14 places
--
-- Every turn table that can exist keeps `SomeOrder` and `Bounded`. Assumes nothing.
use Rattle.std.specs.Prelude.{◌≡◌, ℕ, suc, ◌<◌, ◌≤◌, Bool, true, cond, List, ◌∷◌, length, Some, None, count_by, Option, nat_eq, nat_le, slice_index}
use Rattle.std.specs.List.{list_all}
use Rattle.orders.specs.declared.turn.Turn.{Turn}
use Rattle.orders.specs.Tables.{Table, is_admitted, limit_of, slack_of, head_count}

abbrev pub times : ℕ → List ℕ → ℕ
times h o = count_by (nat_eq h) o

abbrev pub Order : Table → List ℕ → Type 0
Order t o = (h : ℕ) → times h o ≡ cond (is_admitted t h) 1 0

-- `slice_index o i` is the head whose place is `suc i`, counted from 1
abbrev pub WithinSlacks : Table → List ℕ → Type 0
WithinSlacks t o = (i : ℕ) → i < length o → suc i ≤ slack_of t (slice_index o i)

abbrev pub SomeOrder : Table → Type 0
SomeOrder t = (o : List ℕ) × Order t o × WithinSlacks t o

abbrev pub SomeOrderFrom : Table → ℕ → Type 0
SomeOrderFrom t h = (o : List ℕ) × Order t (h ∷ o) × WithinSlacks t (h ∷ o)

-- ---- the bounds that a table keeps beside its order
abbrev pub limit_allows : ℕ → Option Turn → Bool
limit_allows count None = true
limit_allows count (Some turn) = nat_le count turn.limit.value

abbrev pub limits_allow : ℕ → Table → Bool
limits_allow count t = list_all (limit_allows count) t

abbrev pub fits_limits : Table → Bool
fits_limits t = limits_allow (head_count t) t

abbrev pub Bounded : Table → Type 0
Bounded t = (fits_limits t ≡ true) × ((h : ℕ) → slack_of t h ≤ limit_of t h) × (length t ≡ 14)
