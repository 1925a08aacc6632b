-- Texts, where they are cut, and what reading one answers.
--
--   front m text          the text before the first byte m
--   rest m text           the text from that byte on, empty where there is none
--   lacks m text          no byte is m
--   opens m text          it is empty, or its first byte is m
--   Decimal text          decimal digits without leading zeros; `0` alone is one
--   ReadCapped c text r   READING answers r: the number that the text writes, or c for any larger number; none if it is not decimal
--   Spelled P f text r    READING answers r: the text is f of what is read, of which P holds; none where it is f of nothing like this
--   Converted C text r    READING answers r: what C makes of the number below 2^32 that the text spells; none where it spells none, or C refuses it
--
-- Assumes nothing.
use Rattle.std.specs.Prelude.{◌≡◌, ℕ, ◌^◌, ◌<◌, min, Bool, true, cond, not, ◌&&◌, List, [], ◌∷◌, length, Ok, Err, Option, Result, MatchOption, ◌==◌, ◌≢◌, decimal, slice_index}
use Rattle.std.specs.Str.Parse.{IsNumeral, digits_value}

unfoldable pub front : ℕ → List ℕ → List ℕ
front m [] = []
front m (b ∷ bs) = cond (b == m) [] (b ∷ front m bs)

unfoldable pub rest : ℕ → List ℕ → List ℕ
rest m [] = []
rest m (b ∷ bs) = cond (b == m) (b ∷ bs) (rest m bs)

abbrev pub lacks : ℕ → List ℕ → Bool
lacks m [] = true
lacks m (b ∷ bs) = not (b == m) && lacks m bs

abbrev pub opens : ℕ → List ℕ → Bool
opens m [] = true
opens m (b ∷ bs) = b == m

abbrev pub Decimal : List ℕ → Type 0
Decimal text = IsNumeral 10 text × (slice_index text 0 ≡ 48 → length text ≡ 1)

abbrev pub ReadCapped : ℕ → List ℕ → Option ℕ → Type 0
ReadCapped cap text r = MatchOption r (Decimal text → ⊥) (λ k. Decimal text × (k ≡ min cap (digits_value 10 text)))

abbrev pub Spelled : {X : Type 0} → (X → Type 0) → (X → List ℕ) → List ℕ → Option X → Type 0
Spelled {X} P f text r = MatchOption r ((x : X) → P x → text ≢ f x) (λ x. P x × (text ≡ f x))

abbrev pub Converted : {N E : Type 0} → (ℕ → Result N E → Type 0) → List ℕ → Option N → Type 0
Converted {N} {E} C text r =
    MatchOption r ((n : ℕ) → n < 2 ^ 32 → text ≡ decimal n → (e : E) × C n (Err e)) (λ x. (n : ℕ) × (n < 2 ^ 32) × (text ≡ decimal n) × C n (Ok x))
