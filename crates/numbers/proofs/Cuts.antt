-- Where a text is cut: at the first byte that is the mark, or at its end. Its front lacks the mark, its rest opens with
-- it, and no other cut is like this. Assumes nothing.
use Rattle.std.proofs.Common.{◌≡◌, ℕ, ◌+◌, ◌<◌, Bool, true, false, cond, not, ◌&&◌, eqb, Option, List, [], ◌∷◌, ◌++◌, length, get_or, take, drop, sym, refl, ap, ◌∙◌, ap₂, arith}
use Rattle.std.proofs.lemmas.Bool.{and_parts, ne_eqb, eq-eqb}
use Rattle.std.proofs.lemmas.Bool.Decides.{nat_tests}
use Rattle.std.proofs.lemmas.List.{take_more, drop_more}
use Rattle.std.proofs.lemmas.List.Sums.{prefix_len-le-length}
use Rattle.std.specs.List.{position_or_len, position}
use Rattle.std.specs.Option.{unwrap_or}
use Rattle.numbers.specs.Texts.{front, rest, lacks, opens}

pub front_rest : (m : ℕ) (text : List ℕ) → text ≡ front m text ++ rest m text
unfolding front rest
front_rest m [] = refl
front_rest m (b ∷ bs) = at (eqb b m) (front_rest m bs)
  where
    at : (t : Bool) → bs ≡ front m bs ++ rest m bs → b ∷ bs ≡ cond t [] (b ∷ front m bs) ++ cond t (b ∷ bs) (rest m bs)
    at true ih = refl
    at false ih = ap (λ l. b ∷ l) ih

pub front_lacks : (m : ℕ) (text : List ℕ) → lacks m (front m text) ≡ true
unfolding front
front_lacks m [] = refl
front_lacks m (b ∷ bs) = at (eqb b m) refl (front_lacks m bs)
  where
    at : (t : Bool) → eqb b m ≡ t → lacks m (front m bs) ≡ true → lacks m (cond t [] (b ∷ front m bs)) ≡ true
    at true e ih = refl
    at false e ih = ap (λ t. not t && lacks m (front m bs)) e ∙ ih

pub rest_opens : (m : ℕ) (text : List ℕ) → opens m (rest m text) ≡ true
unfolding rest
rest_opens m [] = refl
rest_opens m (b ∷ bs) = at (eqb b m) refl (rest_opens m bs)
  where
    at : (t : Bool) → eqb b m ≡ t → opens m (rest m bs) ≡ true → opens m (cond t (b ∷ bs) (rest m bs)) ≡ true
    at true e ih = e
    at false e ih = ih

-- a byte of a text that lacks the mark
first_lacks : (m b : ℕ) (bs : List ℕ) → lacks m (b ∷ bs) ≡ true → (eqb b m ≡ false) × (lacks m bs ≡ true)
first_lacks m b bs e = let p = and_parts (not (eqb b m)) (lacks m bs) e in (at (eqb b m) p.0, p.1)
  where
    at : (t : Bool) → not t ≡ true → t ≡ false
    at true e = sym e
    at false e = refl

pub front_of : (m : ℕ) (word more : List ℕ) → lacks m word ≡ true → opens m more ≡ true → front m (word ++ more) ≡ word
unfolding front
front_of m [] [] none at = refl
front_of m [] (b ∷ bs) none at = ap (λ t. cond t [] (b ∷ front m bs)) at
front_of m (b ∷ bs) more none at =
    let p = first_lacks m b bs none in
    ap (λ t. cond t [] (b ∷ front m (bs ++ more))) p.0 ∙ ap (λ l. b ∷ l) (front_of m bs more p.1 at)

pub rest_of : (m : ℕ) (word more : List ℕ) → lacks m word ≡ true → opens m more ≡ true → rest m (word ++ more) ≡ more
unfolding rest
rest_of m [] [] none at = refl
rest_of m [] (b ∷ bs) none at = ap (λ t. cond t (b ∷ bs) (rest m bs)) at
rest_of m (b ∷ bs) more none at =
    let p = first_lacks m b bs none in
    ap (λ t. cond t (b ∷ (bs ++ more)) (rest m (bs ++ more))) p.0 ∙ rest_of m bs more p.1 at

pub lacks_append : (m : ℕ) (xs ys : List ℕ) → lacks m xs ≡ true → lacks m ys ≡ true → lacks m (xs ++ ys) ≡ true
lacks_append m [] ys x y = y
lacks_append m (b ∷ bs) ys x y =
    let p = first_lacks m b bs x in
    ap₂ (λ t u. not t && u) p.0 (lacks_append m bs ys p.1 y)

-- one byte more is not the mark
pub lacks_more : (m : ℕ) (text : List ℕ) (i : ℕ) → i < length text → (get_or text i 0 ≡ m → ⊥) → lacks m (take i text) ≡ true → lacks m (take (i + 1) text) ≡ true
lacks_more m text i h ne none =
    let one : lacks m (get_or text i 0 ∷ []) ≡ true = ap (λ t. not t && true) (ne_eqb (get_or text i 0) m ne) in
    ap (lacks m) (take_more text i 0 h) ∙ lacks_append m (take i text) (get_or text i 0 ∷ []) none one

-- the cut at the place of the first mark, or at the end
pub opens_at : (m : ℕ) (text : List ℕ) (i : ℕ) → i < length text → get_or text i 0 ≡ m → opens m (drop i text) ≡ true
opens_at m text i h e = ap (opens m) (drop_more text i 0 h) ∙ eq-eqb (get_or text i 0) m e

abbrev is : ℕ → ℕ → Bool
is m b = eqb b m

-- the place that a search for the mark gives
place_is : (m : ℕ) (text : List ℕ) (found : Option ℕ) → found ≡ position (is m) text → unwrap_or found (length text) ≡ position_or_len (is m) text
place_is m text found e =
    ap (λ r. unwrap_or r (length text)) e ∙ grind (arith, nat_tests, prefix_len-le-length (λ b. not (is m b)) text)

before : (m : ℕ) (text : List ℕ) → take (position_or_len (is m) text) text ≡ front m text
unfolding front
before m [] = refl
before m (b ∷ bs) = at (is m b) (before m bs)
  where
    at : (t : Bool) → take (position_or_len (is m) bs) bs ≡ front m bs → take (cond (not t) (1 + position_or_len (is m) bs) 0) (b ∷ bs) ≡ cond t [] (b ∷ front m bs)
    at true ih = refl
    at false ih = grind (arith, ih)

after : (m : ℕ) (text : List ℕ) → drop (position_or_len (is m) text) text ≡ rest m text
unfolding rest
after m [] = refl
after m (b ∷ bs) = at (is m b) (after m bs)
  where
    at : (t : Bool) → drop (position_or_len (is m) bs) bs ≡ rest m bs → drop (cond (not t) (1 + position_or_len (is m) bs) 0) (b ∷ bs) ≡ cond t (b ∷ bs) (rest m bs)
    at true ih = refl
    at false ih = grind (arith, ih)

pub front_at : (m : ℕ) (text : List ℕ) (found : Option ℕ) → found ≡ position (λ b. eqb b m) text → take (unwrap_or found (length text)) text ≡ front m text
front_at m text found e = ap (λ n. take n text) (place_is m text found e) ∙ before m text

pub rest_at : (m : ℕ) (text : List ℕ) (found : Option ℕ) → found ≡ position (λ b. eqb b m) text → drop (unwrap_or found (length text)) text ≡ rest m text
rest_at m text found e = ap (λ n. drop n text) (place_is m text found e) ∙ after m text
