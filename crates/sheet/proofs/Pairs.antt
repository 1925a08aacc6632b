-- Pairs that are checked one after the other. Assumes nothing.
use Rattle.std.proofs.Common.{◌≡◌, ℕ, zero, suc, ◌+◌, ◌<◌, Bool, true, false, cond, ◌&&◌, List, [], ◌∷◌, ◌++◌, map, length, get_or, take, set, Ok, Err, Result, sym, refl, ap, ◌∙◌, arith}
use Rattle.std.proofs.lemmas.List.{take_more}
use Rattle.sheet.specs.Values.{right_pair}
use Rattle.sheet.specs.Sheets.{pair, pair_of, right_pairs, denomination_answer, denominations_answer}
use Rattle.sheet.specs.declared.denomination.Denomination.{Denomination}
use Rattle.sheet.specs.declared.denomination.Pair.{Pair}
use Rattle.sheet.specs.declared.fault.SheetFault.{SheetFault}
use Rattle.sheet.specs.declared.fault.SheetFault.TheVariants.{SheetWrong}

abbrev pub right : Pair → Bool
right p = right_pair p.mantissa p.exponent

abbrev answer : Bool → Pair → Result Pair SheetFault
answer test p = cond test (Ok p) (Err SheetWrong)

-- the pair that was checked is the pair, if it is right
pub taken : (test : Bool) (p q : Pair) → Ok q ≡ answer test p → (test ≡ true) × (q ≡ p)
taken true p q is = (refl, cc)
taken false p q is = cc

refused : (test : Bool) (p : Pair) (e : SheetFault) → Err e ≡ answer test p → (test ≡ false) × (e ≡ SheetWrong)
refused true p e is = cc
refused false p e is = (refl, cc)

-- one more is right
right_push : (ps : List Pair) (p : Pair) → right_pairs (ps ++ p ∷ []) ≡ right_pairs ps && right p
right_push [] p = go (right p)
  where
    go : (b : Bool) → (b && true) ≡ b
    go true = refl
    go false = refl
right_push (q ∷ ps) p = ap (λ b. right q && b) (right_push ps p) ∙ go (right q)
  where
    go : (b : Bool) → b && (right_pairs ps && right p) ≡ (b && right_pairs ps) && right p
    go true = refl
    go false = refl

pub right_more : (ps : List Pair) (i : ℕ) → i < length ps → right_pairs (take i ps) ≡ true → right (get_or ps i (pair 0 0)) ≡ true → right_pairs (take (i + 1) ps) ≡ true
right_more ps i lt before here =
    ap right_pairs (take_more ps i (pair 0 0) lt) ∙ right_push (take i ps) (get_or ps i (pair 0 0)) ∙ ap (λ b. b && right (get_or ps i (pair 0 0))) before ∙ here

-- one that is wrong makes all wrong
pub one_wrong : (ps : List Pair) (i : ℕ) → i < length ps → right (get_or ps i (pair 0 0)) ≡ false → right_pairs ps ≡ false
one_wrong [] i lt wrong = absurd (omega arith)
one_wrong (p ∷ ps) zero lt wrong = ap (λ b. b && right_pairs ps) wrong
one_wrong (p ∷ ps) (suc i) lt wrong = ap (λ b. right p && b) (one_wrong ps i (omega arith) wrong) ∙ go (right p)
  where
    go : (b : Bool) → (b && false) ≡ false
    go true = refl
    go false = refl

pub one_refused : (ps : List Pair) (i : ℕ) (p : Pair) (e : SheetFault) → i < length ps → p ≡ get_or ps i (pair 0 0) → Err e ≡ denomination_answer p → Err e ≡ denominations_answer ps
one_refused ps i p e lt is refusal =
    let here = refused (right p) p e refusal in
    ap Err here.1 ∙ sym (ap (λ b. cond b (Ok ps) (Err SheetWrong)) (one_wrong ps i lt (ap right (sym is) ∙ here.0)))

-- the pair is put among the checked ones
pub put_more : (ds : List Denomination) (ps : List Pair) (i : ℕ) (d : Denomination) → i < length ds → i < length ps → pair_of d ≡ get_or ps i (pair 0 0) → map pair_of (take i ds) ≡ take i ps → map pair_of (take (i + 1) (set ds i d)) ≡ take (i + 1) ps
put_more [] ps i d a b e h = absurd (omega arith)
put_more (x ∷ ds) [] i d a b e h = absurd (omega arith)
put_more (x ∷ ds) (p ∷ ps) zero d a b e h = ap (λ q. q ∷ []) e
put_more (x ∷ ds) (p ∷ ps) (suc i) d a b e h =
    let n : suc i + 1 ≡ suc (i + 1) = omega arith in
    let heads = ap (λ l. get_or l 0 (pair 0 0)) h in
    let tails : map pair_of (take i ds) ≡ take i ps = cc in
    rw n (ap (λ q. q ∷ map pair_of (take (i + 1) (set ds i d))) heads ∙ ap (λ l. p ∷ l) (put_more ds ps i d (omega arith) (omega arith) e tails))
