-- Fields that say the same, and what a field is. Assumes nothing.
use Rattle.std.proofs.Common.{◌≡◌, ℕ, zero, suc, ◌+◌, ◌-◌, ◌*◌, ◌<◌, ◌≤◌, Bool, true, false, cond, not, ◌&&◌, eqb, leb, List, [], ◌++◌, length, get_or, take, drop, is_some, Some, None, Option, sym, refl, ap, ◌∙◌, ap₂, arith, length-append}
use Rattle.std.proofs.lemmas.List.{drop-drop, get_or_append_left, get_or-append_right}
use Rattle.std.proofs.lemmas.Simd.{get_or-chunk}
use Rattle.std.proofs.lemmas.Bool.Decides.{nat_tests}
use Rattle.std.specs.Simd.{first_chunks}
use Rattle.ledger.specs.Held.{most_amount}
use Rattle.drawer_image.specs.declared.field.Field.{Field}
use Rattle.drawer_image.specs.declared.field.Field.TheVariants.{Promise, Settled, Free}
use Rattle.drawer_image.specs.Fields.{tag_at, length_at, amount_at, is_promise, is_settled, is_free, promised_at, field_at, AreFields}

-- field j of bs says what field i of cs says
pub record Same (bs : List ℕ) (j : ℕ) (cs : List ℕ) (i : ℕ) : Type 0 where
  pub tag : tag_at cs i ≡ tag_at bs j
  pub len : length_at cs i ≡ length_at bs j
  pub amount : amount_at cs i ≡ amount_at bs j

module _ {bs : List ℕ} {j : ℕ} {cs : List ℕ} {i : ℕ} (s : Same bs j cs i) where
  pub same_free : is_free cs i ≡ is_free bs j
  unfolding is_free
  same_free = ap₂ (λ x y. x && eqb y 0) (ap₂ (λ x y. eqb x 0 && eqb y 4) s.tag s.len) s.amount

  pub same_settled : is_settled cs i ≡ is_settled bs j
  unfolding is_settled
  same_settled = ap₂ (λ x y. x && (leb 1 y && leb y most_amount)) (ap₂ (λ x y. eqb x 0x43 && eqb y 4) s.tag s.len) s.amount

  pub same_promise : is_promise cs i ≡ is_promise bs j
  unfolding is_promise
  same_promise = ap₂ (λ x y. x && leb y most_amount) (ap₂ (λ x y. eqb x 0x50 && eqb y 4) s.tag s.len) s.amount

  pub same_promised : promised_at cs i ≡ promised_at bs j
  same_promised = ap (λ a. cond (eqb a 0) None (Some a)) s.amount

  pub same_field : field_at cs i ≡ field_at bs j
  same_field =
      let kind : Bool → Option ℕ → Bool → ℕ → Bool → Option Field = λ x p y a z. cond x (Some (Promise p)) (cond y (Some (Settled a)) (cond z (Some Free) None)) in
      ap₂ (λ x p. kind x p (is_settled cs i) (amount_at cs i) (is_free cs i)) same_promise same_promised
      ∙ ap₂ (λ y a. kind (is_promise bs j) (promised_at bs j) y a (is_free cs i)) same_settled s.amount
      ∙ ap (λ z. kind (is_promise bs j) (promised_at bs j) (is_settled bs j) (amount_at bs j) z) same_free

-- a promise of nothing has the amount 0
pub promises_none : (bs : List ℕ) (j : ℕ) → not (is_some (promised_at bs j)) ≡ eqb (amount_at bs j) 0
promises_none bs j = go (eqb (amount_at bs j) 0)
  where
    go : (z : Bool) → not (is_some (cond z None (Some (amount_at bs j)))) ≡ z
    go true = refl
    go false = refl

-- the fields that a slice of fields has
pub get_or-first_chunks : (n k : ℕ) (xs : List ℕ) (i : ℕ) → i < k → get_or (first_chunks n k xs) i [] ≡ take n (drop (n * i) xs)
get_or-first_chunks n zero xs i lt = absurd (omega arith)
get_or-first_chunks n (suc k) xs zero lt = let z : n * 0 ≡ 0 = omega arith in ap (λ m. take n (drop m xs)) (sym z)
get_or-first_chunks n (suc k) xs (suc i) lt =
    let z : n + n * i ≡ n * suc i = omega arith in
    get_or-first_chunks n k (drop n xs) i (omega arith) ∙ ap (take n) (drop-drop (n * i) n xs ∙ ap (λ m. drop m xs) z)

pub same_chunk : (bs : List ℕ) (j : ℕ) → Same bs j (take 7 (drop (7 * j) bs)) 0
same_chunk bs j =
    let at : (o : ℕ) → o < 7 → get_or (take 7 (drop (7 * j) bs)) o 0 ≡ get_or bs (7 * j + o) 0 = λ o lt. get_or-chunk (7 * j) 7 bs o 0 lt in
    let first : 7 * j + 0 ≡ 7 * j = omega arith in
    record {
      tag = at 0 (omega arith) ∙ ap (λ i. get_or bs i 0) first;
      len = ap₂ (λ x y. x + y * 256) (at 1 (omega arith)) (at 2 (omega arith));
      amount = let p3 = at 3 (omega arith) in let p4 = at 4 (omega arith) in let p5 = at 5 (omega arith) in let p6 = at 6 (omega arith) in omega arith;
    }

-- what a field is
module _ (bs : List ℕ) (j : ℕ) where
  abbrev kind : Bool → Bool → Bool → Option Field
  kind x y z = cond x (Some (Promise (promised_at bs j))) (cond y (Some (Settled (amount_at bs j))) (cond z (Some Free) None))

  pub field_none : None ≡ field_at bs j → (is_promise bs j ≡ false) × (is_settled bs j ≡ false) × (is_free bs j ≡ false)
  field_none e = go (is_promise bs j) (is_settled bs j) (is_free bs j) e
    where
      go : (x y z : Bool) → None ≡ kind x y z → (x ≡ false) × (y ≡ false) × (z ≡ false)
      go true y z e = absurd cc
      go false true z e = absurd cc
      go false false true e = absurd cc
      go false false false e = (refl, refl, refl)

  pub field_promise : (p : Option ℕ) → Some (Promise p) ≡ field_at bs j → (is_promise bs j ≡ true) × (p ≡ promised_at bs j)
  field_promise p e = go (is_promise bs j) (is_settled bs j) (is_free bs j) e
    where
      go : (x y z : Bool) → Some (Promise p) ≡ kind x y z → (x ≡ true) × (p ≡ promised_at bs j)
      go true y z e = (refl, cc)
      go false true z e = absurd cc
      go false false true e = absurd cc
      go false false false e = absurd cc

  pub field_settled : (a : ℕ) → Some (Settled a) ≡ field_at bs j → (is_promise bs j ≡ false) × (is_settled bs j ≡ true) × (a ≡ amount_at bs j)
  field_settled a e = go (is_promise bs j) (is_settled bs j) (is_free bs j) e
    where
      go : (x y z : Bool) → Some (Settled a) ≡ kind x y z → (x ≡ false) × (y ≡ true) × (a ≡ amount_at bs j)
      go true y z e = absurd cc
      go false true z e = (refl, refl, cc)
      go false false true e = absurd cc
      go false false false e = absurd cc

  pub field_free : Some Free ≡ field_at bs j → (is_promise bs j ≡ false) × (is_settled bs j ≡ false) × (is_free bs j ≡ true)
  field_free e = go (is_promise bs j) (is_settled bs j) (is_free bs j) e
    where
      go : (x y z : Bool) → Some Free ≡ kind x y z → (x ≡ false) × (y ≡ false) × (z ≡ true)
      go true y z e = absurd cc
      go false true z e = absurd cc
      go false false true e = (refl, refl, refl)
      go false false false e = absurd cc

  -- no two kinds have the same tag
  pub promise_unfree : is_promise bs j ≡ true → is_free bs j ≡ false
  unfolding is_promise is_free
  promise_unfree e = grind (arith, nat_tests)

  pub promise_unsettled : is_promise bs j ≡ true → is_settled bs j ≡ false
  unfolding is_promise is_settled
  promise_unsettled e = grind (arith, nat_tests)

  pub settled_unfree : is_settled bs j ≡ true → is_free bs j ≡ false
  unfolding is_settled is_free
  settled_unfree e = grind (arith, nat_tests)

  pub free_unsettled : is_free bs j ≡ true → is_settled bs j ≡ false
  unfolding is_settled is_free
  free_unsettled e = grind (arith, nat_tests)

  pub field_unpromised : (f : Field) → Some f ≡ field_at bs j → ((p : Option ℕ) → f ≡ Promise p → ⊥) → is_promise bs j ≡ false
  field_unpromised (Promise p) e other = absurd (other p refl)
  field_unpromised (Settled a) e other = (field_settled a e).0
  field_unpromised Free e other = (field_free e).0

-- field i of a slice of fields
module _ {fs : List (List ℕ)} {bs : List ℕ} {b : ℕ} (a : AreFields fs bs b) (i : ℕ) (lt : i < length fs) where
  pub read_at : (f : Option Field) → f ≡ field_at (get_or fs i []) 0 → f ≡ field_at bs (b + i)
  read_at f e = e ∙ ap (λ x. field_at x 0) (a.each i lt) ∙ same_field (same_chunk bs (b + i))

-- the fields of a part
pub part_of : (fs : List (List ℕ)) (bs : List ℕ) (at end : ℕ) (gs : List (List ℕ)) → AreFields fs bs 0 → gs ≡ take (end - at) (drop at fs) → end ≤ length fs → length gs ≡ end - at → AreFields gs bs at
part_of fs bs at end gs a e le long =
    record {
      each = λ i lt.
          let z : 0 + (at + i) ≡ at + i = omega arith in
          ap (λ xs. get_or xs i []) e ∙ get_or-chunk at (end - at) fs i [] (omega arith) ∙ a.each (at + i) (omega arith)
          ∙ ap (λ j. take 7 (drop (7 * j) bs)) z;
    }

pub front_of : (fs gs hs : List (List ℕ)) (bs : List ℕ) (b : ℕ) → fs ≡ gs ++ hs → AreFields fs bs b → AreFields gs bs b
front_of fs gs hs bs b e a =
    let long = ap length e ∙ length-append gs hs in
    record { each = λ i lt. sym (get_or_append_left gs hs [] i lt) ∙ ap (λ xs. get_or xs i []) (sym e) ∙ a.each i (omega arith) }

pub back_of : (fs gs hs : List (List ℕ)) (bs : List ℕ) (b n : ℕ) → fs ≡ gs ++ hs → length gs ≡ n → AreFields fs bs b → AreFields hs bs (b + n)
back_of fs gs hs bs b n e m a =
    let long = ap length e ∙ length-append gs hs in
    record {
      each = λ i lt.
          let z : n + i - n ≡ i = omega arith in
          let w : b + (n + i) ≡ b + n + i = omega arith in
          ap (λ j. get_or hs j []) (sym z) ∙ sym (get_or-append_right gs hs n (n + i) [] m (omega arith)) ∙ ap (λ xs. get_or xs (n + i) []) (sym e) ∙ a.each (n + i) (omega arith)
          ∙ ap (λ j. take 7 (drop (7 * j) bs)) w;
    }
