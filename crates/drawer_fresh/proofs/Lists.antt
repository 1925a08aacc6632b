-- Lists that are repeated, and the bytes of a fresh section by their places. Assumes nothing.
use Rattle.std.proofs.Common.{◌≡◌, ℕ, zero, suc, ◌+◌, ◌-◌, ◌*◌, ◌/◌, ◌%◌, ◌<◌, ◌≤◌, List, [], ◌++◌, length, get_or, sym, refl, ap, ◌∙◌, ap₂, ⊎_elim, mul-le-mul_left, mul-add, add-one, append_assoc, append-nil, arith, length-append}
use Rattle.std.proofs.lemmas.List.{get_or_append_left, get_or-append_right}
use Rattle.std.proofs.lemmas.Bool.{cases_eq}
use Rattle.drawer_fresh.specs.Fresh.{empty_field, repeated, fresh_section}

pub repeated_none : (xs : List ℕ) → repeated 0 xs ≡ []
unfolding repeated
repeated_none xs = refl

pub repeated_more : (n : ℕ) (xs : List ℕ) → repeated (n + 1) xs ≡ repeated n xs ++ xs
unfolding repeated
repeated_more n xs = ap (λ m. repeated m xs) (add-one n)

-- the first copy in place of the last
pub repeated_first : (n : ℕ) (xs : List ℕ) → xs ++ repeated n xs ≡ repeated (n + 1) xs
unfolding repeated
repeated_first zero xs = append-nil xs
repeated_first (suc n) xs =
    sym (append_assoc xs (repeated n xs) xs) ∙ ap (λ ys. ys ++ xs) (repeated_first n xs) ∙ ap (λ m. repeated m xs ++ xs) (add-one n) ∙ sym (repeated_more (suc n) xs)

pub length_repeated : (n m : ℕ) (xs : List ℕ) → length xs ≡ m → length (repeated n xs) ≡ m * n
unfolding repeated
length_repeated zero m xs e = omega arith
length_repeated (suc n) m xs e =
    let ih = length_repeated n m xs e in
    let z : suc n ≡ n + 1 = omega arith in
    length-append (repeated n xs) xs ∙ ap₂ (λ x y. x + y) ih e ∙ (let d = mul-add m n 1 in omega arith) ∙ ap (λ x. m * x) (sym z)

-- element r of the copy q
pub get_or_repeated : (n m : ℕ) (xs : List ℕ) → length xs ≡ m → (q r : ℕ) → q < n → r < m → get_or (repeated n xs) (m * q + r) 0 ≡ get_or xs r 0
unfolding repeated
get_or_repeated zero m xs e q r lq lr = absurd (omega arith)
get_or_repeated (suc n) m xs e q r lq lr =
    let long = length_repeated n m xs e in
    ⊎_elim
    (λ (same : q ≡ n).
    let z : m * q ≡ m * n = ap (λ x. m * x) same in
    get_or-append_right (repeated n xs) xs (m * n) (m * q + r) 0 long (omega arith)
    ∙ (let w : m * q + r - m * n ≡ r = omega arith in ap (λ i. get_or xs i 0) w))
    (λ ne.
    let lt : q + 1 ≤ n = omega (arith, ne) in
    let le = mul-le-mul_left m lt in
    let d = mul-add m q 1 in
    get_or_append_left (repeated n xs) xs 0 (m * q + r) (omega arith) ∙ get_or_repeated n m xs e q r (omega (arith, ne)) lr)
    (cases_eq q n)

pub length_section : (k : ℕ) → length (fresh_section k) ≡ 7 * (k + 1)
length_section k =
    let e = length_repeated k 7 (empty_field 0x00) refl in
    length-append (empty_field 0x50) (repeated k (empty_field 0x00)) ∙ omega arith

-- the byte at a place of a section: the tag of its field first, then 4, then 0
pub tag_of : ℕ → ℕ
tag_of zero = 0x50
tag_of (suc q) = 0x00

pub tag_later : (q : ℕ) → (q ≡ 0 → ⊥) → tag_of q ≡ 0x00
unfolding tag_of
tag_later zero ne = absurd (ne refl)
tag_later (suc q) ne = refl

pub zero_behind : (t r : ℕ) → (r ≡ 0 → ⊥) → (r ≡ 1 → ⊥) → get_or (empty_field t) r 0 ≡ 0
zero_behind t zero n0 n1 = absurd (n0 refl)
zero_behind t (suc zero) n0 n1 = absurd (n1 refl)
zero_behind t (suc (suc zero)) n0 n1 = refl
zero_behind t (suc (suc (suc zero))) n0 n1 = refl
zero_behind t (suc (suc (suc (suc zero)))) n0 n1 = refl
zero_behind t (suc (suc (suc (suc (suc zero))))) n0 n1 = refl
zero_behind t (suc (suc (suc (suc (suc (suc zero)))))) n0 n1 = refl
zero_behind t (suc (suc (suc (suc (suc (suc (suc r))))))) n0 n1 = refl

field_byte : (k q r : ℕ) → q ≤ k → r < 7 → get_or (fresh_section k) (7 * q + r) 0 ≡ get_or (empty_field (tag_of q)) r 0
unfolding tag_of
field_byte k zero r le lt = let z : 7 * 0 + r ≡ r = omega arith in ap (λ i. get_or (fresh_section k) i 0) z ∙ get_or_append_left (empty_field 0x50) (repeated k (empty_field 0x00)) 0 r lt
field_byte k (suc n) r le lt =
    let w : 7 * suc n + r - 7 ≡ 7 * n + r = omega arith in
    get_or-append_right (empty_field 0x50) (repeated k (empty_field 0x00)) 7 (7 * suc n + r) 0 refl (omega arith)
    ∙ ap (λ x. get_or (repeated k (empty_field 0x00)) x 0) w ∙ get_or_repeated k 7 (empty_field 0x00) refl n r (omega arith) lt

pub section_byte : (k place : ℕ) → place < 7 * (k + 1) → get_or (fresh_section k) place 0 ≡ get_or (empty_field (tag_of (place / 7))) (place % 7) 0
section_byte k place lt =
    let z : place ≡ 7 * (place / 7) + place % 7 = omega arith in
    ap (λ i. get_or (fresh_section k) i 0) z ∙ field_byte k (place / 7) (place % 7) (omega arith) (omega arith)
