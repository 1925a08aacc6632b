-- What a written amount or bill leaves of each field. Assumes nothing.
use Rattle.std.proofs.Common.{◌≡◌, ℕ, suc, ◌+◌, ◌/◌, ◌%◌, ◌++◌, [], ◌∷◌, take, drop, sym, ap, ◌*◌, ◌^◌, ◌<◌, ◌≤◌, ◌≢◌, ◌⊎◌, List, length, get_or, set, ◌∙◌, ap₂, arith, length-set, get_or-set_other, get_or-set_same, append_assoc}
use Rattle.std.proofs.lemmas.List.{drop-drop, drop-set-lt, take-append-drop}
use Rattle.std.proofs.Math.Seq.{take-suc-set}
use borrow.Rule.Slice.PartMut.{put_mid}
use Rattle.drawer_image.proofs.Fields.{Same}
use Rattle.drawer_image.specs.Fields.{tag_at, length_at, amount_at}
use Rattle.drawer.specs.Writes.{put_amount, put_settled}

-- field j is the same in both
abbrev pub Kept : List ℕ → List ℕ → ℕ → Type 0
Kept bs cs j = Same bs j cs j

pub same_then : (xs bs cs : List ℕ) (j : ℕ) → Kept xs bs j → Kept bs cs j → Kept xs cs j
same_then xs bs cs j p q = record { tag = q.tag ∙ p.tag; len = q.len ∙ p.len; amount = q.amount ∙ p.amount }

-- a byte outside the four
byte_kept : (bs : List ℕ) (j a i : ℕ) → (i < 7 * j + 3) ⊎ (7 * j + 6 < i) → get_or (put_amount bs j a) i 0 ≡ get_or bs i 0
byte_kept bs j a i out =
    get_or-set_other _ (7 * j + 6) i _ 0 (grind arith) ∙ get_or-set_other _ (7 * j + 5) i _ 0 (grind arith)
    ∙ get_or-set_other _ (7 * j + 4) i _ 0 (grind arith) ∙ get_or-set_other _ (7 * j + 3) i _ 0 (grind arith)

pub tag_kept : (bs : List ℕ) (j a i : ℕ) → tag_at (put_amount bs j a) i ≡ tag_at bs i
tag_kept bs j a i = byte_kept bs j a (7 * i) (grind arith)

pub length_kept : (bs : List ℕ) (j a i : ℕ) → length_at (put_amount bs j a) i ≡ length_at bs i
length_kept bs j a i = ap₂ (λ x y. x + y * 256) (byte_kept bs j a (7 * i + 1) (grind arith)) (byte_kept bs j a (7 * i + 2) (grind arith))

amount_other : (bs : List ℕ) (j a i : ℕ) → i ≢ j → amount_at (put_amount bs j a) i ≡ amount_at bs i
amount_other bs j a i ne =
    let p3 = byte_kept bs j a (7 * i + 3) (grind arith) in
    let p4 = byte_kept bs j a (7 * i + 4) (grind arith) in
    let p5 = byte_kept bs j a (7 * i + 5) (grind arith) in
    let p6 = byte_kept bs j a (7 * i + 6) (grind arith) in
    omega arith

pub amount_same : (bs : List ℕ) (j a : ℕ) → 7 * j + 7 ≤ length bs → a < 2 ^ 32 → amount_at (put_amount bs j a) j ≡ a
amount_same bs j a room fits = grind (arith, get_or-set_same, get_or-set_other, length-set)

pub length_put : (bs : List ℕ) (j a : ℕ) → length (put_amount bs j a) ≡ length bs
length_put bs j a = simp length-set

pub put_other : (bs : List ℕ) (j a i : ℕ) → i ≢ j → Kept bs (put_amount bs j a) i
put_other bs j a i ne = record { tag = tag_kept bs j a i; len = length_kept bs j a i; amount = amount_other bs j a i ne }

-- a tag
set_other : (bs : List ℕ) (j t i : ℕ) → i ≢ j → Kept bs (set bs (7 * j) t) i
set_other bs j t i ne =
    let p0 = get_or-set_other bs (7 * j) (7 * i) t 0 (grind arith) in
    let p1 = get_or-set_other bs (7 * j) (7 * i + 1) t 0 (grind arith) in
    let p2 = get_or-set_other bs (7 * j) (7 * i + 2) t 0 (grind arith) in
    let p3 = get_or-set_other bs (7 * j) (7 * i + 3) t 0 (grind arith) in
    let p4 = get_or-set_other bs (7 * j) (7 * i + 4) t 0 (grind arith) in
    let p5 = get_or-set_other bs (7 * j) (7 * i + 5) t 0 (grind arith) in
    let p6 = get_or-set_other bs (7 * j) (7 * i + 6) t 0 (grind arith) in
    record { tag = p0; len = omega arith; amount = omega arith }

pub settled_other : (bs : List ℕ) (j a i : ℕ) → i ≢ j → Kept bs (put_settled bs j a) i
settled_other bs j a i ne = same_then bs (set bs (7 * j) 0x43) (put_settled bs j a) i (set_other bs j 0x43 i ne) (put_other (set bs (7 * j) 0x43) j a i ne)

pub length_settled : (bs : List ℕ) (j a : ℕ) → length (put_settled bs j a) ≡ length bs
length_settled bs j a = simp length-set

pub settled_tag : (bs : List ℕ) (j a : ℕ) → 7 * j + 7 ≤ length bs → tag_at (put_settled bs j a) j ≡ 0x43
settled_tag bs j a room = tag_kept (set bs (7 * j) 0x43) j a j ∙ get_or-set_same bs (7 * j) 0x43 0 (omega arith)

pub settled_length : (bs : List ℕ) (j a : ℕ) → length_at (put_settled bs j a) j ≡ length_at bs j
settled_length bs j a =
    length_kept (set bs (7 * j) 0x43) j a j
    ∙ ap₂ (λ x y. x + y * 256) (get_or-set_other bs (7 * j) (7 * j + 1) 0x43 0 (grind arith)) (get_or-set_other bs (7 * j) (7 * j + 2) 0x43 0 (grind arith))

pub settled_amount : (bs : List ℕ) (j a : ℕ) → 7 * j + 7 ≤ length bs → a < 2 ^ 32 → amount_at (put_settled bs j a) j ≡ a
settled_amount bs j a room fits = let e : length (set bs (7 * j) 0x43) ≡ length bs = simp length-set in amount_same (set bs (7 * j) 0x43) j a (omega arith) fits

-- a write of one byte more, and of four
put_next : (a k : ℕ) (xs : List ℕ) (y : ℕ) (ys : List ℕ) → a < length xs → put_mid a (suc k) xs (y ∷ ys) ≡ put_mid (suc a) k (set xs a y) ys
put_next a k xs y ys lt =
    let z : a + suc k ≡ suc a + k = omega arith in
    let rest : drop (suc k) (drop a xs) ≡ drop k (drop (suc a) (set xs a y)) =
    drop-drop (suc k) a xs ∙ ap (λ n. drop n xs) z ∙ sym (drop-drop k (suc a) xs) ∙ ap (drop k) (sym (drop-set-lt (suc a) xs a y (omega arith))) in
    ap (λ (zs : List ℕ). take a xs ++ (y ∷ (ys ++ zs))) rest
    ∙ sym (append_assoc (take a xs) (y ∷ []) (ys ++ drop k (drop (suc a) (set xs a y))))
    ∙ ap (λ (zs : List ℕ). zs ++ (ys ++ drop k (drop (suc a) (set xs a y)))) (sym (take-suc-set xs a y lt))

put_none : (a : ℕ) (xs : List ℕ) → put_mid a 0 xs [] ≡ xs
put_none a xs = take-append-drop a xs

pub put_four : (bs : List ℕ) (j a : ℕ) → 7 * j + 7 ≤ length bs
    → put_mid (7 * j + 3) 4 bs (a % 256 ∷ a / 256 % 256 ∷ a / 65536 % 256 ∷ a / 16777216 % 256 ∷ []) ≡ put_amount bs j a
put_four bs j a room =
    let at = 7 * j + 3 in
    let p : suc at ≡ 7 * j + 4 = omega arith in
    let q : suc (suc at) ≡ 7 * j + 5 = omega arith in
    let r : suc (suc (suc at)) ≡ 7 * j + 6 = omega arith in
    let b = set bs at (a % 256) in
    let c = set b (suc at) (a / 256 % 256) in
    let d = set c (suc (suc at)) (a / 65536 % 256) in
    let lb = length-set bs at (a % 256) in
    let lc = length-set b (suc at) (a / 256 % 256) in
    let ld = length-set c (suc (suc at)) (a / 65536 % 256) in
    put_next at 3 bs _ (a / 256 % 256 ∷ a / 65536 % 256 ∷ a / 16777216 % 256 ∷ []) (omega arith)
    ∙ put_next (suc at) 2 b _ (a / 65536 % 256 ∷ a / 16777216 % 256 ∷ []) (omega arith) ∙ put_next (suc (suc at)) 1 c _ (a / 16777216 % 256 ∷ []) (omega arith)
    ∙ put_next (suc (suc (suc at))) 0 d _ [] (omega arith) ∙ put_none (suc (suc (suc (suc at)))) (set d (suc (suc (suc at))) (a / 16777216 % 256))
    ∙ ap₂ (λ x y. set (set (set b x (a / 256 % 256)) y (a / 65536 % 256)) (suc (suc (suc at))) (a / 16777216 % 256)) p q
    ∙ ap (λ x. set (set (set b (7 * j + 4) (a / 256 % 256)) (7 * j + 5) (a / 65536 % 256)) x (a / 16777216 % 256)) r
