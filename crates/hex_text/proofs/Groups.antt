-- A line as groups of two digits, with one blank between. Assumes nothing.
use Rattle.std.proofs.Common.{◌≡◌, ◌≢◌, ℕ, zero, suc, ◌+◌, ◌-◌, ◌*◌, ◌^◌, ◌/◌, ◌%◌, ◌<◌, ◌≤◌, false, true, List, [], ◌∷◌, ◌++◌, length, get_or, take, drop, subst, sym, refl, ap, ◌∙◌, arith, append_assoc, length-append, length-drop, set}
use Rattle.std.proofs.lemmas.Fmt.{hex_byte}
use Rattle.std.specs.Fmt.{padded_integral, format_spec, digits}
use Rattle.std.proofs.lemmas.List.{take_more, take_all, take_at, take-append-drop, drop_more, get_or-drop, length-take-le, nil_from_length}
use Rattle.std.proofs.lemmas.Bool.Decides.{nat_tests}
use Rattle.std.proofs.Math.Seq.{take-suc-set}
use Rattle.std.proofs.Math.ListN.{length-set}
use Rattle.std.specs.Simd.{first_chunks}
use Rattle.std.specs.Str.{IsAscii}
use Rattle.hex_text.specs.Spelled.{Bytes, digit, pair, blanked, spelled}

pub length_blanked : (bs : List ℕ) → length (blanked bs) ≡ 3 * length bs
unfolding blanked
length_blanked [] = refl
length_blanked (b ∷ bs) = let ih = length_blanked bs in omega arith

pub blanked_append : (xs ys : List ℕ) → blanked (xs ++ ys) ≡ blanked xs ++ blanked ys
unfolding blanked
blanked_append [] ys = refl
blanked_append (x ∷ xs) ys = ap (λ l. 32 ∷ pair x ++ l) (blanked_append xs ys)

with_blank : (line bs : List ℕ) → 0 < length line → line ≡ spelled bs → 32 ∷ line ≡ blanked bs
unfolding blanked
with_blank line [] h e = absurd (let n = ap length e in omega arith)
with_blank line (b ∷ bs) h e = ap (λ l. 32 ∷ l) e

-- a line is a blank and two digits for each byte, the first blank left out
pub counted : (line bs : List ℕ) → 0 < length line → line ≡ spelled bs → length line % 3 ≡ 2
counted line bs some is = omega (arith, ap length (with_blank line bs some is), length_blanked bs)

pub two_long : (xs : List ℕ) → length xs ≡ 2 → xs ≡ get_or xs 0 0 ∷ get_or xs 1 0 ∷ []
two_long [] n = absurd (omega arith)
two_long (x ∷ []) n = absurd (omega arith)
two_long (x ∷ y ∷ xs) n = ap (λ l. x ∷ y ∷ l) (nil_from_length xs (omega arith))

pub three_long : (xs : List ℕ) → length xs ≡ 3 → xs ≡ get_or xs 0 0 ∷ get_or xs 1 0 ∷ get_or xs 2 0 ∷ []
three_long [] n = absurd (omega arith)
three_long (x ∷ xs) n = ap (λ l. x ∷ l) (two_long xs (omega arith))

-- the groups of a line, one behind the other
unfoldable pub joined : List (List ℕ) → List ℕ
joined [] = []
joined (g ∷ gs) = g ++ joined gs

joined_append : (gs hs : List (List ℕ)) → joined (gs ++ hs) ≡ joined gs ++ joined hs
unfolding joined
joined_append [] hs = refl
joined_append (g ∷ gs) hs = ap (λ l. g ++ l) (joined_append gs hs) ∙ sym (append_assoc g (joined gs) (joined hs))

joined_chunks : (k : ℕ) (xs : List ℕ) → k * 3 ≡ length xs → joined (first_chunks 3 k xs) ≡ xs
unfolding joined
joined_chunks zero xs n = sym (nil_from_length xs (omega arith))
joined_chunks (suc k) xs n =
    ap (λ l. take 3 xs ++ l) (joined_chunks k (drop 3 xs) (omega (arith, length-drop 3 xs))) ∙ take-append-drop 3 xs

chunk_length : (k : ℕ) (xs : List ℕ) (i : ℕ) → k * 3 ≡ length xs → i < k → length (get_or (first_chunks 3 k xs) i []) ≡ 3
chunk_length zero xs i n h = absurd (omega arith)
chunk_length (suc k) xs zero n h = length-take-le 3 xs (omega arith)
chunk_length (suc k) xs (suc i) n h = chunk_length k (drop 3 xs) i (omega (arith, length-drop 3 xs)) (omega arith)

-- what a line begins with, before groups of three
abbrev pub over : List ℕ → List ℕ
over line = take (length line % 3) line

-- a line is what is over, and groups of three
pub record Cut (line : List ℕ) (groups : List (List ℕ)) : Type 0 where
  pub whole : line ≡ over line ++ joined groups
  pub three : (i : ℕ) → i < length groups → length (get_or groups i []) ≡ 3

pub cut_of : (line : List ℕ) (groups : List (List ℕ)) → groups ≡ first_chunks 3 (length line / 3) (drop (length line % 3) line) → length groups ≡ length line / 3 → Cut line groups
cut_of line groups g n =
    let k : length line / 3 * 3 ≡ length (drop (length line % 3) line) = omega (arith, length-drop (length line % 3) line) in
    record {
      whole = sym (ap (λ l. over line ++ joined l) g ∙ ap (λ l. over line ++ l) (joined_chunks (length line / 3) (drop (length line % 3) line) k) ∙ take-append-drop (length line % 3) line);
      three = λ i h. ap (λ l. length (get_or l i [])) g ∙ chunk_length (length line / 3) (drop (length line % 3) line) i k (omega arith);
    }

-- the first digits of a line are not those of a byte
pub none_first : (line : List ℕ) → 0 < length line → ((b : ℕ) → b < 256 → over line ≢ pair b) → (bs : List ℕ) → Bytes bs → line ≢ spelled bs
unfolding blanked
none_first line some none [] fit is = absurd (omega (arith, ap length is))
none_first line some none (b ∷ bs) fit is =
    let n = ap length is in
    let two : length line % 3 ≡ 2 = omega (arith, length_blanked bs) in
    none b (fit 0) (ap (λ k. take k line) two ∙ ap (take 2) is)

-- the first byte is read
pub first_read : (first : List ℕ) (groups : List (List ℕ)) (items : List ℕ) (b : ℕ) → first ≡ pair b → items ≡ b ∷ [] → 32 ∷ first ++ joined (take 0 groups) ≡ blanked items
unfolding blanked joined
first_read first groups items b is e = ap (λ l. 32 ∷ l ++ []) is ∙ ap blanked (sym e)

module _ (line : List ℕ) (groups : List (List ℕ)) (cut : Cut line groups) (items : List ℕ) (i : ℕ) (read : 32 ∷ over line ++ joined (take i groups) ≡ blanked items) where
  -- one byte more is read
  pub group_read : (digits items' : List ℕ) (b : ℕ) → i < length groups → get_or groups i [] ≡ 32 ∷ digits → digits ≡ pair b → items' ≡ items ++ b ∷ [] → 32 ∷ over line ++ joined (take (i + 1) groups) ≡ blanked items'
  unfolding blanked joined
  group_read digits items' b h group is e =
      ap (λ l. 32 ∷ over line ++ joined l) (take_more groups i [] h) ∙ ap (λ l. 32 ∷ over line ++ l) (joined_append (take i groups) (get_or groups i [] ∷ [])) ∙ sym (append_assoc (32 ∷ over line) (joined (take i groups)) (get_or groups i [] ++ [])) ∙ ap (λ l. l ++ (get_or groups i [] ++ [])) read ∙ ap (λ l. blanked items ++ (l ++ [])) (group ∙ ap (λ l. 32 ∷ l) is) ∙ sym (blanked_append items (b ∷ [])) ∙ ap blanked (sym e)

  -- a group that is not a blank and the digits of a byte
  pub none_spelled : i < length groups → 0 < length line → ((b : ℕ) → b < 256 → get_or groups i [] ≢ 32 ∷ pair b) → (bs : List ℕ) → Bytes bs → line ≢ spelled bs
  unfolding blanked joined
  none_spelled h some none bs fit is =
      at (drop (length items) bs) (λ k. rw (get_or-drop (length items) bs k 0) (fit (length items + k))) (left items bs (sym rest ∙ with_blank line bs some is))
    where
      more : List ℕ
      more = joined (drop (i + 1) groups)

      rest : 32 ∷ line ≡ blanked items ++ (get_or groups i [] ++ more)
      rest =
          ap (λ l. 32 ∷ l) cut.whole ∙ ap (λ l. 32 ∷ over line ++ joined l) (sym (take-append-drop i groups)) ∙ ap (λ l. 32 ∷ over line ++ l) (joined_append (take i groups) (drop i groups)) ∙ sym (append_assoc (32 ∷ over line) (joined (take i groups)) (joined (drop i groups))) ∙ ap (λ l. l ++ joined (drop i groups)) read ∙ ap (λ l. blanked items ++ joined l) (drop_more groups i [] h)

      left : (items bs : List ℕ) → blanked items ++ (get_or groups i [] ++ more) ≡ blanked bs → get_or groups i [] ++ more ≡ blanked (drop (length items) bs)
      left [] bs e = e
      left (x ∷ items) [] e = absurd (let n = ap length e in omega arith)
      left (x ∷ items) (b ∷ bs) e = left items bs (ap (drop 3) e)

      at : (ds : List ℕ) → Bytes ds → get_or groups i [] ++ more ≡ blanked ds → ⊥
      at [] fit e = omega (arith, ap length e, length-append (get_or groups i []) more, cut.three i h)
      at (b ∷ ds) fit e =
          none b (fit 0) (sym (take_at (get_or groups i []) more 3 (cut.three i h)) ∙ ap (take 3) e)

-- all bytes are read
pub all_read : (line : List ℕ) (groups : List (List ℕ)) (items : List ℕ) (i : ℕ) → Cut line groups → length groups ≤ i → 32 ∷ over line ++ joined (take i groups) ≡ blanked items → line ≡ spelled items
all_read line groups items i cut end read =
    ap (drop 1) (ap (λ l. 32 ∷ l) (cut.whole ∙ ap (λ l. over line ++ joined l) (sym (take_all i groups end))) ∙ read)

pub nothing_spelled : (line items : List ℕ) → length line ≡ 0 → items ≡ [] → Bytes items × (line ≡ spelled items)
unfolding blanked
nothing_spelled [] items h e = (subst (λ (l : List ℕ). Bytes l) (sym e) (λ k. omega arith), ap spelled (sym e))
nothing_spelled (b ∷ line) items h e = absurd (omega arith)

-- what a byte is printed as
pub two_digits : (b : ℕ) → b < 256 → padded_integral (format_spec 32 0 4 2 (2 ^ 64 - 1)) false [] (digits 16 true b) ≡ pair b
two_digits b fits = hex_byte true b fits

pub blanked_more : (bs : List ℕ) (i : ℕ) → i < length bs → blanked (take (i + 1) bs) ≡ blanked (take i bs) ++ blanked (get_or bs i 0 ∷ [])
blanked_more bs i h = ap blanked (take_more bs i 0 h) ∙ blanked_append (take i bs) (get_or bs i 0 ∷ [])

-- one byte more is laid
pub laid_more : (text bytes : List ℕ) (i end b high low : ℕ) → i < length bytes → end ≡ 3 * i → end + 2 < length text → high ≡ digit (get_or bytes i 0 / 16) → low ≡ digit (get_or bytes i 0 % 16) → take (3 * i) text ≡ blanked (take i bytes) → take (3 * (i + 1)) (set (set (set text end 32) (end + 1) high) (end + 2) low) ≡ blanked (take (i + 1) bytes)
unfolding blanked
laid_more text bytes i end b high low h at room e1 e2 before =
    let one = set text end 32 in
    let two = set one (end + 1) high in
    let n : 3 * (i + 1) ≡ suc (end + 2) = omega arith in
    let third = take-suc-set two (end + 2) low (omega (arith, length-set one (end + 1) high, length-set text end 32)) in
    let second = take-suc-set one (end + 1) high (omega (arith, length-set text end 32)) in
    let first = take-suc-set text end 32 (omega arith) in
    let k1 : end + 1 ≡ suc end = omega arith in
    let k2 : end + 2 ≡ suc (end + 1) = omega arith in
    ap (λ m. take m (set two (end + 2) low)) n ∙ third ∙ ap (λ l. l ++ low ∷ []) (ap (λ m. take m two) k2 ∙ second ∙ ap (λ l. l ++ high ∷ []) (ap (λ m. take m one) k1 ∙ first ∙ ap (λ l. l ++ 32 ∷ []) (ap (λ m. take m text) at ∙ before))) ∙ append_assoc (blanked (take i bytes) ++ 32 ∷ []) (high ∷ []) (low ∷ []) ∙ append_assoc (blanked (take i bytes)) (32 ∷ []) (high ∷ low ∷ []) ∙ ap (λ x. blanked (take i bytes) ++ 32 ∷ x ∷ low ∷ []) e1 ∙ ap (λ x. blanked (take i bytes) ++ 32 ∷ digit (get_or bytes i 0 / 16) ∷ x ∷ []) e2 ∙ sym (blanked_more bytes i h)

small_digit : (n : ℕ) → n < 16 → digit n < 128
small_digit n h = grind (arith, nat_tests)

-- what is laid is text
pub ascii_blanked : (bs : List ℕ) → Bytes bs → IsAscii (blanked bs)
unfolding blanked
ascii_blanked [] fit i = omega arith
ascii_blanked (b ∷ bs) fit zero = omega arith
ascii_blanked (b ∷ bs) fit (suc zero) = let h = fit 0 in small_digit (b / 16) (omega arith)
ascii_blanked (b ∷ bs) fit (suc (suc zero)) = small_digit (b % 16) (omega arith)
ascii_blanked (b ∷ bs) fit (suc (suc (suc i))) = ascii_blanked bs (λ k. fit (suc k)) i

pub bytes_push : (bs : List ℕ) (b : ℕ) → Bytes bs → b < 256 → Bytes (bs ++ b ∷ [])
bytes_push [] b fit h zero = h
bytes_push [] b fit h (suc k) = omega arith
bytes_push (x ∷ bs) b fit h zero = fit 0
bytes_push (x ∷ bs) b fit h (suc k) = bytes_push bs b (λ j. fit (suc j)) h k

-- the same digits are the same byte
digit_number : (m n : ℕ) → m < 16 → n < 16 → digit m ≡ digit n → m ≡ n
digit_number m n a b e = grind (arith, nat_tests)

-- the same text is of the same bytes
same_blanked : (xs ys : List ℕ) → Bytes xs → Bytes ys → blanked xs ≡ blanked ys → xs ≡ ys
unfolding blanked
same_blanked [] [] fx fy e = refl
same_blanked [] (y ∷ ys) fx fy e = absurd (let n = ap length e in omega arith)
same_blanked (x ∷ xs) [] fx fy e = absurd (let n = ap length e in omega arith)
same_blanked (x ∷ xs) (y ∷ ys) fx fy e =
    let bx = fx 0 in
    let by = fy 0 in
    let high = digit_number (x / 16) (y / 16) (omega arith) (omega arith) (ap (λ l. get_or l 1 0) e) in
    let low = digit_number (x % 16) (y % 16) (omega arith) (omega arith) (ap (λ l. get_or l 2 0) e) in
    let head : x ≡ y = omega arith in
    let tail = same_blanked xs ys (λ k. fx (suc k)) (λ k. fy (suc k)) (ap (drop 3) e) in
    ap (λ b. b ∷ xs) head ∙ ap (λ l. y ∷ l) tail

pub same_spelled : (xs ys : List ℕ) → Bytes xs → Bytes ys → spelled xs ≡ spelled ys → xs ≡ ys
unfolding blanked
same_spelled xs ys fx fy e = same_blanked xs ys fx fy (with_first xs ys e)
  where
    with_first : (xs ys : List ℕ) → spelled xs ≡ spelled ys → blanked xs ≡ blanked ys
    with_first [] [] e = refl
    with_first [] (y ∷ ys) e = absurd (let n = ap length e in omega arith)
    with_first (x ∷ xs) [] e = absurd (let n = ap length e in omega arith)
    with_first (x ∷ xs) (y ∷ ys) e = ap (λ l. 32 ∷ l) e
