-- A frame is read exactly where one stands: what is written reads as the same message, and what is read writes as
-- the same bytes. Assumes nothing.
use Rattle.std.proofs.Common.{◌≡◌, ℕ, suc, ◌+◌, ◌-◌, ◌*◌, ◌/◌, ◌%◌, ◌<◌, ◌≤◌, Bool, true, false, cond, List, [], ◌∷◌, ◌++◌, length, get_or, take, drop, Ok, Err, Result, sym, refl, ap, ◌∙◌, subst, arith}
use Rattle.std.proofs.lemmas.Bool.{ltb-false, eqb-true, le-ltb, eq-eqb}
use Rattle.std.proofs.lemmas.List.{take_at, get_or_at, length-append, length-take-le, length-drop, append_assoc, take_more, take-append-drop, get_or-drop, get_or-append-add}
use Rattle.frame_check.specs.Register.{check_of}
use Rattle.frame.specs.Frames.{Content, content, front_answer, read_answer, checked_part, frame_bytes, length_byte, carried_check, StandsAt, Exactly}

-- what makes the bytes begin with a frame that says m
pub record Begins (bs : List ℕ) (m : Content) : Type 0 where
  pub some : 5 ≤ length bs
  pub sync : get_or bs 0 0 ≡ 0xfc
  pub long : 5 ≤ length_byte bs
  pub here : length_byte bs ≤ length bs
  pub sum : check_of (take (length_byte bs - 2) bs) ≡ carried_check bs (length_byte bs - 2)
  pub says : content (get_or bs 2 0) (take (length_byte bs - 5) (drop 3 bs)) ≡ m

pub begun : (bs : List ℕ) (m : Content) → Begins bs m → front_answer bs ≡ Ok m
begun bs m b =
    let a0 = le-ltb (length bs) 5 b.some in
    let a1 = eq-eqb _ _ b.sync in
    let a2 = le-ltb _ _ b.long in
    let a3 = le-ltb _ _ b.here in
    let a4 = eq-eqb _ _ b.sum in
    simp (a0, a1, a2, a3, a4) (ap Ok b.says)

passed : {X : Type 0} {E : Type 0} (b : Bool) (e : E) (r : Result X E) (m : X) → cond b (Err e) r ≡ Ok m → (b ≡ false) × (r ≡ Ok m)
passed true e r m h = let z : ◌≡◌ {A = ℕ} 0 1 = cc in absurd (omega arith)
passed false e r m h = (refl, h)

held : {X : Type 0} {E : Type 0} (b : Bool) (e : E) (r : Result X E) (m : X) → cond b r (Err e) ≡ Ok m → (b ≡ true) × (r ≡ Ok m)
held true e r m h = (refl, h)
held false e r m h = let z : ◌≡◌ {A = ℕ} 0 1 = cc in absurd (omega arith)

same_ok : {X E : Type 0} (x y : X) → ◌≡◌ {A = Result X E} (Ok x) (Ok y) → x ≡ y
same_ok x y e = cc

pub begins : (bs : List ℕ) (m : Content) → front_answer bs ≡ Ok m → Begins bs m
begins bs m e =
    let s0 = passed _ _ _ _ e in
    let s1 = held _ _ _ _ s0.1 in
    let s2 = passed _ _ _ _ s1.1 in
    let s3 = passed _ _ _ _ s2.1 in
    let s4 = held _ _ _ _ s3.1 in
    record {
      some = ltb-false _ _ s0.0;
      sync = eqb-true _ _ s1.0;
      long = ltb-false _ _ s2.0;
      here = ltb-false _ _ s3.0;
      sum = eqb-true _ _ s4.0;
      says = same_ok _ _ s4.1;
    }

abbrev whole : ℕ → ℕ → List ℕ → ℕ → ℕ → List ℕ → List ℕ
whole l cmd p lo hi rest = 252 ∷ l ∷ cmd ∷ ((p ++ lo ∷ hi ∷ []) ++ rest)

module _ (l cmd lo hi : ℕ) (p rest : List ℕ) where
  at_body : take (length p + 5 - 2) (whole l cmd p lo hi rest) ≡ 252 ∷ l ∷ cmd ∷ p
  at_body =
      let e : length p + 5 - 2 ≡ suc (suc (suc (length p))) = omega arith in
      rw e (ap (λ q. 252 ∷ l ∷ cmd ∷ q) (ap (take (length p)) (append_assoc p (lo ∷ hi ∷ []) rest) ∙ take_at p (lo ∷ hi ∷ rest) (length p) refl))

  at_low : get_or (whole l cmd p lo hi rest) (length p + 5 - 2) 0 ≡ lo
  at_low =
      let e : length p + 5 - 2 ≡ suc (suc (suc (length p))) = omega arith in
      rw e (ap (λ q. get_or q (length p) 0) (append_assoc p (lo ∷ hi ∷ []) rest) ∙ get_or_at p lo (hi ∷ rest) 0 (length p) refl)

  at_high : get_or (whole l cmd p lo hi rest) (length p + 5 - 2 + 1) 0 ≡ hi
  at_high =
      let e : length p + 5 - 2 + 1 ≡ suc (suc (suc (length p + 1))) = omega arith in
      rw e (ap (λ q. get_or q (length p + 1) 0) (append_assoc p (lo ∷ hi ∷ []) rest) ∙ get_or-append-add p (lo ∷ hi ∷ rest) 1 0)

  at_part : take (length p + 5 - 5) (drop 3 (whole l cmd p lo hi rest)) ≡ p
  at_part =
      let e : length p + 5 - 5 ≡ length p = omega arith in
      rw e (ap (take (length p)) (append_assoc p (lo ∷ hi ∷ []) rest) ∙ take_at p (lo ∷ hi ∷ rest) (length p) refl)

parts : (x : ℕ) → x % 256 + 256 * (x / 256) ≡ x
parts x = omega arith

-- what is written reads as the same message
pub reads_back : (m : Content) (rest : List ℕ) → front_answer (frame_bytes m ++ rest) ≡ Ok m
reads_back m rest =
    let p = m.«data» in
    let c = check_of (checked_part m) in
    let l = length p + 5 in
    let lt : length (frame_bytes m ++ rest) ≡ length p + 5 + length rest = simp length-append (omega arith) in
    let low = at_low l m.command (c % 256) (c / 256) p rest in
    let high = at_high l m.command (c % 256) (c / 256) p rest in
    begun (frame_bytes m ++ rest) m (record {
      some = omega arith;
      sync = refl;
      long = omega arith;
      here = omega arith;
      sum = ap check_of (at_body l m.command (c % 256) (c / 256) p rest) ∙ sym (parts c) ∙ sym (ap (λ x. x + 256 * (c / 256)) low) ∙ ap (λ y. get_or (frame_bytes m ++ rest) (length p + 5 - 2) 0 + 256 * y) (sym high);
      says = ap (content m.command) (at_part l m.command (c % 256) (c / 256) p rest);
    })

two_more : (xs : List ℕ) (k : ℕ) → k + 2 ≤ length xs → take k xs ++ get_or xs k 0 ∷ get_or xs (k + 1) 0 ∷ [] ≡ take (k + 2) xs
two_more xs k h =
    sym (append_assoc (take k xs) (get_or xs k 0 ∷ []) (get_or xs (k + 1) 0 ∷ [])) ∙ ap (λ q. q ++ get_or xs (k + 1) 0 ∷ []) (sym (take_more xs k 0 (omega arith))) ∙ sym (take_more xs (k + 1) 0 (omega arith)) ∙ ap (λ n. take n xs) (omega arith)

back : (cmd k : ℕ) (rest : List ℕ) → k + 2 ≤ length rest → get_or rest k 0 < 256 → check_of (252 ∷ (k + 5) ∷ cmd ∷ take k rest) ≡ get_or rest k 0 + 256 * get_or rest (k + 1) 0 → frame_bytes (content cmd (take k rest)) ≡ 252 ∷ (k + 5) ∷ cmd ∷ take (k + 2) rest
back cmd k rest h f e =
    let n = length-take-le k rest (omega arith) in
    let lo : check_of (252 ∷ (k + 5) ∷ cmd ∷ take k rest) % 256 ≡ get_or rest k 0 = omega arith in
    let hi : check_of (252 ∷ (k + 5) ∷ cmd ∷ take k rest) / 256 ≡ get_or rest (k + 1) 0 = omega arith in
    rw n (ap (λ q. 252 ∷ (k + 5) ∷ cmd ∷ q) (ap (λ x. take k rest ++ x ∷ (check_of (252 ∷ (k + 5) ∷ cmd ∷ take k rest) / 256) ∷ []) lo ∙ ap (λ x. take k rest ++ get_or rest k 0 ∷ x ∷ []) hi ∙ two_more rest k h))

-- what is read writes as the same bytes
pub writes_back : (bs : List ℕ) (m : Content) → ((i : ℕ) → get_or bs i 0 < 256) → front_answer bs ≡ Ok m → frame_bytes m ≡ take (length m.«data» + 5) bs
writes_back [] m fits e = absurd (omega (arith, (begins [] m e).some))
writes_back (a ∷ []) m fits e = absurd (omega (arith, (begins (a ∷ []) m e).some))
writes_back (a ∷ b ∷ []) m fits e = absurd (omega (arith, (begins (a ∷ b ∷ []) m e).some))
writes_back (a ∷ l ∷ cmd ∷ rest) m fits e =
    let is = begins (a ∷ l ∷ cmd ∷ rest) m e in
    let k = l - 5 in
    let h : l - 5 + 2 ≤ length rest = omega (arith, is.here, is.long) in
    let e2 : l - 2 ≡ suc (suc (suc (l - 5))) = omega (arith, is.long) in
    let e1 : suc (suc (suc (l - 5))) + 1 ≡ suc (suc (suc (l - 5 + 1))) = omega arith in
    let e0 : l - 5 + 5 ≡ l = omega (arith, is.long) in
    let told = rw (e2, e1) at is.sum in
    let sum : check_of (252 ∷ (l - 5 + 5) ∷ cmd ∷ take (l - 5) rest) ≡ get_or rest (l - 5) 0 + 256 * get_or rest (l - 5 + 1) 0 = ap (λ q. check_of (252 ∷ q ∷ cmd ∷ take (l - 5) rest)) e0 ∙ ap (λ x. check_of (x ∷ l ∷ cmd ∷ take (l - 5) rest)) (sym is.sync) ∙ told in
    let n = length-take-le (l - 5) rest (omega arith) in
    let long : length (take (l - 5) rest) + 5 ≡ suc (suc (suc (l - 5 + 2))) = omega arith in
    let low : get_or rest (l - 5) 0 < 256 = fits (suc (suc (suc (l - 5)))) in
    let shape = ap (λ q. 252 ∷ q ∷ cmd ∷ take (l - 5 + 2) rest) e0 ∙ ap (λ x. x ∷ l ∷ cmd ∷ take (l - 5 + 2) rest) (sym is.sync) ∙ ap (λ q. take q (a ∷ l ∷ cmd ∷ rest)) (sym long) in
    subst (λ (w : Content). frame_bytes w ≡ take (length w.«data» + 5) (a ∷ l ∷ cmd ∷ rest)) is.says (back cmd (l - 5) rest h low sum ∙ shape)

-- the data that a length byte counts are 250 at most
few_data : (bs : List ℕ) (m : Content) → length_byte bs < 256 → front_answer bs ≡ Ok m → length m.«data» ≤ 250
few_data bs m fits e =
    let is = begins bs m e in
    let n = length-take-le (length_byte bs - 5) (drop 3 bs) (rw (length-drop 3 bs) (omega (arith, is.here, is.long))) in
    subst (λ (w : Content). length w.«data» ≤ 250) is.says (omega (arith, n))

pub stands_reads : (bs : List ℕ) (at : ℕ) (m : Content) → StandsAt bs at m → read_answer bs at ≡ Ok m
stands_reads bs at m s = ap front_answer (sym (take-append-drop n xs) ∙ ap (λ l. l ++ drop n xs) s.1) ∙ reads_back m (drop n xs)
  where
    n : ℕ
    n = length m.«data» + 5

    xs : List ℕ
    xs = drop at bs

pub exactly : (bs : List ℕ) (at : ℕ) → ((i : ℕ) → get_or bs i 0 < 256) → Exactly bs at (read_answer bs at)
exactly bs at fits m = (λ e. (few_data (drop at bs) m (byte 1) e, sym (writes_back (drop at bs) m byte e)), stands_reads bs at m)
  where
    byte : (i : ℕ) → get_or (drop at bs) i 0 < 256
    byte i = subst (λ (n : ℕ). n < 256) (sym (get_or-drop at bs i 0)) (fits (at + i))
