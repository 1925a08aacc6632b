-- What the three writes of `write` leave in the buffer: its head, the data and the check. Assumes nothing.
use Rattle.std.proofs.Common.{◌≡◌, ℕ, ◌+◌, ◌-◌, ◌/◌, ◌%◌, ◌<◌, List, [], ◌∷◌, ◌++◌, length, take, drop, refl, sym, ap, ◌∙◌, arith}
use Rattle.std.proofs.lemmas.List.{take_at, drop_at, drop-drop, append_assoc}
use borrow.Rule.Slice.PartMut.{put_mid}
use Rattle.frame_check.specs.Register.{check_of}
use Rattle.frame.specs.Frames.{content, checked_part, frame_bytes}

-- a part is put right behind the bytes xs
put : (xs rest part : List ℕ) (a k : ℕ) → length xs ≡ a → put_mid a k (xs ++ rest) part ≡ xs ++ (part ++ drop k rest)
put xs rest part a k e = rw (take_at xs rest a e, drop_at xs rest a e) refl

module _ (out d : List ℕ) (command : ℕ) where
  abbrev l : ℕ
  l = length d + 5

  -- once the data is copied behind the head
  abbrev with_data : List ℕ
  with_data = put_mid 3 (l - 2 - 3) ((252 ∷ l ∷ command ∷ []) ++ drop 3 out) d

  abbrev rest : List ℕ
  rest = drop (l - 2 - 3) (drop 3 out)

  filled : with_data ≡ checked_part (content command d) ++ rest
  filled = put (252 ∷ l ∷ command ∷ []) (drop 3 out) d 3 (l - 2 - 3) refl

  long : length (checked_part (content command d)) ≡ l - 2
  long = omega arith

  checked : check_of (take (l - 2) with_data) ≡ check_of (checked_part (content command d))
  checked = ap (λ bs. check_of (take (l - 2) bs)) filled ∙ ap check_of (take_at (checked_part (content command d)) rest (l - 2) long)

  behind : drop (l - (l - 2)) rest ≡ drop l out
  behind =
      drop-drop (l - (l - 2)) (l - 2 - 3) (drop 3 out) ∙ drop-drop (l - 2 - 3 + (l - (l - 2))) 3 out ∙ ap (λ n. drop n out) (omega arith)

  laid : (sum : ℕ) → sum < 65536 → sum ≡ check_of (take (l - 2) with_data) → put_mid (l - 2) (l - (l - 2)) with_data (sum % 256 ∷ sum / 256 % 256 ∷ []) ≡ frame_bytes (content command d) ++ drop l out
  laid sum wide is =
      let check = check_of (checked_part (content command d)) in
      let high : sum / 256 % 256 ≡ sum / 256 = omega arith in
      let e : sum ≡ check = is ∙ checked in
      ap (λ bs. put_mid (l - 2) (l - (l - 2)) bs (sum % 256 ∷ sum / 256 % 256 ∷ [])) filled ∙ put (checked_part (content command d)) rest (sum % 256 ∷ sum / 256 % 256 ∷ []) (l - 2) (l - (l - 2)) long ∙ ap (λ r. checked_part (content command d) ++ (sum % 256 ∷ sum / 256 % 256 ∷ r)) behind ∙ ap (λ h. checked_part (content command d) ++ (sum % 256 ∷ h ∷ drop l out)) high ∙ ap (λ s. checked_part (content command d) ++ (s % 256 ∷ s / 256 ∷ drop l out)) e ∙ sym (append_assoc (checked_part (content command d)) (check % 256 ∷ check / 256 ∷ []) (drop l out))

  pub written : (head part check : List ℕ) (sum : ℕ) → head ≡ 252 ∷ l ∷ command ∷ [] → part ≡ d → sum < 65536 → sum ≡ check_of (take (l - 2) (put_mid 3 (l - 2 - 3) (head ++ drop 3 out) part)) → check ≡ sum % 256 ∷ sum / 256 % 256 ∷ [] → put_mid (l - 2) (l - (l - 2)) (put_mid 3 (l - 2 - 3) (head ++ drop 3 out) part) check ≡ frame_bytes (content command d) ++ drop l out
  written head part check sum h p wide s k = rw (h, p, k) (laid sum wide (rw (h, p) at s))
