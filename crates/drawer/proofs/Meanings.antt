-- What a drawer holds after a call wrote into it, and that it still passes the check. Assumes nothing.
use Rattle.std.proofs.Common.{◌≡◌, ℕ, suc, ◌+◌, ◌-◌, ◌*◌, ◌<◌, ◌≤◌, true, cond, not, ◌&&◌, eqb, ltb, ◌≢◌, List, length, is_some, Some, None, sym, ap, ◌∙◌, ap₂, ⊎_elim, arith}
use mathlib.Core.Path.{fun_ext}
use Rattle.std.proofs.lemmas.Bool.{cond-true, cond-false, or_left, or_right, lt-ltb, eq-eqb, ne_eqb, cases_eq, cases_lt}
use Rattle.ledger.specs.Held.{heads, most_amount, with_head}
use Rattle.drawer_image.specs.declared.section.Section.{Section}
use Rattle.drawer_image.specs.Fields.{amount_at, promised_at}
use Rattle.drawer.specs.Writes.{put_amount, put_settled, next_free, settling_bytes}
use Rattle.drawer_image.specs.Sections.{free_in, credited_in, bad_in, covered, section_of, promise_of}
use Rattle.drawer_image.specs.Checks.{count_fits, sound, section_at, empty_section}
use Rattle.drawer.specs.Meaning.{held_in, bytes_held}
use Rattle.drawer_image.proofs.Lawful.{each}
use Rattle.drawer_image.proofs.Earliest.{room}
use Rattle.drawer_image.proofs.Fields.{same_promise, same_promised}
use Rattle.drawer.proofs.Puts.{Kept, put_other, length_put, settled_other, length_settled}
use Rattle.drawer.proofs.Frames.{apart, free_frame, sum_frame, bad_frame}
use Rattle.drawer_image.proofs.Sounds.{Sized, Sound, Usable, section_sound}
use Rattle.drawer.proofs.Moves.{promised_as, says, located, after_settling, promise_good_still, promise_says}

-- a section of which no field changed
module _ (bs cs : List ℕ) (k g : ℕ) (long : length cs ≡ length bs) (first : Kept bs cs (promise_of k g)) (bills : (i : ℕ) → i < k → Kept bs cs (promise_of k g + suc i)) where
  pub of_frame : section_of cs (promise_of k g) k ≡ section_of bs (promise_of k g) k
  of_frame =
      ap₂ (λ p q. record { promised = p; credited = q; free = free_in cs (promise_of k g) k }) (same_promised first) (sum_frame bs cs (promise_of k g) k bills)
      ∙ ap (λ f. record { promised = promised_at bs (promise_of k g); credited = credited_in bs (promise_of k g) k; free = f }) (free_frame bs cs (promise_of k g) k bills)

  pub sound_frame : sound cs (promise_of k g) k ≡ sound bs (promise_of k g) k
  sound_frame = ap₂ (λ o s. not (is_some o) && covered s) (bad_frame bs cs (promise_of k g) k (same_promise first) bills) of_frame

  pub section_frame : section_at cs k g ≡ section_at bs k g
  unfolding section_at
  section_frame = ap₂ (λ x s. cond (ltb g heads && x) s empty_section) (ap₂ (λ n x. (count_fits k && eqb n (98 * (k + 1))) && x) long sound_frame) of_frame

-- what a call did to the bytes of head h's section, which now says s
pub record Moved (bs cs : List ℕ) (k h : ℕ) (s : Section) : Type 0 where
  pub long : length cs ≡ length bs
  pub others : (g : ℕ) → g ≢ h → section_at cs k g ≡ section_at bs k g
  pub sounds : (g : ℕ) → g ≢ h → sound cs (promise_of k g) k ≡ sound bs (promise_of k g) k
  pub safe : Sound cs k (promise_of k h)
  pub mine : section_at cs k h ≡ s

pub held_moved : (bs cs : List ℕ) (k h : ℕ) (s : Section) → Moved bs cs k h s → bytes_held cs k ≡ with_head (bytes_held bs k) h (held_in s)
held_moved bs cs k h s m =
    fun_ext (λ g.
    ⊎_elim
    (λ (same : g ≡ h). ap (λ x. held_in (section_at cs k x)) same ∙ ap held_in m.mine ∙ sym (cond-true (eqb g h) (held_in s) (bytes_held bs k g) (eq-eqb g h same)))
    (λ ne. ap held_in (m.others g ne) ∙ sym (cond-false (eqb g h) (held_in s) (bytes_held bs k g) (ne_eqb g h ne)))
    (cases_eq g h))

sized_moved : (bs cs : List ℕ) (k : ℕ) → length cs ≡ length bs → Sized bs k → Sized cs k
sized_moved bs cs k e z = record { some = z.some; few = z.few; long = e ∙ z.long }

-- an amount written into the promise of a good section
pub promise_moved : (bs : List ℕ) (k h a : ℕ) → h < heads → Sized bs k → bad_in bs (promise_of k h) k ≡ None → a ≤ most_amount → (0 < a → 0 < free_in bs (promise_of k h) k) → Moved bs (put_amount bs (promise_of k h) a) k h (says (promised_as a) (credited_in bs (promise_of k h) k) (free_in bs (promise_of k h) k))
promise_moved bs k h a le z good most some =
    let b = promise_of k h in
    let long = length_put bs b a in
    let here : 7 * b + 7 ≤ length bs = omega (arith, room k h (length bs) le z.long) in
    let firsts : (g : ℕ) → g ≢ h → Kept bs (put_amount bs b a) (promise_of k g) = λ g ne. put_other bs b a (promise_of k g) (λ e. apart k g h 0 0 ne (omega arith) (omega arith) (omega arith)) in
    let bills : (g : ℕ) → g ≢ h → (i : ℕ) → i < k → Kept bs (put_amount bs b a) (promise_of k g + suc i) = λ g ne i lt. put_other bs b a (promise_of k g + suc i) (λ e. apart k g h (suc i) 0 ne (omega arith) (omega arith) (omega arith)) in
    let tells = promise_says bs k b a here most good in
    let safe : Sound (put_amount bs b a) k b = record { good = promise_good_still bs k b a here most good; backs = ap covered tells ∙ covers a (credited_in bs b k) (free_in bs b k) some } in
    record {
      long = long;
      others = λ g ne. section_frame bs (put_amount bs b a) k g long (firsts g ne) (bills g ne);
      sounds = λ g ne. sound_frame bs (put_amount bs b a) k g long (firsts g ne) (bills g ne);
      safe = safe;
      mine = section_sound (put_amount bs b a) k h le (sized_moved bs (put_amount bs b a) k long z) safe ∙ tells;
    }
  where
    covers : (a s f : ℕ) → (0 < a → 0 < f) → covered (says (promised_as a) s f) ≡ true
    covers a s f some =
        ⊎_elim (λ (lt : 0 < a). or_right (not (is_some (promised_as a))) (ltb 0 f) (lt-ltb 0 f (some lt)))
        (λ (le : a ≤ 0). or_left (not (is_some (promised_as a))) (ltb 0 f) (ap (λ z. not (is_some (cond z None (Some a)))) (eq-eqb a 0 (omega arith)))) (cases_lt 0 a)

-- a bill settled into the first free field of a good section
pub bill_moved : (bs : List ℕ) (k h a : ℕ) → h < heads → Sized bs k → bad_in bs (promise_of k h) k ≡ None → 0 < free_in bs (promise_of k h) k → 0 < a → a ≤ most_amount
    → (bad_in (put_settled bs (next_free bs k h) a) (promise_of k h) k ≡ None)
    × (free_in bs (promise_of k h) k ≡ free_in (put_settled bs (next_free bs k h) a) (promise_of k h) k + 1)
    × (credited_in (put_settled bs (next_free bs k h) a) (promise_of k h) k ≡ credited_in bs (promise_of k h) k + a)
bill_moved bs k h a le z good some least most =
    let b = promise_of k h in
    let at = located bs b k good some in
    let fits = each bs b k in
    after_settling bs b (k - free_in bs b k) a (omega (arith, room k h (length bs) le z.long)) least most at.0 at.1 k (omega arith) good

pub settle_moved : (bs : List ℕ) (k h : ℕ) → Usable bs k h → 0 < amount_at bs (promise_of k h) → amount_at bs (promise_of k h) ≤ most_amount → 0 < free_in bs (promise_of k h) k → Moved bs (settling_bytes bs k h) k h (says None (credited_in bs (promise_of k h) k + amount_at bs (promise_of k h)) (free_in bs (promise_of k h) k - 1))
settle_moved bs k h u least most some =
    let b = promise_of k h in
    let a = amount_at bs b in
    let j = next_free bs k h in
    let ds = put_settled bs j a in
    let long = length_settled bs j a in
    let m = bill_moved bs k h a u.head u.size u.safe.good some least most in
    let q = promise_moved ds k h 0 u.head (sized_moved bs ds k long u.size) m.0 (omega arith) (λ lt. absurd (omega arith)) in
    let inside : k - free_in bs b k + 1 ≤ k = omega (arith, each bs b k, u.size.some) in
    let firsts : (g : ℕ) → g ≢ h → Kept bs ds (promise_of k g) = λ g ne. settled_other bs j a (promise_of k g) (λ e. apart k g h 0 (k - free_in bs b k + 1) ne (omega arith) inside (omega arith)) in
    let bills : (g : ℕ) → g ≢ h → (i : ℕ) → i < k → Kept bs ds (promise_of k g + suc i) = λ g ne i lt. settled_other bs j a (promise_of k g + suc i) (λ e. apart k g h (suc i) (k - free_in bs b k + 1) ne (omega arith) inside (omega arith)) in
    let same : says None (credited_in ds b k) (free_in ds b k) ≡ says None (credited_in bs b k + a) (free_in bs b k - 1) = ap₂ (says None) m.2 (omega (arith, m.1)) in
    record {
      long = q.long ∙ long;
      others = λ g ne. q.others g ne ∙ section_frame bs ds k g long (firsts g ne) (bills g ne);
      sounds = λ g ne. q.sounds g ne ∙ sound_frame bs ds k g long (firsts g ne) (bills g ne);
      safe = q.safe;
      mine = q.mine ∙ same;
    }
