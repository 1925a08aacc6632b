-- Sections that hold something. Assumes empty_section.
use Rattle.std.proofs.Common.{◌≡◌, ℕ, ◌+◌, ◌*◌, ◌<◌, ◌≤◌, Bool, true, false, cond, not, ◌&&◌, eqb, ltb, leb, List, length, is_some, is_ok, Some, None, Ok, Err, Option, sym, refl, ap, ◌∙◌, ap₂, ⊎_elim, arith}
use Rattle.std.proofs.lemmas.Bool.{cond-true, cond-false, and_parts, and_from, and_left, and_right, le-leb, le-ltb, lt-ltb, eq-eqb, leb-true, ltb-true, eqb-true, both_ways, cases_Bool}
use Rattle.std.specs.Result.{result_ok}
use Rattle.ledger.specs.Held.{heads, most_places}
use Rattle.ledger.specs.Answers.{its_number}
use Rattle.drawer_image.specs.declared.fault.DrawerFault.TheVariants.{BadCount, BadLength}
use Rattle.drawer_image.specs.declared.section.Section.{Section}
use Rattle.drawer_image.specs.Sections.{promise_of, bad_in, covered, section_of}
use Rattle.drawer_image.specs.Checks.{count_fits, Answer, sized, size_answer, sound, section_at, empty_section}

pub record Sized (bs : List ℕ) (k : ℕ) : Type 0 where
  pub some : 0 < k
  pub few : k ≤ most_places
  pub long : length bs ≡ 98 * (k + 1)

pub record Sound (bs : List ℕ) (k b : ℕ) : Type 0 where
  pub good : bad_in bs b k ≡ None
  pub backs : covered (section_of bs b k) ≡ true

pub is_sized : (bs : List ℕ) (k : ℕ) → sized bs k ≡ true → Sized bs k
is_sized bs k e =
    let p = and_parts (count_fits k) (eqb (length bs) (98 * (k + 1))) e in
    let q = and_parts (ltb 0 k) (leb k most_places) p.0 in
    record { some = ltb-true 0 k q.0; few = leb-true k most_places q.1; long = eqb-true (length bs) (98 * (k + 1)) p.1 }

pub sized_by : (bs : List ℕ) (k : ℕ) → Sized bs k → sized bs k ≡ true
sized_by bs k s = and_from (count_fits k) (eqb (length bs) (98 * (k + 1))) (and_from (ltb 0 k) (leb k most_places) (lt-ltb 0 k s.some) (le-leb k most_places s.few)) (eq-eqb _ _ s.long)

-- what the check of the size tells
size_tells : (bs : List ℕ) (k : ℕ) → is_ok (size_answer (length bs) k) ≡ sized bs k
size_tells bs k = go (count_fits k) (eqb (length bs) (98 * (k + 1)))
  where
    size : Bool → Bool → Answer
    size x y = cond x (cond y (Ok tt) (Err (BadLength its_number))) (Err (BadCount its_number))

    go : (x y : Bool) → is_ok (size x y) ≡ (x && y)
    go true true = refl
    go true false = refl
    go false y = refl

pub size_refused : (bs : List ℕ) (k : ℕ) (r : Answer) → r ≡ size_answer (length bs) k → None ≡ result_ok r → sized bs k ≡ false
size_refused bs k (Ok u) e x = absurd cc
size_refused bs k (Err f) e x = sym (ap (λ (a : Answer). is_ok a) e ∙ size_tells bs k)

pub size_accepted : (bs : List ℕ) (k : ℕ) (u : Unit {0}) (r : Answer) → r ≡ size_answer (length bs) k → Some u ≡ result_ok r → Sized bs k
size_accepted bs k u (Ok v) e x = is_sized bs k (sym (ap (λ (a : Answer). is_ok a) e ∙ size_tells bs k))
size_accepted bs k u (Err f) e x = absurd cc

none_bad : (o : Option ℕ) → not (is_some o) ≡ true → o ≡ None
none_bad None e = refl
none_bad (Some x) e = absurd (both_ways false refl e)

pub is_sound : (bs : List ℕ) (k b : ℕ) → sound bs b k ≡ true → Sound bs k b
is_sound bs k b e = let p = and_parts (not (is_some (bad_in bs b k))) (covered (section_of bs b k)) e in record { good = none_bad (bad_in bs b k) p.0; backs = p.1 }

pub sound_by : (bs : List ℕ) (k b : ℕ) → Sound bs k b → sound bs b k ≡ true
sound_by bs k b s = ap₂ (λ o x. not (is_some o) && x) s.good s.backs

-- a sound section is what its bytes say
pub section_sound : (bs : List ℕ) (k h : ℕ) → h < heads → Sized bs k → Sound bs k (promise_of k h) → section_at bs k h ≡ section_of bs (promise_of k h) k
unfolding section_at
section_sound bs k h le z s =
    cond-true _ (section_of bs (promise_of k h) k) empty_section
    (and_from (ltb h heads) (sized bs k && sound bs (promise_of k h) k) (lt-ltb h heads le) (and_from (sized bs k) (sound bs (promise_of k h) k) (sized_by bs k z) (sound_by bs k (promise_of k h) s)))

pub section_none : (bs : List ℕ) (k h : ℕ) → (ltb h heads && (sized bs k && sound bs (promise_of k h) k)) ≡ false → section_at bs k h ≡ empty_section
unfolding section_at
section_none bs k h e = cond-false _ (section_of bs (promise_of k h) k) empty_section e

pub record Usable (bs : List ℕ) (k h : ℕ) : Type 0 where
  pub head : h < heads
  pub size : Sized bs k
  pub safe : Sound bs k (promise_of k h)
  pub says : section_at bs k h ≡ section_of bs (promise_of k h) k

-- what has a free field is sound
pub usable : (bs : List ℕ) (k h : ℕ) → 0 < (section_at bs k h).free → Usable bs k h
usable bs k h p = ⊎_elim yes_sound not_sound (cases_Bool (ltb h heads && (sized bs k && sound bs (promise_of k h) k)))
  where
    yes_sound : (ltb h heads && (sized bs k && sound bs (promise_of k h) k)) ≡ true → Usable bs k h
    yes_sound e =
        let a = and_parts (ltb h heads) (sized bs k && sound bs (promise_of k h) k) e in
        let b = and_parts (sized bs k) (sound bs (promise_of k h) k) a.1 in
        let z = is_sized bs k b.0 in
        let s = is_sound bs k (promise_of k h) b.1 in
        let l = ltb-true h heads a.0 in
        record { head = l; size = z; safe = s; says = section_sound bs k h l z s }

    not_sound : (ltb h heads && (sized bs k && sound bs (promise_of k h) k)) ≡ false → Usable bs k h
    not_sound e = absurd (let z = ap (λ (s : Section). s.free) (section_none bs k h e) in omega arith)

-- what is not sound holds nothing
pub headless_none : (bs : List ℕ) (k h : ℕ) → heads ≤ h → section_at bs k h ≡ empty_section
headless_none bs k h gt = section_none bs k h (and_left (ltb h heads) (sized bs k && sound bs (promise_of k h) k) (le-ltb h heads gt))

pub unsized_none : (bs : List ℕ) (k h : ℕ) → sized bs k ≡ false → section_at bs k h ≡ empty_section
unsized_none bs k h e = section_none bs k h (and_right (ltb h heads) _ (and_left (sized bs k) (sound bs (promise_of k h) k) e))

pub unsound_none : (bs : List ℕ) (k h : ℕ) → sound bs (promise_of k h) k ≡ false → section_at bs k h ≡ empty_section
unsound_none bs k h e = section_none bs k h (and_right (ltb h heads) _ (and_right (sized bs k) (sound bs (promise_of k h) k) e))

pub bad_none : (bs : List ℕ) (k h j : ℕ) → bad_in bs (promise_of k h) k ≡ Some j → section_at bs k h ≡ empty_section
bad_none bs k h j e = unsound_none bs k h (ap (λ o. not (is_some o) && covered (section_of bs (promise_of k h) k)) e)

pub bare_none : (bs : List ℕ) (k h : ℕ) → covered (section_of bs (promise_of k h) k) ≡ false → section_at bs k h ≡ empty_section
bare_none bs k h e = unsound_none bs k h (and_right (not (is_some (bad_in bs (promise_of k h) k))) (covered (section_of bs (promise_of k h) k)) e)
