-- The three calls, when they are accepted. Assumes nothing.
use Rattle.std.proofs.Common.{◌≡◌, ℕ, suc, ◌+◌, ◌-◌, ◌*◌, ◌<◌, ◌≤◌, Bool, true, false, cond, ◌||◌, eqb, ltb, List, length, is_some, Some, None, Ok, Option, sym, ap, ◌∙◌, subst, ap₂, ⊎_elim, arith}
use Rattle.std.proofs.lemmas.Bool.{ne_eqb, eqb-true, ltb-true, or_cases}
use Rattle.ledger.specs.Held.{heads, most_amount, Amount, with_head, promising, settling, giving_back}
use Rattle.ledger.specs.Answers.{promise_check, promise_answer, end_answer, promised_after, settled_after, given_back_after}
use Rattle.drawer_image.specs.declared.section.Section.{Section}
use Rattle.drawer_image.specs.Fields.{amount_at}
use Rattle.drawer.specs.Writes.{put_amount, put_settled, settling_bytes}
use Rattle.drawer_image.specs.Sections.{free_in, credited_in, section_of, promise_of}
use Rattle.drawer_image.specs.Checks.{section_at, Passes}
use Rattle.drawer.specs.Meaning.{held_in, bytes_held}
use Rattle.drawer_image.proofs.Fields.{promises_none}
use Rattle.drawer_image.proofs.Lawful.{lawful_at, each}
use Rattle.drawer_image.proofs.Earliest.{room}
use Rattle.drawer_image.proofs.Sounds.{usable}
use Rattle.drawer.proofs.Moves.{promised_as, says, located}
use Rattle.drawer.specs.Theorems.{SettlesIntoFirstFree}
use Rattle.drawer_image.proofs.Passed.{passes_sounds}
use Rattle.drawer_image.proofs.Judges.{free_zero}
use Rattle.drawer.proofs.Meanings.{held_moved, promise_moved, settle_moved}
use Rattle.drawer.proofs.Checks.{moved_passes}
use Rattle.drawer.proofs.Calls.{end_some, settled_so, given_so, promise_fits, promise_ok, promised_so}

-- what is held where the section says s: nothing promised, and an amount
held_none : (s : Section) → s.promised ≡ None → held_in s ≡ record { promised = None; credited = s.credited; places = s.free }
held_none s e = ap (λ p. held_in (says p s.credited s.free)) e ∙ (let q : s.free - 0 ≡ s.free = omega arith in ap (λ n. record { promised = None; credited = s.credited; places = n }) q)

held_some : (s : Section) (a : ℕ) → s.promised ≡ Some a → held_in s ≡ record { promised = Some a; credited = s.credited; places = s.free - 1 }
held_some s a e = ap (λ p. held_in (says p s.credited s.free)) e

promised_some : (a : ℕ) → 0 < a → promised_as a ≡ Some a
promised_some a lt = ap (λ z. cond z None (Some a)) (ne_eqb a 0 (λ e. omega arith))

pub promise_call : (bs : List ℕ) (k h a : ℕ) → h < heads → promise_check (held_in (section_at bs k h)).promised (held_in (section_at bs k h)).places 0 a ≡ Ok tt
    → (promise_answer (bytes_held bs k) 0 h a ≡ Ok tt) × (bytes_held (put_amount bs (promise_of k h) a) k ≡ promised_after (bytes_held bs k) h a) × (Passes bs k → Passes (put_amount bs (promise_of k h) a) k)
promise_call bs k h a le ok =
    let t = bytes_held bs k in
    let s = section_at bs k h in
    let b = promise_of k h in
    let fits = promise_fits s.promised (held_in s).places a tt (sym ok) in
    let u = usable bs k h (omega (arith, fits.3)) in
    let free : s.free ≡ free_in bs b k = ap (λ (x : Section). x.free) u.says in
    let sum : s.credited ≡ credited_in bs b k = ap (λ (x : Section). x.credited) u.says in
    let answer = promise_ok t h le 0 a ok in
    let w = promise_moved bs k h a le u.size u.safe.good fits.1 (λ _. omega (arith, fits.3)) in
    let m = held_moved bs (put_amount bs b a) k h _ w in
    let after : held_in (says (promised_as a) (credited_in bs b k) (free_in bs b k)) ≡ promising (held_in s) a =
    ap (λ p. held_in (says p (credited_in bs b k) (free_in bs b k))) (promised_some a fits.0)
    ∙ ap₂ (λ c f. record { promised = Some a; credited = c; places = f - 1 }) (sym sum) (sym free)
    ∙ ap (λ v. promising v a) (sym (held_none s fits.2)) in
    (answer, m ∙ ap (with_head t h) after ∙ sym (promised_so t h le a answer), moved_passes bs (put_amount bs b a) k h _ w)

-- a head whose promise is a, which a free field backs
some_free : (bs : List ℕ) (k h a : ℕ) → (section_at bs k h).promised ≡ Some a → 0 < (section_at bs k h).free
some_free bs k h a e = (lawful_at bs k h).some (ap (λ (p : Option ℕ). is_some p) e)

promised_amount : (bs : List ℕ) (k h a : ℕ) → (section_at bs k h).promised ≡ Some a → (0 < a) × (a ≤ most_amount) × (a ≡ amount_at bs (promise_of k h))
promised_amount bs k h a e =
    let u = usable bs k h (some_free bs k h a e) in
    let l = subst Amount e (lawful_at bs k h).amount in
    (l.0, l.1, shown (eqb (amount_at bs (promise_of k h)) 0) (sym e ∙ ap (λ (x : Section). x.promised) u.says))
  where
    shown : (z : Bool) → Some a ≡ cond z None (Some (amount_at bs (promise_of k h))) → a ≡ amount_at bs (promise_of k h)
    shown true e = absurd cc
    shown false e = cc

pub give_call : (bs : List ℕ) (k h a : ℕ) → h < heads → (section_at bs k h).promised ≡ Some a
    → (end_answer (bytes_held bs k) h ≡ Ok tt) × (bytes_held (put_amount bs (promise_of k h) 0) k ≡ given_back_after (bytes_held bs k) h) × (Passes bs k → Passes (put_amount bs (promise_of k h) 0) k)
give_call bs k h a le held =
    let t = bytes_held bs k in
    let s = section_at bs k h in
    let some = some_free bs k h a held in
    let u = usable bs k h some in
    let b = promise_of k h in
    let free : s.free ≡ free_in bs b k = ap (λ (x : Section). x.free) u.says in
    let sum : s.credited ≡ credited_in bs b k = ap (λ (x : Section). x.credited) u.says in
    let w = promise_moved bs k h 0 le u.size u.safe.good (omega arith) (λ z. absurd (omega arith)) in
    let m = held_moved bs (put_amount bs b 0) k h _ w in
    let back : free_in bs b k - 0 ≡ s.free - 1 + 1 = omega arith in
    let after : held_in (says None (credited_in bs b k) (free_in bs b k)) ≡ giving_back (held_in s) =
    ap₂ (λ c f. record { promised = None; credited = c; places = f }) (sym sum) back ∙ ap giving_back (sym (held_some s a held)) in
    let is = ap (λ (p : Option ℕ). is_some p) held in
    (end_some t h le is, m ∙ ap (with_head t h) after ∙ sym (given_so t h le is), moved_passes bs (put_amount bs b 0) k h _ w)

pub settle_call : (bs : List ℕ) (k h a : ℕ) → h < heads → (section_at bs k h).promised ≡ Some a
    → (end_answer (bytes_held bs k) h ≡ Ok tt) × (bytes_held (settling_bytes bs k h) k ≡ settled_after (bytes_held bs k) h) × (Passes bs k → Passes (settling_bytes bs k h) k)
settle_call bs k h a le held =
    let t = bytes_held bs k in
    let s = section_at bs k h in
    let some = some_free bs k h a held in
    let u = usable bs k h some in
    let b = promise_of k h in
    let amount = promised_amount bs k h a held in
    let free : s.free ≡ free_in bs b k = ap (λ (x : Section). x.free) u.says in
    let sum : s.credited ≡ credited_in bs b k = ap (λ (x : Section). x.credited) u.says in
    let w = settle_moved bs k h u (omega (arith, amount.0, amount.2)) (omega (arith, amount.1, amount.2)) (omega arith) in
    let m = held_moved bs (settling_bytes bs k h) k h _ w in
    let less : free_in bs b k - 1 - 0 ≡ s.free - 1 = omega arith in
    let after : held_in (says None (credited_in bs b k + amount_at bs b) (free_in bs b k - 1)) ≡ settling (held_in s) =
    ap₂ (λ c f. record { promised = None; credited = c; places = f }) (ap₂ (λ x y. x + y) (sym sum) (sym amount.2)) less ∙ ap settling (sym (held_some s a held)) in
    let is = ap (λ (p : Option ℕ). is_some p) held in
    (end_some t h le is, m ∙ ap (with_head t h) after ∙ sym (settled_so t h le is), moved_passes bs (settling_bytes bs k h) k h _ w)

-- the places of a section that holds something
pub record Places (bs : List ℕ) (k h : ℕ) : Type 0 where
  pub some : 0 < k
  pub few : k ≤ 4000
  pub first : (k + 1) * h ≤ 56000
  pub room : 7 * ((k + 1) * h + k) + 7 ≤ length bs
  pub says : section_at bs k h ≡ section_of bs (promise_of k h) k
  pub within : (section_at bs k h).free ≤ k

pub places_of : (bs : List ℕ) (k h : ℕ) → 0 < (section_at bs k h).free → Places bs k h
places_of bs k h some =
    let u = usable bs k h some in
    let r = room k h (length bs) u.head u.size.long in
    let few = u.size.few in
    let free : (section_at bs k h).free ≡ free_in bs (promise_of k h) k = ap (λ (x : Section). x.free) u.says in
    record { some = u.size.some; few = few; first = omega (arith, u.size.long); room = r; says = u.says; within = omega (arith, each bs (promise_of k h) k) }

pub fits_places : (bs : List ℕ) (k h a : ℕ) → promise_check (held_in (section_at bs k h)).promised (held_in (section_at bs k h)).places 0 a ≡ Ok tt → Places bs k h
fits_places bs k h a ok = let fits = promise_fits (section_at bs k h).promised (held_in (section_at bs k h)).places a tt (sym ok) in places_of bs k h (omega (arith, fits.3))

-- the first free field, where a is promised
pub record Next (bs : List ℕ) (k h : ℕ) : Type 0 where
  pub within : (section_at bs k h).free ≤ k
  pub bound : (k + 1) * h + (k - (section_at bs k h).free) + 1 ≤ 60001
  pub room : 7 * ((k + 1) * h + (k - (section_at bs k h).free) + 1) + 7 ≤ length bs

module _ (bs : List ℕ) (k h a : ℕ) (held : (section_at bs k h).promised ≡ Some a) where
  pub held_places : Places bs k h
  held_places = places_of bs k h (some_free bs k h a held)

  pub held_next : Next bs k h
  held_next =
      let p = held_places in
      let some = some_free bs k h a held in
      record { within = p.within; bound = omega (arith, p.first, p.few); room = omega (arith, p.room, p.within) }

  pub held_settling : put_amount (put_settled bs (promise_of k h + (k - (section_at bs k h).free) + 1) a) (promise_of k h) 0 ≡ settling_bytes bs k h
  held_settling =
      ap₂ (λ (x : Section) y. put_amount (put_settled bs (promise_of k h + (k - x.free) + 1) y) (promise_of k h) 0) held_places.says (promised_amount bs k h a held).2

-- the field that a bill is settled into
pub settles_into_first_free : SettlesIntoFirstFree
settles_into_first_free bs k h e lt held =
    let b = promise_of k h in
    let s = (passes_sounds bs k e).each h lt in
    let some : 0 < free_in bs b k = ⊎_elim (λ z. absurd (let q = eqb-true (amount_at bs b) 0 z in omega arith)) (λ l. ltb-true 0 (free_in bs b k) l)
    (or_cases (eqb (amount_at bs b) 0) (ltb 0 (free_in bs b k)) (ap (λ x. x || ltb 0 (free_in bs b k)) (sym (promises_none bs b)) ∙ s.backs)) in
    let at = located bs b k s.good some in
    let fits = each bs b k in
    let same : b + (k - free_in bs b k) + 1 ≡ b + suc (k - free_in bs b k) = omega arith in
    record { position = k - free_in bs b k; inside = omega arith; here = same; free = at.1; before = free_zero bs b (k - free_in bs b k) at.0 }
