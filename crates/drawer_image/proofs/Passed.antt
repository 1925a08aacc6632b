-- What passes the check: bytes of the right size, all of whose sections are sound. Assumes nothing.
use Rattle.std.proofs.Common.{◌≡◌, ℕ, ◌+◌, ◌*◌, ◌<◌, Bool, true, false, cond, eqb, List, length, Some, None, Ok, Err, Option, refl, ap, ◌∙◌, ap₂, arith}
use Rattle.std.proofs.lemmas.Bool.{cond-true, and_parts, and_from}
use Rattle.std.specs.Option.{option_or}
use Rattle.ledger.specs.Held.{heads}
use Rattle.ledger.specs.Answers.{its_number}
use Rattle.drawer_image.specs.declared.fault.DrawerFault.TheVariants.{BadCount, BadLength}
use Rattle.drawer_image.specs.Sections.{promise_of, unless, covered, section_of}
use Rattle.drawer_image.specs.Checks.{count_fits, earliest, bad_of, uncovered_of, refused_at, Passes}
use Rattle.drawer_image.proofs.Earliest.{unless_none, earliest_each, earliest_all}
use Rattle.drawer_image.proofs.Sounds.{Sized, Sound, is_sized, sized_by}

pub record Sounds (bs : List ℕ) (k : ℕ) : Type 0 where
  pub size : Sized bs k
  pub each : (h : ℕ) → h < heads → Sound bs k (promise_of k h)

pub passes_sounds : (bs : List ℕ) (k : ℕ) → Passes bs k → Sounds bs k
passes_sounds bs k e =
    let p = parts (count_fits k) (eqb (length bs) (98 * (k + 1))) (earliest (bad_of bs k) heads) (earliest (uncovered_of bs k) heads) e in
    record {
      size = is_sized bs k (and_from (count_fits k) (eqb (length bs) (98 * (k + 1))) p.0 p.1);
      each = λ h le. record {
        good = earliest_each (bad_of bs k) heads p.2 h (omega arith);
        backs = unless_none (covered (section_of bs (promise_of k h) k)) (promise_of k h) (earliest_each (uncovered_of bs k) heads p.3 h (omega arith));
      };
    }
  where
    parts : (x y : Bool) (o q : Option ℕ) → cond x (cond y (refused_at (option_or o q)) (Err (BadLength its_number))) (Err (BadCount its_number)) ≡ Ok tt → (x ≡ true) × (y ≡ true) × (o ≡ None) × (q ≡ None)
    parts true true None None e = (refl, refl, refl, refl)
    parts true true None (Some i) e = absurd (let z : ◌≡◌ {A = ℕ} 0 1 = cc in omega arith)
    parts true true (Some i) q e = absurd (let z : ◌≡◌ {A = ℕ} 0 1 = cc in omega arith)
    parts true false o q e = absurd (let z : ◌≡◌ {A = ℕ} 0 1 = cc in omega arith)
    parts false y o q e = absurd (let z : ◌≡◌ {A = ℕ} 0 1 = cc in omega arith)

pub sounds_passes : (bs : List ℕ) (k : ℕ) → Sounds bs k → Passes bs k
sounds_passes bs k s =
    let p = and_parts (count_fits k) (eqb (length bs) (98 * (k + 1))) (sized_by bs k s.size) in
    let bad = earliest_all (bad_of bs k) heads (λ h lt. (s.each h (omega arith)).good) in
    let bare = earliest_all (uncovered_of bs k) heads (λ h lt. ap (λ x. unless x (promise_of k h)) (s.each h (omega arith)).backs) in
    cond-true (count_fits k) _ _ p.0 ∙ cond-true (eqb (length bs) (98 * (k + 1))) _ _ p.1 ∙ ap refused_at (ap₂ option_or bad bare)
