-- Bytes that pass the check: what they hold, and that they pass it still after a call wrote into them. Assumes nothing.
use Rattle.std.proofs.Common.{◌≡◌, ℕ, ◌<◌, ◌≤◌, cond, ltb, List, is_ok, Ok, Err, Result, sym, refl, ap, ◌∙◌, subst, ⊎_elim}
use mathlib.Core.Path.{fun_ext}
use Rattle.std.proofs.lemmas.Bool.{cond-true, cond-false, lt-ltb, le-ltb, cases_eq, cases_lt}
use Rattle.ledger.specs.Held.{heads, nothing}
use Rattle.drawer_image.specs.declared.section.Section.{Section}
use Rattle.drawer_image.specs.declared.fault.DrawerFault.{DrawerFault}
use Rattle.drawer_image.specs.Sections.{promise_of, section_of}
use Rattle.drawer_image.specs.Checks.{checked, Passes}
use Rattle.drawer_image.proofs.Sounds.{Sound, is_sound, sound_by, section_sound, headless_none, unsized_none}
use Rattle.drawer_image.proofs.Passed.{passes_sounds, sounds_passes}
use Rattle.drawer.specs.Meaning.{held_in, documented, bytes_held, made}
use Rattle.drawer.specs.Theorems.{HoldsDocumented}
use Rattle.drawer.proofs.Meanings.{Moved}

-- a drawer that passes the check holds what is documented
pub holds_documented : HoldsDocumented
holds_documented bs k e =
    let s = passes_sounds bs k e in
    fun_ext (λ h.
    ⊎_elim
    (λ (lt : h < heads). ap held_in (section_sound bs k h lt s.size (s.each h lt)) ∙ sym (cond-true (ltb h heads) (held_in (section_of bs (promise_of k h) k)) nothing (lt-ltb h heads lt)))
    (λ (le : heads ≤ h). ap held_in (headless_none bs k h le) ∙ sym (cond-false (ltb h heads) (held_in (section_of bs (promise_of k h) k)) nothing (le-ltb h heads le)))
    (cases_lt h heads))

-- a call's bytes pass the check still
pub moved_passes : (bs cs : List ℕ) (k h : ℕ) (s : Section) → Moved bs cs k h s → Passes bs k → Passes cs k
moved_passes bs cs k h s m e =
    let p = passes_sounds bs k e in
    sounds_passes cs k (record {
      size = record { some = p.size.some; few = p.size.few; long = m.long ∙ p.size.long };
      each = λ g le. ⊎_elim
          (λ (same : g ≡ h). subst (λ (x : ℕ). Sound cs k (promise_of k x)) (sym same) m.safe)
          (λ ne. is_sound cs k (promise_of k g) (m.sounds g ne ∙ sound_by bs k (promise_of k g) (p.each g le)))
          (cases_eq g h);
    })

-- a drawer as it is made
pub made_of : (bs : List ℕ) (k : ℕ) → bytes_held bs (cond (is_ok (checked bs k)) k 0) ≡ made bs k
made_of bs k = go (checked bs k) refl
  where
    go : (r : Result (Unit {0}) DrawerFault) → checked bs k ≡ r → bytes_held bs (cond (is_ok r) k 0) ≡ cond (is_ok r) (documented bs k) (λ h. nothing)
    go (Ok u) e = holds_documented bs k e
    go (Err f) e = fun_ext (λ h. ap held_in (unsized_none bs 0 h refl))
