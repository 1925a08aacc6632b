use Rattle.std.proofs.Common.{◌≡◌, ℕ, ◌+◌, ◌-◌, ◌*◌, ◌<◌, ◌≤◌, Bool, true, false, List, length, take, drop, None, Result, sym, ap, ◌∙◌, ⊎_elim, arith, rules}
use Rattle.std.specs.Bool.{then_some}
use Rattle.std.specs.Option.{unwrap_or}
use Rattle.ledger.specs.Held.{heads}
use Rattle.drawer_image.specs.Fields.{AreFields}
use Rattle.drawer_image.specs.declared.section.Section.{Section}
use Rattle.drawer_image.specs.declared.fault.DrawerFault.{DrawerFault}
use Rattle.drawer_image.specs.Sections.{promise_of, bad_in, section_of, read_of, covered}
use Rattle.drawer_image.specs.Checks.{section_at, empty_section}
use Rattle.drawer_image.proofs.Fields.{part_of}
use Rattle.drawer_image.proofs.Walks.{read_ok, read_err}
use Rattle.drawer_image.proofs.Earliest.{section_inside, section_outside}
use Rattle.drawer_image.proofs.Sounds.{Sized, size_refused, size_accepted, section_sound, unsized_none, headless_none, bad_none, bare_none}
use Rattle.drawer_image.proofs.section.sound_section.Goals as goal

pub returns-in_err-ok : goal.returns-in_err-ok
returns-in_err-ok c =
    let r : c.from_residual.result ≡ None = search rules in
    ap (λ o. unwrap_or o empty_section) r ∙ sym (unsized_none c.args.bytes.now c.args.bills c.args.head (size_refused c.args.bytes.now c.args.bills c.check_size.result c.check_size.ensures (search rules)))

pub returns-in_err-fields : goal.returns-in_err-fields
returns-in_err-fields c =
    let k = c.args.bills in
    let r : c.from_residual-in_err-fields.result ≡ None = search rules in
    let z = size_accepted c.args.bytes.now k tt c.check_size.result c.check_size.ensures (search rules) in
    let short : length c.fields_of.result.now < (k + 1) * c.args.head + (k + 1) = ⊎_elim (λ (e : (k + 1) * c.args.head + (k + 1) < (k + 1) * c.args.head). absurd (omega arith)) (λ (lt : length c.fields_of.result.now < (k + 1) * c.args.head + (k + 1)). lt) c.in_err-fields.ensures.lookup.0 in
    ap (λ o. unwrap_or o empty_section) r
    ∙ sym (headless_none c.args.bytes.now k c.args.head (section_outside k c.args.head (length c.fields_of.result.now) (omega (arith, z.long, c.fields_of.ensures.long)) short))

-- what was read of the section
reads : (bs : List ℕ) (k h : ℕ) (fs gs : List (List ℕ)) (r : Result Section DrawerFault) → AreFields fs bs 0
    → gs ≡ take ((k + 1) * h + (k + 1) - (k + 1) * h) (drop ((k + 1) * h) fs) → (k + 1) * h + (k + 1) ≤ length fs → length gs + (k + 1) * h ≡ (k + 1) * h + (k + 1)
    → ((xs : List ℕ) → AreFields gs xs ((k + 1) * h) → r ≡ read_of (bad_in xs ((k + 1) * h) (length gs - 1)) (section_of xs ((k + 1) * h) (length gs - 1)))
    → r ≡ read_of (bad_in bs (promise_of k h) k) (section_of bs (promise_of k h) k)
reads bs k h fs gs r a e le long told =
    let n : length gs - 1 ≡ k = omega arith in
    told bs (part_of fs bs ((k + 1) * h) ((k + 1) * h + (k + 1)) gs a e le (omega arith)) ∙ ap (λ m. read_of (bad_in bs (promise_of k h) m) (section_of bs (promise_of k h) m)) n

pub returns-in_err-section : goal.returns-in_err-section
returns-in_err-section c =
    let bs = c.args.bytes.now in
    let k = c.args.bills in
    let h = c.args.head in
    let r : c.from_residual-in_err-section.result ≡ None = search rules in
    let found = c.in_ok-fields.ensures.lookup.0 in
    let read = reads bs k h c.fields_of.result.now c.in_ok-fields.fields.now c.read_section.result c.fields_of.ensures.fields found.2 found.1 found.3 c.read_section.ensures in
    let bad = read_err (bad_in bs (promise_of k h) k) (section_of bs (promise_of k h) k) c.read_section.result read (search rules) in
    ap (λ o. unwrap_or o empty_section) r ∙ sym (bad_none bs k h bad.0 bad.1)

pub returns : goal.returns
returns c =
    let bs = c.args.bytes.now in
    let k = c.args.bills in
    let h = c.args.head in
    let s = c.in_ok-section.section in
    let z = size_accepted bs k tt c.check_size.result c.check_size.ensures (search rules) in
    let found = c.in_ok-fields.ensures.lookup.0 in
    let read = reads bs k h c.fields_of.result.now c.in_ok-fields.fields.now c.read_section.result c.fields_of.ensures.fields found.2 found.1 found.3 c.read_section.ensures in
    let got = read_ok (bad_in bs (promise_of k h) k) (section_of bs (promise_of k h) k) s c.read_section.result read (search rules) in
    let inside = section_inside k h (length c.fields_of.result.now) (omega (arith, z.long, c.fields_of.ensures.long)) found.1 in
    ap (λ o. unwrap_or o empty_section) c.then_some.ensures ∙ go bs k h z inside s got c.is_covered.result c.is_covered.ensures
  where
    go : (bs : List ℕ) (k h : ℕ) → Sized bs k → h < heads → (s : Section) → (bad_in bs (promise_of k h) k ≡ None) × (s ≡ section_of bs (promise_of k h) k) → (x : Bool) → x ≡ covered s → unwrap_or (then_some x s) empty_section ≡ section_at bs k h
    go bs k h z lt s got true e = got.1 ∙ sym (section_sound bs k h lt z (record { good = got.0; backs = sym (e ∙ ap covered got.1) }))
    go bs k h z lt s got false e = sym (bare_none bs k h (sym (e ∙ ap covered got.1)))
