use Rattle.std.proofs.Common.{rules, ◌≡◌, ℕ, ◌+◌, ◌-◌, ◌*◌, ◌<◌, ◌≤◌, ◌++◌, List, length, Some, None, Err, Option, Result, sym, refl, ap, ◌∙◌, ap₂, subst, ⊎_elim, mul-add, mul-le-mul_left, arith, length-append}
use Rattle.std.proofs.lemmas.Bool.{cases_lt}
use Rattle.std.specs.Result.{result_and}
use Rattle.std.specs.Option.{option_or}
use Rattle.ledger.specs.Held.{heads}
use Rattle.ledger.specs.Answers.{its_number}
use Rattle.drawer_image.specs.declared.section.Section.{Section}
use Rattle.drawer_image.specs.declared.fault.DrawerFault.{DrawerFault}
use Rattle.drawer_image.specs.declared.fault.DrawerFault.TheVariants.{BadField}
use Rattle.drawer_image.specs.Fields.{AreFields}
use Rattle.drawer_image.specs.Sections.{bad_in, section_of, read_of, covered, unless}
use Rattle.drawer_image.specs.Checks.{Answer, earliest, bad_of, uncovered_of, refused_at}
use Rattle.drawer_image.proofs.Fields.{front_of, back_of}
use Rattle.drawer_image.proofs.Walks.{read_ok, read_err}
use Rattle.drawer_image.proofs.Earliest.{section_inside, section_outside, earliest_none, earliest_more, earliest_by}
use Rattle.drawer_image.proofs.check.check_fields.Goals as goal

pub loop-head-init : goal.loop-head-init
loop-head-init c =
    let bs = c.args.bytes.now in
    let k = c.args.bills in
    let it = c.into_iter-head-iterator.result in
    let none : it.count ≡ 0 = search rules in
    let whole : it.iter.rest.now ≡ c.fields_of.result.now = search rules in
    let first : 0 ≡ (k + 1) * it.count = omega (arith, ap (λ n. (k + 1) * n) none) in
    record {
      next = search rules;
      ends = search rules;
      size = search rules;
      left = subst (AreFields it.iter.rest.now bs) first (subst (λ (fs : List (List ℕ)). AreFields fs bs 0) (sym whole) c.fields_of.ensures.fields);
      long = omega (arith, first, ap length whole, c.fields_of.ensures.long, c.requires.sized);
      good = ap (earliest (bad_of bs k)) none ∙ earliest_none (bad_of bs k);
      told = sym (ap (λ n. refused_at (earliest (uncovered_of bs k) n)) none ∙ ap refused_at (earliest_none (uncovered_of bs k)));
    }

-- one section more: fs are the fields from section h on, gs its own, hs those behind it
module _ (bs : List ℕ) (k h : ℕ) (fs gs hs : List (List ℕ)) (e : fs ≡ gs ++ hs) (wide : length gs ≡ k + 1) where
  inside : length fs + (k + 1) * h ≡ 14 * (k + 1) → h < heads
  inside long = section_inside k h (14 * (k + 1)) refl (omega (arith, ap length e, length-append gs hs))

  left_more : AreFields fs bs ((k + 1) * h) → AreFields hs bs ((k + 1) * (h + 1))
  left_more a =
      let z : (k + 1) * h + (k + 1) ≡ (k + 1) * (h + 1) = omega (arith, mul-add (k + 1) h 1) in
      subst (AreFields hs bs) z (back_of fs gs hs bs ((k + 1) * h) (k + 1) e wide a)

  long_more : length fs + (k + 1) * h ≡ 14 * (k + 1) → length hs + (k + 1) * (h + 1) ≡ 14 * (k + 1)
  long_more long = omega (arith, ap length e, length-append gs hs, mul-add (k + 1) h 1)

  reads : (r : Result Section DrawerFault) (g : ℕ) → g ≡ h → AreFields fs bs ((k + 1) * h)
      → ((xs : List ℕ) → AreFields gs xs ((k + 1) * g) → r ≡ read_of (bad_in xs ((k + 1) * g) (length gs - 1)) (section_of xs ((k + 1) * g) (length gs - 1)))
      → r ≡ read_of (bad_of bs k h) (section_of bs ((k + 1) * h) k)
  reads r g same a told =
      let n : length gs - 1 ≡ k = omega arith in
      told bs (subst (λ (n : ℕ). AreFields gs bs ((k + 1) * n)) (sym same) (front_of fs gs hs bs ((k + 1) * h) e a))
      ∙ ap₂ (λ x m. read_of (bad_in bs ((k + 1) * x) m) (section_of bs ((k + 1) * x) m)) same n

-- what is told of uncovered promises, with one section more
added : (bs : List ℕ) (k h : ℕ) (s : Section) → s ≡ section_of bs ((k + 1) * h) k → (v : Answer) → v ≡ refused_at (earliest (uncovered_of bs k) h)
    → result_and v (refused_at (unless (covered s) ((k + 1) * h))) ≡ refused_at (earliest (uncovered_of bs k) (h + 1))
added bs k h s got v told =
    ap₂ (λ (w : Answer) x. result_and w (refused_at (unless (covered x) ((k + 1) * h)))) told got ∙ both (earliest (uncovered_of bs k) h) (uncovered_of bs k h)
    ∙ ap refused_at (sym (earliest_more (uncovered_of bs k) h))
  where
    both : (o p : Option ℕ) → result_and (refused_at o) (refused_at p) ≡ refused_at (option_or o p)
    both None p = refl
    both (Some i) p = refl

ends_at : (k h n : ℕ) → n + (k + 1) * h ≡ 14 * (k + 1) → n < k + 1 → h ≡ heads
ends_at k h n long lt =
    let out = section_outside k h (14 * (k + 1)) refl (omega arith) in
    let most : h < 15 = ⊎_elim (λ (lt : h < 15). lt) (λ (ge : 15 ≤ h). absurd (omega (arith, mul-le-mul_left (k + 1) ge))) (cases_lt h 15) in
    omega arith

pub read_section-requires-clause-near : goal.read_section-requires-clause-near
read_section-requires-clause-near c =
    let k = c.args.bills in
    let same = ap (λ n. (k + 1) * n) c.in-Some.ensures.steps.1 in
    omega (arith, same, c.loop-head.invariant.long)

pub returns-in_err-section : goal.returns-in_err-section
returns-in_err-section c =
    let bs = c.args.bytes.now in
    let k = c.args.bills in
    let h = c.loop-head.head-iterator.count in
    let inv = c.loop-head.invariant in
    let at = c.in-Some.ensures.steps in
    let wide = at.0.1.1 ∙ inv.size in
    let read = reads bs k h _ _ _ at.0.1.0 wide c.read_section.result c.in-Some.head at.1 inv.left c.read_section.ensures in
    let bad = read_err (bad_of bs k h) (section_of bs ((k + 1) * h) k) c.read_section.result read (search rules) in
    let lt = inside bs k h _ _ _ at.0.1.0 wide inv.long in
    let gone : c.from_residual.result ≡ Err c.in_err-section.field-0.0 = search rules in
    let same : c.in_err-section.field-0.0 ≡ BadField its_number bad.0 = (let w = sym (c.in_err-section.was) ∙ bad.2 in cc) in
    let one = earliest_more (bad_of bs k) h ∙ ap₂ option_or inv.good bad.1 in
    gone ∙ ap (λ (f : DrawerFault). Err f) same ∙ ap (λ o. refused_at (option_or o (earliest (uncovered_of bs k) heads))) (sym (earliest_by (bad_of bs k) (h + 1) heads bad.0 one (omega arith)))

pub loop-head-preserved : goal.loop-head-preserved
loop-head-preserved c =
    let bs = c.args.bytes.now in
    let k = c.args.bills in
    let h = c.loop-head.head-iterator.count in
    let inv = c.loop-head.invariant in
    let at = c.in-Some.ensures.steps in
    let wide = at.0.1.1 ∙ inv.size in
    let read = reads bs k h _ _ _ at.0.1.0 wide c.read_section.result c.in-Some.head at.1 inv.left c.read_section.ensures in
    let got = read_ok (bad_of bs k h) (section_of bs ((k + 1) * h) k) c.in_ok-section.section c.read_section.result read (search rules) in
    record {
      next = search rules;
      ends = search rules;
      size = search rules;
      left = subst (λ (n : ℕ). AreFields c.next.new.self.iter.rest.now bs ((k + 1) * n)) (sym at.2) (left_more bs k h _ _ _ at.0.1.0 wide inv.left);
      long = ap (λ n. length c.next.new.self.iter.rest.now + (k + 1) * n) at.2 ∙ long_more bs k h _ _ _ at.0.1.0 wide inv.long;
      good = ap (earliest (bad_of bs k)) at.2 ∙ earliest_more (bad_of bs k) h ∙ ap₂ option_or inv.good got.0;
      told =
          c.and-covered.ensures
          ∙ ap (λ r. result_and {U = Unit {0}} c.loop-head.covered r) (c.check_covered.ensures ∙ ap (λ n. refused_at (unless (covered c.in_ok-section.section) ((k + 1) * n))) at.1)
          ∙ added bs k h c.in_ok-section.section got.1 c.loop-head.covered inv.told ∙ ap (λ n. refused_at (earliest (uncovered_of bs k) n)) (sym at.2);
    }

pub returns : goal.returns
returns c =
    let bs = c.args.bytes.now in
    let k = c.args.bills in
    let h = c.loop-head.head-iterator.count in
    let short = c.in-None.ensures.steps.0.1.0 in
    let inv = c.loop-head.invariant in
    let all : h ≡ heads = ends_at k h _ inv.long (omega (arith, inv.size, short)) in
    inv.told ∙ ap₂ (λ o p. refused_at (option_or o p)) (sym (sym (ap (earliest (bad_of bs k)) all) ∙ inv.good)) (ap (earliest (uncovered_of bs k)) all)
