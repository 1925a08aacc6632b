use Rattle.std.proofs.Common.{◌≡◌, ◌≤◌, cond, map, length, get_or, Ok, Err, sym, ap, ◌∙◌, arith, length-set, rules}
use Rattle.std.proofs.lemmas.List.{take_all}
use Rattle.sheet.specs.Sheets.{pair, pair_of, right_pairs, denomination_answer, told_denomination, told_denominations}
use Rattle.sheet.specs.declared.fault.SheetFault.TheVariants.{SheetWrong}
use Rattle.sheet.proofs.Pairs.{right, taken, right_more, one_refused, put_more}
use Rattle.sheet.proofs.sheet.check_denominations.Goals as goal

pub loop-place-preserved : goal.loop-place-preserved
loop-place-preserved c =
    let pairs = c.args.pairs.now in
    let i = c.loop-place.place in
    let d = c.in_ok-checked.field-0 in
    let inv = c.loop-place.invariant in
    let answered : Ok (pair_of d) ≡ denomination_answer (get_or pairs i (pair 0 0)) = sym (ap told_denomination c.in_ok-checked.was) ∙ c.try_from.ensures in
    let is = taken (right (get_or pairs i (pair 0 0))) (get_or pairs i (pair 0 0)) (pair_of d) answered in
    (right_more pairs i (omega arith) inv.0 is.0, put_more c.loop-place.checked pairs i d (omega (arith, inv.2)) (omega arith) is.1 inv.1, simp length-set inv.2)

pub returns-in_err-checked : goal.returns-in_err-checked
returns-in_err-checked c =
    let pairs = c.args.pairs.now in
    let i = c.loop-place.place in
    let e = c.in_err-checked.field-0.0 in
    let answered : Err e ≡ denomination_answer (get_or pairs i (pair 0 0)) = sym (ap told_denomination c.in_err-checked.was) ∙ c.try_from.ensures in
    let given : c.from_residual.result ≡ Err e = search rules in
    ap told_denominations given ∙ one_refused pairs i (get_or pairs i (pair 0 0)) e (omega arith) (search rules) answered

pub returns : goal.returns
returns c =
    let pairs = c.args.pairs.now in
    let checked = c.loop-place.checked in
    let i = c.loop-place.place in
    let all : length pairs ≤ i = omega arith in
    let alls : length checked ≤ i = omega (arith, c.loop-place.invariant.2) in
    let right = ap right_pairs (sym (take_all i pairs all)) ∙ c.loop-place.invariant.0 in
    let same = ap (map pair_of) (sym (take_all i checked alls)) ∙ c.loop-place.invariant.1 ∙ take_all i pairs all in
    ap Ok same ∙ sym (ap (λ b. cond b (Ok pairs) (Err SheetWrong)) right)
