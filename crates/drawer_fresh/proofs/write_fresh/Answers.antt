use Rattle.std.proofs.Common.{◌≡◌, ◌+◌, ◌-◌, ◌*◌, ◌≤◌, ◌++◌, take, length, sym, ap, ◌∙◌, subst, ap₂, mul-add, mul-le-mul_left, arith, rules}
use Rattle.std.proofs.lemmas.List.{take_all}
use Rattle.std.proofs.lemmas.Slice.{take-put_mid}
use Rattle.drawer_image.proofs.Sounds.{size_accepted}
use Rattle.drawer_fresh.specs.Fresh.{repeated, fresh_section, fresh_bytes, HoldsFresh}
use Rattle.drawer_fresh.proofs.Lists.{length_section, repeated_none, repeated_more, repeated_first}
use Rattle.drawer_fresh.proofs.Fresh.{holds_fresh}
use Rattle.drawer_fresh.proofs.write_fresh.Goals as goal

pub loop-other-init : goal.loop-other-init
loop-other-init c =
    let z : 7 * (c.args.bills + 1) * 0 ≡ 0 = omega arith in
    ap (λ n. take n c.split_at_mut-first.result.1.now) z ∙ sym (repeated_none (fresh_section c.args.bills))

pub slice_bounds-copy_from_slice-end : goal.slice_bounds-copy_from_slice-end
slice_bounds-copy_from_slice-end c =
    let k = c.args.bills in
    let s = 7 * (k + 1) in
    let z = size_accepted c.args.bytes.now k tt c.check_size.result c.check_size.ensures (search rules) in
    let le : c.loop-other.other + 1 ≤ 13 = omega arith in
    let room = mul-le-mul_left s le in
    omega (arith, room, z.long, c.split_at_mut-first.ensures.back_len)

pub loop-other-preserved : goal.loop-other-preserved
loop-other-preserved c =
    let k = c.args.bills in
    let s = 7 * (k + 1) in
    let n = c.loop-other.other in
    let z = size_accepted c.args.bytes.now k tt c.check_size.result c.check_size.ensures (search rules) in
    let made = c.copy_from_slice.ensures.after ∙ c.put_section.ensures k (omega (arith, c.split_at_mut-first.ensures.front_len)) in
    let long = ap length made ∙ length_section k in
    let next = mul-add s n 1 in
    let le : n + 1 ≤ 13 = omega arith in
    let room = mul-le-mul_left s le in
    take-put_mid (s * n) (s * (n + 1) - s * n) c.loop-other.others c.copy_from_slice.new.self (s * (n + 1)) (omega (arith, next, long)) (omega (arith, room, next, z.long, c.split_at_mut-first.ensures.back_len))
    ∙ ap₂ (λ xs ys. xs ++ ys) c.loop-other.invariant made
    ∙ sym (repeated_more n (fresh_section k))

pub returns : goal.returns
returns c =
    let k = c.args.bills in
    let s = 7 * (k + 1) in
    let n = c.loop-other.other in
    let z = size_accepted c.args.bytes.now k tt c.check_size.result c.check_size.ensures (search rules) in
    let all : n ≡ 13 = omega arith in
    let made = c.put_section.ensures k (omega (arith, c.split_at_mut-first.ensures.front_len)) in
    let whole = ap (λ m. s * m) all in
    let others = sym (take_all (s * n) c.loop-other.others (omega (arith, whole, z.long, c.split_at_mut-first.ensures.back_len))) ∙ c.loop-other.invariant ∙ ap (λ m. repeated m (fresh_section k)) all in
    let bytes : c.put_section.new.section ++ c.loop-other.others ≡ fresh_bytes k = ap₂ (λ xs ys. xs ++ ys) made others ∙ repeated_first 13 (fresh_section k) in
    record { answer = search rules; bytes = bytes; fresh = subst (λ xs. HoldsFresh xs k) (sym bytes) (holds_fresh k z.some z.few) }
