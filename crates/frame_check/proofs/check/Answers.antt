use Rattle.std.proofs.Common.{◌≤◌, length, get_or, sym, ap, ◌∙◌, arith}
use Rattle.std.proofs.lemmas.List.{take_all}
use Rattle.std.proofs.lemmas.List.Sums.{fold_more}
use Rattle.frame_check.specs.Register.{byte_step, check_of}
use Rattle.frame_check.proofs.check.Goals as goal

pub loop-byte-preserved : goal.loop-byte-preserved
loop-byte-preserved c =
    let bytes = c.args.bytes.now in
    let i = c.loop-byte.byte-index in
    c.step-register.ensures ∙ ap (λ r. byte_step r (get_or bytes i 0)) c.loop-byte.invariant ∙ sym (fold_more byte_step 0 bytes i 0 (omega arith))

pub returns : goal.returns
returns c =
    let all : length c.args.bytes.now ≤ c.loop-byte.byte-index = omega arith in
    c.loop-byte.invariant ∙ ap check_of (take_all c.loop-byte.byte-index c.args.bytes.now all)
