use Rattle.std.proofs.Common.{get_or, take, ap, ◌∙◌, rules, arith}
use Rattle.std.proofs.Math.ListN.{length-set}
use Rattle.std.proofs.lemmas.List.{take_all}
use Rattle.hex_text.specs.Spelled.{blanked}
use Rattle.hex_text.proofs.Groups.{laid_more, ascii_blanked}
use Rattle.hex_text.proofs.lay.Goals as goal

pub loop-byte-init : goal.loop-byte-init
unfolding blanked
loop-byte-init c = search rules

pub loop-byte-preserved : goal.loop-byte-preserved
loop-byte-preserved c =
    let was = c.loop-byte.invariant in
    record {
      end = omega arith;
      size = simp length-set was.size;
      laid = laid_more c.loop-byte.text c.args.bytes.now c.loop-byte.byte-index c.loop-byte.end (get_or c.args.bytes.now c.loop-byte.byte-index 0) _ _ c.loop-byte-test.true was.end (omega arith) c.digit_of.ensures c.digit_of-in-loop-byte.ensures was.laid;
    }

pub returns : goal.returns
returns c =
    let bytes = c.args.bytes.now in
    let n = c.loop-byte-test.false in
    let was = c.loop-byte.invariant in
    record {
      size = omega arith;
      laid = ap (λ k. take k c.loop-byte.text) (omega arith) ∙ was.laid ∙ ap blanked (take_all c.loop-byte.byte-index bytes n);
      ascii = ascii_blanked bytes (λ k. search rules);
    }
