use Rattle.std.proofs.Common.{◌+◌, length, drop, ap, ◌∙◌, rules}
use Rattle.frame.specs.Frames.{front_answer, content}
use Rattle.frame.proofs.Laid.{written}
use Rattle.frame.proofs.Round.{reads_back}
use Rattle.frame.proofs.write.Goals as goal

pub returns : goal.returns
returns c =
    let bytes = c.args.«data».now in
    let e = written c.args.buffer.now bytes c.args.command _ _ _ c.check-sum.result c.copy_from_slice.ensures.after c.copy_from_slice-2.ensures.after c.check-sum.type_inv c.check-sum.ensures (c.copy_from_slice-3.ensures.after ∙ c.to_le_bytes.ensures) in
    record {
      answer = search rules;
      after = e;
      back = ap front_answer e ∙ reads_back (content c.args.command bytes) (drop (length bytes + 5) c.args.buffer.now);
    }
