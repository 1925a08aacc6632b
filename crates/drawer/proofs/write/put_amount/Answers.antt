use Rattle.std.proofs.Common.{◌≡◌, ◌+◌, ◌-◌, ◌*◌, ap₂, ◌∙◌, arith}
use borrow.Rule.Slice.PartMut.{put_mid}
use Rattle.drawer.proofs.Puts.{put_four}
use Rattle.drawer.proofs.write.put_amount.Goals as goal

pub returns : goal.returns
returns c =
    let at = 7 * c.args.field + 3 in
    let many : at + 4 - at ≡ 4 = omega arith in
    ap₂ (λ n bytes. put_mid at n c.args.bytes.now bytes) many (c.copy_from_slice.ensures.after ∙ c.to_le_bytes.ensures) ∙ put_four c.args.bytes.now c.args.field c.args.amount c.requires
