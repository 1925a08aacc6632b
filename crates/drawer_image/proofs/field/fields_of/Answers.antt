use Rattle.std.proofs.Common.{◌≡◌, ◌+◌, ◌*◌, take, drop, ap, ◌∙◌, arith, get_or, []}
use Rattle.drawer_image.proofs.Fields.{get_or-first_chunks}
use Rattle.drawer_image.proofs.field.fields_of.Goals as goal

pub returns-clause-fields : goal.returns-clause-fields
returns-clause-fields c = record { each = λ i lt. let z : i ≡ 0 + i = omega arith in ap (λ fs. get_or fs i []) c.as_chunks.ensures.front ∙ get_or-first_chunks 7 _ c.args.bytes.now i (omega (arith, c.as_chunks.ensures.front_len)) ∙ ap (λ n. take 7 (drop (7 * n) c.args.bytes.now)) z }
