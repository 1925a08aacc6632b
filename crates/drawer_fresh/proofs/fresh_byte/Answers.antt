use Rattle.std.proofs.Common.{◌/◌, ◌%◌, get_or, sym, ap, ◌∙◌, ap₂}
use Rattle.drawer_fresh.specs.Fresh.{empty_field}
use Rattle.drawer_fresh.proofs.Lists.{tag_of, tag_later, zero_behind, section_byte}
use Rattle.drawer_fresh.proofs.fresh_byte.Goals as goal

pub returns-in_default-eq0 : goal.returns-in_default-eq0
returns-in_default-eq0 c = λ k lt.
    ap₂ (λ t r. get_or (empty_field t) r 0) (sym (tag_later (c.args.place / 7) c.in_default-eq0.is-0.1)) (sym c.in_default-eq0.is-1) ∙ sym (section_byte k c.args.place lt)

pub returns-in_default-eq1-2 : goal.returns-in_default-eq1-2
returns-in_default-eq1-2 c = λ k lt.
    ap (λ r. get_or (empty_field (tag_of (c.args.place / 7))) r 0) (sym c.in_default-eq1.is-1) ∙ sym (section_byte k c.args.place lt)

pub returns-in_default-2 : goal.returns-in_default-2
returns-in_default-2 c = λ k lt. sym (section_byte k c.args.place lt ∙ zero_behind (tag_of (c.args.place / 7)) (c.args.place % 7) c.in_default.is-1.0.1 c.in_default.is-1.1)
