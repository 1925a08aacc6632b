use Rattle.std.proofs.Common.{◌≡◌, cond, is_ok, ap, ◌∙◌, rules}
use Rattle.drawer.specs.Meaning.{bytes_held}
use Rattle.drawer_image.specs.Checks.{checked}
use Rattle.drawer.proofs.Checks.{made_of}
use Rattle.drawer.proofs.Drawer.new.Goals as goal

pub returns-clause-held : goal.returns-clause-held
returns-clause-held c =
    let bs = c.args.bytes.now in
    let bills : c.if-is_ok.bills ≡ cond (is_ok (checked bs c.args.bills)) c.args.bills 0 = search rules in
    ap (bytes_held bs) bills ∙ made_of bs c.args.bills
