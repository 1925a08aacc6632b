use Rattle.std.proofs.Common.{◌≡◌, ℕ, List, sym, ap, ◌∙◌}
use Rattle.std.proofs.lemmas.Result.{IfOk-weaker}
use Rattle.hex_text.specs.Spelled.{Bytes, spelled}
use Rattle.hex_text.proofs.Groups.{same_spelled}
use Rattle.burst.specs.Described.{Answered, described_burst}
use Rattle.burst.proofs.answer.Goals as goal

-- a line spells one burst only
one_burst : (line text bytes : List ℕ) → Bytes bytes → line ≡ spelled bytes → text ≡ described_burst bytes → Answered line text
one_burst line text bytes fit is e =
    (λ bs fits spells. e ∙ ap described_burst (same_spelled bytes bs fit fits (sym is ∙ spells)), λ none. absurd (none bytes fit is))

pub returns-in-Ok : goal.returns-in-Ok
returns-in-Ok c =
    let parsed = c.in-Ok.ensures in
    IfOk-weaker c.describe.result _ _ (λ text e. one_burst _ _ _ parsed.0 parsed.1 (e ∙ ap described_burst c.as_slice.ensures.value)) c.describe.ensures
