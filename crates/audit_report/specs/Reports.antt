-- What an audit prints.
--
--   head_text h p c f       the line `head h promised p credited c places f`
--   line_of t h             the line of head h where t is held, with 0 for no promised amount
--   lines_of t n            the lines of the first n heads, each ended by a line feed
--   refusal_text f          the line `refused 26`, `refused 27` or `refused 28 at PLACE`, by the fault's number
--   report_of bs k          THE REPORT on bytes: the lines of all heads if they pass the check, else the refusal
--
-- Assumes nothing.
use Rattle.std.specs.Prelude.{ℕ, zero, suc, List, [], ◌∷◌, ◌++◌, Ok, Err, codes, decimal}
use Rattle.std.specs.Option.{unwrap_or}
use Rattle.number.specs.Shown.{shown}
use Rattle.ledger.specs.Held.{heads, Heads}
use Rattle.drawer_image.specs.declared.fault.DrawerFault.{DrawerFault}
use Rattle.drawer_image.specs.declared.fault.DrawerFault.TheVariants.{BadCount, BadLength, BadField}
use Rattle.drawer_image.specs.Checks.{Answer, checked}
use Rattle.drawer.specs.Meaning.{documented}

abbrev pub head_text : ℕ → ℕ → ℕ → ℕ → List ℕ
head_text h p c f =
    codes "head " ++ (decimal h ++ (codes " promised " ++ (decimal p ++ (codes " credited " ++ (decimal c ++ (codes " places " ++ decimal f))))))

abbrev pub line_of : Heads → ℕ → List ℕ
line_of t h = head_text h (unwrap_or (t h).promised 0) (t h).credited (t h).places

-- a line and its end
abbrev pub ended : List ℕ → List ℕ
ended line = line ++ (10 ∷ [])

unfoldable pub lines_of : Heads → ℕ → List ℕ
lines_of t zero = []
lines_of t (suc n) = lines_of t n ++ ended (line_of t n)

abbrev pub refusal_text : DrawerFault → List ℕ
refusal_text (BadCount n) = codes "refused " ++ decimal (shown n)
refusal_text (BadLength n) = codes "refused " ++ decimal (shown n)
refusal_text (BadField n place) = codes "refused " ++ (decimal (shown n) ++ (codes " at " ++ decimal place))

-- the report on bytes of which the check says r
abbrev pub report_by : List ℕ → ℕ → Answer → List ℕ
report_by bs k (Ok passed) = lines_of (documented bs k) heads
report_by bs k (Err fault) = ended (refusal_text fault)

abbrev pub report_of : List ℕ → ℕ → List ℕ
report_of bs k = report_by bs k (checked bs k)
