-- Passes.
--
--   pass_of n        the pass with the count n
--   FirstPass, SecondPass   the pass for a first and for a second report
--
-- Assumes nothing.
use Rattle.std.specs.Prelude.{ℕ}
use Rattle.hub.specs.declared.pass.First.{First}
use Rattle.hub.specs.declared.pass.Pass.{Pass}
use Rattle.hub.specs.declared.pass.Second.{Second}

abbrev pub pass_of : {R : Type 0} → ℕ → Pass R
pass_of count = record { count = count; of = record {} }

abbrev pub FirstPass : Type 0
FirstPass = Pass First

abbrev pub SecondPass : Type 0
SecondPass = Pass Second
