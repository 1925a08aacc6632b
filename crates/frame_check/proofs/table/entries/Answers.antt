-- The test is computed: this is the whole proof of the 256 entries.
use Rattle.std.proofs.Common.{refl}
use Rattle.frame_check.specs.Register.{entry_of, bit_steps, bit_step}
use Rattle.frame_check.proofs.table.entries.Goals as goal

pub returns : goal.returns
unfolding entry_of bit_steps bit_step
returns c = (refl, tt)
