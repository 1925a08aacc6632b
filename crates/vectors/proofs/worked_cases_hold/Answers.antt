use Rattle.std.proofs.Common.{refl}
use Rattle.frame_check.specs.Register.{byte_step, bit_steps, bit_step}
use Rattle.message.specs.Heard.{smallest}
use Rattle.vectors.proofs.worked_cases_hold.Goals as goal

pub returns : goal.returns
unfolding byte_step bit_steps bit_step smallest
returns c = record { a_poll_reads = refl; a_wrong_check_is_refused = refl; nothing_is_too_short = refl; heard_behind_noise = refl }
