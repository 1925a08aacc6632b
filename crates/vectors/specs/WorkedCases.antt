-- Worked cases, with the frames that the text of ID-003 prints.
--
--   WorkedCases    all of them
--
-- Assumes nothing.
use Rattle.std.specs.Prelude.{◌≡◌, [], ◌∷◌, Ok, Err}
use Rattle.frame.specs.Frames.{content, read_answer}
use Rattle.frame.specs.declared.fault.FrameFault.TheVariants.{TooShort, CheckDiffers}
use Rattle.message.specs.Heard.{found, hear_answer}

pub record WorkedCases : Type 0 where
  pub a_poll_reads : read_answer (0xfc ∷ 0x05 ∷ 0x11 ∷ 0x27 ∷ 0x56 ∷ []) 0 ≡ Ok (content 0x11 [])
  pub a_wrong_check_is_refused : read_answer (0xfc ∷ 0x05 ∷ 0x11 ∷ 0x27 ∷ 0x57 ∷ []) 0 ≡ Err CheckDiffers
  pub nothing_is_too_short : read_answer [] 0 ≡ Err TooShort
  pub heard_behind_noise : hear_answer (0x00 ∷ 0xfc ∷ 0x05 ∷ 0x50 ∷ 0xaa ∷ 0x05 ∷ []) ≡ Ok (found 1 (content 0x50 []))
