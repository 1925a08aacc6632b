-- The settings that a sheet asks for.
--
--   settings_of s       all of them, as messages, in the order in which they are sent
--   setting_content t   a setting as a message
--   nth xs i            what stands at a place of a list, if anything
--
-- Assumes nothing.
use Rattle.std.specs.Prelude.{ℕ, zero, suc, List, [], ◌∷◌, Some, None, Option}
use Rattle.number.specs.Shown.{shown}
use Rattle.frame.specs.Frames.{Content, content}
use Rattle.sheet.specs.declared.setting.Setting.{Setting}
use Rattle.sheet.specs.declared.setting.Setting.TheVariants.{EnableDenominations, SecurityDenominations, OptionalFunction, Inhibit}
use Rattle.sheet.specs.declared.sheet.Sheet.{Sheet}

-- The options are two bytes.
abbrev pub settings_of : Sheet → List Content
settings_of s =
    content 0xc0 (s.enable ∷ 0x00 ∷ [])
    ∷ content 0xc1 (s.security ∷ 0x00 ∷ [])
    ∷ content 0xc5 s.options
    ∷ content 0xc3 (0x00 ∷ [])
    ∷ []

abbrev pub setting_content : Setting → Content
setting_content (EnableDenominations code bytes) = content (shown code) bytes
setting_content (SecurityDenominations code bytes) = content (shown code) bytes
setting_content (OptionalFunction code bytes) = content (shown code) bytes
setting_content (Inhibit code bytes) = content (shown code) bytes

abbrev pub nth : {X : Type 0} → List X → ℕ → Option X
nth [] i = None
nth (x ∷ xs) zero = Some x
nth (x ∷ xs) (suc i) = nth xs i
