-- The numbers of the refusals of a drawer's bytes.
--
--   fault_number f        the number that the declaration of f's case shows
--
-- Assumes nothing.
use Rattle.std.specs.Prelude.{ℕ}
use Rattle.number.specs.Shown.{shown}
use Rattle.drawer_image.specs.declared.fault.DrawerFault.{DrawerFault}
use Rattle.drawer_image.specs.declared.fault.DrawerFault.TheVariants.{BadCount, BadLength, BadField}

abbrev pub fault_number : DrawerFault → ℕ
fault_number (BadCount n) = shown n
fault_number (BadLength n) = shown n
fault_number (BadField n place) = shown n
