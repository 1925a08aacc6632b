-- The numbers of a head's refusals.
--
--   move_fault_number      why it did not move
--   receive_fault_number   why it took nothing that it received
--
-- Assumes nothing.
use Rattle.std.specs.Prelude.{ℕ}
use Rattle.head.specs.declared.fault.MoveFault.{MoveFault}
use Rattle.head.specs.declared.fault.MoveFault.TheVariants.{NotListed}
use Rattle.head.specs.declared.fault.ReceiveFault.{ReceiveFault}
use Rattle.head.specs.declared.fault.ReceiveFault.TheVariants.{BufferTooShort}

abbrev pub move_fault_number : MoveFault → ℕ
move_fault_number NotListed = 20

abbrev pub receive_fault_number : ReceiveFault → ℕ
receive_fault_number BufferTooShort = 7
