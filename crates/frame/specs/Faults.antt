-- The numbers of the refusals of reading and writing.
--
--   frame_fault_number    why a frame was not read
--   write_fault_number    why a frame was not written
--
-- Assumes nothing.
use Rattle.std.specs.Prelude.{ℕ}
use Rattle.frame.specs.declared.fault.FrameFault.{FrameFault}
use Rattle.frame.specs.declared.fault.FrameFault.TheVariants.{TooShort, NoSync, BadLength, Incomplete, CheckDiffers}
use Rattle.frame.specs.declared.fault.WriteFault.{WriteFault}
use Rattle.frame.specs.declared.fault.WriteFault.TheVariants.{DataTooLong, BufferTooShort}

abbrev pub frame_fault_number : FrameFault → ℕ
frame_fault_number TooShort = 1
frame_fault_number NoSync = 2
frame_fault_number BadLength = 3
frame_fault_number Incomplete = 4
frame_fault_number CheckDiffers = 5

abbrev pub write_fault_number : WriteFault → ℕ
write_fault_number DataTooLong = 6
write_fault_number BufferTooShort = 7
