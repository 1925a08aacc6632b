-- Frames: their bytes, where one stands, and what reading and writing answer.
--
--   Content                 what a frame says: its command byte and its data
--   frame_bytes m           the bytes of the frame that says m
--   StandsAt bs at m        the frame that says m stands in the bytes bs at a place
--   read_answer bs at       what reading at a place answers: the refusals in their order, or what the frame says
--   Exactly bs at r         r is an answer `Ok m` exactly if the frame that says m stands there
--   write_answer d room     what writing data d into a buffer of a length answers
--   buffer_after m was r    the buffer after a write that answered r: the frame starts it and the rest stays
--   WrittenReads m bs r     what was written reads as the same message
--   told r                  what a reader answered, with the data that it borrows as a list
--
-- Assumes nothing.
use Rattle.std.specs.Prelude.{◌≡◌, ℕ, ◌+◌, ◌-◌, ◌*◌, ◌/◌, ◌%◌, ◌≤◌, cond, List, [], ◌∷◌, ◌++◌, length, take, drop, IfOk, Ok, Err, Result, ◌==◌, nat_lt, slice_index}
use Rattle.frame_check.specs.Register.{check_of}
use Rattle.frame.specs.declared.Frame.{Frame}
use Rattle.frame.specs.declared.fault.FrameFault.{FrameFault}
use Rattle.frame.specs.declared.fault.FrameFault.TheVariants.{TooShort, NoSync, BadLength, Incomplete, CheckDiffers}
use Rattle.frame.specs.declared.fault.WriteFault.{WriteFault}
use Rattle.frame.specs.declared.fault.WriteFault.TheVariants.{DataTooLong, BufferTooShort}

pub record Content : Type 0 where
  pub command : ℕ
  pub «data» : List ℕ

abbrev pub content : ℕ → List ℕ → Content
content c d = record { command = c; «data» = d }

-- FCH, LNG, the command and the data: what the check runs over.
abbrev pub checked_part : Content → List ℕ
checked_part m = 0xfc ∷ (length m.«data» + 5) ∷ m.command ∷ m.«data»

-- The check follows, low byte first.
abbrev pub frame_bytes : Content → List ℕ
frame_bytes m = checked_part m ++ check_of (checked_part m) % 256 ∷ check_of (checked_part m) / 256 ∷ []

abbrev pub StandsAt : List ℕ → ℕ → Content → Type 0
StandsAt bs at m = (length m.«data» ≤ 250) × (take (length m.«data» + 5) (drop at bs) ≡ frame_bytes m)

-- The length byte of bytes that begin a frame, and the check that stands behind the first n of them.
abbrev pub length_byte : List ℕ → ℕ
length_byte bs = slice_index bs 1

abbrev pub carried_check : List ℕ → ℕ → ℕ
carried_check bs n = slice_index bs n + 256 * slice_index bs (n + 1)

-- Reading at the start of the bytes.
abbrev pub front_answer : List ℕ → Result Content FrameFault
front_answer bs =
    cond (nat_lt (length bs) 5) (Err TooShort)
    (cond (slice_index bs 0 == 0xfc)
    (cond (nat_lt (length_byte bs) 5) (Err BadLength)
    (cond (nat_lt (length bs) (length_byte bs)) (Err Incomplete)
    (cond (check_of (take (length_byte bs - 2) bs) == carried_check bs (length_byte bs - 2))
    (Ok (content (slice_index bs 2) (take (length_byte bs - 5) (drop 3 bs))))
    (Err CheckDiffers))))
    (Err NoSync))

abbrev pub read_answer : List ℕ → ℕ → Result Content FrameFault
read_answer bs at = front_answer (drop at bs)

abbrev pub Exactly : List ℕ → ℕ → Result Content FrameFault → Type 0
Exactly bs at r = (m : Content) → (r ≡ Ok m → StandsAt bs at m) × (StandsAt bs at m → r ≡ Ok m)

abbrev pub write_answer : List ℕ → ℕ → Result ℕ WriteFault
write_answer d room = cond (nat_lt 250 (length d)) (Err DataTooLong) (cond (nat_lt room (length d + 5)) (Err BufferTooShort) (Ok (length d + 5)))

abbrev pub buffer_after : Content → List ℕ → Result ℕ WriteFault → List ℕ
buffer_after m was (Ok n) = frame_bytes m ++ drop n was
buffer_after m was (Err e) = was

abbrev pub WrittenReads : Content → List ℕ → Result ℕ WriteFault → Type 0
WrittenReads m bs r = IfOk r (λ n. read_answer bs 0 ≡ Ok m)

abbrev pub content_of : Frame → Content
content_of f = content f.command f.«data».now

abbrev pub told : Result Frame FrameFault → Result Content FrameFault
told (Ok f) = Ok (content_of f)
told (Err e) = Err e
