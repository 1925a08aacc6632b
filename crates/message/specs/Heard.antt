-- What is heard in received bytes, as a relation and computed.
--
--   Hears bs r            r is the well-formed frame at the smallest place, else the fault at the earliest FCH, else at place 0
--   hear_answer bs        the same, computed
--   EarliestSync bs at    the first FCH of the bytes is at a place, or there is none and the place is 0
--   fault_place bs        the same, computed
--   IsFirstHeard bs r     r is the message found at the smallest place where one is
--   heard_at at r         what is heard at a place whose bytes read as r
--   told_heard r          what `hear` answered, with the data that it borrows as a list
--   found_by h            the same of a message that was heard
--
-- Assumes nothing.
use Rattle.std.specs.Prelude.{◌≡◌, ℕ, suc, ◌<◌, ◌⊎◌, List, [], ◌∷◌, length, Some, None, Ok, Err, Option, Result, MatchOption, ◌==◌, drop, position, slice_index}
use Rattle.std.specs.Option.{option_or, unwrap_or}
use Rattle.frame.specs.Frames.{Content, StandsAt, front_answer, read_answer}
use Rattle.frame.specs.declared.fault.FrameFault.{FrameFault}
use Rattle.frame.specs.declared.fault.FrameFault.TheVariants.{TooShort}
use Rattle.message.specs.Kinds.{Kind, kind_of, message_kind, message_content}
use Rattle.message.specs.declared.heard.Heard.{Heard}
use Rattle.message.specs.declared.heard.NothingHeard.{NothingHeard}

-- A message that was found at a place.
pub record Found : Type 0 where
  pub place : ℕ
  pub kind : Kind
  pub says : Content

abbrev pub found : ℕ → Content → Found
found at m = record { place = at; kind = kind_of m.command; says = m }

abbrev pub nothing : ℕ → FrameFault → NothingHeard
nothing at e = record { place = at; fault = e }

-- THE RELATION

abbrev pub NoFrameAt : List ℕ → ℕ → Type 0
NoFrameAt bs at = (m : Content) → StandsAt bs at m → ⊥

abbrev pub SyncAt : List ℕ → ℕ → Type 0
SyncAt bs at = (at < length bs) × (slice_index bs at ≡ 0xfc)

abbrev pub EarliestSync : List ℕ → ℕ → Type 0
EarliestSync bs at =
    (SyncAt bs at × ((p : ℕ) → p < at → SyncAt bs p → ⊥)) ⊎ ((at ≡ 0) × ((p : ℕ) → SyncAt bs p → ⊥))

abbrev pub Hears : List ℕ → Result Found NothingHeard → Type 0
Hears bs (Ok f) = StandsAt bs f.place f.says × (f.kind ≡ kind_of f.says.command) × ((p : ℕ) → p < f.place → NoFrameAt bs p)
Hears bs (Err n) = ((p : ℕ) → NoFrameAt bs p) × EarliestSync bs n.place × (read_answer bs n.place ≡ Err n.fault)

-- COMPUTED

-- what `at` tells of the bytes from the smallest place on where it tells something
unfoldable pub smallest : {X : Type 0} → (ℕ → List ℕ → Option X) → ℕ → List ℕ → Option X
smallest at i [] = None
smallest at i (b ∷ bs) = option_or (at i (b ∷ bs)) (smallest at (suc i) bs)

abbrev pub found_from : ℕ → Result Content FrameFault → Option Found
found_from i (Ok m) = Some (found i m)
found_from i (Err e) = None

abbrev pub frame_here : ℕ → List ℕ → Option Found
frame_here i bs = found_from i (front_answer bs)

-- What is found is the frame at the smallest place where one is found; nothing, where none is.
abbrev pub IsFirstHeard : List ℕ → Option Found → Type 0
IsFirstHeard bs r =
    MatchOption r ((p : ℕ) → p < length bs → frame_here p (drop p bs) ≡ None)
    (λ f. (at : ℕ) × (at < length bs) × (frame_here at (drop at bs) ≡ Some f) × ((p : ℕ) → p < at → frame_here p (drop p bs) ≡ None))

abbrev pub fault_place : List ℕ → ℕ
fault_place bs = unwrap_or (position (λ b. b == 0xfc) bs) 0

abbrev pub fault_in : Result Content FrameFault → FrameFault
fault_in (Ok m) = TooShort
fault_in (Err e) = e

abbrev pub found_or : Option Found → NothingHeard → Result Found NothingHeard
found_or (Some f) n = Ok f
found_or None n = Err n

abbrev pub hear_answer : List ℕ → Result Found NothingHeard
hear_answer bs = found_or (smallest frame_here 0 bs) (nothing (fault_place bs) (fault_in (read_answer bs (fault_place bs))))

abbrev pub heard_at : ℕ → Result Content FrameFault → Result Found NothingHeard
heard_at at (Ok m) = Ok (found at m)
heard_at at (Err e) = Err (nothing at e)

abbrev pub found_by : Heard → Found
found_by h = record { place = h.place; kind = message_kind h.message; says = message_content h.message }

abbrev pub told_heard : Result Heard NothingHeard → Result Found NothingHeard
told_heard (Ok h) = Ok (found_by h)
told_heard (Err n) = Err n
