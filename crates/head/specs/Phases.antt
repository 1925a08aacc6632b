-- The phases of a head and the status of each.
--
--   status p            the status that a head in a phase answers: the code that the phase's definition shows, with its data
--   code p, held p      that code, and the bytes that the phase holds: together they tell the phase
--   error_byte e        the code of an error
--   ReadAsStatus p      whoever reads statuses reads it as that status
--   new_head            a head as it starts
--   idle and its like   the phases, without the number that their definition shows
--
-- Throughout, n is that number, c the code of a bill, d the reason of a rejection, e an error, f its failure byte.
-- Assumes nothing.
use Rattle.std.specs.Prelude.{◌≡◌, ℕ, true, List, [], ◌∷◌, Ok}
use Rattle.number.specs.Shown.{shown}
use Rattle.frame.specs.Frames.{Content, content}
use Rattle.status.specs.Statuses.{status_answer}
use Rattle.head.specs.declared.head.Head.{Head}
use Rattle.head.specs.declared.phase.ErrorCode.{ErrorCode}
use Rattle.head.specs.declared.phase.ErrorCode.TheVariants.{StackerFull, StackerOpen, JamInAcceptor, JamInStacker, Pause, Cheated, Failure}
use Rattle.head.specs.declared.phase.Phase.{Phase}
use Rattle.head.specs.declared.phase.Phase.TheVariants.{Idle, Accepting, Escrow, Stacking, Vend, Stacked, Rejecting, Returning, Disabled, Init, Storing, Up40, Up41, Up42, Error}

-- THE STATUS OF EACH PHASE

abbrev pub error_byte : ErrorCode → ℕ
error_byte StackerFull = 0x43
error_byte StackerOpen = 0x44
error_byte JamInAcceptor = 0x45
error_byte JamInStacker = 0x46
error_byte Pause = 0x47
error_byte Cheated = 0x48
error_byte Failure = 0x49

abbrev pub error_data : ErrorCode → ℕ → List ℕ
error_data StackerFull f = []
error_data StackerOpen f = []
error_data JamInAcceptor f = []
error_data JamInStacker f = []
error_data Pause f = []
error_data Cheated f = []
error_data Failure f = f ∷ []

abbrev pub status : Phase → Content
status (Idle n) = content (shown n) []
status (Accepting n c) = content (shown n) []
status (Escrow n c) = content (shown n) (c ∷ [])
status (Stacking n c) = content (shown n) []
status (Vend n c) = content (shown n) []
status (Stacked n c) = content (shown n) []
status (Rejecting n d) = content (shown n) (d ∷ [])
status (Returning n) = content (shown n) []
status (Disabled n) = content (shown n) []
status (Init n) = content (shown n) []
status (Storing n c) = content (shown n) []
status (Up40 n) = content (shown n) []
status (Up41 n) = content (shown n) []
status (Up42 n c) = content (shown n) []
status (Error e f) = content (error_byte e) (error_data e f)

abbrev pub code : Phase → ℕ
code p = (status p).command

abbrev pub ReadAsStatus : Phase → Type 0
ReadAsStatus p = status_answer (code p) (status p).«data» ≡ Ok (status p)

abbrev pub held : Phase → List ℕ
held (Idle n) = []
held (Accepting n c) = c ∷ []
held (Escrow n c) = c ∷ []
held (Stacking n c) = c ∷ []
held (Vend n c) = c ∷ []
held (Stacked n c) = c ∷ []
held (Rejecting n d) = d ∷ []
held (Returning n) = []
held (Disabled n) = []
held (Init n) = []
held (Storing n c) = c ∷ []
held (Up40 n) = []
held (Up41 n) = []
held (Up42 n c) = c ∷ []
held (Error e f) = f ∷ []

-- NAMES FOR THE PHASES

abbrev pub idle : Phase
idle = Idle (record {})

abbrev pub accepting : ℕ → Phase
accepting c = Accepting (record {}) c

abbrev pub escrow : ℕ → Phase
escrow c = Escrow (record {}) c

abbrev pub stacking : ℕ → Phase
stacking c = Stacking (record {}) c

abbrev pub vend : ℕ → Phase
vend c = Vend (record {}) c

abbrev pub stacked : ℕ → Phase
stacked c = Stacked (record {}) c

abbrev pub rejecting : ℕ → Phase
rejecting d = Rejecting (record {}) d

abbrev pub returning : Phase
returning = Returning (record {})

abbrev pub disabled : Phase
disabled = Disabled (record {})

abbrev pub init : Phase
init = Init (record {})

abbrev pub storing : ℕ → Phase
storing c = Storing (record {}) c

abbrev pub up40 : Phase
up40 = Up40 (record {})

abbrev pub up41 : Phase
up41 = Up41 (record {})

abbrev pub up42 : ℕ → Phase
up42 c = Up42 (record {}) c

abbrev pub new_head : Head
new_head = record { phase = up40; inhibited = true }
