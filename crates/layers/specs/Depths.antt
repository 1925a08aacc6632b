-- The depth with refusal 24, seen through a layer.
--
--   most_depth     where a depth stops: 2^32 − 1
--   deeper d       the depth that a layer makes of the depth d from below
--   one_deeper f   the fault that a layer makes of the fault f from below
--
-- Assumes nothing.
use Rattle.std.specs.Prelude.{ℕ, ◌+◌, min}
use Rattle.ledger.specs.declared.LedgerFault.{LedgerFault}
use Rattle.ledger.specs.declared.LedgerFault.TheVariants.{NoSuchHead, BadAmount, AlreadyPromised, NoPlace, NonePromised}

abbrev pub most_depth : ℕ
most_depth = 4294967295

abbrev pub deeper : ℕ → ℕ
deeper d = min most_depth (d + 1)

abbrev pub one_deeper : LedgerFault → LedgerFault
one_deeper (NoSuchHead n) = NoSuchHead n
one_deeper (BadAmount n) = BadAmount n
one_deeper (AlreadyPromised n) = AlreadyPromised n
one_deeper (NoPlace n d) = NoPlace n (deeper d)
one_deeper (NonePromised n) = NonePromised n
