-- A limit over a tally over a drawer.
--
--   pile_held starts t   what such a pile holds at first: as the drawer, which holds t, but with no more places than
--                        the accepted starts of the limit
--
-- Assumes nothing.
use Rattle.std.specs.Prelude.{ℕ, List, slice_index}
use Rattle.ledger.specs.Held.{Heads}
use Rattle.ledger.specs.Starts.{accepted}
use Rattle.layers.specs.Limits.{limited}

abbrev pub pile_held : List ℕ → Heads → Heads
pile_held starts t h = limited (slice_index (accepted starts) h) (t h)
