-- What a tally makes of the ledger below.
--
--   tally_held held s           what is held for each head, where the ledger below holds `held`: the same
--   tally_depth depth s h       the depth with 24: one more than below
--   most_count                  where a count stops: 2^32 − 1
--   untallied                   what is tallied of a head before its first settling
--   tallied_after each h a r    what is tallied after a settling of a for head h that answers r: if accepted, one more
--                               and the latest amount a
--
-- Assumes nothing.
use Rattle.std.specs.Prelude.{ℕ, ◌+◌, min, cond, List, is_ok, slice_index_or, slice_set}
use Rattle.ledger.specs.Held.{Heads}
use Rattle.ledger.specs.Answers.{Answer}
use Rattle.layers.specs.Depths.{deeper}
use Rattle.layers.specs.declared.tally.Tallied.{Tallied}
use Rattle.layers.specs.declared.tally.Tally.{Tally}

abbrev pub tally_held : {L : Type 0} → (L → Heads) → Tally L → Heads
tally_held held s = held s.below

abbrev pub tally_depth : {L : Type 0} → (L → ℕ → ℕ) → Tally L → ℕ → ℕ
tally_depth depth s h = deeper (depth s.below h)

abbrev pub most_count : ℕ
most_count = 4294967295

abbrev pub untallied : Tallied
untallied = record { count = 0; latest = 0 }

abbrev pub tallied_after : List Tallied → ℕ → ℕ → Answer → List Tallied
tallied_after each h a r =
    cond (is_ok r) (slice_set each h (record { count = min most_count ((slice_index_or each h untallied).count + 1); latest = a })) each
