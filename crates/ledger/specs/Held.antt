-- What a ledger holds for each head, how an accepted call changes it, and the bound that every ledger keeps.
--
--   heads             how many heads there are: 14, numbered from 0
--   most_amount       the largest amount that can be promised: 255,000,000
--   most_places       the most places a head can start with: 4,000
--   most_total        the bound's right side: 1,020,000,000,000, as much as so many places can take
--   Held              what is held for one head: a promised amount or none, the credited total, the free places
--   nothing           a head for which nothing is held
--   Heads             what is held for each head
--   with_head t h v   as t, but v for head h
--   Amount p          an amount that is promised is 1 to 255,000,000; of none nothing is said
--   Within v          the bound: credited + 255,000,000 × (places + 1 if an amount is promised) is at most most_total
--   promising v a     v once a is promised: one place less
--   settling v        v once its promised amount has joined the credited total
--   giving_back v     v once its promised amount is given back: one place more
--
-- Assumes nothing.
use Rattle.std.specs.Prelude.{ℕ, ◌+◌, ◌-◌, ◌*◌, ◌<◌, ◌≤◌, cond, is_some, Some, None, Option, ◌==◌}
use Rattle.std.specs.Option.{unwrap_or}

abbrev pub heads : ℕ
heads = 14

abbrev pub most_amount : ℕ
most_amount = 255000000

abbrev pub most_places : ℕ
most_places = 4000

abbrev pub most_total : ℕ
most_total = 1020000000000

pub record Held : Type 0 where
  pub promised : Option ℕ
  pub credited : ℕ
  pub places : ℕ

abbrev pub nothing : Held
nothing = record { promised = None; credited = 0; places = 0 }

abbrev pub Heads : Type 0
Heads = ℕ → Held

abbrev pub with_head : Heads → ℕ → Held → Heads
with_head t h v = λ k. cond (k == h) v (t k)

abbrev pub Amount : Option ℕ → Type 0
Amount p = (0 < unwrap_or p 1) × (unwrap_or p 1 ≤ most_amount)

abbrev pub Within : Held → Type 0
Within v = v.credited + most_amount * (v.places + cond (is_some v.promised) 1 0) ≤ most_total

abbrev pub promising : Held → ℕ → Held
promising v a = record { promised = Some a; credited = v.credited; places = v.places - 1 }

abbrev pub settling : Held → Held
settling v = record { promised = None; credited = v.credited + unwrap_or v.promised 0; places = v.places }

abbrev pub giving_back : Held → Held
giving_back v = record { promised = None; credited = v.credited; places = v.places + 1 }
