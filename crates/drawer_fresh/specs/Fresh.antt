-- Fresh bytes of a drawer with k fields for bills in each section: nothing is promised, every field for a bill is free.
--
--   empty_field t     a field with the tag t, the length 4 and the amount 0
--   repeated n xs     n times xs, one after the other
--   fresh_section k   a promise of nothing, and k free fields
--   fresh_bytes k     fourteen such sections
--   HoldsFresh bs k   bytes that pass the check, with k places and nothing promised or credited for each head
--
-- Assumes nothing.
use Rattle.std.specs.Prelude.{◌≡◌, ℕ, zero, suc, ◌<◌, List, [], ◌∷◌, ◌++◌, None}
use Rattle.ledger.specs.Held.{heads}
use Rattle.drawer_image.specs.Checks.{Passes}
use Rattle.drawer.specs.Meaning.{documented}

abbrev pub empty_field : ℕ → List ℕ
empty_field t = t ∷ 4 ∷ 0 ∷ 0 ∷ 0 ∷ 0 ∷ 0 ∷ []

unfoldable pub repeated : ℕ → List ℕ → List ℕ
repeated zero xs = []
repeated (suc n) xs = repeated n xs ++ xs

abbrev pub fresh_section : ℕ → List ℕ
fresh_section k = empty_field 0x50 ++ repeated k (empty_field 0x00)

abbrev pub fresh_bytes : ℕ → List ℕ
fresh_bytes k = repeated heads (fresh_section k)

pub record HoldsFresh (bs : List ℕ) (k : ℕ) : Type 0 where
  pub passes : Passes bs k
  pub holds : (h : ℕ) → h < heads → documented bs k h ≡ record { promised = None; credited = 0; places = k }
