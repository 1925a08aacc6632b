-- What a drawer holds, and what no call on it changes.
--
--   drawer_held d      what is held for each head
--   drawer_keeps d e   what every call that makes e of d leaves: the buffer, the number of fields for bills, that the
--                      bytes pass the check, and all of the bytes where the number is 0, so that the check refused them
--   drawer_beyond, drawer_within, drawer_amounts, drawer_stays, drawer_joins
--                      the facts that every ledger shows: nothing beyond the heads, the bound, the amounts, and the laws of keeping
--
-- Assumes nothing.
use Rattle.std.specs.Prelude.{◌≡◌, ℕ, ◌-◌, ◌<◌, ◌≤◌, true, cond, is_some, Some, None, Option, refl}
use Rattle.std.proofs.Common.{ap, ◌∙◌, arith}
use Rattle.ledger.specs.Held.{heads, Heads, nothing, Within, Amount}
use Rattle.drawer_image.specs.declared.section.Section.{Section}
use Rattle.drawer_image.specs.Checks.{Passes, section_at}
use Rattle.drawer_image.proofs.Sounds.{headless_none}
use Rattle.drawer_image.proofs.Lawful.{Lawful, lawful_at}
use Rattle.drawer.specs.declared.Drawer.{Drawer}
use Rattle.drawer.specs.Meaning.{held_in, bytes_held}

abbrev pub drawer_held : Drawer → Heads
drawer_held d = bytes_held d.bytes.now d.bills

abbrev pub drawer_keeps : Drawer → Drawer → Type 0
drawer_keeps d e =
    (e.bytes.ghost_name ≡ d.bytes.ghost_name)
    × (e.bills ≡ d.bills)
    × (Passes d.bytes.now d.bills → Passes e.bytes.now e.bills)
    × (d.bills ≡ 0 → e.bytes.now ≡ d.bytes.now)

pub drawer_stays : (d : Drawer) → drawer_keeps d d
drawer_stays d = (refl, refl, λ p. p, λ z. refl)

pub drawer_joins : (d e f : Drawer) → drawer_keeps d e → drawer_keeps e f → drawer_keeps d f
drawer_joins d e f p q = (q.0 ∙ p.0, q.1 ∙ p.1, λ x. q.2 (p.2 x), λ z. q.3 (p.1 ∙ z) ∙ p.3 z)

pub drawer_beyond : (d : Drawer) (h : ℕ) → heads ≤ h → drawer_held d h ≡ nothing
drawer_beyond d h le = ap held_in (headless_none d.bytes.now d.bills h le)

held_within : (s : Section) → Lawful s → Within (held_in s)
held_within s l = go s.promised l.some
  where
    go : (p : Option ℕ) → (is_some p ≡ true → 0 < s.free) → Within (record { promised = p; credited = s.credited; places = s.free - cond (is_some p) 1 0 })
    go None some = omega (arith, l.few)
    go (Some a) some = let q = some refl in omega (arith, l.few)

pub drawer_within : (d : Drawer) (h : ℕ) → Within (drawer_held d h)
drawer_within d h = held_within (section_at d.bytes.now d.bills h) (lawful_at d.bytes.now d.bills h)

pub drawer_amounts : (d : Drawer) (h : ℕ) → Amount (drawer_held d h).promised
drawer_amounts d h = (lawful_at d.bytes.now d.bills h).amount
