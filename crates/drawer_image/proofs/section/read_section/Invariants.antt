use Rattle.std.proofs.Common.{◌≡◌, ℕ, ◌*◌, ◌≤◌, List, None}
use Rattle.ledger.specs.Held.{most_amount}
use Rattle.drawer_image.specs.Fields.{AreFields}
use Rattle.drawer_image.specs.Sections.{free_in, credited_in, bad_in}
use Rattle.drawer_image.proofs.section.read_section.Given as goal

abbrev pub invariant-loop-bill : goal.invariant-loop-bill
invariant-loop-bill l = record {
  read : (bs : List ℕ) → AreFields l.fields bs l.first → (bad_in bs l.first l.bill ≡ None) × (l.free ≡ free_in bs l.first l.bill) × (l.credited ≡ credited_in bs l.first l.bill);
  few : l.free ≤ l.bill;
  small : l.credited ≤ most_amount * l.bill;
}
