use Rattle.std.proofs.Common.{◌≡◌, ◌+◌, ◌*◌, length, None}
use Rattle.drawer_image.specs.Fields.{AreFields}
use Rattle.drawer_image.specs.Checks.{earliest, bad_of, uncovered_of, refused_at}
use Rattle.drawer_image.proofs.check.check_fields.Given as goal

-- the iterator has the fields of the sections from `count` on
abbrev pub invariant-loop-head : goal.invariant-loop-head
invariant-loop-head l = record {
  next : (goal.iterator-loop-head).can_next l.head-iterator;
  ends : (goal.iterator-loop-head).is_finite l.head-iterator;
  size : l.head-iterator.iter.size ≡ l.bills + 1;
  left : AreFields l.head-iterator.iter.rest.now l.bytes ((l.bills + 1) * l.head-iterator.count);
  long : length l.head-iterator.iter.rest.now + (l.bills + 1) * l.head-iterator.count ≡ 14 * (l.bills + 1);
  good : earliest (bad_of l.bytes l.bills) l.head-iterator.count ≡ None;
  told : l.covered ≡ refused_at (earliest (uncovered_of l.bytes l.bills) l.head-iterator.count);
}
