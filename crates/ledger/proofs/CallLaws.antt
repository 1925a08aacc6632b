-- What calls do to the money. Assumes nothing.
use Rattle.std.proofs.Common.{◌≡◌, ℕ, true, false, is_some, is_ok, Some, None, Option, refl, arith}
use Rattle.std.proofs.lemmas.Bool.Decides.{nat_tests}
use Rattle.std.proofs.lemmas.Bool.{both_ways}
use Rattle.ledger.specs.Held.{Heads}
use Rattle.ledger.specs.Answers.{promise_answer, end_answer, promised_after, settled_after, given_back_after}
use Rattle.ledger.specs.Laws.{Promised, Settled, GivenBack, PromisesAsListed, EndsAsListed, AcceptedAsNamed, RefusedChangesNothing}

pub promises_as_listed : PromisesAsListed
promises_as_listed = record {
  no_such_head = λ t d h a le. grind (arith, nat_tests);
  bad_amount = λ t d h a lt bad. grind (arith, nat_tests);
  already_promised = λ t d h a b lt low high is. grind (arith, nat_tests);
  no_place = λ t d h a lt low high is full. grind (arith, nat_tests);
  accepted = λ t d h a lt low high is free. grind (arith, nat_tests);
}

pub ends_as_listed : EndsAsListed
ends_as_listed = record {
  no_such_head = λ t h le. grind (arith, nat_tests);
  none_promised = λ t h lt is. grind (arith, nat_tests);
  accepted = λ t h a lt is. grind (arith, nat_tests);
}

pub refused_changes_nothing : RefusedChangesNothing
refused_changes_nothing = record {
  promise = λ t d h a no. grind (arith, nat_tests);
  settle = λ t h no. grind (arith, nat_tests);
  give_back = λ t h no. grind (arith, nat_tests);
}

-- what an accepted end of a promise finds promised
pub some_of : {X : Type 0} (o : Option X) → is_some o ≡ true → (x : X) × (o ≡ Some x)
some_of None is = absurd (both_ways false refl is)
some_of (Some x) is = (x, refl)

ended : (t : Heads) (h : ℕ) → is_ok (end_answer t h) ≡ true → (a : ℕ) × ((t h).promised ≡ Some a)
ended t h ok = some_of (t h).promised (grind (arith, nat_tests))

pub promise_accepted : (t : Heads) (d h a : ℕ) → is_ok (promise_answer t d h a) ≡ true → Promised t h a (promised_after t h a)
promise_accepted t d h a ok = record {
  before = grind (arith, nat_tests);
  after = grind (arith, nat_tests);
  credited = grind (arith, nat_tests);
  places = grind (arith, nat_tests);
  others = λ k ne. grind (arith, nat_tests);
}

pub settle_accepted : (t : Heads) (h : ℕ) → is_ok (end_answer t h) ≡ true → (a : ℕ) × Settled t h a (settled_after t h)
settle_accepted t h ok =
    let it : (a : ℕ) × ((t h).promised ≡ Some a) = ended t h ok in (
      it.0,
      record {
        before = it.1;
        after = grind (arith, nat_tests);
        credited = grind (arith, nat_tests);
        places = grind (arith, nat_tests);
        others = λ k ne. grind (arith, nat_tests);
      },
    )

pub give_back_accepted : (t : Heads) (h : ℕ) → is_ok (end_answer t h) ≡ true → (a : ℕ) × GivenBack t h a (given_back_after t h)
give_back_accepted t h ok =
    let it : (a : ℕ) × ((t h).promised ≡ Some a) = ended t h ok in (
      it.0,
      record {
        before = it.1;
        after = grind (arith, nat_tests);
        credited = grind (arith, nat_tests);
        places = grind (arith, nat_tests);
        others = λ k ne. grind (arith, nat_tests);
      },
    )

pub accepted_as_named : AcceptedAsNamed
accepted_as_named = record { promise = promise_accepted; settle = settle_accepted; give_back = give_back_accepted }
