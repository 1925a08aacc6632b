-- What calls do to the money, said so that a user needs to know nothing else of what is held.
--
--   OthersStay h t u           u is t for every head but h
--   Promised, Settled, GivenBack
--                              from t to u, an amount a is promised, settled or given back for head h
--   PromisesAsListed           when a promise is refused, with which fault, and when it is accepted
--   EndsAsListed               the same of settling and of giving back
--   AcceptedAsNamed            an accepted call does what its name says, for its own head alone
--   RefusedChangesNothing      a refused call changes nothing
--   CallsKeepToTheirHead       all of these
--
-- Assumes nothing.
use Rattle.std.specs.Prelude.{◌≡◌, ℕ, suc, ◌+◌, ◌<◌, ◌≤◌, true, false, ◌⊎◌, is_ok, Some, None, Ok, Err, ◌≢◌}
use Rattle.ledger.specs.Held.{heads, most_amount, Heads}
use Rattle.ledger.specs.Answers.{its_number, promise_answer, end_answer, promised_after, settled_after, given_back_after}
use Rattle.ledger.specs.declared.LedgerFault.TheVariants.{NoSuchHead, BadAmount, AlreadyPromised, NoPlace, NonePromised}

abbrev pub OthersStay : ℕ → Heads → Heads → Type 0
OthersStay h t u = (k : ℕ) → (k ≢ h) → u k ≡ t k

pub record Promised (t : Heads) (h a : ℕ) (u : Heads) : Type 0 where
  pub before : (t h).promised ≡ None
  pub after : (u h).promised ≡ Some a
  pub credited : (u h).credited ≡ (t h).credited
  pub places : (t h).places ≡ suc (u h).places
  pub others : OthersStay h t u

pub record Settled (t : Heads) (h a : ℕ) (u : Heads) : Type 0 where
  pub before : (t h).promised ≡ Some a
  pub after : (u h).promised ≡ None
  pub credited : (u h).credited ≡ (t h).credited + a
  pub places : (u h).places ≡ (t h).places
  pub others : OthersStay h t u

pub record GivenBack (t : Heads) (h a : ℕ) (u : Heads) : Type 0 where
  pub before : (t h).promised ≡ Some a
  pub after : (u h).promised ≡ None
  pub credited : (u h).credited ≡ (t h).credited
  pub places : (u h).places ≡ suc (t h).places
  pub others : OthersStay h t u

-- d is the depth that comes with 24
pub record PromisesAsListed : Type 0 where
  pub no_such_head : (t : Heads) (d h a : ℕ) → heads ≤ h →
      promise_answer t d h a ≡ Err (NoSuchHead its_number)
  pub bad_amount : (t : Heads) (d h a : ℕ) → h < heads → (a ≡ 0) ⊎ (most_amount < a) →
      promise_answer t d h a ≡ Err (BadAmount its_number)
  pub already_promised : (t : Heads) (d h a b : ℕ) → h < heads → 1 ≤ a → a ≤ most_amount → (t h).promised ≡ Some b →
      promise_answer t d h a ≡ Err (AlreadyPromised its_number)
  pub no_place : (t : Heads) (d h a : ℕ) → h < heads → 1 ≤ a → a ≤ most_amount → (t h).promised ≡ None → (t h).places ≡ 0 →
      promise_answer t d h a ≡ Err (NoPlace its_number d)
  pub accepted : (t : Heads) (d h a : ℕ) → h < heads → 1 ≤ a → a ≤ most_amount → (t h).promised ≡ None → 0 < (t h).places →
      promise_answer t d h a ≡ Ok tt

pub record EndsAsListed : Type 0 where
  pub no_such_head : (t : Heads) (h : ℕ) → heads ≤ h →
      end_answer t h ≡ Err (NoSuchHead its_number)
  pub none_promised : (t : Heads) (h : ℕ) → h < heads → (t h).promised ≡ None →
      end_answer t h ≡ Err (NonePromised its_number)
  pub accepted : (t : Heads) (h a : ℕ) → h < heads → (t h).promised ≡ Some a →
      end_answer t h ≡ Ok tt

pub record AcceptedAsNamed : Type 0 where
  pub promise : (t : Heads) (d h a : ℕ) → is_ok (promise_answer t d h a) ≡ true →
      Promised t h a (promised_after t h a)
  pub settle : (t : Heads) (h : ℕ) → is_ok (end_answer t h) ≡ true →
      (a : ℕ) × Settled t h a (settled_after t h)
  pub give_back : (t : Heads) (h : ℕ) → is_ok (end_answer t h) ≡ true →
      (a : ℕ) × GivenBack t h a (given_back_after t h)

pub record RefusedChangesNothing : Type 0 where
  pub promise : (t : Heads) (d h a : ℕ) → is_ok (promise_answer t d h a) ≡ false → promised_after t h a ≡ t
  pub settle : (t : Heads) (h : ℕ) → is_ok (end_answer t h) ≡ false → settled_after t h ≡ t
  pub give_back : (t : Heads) (h : ℕ) → is_ok (end_answer t h) ≡ false → given_back_after t h ≡ t

pub record CallsKeepToTheirHead : Type 0 where
  pub promises : PromisesAsListed
  pub ends : EndsAsListed
  pub accepted : AcceptedAsNamed
  pub refused : RefusedChangesNothing
