-- What each call answers, and what is held after it.
--
--   fault_number f           the number of a fault, as its declaration shows it
--   its_number               the number that a case of a fault holds, which the case's type fixes
--   Answer                   what a call answers: done, or the fault
--   question h x             the answer x to a question about head h: 21 if there is no such head
--   amount_check a           the answer to an amount alone: 22 if it is not 1 to 255,000,000, else done
--   promise_check p n d a    the answer to a promise of a for a head for which p is promised and n places are free: 22, 23,
--                            24 with depth d, else done
--   end_check p              the answer to an end of the promise p: 25 if it is none, else done
--   promise_answer t d h a   the answer to a promise of a for head h: 21, 22, 23, 24 with depth d, else done
--   end_answer t h           the answer to settling and to giving back, which end a promise: 21, 25, else done
--   promised_after t h a     what is held after a promise of a for head h
--   settled_after t h        what is held after settling
--   given_back_after t h     what is held after giving back
--
-- t is what is held before the call. A call refused leaves t as it is, and so does an accepted one for every head
-- but h. With 21 nothing is looked up for h.
--
-- Assumes nothing.
use Rattle.std.specs.Prelude.{ℕ, cond, ◌||◌, is_some, is_ok, Option, Ok, Err, Result, ◌==◌, nat_le, nat_lt}
use Rattle.number.specs.Shown.{shown}
use Rattle.number.specs.declared.Number.{Number}
use Rattle.ledger.specs.Held.{heads, most_amount, Heads, with_head, promising, settling, giving_back}
use Rattle.ledger.specs.declared.LedgerFault.{LedgerFault}
use Rattle.ledger.specs.declared.LedgerFault.TheVariants.{NoSuchHead, BadAmount, AlreadyPromised, NoPlace, NonePromised}

abbrev pub fault_number : LedgerFault → ℕ
fault_number (NoSuchHead n) = shown n
fault_number (BadAmount n) = shown n
fault_number (AlreadyPromised n) = shown n
fault_number (NoPlace n depth) = shown n
fault_number (NonePromised n) = shown n

abbrev pub its_number : {n : ℕ} → Number n
its_number = record {}

abbrev pub Answer : Type 0
Answer = Result (Unit {0}) LedgerFault

abbrev pub question : {A : Type 0} → ℕ → A → Result A LedgerFault
question h x = cond (nat_le heads h) (Err (NoSuchHead its_number)) (Ok x)

abbrev pub amount_check : ℕ → Answer
amount_check a = cond (a == 0 || nat_lt most_amount a) (Err (BadAmount its_number)) (Ok tt)

abbrev pub promise_check : Option ℕ → ℕ → ℕ → ℕ → Answer
promise_check promised places d a =
    cond (a == 0 || nat_lt most_amount a) (Err (BadAmount its_number))
    (cond (is_some promised) (Err (AlreadyPromised its_number))
    (cond (places == 0) (Err (NoPlace its_number d))
    (Ok tt)))

abbrev pub end_check : Option ℕ → Answer
end_check promised = cond (is_some promised) (Ok tt) (Err (NonePromised its_number))

abbrev pub promise_answer : Heads → ℕ → ℕ → ℕ → Answer
promise_answer t d h a = cond (nat_le heads h) (Err (NoSuchHead its_number)) (promise_check (t h).promised (t h).places d a)

abbrev pub end_answer : Heads → ℕ → Answer
end_answer t h = cond (nat_le heads h) (Err (NoSuchHead its_number)) (end_check (t h).promised)

abbrev pub promised_after : Heads → ℕ → ℕ → Heads
promised_after t h a = cond (is_ok (promise_answer t 0 h a)) (with_head t h (promising (t h) a)) t

abbrev pub settled_after : Heads → ℕ → Heads
settled_after t h = cond (is_ok (end_answer t h)) (with_head t h (settling (t h))) t

abbrev pub given_back_after : Heads → ℕ → Heads
given_back_after t h = cond (is_ok (end_answer t h)) (with_head t h (giving_back (t h))) t
