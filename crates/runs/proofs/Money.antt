-- At every moment of every run every box closes, and every taken bill is credited in time. Assumes nothing.
use Rattle.std.proofs.Common.{◌≡◌, ℕ, ◌+◌, List, [], Option, refl, arith}
use Rattle.sheet.specs.declared.sheet.Draft.{Draft}
use Rattle.ledger.specs.Held.{Held, Heads}
use Rattle.runs.specs.Worlds.{Taken, Past, World, new_world}
use Rattle.runs.specs.Steps.{Event, Unused, Run, starts, goes_on}
use Rattle.runs.specs.Law.{worth_of, is_taken, owed, EveryBoxCloses, EveryTakenBillIsCredited}
use Rattle.runs.proofs.HubSteps.{hub_kept}
use Rattle.runs.proofs.Classes.{Class, class}
use Rattle.runs.proofs.Kept.{Owing, Agrees, MoneyKeptIn}
use Rattle.runs.proofs.OwnMoves.{untaken_none, untaken_entering}
use Rattle.runs.proofs.Steps.{step_keeps}

-- WHAT IS SO OF THE MONEY CLOSES THE BOX

owing_closes : (sheet : Option Draft) (v : Held) (bill : ℕ) (credited : List ℕ) (taken : List Taken) → Owing sheet v bill credited taken → v.credited + owed v.promised (is_taken bill taken) ≡ worth_of sheet taken
owing_closes sheet v bill credited taken h = grind arith

closes : (C : Class) (sheet : Option Draft) (b : ℕ) (v : Held) (p : Past) → Agrees C sheet b v p → v.credited + owed v.promised (is_taken p.promised p.taken) ≡ worth_of sheet p.taken
closes C sheet b v p h = grind (arith, owing_closes, untaken_none, untaken_entering)

-- RUNS

start_keeps : (ledger : Heads) → Unused ledger → MoneyKeptIn (new_world ledger)
start_keeps ledger unused = record {
  kept = λ h. record { below = tt; priced = refl; agrees = (record { sum = (unused h).1; all = tt }, untaken_none 0 [] (unused h).0); prompt = tt };
  inside = λ h e. cc;
  numbers = tt;
}

run_keeps : (ledger : Heads) (es : List Event) {w : World} → Run ledger es w → MoneyKeptIn w
run_keeps ledger es (starts unused) = start_keeps ledger unused
run_keeps ledger es (goes_on {es = before} {w = v} r s) = step_keeps v (hub_kept ledger before r) (run_keeps ledger before r) s

pub money_and_credits : (ledger : Heads) (es : List Event) (w : World) → Run ledger es w → ((h : ℕ) → EveryBoxCloses w h) × ((h : ℕ) → EveryTakenBillIsCredited w h)
money_and_credits ledger es w run =
    let it = run_keeps ledger es run in
    ((λ h. closes (class (w.heads h).phase) (w.memory.sheets h) (w.memory.bills h) (w.ledger h) (w.memory.pasts h) (it.kept h).agrees), (λ h. (it.kept h).prompt))
