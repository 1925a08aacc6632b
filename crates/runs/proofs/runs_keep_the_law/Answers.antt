use Rattle.runs.proofs.HubSteps.{turns_part}
use Rattle.runs.proofs.Money.{money_and_credits}
use Rattle.runs.proofs.runs_keep_the_law.Goals as goal

-- src/lib.rt:18:1
pub returns : goal.returns
returns c = λ ledger es w run.
    let money = money_and_credits ledger es w run in
    let turn = turns_part ledger es w run in
    record { boxes = money.0; rounds = turn.0; wishes = turn.1; credits = money.1 }
