use Rattle.std.proofs.Common.{◌≡◌, ℕ, Bool, cond, Some, Decides, ap, ◌∙◌, subst}
use Rattle.std.proofs.lemmas.Bool.Decides.{same_from_decides}
use Rattle.orders.specs.Tables.{Table}
use Rattle.orders.specs.Orders.{SomeOrderFrom}
use Rattle.orders.specs.Counts.{can_start}
use Rattle.orders.specs.Choice.{smallest_slack, chosen}
use Rattle.orders.proofs.Choice.{can_start_decides, chosen_is_computed}
use Rattle.orders.proofs.Keeps.{Keeps}
use Rattle.turns.proofs.table.TurnTable.choose.Goals as goal

-- the choice by any test of whether some order starts with the wish
chosen_by : (t : Table) (wish : ℕ) → Keeps t → (starts b : Bool) → Decides starts (SomeOrderFrom t wish) → starts ≡ b → cond b (Some wish) (smallest_slack t) ≡ chosen t wish
chosen_by t wish keeps starts b decides is =
    subst (λ x. cond x (Some wish) (smallest_slack t) ≡ chosen t wish) is
    (ap (λ x. cond x (Some wish) (smallest_slack t)) (same_from_decides starts (can_start t wish) decides (can_start_decides t wish keeps)))

pub returns-then-can_start : goal.returns-then-can_start
returns-then-can_start c =
    let table = c.args.self.now in
    let wish = c.args.wish in
    let is : Some wish ≡ chosen table.heads wish =
    chosen_by table.heads wish (table.ordered, table.bounded) _ _ c.can_start.ensures c.if-can_start.true in
    record { turn = (chosen_is_computed table.heads wish (Some wish) table.ordered table.bounded).1 is; computed = is }

pub returns : goal.returns
returns c =
    let table = c.args.self.now in
    let wish = c.args.wish in
    let is : c.smallest_slack.result ≡ chosen table.heads wish =
    c.smallest_slack.ensures
    ∙ chosen_by table.heads wish (table.ordered, table.bounded) _ _ c.can_start.ensures c.if-can_start.false in
    record { turn = (chosen_is_computed table.heads wish c.smallest_slack.result table.ordered table.bounded).1 is; computed = is }
