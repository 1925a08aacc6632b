use Rattle.std.proofs.Common.{◌≡◌, true, ◌&&◌, sym, ap, ◌∙◌, rules, tests}
use Rattle.std.proofs.lemmas.Bool.Decides.{Decides-at}
use Rattle.orders.specs.Tables.{is_admitted, without_head}
use Rattle.orders.specs.Counts.{leaves_first, can_start}
use Rattle.orders.proofs.Choice.{can_start_decides}
use Rattle.turns.proofs.table.TurnTable.can_start.Goals as goal

pub returns : goal.returns
returns c =
    let table = c.args.self.now in
    let t = table.heads in
    let h = c.args.head in
    let in' : is_admitted t h ≡ true = search (rules, tests) in
    let same : c.leaves_first.result ≡ can_start t h = c.leaves_first.ensures ∙ ap (λ i. leaves_first (without_head t i) 14) c.from-place.ensures ∙ sym (ap (λ b. b && leaves_first (without_head t h) 14) in') in
    Decides-at c.leaves_first.result (can_start t h) same (can_start_decides t h (table.ordered, table.bounded))
