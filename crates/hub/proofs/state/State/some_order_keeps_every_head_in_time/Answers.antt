use Rattle.hub.proofs.state.State.some_order_keeps_every_head_in_time.Goals as goal

pub returns-clause-ordered : goal.returns-clause-ordered
returns-clause-ordered c = rw (← c.self.view_is) c.self.inside.turns.ordered
