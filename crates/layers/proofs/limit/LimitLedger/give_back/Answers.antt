use Rattle.std.proofs.Common.{ap, arith, get_or-set_same, get_or-set_other}
use mathlib.Core.Path.{fun_ext}
use Rattle.std.proofs.lemmas.Bool.Decides.{nat_tests}
use Rattle.layers.proofs.limit.LimitLedger.give_back.Goals as goal

-- beside a promise the bound leaves at most 3,999 places below, so the lesser of the two rises by one
pub returns-clause-after : goal.returns-clause-after
returns-clause-after g c =
    let bound = g.L.Ledger.within c.args.self.now.below c.args.head in
    fun_ext (λ k. let below = ap (λ t. t k) c.give_back.ensures.after in grind (arith, nat_tests, get_or-set_same, get_or-set_other))
