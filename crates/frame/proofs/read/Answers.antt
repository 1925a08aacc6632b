use Rattle.std.proofs.Common.{◌≡◌, sym, subst, arith}
use Rattle.std.proofs.lemmas.Grind.{common_steps}
use Rattle.frame.specs.Frames.{Exactly, told, read_answer}
use Rattle.frame.proofs.Round.{exactly}
use Rattle.frame.proofs.read.Goals as goal

pub returns-clause-exactly : goal.returns-clause-exactly
returns-clause-exactly c =
    let bytes = c.args.bytes.now in
    let e : told c.front.result ≡ read_answer bytes c.args.place = grind (arith, common_steps) in
    subst (Exactly bytes c.args.place) (sym e) (exactly bytes c.args.place (λ i. (c.type_inv.bytes i).fits))
