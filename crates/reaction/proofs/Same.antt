-- Reactions with the same ending and the same reply are the same. Assumes nothing.
use Rattle.std.proofs.Common.{◌≡◌, true}
use mathlib.Core.Bool.{Bool-set}
use mathlib.Core.HLevel.{is_prop→PathP}
use Rattle.reaction.specs.Orderly.{is_orderly}
use Rattle.reaction.specs.declared.reaction.Reaction.{Reaction}

pub same : (a b : Reaction) → a.ending ≡ b.ending → a.reply ≡ b.reply → a ≡ b
same a b e r = λ i. record {
  ending = e i;
  reply = r i;
  orderly = is_prop→PathP (λ k. is_orderly (e k) (r k) ≡ true) (λ k. Bool-set (is_orderly (e k) (r k)) true) a.orderly b.orderly i;
}
