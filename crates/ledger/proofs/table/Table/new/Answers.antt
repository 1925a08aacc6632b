use Rattle.std.proofs.Common.{◌≡◌, ℕ, suc, ◌≤◌, Bool, true, false, cond, leb, List, [], ◌∷◌, get_or, refl, ap, lit<, ◌∙◌, subst, rules}
use mathlib.Core.Path.{fun_ext}
use Rattle.std.specs.Array.{list_steps}
use Rattle.std.specs.Iterator.{Yields}
use Rattle.std.proofs.lemmas.Bool.{leb-false}
use Rattle.ledger.specs.Held.{heads, nothing}
use Rattle.ledger.specs.Starts.{accepted}
use Rattle.ledger.specs.Tables.{held_in, blank, starting}
use Rattle.ledger.proofs.table.Table.new.Goals as goal

-- what comes out of a list is no more than what bounds its elements
comes_bounded : (bound : ℕ) (xs ys t u : List ℕ) (x : ℕ) → ((h : ℕ) → get_or xs h 0 ≤ bound) → Yields list_steps xs ys t → t ≡ x ∷ u → x ≤ bound
comes_bounded bound xs [] t u x fit is e = let P : List ℕ → Type 0 = λ l. get_or l 0 0 ≤ bound in subst P (is ∙ e) (fit 0)
comes_bounded bound xs (y ∷ ys) t u x fit (j, is, more) e =
    comes_bounded bound j ys t u x (λ h. let P : List ℕ → Type 0 = λ l. get_or l (suc h) 0 ≤ bound in subst P is (fit (suc h))) more e

pub map-records-requires : goal.map-records-requires
map-records-requires c =
    (lit< tt, (lit< tt, (lit< tt, record { at = λ xs t q x u yields folds step. let le = comes_bounded _ _ xs t u x c.accepted_starts.ensures.fit yields step in search rules })))

pub returns : goal.returns
returns c = fun_ext (λ h. at h (leb heads h) refl)
  where
    at : (h : ℕ) (b : Bool) → leb heads h ≡ b → held_in (cond b blank (get_or c.map-records.result h blank)) ≡ cond b nothing (starting (get_or (accepted c.args.starts) h 0))
    at h true is = refl
    at h false is =
        let made = c.map-records.ensures.items.at h 0 blank (leb-false heads h is) in
        let started : held_in (get_or c.map-records.result h blank) ≡ starting (get_or c.accepted_starts.result h 0) = search rules in
        started ∙ ap (λ xs. starting (get_or xs h 0)) c.accepted_starts.ensures.value
