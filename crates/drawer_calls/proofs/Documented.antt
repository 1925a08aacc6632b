-- What the bytes of a drawer are documented to hold after calls on it. Assumes nothing.
use Rattle.std.proofs.Common.{◌≡◌, ℕ, cond, List, is_ok, sym, ap, ◌∙◌}
use Rattle.std.proofs.lemmas.Bool.{cond-true}
use Rattle.ledger.specs.Held.{Heads, nothing}
use Rattle.ledger_calls.specs.Calls.{after_all}
use Rattle.ledger_calls.specs.declared.HeadCall.{HeadCall}
use Rattle.drawer_image.specs.Checks.{Answer, checked, Passes}
use Rattle.drawer.specs.Meaning.{documented, bytes_held, made}
use Rattle.drawer.proofs.Checks.{holds_documented}

-- the drawer made of bs, with i fields for bills, held t; after the calls it is in ds, with j of them
pub calls_documented : (bs cs ds : List ℕ) (k i j : ℕ) (t : Heads) (calls : List HeadCall)
    → i ≡ cond (is_ok (checked bs k)) k 0 → t ≡ made bs k → j ≡ i → bytes_held ds j ≡ after_all t calls
    → cs ≡ ds → (Passes bs k → Passes cs k) → Passes bs k → documented cs k ≡ after_all (documented bs k) calls
calls_documented bs cs ds k i j t calls bills held same after back passes e =
    let ok = ap (λ (r : Answer). is_ok r) e in
    sym (holds_documented cs k (passes e))
    ∙ ap (λ x. bytes_held x k) back
    ∙ ap (bytes_held ds) (sym (same ∙ bills ∙ cond-true (is_ok (checked bs k)) k 0 ok))
    ∙ after
    ∙ ap (λ x. after_all x calls) (held ∙ cond-true (is_ok (checked bs k)) (documented bs k) (λ h. nothing) ok)
