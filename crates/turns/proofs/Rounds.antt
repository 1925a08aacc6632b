-- The law of turns, over every run. Assumes nothing.
use Rattle.std.proofs.Common.{◌≡◌, ℕ, ◌+◌, ◌-◌, ◌<◌, ◌≤◌, true, eqb, List, [], ◌∷◌, map, length, is_some, Some, None, Option, sym, refl, ap, ◌∙◌, subst, ⊎_elim, arith}
use Rattle.std.proofs.lemmas.Bool.{false≢true, cases_eq, cases_lt, ne_eqb}
use Rattle.std.proofs.lemmas.List.{get_or-set_same, get_or-set_other, length-map}
use Rattle.orders.specs.declared.turn.Turn.{Turn}
use Rattle.orders.specs.Tables.{Table, turn_of, is_admitted, limit_in, limit_of, slack_in, slack_of, empty_table, with_head, without_head}
use Rattle.orders.specs.Orders.{times, SomeOrderFrom}
use Rattle.orders.specs.Choice.{Chosen, chosen}
use Rattle.orders.specs.Slots.{lowered, restored, after_slot}
use Rattle.turns.specs.Calls.{if_accepted}
use Rattle.turns.specs.Runs.{Call, admit, dismiss, dismiss_all, serve, after_call, after_calls, slot_of, with_slot, slots, StaysAdmitted, TurnOrAdmission, SlacksCountSlots, EveryHeadGetsItsTurn, WishesAreGranted, TurnsKeepTheirLaw}
use Rattle.orders.proofs.Lists.{times_own, count_no}
use Rattle.orders.proofs.Counting.{counts_decide_orders_lem, turn_without, turn_others}
use Rattle.orders.proofs.Changes.{inside, turn_lowered, slack_lowered, slack_restored, limit_with, empty_each}
use Rattle.orders.proofs.Keeps.{Keeps, counts_of, slack_positive}
use Rattle.turns.proofs.Invariant.{not_in_empty, empty_keeps, without_head_keeps, with_head_keeps, served_keeps}
use Rattle.orders.proofs.Choice.{chosen_right}
use Rattle.turns.proofs.Outcomes.{admission_accepted, after_admission_lem, after_dismissal_lem}

-- ---- every call keeps what a table keeps
slot_keeps : (t : Table) (wish : ℕ) (slot : Option ℕ) → Keeps t → Chosen t wish slot → Keeps (after_slot t slot)
slot_keeps t wish None keeps none = keeps
slot_keeps t wish (Some h) keeps turn = served_keeps t h keeps ((counts_decide_orders_lem.starts t h).0 turn.starts)

call_keeps : (t : Table) (call : Call) → Keeps t → Keeps (after_call t call)
call_keeps t (admit h l) keeps =
    after_admission_lem Keeps t h keeps l (λ low out fits. with_head_keeps t h l keeps (omega (arith, keeps.1.2)) out fits)
call_keeps t (dismiss h) keeps = after_dismissal_lem Keeps t h keeps (λ in'. without_head_keeps t h keeps)
call_keeps t dismiss_all keeps = empty_keeps
call_keeps t (serve wish) keeps = slot_keeps t wish (chosen t wish) keeps (chosen_right t wish keeps)

pub calls_keep : (t : Table) (calls : List Call) → Keeps t → Keeps (after_calls t calls)
calls_keep t [] keeps = keeps
calls_keep t (call ∷ calls) keeps = calls_keep (after_call t call) calls (call_keeps t call keeps)

-- ---- while a head stays admitted and is not served, its slack falls by one with each slot
-- how many slots a call opened
abbrev opened : Option ℕ → ℕ
opened None = 0
opened (Some h) = 1

-- what a call that is no turn of head h leaves of its turn, if the head stays admitted
abbrev Falls : ℕ → Table → Option ℕ → Table → Type 0
Falls h t slot next =
    is_admitted next h ≡ true →
    (slot ≡ Some h → ⊥) →
    (slack_of next h + opened slot ≡ slack_of t h) × (limit_of next h ≡ limit_of t h)

same_turn : (h : ℕ) (t next : Table) → turn_of next h ≡ turn_of t h → (slack_of next h + 0 ≡ slack_of t h) × (limit_of next h ≡ limit_of t h)
same_turn h t next same = (omega (arith, ap slack_in same), ap limit_in same)

slot_falls : (h : ℕ) (t : Table) (slot : Option ℕ) → 1 ≤ slack_of t h → Falls h t slot (after_slot t slot)
slot_falls h t None positive in' other = same_turn h t t refl
slot_falls h t (Some g) positive in' other =
    let now = get_or-set_other (map lowered t) g h (restored (turn_of t g)) None (λ e. other (ap Some (sym e))) ∙ turn_lowered t h in
    (omega (arith, ap slack_in now, slack_lowered (turn_of t h)), ap limit_in now ∙ limit_with (λ turn. turn.slack - 1) (turn_of t h))

call_falls : (h : ℕ) (t : Table) (call : Call) → is_admitted t h ≡ true → 1 ≤ slack_of t h → Falls h t (slot_of t call) (after_call t call)
call_falls h t (admit g l) old positive =
    after_admission_lem (Falls h t None) t g (λ in' other. same_turn h t t refl) l
    (λ low out fits in' other.
    same_turn h t (with_head t g l)
    (get_or-set_other t g h (Some (record { limit = l; slack = l.value })) None
    (λ e. false≢true (sym out ∙ subst (λ n. is_admitted t n ≡ true) e old))))
call_falls h t (dismiss g) old positive =
    after_dismissal_lem (Falls h t None) t g (λ in' other. same_turn h t t refl)
    (λ gone in' other.
    same_turn h t (without_head t g)
    (turn_others t g h
    (λ e. false≢true (sym (ap is_some (turn_without t g)) ∙ subst (λ n. is_admitted (without_head t g) n ≡ true) e in'))))
call_falls h t dismiss_all old positive = λ in' other. absurd (false≢true (sym (not_in_empty h) ∙ in'))
call_falls h t (serve wish) old positive = slot_falls h t (chosen t wish) positive

admitted_now : (h : ℕ) (t : Table) (calls : List Call) → StaysAdmitted h t calls → is_admitted t h ≡ true
admitted_now h t [] stay = stay
admitted_now h t (call ∷ calls) stay = stay.0

length_with : (slot : Option ℕ) (later : List ℕ) → length (with_slot slot later) ≡ opened slot + length later
length_with None later = omega arith
length_with (Some h) later = omega arith

times_with : (h : ℕ) (slot : Option ℕ) (later : List ℕ) → times h (with_slot slot later) ≡ 0 → (slot ≡ Some h → ⊥) × (times h later ≡ 0)
times_with h None later none = (λ e. absurd (false≢true (ap is_some e)), none)
times_with h (Some g) later none =
    ⊎_elim
    (λ e. absurd (omega (arith, subst (λ n. times h (n ∷ later) ≡ 0) (sym e) none, times_own h later)))
    (λ ne. (λ e. ne (some_same e), sym (count_no (eqb h) g later (ne_eqb h g ne)) ∙ none))
    (cases_eq h g)
  where
    some_same : Some g ≡ Some h → h ≡ g
    some_same e = cc

unserved_falls : (h : ℕ) (t : Table) (calls : List Call) → Keeps t → StaysAdmitted h t calls → times h (slots t calls) ≡ 0 → (slack_of (after_calls t calls) h + length (slots t calls) ≡ slack_of t h) × (limit_of (after_calls t calls) h ≡ limit_of t h)
unserved_falls h t [] keeps stay none = same_turn h t t refl
unserved_falls h t (call ∷ calls) keeps stay none =
    let next = after_call t call in
    let later = slots next calls in
    let parts = times_with h (slot_of t call) later none in
    let rest = unserved_falls h next calls (call_keeps t call keeps) stay.1 parts.1 in
    let first =
    call_falls h t call stay.0 (slack_positive t h (counts_of t keeps.0) stay.0)
    (admitted_now h next calls stay.1) parts.0 in
    (omega (arith, rest.0, first.0, length_with (slot_of t call) later), rest.1 ∙ first.1)

-- ---- the slacks
turn_in_full : (h : ℕ) (t : Table) (call : Call) → Keeps t → TurnOrAdmission h t call → slack_of (after_call t call) h ≡ limit_of (after_call t call) h
turn_in_full h t (admit g l) keeps (same, accepted) =
    let new : Option Turn = Some (record { limit = l; slack = l.value }) in
    let lt : h < length t = omega (arith, keeps.1.2, admission_accepted t g l accepted) in
    let now : turn_of (after_call t (admit g l)) h ≡ new =
    ap (λ r. turn_of (if_accepted r (with_head t g l) t) h) accepted
    ∙ ap (λ n. turn_of (with_head t n l) h) same
    ∙ get_or-set_same t h new None lt in
    ap slack_in now ∙ sym (ap limit_in now)
turn_in_full h t (dismiss g) keeps never = absurd never
turn_in_full h t dismiss_all keeps never = absurd never
turn_in_full h t (serve wish) keeps is =
    let turn = subst (Chosen t wish) is (chosen_right t wish keeps) in
    let lt = inside t h ((counts_decide_orders_lem.starts t h).0 turn.starts).0 in
    let now : turn_of (after_call t (serve wish)) h ≡ restored (turn_of t h) =
    ap (λ slot. turn_of (after_slot t slot) h) is
    ∙ get_or-set_same (map lowered t) h (restored (turn_of t h)) None (omega (arith, length-map t lowered)) in
    ap slack_in now ∙ slack_restored (turn_of t h) ∙ sym (limit_with (λ turn. turn.limit.value) (turn_of t h)) ∙ sym (ap limit_in now)

slacks_count_slots : (t : Table) → Keeps t → SlacksCountSlots t
slacks_count_slots t keeps last since h turn stay none =
    let next = after_call t last in
    let falls = unserved_falls h next since (call_keeps t last keeps) stay none in
    omega (arith, falls.0, falls.1, turn_in_full h t last keeps turn)

-- ---- the rounds
admitted_last : (h : ℕ) (t : Table) (calls : List Call) → StaysAdmitted h t calls → is_admitted (after_calls t calls) h ≡ true
admitted_last h t [] stay = stay
admitted_last h t (call ∷ calls) stay = admitted_last h (after_call t call) calls stay.1

every_head_gets_its_turn : (t : Table) → Keeps t → EveryHeadGetsItsTurn t
every_head_gets_its_turn t keeps calls h stay enough =
    let end = after_calls t calls in
    ⊎_elim
    (λ lt.
    absurd
    (omega (
      arith,
      keeps.1.1 h,
      (unserved_falls h t calls keeps stay (omega arith)).0,
      slack_positive end h (counts_of end (calls_keep t calls keeps).0) (admitted_last h t calls stay),
    )))
    (λ ge. ge)
    (cases_lt (times h (slots t calls)) 1)

-- ---- wishes
wishes_are_granted : (t : Table) → Keeps t → WishesAreGranted t
wishes_are_granted t keeps =
    let both : (wish : ℕ) → (chosen t wish ≡ Some wish → SomeOrderFrom t wish) × (SomeOrderFrom t wish → chosen t wish ≡ Some wish) =
    λ wish. grant wish (chosen t wish) (chosen_right t wish keeps) in
    record {
      granted = both;
      passed_over = λ wish. (λ over starts. over ((both wish).1 starts), λ never is. never ((both wish).0 is));
    }
  where
    grant : (wish : ℕ) (slot : Option ℕ) → Chosen t wish slot → (slot ≡ Some wish → SomeOrderFrom t wish) × (SomeOrderFrom t wish → slot ≡ Some wish)
    grant wish None none = (
      λ e. absurd (false≢true (ap is_some e)),
      λ starts. absurd (false≢true (sym (empty_each t none wish) ∙ ((counts_decide_orders_lem.starts t wish).0 starts).0)),
    )
    grant wish (Some h) turn = (
      λ e. let same : h ≡ wish = cc in subst (SomeOrderFrom t) same turn.starts,
      λ starts. ap Some (turn.granted starts),
    )

pub turns_keep_their_law_lem : TurnsKeepTheirLaw
turns_keep_their_law_lem = record {
  slacks = λ before. slacks_count_slots (after_calls empty_table before) (calls_keep empty_table before empty_keeps);
  rounds = λ before. every_head_gets_its_turn (after_calls empty_table before) (calls_keep empty_table before empty_keeps);
  wishes = λ before. wishes_are_granted (after_calls empty_table before) (calls_keep empty_table before empty_keeps);
}
