-- What a scan over all places says of the message heard. Assumes nothing.
use Rattle.std.proofs.Common.{◌≡◌, ℕ, ◌<◌, List, length, get_or, drop, Some, None, Ok, Err, Result, sym, refl, ap, ◌∙◌, subst, ⊎_elim, arith}
use Rattle.std.proofs.lemmas.List.{drop_all}
use Rattle.std.proofs.lemmas.Bool.{cases_lt}
use Rattle.frame.specs.Frames.{Content, read_answer}
use Rattle.frame.specs.declared.fault.FrameFault.{FrameFault}
use Rattle.frame.proofs.Round.{stands_reads, exactly}
use Rattle.message.specs.Heard.{Found, Hears, EarliestSync, NoFrameAt, IsFirstHeard, frame_here, found_from, found_or, found, nothing, fault_place, fault_in, hear_answer, heard_at}
use Rattle.message.specs.declared.heard.NothingHeard.{NothingHeard}
use Rattle.message.proofs.Smallest.{smallest_at, smallest_none}

found_at : (at : ℕ) (r : Result Content FrameFault) (f : Found) → found_from at r ≡ Some f → (m : Content) × (r ≡ Ok m) × (found at m ≡ f)
found_at at (Ok m) f e = (m, refl, cc)
found_at at (Err fault) f e = let z : ◌≡◌ {A = ℕ} 0 1 = cc in absurd (omega arith)

module _ (bs : List ℕ) where
  no_frame : (at : ℕ) → frame_here at (drop at bs) ≡ None → NoFrameAt bs at
  no_frame at none m s =
      let some = ap (found_from at) (stands_reads bs at m s) in
      let z : ◌≡◌ {A = ℕ} 0 1 = cc in
      omega arith

  pub frame_first : ((i : ℕ) → get_or bs i 0 < 256) → (f : Found) → IsFirstHeard bs (Some f) → (Ok f ≡ hear_answer bs) × Hears bs (Ok f)
  frame_first fits f (at, lt, here, before) =
      let read = found_at at (read_answer bs at) f here in
      let first = smallest_at frame_here bs at f lt here before in (
        sym (ap (λ o. found_or o (nothing (fault_place bs) (fault_in (read_answer bs (fault_place bs))))) first),
        subst (λ (g : Found). Hears bs (Ok g)) read.2 ((exactly bs at fits read.0).0 read.1, refl, λ p l. no_frame p (before p l)),
      )

  module _ (none : IsFirstHeard bs None) where
    anywhere : (p : ℕ) → frame_here p (drop p bs) ≡ None
    anywhere p = ⊎_elim (λ lt. none p lt) (λ le. ap (frame_here p) (drop_all p bs le)) (cases_lt p (length bs))

    at_fault : (at : ℕ) → at ≡ fault_place bs → EarliestSync bs at → (r : Result Content FrameFault) → read_answer bs at ≡ r → (heard_at at r ≡ hear_answer bs) × Hears bs (heard_at at r)
    at_fault at place earliest (Ok m) e =
        let some = ap (found_from at) e in
        let nowhere = anywhere at in
        let z : ◌≡◌ {A = ℕ} 0 1 = cc in
        absurd (omega arith)
    at_fault at place earliest (Err fault) e =
        let first = smallest_none frame_here bs none in
        let tells = ap (λ p. nothing p (fault_in (read_answer bs p))) (sym place) ∙ ap (λ x. nothing at (fault_in x)) e in (
          sym (ap (λ o. found_or o (nothing (fault_place bs) (fault_in (read_answer bs (fault_place bs))))) first ∙ ap Err tells),
          (λ p. no_frame p (anywhere p), earliest, e),
        )

    pub frame_nowhere : (at : ℕ) (told : Result Found NothingHeard) → at ≡ fault_place bs → EarliestSync bs at → told ≡ heard_at at (read_answer bs at) → (told ≡ hear_answer bs) × Hears bs told
    frame_nowhere at told place earliest e =
        subst (λ (t : Result Found NothingHeard). (t ≡ hear_answer bs) × Hears bs t) (sym e) (at_fault at place earliest (read_answer bs at) refl)
