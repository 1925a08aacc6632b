use Rattle.std.proofs.Common.{◌≡◌, ℕ, List, [], ◌++◌, take, sym, ap, ◌∙◌, rules, append_assoc, append-nil}
use Rattle.std.proofs.Output.{has_written_append, has_written_of_eq}
use Rattle.std.proofs.lemmas.List.{nil_from_length}
use Rattle.std.proofs.lemmas.Str.{IsUtf8-from_ascii}
use Rattle.std.specs.Slice.Iter.{chunks_rest}
use Rattle.hex_text.specs.Spelled.{blanked}
use Rattle.hex_text.proofs.Groups.{blanked_append}
use Rattle.hex_text.proofs.BlankedDisplay.fmt.Goals as goal

pub loop-part-init : goal.loop-part-init
loop-part-init g c =
    record { size = search rules; written = λ plain. ([], search rules, ap blanked (search rules)) }

pub unreachable-requires : goal.unreachable-requires
unreachable-requires g c =
    let part = c.in-Some.part.now in
    let laid = ap (λ k. take k c.lay-end.new.text) c.lay-end.ensures.size ∙ c.lay-end.ensures.laid in
    c.in_default.ensures.cases.0 (rw laid (IsUtf8-from_ascii (blanked part) c.lay-end.ensures.ascii))

pub loop-part-preserved : goal.loop-part-preserved
loop-part-preserved g c =
    let part = c.in-Some.part.now in
    let steps = c.in-Some.ensures.steps in
    let size = c.loop-part.invariant.size in
    let shown : c.in-Ok.laid.now ≡ blanked part = c.in-Ok.ensures.cases.0 ∙ ap (λ k. take k c.lay-end.new.text) c.lay-end.ensures.size ∙ c.lay-end.ensures.laid in
    record {
      size = steps.0 ∙ size;
      written = λ plain.
          let so_far = c.loop-part.invariant.written plain in (
            so_far.0 ++ c.in-Ok.laid.now,
            has_written_append _ _ _ _ _ _ so_far.1 (search rules),
            append_assoc so_far.0 _ _
                ∙ ap (λ (t : List ℕ). so_far.0 ++ t)
                (ap (λ (t : List ℕ). t ++ blanked (chunks_rest c.next.new.self)) shown ∙ sym (blanked_append part (chunks_rest c.next.new.self)) ∙ ap blanked (sym steps.1.0))
                ∙ so_far.2,
          );
    }

pub returns-clause-writes : goal.returns-clause-writes
unfolding blanked
returns-clause-writes g c = λ plain _.
    let so_far = c.loop-part.invariant.written plain in
    let none = nil_from_length _ c.in-None.ensures.steps.1.0 in
    has_written_of_eq _ _ _ _ _ (rw (none, append-nil) at so_far.2) so_far.1
