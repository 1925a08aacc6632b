use Rattle.std.proofs.Common.{◌≡◌, ℕ, ◌<◌, [], ◌∷◌, get_or, vec_items, sym, ap, ◌∙◌, subst, rules, arith, Err}
use Rattle.hex_text.specs.declared.HexFault.TheVariants.{NotHex}
use Rattle.hex_text.specs.Spelled.{Bytes, Parsed, pair}
use Rattle.hex_text.proofs.Groups.{nothing_spelled, counted, cut_of, none_first, first_read, group_read, none_spelled, all_read, bytes_push, two_long, three_long, over}
use Rattle.hex_text.proofs.parse.Goals as goal
use Rattle.hex_text.proofs.parse.Goals.{in_default-via-then-as_rchunks-lt2, in_default-via-else-as_rchunks-lt2+else-this-lt3}

pub returns-then-is_empty : goal.returns-then-is_empty
returns-then-is_empty c = nothing_spelled c.args.line.now _ (search rules) c.new-bytes.ensures.items

pub returns-in_default : goal.returns-in_default
returns-in_default c bs fit is =
    let two = counted c.args.line.now bs (search rules) is in
    let n = c.as_rchunks.ensures.front_len in
    elim c.in_default.branch [
      | in_default-via-then-as_rchunks-lt2 w ↦ search rules
      | in_default-via-else-as_rchunks-lt2+else-this-lt3 w ↦ search rules
    ]

pub returns-in_err-first : goal.returns-in_err-first
returns-in_err-first c =
    let line = c.args.line.now in
    let first = c.as_rchunks.result.0.now in
    let n = c.as_rchunks.ensures.front_len in
    let e : c.from_residual.result ≡ Err NotHex = search rules in
    let none : (b : ℕ) → b < 256 → (get_or first 0 0 ∷ get_or first 1 0 ∷ [] ≡ pair b) → ⊥ = search rules in
    subst (Parsed line) (sym e) (none_first line (search rules) (λ b h is. none b h (ap (λ l. get_or l 0 0 ∷ get_or l 1 0 ∷ []) (c.as_rchunks.ensures.front ∙ is))))

pub loop-group-init : goal.loop-group-init
loop-group-init c =
    let line = c.args.line.now in
    let first = c.as_rchunks.result.0.now in
    let n = c.as_rchunks.ensures.front_len in
    let pushed : vec_items c.push.new.self ≡ c.in_ok-first.first ∷ [] = search rules in
    let small : c.in_ok-first.first < 256 = search rules in
    let is : get_or first 0 0 ∷ get_or first 1 0 ∷ [] ≡ pair c.in_ok-first.first = search rules in
    record {
      fit = subst Bytes (sym pushed) (bytes_push [] c.in_ok-first.first (λ k. omega arith) small);
      read = first_read (over line) c.as_rchunks.result.1.now _ c.in_ok-first.first (sym c.as_rchunks.ensures.front ∙ two_long first (omega (arith, c.in-len2-default.len_at_least, c.in-len2-default.len_below)) ∙ is) pushed;
    }

pub returns-in_default-group : goal.returns-in_default-group
returns-in_default-group c bs fit is =
    let line = c.args.line.now in
    let cut = cut_of line c.as_rchunks.result.1.now c.as_rchunks.ensures.back c.as_rchunks.ensures.back_len in
    none_spelled line c.as_rchunks.result.1.now cut (vec_items c.loop-group.bytes) c.loop-group.group-index c.loop-group.invariant.read c.loop-group-test.true (search rules) (λ b h e. let at = ap (λ l. get_or l 0 0) e in let w = c.in_default-group in search rules) bs fit is

pub returns-in_err-byte : goal.returns-in_err-byte
returns-in_err-byte c =
    let line = c.args.line.now in
    let group = get_or c.as_rchunks.result.1.now c.loop-group.group-index [] in
    let cut = cut_of line c.as_rchunks.result.1.now c.as_rchunks.ensures.back c.as_rchunks.ensures.back_len in
    let e : c.from_residual-in_err-byte.result ≡ Err NotHex = search rules in
    let none : (b : ℕ) → b < 256 → (get_or group 1 0 ∷ get_or group 2 0 ∷ [] ≡ pair b) → ⊥ = search rules in
    subst (Parsed line) (sym e)
    (none_spelled line c.as_rchunks.result.1.now cut (vec_items c.loop-group.bytes) c.loop-group.group-index c.loop-group.invariant.read c.loop-group-test.true (search rules) (λ b h e. none b h (ap (λ l. get_or l 1 0 ∷ get_or l 2 0 ∷ []) e)))

pub loop-group-preserved : goal.loop-group-preserved
loop-group-preserved c =
    let line = c.args.line.now in
    let group = get_or c.as_rchunks.result.1.now c.loop-group.group-index [] in
    let cut = cut_of line c.as_rchunks.result.1.now c.as_rchunks.ensures.back c.as_rchunks.ensures.back_len in
    let pushed = c.in_ok-push-2.ensures.items in
    let items = vec_items c.loop-group.bytes in
    let small : c.in_ok-byte.byte < 256 = search rules in
    let blank : get_or group 0 0 ≡ 32 = search rules in
    let is : get_or group 1 0 ∷ get_or group 2 0 ∷ [] ≡ pair c.in_ok-byte.byte = search rules in
    record {
      fit = subst Bytes (sym pushed) (bytes_push items c.in_ok-byte.byte c.loop-group.invariant.fit small);
      read = group_read line c.as_rchunks.result.1.now cut items c.loop-group.group-index c.loop-group.invariant.read (get_or group 1 0 ∷ get_or group 2 0 ∷ []) _ c.in_ok-byte.byte c.loop-group-test.true (three_long group (cut.three c.loop-group.group-index c.loop-group-test.true) ∙ ap (λ x. x ∷ get_or group 1 0 ∷ get_or group 2 0 ∷ []) blank) is pushed;
    }

pub returns : goal.returns
returns c =
    let line = c.args.line.now in
    let cut = cut_of line c.as_rchunks.result.1.now c.as_rchunks.ensures.back c.as_rchunks.ensures.back_len in
    (c.loop-group.invariant.fit, all_read line c.as_rchunks.result.1.now _ c.loop-group.group-index cut c.loop-group-test.false c.loop-group.invariant.read)
