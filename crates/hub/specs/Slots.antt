-- Opening a slot.
--
--   poll_message              what the hub asks a head: 11H, without data
--   opening_answer s w room   what opening with the wish w and a buffer of this length answers: 11, 17, 7, else the head served
--                             and its pass
--   after_opening s w r       the hub after an opening with the wish w that answered r
--   poll_written r buffer     the buffer after it: the poll's frame starts it, and the rest stays
--
-- Assumes nothing.
use Rattle.std.specs.Prelude.{ℕ, cond, List, [], Some, None, Ok, Err, Option, Result, nat_lt}
use Rattle.frame.specs.Frames.{Content, content, buffer_after}
use Rattle.orders.specs.Choice.{chosen}
use Rattle.orders.specs.Slots.{after_serving}
use Rattle.orders.specs.Tables.{is_empty}
use Rattle.hub.specs.Passes.{pass_of}
use Rattle.hub.specs.States.{HubState, is_open, next_count}
use Rattle.hub.specs.declared.pass.Opening.{Opening}
use Rattle.hub.specs.declared.refusal.OpeningRefusal.{OpeningRefusal}
use Rattle.hub.specs.declared.refusal.OpeningRefusal.TheVariants as opening
use Rattle.hub.specs.declared.state.Slot.TheVariants.{First}

abbrev pub poll_message : Content
poll_message = content 0x11 []

-- a slot for the head chosen
abbrev pub opened_for : HubState → Option ℕ → Result Opening OpeningRefusal
opened_for s (Some h) = Ok (record { head = h; pass = pass_of (next_count s) })
opened_for s None = Err opening.NoHead

abbrev pub opening_answer : HubState → ℕ → ℕ → Result Opening OpeningRefusal
opening_answer s wish room =
    cond (is_open s.slot) (Err opening.SlotOpen)
    (cond (is_empty s.table) (Err opening.NoHead)
    (cond (nat_lt room 5) (Err opening.BufferTooShort)
    (opened_for s (chosen s.table wish))))

abbrev pub after_opening : HubState → ℕ → Result Opening OpeningRefusal → HubState
after_opening s wish (Ok o) = record {
  table = after_serving s.table wish;
  setups = s.setups;
  slot = First o.head;
  count = next_count s;
}
after_opening s wish (Err e) = s

abbrev pub poll_written : Result Opening OpeningRefusal → List ℕ → List ℕ
poll_written (Ok o) was = buffer_after poll_message was (Ok 5)
poll_written (Err e) was = was
