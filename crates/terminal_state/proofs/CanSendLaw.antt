-- The next word of a reply in progress is there.
use Rattle.std.proofs.Common.{◌≡◌, ℕ, ◌≤◌, Bool, true, false, ◌||◌, ◌==◌, Option, Some, None, refl, arith}
use Rattle.std.proofs.lemmas.Bool.Decides.{nat_tests}
use Rattle.bus_word.specs.declared.cell.Cell.{Cell}
use Rattle.bus_word.specs.declared.cell.Cell.TheVariants.{OwnReceive, OwnTransmit, BroadReceive, OwnMode, BroadMode}
use Rattle.bus_word.specs.Cell.{is_data_place}
use Rattle.terminal_rules.proofs.CellLaw.{none_or_allowed}
use Rattle.terminal_state.specs.declared.reply.Reply.{Reply}
use Rattle.terminal_state.specs.Places.{has_place, can_reply}
use Rattle.terminal_state.specs.Replies.{shown_reply, can_send}

-- the last word that goes with the cell of a command is there
pub last_place : (cell : Option Cell) → none_or_allowed cell ≡ true → can_reply cell ≡ true
last_place None e = refl
last_place (Some (OwnReceive s n)) e = refl
last_place (Some (OwnTransmit s n)) e = e
last_place (Some (BroadReceive s n)) e = refl
last_place (Some (OwnMode code)) e = refl
last_place (Some (BroadMode code)) e = refl

or_true : (b : Bool) → b || true ≡ true
or_true true = refl
or_true false = refl

place_before : (s n m : ℕ) → is_data_place s n ≡ true → m ≤ n → (m == 0) || is_data_place s m ≡ true
place_before s n m e f = grind (arith, nat_tests)

can_at : (cell : Option Cell) (m n : ℕ) → has_place cell n ≡ true → m ≤ n → (m == 0) || has_place cell m ≡ true
can_at None m n e f = or_true (m == 0)
can_at (Some (OwnReceive s k)) m n e f = or_true (m == 0)
can_at (Some (OwnTransmit s k)) m n e f = place_before s n m e f
can_at (Some (BroadReceive s k)) m n e f = or_true (m == 0)
can_at (Some (OwnMode code)) m n e f = or_true (m == 0)
can_at (Some (BroadMode code)) m n e f = or_true (m == 0)

-- the word that a reply sends next is there
pub can_send_law : (r : Option Reply) → can_send (shown_reply r) ≡ true
can_send_law None = refl
can_send_law (Some r) = can_at r.cell r.next r.count r.there r.within
