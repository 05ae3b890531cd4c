-- What is seen of an event is what is told of it.
use Rattle.std.proofs.Common.{◌≡◌, suc, Bool, true, false, Option, Some, None, List, [], ◌∷◌, length, refl, ap}
use Rattle.bus_word.specs.declared.word.Bus.{Bus}
use Rattle.bus_word.specs.declared.cell.Cell.{Cell}
use Rattle.bus_legal.specs.Description.{Description}
use Rattle.terminal_rules.specs.declared.event.Event.{Event}
use Rattle.terminal_rules.specs.declared.event.Event.TheVariants.{Word, Noise, Gap, Write, Vector, Bit, Flag as FlagIs, Slot}
use Rattle.terminal_rules.specs.History.{Noted, Replying, NoTurn, is_ignored}
use Rattle.terminal_rules.specs.Open.{is_on}
use Rattle.terminal_rules.specs.Reply.{reply_now, reply_bus}
use Rattle.terminal_rules.specs.Turn.{turn_of_gap, turn_of_slot, unless_ignored_turn}
use Rattle.terminal_rules.specs.Past.{note}
use Rattle.terminal_messages.specs.Told.{event_bus}
use Rattle.terminal_messages.specs.Parts.{tell}
use Rattle.terminal_messages.specs.Watch.{is_on_that}

gap_ignored : (i a : Bool) (b : Bus) (cell : Option Cell) → i ≡ is_ignored (unless_ignored_turn i (turn_of_gap b a cell))
gap_ignored true a b cell = refl
gap_ignored false true b cell = refl
gap_ignored false false b cell = refl

plain_ignored : (i : Bool) → i ≡ is_ignored (unless_ignored_turn i NoTurn)
plain_ignored true = refl
plain_ignored false = refl

slot_ignored : (r : Option Replying) → false ≡ is_ignored (turn_of_slot r)
slot_ignored None = refl
slot_ignored (Some r) = refl

-- an event is ignored if it comes on the bus of the reply in progress
pub ignored_law : (P : Description) (h : List Noted) (e : Event) → is_on_that (event_bus e) (reply_bus (reply_now h)) ≡ is_ignored (note P h e).turn
ignored_law P h (Word b w) = plain_ignored (is_on b (reply_bus (reply_now h)))
ignored_law P h (Noise b) = plain_ignored (is_on b (reply_bus (reply_now h)))
ignored_law P h (Gap b) = gap_ignored (is_on b (reply_bus (reply_now h))) _ b _
ignored_law P h (Write q v) = refl
ignored_law P h (Vector v) = refl
ignored_law P h (Bit v) = refl
ignored_law P h (FlagIs f v) = refl
ignored_law P h Slot = slot_ignored (reply_now h)

-- each event of a history is told
pub tell_length : (P : Description) (h : List Event) → length (tell P h) ≡ length h
tell_length P [] = refl
tell_length P (e ∷ h) = ap suc (tell_length P h)
