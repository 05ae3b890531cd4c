-- A message that has just started and that receives data words: they and the gap that ends it, taken at once.
use Rattle.std.specs.Prelude.{◌≡◌, ℕ, true, false, not, ◌&&◌, ◌||◌, ◌==◌, if◌then◌else◌, Option, Some, None, List, [], map, length}
use Rattle.bus_word.specs.declared.word.Bus.{Bus}
use Rattle.bus_word.specs.declared.word.Kind.TheVariants.{Dat}
use Rattle.bus_word.specs.declared.cell.Cell.{Cell}
use Rattle.bus_word.specs.declared.cell.Cell.TheVariants.{OwnReceive, BroadReceive}
use Rattle.bus_word.specs.Word.{valid_word}
use Rattle.bus_word.specs.Command.{expected}
use Rattle.bus_word.specs.Cell.{cell_of}
use Rattle.bus_legal.specs.Description.{Description}
use Rattle.terminal_rules.specs.declared.event.Event.{Event}
use Rattle.terminal_rules.specs.declared.event.Event.TheVariants.{Word, Gap}
use Rattle.terminal_rules.specs.declared.event.Flag.TheVariants.{Busy}
use Rattle.bus_terminal.specs.declared.answer.Receiving.{Receiving}
use Rattle.terminal_rules.specs.Open.{Open, Collects, open_now, is_on}
use Rattle.terminal_rules.specs.Flags.{flag_now}
use Rattle.terminal_rules.specs.Reply.{reply_now, reply_bus}
use Rattle.terminal_rules.specs.Past.{past, history_after}
use Rattle.terminal_rules.specs.Out.{HandsReceived, HandsOver, out}

-- valid data words on a bus, the first of them first
abbrev pub data_words_on : Bus → List ℕ → List Event
data_words_on b ds = map (λ d. Word b (valid_word Dat d)) ds

-- words that are legal, and not those of the wraparound subaddress, which are to be held there
abbrev pub unless_wrapped : Description → Cell → Receiving → Option Receiving
unless_wrapped P cell it = if P.legal cell && not (it.subaddress == P.wrap) then Some it else None

-- what command c is to receive, by its cell
abbrev pub receiving_by : Description → ℕ → Option Cell → Option Receiving
receiving_by P c (Some (OwnReceive s n)) = unless_wrapped P (OwnReceive s n) (record { broadcast = false; subaddress = s; count = expected c })
receiving_by P c (Some (BroadReceive s n)) = unless_wrapped P (BroadReceive s n) (record { broadcast = true; subaddress = s; count = expected c })
receiving_by P c _ = None

-- what a message is to receive whose command nothing has followed
abbrev pub receiving_in : Description → Open → Option Receiving
receiving_in P (Collects c []) = receiving_by P c (cell_of c)
receiving_in P _ = None

-- What a terminal is to receive on a bus, where it hears that bus and the busy flag is not set: by a message whose command nothing
-- has followed.
abbrev pub receiving : Description → List Event → Bus → Option Receiving
receiving P h b =
    if is_on b (reply_bus (reply_now (past P h))) || flag_now (past P h) Busy then None
    else receiving_in P (open_now P (past P h) b)

-- with so many data words behind it the gap hands them over
abbrev pub ReceivedIsHanded : Type 0
ReceivedIsHanded =
    (P : Description) (h : List Event) (b : Bus) (it : Receiving) (ds : List ℕ) → receiving P h b ≡ Some it → length ds ≡ it.count →
    out P (history_after (data_words_on b ds) h) (Gap b) ≡ HandsOver (HandsReceived it.broadcast it.subaddress ds)
