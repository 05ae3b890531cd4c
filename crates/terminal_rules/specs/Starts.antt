-- Which words start a message (MIL-STD-1553B, 4.4.3.1, 4.4.3.2, 4.4.3.3).
use Rattle.std.specs.Prelude.{ℕ, Bool, true, false, not, ◌&&◌, ◌||◌, ◌==◌, Option, Some, None, List, []}
use Rattle.bus_word.specs.declared.word.Bus.{Bus}
use Rattle.bus_word.specs.declared.word.Raw.{Raw}
use Rattle.bus_word.specs.Word.{is_for as is_for_address}
use Rattle.bus_word.specs.Command.{address_of, transmits, is_receive, is_broadcast, is_addressed_to}
use Rattle.bus_legal.specs.Description.{Description}
use Rattle.terminal_rules.specs.declared.event.Event.{Event}
use Rattle.terminal_rules.specs.declared.event.Event.TheVariants.{Word}
use Rattle.terminal_rules.specs.LookBack.{some}
use Rattle.terminal_rules.specs.History.{Noted, run}
use Rattle.terminal_rules.specs.Open.{MessageState, Open, Idle, Collects, Waits, open_now}
use Rattle.terminal_rules.specs.Reply.{reply_now, ignores}

-- a command for the terminal: to its own address, or to all where it has the broadcast option
abbrev pub is_meant : Description → ℕ → Bool
is_meant P c = is_addressed_to P.address P.broadcast c

-- a word for the terminal: valid, of command sync, to its own address, or to all where it has the broadcast option
abbrev pub is_for_terminal : Description → Raw → Bool
is_for_terminal P w = is_for_address P.address P.broadcast w

-- the same of an entry of a run: noise is never for the terminal
abbrev pub is_word_for : Description → Option Raw → Bool
is_word_for P None = false
is_word_for P (Some w) = is_for_terminal P w

-- the run of the bus holds a word for the terminal
abbrev pub heard_now : Description → List Noted → Bus → Bool
heard_now P h b = some (λ x. is_word_for P x.word) (run h b)

-- no message is in progress, or one that waits, which any word but the awaited status ends
abbrev pub is_free : {F : Type 0} → MessageState F → Bool
is_free Idle = true
is_free (Waits c a) = true
is_free _ = false

-- a broadcast receive command to a subaddress of data that nothing has followed
abbrev pub is_fresh_broadcast : Open → Bool
is_fresh_broadcast (Collects c []) = is_receive c && is_broadcast c
is_fresh_broadcast _ = false

-- A word for the terminal starts a message in two cases. Its run holds no earlier word for the terminal, and no
-- message is in progress on its bus, or only one that waits. Or it has this terminal transmit, by its own address, right
-- after a broadcast receive command: then this terminal is the transmitter of a broadcast transfer (4.3.3.6.7.2), and no
-- receiver of it.
abbrev pub starts_message : Description → Raw → Bool → Bool → Bool → Bool
starts_message P w heard free fresh =
    is_for_terminal P w && ((not heard && free) || (fresh && (transmits w.bits && (address_of w.bits == P.address))))

-- only a word starts a message, and what is ignored starts none
abbrev pub starts_unless : Bool → Description → List Noted → Event → Bool
starts_unless ignored P h (Word b w) =
    not ignored && starts_message P w (heard_now P h b) (is_free (open_now P h b)) (is_fresh_broadcast (open_now P h b))
starts_unless ignored P h _ = false

-- an event starts a message, after a noted history
abbrev pub starts_now : Description → List Noted → Event → Bool
starts_now P h e = starts_unless (ignores (reply_now h) e) P h e
