-- What a terminal answers to one exchange, after exchanges alone.
use Rattle.std.specs.Prelude.{◌≡◌, ℕ, zero, suc, ◌≤◌, true, false, if◌then◌else◌, Option, None, List, [], ◌∷◌, length}
use Rattle.bus_word.specs.declared.word.Bus.TheVariants.{A}
use Rattle.bus_word.specs.Command.{expected}
use Rattle.bus_legal.specs.Description.{Description}
use Rattle.terminal_rules.specs.declared.event.Event.{Event}
use Rattle.terminal_rules.specs.declared.event.Event.TheVariants.{Gap, Slot}
use Rattle.terminal_rules.specs.History.{Replying, Ending, Nothing}
use Rattle.terminal_rules.specs.Reply.{words_after_status, reply_after}
use Rattle.terminal_rules.specs.Starts.{is_meant}
use Rattle.terminal_rules.specs.Ends.{well}
use Rattle.terminal_rules.specs.Turn.{is_answered, done_cell}
use Rattle.terminal_rules.specs.Past.{past}
use Rattle.terminal_rules.specs.Out.{Out, Silence, hands, handing_over, sends, sending_out, outs_from}
use Rattle.terminal_exchanges.specs.Exchanges.{Exchange, command_event, data_event, exchange_then}

-- an exchange has just the data words that its command expects
abbrev pub IsWhole : Exchange → Type 0
IsWhole x = length x.words ≡ expected x.command

-- each exchange of a list has just those words
abbrev pub AreWhole : List Exchange → Type 0
AreWhole [] = Unit {0}
AreWhole (x ∷ xs) = IsWhole x × AreWhole xs

-- a history after data words, the latest event first
abbrev pub after_words : List ℕ → List Event → List Event
after_words [] h = h
after_words (d ∷ ds) h = after_words ds (data_event d ∷ h)

-- a history after the command of an exchange and its data words
abbrev pub before_its_gap : Exchange → List Event → List Event
before_its_gap x h = after_words x.words (command_event x.command ∷ h)

-- a history after slots
abbrev pub after_slots : ℕ → List Event → List Event
after_slots zero h = h
after_slots (suc n) h = after_slots n (Slot ∷ h)

-- the history of exchanges alone, the latest exchange first
abbrev pub history_of : List Exchange → List Event
history_of [] = []
history_of (x ∷ xs) = after_slots x.slots (Gap A ∷ before_its_gap x (history_of xs))

-- How the message of an exchange ends at its gap, where its command is for the terminal: well, since it has its words, and
-- not blocked, since no exchange sets the busy flag.
abbrev pub end_of : Description → Exchange → Ending
end_of P x = well P false x.command x.words

-- and where it isn't, no message ends
abbrev pub ending_of_exchange : Description → Exchange → Ending
ending_of_exchange P x = if is_meant P x.command then end_of P x else Nothing

-- how many words the reply to a message has: no exchange shuts the transmitter of bus A down
abbrev pub slots_needed : Ending → ℕ
slots_needed x = if is_answered false x then suc (words_after_status (done_cell x)) else 0

-- each exchange has at least as many slots as its reply needs
abbrev pub AreAnswered : Description → List Exchange → Type 0
AreAnswered P [] = Unit {0}
AreAnswered P (x ∷ xs) = (slots_needed (ending_of_exchange P x) ≤ x.slots) × AreAnswered P xs

-- nothing is answered at each data word
abbrev pub silent_then : List ℕ → List Out → List Out
silent_then [] os = os
silent_then (d ∷ ds) os = Silence ∷ silent_then ds os

-- nothing is answered in each slot
abbrev pub silent_slots : ℕ → List Out → List Out
silent_slots zero os = os
silent_slots (suc n) os = Silence ∷ silent_slots n os

-- the reply to a message that ended so, after k of its words
abbrev pub reply_to : Ending → ℕ → Option Replying
reply_to x k = if is_answered false x then reply_after A (done_cell x) false k else None

-- in each of n slots the next word of that reply, as it is at the history before the slot
abbrev pub reply_then : Description → Ending → ℕ → ℕ → List Event → List Out → List Out
reply_then P x k zero h os = os
reply_then P x k (suc n) h os = sending_out (sends P (past P h) (reply_to x k)) ∷ reply_then P x (suc k) n (Slot ∷ h) os

-- After exchanges alone, with all the slots that their replies need, an exchange whose command is for the terminal is
-- answered at its gap, by what its message hands over, and in its slots, by its reply, and not before.
abbrev pub MeantExchangeLaw : Type 0
MeantExchangeLaw =
    (P : Description) (xs : List Exchange) (x : Exchange) (es : List Event) → AreWhole (x ∷ xs) → AreAnswered P xs → is_meant P x.command ≡ true →
    outs_from P (history_of xs) (exchange_then x es)
    ≡ Silence ∷ silent_then x.words
    (handing_over (hands P (end_of P x))
    ∷ reply_then P (end_of P x) 0 x.slots (Gap A ∷ before_its_gap x (history_of xs)) (outs_from P (history_of (x ∷ xs)) es))

-- And one whose command is not for the terminal isn't answered at all.
abbrev pub UnmeantExchangeLaw : Type 0
UnmeantExchangeLaw =
    (P : Description) (xs : List Exchange) (x : Exchange) (es : List Event) → AreWhole (x ∷ xs) → AreAnswered P xs → is_meant P x.command ≡ false →
    outs_from P (history_of xs) (exchange_then x es)
    ≡ Silence ∷ silent_then x.words (Silence ∷ silent_slots x.slots (outs_from P (history_of (x ∷ xs)) es))
