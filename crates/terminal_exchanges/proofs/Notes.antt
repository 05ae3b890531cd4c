-- What each event of exchanges did: their history, noted.
use Rattle.std.proofs.Common.{◌≡◌, ℕ, zero, suc, false, List, [], ◌∷◌}
use Rattle.bus_word.specs.declared.word.Bus.TheVariants.{A}
use Rattle.bus_legal.specs.Description.{Description}
use Rattle.terminal_rules.specs.declared.event.Event.{Event}
use Rattle.terminal_rules.specs.declared.event.Event.TheVariants.{Gap, Slot}
use Rattle.terminal_rules.specs.History.{Noted, noted_as, NoTurn, Ending, Nothing}
use Rattle.terminal_rules.specs.Reply.{reply_now}
use Rattle.terminal_rules.specs.Starts.{is_meant}
use Rattle.terminal_rules.specs.SinceReset.{off_now}
use Rattle.terminal_rules.specs.Turn.{is_answered, done_cell, turn_of_gap, turn_of_slot}
use Rattle.terminal_rules.specs.Out.{Out, Silence, hands, handing_over, sends, sending_out, outs_from}
use Rattle.terminal_exchanges.specs.Exchanges.{Exchange, command_event, data_event, exchange_then}
use Rattle.terminal_exchanges.specs.ExchangeLaws.{AreWhole, AreAnswered, history_of, ending_of_exchange, silent_then}

-- what each event of an exchange did, where no reply was in progress before it
abbrev pub word_note : ℕ → Noted
word_note d = noted_as (data_event d) NoTurn false Nothing

abbrev pub command_note : Description → ℕ → Noted
command_note P c = noted_as (command_event c) NoTurn (is_meant P c) Nothing

abbrev pub gap_note : List Noted → Ending → Noted
gap_note h x = noted_as (Gap A) (turn_of_gap A (is_answered (off_now h A) x) (done_cell x)) false x

abbrev pub slot_note : List Noted → Noted
slot_note h = noted_as Slot (turn_of_slot (reply_now h)) false Nothing

abbrev pub word_notes : List ℕ → List Noted → List Noted
word_notes [] h = h
word_notes (d ∷ ds) h = word_notes ds (word_note d ∷ h)

abbrev pub slot_notes : ℕ → List Noted → List Noted
slot_notes zero h = h
slot_notes (suc n) h = slot_notes n (slot_note h ∷ h)

abbrev pub notes_before_gap : Description → Exchange → List Noted → List Noted
notes_before_gap P x h = word_notes x.words (command_note P x.command ∷ h)

abbrev pub notes_at_gap : Description → Exchange → List Noted → List Noted
notes_at_gap P x h =
    let k : List Noted = notes_before_gap P x h in
    gap_note k (ending_of_exchange P x) ∷ k

-- the history of exchanges, noted
abbrev pub exchange_notes : Description → List Exchange → List Noted
exchange_notes P [] = []
exchange_notes P (x ∷ xs) = slot_notes x.slots (notes_at_gap P x (exchange_notes P xs))

-- the answer at the gap of an exchange
abbrev pub gap_answer : Description → Exchange → Out
gap_answer P x = handing_over (hands P (ending_of_exchange P x))

-- the answer to a slot, after a noted history
abbrev pub slot_answer : Description → List Noted → Out
slot_answer P h = sending_out (sends P h (reply_now h))

abbrev pub slots_answered : Description → ℕ → List Noted → List Out → List Out
slots_answered P zero h os = os
slots_answered P (suc n) h os = slot_answer P h ∷ slots_answered P n (slot_note h ∷ h) os

-- The law of one exchange over these notes.
abbrev pub NotedExchangeLaw : Type 0
NotedExchangeLaw =
    (P : Description) (xs : List Exchange) (x : Exchange) (es : List Event) → AreWhole (x ∷ xs) → AreAnswered P xs →
    outs_from P (history_of xs) (exchange_then x es)
    ≡ Silence ∷ silent_then x.words (gap_answer P x ∷ slots_answered P x.slots (notes_at_gap P x (exchange_notes P xs)) (outs_from P (history_of (x ∷ xs)) es))
