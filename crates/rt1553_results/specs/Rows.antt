-- What the acceptance test shows of a terminal, exchange by exchange.
use Rattle.std.specs.Prelude.{ℕ, Option, Some, None, List, [], ◌∷◌, ◌++◌}
use Rattle.bus_legal.specs.Description.{Description}
use Rattle.terminal_rules.specs.declared.event.Event.{Event}
use Rattle.terminal_rules.specs.Past.{history_after}
use Rattle.terminal_rules.specs.Out.{Handing, Out, SendsWord, HandsOver, outs_from}
use Rattle.terminal_exchanges.specs.Exchanges.{Exchange, script_of}
use Rattle.bus_complete_test.specs.CompleteTest.{tried}

-- What is answered to an exchange: the words that are sent in its slots, the status word first, and what is handed over at
-- its gap.
pub record Answered : Type 0 where
  pub exchange : Exchange
  pub reply : List ℕ
  pub handed : Option Handing

-- the word that an answer sends, if it sends one, and what it hands over
abbrev pub sent_word : Out → List ℕ
sent_word (SendsWord sending) = sending.bits ∷ []
sent_word _ = []

-- what an answer hands over, if it hands over something
abbrev pub handing_of : Out → Option Handing
handing_of (HandsOver handing) = Some handing
handing_of _ = None

-- the words that some answers send
unfoldable pub words_sent : List Out → List ℕ
words_sent [] = []
words_sent (o ∷ os) = sent_word o ++ words_sent os

-- the first of two that is there
abbrev pub first_handing : Option Handing → Option Handing → Option Handing
first_handing (Some handing) other = Some handing
first_handing None other = other

-- what some answers hand over: that of the first that does
unfoldable pub handed_over : List Out → Option Handing
handed_over [] = None
handed_over (o ∷ os) = first_handing (handing_of o) (handed_over os)

-- what the terminal of P answers to an exchange after a history
abbrev pub row_at : Description → List Event → Exchange → Answered
row_at P h x =
    let answers : List Out = outs_from P h (script_of (x ∷ [])) in
    record { exchange = x; reply = words_sent answers; handed = handed_over answers }

-- the history after an exchange more
abbrev pub after_exchange : Exchange → List Event → List Event
after_exchange x h = history_after (script_of (x ∷ [])) h

-- what it answers to each of some exchanges, one after the other, after a history
unfoldable pub rows_from : Description → List Event → List Exchange → List Answered
rows_from P h [] = []
rows_from P h (x ∷ xs) = row_at P h x ∷ rows_from P (after_exchange x h) xs

-- what it answers to the exchanges of its acceptance test, from power-up
abbrev pub rows_of : Description → List Answered
rows_of P = rows_from P [] (tried P)
