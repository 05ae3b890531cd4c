-- The acceptance test of a terminal, as a script that states its answers.
use Rattle.std.specs.Prelude.{ℕ, zero, suc, List, [], ◌∷◌, ◌++◌, codes}
use Rattle.bus_legal.specs.Description.{Description}
use Rattle.terminal_rules.specs.declared.event.Event.{Event}
use Rattle.terminal_rules.specs.Past.{history_after}
use Rattle.terminal_rules.specs.Out.{Handing, HandsReceived, HandsSynchronize, HandsSynchronizeWith, HandsSelfTest, HandsBusControl, Out, Silence, SendsWord, HandsOver, out}
use Rattle.terminal_exchanges.specs.Exchanges.{Exchange, script_of}
use Rattle.bus_complete_test.specs.CompleteTest.{tried}
use Rattle.script_lines.specs.Digits.{digits_of, decimal_digits}
use Rattle.script_lines.specs.EventLine.{event_text}
use Rattle.script_lines.specs.Transcript.{sent_text, word_field, received_by, hand_text, transcript}
use Rattle.message_names.specs.NameRow.{NameRow}
use Rattle.rt1553_acceptance.specs.Label.{label_of}
use Rattle.rt1553_acceptance.specs.Remark.{remark_of}

-- the last words of an answer: so many have room on its line, and the others go on, twelve on a line
unfoldable pub fields_stated : ℕ → List ℕ → List ℕ
fields_stated room [] = 10 ∷ []
fields_stated (suc room) (word ∷ words) = word_field word ++ fields_stated room words
fields_stated zero (word ∷ words) = 10 ∷ codes "#+ " ++ (digits_of word ++ fields_stated 11 words)

-- the line of what is handed over; seven words have room on the first
abbrev pub hand_stated : Handing → List ℕ
hand_stated (HandsReceived broadcast subaddress words) = received_by broadcast ++ (decimal_digits subaddress ++ fields_stated 7 words)
hand_stated HandsSynchronize = hand_text HandsSynchronize
hand_stated (HandsSynchronizeWith word) = hand_text (HandsSynchronizeWith word)
hand_stated HandsSelfTest = hand_text HandsSelfTest
hand_stated HandsBusControl = hand_text HandsBusControl

-- what is stated of an answer: nothing of silence
abbrev pub answer_stated : Out → List ℕ
answer_stated Silence = []
answer_stated (SendsWord sending) = codes "#> " ++ sent_text sending
answer_stated (HandsOver handing) = codes "#> " ++ hand_stated handing

-- the line of an event that follows a history, and what is stated of its answer by the terminal of P
abbrev pub event_stated : Description → List Event → Event → List ℕ
event_stated P h e = event_text e ++ 10 ∷ answer_stated (out P h e)

-- the comment that says what an exchange tries, with the name of its message, if it has one among these rows and there is room
abbrev pub comment_of : List NameRow → Description → Exchange → List ℕ
comment_of rows P x = codes "# " ++ (label_of P x.command ++ (remark_of rows (label_of P x.command) x.command ++ 10 ∷ []))

-- exchanges that follow a history, each behind its comment
unfoldable pub exchanges_stated : List NameRow → Description → List Event → List Exchange → List ℕ
exchanges_stated rows P h [] = []
exchanges_stated rows P h (x ∷ xs) =
    comment_of rows P x
    ++ (transcript (event_stated P) h (script_of (x ∷ []))
    ++ exchanges_stated rows P (history_after (script_of (x ∷ [])) h) xs)

-- the complete test of the terminal of P, from power-up, with the answers that it gives, and these names of messages
abbrev pub acceptance_text : List NameRow → Description → List ℕ
acceptance_text rows P = exchanges_stated rows P [] (tried P)
