-- Answers as plain numbers: which answer the numbers mean, if they mean one.
use Rattle.std.specs.Prelude.{◌==◌, nat_le, if◌then◌else◌, Option, Some, None, take, option_and_then}
use Rattle.bus_word.specs.declared.word.Kind.{Kind}
use Rattle.bus_word.specs.declared.word.Kind.TheVariants.{Com, Dat}
use Rattle.terminal_rules.specs.Out.{sending, HandsReceived, HandsSynchronize, HandsSynchronizeWith, HandsSelfTest, HandsBusControl, Out, Silence, SendsWord, HandsOver}
use Rattle.rt1553_live.specs.PlainEvent.{bus_of_number}
use Rattle.rt1553_live.specs.declared.answer.PlainAnswer.{PlainAnswer}

-- a word of this kind is sent
abbrev pub sends_in : Kind → PlainAnswer → Option Out
sends_in kind a = option_and_then (λ bus. Some (SendsWord (sending bus kind a.bits))) (bus_of_number a.bus)

-- words that were received are handed over
abbrev pub received_in : PlainAnswer → Option Out
received_in a =
    if nat_le a.count 32
    then Some (HandsOver (HandsReceived a.broadcast a.subaddress (take a.count a.words)))
    else None

-- the answer that is meant, or none
abbrev pub answer_in : PlainAnswer → Option Out
answer_in a =
    if a.what == 0 then Some Silence
    else if a.what == 1 then sends_in Com a
    else if a.what == 2 then sends_in Dat a
    else if a.what == 3 then received_in a
    else if a.what == 4 then Some (HandsOver HandsSynchronize)
    else if a.what == 5 then Some (HandsOver (HandsSynchronizeWith a.bits))
    else if a.what == 6 then Some (HandsOver HandsSelfTest)
    else if a.what == 7 then Some (HandsOver HandsBusControl)
    else None
