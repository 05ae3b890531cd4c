-- An answer as a value without references.
use Rattle.std.specs.Prelude.{ℕ, ◌≤◌, Option, Some, None, List, [], ◌∷◌, length}
use Rattle.bus_terminal.specs.declared.answer.Sent.{Sent}
use Rattle.bus_terminal.specs.declared.answer.Hand.{Hand}
use Rattle.bus_terminal.specs.declared.answer.Hand.TheVariants.{Received, Synchronize, SynchronizeWith, SelfTest, BusControl}
use Rattle.bus_terminal.specs.declared.answer.Answer.{Answer}
use Rattle.bus_terminal.specs.declared.answer.Answer.TheVariants.{Silent, Sends, Hands}
use Rattle.bus_terminal.specs.declared.copied_answer.CopiedAnswer.{CopiedAnswer}
use Rattle.bus_terminal.specs.declared.copied_answer.CopiedAnswer.TheVariants as copied
use Rattle.terminal_rules.specs.Out.{Sending, Handing, HandsReceived, HandsSynchronize, HandsSynchronizeWith, HandsSelfTest, HandsBusControl, Out, Silence, SendsWord, HandsOver}

-- a word that is sent, in the words of the rules
abbrev pub shown_word : Sent → Sending
shown_word s = record { bus = s.bus; kind = s.kind; bits = s.bits }

-- what is handed over, in the words of the rules
abbrev pub shown_handing : Hand → Handing
shown_handing (Received broadcast subaddress words) = HandsReceived broadcast subaddress words.now
shown_handing Synchronize = HandsSynchronize
shown_handing (SynchronizeWith word) = HandsSynchronizeWith word
shown_handing SelfTest = HandsSelfTest
shown_handing BusControl = HandsBusControl

-- what an answer says
abbrev pub shown_answer : Answer → Out
shown_answer Silent = Silence
shown_answer (Sends sent) = SendsWord (shown_word sent)
shown_answer (Hands hand) = HandsOver (shown_handing hand)

-- what a copy of an answer says
abbrev pub shown_copy : CopiedAnswer → Out
shown_copy copied.Silent = Silence
shown_copy (copied.Sends sent) = SendsWord (shown_word sent)
shown_copy (copied.Received broadcast subaddress words) = HandsOver (HandsReceived broadcast subaddress words.items)
shown_copy copied.Synchronize = HandsOver HandsSynchronize
shown_copy (copied.SynchronizeWith word) = HandsOver (HandsSynchronizeWith word)
shown_copy copied.SelfTest = HandsOver HandsSelfTest
shown_copy copied.BusControl = HandsOver HandsBusControl

-- the data words that are handed over
abbrev pub words_handed : Handing → List ℕ
words_handed (HandsReceived broadcast subaddress words) = words
words_handed (HandsSynchronizeWith word) = word ∷ []
words_handed _ = []

-- at most 32 data words are handed over
abbrev pub AreFew : Option Handing → Type 0
AreFew None = Unit {0}
AreFew (Some handing) = length (words_handed handing) ≤ 32

-- an answer hands over at most 32 data words
abbrev pub IsSmall : Out → Type 0
IsSmall (HandsOver handing) = AreFew (Some handing)
IsSmall _ = Unit {0}
