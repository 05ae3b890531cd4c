-- Answers of a size that a line can state.
use Rattle.std.specs.Prelude.{◌<◌, ◌^◌, List, [], ◌∷◌, Some, All}
use Rattle.bus_legal.specs.Description.{Description}
use Rattle.bus_terminal.specs.Answer.{words_handed, AreFew}
use Rattle.terminal_rules.specs.declared.event.Event.{Event}
use Rattle.terminal_rules.specs.Out.{Out, Silence, SendsWord, HandsOver, out}

-- words have 16 bits, and at most 32 are handed over
abbrev pub Fits : Out → Type 0
Fits Silence = Unit {0}
Fits (SendsWord sending) = sending.bits < 2 ^ 16
Fits (HandsOver handing) = AreFew (Some handing) × All (λ word. word < 2 ^ 16) (words_handed handing)

-- all answers to events, after a history
abbrev pub AllFit : Description → List Event → List Event → Type 0
AllFit P h [] = Unit {0}
AllFit P h (e ∷ es) = Fits (out P h e) × AllFit P (e ∷ h) es
