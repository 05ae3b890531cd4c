-- Parts of an answer as values without references, where there is one.
use Rattle.std.specs.Prelude.{Option, Some, None}
use Rattle.bus_terminal.specs.declared.answer.Sent.{Sent}
use Rattle.bus_terminal.specs.declared.answer.Hand.{Hand}
use Rattle.terminal_rules.specs.Out.{Sending, Handing}
use Rattle.bus_terminal.specs.Answer.{shown_word, shown_handing}

-- a word that is sent, or none
abbrev pub shown_sent : Option Sent → Option Sending
shown_sent None = None
shown_sent (Some s) = Some (shown_word s)

-- what is handed over, or nothing
abbrev pub shown_hand : Option Hand → Option Handing
shown_hand None = None
shown_hand (Some hand) = Some (shown_handing hand)
