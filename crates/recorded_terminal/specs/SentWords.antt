-- A word that is sent, as the definitions have it.
use Rattle.std.specs.Prelude.{ℕ, Option, Some, None}
use Rattle.bus_terminal.specs.declared.answer.Sent.{Sent}
use Rattle.bus_terminal.specs.Answer.{shown_word}
use Rattle.terminal_rules.specs.Out.{Sending}
use Rattle.terminal_recordings.specs.Completion.{status_sent, data_sent}

-- a word that is sent, if one is
abbrev pub word_shown : Option Sent → Option Sending
word_shown None = None
word_shown (Some s) = Some (shown_word s)

-- its bits, where it is a status word
abbrev pub shown_status : Option Sent → Option ℕ
shown_status sent = status_sent (word_shown sent)

-- its bits, where it is a data word
abbrev pub shown_data : Option Sent → Option ℕ
shown_data sent = data_sent (word_shown sent)
