-- What is said by a message that was read.
use Rattle.rt1553_expand.specs.declared.message.BusMessage.{BusMessage}
use Rattle.rt1553_expand.specs.Message.{SaidMessage}

-- a message as code has it, as the definitions have it
abbrev pub said_message : BusMessage → SaidMessage
said_message m = record { first = m.first; sender = m.sender; words = m.words.items }
