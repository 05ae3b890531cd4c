-- Worked examples.
use Rattle.std.specs.Prelude.{◌≡◌, ℕ, false, Option, Some, None, List, [], ◌∷◌, map}
use Rattle.bus_word.specs.declared.word.Bus.{Bus}
use Rattle.bus_word.specs.declared.word.Bus.TheVariants.{A, B}
use Rattle.bus_word.specs.declared.cell.Cell.TheVariants.{OwnReceive, OwnTransmit}
use Rattle.bus_legal.specs.Description.{Description}
use Rattle.terminal_rules.specs.declared.event.Event.{Event}
use Rattle.terminal_rules.specs.declared.event.Event.TheVariants.{Gap, Slot}
use Rattle.terminal_rules.specs.Out.{Sending, Handing, HandsReceived}
use Rattle.terminal_rules.specs.WorkedExamples.Words.{five, five_hearing_all, command, data_word}
use Rattle.terminal_messages.specs.declared.ending.ErrorCause.TheVariants.{CommandWithin, GapWithin, NoStatus}
use Rattle.terminal_messages.specs.declared.ending.IgnoreCause.TheVariants.{Reply, NoGap}
use Rattle.terminal_messages.specs.declared.ending.Unsent.{Unsent}
use Rattle.terminal_messages.specs.declared.ending.Unsent.TheVariants.{ShutDown, Dropped}
use Rattle.terminal_messages.specs.declared.ending.MessageEnding.{MessageEnding}
use Rattle.terminal_messages.specs.declared.ending.MessageEnding.TheVariants.{Other, Open, Ignored, Superseded, InError, Done}
use Rattle.terminal_messages.specs.Message.{Message}
use Rattle.terminal_messages.specs.Parts.{command_begun, second_of}
use Rattle.terminal_messages.specs.Messages.{messages_of}
use Rattle.terminal_messages.specs.Ends.{data_words_of, sent_of, handed_of, ended_how, unsent}

-- what a row says of a message: how many events come before it, its bus, its commands, its data words, how many words the terminal
-- sends, what it hands over, how it ends, and why its reply is missing or cut
pub record Row : Type 0 where
  pub at : ℕ
  pub bus : Bus
  pub command : ℕ
  pub second : Option ℕ
  pub words : List ℕ
  pub status : List ℕ
  pub handed : List Handing
  pub ended : MessageEnding
  pub unsent : Option Unsent

abbrev pub bits_sent : List Sending → List ℕ
bits_sent ss = map (λ s. s.bits) ss

abbrev pub row_told : Description → Message → Row
row_told P m = record {
  at = m.first.index;
  bus = m.bus;
  command = command_begun m;
  second = second_of m;
  words = data_words_of m;
  status = bits_sent (sent_of m);
  handed = handed_of m;
  ended = ended_how P m;
  unsent = unsent m;
}

-- a row of a message of one command on bus A
abbrev pub row_on_a : ℕ → ℕ → List ℕ → List ℕ → List Handing → MessageEnding → Row
row_on_a at c words sent handed end = record {
  at = at;
  bus = A;
  command = c;
  second = None;
  words = words;
  status = sent;
  handed = handed;
  ended = end;
  unsent = None;
}

-- the messages of events from power-up are just these
abbrev pub Messages : Description → List Event → List Row → Type 0
Messages P es rows = map (row_told P) (messages_of P es) ≡ rows

-- whole messages, and such as go wrong on one bus
pub record WholeMessageRows : Type 0 where
  -- two words are received
  pub receive_two : Messages (five (OwnReceive 3 2 ∷ []))
      (command A 0x2862 ∷ data_word A 0x1111 ∷ data_word A 0x2222 ∷ Gap A ∷ Slot ∷ [])
      (row_on_a 0 0x2862 (0x1111 ∷ 0x2222 ∷ []) (0x2800 ∷ []) (HandsReceived false 3 (0x1111 ∷ 0x2222 ∷ []) ∷ []) Done ∷ [])
  -- words after a gap belong to the message, which had too few
  pub gap_within : Messages (five (OwnReceive 3 2 ∷ []))
      (command A 0x2862 ∷ data_word A 0x1111 ∷ Gap A ∷ data_word A 0x2222 ∷ Gap A ∷ [])
      (row_on_a 0 0x2862 (0x1111 ∷ 0x2222 ∷ []) [] [] (InError GapWithin) ∷ [])
  -- a command within a message is no message of its own
  pub command_within : Messages (five [])
      (command A 0x2c02 ∷ command A 0x2c02 ∷ Gap A ∷ [])
      (row_on_a 0 0x2c02 [] [] [] (InError CommandWithin) ∷ [])
  -- a command that comes while the terminal replies is not heard, and is told at once
  pub during_a_reply : Messages (five [])
      (command A 0x2c02 ∷ Gap A ∷ command A 0x2c02 ∷ Slot ∷ [])
      (row_on_a 2 0x2c02 [] [] [] (Ignored Reply) ∷ row_on_a 0 0x2c02 [] (0x2800 ∷ []) [] Done ∷ [])

-- transfers between two terminals are one message, with the status words of both
pub record WholeTransferRows : Type 0 where
  -- to this terminal
  pub to_this : Messages (five (OwnReceive 3 1 ∷ []))
      (command A 0x2861 ∷ command A 0x3c81 ∷ Gap A ∷ Slot ∷ command A 0x3800 ∷ data_word A 7 ∷ Gap A ∷ Slot ∷ [])
      (record (row_on_a 0 0x2861 (7 ∷ []) (0x2800 ∷ []) (HandsReceived false 3 (7 ∷ []) ∷ []) Done) { second = Some 0x3c81 } ∷ [])
  -- from this terminal: the message begins with the other one's command
  pub from_this : Messages (five (OwnTransmit 4 1 ∷ []))
      (command A 0x3861 ∷ command A 0x2c81 ∷ Gap A ∷ Slot ∷ Slot ∷ command A 0x3800 ∷ Gap A ∷ [])
      (record (row_on_a 0 0x3861 (0 ∷ []) (0x2800 ∷ 0 ∷ []) [] Done) { second = Some 0x2c81 } ∷ [])
  -- from this terminal to all, which starts a message twice
  pub to_all : Messages (five_hearing_all (OwnTransmit 4 1 ∷ []))
      (command A 0xf861 ∷ command A 0x2c81 ∷ Gap A ∷ Slot ∷ Slot ∷ [])
      (record (row_on_a 0 0xf861 (0 ∷ []) (0x2800 ∷ 0 ∷ []) [] Done) { second = Some 0x2c81 } ∷ [])
  -- between others
  pub of_others : Messages (five [])
      (command A 0x3861 ∷ command A 0x3481 ∷ Gap A ∷ command A 0x3000 ∷ data_word A 7 ∷ Gap A ∷ command A 0x3800 ∷ Gap A ∷ [])
      (record (row_on_a 0 0x3861 (7 ∷ []) [] [] Other) { second = Some 0x3481 } ∷ [])
  -- a command in place of the awaited status ends it in error, and begins another message
  pub no_status : Messages (five (OwnReceive 3 1 ∷ []))
      (command A 0x2861 ∷ command A 0x3c81 ∷ Gap A ∷ command A 0x2c02 ∷ Gap A ∷ Slot ∷ [])
      (record (row_on_a 0 0x2861 [] [] [] (InError NoStatus)) { second = Some 0x3c81 } ∷ row_on_a 3 0x2c02 [] (0x2c00 ∷ []) [] Done ∷ [])

-- messages on both buses
pub record OnTwoBusesRows : Type 0 where
  -- a start on the other bus supersedes a message
  pub superseded : Messages (five (OwnReceive 3 2 ∷ []))
      (command A 0x2862 ∷ data_word A 0x1111 ∷ command B 0x2c02 ∷ data_word A 0x2222 ∷ [])
      (row_on_a 0 0x2862 (0x1111 ∷ []) [] [] Superseded ∷ record (row_on_a 2 0x2c02 [] [] [] Open) { bus = B } ∷ [])
  -- so does one that is the second command of a transfer
  pub superseded_by_second : Messages (five (OwnReceive 3 2 ∷ OwnTransmit 4 1 ∷ []))
      (command A 0x2862 ∷ data_word A 0x1111 ∷ command B 0x3861 ∷ command B 0x2c81 ∷ data_word A 0x2222 ∷ [])
      (row_on_a 0 0x2862 (0x1111 ∷ []) [] [] Superseded ∷ record (row_on_a 2 0x3861 [] [] [] Open) { bus = B; second = Some 0x2c81 } ∷ [])
  -- and it drops a reply
  pub reply_dropped : Messages (five [])
      (command A 0x2c02 ∷ Gap A ∷ command B 0x2c02 ∷ [])
      (record (row_on_a 0 0x2c02 [] [] [] Done) { unsent = Some Dropped } ∷ record (row_on_a 2 0x2c02 [] [] [] Open) { bus = B } ∷ [])
  -- a command for another terminal supersedes nothing
  pub not_superseded : Messages (five [])
      (command A 0x2c02 ∷ command B 0x3402 ∷ Gap A ∷ Slot ∷ [])
      (row_on_a 0 0x2c02 [] (0x2800 ∷ []) [] Done ∷ record (row_on_a 1 0x3402 [] [] [] Other) { bus = B } ∷ [])
  -- a command behind one that was superseded, without a gap between them, is ignored
  pub no_gap : Messages (five [])
      (command A 0x2c02 ∷ command B 0x2c02 ∷ command A 0x2c02 ∷ [])
      (row_on_a 0 0x2c02 [] [] [] Superseded ∷ record (row_on_a 1 0x2c02 [] [] [] Open) { bus = B } ∷ row_on_a 2 0x2c02 [] [] [] (Ignored NoGap) ∷ [])
  -- a reply of a terminal whose transmitter is shut down
  pub shut_down : Messages (five [])
      (command A 0x2c04 ∷ Gap A ∷ Slot ∷ command B 0x2c02 ∷ Gap B ∷ [])
      (row_on_a 0 0x2c04 [] (0x2800 ∷ []) [] Done ∷ record (row_on_a 3 0x2c02 [] [] [] Done) { bus = B; unsent = Some ShutDown } ∷ [])
