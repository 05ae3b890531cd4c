-- The messages that the events of a script are: the reverse of `expand`.
use Rattle.std.specs.Prelude.{ℕ, ◌≡◌, ◌≢◌, ◌≤◌, true, false, List, [], ◌∷◌, ◌++◌, length, codes, replicate, is_ok, is_some, Option, Some, None, IfSome, Ok, All, ◌<◌, ◌^◌}
use Rattle.std.specs.List.{flat_map}
use Rattle.bus_word.specs.declared.word.Bus.{Bus}
use Rattle.bus_word.specs.Command.{AreOfTheirWidth, command_bits, is_receive}
use Rattle.terminal_rules.specs.declared.event.Event.{Event}
use Rattle.script_lines.specs.Digits.{digits_of}
use Rattle.script_lines.specs.Line.{meaning}
use Rattle.script_lines.specs.Text.{lines_of}
use Rattle.script_lines.specs.Transcript.{bus_letter}
use Rattle.script_lines.specs.EventLine.{event_text}
use Rattle.bus_script.specs.Reading.{Reading}
use Rattle.rt1553_tool.specs.declared.fields.CommandFields.{CommandFields}
use Rattle.rt1553_tool.specs.declared.fields.WordFields.TheVariants as fields
use Rattle.rt1553_tool.specs.Fields.{in_word}
use Rattle.rt1553_tool.specs.WordTexts.{address_text, short_decimal, command_text}
use Rattle.rt1553_expand.specs.declared.script_for.ScriptFor.{ScriptFor}
use Rattle.rt1553_expand.specs.Own.{is_own}
use Rattle.rt1553_expand.specs.Message.{SaidMessage, words_wanted, message_in}
use Rattle.rt1553_expand.specs.Events.{message_events}
use Rattle.rt1553_expand.specs.Expansion.{all_events, refusals_in}

-- a message that begins with a command
pub record CommandMessage : Type 0 where
  pub command : CommandFields
  pub sender : Option CommandFields
  pub words : List ℕ

-- the same as messages are read
abbrev pub said : CommandMessage → SaidMessage
said m = record { first = fields.Command m.command; sender = m.sender; words = m.words }

-- in a transfer, ` from A S`
abbrev pub from_text : Option CommandFields → List ℕ
from_text None = []
from_text (Some f) = codes " from " ++ (address_text f.address ++ (codes " " ++ short_decimal f.subaddress))

-- a data word behind a space
abbrev pub spaced_word : ℕ → List ℕ
spaced_word word = codes " " ++ digits_of word

-- data words behind a colon; nothing, where there is none
abbrev pub data_words_text : List ℕ → List ℕ
data_words_text [] = []
data_words_text (word ∷ words) = codes ":" ++ flat_map spaced_word (word ∷ words)

-- the text of a message, which stands behind the letter of a bus and a space
abbrev pub message_text : CommandMessage → List ℕ
message_text m = command_text m.command ++ (from_text m.sender ++ data_words_text m.words)

-- the line of a message
abbrev pub listed_line : Bus → CommandMessage → List ℕ
listed_line bus m = bus_letter bus ++ (codes " " ++ message_text m)

-- the terminal that sends in a transfer, by the command to it: another one than receives, which sends as many data words as the command
-- `receiver` asks to be received
pub record IsSender (receiver f : CommandFields) : Type 0 where
  pub address : f.address ≤ 30
  pub other : f.address ≢ receiver.address
  pub transmit : f.transmit ≡ true
  pub least : 1 ≤ f.subaddress
  pub most : f.subaddress ≤ 30
  pub low : f.low ≡ receiver.low
  pub receives : is_receive (command_bits (in_word receiver)) ≡ true

-- a message that begins with any command, with its data words, and in a transfer with a sender
pub record IsMessage (m : CommandMessage) : Type 0 where
  pub command : AreOfTheirWidth (in_word m.command)
  pub sender : IfSome m.sender (IsSender m.command)
  pub count : length m.words ≡ words_wanted (fields.Command m.command)
  pub words : All (λ word. word < 2 ^ 16) m.words

-- The line of a message says this message: it is short enough for one, no line of a script, and its text is read as the message, whatever
-- terminals the script is for.
pub record IsSaid (bus : Bus) (m : CommandMessage) : Type 0 where
  pub short : length (listed_line bus m) ≤ 256
  pub other : is_ok (meaning (listed_line bus m)) ≡ false
  pub read : (own : ScriptFor) → message_in own (message_text m) ≡ Ok (said m)

-- each message has a line that says it
abbrev pub EachIsSaid : Type 0
EachIsSaid = (bus : Bus) (m : CommandMessage) → IsMessage m → IsSaid bus m

-- a message as it is listed: the words of an own terminal are not on the bus, and are written as 0000
pub record IsListed (own : ScriptFor) (m : CommandMessage) : Type 0 where
  pub message : IsMessage m
  pub zeros : is_own own m.sender ≡ true → m.words ≡ replicate (words_wanted (fields.Command m.command)) 0

-- what has a line: a message on a bus, or an event by itself
pub data Piece : Type 0 where
  Whole : Bus → CommandMessage → Piece
  Alone : Event → Piece

-- the line of a piece
abbrev pub piece_line : Piece → List ℕ
piece_line (Whole bus m) = listed_line bus m
piece_line (Alone e) = event_text e

-- the events of a piece, for these terminals
abbrev pub piece_events : ScriptFor → Piece → List Event
piece_events own (Whole bus m) = message_events own bus (said m)
piece_events own (Alone e) = e ∷ []

-- the events of pieces
abbrev pub events_in : ScriptFor → List Piece → List Event
events_in own pieces = flat_map (piece_events own) pieces

-- the lines of pieces, each with its line feed
abbrev pub lines_text : List Piece → List ℕ
lines_text pieces = flat_map (λ p. piece_line p ++ 10 ∷ []) pieces

-- the events begin with those of no message that is listed
abbrev pub NoneNext : ScriptFor → List Event → Type 0
NoneNext own es = (bus : Bus) (m : CommandMessage) (rest : List Event) → IsListed own m → es ≢ message_events own bus (said m) ++ rest

-- the piece is a message that is listed, or an event where no such message comes next, as these events follow
abbrev pub IsNext : ScriptFor → Piece → List Event → Type 0
IsNext own (Whole bus m) rest = IsListed own m
IsNext own (Alone e) rest = NoneNext own (e ∷ rest)

-- each piece is, before the events of the others and these
abbrev pub AreNext : ScriptFor → List Piece → List Event → Type 0
AreNext own [] rest = Unit {0}
AreNext own (p ∷ pieces) rest = IsNext own p (events_in own pieces ++ rest) × AreNext own pieces rest

-- A text whose lines are the messages of these events, and the events between them: no message of them is left out.
pub record IsGathered (own : ScriptFor) (es : List Event) (text : List ℕ) : Type 0 where
  pub pieces : List Piece
  pub events : events_in own pieces ≡ es
  pub next : AreNext own pieces []
  pub lines : text ≡ lines_text pieces

-- a script without a fault is gathered, and one with a fault is not
abbrev pub GathersScript : ScriptFor → Reading → Option (List ℕ) → Type 0
GathersScript own script None = is_some script.fault ≡ true
GathersScript own script (Some text) = (script.fault ≡ None) × IsGathered own script.events text

-- expanded again, a text that was gathered has no line that is refused, and gives the events of its script
abbrev pub GivesBack : ScriptFor → Reading → Option (List ℕ) → Type 0
GivesBack own script None = Unit {0}
GivesBack own script (Some text) = (refusals_in own text ≡ []) × (all_events own (lines_of text) ≡ script.events)
