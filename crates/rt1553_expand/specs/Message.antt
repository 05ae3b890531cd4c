-- Messages: what is written behind the letter of a bus and its space.
use Rattle.std.specs.Prelude.{ℕ, ◌==◌, ◌&&◌, ◌||◌, if◌then◌else◌, List, [], ◌∷◌, ◌++◌, Option, Some, None, is_some, Result, Ok, Err, codes, map, replicate}
use Rattle.std.specs.Char.{to_ascii_lowercase}
use Rattle.bus_word.specs.Command.{is_receive, count_of, expected}
use Rattle.line_format.specs.Front.{after}
use Rattle.line_format.specs.Shapes.{word}
use Rattle.line_format.specs.Reading.{fields_at}
use Rattle.script_lines.specs.Digits.{decimal_digits}
use Rattle.rt1553_tool.specs.declared.fields.CommandFields.{CommandFields}
use Rattle.rt1553_tool.specs.declared.fields.WordFields.{WordFields}
use Rattle.rt1553_tool.specs.declared.fields.WordFields.TheVariants as fields
use Rattle.rt1553_tool.specs.declared.word_lines.WordLineFault.{WordLineFault}
use Rattle.rt1553_tool.specs.declared.word_lines.WordLineFault.TheVariants as line
use Rattle.rt1553_tool.specs.Fields.{bits_with}
use Rattle.rt1553_tool.specs.WordLines.{SaidWord, word_line}
use Rattle.rt1553_expand.specs.declared.fault.ExpandFault.{ExpandFault}
use Rattle.rt1553_expand.specs.declared.fault.ExpandFault.TheVariants.{Comment, Word, ByDigits, NotReceive, Sender, Colon, SenderWords, DataWord, Much}
use Rattle.rt1553_expand.specs.declared.script_for.ScriptFor.{ScriptFor}
use Rattle.rt1553_expand.specs.Own.{is_of_bus, may_lack_words}

infixl 10 ◌>>=◌
-- what follows, unless there is a fault
abbrev pub ◌>>=◌ : {A B : Type 0} → Result A ExpandFault → (A → Result B ExpandFault) → Result B ExpandFault
Err fault >>= f = Err fault
Ok x >>= f = f x

-- A text that is cut where a mark stands first: what stands before it, and what stands behind it. Without the mark it is whole.
pub record Cut : Type 0 where
  pub front : List ℕ
  pub behind : Option (List ℕ)

-- where the mark stands here, nothing stands before it; else one byte more than in the rest
abbrev pub cut_here : ℕ → Option (List ℕ) → Cut → Cut
cut_here b (Some rest) later = record { front = []; behind = Some rest }
cut_here b None later = record { front = b ∷ later.front; behind = later.behind }

-- a text, cut where the mark comes first
unfoldable pub cut : List ℕ → List ℕ → Cut
cut mark [] = record { front = []; behind = None }
cut mark (b ∷ bytes) = cut_here b (after mark (b ∷ bytes)) (cut mark bytes)

-- What a message says: the word that it begins with; in a transfer between terminals, the command to the terminal that sends;
-- and the data words.
pub record SaidMessage : Type 0 where
  pub first : WordFields
  pub sender : Option CommandFields
  pub words : List ℕ

-- why this text, with this behind its colon, says no word: without a colon, what follows `rx A S N` stands where it is missing
abbrev pub word_fault : List ℕ → Option (List ℕ) → WordLineFault → ExpandFault
word_fault text None line.Much = if is_some (after (codes "rx ") text) then Colon else Word line.Much
word_fault text colon fault = Word fault

-- a word that is said by the names of its fields
abbrev pub named_word : List ℕ → Option (List ℕ) → Result SaidWord WordLineFault → Result WordFields ExpandFault
named_word text colon (Err fault) = Err (word_fault text colon fault)
named_word text colon (Ok said) = if said.by_fields then Ok said.fields else Err ByDigits

-- the command to transmit as many words as are to be received, to the terminal and subaddress of this text
abbrev pub sender_line : CommandFields → List ℕ → List ℕ
sender_line receiver text = codes "tx " ++ (text ++ (32 ∷ decimal_digits (count_of (bits_with (fields.Command receiver)))))

-- one terminal sends, and another receives
abbrev pub not_itself : CommandFields → WordFields → Result (Option CommandFields) ExpandFault
not_itself receiver (fields.Command sender) = if (sender.address == 31) || (sender.address == receiver.address) then Err Sender else Ok (Some sender)
not_itself receiver (fields.Status f) = Err Sender
not_itself receiver (fields.Data bits) = Err Sender

-- the command to the terminal that sends: any fault in its words is the fault of the sender
abbrev pub another_terminal : CommandFields → Result SaidWord WordLineFault → Result (Option CommandFields) ExpandFault
another_terminal receiver (Err fault) = Err Sender
another_terminal receiver (Ok said) = not_itself receiver said.fields

-- behind `from` stand the terminal and the subaddress that data words come from, and before it a command to receive them
abbrev pub sender_of : WordFields → Option (List ℕ) → Result (Option CommandFields) ExpandFault
sender_of first None = Ok None
sender_of (fields.Command receiver) (Some text) =
    if is_receive (bits_with (fields.Command receiver)) then another_terminal receiver (word_line (sender_line receiver text)) else Err NotReceive
sender_of (fields.Status f) (Some text) = Err NotReceive
sender_of (fields.Data bits) (Some text) = Err NotReceive

-- how many data words a message has on the bus behind the word that it begins with, or behind the status word of the terminal that sends
abbrev pub words_wanted : WordFields → ℕ
words_wanted (fields.Command f) = expected (bits_with (fields.Command f))
words_wanted (fields.Status f) = 0
words_wanted (fields.Data bits) = 0

-- the data words, where the text ends behind the last of them
abbrev pub nothing_behind : Option (List ℕ × List ℕ) → Result (List ℕ) ExpandFault
nothing_behind None = Err DataWord
nothing_behind (Some (words, [])) = Ok words
nothing_behind (Some (words, b ∷ rest)) = Err Much

-- so many data words, each behind one space as four hexadecimal digits with small letters, and nothing else
abbrev pub data_in : ℕ → List ℕ → Result (List ℕ) ExpandFault
data_in count text = nothing_behind (fields_at (replicate count word) text)

-- why data words may not be missing: in a transfer on a bus, since the terminal that sends plays no part of its own
abbrev pub words_missing : ScriptFor → Option CommandFields → ExpandFault
words_missing own sender = if is_of_bus own && is_some sender then SenderWords else Colon

-- So many data words behind a colon, whose digits have letters of either case. Without a colon there are none: the message asks for none,
-- or it may lack them, by the terminal that sends.
abbrev pub data_behind : ScriptFor → Option CommandFields → ℕ → Option (List ℕ) → Result (List ℕ) ExpandFault
data_behind own sender count None = if (count == 0) || may_lack_words own sender then Ok [] else Err (words_missing own sender)
data_behind own sender count (Some text) = data_in count (map to_ascii_lowercase text)

-- `WORD`, `WORD: XXXX ..`, `WORD from A S: XXXX ..` and `WORD from A S`, by their parts
abbrev pub message_of : ScriptFor → List ℕ → Option (List ℕ) → Option (List ℕ) → Result SaidMessage ExpandFault
message_of own text from colon = do
  first ← named_word text colon (word_line text)
  sender ← sender_of first from
  words ← data_behind own sender (words_wanted first) colon
  Ok (record { first = first; sender = sender; words = words })

-- the parts of a message: the first cut is at `from`, the second at the colon
abbrev pub message_by_cuts : ScriptFor → Cut → Cut → Result SaidMessage ExpandFault
message_by_cuts own head whole = message_of own head.front head.behind whole.behind

-- what a message says in a script for these terminals, of which this stands behind the bus
abbrev pub message_in : ScriptFor → List ℕ → Result SaidMessage ExpandFault
message_in own text =
    if is_some (cut (codes "#") text).behind then Err Comment
    else message_by_cuts own (cut (codes " from ") (cut (codes ":") text).front) (cut (codes ":") text)
