-- The text of a saved state, line by line.
use Rattle.std.specs.Prelude.{ℕ, zero, suc, ◌==◌, ◌&&◌, nat_eq, Option, Some, None, List, [], ◌∷◌, codes, replicate}
use Rattle.std.specs.Cmp.Lexicographic.{pointwise}
use Rattle.bus_legal.specs.Description.{Description}
use Rattle.bus_legal.specs.Parts.{Parts}
use Rattle.bus_legal.specs.Tables.{tables_say}
use Rattle.terminal_rules.specs.declared.event.Event.{Event}
use Rattle.terminal_rules.specs.History.{Replying}
use Rattle.line_format.specs.Format.{Format, done, line, Spells}
use Rattle.line_format.specs.Answers.{Trails, HasWrongLine}
use Rattle.line_format.specs.Shapes.{number_field, decimal, word, first, others, number_line, words_line}
use Rattle.bus_canon.specs.Canon.{◌>>=◌, is_written, canon}
use Rattle.bus_terminal.specs.declared.terminal.Terminal.{Terminal}
use Rattle.bus_terminal.specs.Stands.{StandsAt}
use Rattle.rt1553_live.specs.declared.bits.Bits.{Bits}
use Rattle.rt1553_live.specs.declared.message.SavedMessage.{SavedMessage}
use Rattle.rt1553_live.specs.declared.state_fault.StateFault.{StateFault}
use Rattle.rt1553_live.specs.declared.state_fault.StateFault.TheVariants as fault
use Rattle.rt1553_live.specs.Numbers.{bit_numbers, bits_from, reply_numbers, reply_from, message_numbers, message_from}
use Rattle.rt1553_live.specs.State.{State, state_of, IsMade}

-- A line with the number 1 and so many words, which mean a value. They are those that stand for it, and no others that would mean
-- the same.
unfoldable pub coded_line : {A : Type 0} → List ℕ → ℕ → (List ℕ → A) → (A → List ℕ) → Format A
coded_line name count from numbers = line (record {
  name = name;
  fields = decimal ∷ replicate count word;
  allowed = λ xs. (first xs == 1) && pointwise nat_eq (others xs) (numbers (from (others xs)));
}) (λ xs. done (from (others xs)))

-- the line of truth values
abbrev pub bits_line : Format Bits
bits_line = coded_line (codes "bits") 16 bits_from bit_numbers

-- the vector word, the BIT word and the last command
abbrev pub registers_line : Format (List ℕ)
registers_line = words_line (codes "registers") 1 3

-- the line of the reply in progress
abbrev pub reply_line : Format (Option Replying)
reply_line = coded_line (codes "reply") 5 reply_from reply_numbers

-- the line of the message in progress
abbrev pub message_line : Format (Option SavedMessage)
message_line = coded_line (codes "message") 5 message_from message_numbers

-- how many data words the message in progress collected
abbrev pub word_number : Option SavedMessage → ℕ
word_number None = 0
word_number (Some m) = m.count

-- a line for each of so many subaddresses from s on, with the 32 words that are held ready
unfoldable pub held_lines : ℕ → ℕ → Format (List (List ℕ))
held_lines s zero = done []
held_lines s (suc k) = do
  words ← words_line (codes "held") s 32
  others ← held_lines (suc s) k
  done (words ∷ others)

-- the first line: the name of the format and version 1
abbrev pub version_line : Format ℕ
version_line = number_line (codes "rt1553-state") (number_field 10 1) (λ n. n == 1)

-- the lines of a saved state, of which the last are the canonical text of its terminal
unfoldable pub saved : Format State
saved = do
  version ← version_line
  bits ← bits_line
  registers ← registers_line
  reply ← reply_line
  message ← message_line
  words ← words_line (codes "words") 1 (word_number message)
  held ← held_lines 1 30
  parts ← canon is_written
  done (record { bits = bits; registers = registers; reply = reply; message = message; words = words; held = held; parts = parts })

-- the bytes are the text of this state
abbrev pub StateText : State → List ℕ → Type 0
StateText state bytes = Spells saved state bytes

-- Whatever terminal is made of these bytes, set up as its own profile says: it stands at each history at which this one stands, so
-- that it answers each further event as this one does.
abbrev pub Resumes : Terminal Parts → List ℕ → Type 0
Resumes t bytes =
    (u : Terminal Parts) → IsMade u → StateText (state_of u) bytes → (P : Description) (h : List Event)
    → StandsAt (λ (normal : Parts). tables_say normal.tables) P h t → StandsAt (λ (normal : Parts). tables_say normal.tables) P h u

-- Why bytes are no saved state. `Line n`: the lines before line n begin one, and with line n they begin none. `Trailing`: a whole one
-- stands at the front, and a byte follows it.
abbrev pub IsNoState : List ℕ → StateFault → Type 0
IsNoState bytes (fault.Line n) = HasWrongLine saved bytes n
IsNoState bytes fault.Trailing = Trails saved bytes
