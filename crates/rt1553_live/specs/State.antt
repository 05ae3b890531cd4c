-- The state of a terminal: all that decides its further answers.
use Rattle.std.specs.Prelude.{◌≡◌, ℕ, zero, suc, if◌then◌else◌, Option, Some, None, List, [], ◌∷◌, length}
use Rattle.bus_legal.specs.Parts.{Parts, description_in}
use Rattle.bus_legal.specs.Tables.{tables_say}
use Rattle.terminal_rules.specs.History.{Replying}
use Rattle.terminal_state.specs.declared.message.Message.{Message}
use Rattle.terminal_state.specs.declared.held.HeldWords.{HeldWords}
use Rattle.terminal_state.specs.Held.{block_in}
use Rattle.terminal_state.specs.Replies.{shown_reply}
use Rattle.bus_terminal.specs.declared.terminal.Terminal.{Terminal}
use Rattle.bus_terminal.specs.Stands.{own_description}
use Rattle.rt1553_live.specs.declared.bits.Bits.{Bits}
use Rattle.rt1553_live.specs.declared.message.SavedMessage.{SavedMessage}
use Rattle.rt1553_live.specs.Numbers.{has_words}

-- the state of a terminal, as its text has it
pub record State : Type 0 where
  pub bits : Bits
  -- the vector word, the BIT word and the last command
  pub registers : List ℕ
  pub reply : Option Replying
  pub message : Option SavedMessage
  -- the data words that the message in progress collected
  pub words : List ℕ
  -- the words held ready, by subaddress from 1
  pub held : List (List ℕ)
  -- what can be reached of its profile
  pub parts : Parts

-- what a text has of the message in progress, whose buffer holds these words
abbrev pub saved_message : Option Message → List ℕ → Option SavedMessage
saved_message None ds = None
saved_message (Some m) ds = Some (record { bus = m.bus; command = m.decoded.command; phase = m.phase; count = if has_words m.phase then length ds else 0 })

-- the data words that a text has of it
abbrev pub saved_words : Option Message → List ℕ → List ℕ
saved_words None ds = []
saved_words (Some m) ds = if has_words m.phase then ds else []

-- the words held ready at so many subaddresses from s on
abbrev pub held_from : HeldWords → ℕ → ℕ → List (List ℕ)
held_from held s zero = []
held_from held s (suc k) = block_in held s ∷ held_from held (suc s) k

-- the truth values that a terminal keeps
abbrev pub kept_bits : {L : Type 0} → Terminal L → Bits
kept_bits t = record { heard = t.heard; flags = t.registers.flags; inhibited = t.registers.inhibited; off = t.registers.off; status = t.registers.kept }

-- the state of a terminal
abbrev pub state_of : Terminal Parts → State
state_of t = record {
  bits = kept_bits t;
  registers = t.registers.vector ∷ t.registers.bit ∷ t.registers.last ∷ [];
  reply = shown_reply t.reply;
  message = saved_message t.in_progress.message t.in_progress.words.items;
  words = saved_words t.in_progress.message t.in_progress.words.items;
  held = held_from t.held 1 30;
  parts = t.legality;
}

-- the set-up of a terminal is that of its own profile
abbrev pub IsMade : Terminal Parts → Type 0
IsMade t = own_description (λ (normal : Parts). tables_say normal.tables) t ≡ description_in t.legality
