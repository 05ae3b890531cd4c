-- Pieces that were written, and what is left.
use Rattle.std.specs.Prelude.{ℕ, ◌+◌, ◌≡◌, ◌<◌, ◌≤◌, Bool, true, false, List, [], ◌∷◌, ◌++◌, length, drop, is_some, Ok}
use Rattle.bus_word.specs.declared.word.Bus.{Bus}
use Rattle.terminal_rules.specs.declared.event.Event.{Event}
use Rattle.script_lines.specs.Text.{NoLineFeed}
use Rattle.bus_script.specs.Reading.{reading, adds}
use Rattle.rt1553_expand.specs.declared.script_for.ScriptFor.{ScriptFor}
use Rattle.rt1553_expand.specs.Events.{message_events}
use Rattle.rt1553_expand.specs.Expansion.{Expansion, events_given, expansion_of}
use Rattle.rt1553_expand.specs.Gathered.{CommandMessage, said, listed_line, IsListed, Piece, piece_line, piece_events, events_in, lines_text, IsNext, AreNext}

-- the line of a piece is one line, which is expanded to its events, whatever terminal the script is for
pub record Says (p : Piece) : Type 0 where
  pub feeds : NoLineFeed (piece_line p)
  pub expands : (own : ScriptFor) → (x : Expansion) × (expansion_of own (piece_line p) ≡ Ok x) × (events_given x ≡ piece_events own p)

abbrev pub AllSay : List Piece → Type 0
AllSay [] = Unit {0}
AllSay (p ∷ pieces) = Says p × AllSay pieces

-- events begin with those of a message that is listed; this is its line
pub record IsNextLine (own : ScriptFor) (es room : List Event) (line : List ℕ) : Type 0 where
  pub bus : Bus
  pub message : CommandMessage
  pub listed : IsListed own message
  pub spelled : line ≡ listed_line bus message
  pub room_is : room ≡ message_events own bus (said message)
  pub within : length room ≤ length es
  pub begins : es ≡ room ++ drop (length room) es

-- the line of the piece that comes next was written; it has so many events
pub record WroteNext (own : ScriptFor) (old new : List ℕ) (es : List Event) (taken : ℕ) : Type 0 where
  pub piece : Piece
  pub some : 0 < taken
  pub within : taken ≤ length es
  pub events : es ≡ piece_events own piece ++ drop taken es
  pub next : IsNext own piece (drop taken es)
  pub says : Says piece
  pub text : new ≡ old ++ (piece_line piece ++ 10 ∷ [])

-- the lines of pieces were written, and these events are left
pub record WroteSo (own : ScriptFor) (es rest : List Event) (written : List ℕ) : Type 0 where
  pub pieces : List Piece
  pub events : es ≡ events_in own pieces ++ rest
  pub next : AreNext own pieces rest
  pub say : AllSay pieces
  pub text : written ≡ lines_text pieces

-- what a line says after n lines was added to these events; or it is refused there
abbrev pub ReadsOn : ℕ → List Event → List Event → List ℕ → Bool → Type 0
ReadsOn n old new line true = (es : List Event) × (new ≡ old ++ es) × ((lines : List (List ℕ)) → reading n (line ∷ lines) ≡ adds es (reading (n + 1) lines))
ReadsOn n old new line false = (lines : List (List ℕ)) → is_some (reading n (line ∷ lines)).fault ≡ true
