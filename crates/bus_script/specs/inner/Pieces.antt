-- Lines that stand first in some bytes, played one after another.
use Rattle.std.specs.Prelude.{ℕ, ◌≡◌, ◌≤◌, Bool, List, [], ◌∷◌, ◌++◌, length, Option}
use Rattle.bus_word.specs.declared.cell.Cell.{Cell}
use Rattle.terminal_rules.specs.declared.event.Event.{Event}
use Rattle.bus_terminal.specs.declared.terminal.Terminal.{Terminal}
use Rattle.bus_legal.specs.Description.{Description}
use Rattle.terminal_rules.specs.Past.{history_after}
use Rattle.bus_terminal.specs.Stands.{StandsAt}
use Rattle.script_lines.specs.Transcript.{text_at, transcript}
use Rattle.bus_script.specs.declared.piece.Piece.{Piece}
use Rattle.bus_script.specs.Played.{Played, PlayedPart}
use Rattle.bus_script.specs.inner.Lines.{LinesFirst}

-- a piece stands first, of so many lines at most, and says these events
pub record IsPiece (bytes : List ℕ) (most : ℕ) (piece : Piece) (es : List Event) : Type 0 where
  pub lines : LinesFirst bytes piece.bytes piece.lines es
  pub fits : piece.lines ≤ most
  pub count : piece.events ≡ length es

-- a piece that stands first was played
abbrev pub PlaysPiece : {L W : Type 0} → (L → Cell → Bool) → (W → Option (List ℕ)) → Terminal L × W → Terminal L × W → List ℕ → ℕ → Piece → Type 0
PlaysPiece is_legal written a b bytes most piece = (es : List Event) × IsPiece bytes most piece es × Played is_legal text_at written a b es

-- of what stands first some events were played, and of the text of the next one a part was written
abbrev pub BreaksPiece : {L W : Type 0} → (L → Cell → Bool) → (W → Option (List ℕ)) → Terminal L × W → Terminal L × W → List ℕ → ℕ → Type 0
BreaksPiece is_legal written a b bytes most = (es : List Event) × (e : Event) × (piece : Piece) × IsPiece bytes most piece (es ++ e ∷ []) × PlayedPart is_legal written a b es e

-- the terminal took these events, and none of them is answered
pub record Taken {L : Type 0} (is_legal : L → Cell → Bool) (t t' : Terminal L) (es : List Event) : Type 0 where
  pub at : (P : Description) (h : List Event) → StandsAt is_legal P h t → StandsAt is_legal P (history_after es h) t'
  pub silent : (P : Description) (h : List Event) → StandsAt is_legal P h t → transcript (text_at P) h es ≡ []

-- a piece that stands first was taken, and none of its events is answered
abbrev pub TakesPiece : {L : Type 0} → (L → Cell → Bool) → Terminal L → Terminal L → List ℕ → ℕ → Piece → Type 0
TakesPiece is_legal t t' bytes most piece = (es : List Event) × IsPiece bytes most piece es × Taken is_legal t t' es
