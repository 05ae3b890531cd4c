-- What stands before the digits of a word.
use Rattle.std.specs.Prelude.{ℕ, ◌≡◌, ◌<◌, ◌++◌, List, [], ◌∷◌, length, get_or}
use Rattle.bus_word.specs.declared.word.Bus.{Bus}
use Rattle.bus_word.specs.declared.word.Kind.{Kind}
use Rattle.script_lines.specs.Transcript.{bus_letter}
use Rattle.script_lines.specs.EventLine.{kind_text}

-- a line as long as that of a word stands first, with its line feed, and begins as that of a word of this kind on this bus
pub record LeadsWord (bytes : List ℕ) (bus : Bus) (kind : Kind) : Type 0 where
  pub within : 8 < length bytes
  pub line_feed : get_or bytes 8 0 ≡ 10
  pub lead : get_or bytes 0 0 ∷ get_or bytes 1 0 ∷ get_or bytes 2 0 ∷ get_or bytes 3 0 ∷ [] ≡ bus_letter bus ++ kind_text kind
