-- Lines of words, however their digits are written.
use Rattle.std.specs.Prelude.{ℕ, ◌&&◌, ◌==◌, if◌then◌else◌, List, [], ◌∷◌, Option, Some, None, drop}
use Rattle.bus_word.specs.declared.word.Bus.{Bus}
use Rattle.bus_word.specs.declared.word.Kind.{Kind}
use Rattle.bus_word.specs.declared.word.Kind.TheVariants.{Com, Dat}
use Rattle.terminal_rules.specs.Out.{Sending, sending}
use Rattle.line_format.specs.Front.{◌>>=◌}
use Rattle.script_lines.specs.Digits.{word_of}
use Rattle.script_lines.specs.Line.{bus_first}

-- 's' is a status word, 'd' a data word
abbrev pub kind_of_letter : ℕ → Option Kind
kind_of_letter b = if b == 115 then Some Com else if b == 100 then Some Dat else None

-- `K XXXX` and a line feed: the kind and four digits
abbrev pub word_behind : Bus → List ℕ → Option Sending
word_behind bus (k ∷ s ∷ a ∷ b ∷ c ∷ d ∷ f ∷ []) = if (s == 32) && (f == 10)
    then (do
      kind ← kind_of_letter k
      bits ← word_of (a ∷ b ∷ c ∷ d ∷ [])
      Some (sending bus kind bits))
    else None
word_behind bus _ = None

-- the word of a line
abbrev pub any_digits : List ℕ → Option Sending
any_digits line = do
  bus ← bus_first line
  word_behind bus (drop 2 line)
