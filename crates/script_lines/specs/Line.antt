-- What a line of a script means.
use Rattle.std.specs.Prelude.{ℕ, Bool, true, false, ◌&&◌, ◌==◌, if◌then◌else◌, List, [], ◌∷◌, Option, Some, None, Result, Ok, Err, codes, drop}
use Rattle.std.specs.Str.{bytes_eq}
use Rattle.bus_word.specs.declared.word.Bus.{Bus}
use Rattle.bus_word.specs.declared.word.Bus.TheVariants.{A, B}
use Rattle.bus_word.specs.declared.word.Kind.{Kind}
use Rattle.bus_word.specs.declared.word.Kind.TheVariants.{Com, Dat}
use Rattle.bus_word.specs.Word.{valid_word}
use Rattle.bus_word.specs.Cell.{is_data_place}
use Rattle.terminal_rules.specs.Place.{Place}
use Rattle.terminal_rules.specs.declared.event.Flag.{Flag}
use Rattle.terminal_rules.specs.declared.event.Flag.TheVariants as flag
use Rattle.terminal_rules.specs.declared.event.Event.{Event}
use Rattle.terminal_rules.specs.declared.event.Event.TheVariants as event
use Rattle.line_format.specs.Front.{◌>>=◌, after}
use Rattle.script_lines.specs.declared.line.LineFault.{LineFault}
use Rattle.script_lines.specs.Digits.{word_of, number_of}

-- what is said of the rest, if there is one; else the other
abbrev pub by_rest : Option (List ℕ) → (List ℕ → Option Event) → Option Event → Option Event
by_rest (Some rest) f other = f rest
by_rest None f other = other

-- where these bytes stand first, what is said of what comes after them; else the other
abbrev pub by_front : List ℕ → (List ℕ → Option Event) → List ℕ → Option Event → Option Event
by_front front f line other = by_rest (after front line) f other

-- the bus of a letter
abbrev pub bus_of : ℕ → Option Bus
bus_of b = if b == 65 then Some A else if b == 66 then Some B else None

-- the bus with which a line begins: its letter and a space
abbrev pub bus_first : List ℕ → Option Bus
bus_first (b ∷ s ∷ rest) = if s == 32 then bus_of b else None
bus_first _ = None

-- 'c' is the command sync, 'd' the data sync
abbrev pub kind_of : ℕ → Option Kind
kind_of b = if b == 99 then Some Com else if b == 100 then Some Dat else None

-- '0' or '1'
abbrev pub truth_of : ℕ → Option Bool
truth_of b = if b == 48 then Some false else if b == 49 then Some true else None

-- `K XXXX` or `K XXXX P`: the sync, four digits, and perhaps a parity bit, which is the right one where none is given
abbrev pub word_on : Bus → List ℕ → Option Event
word_on bus (k ∷ s ∷ a ∷ b ∷ c ∷ d ∷ []) = if s == 32
    then (do
      kind ← kind_of k
      bits ← word_of (a ∷ b ∷ c ∷ d ∷ [])
      Some (event.Word bus (valid_word kind bits)))
    else None
word_on bus (k ∷ s ∷ a ∷ b ∷ c ∷ d ∷ t ∷ p ∷ []) = if (s == 32) && (t == 32)
    then (do
      kind ← kind_of k
      bits ← word_of (a ∷ b ∷ c ∷ d ∷ [])
      parity ← truth_of p
      Some (event.Word bus (record { kind = kind; bits = bits; parity = parity })))
    else None
word_on bus _ = None

-- what follows the bus
abbrev pub event_on : Bus → List ℕ → Option Event
event_on bus rest =
    if bytes_eq rest (codes "gap") then Some (event.Gap bus)
    else if bytes_eq rest (codes "noise") then Some (event.Noise bus)
    else word_on bus rest

-- the place, if the subaddress is 1 to 30 and the number 1 to 32
abbrev pub place_at : ℕ → ℕ → Option Place
place_at s i = if is_data_place s i then Some (record { subaddress = s; number = i }) else None

-- `SS II XXXX`: a place, and the word that is written there
abbrev pub write_of : List ℕ → Option Event
write_of (s ∷ t ∷ p ∷ i ∷ j ∷ q ∷ a ∷ b ∷ c ∷ d ∷ []) = if (p == 32) && (q == 32)
    then (do
      subaddress ← number_of s t
      number ← number_of i j
      place ← place_at subaddress number
      word ← word_of (a ∷ b ∷ c ∷ d ∷ [])
      Some (event.Write place word))
    else None
write_of _ = None

-- the new value of a flag, a 0 or a 1
abbrev pub flag_to : Flag → List ℕ → Option Event
flag_to f (v ∷ []) = do
  value ← truth_of v
  Some (event.Flag f value)
flag_to f _ = None

-- `F V`: the name of a flag, and its new value
abbrev pub flag_on : List ℕ → Option Event
flag_on rest =
    by_front (codes "service ") (flag_to flag.Service) rest
    (by_front (codes "busy ") (flag_to flag.Busy) rest
    (by_front (codes "subsystem ") (flag_to flag.Subsystem) rest
    (by_front (codes "terminal ") (flag_to flag.Terminal) rest None)))

-- `XXXX`, and nothing else
abbrev pub bits_in : List ℕ → Option ℕ
bits_in (a ∷ b ∷ c ∷ d ∷ []) = word_of (a ∷ b ∷ c ∷ d ∷ [])
bits_in _ = None

-- `XXXX`: the new vector word
abbrev pub vector_to : List ℕ → Option Event
vector_to rest = do
  word ← bits_in rest
  Some (event.Vector word)

-- `XXXX`: the new BIT word
abbrev pub bit_to : List ℕ → Option Event
bit_to rest = do
  word ← bits_in rest
  Some (event.Bit word)

-- what the subsystem does
abbrev pub subsystem_event : List ℕ → Option Event
subsystem_event line =
    by_front (codes "write ") write_of line
    (by_front (codes "vector ") vector_to line
    (by_front (codes "bit ") bit_to line
    (by_front (codes "flag ") flag_on line None)))

-- what follows a bus says what happens on it; without a bus the line says something else
abbrev pub by_bus : Option Bus → List ℕ → Option Event → Option Event
by_bus (Some bus) line other = event_on bus (drop 2 line)
by_bus None line other = other

-- what a line says that says something: what it begins with decides how it goes on
abbrev pub event_of : List ℕ → Option Event
event_of line = by_bus (bus_first line) line (if bytes_eq line (codes "slot") then Some event.Slot else subsystem_event line)

-- a line that says no event is refused
abbrev pub or_refused : Option Event → Result (Option Event) LineFault
or_refused (Some e) = Ok (Some e)
or_refused None = Err (record {})

-- The event of a line; no event for an empty line and for a comment, which begins with '#'; or that the
-- line is refused.
unfoldable pub meaning : List ℕ → Result (Option Event) LineFault
meaning [] = Ok None
meaning (b ∷ rest) = if b == 35 then Ok None else or_refused (event_of (b ∷ rest))
