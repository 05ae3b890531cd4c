-- Events as lines of a script.
use Rattle.std.specs.Prelude.{ℕ, Bool, true, false, if◌then◌else◌, List, [], ◌∷◌, ◌++◌, codes}
use Rattle.std.specs.List.{flat_map}
use Rattle.bus_word.specs.declared.word.Kind.{Kind}
use Rattle.bus_word.specs.declared.word.Kind.TheVariants.{Com, Dat}
use Rattle.bus_word.specs.declared.word.Raw.{Raw}
use Rattle.bus_word.specs.Word.{is_valid}
use Rattle.terminal_rules.specs.Place.{Place}
use Rattle.terminal_rules.specs.declared.event.Event.{Event}
use Rattle.terminal_rules.specs.declared.event.Event.TheVariants as event
use Rattle.terminal_rules.specs.declared.event.Flag.{Flag}
use Rattle.terminal_rules.specs.declared.event.Flag.TheVariants.{Service, Busy, Subsystem, Terminal}
use Rattle.script_lines.specs.Digits.{digits_of, decimal_digits}
use Rattle.script_lines.specs.Transcript.{bus_letter}

-- the sync of a word, with a space on either side
abbrev pub kind_text : Kind → List ℕ
kind_text Com = codes " c "
kind_text Dat = codes " d "

-- a truth value as a field of a line
abbrev pub truth_field : Bool → List ℕ
truth_field true = codes " 1"
truth_field false = codes " 0"

-- the sync and the bits of a word, and its parity bit where it is the wrong one
abbrev pub word_text : Raw → List ℕ
word_text w = kind_text w.kind ++ (digits_of w.bits ++ (if is_valid w then [] else truth_field w.parity))

-- a subaddress and the number of a word in it, in two digits each
abbrev pub place_text : Place → List ℕ
place_text place = decimal_digits place.subaddress ++ (codes " " ++ decimal_digits place.number)

-- the flag as scripts name it
abbrev pub flag_name : Flag → List ℕ
flag_name Service = codes "service"
flag_name Busy = codes "busy"
flag_name Subsystem = codes "subsystem"
flag_name Terminal = codes "terminal"

-- without its line feed
abbrev pub event_text : Event → List ℕ
event_text (event.Word bus w) = bus_letter bus ++ word_text w
event_text (event.Noise bus) = bus_letter bus ++ codes " noise"
event_text (event.Gap bus) = bus_letter bus ++ codes " gap"
event_text (event.Write place word) = codes "write " ++ (place_text place ++ (codes " " ++ digits_of word))
event_text (event.Vector word) = codes "vector " ++ digits_of word
event_text (event.Bit word) = codes "bit " ++ digits_of word
event_text (event.Flag f value) = codes "flag " ++ (flag_name f ++ truth_field value)
event_text event.Slot = codes "slot"

-- with its line feed
abbrev pub event_line : Event → List ℕ
event_line e = event_text e ++ 10 ∷ []

-- the lines of a script, each with its line feed
abbrev pub script_text : List Event → List ℕ
script_text es = flat_map event_line es
