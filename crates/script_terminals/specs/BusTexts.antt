-- The transcript of a bus of terminals, and the script of one of them alone.
use Rattle.std.specs.Prelude.{ℕ, Bool, true, false, List, [], ◌∷◌, ◌++◌, codes, Option, Some, None, slice_get}
use Rattle.std.specs.List.{flat_map}
use Rattle.bus_word.specs.declared.word.Bus.{Bus}
use Rattle.bus_word.specs.declared.word.Bus.TheVariants.{A, B}
use Rattle.terminal_rules.specs.Out.{Out}
use Rattle.terminal_state.specs.declared.buses.OnBuses.{OnBuses}
use Rattle.script_lines.specs.Digits.{decimal_digits}
use Rattle.script_lines.specs.Transcript.{bus_letter, answer_text}
use Rattle.script_lines.specs.EventLine.{script_text}
use Rattle.terminal_bus.specs.declared.event.BusEvent.{BusEvent}
use Rattle.terminal_bus.specs.Members.{Member, events_for, bus_after}
use Rattle.terminal_bus.specs.Alone.{answers_in}
use Rattle.terminal_bus.specs.AtMembers.{collisions}

-- an address in front of a line, if there is one
abbrev pub line_in_front : ℕ → List ℕ → List ℕ
line_in_front a [] = []
line_in_front a (b ∷ line) = decimal_digits a ++ 32 ∷ b ∷ line

-- the line of what the terminal with this address sends or hands over
abbrev pub addressed_text : ℕ → Out → List ℕ
addressed_text a o = line_in_front a (answer_text o)

-- what a terminal answers, while this happens on the bus
abbrev pub member_text : List Member → BusEvent → Member → List ℕ
member_text members x m = flat_map (addressed_text m.description.address) (answers_in members x m)

-- the line of words that collide on a bus
abbrev pub collision_text : Bus → Bool → List ℕ
collision_text b true = bus_letter b ++ codes " collision\n"
collision_text b false = []

abbrev pub collisions_text : OnBuses → List ℕ
collisions_text many = collision_text A many.a ++ collision_text B many.b

-- what is written while this happens: the answers of each terminal, in the order of the members, and then where words collide
abbrev pub step_text : List Member → BusEvent → List ℕ
step_text members x = flat_map (member_text members x) members ++ collisions_text (collisions members x)

-- what comes to one terminal, while this happens, as the lines of a script
abbrev pub came_text : List Member → BusEvent → Option Member → List ℕ
came_text members x None = []
came_text members x (Some m) = script_text (events_for members x m)

abbrev pub came_text_at : ℕ → List Member → BusEvent → List ℕ
came_text_at k members x = came_text members x (slice_get members k)

-- what is written of each thing that happens, one after the other
unfoldable pub texts_told : (List Member → BusEvent → List ℕ) → List Member → List BusEvent → List ℕ
texts_told text members [] = []
texts_told text members (x ∷ xs) = text members x ++ texts_told text (bus_after members x) xs
