-- When two terminals behave alike.
use Rattle.std.specs.Prelude.{◌≡◌, ◌<◌, ◌^◌, true, List, [], ◌∷◌}
use Rattle.bus_word.specs.Cell.{is_data_place}
use Rattle.bus_legal.specs.Description.{Description}
use Rattle.terminal_rules.specs.declared.event.Event.{Event}
use Rattle.terminal_rules.specs.declared.event.Event.TheVariants.{Word, Write, Vector, Bit}
use Rattle.terminal_rules.specs.Out.{outs}

-- an event that can come: its words have 16 bits, and the place of a write is there
abbrev pub IsProper : Event → Type 0
IsProper (Word b w) = w.bits < 2 ^ 16
IsProper (Write place v) = (is_data_place place.subaddress place.number ≡ true) × (v < 2 ^ 16)
IsProper (Vector v) = v < 2 ^ 16
IsProper (Bit v) = v < 2 ^ 16
IsProper _ = Unit {0}

-- each of these events can come
abbrev pub AreProper : List Event → Type 0
AreProper [] = Unit {0}
AreProper (e ∷ es) = IsProper e × AreProper es

-- two terminals of these descriptions answer alike, event by event, whatever comes
abbrev pub Same : Description → Description → Type 0
Same P Q = (es : List Event) → AreProper es → outs P es ≡ outs Q es
