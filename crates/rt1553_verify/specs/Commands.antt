-- To which messages events belong: the last valid command for the terminal, or for all.
use Rattle.std.specs.Prelude.{ℕ, Bool, true, false, ◌==◌, if◌then◌else◌, List, [], ◌∷◌, ◌++◌, drop, Option, Some}
use Rattle.bus_word.specs.Word.{is_for}
use Rattle.terminal_rules.specs.declared.event.Event.{Event}
use Rattle.terminal_rules.specs.declared.event.Event.TheVariants.{Word}
use Rattle.rt1553_verify.specs.Stated.{StatedEvent}
use Rattle.rt1553_verify.specs.Verify.{ToldAnswer}

-- the command word of the message in progress after an event, by that before it
abbrev pub command_after : ℕ → Option ℕ → Event → Option ℕ
command_after address before (Word bus word) = if is_for address true word then Some word.bits else before
command_after address before _ = before

-- the first of what is told is of the event of this line
abbrev pub is_next : ℕ → List ToldAnswer → Bool
is_next line [] = false
is_next line (t ∷ told) = t.line == line

-- the command word, if the event is told
abbrev pub command_if : Bool → Option ℕ → List (Option ℕ)
command_if true command = command ∷ []
command_if false command = []

-- what is told of later events
abbrev pub told_behind : Bool → List ToldAnswer → List ToldAnswer
told_behind true told = drop 1 told
told_behind false told = told

-- the command words for the events that are told, which are some of these events, in their order, by the command word before them
unfoldable pub commands_from : ℕ → Option ℕ → List StatedEvent → List ToldAnswer → List (Option ℕ)
commands_from address before [] told = []
commands_from address before (s ∷ ss) told =
    command_if (is_next s.line told) (command_after address before s.event)
    ++ commands_from address (command_after address before s.event) ss (told_behind (is_next s.line told) told)
