-- What a script says that is read event by event.
use Rattle.std.specs.Prelude.{ℕ, ◌≡◌, ◌≢◌, ◌+◌, ◌-◌, ◌*◌, List, [], ◌∷◌, Option, Some, None, is_some, option_map, if◌then◌else◌, Result, Ok, Err, true}
use Rattle.script_lines.specs.Text.{lines_of}
use Rattle.rt1553_verify.specs.declared.reader.StatedReader.{StatedReader}
use Rattle.rt1553_verify.specs.declared.stated.Stated.{Stated}
use Rattle.rt1553_verify.specs.declared.stated.StatedFault.{StatedFault}
use Rattle.rt1553_verify.specs.declared.stated.StatedFault.TheVariants.{Memory, Read}
use Rattle.rt1553_verify.specs.Stated.{StatedEvent, shown, then_events, stated_by}

-- the events that are left, or the first fault among them, where the input tells its bytes
abbrev pub left_in : {B : Type 0} → (B → Option (List ℕ)) → StatedReader B → Option (Result (List StatedEvent) StatedFault)
left_in remaining r = option_map (λ bytes. stated_by true 18446744073709551615 r.lines (option_map shown r.latest) (lines_of bytes)) (remaining r.input)

-- the event that comes next is the first of those that are left, or there is none, or a fault is
abbrev pub NextIs : Option (Result (List StatedEvent) StatedFault) → Option (Result (List StatedEvent) StatedFault) → Result (Option Stated) StatedFault → Type 0
NextIs None new next = Unit {0}
NextIs (Some said) new (Ok None) = said ≡ Ok []
NextIs (Some said) new (Ok (Some s)) = (later : Result (List StatedEvent) StatedFault) × (new ≡ Some later) × (said ≡ then_events (shown s ∷ []) later)
NextIs (Some said) new (Err fault) = fault ≢ Memory → fault ≢ Read → said ≡ Err fault

-- at most so many events are still given: two for each line that can be counted, and one that is kept
abbrev pub turns_left : {B : Type 0} → StatedReader B → ℕ
turns_left r = 2 * (18446744073709551615 - r.lines) + (if is_some r.latest then 1 else 0)
