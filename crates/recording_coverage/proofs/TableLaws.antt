-- The table of what was counted is that of the events.
use Rattle.std.proofs.Common.{◌≡◌, ◌∙◌, ap, Result, Ok, Err, IfOk, List}
use Rattle.bus_legal.specs.Description.{Description}
use Rattle.recording_coverage.specs.declared.outcome.MessageEnd.{MessageEnd}
use Rattle.recording_coverage.specs.declared.coverage.Coverage.{Coverage}
use Rattle.recording_coverage.specs.Covers.{Covers}

-- what a part of a table says of all that is covered, it says of these ends
pub told_of : {T E X : Type 0} (part : T → X) (told : Description → List MessageEnd → X) (r : Result T E) (D P : Description) (ends : List MessageEnd) (c : Coverage) → D ≡ P → Covers ends c
    → IfOk r (λ table. (es : List MessageEnd) → Covers es c → part table ≡ told D es) → IfOk r (λ table. part table ≡ told P ends)
told_of part told (Ok table) D P ends c same covers h = h ends covers ∙ ap (λ Q. told Q ends) same
told_of part told (Err error) D P ends c same covers h = tt
