-- Which gaps and slots are resets.
use Rattle.std.proofs.Common.{◌≡◌, Bool, true, false, ◌&&◌, ◌||◌, Option, Some, None, refl, ap}
use Rattle.bus_word.specs.declared.word.Bus.{Bus}
use Rattle.terminal_rules.specs.declared.event.Event.TheVariants.{Gap, Slot}
use Rattle.terminal_rules.specs.History.{Noted, noted_as, Replying, Ending, Nothing}
use Rattle.terminal_rules.specs.SinceReset.{resets_by_broadcast, does_own_reset, is_reset}
use Rattle.terminal_rules.specs.Turn.{done_cell, turn_of_gap, turn_of_slot}
use Rattle.terminal_rules.specs.Steps.{resets_at_gap, resets_next}

-- a gap that isn't ignored, by whether a reply begins and what it ends
abbrev pub gap_as : Bus → Bool → Ending → Noted
gap_as b begins x = noted_as (Gap b) (turn_of_gap b begins (done_cell x)) false x

pub or-false : (b : Bool) → b || false ≡ b
or-false true = refl
or-false false = refl

-- a gap is a reset by broadcast, or where no reply begins
pub gap_resets : (b : Bus) (begins : Bool) (x : Ending) → is_reset (gap_as b begins x) ≡ resets_at_gap begins x
gap_resets b true x = ap (λ t. resets_by_broadcast x || t) (or-false (does_own_reset x && false))
gap_resets b false x = ap (λ t. resets_by_broadcast x || t) (or-false (does_own_reset x && true))

-- a slot is one where it sends the status of a reset
pub slot_resets : (r : Option Replying) → is_reset (noted_as Slot (turn_of_slot r) false Nothing) ≡ resets_next r
slot_resets None = refl
slot_resets (Some r) = refl
