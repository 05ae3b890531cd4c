-- To which messages sightings belong.
use Rattle.std.specs.Prelude.{ℕ, ◌≡◌, Option, List, [], ◌∷◌}
use Rattle.recorded_terminal.specs.declared.watch.Marked.{Marked}
use Rattle.rt1553_verify.specs.Commands.{command_after}

-- a sighting has the command word of the message in progress after it, by that before it, on the buses of the terminal of this address
abbrev pub InMessage : ℕ → Option ℕ → Marked → Type 0
InMessage address before m = m.command ≡ command_after address before m.sighting.event

-- one after the other; the last command word is that after all
abbrev pub AreInMessages : ℕ → Option ℕ → List Marked → Option ℕ → Type 0
AreInMessages address before [] last = last ≡ before
AreInMessages address before (m ∷ ms) last = InMessage address before m × AreInMessages address m.command ms last
