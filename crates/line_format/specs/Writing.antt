-- What writers of lines add.
use Rattle.std.specs.Prelude.{◌≡◌, ℕ, List, ◌++◌}
use Rattle.line_format.specs.Format.{Format, Spells}

-- the new bytes are the old ones, and then the text that the format gives for this value
abbrev pub Adds : {A : Type 0} → Format A → A → List ℕ → List ℕ → Type 0
Adds F v old new = (bytes : List ℕ) × (new ≡ old ++ bytes) × Spells F v bytes
