-- Which texts are proposed for a unit that was recorded.
use Rattle.std.specs.Prelude.{◌≡◌, ℕ, false, List}
use Rattle.bus_legal.specs.Description.{Description}
use Rattle.terminal_recordings.specs.Recordings.{IsExplained}
use Rattle.terminal_recordings.specs.MaybeGaps.{MaybeSighting, ExplainsReading}
use Rattle.rt1553.specs.Load.{is_canon_text, IsProfileText}

-- a profile text without fault, and no canonical text, of a terminal that has this address and explains the recording
pub record IsProposal (address : ℕ) (recording : List MaybeSighting) (text : List ℕ) : Type 0 where
  pub description : Description
  pub toml : is_canon_text text ≡ false
  pub of : IsProfileText text description
  pub own : description.address ≡ address
  pub explains : ExplainsReading (IsExplained description) recording
