-- A profile in TOML that means a terminal.
use Rattle.std.specs.Prelude.{◌≡◌, ℕ, List}
use Rattle.bus_legal.specs.Description.{Description}
use Rattle.bus_legal.specs.Parts.{Parts, description_in}
use Rattle.bus_legal.specs.Reach.{reach}
use Rattle.rt1553.specs.Load.{IsProfileText}

-- The text is a TOML document whose tree is a profile without fault, and just this can be reached of the terminal of that profile.
pub record IsTomlOf (text : List ℕ) (value : Parts) : Type 0 where
  pub description : Description
  pub of : IsProfileText text description
  pub reached : description_in value ≡ reach description
