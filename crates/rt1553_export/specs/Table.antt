-- A table that means a terminal.
use Rattle.std.specs.Prelude.{◌≡◌, ℕ, List}
use Rattle.bus_legal.specs.declared.profile.Profile.{Profile}
use Rattle.bus_legal.specs.Plain.{plain}
use Rattle.bus_profile.specs.Gives.{profile_of}
use Rattle.bus_legal.specs.Meaning.{description_of}
use Rattle.bus_legal.specs.Parts.{Parts, description_in}
use Rattle.bus_legal.specs.Reach.{reach}
use Rattle.rt1553.specs.Load.{Reaches}
use Rattle.rt1553_import.specs.declared.sheet.Sheet.{Sheet}
use Rattle.rt1553_import.specs.Tree.{table_tree}
use Rattle.rt1553_import.specs.Import.{IsFaultless, IsImported}

-- The text is a table without fault, and just this can be reached of the terminal of the profile that it says.
pub record IsTableOf (text : List ℕ) (value : Parts) : Type 0 where
  pub sheet : Sheet
  pub is : IsFaultless text sheet
  pub profile : Profile
  pub says : plain profile ≡ profile_of (table_tree sheet)
  pub reached : description_in value ≡ reach (description_of profile)

-- Whatever profile is imported from the text, just this can be reached of its terminal.
abbrev pub ImportsAs : List ℕ → Parts → Type 0
ImportsAs text value = (profile : List ℕ) → IsImported text profile → Reaches profile value
