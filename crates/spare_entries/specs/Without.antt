-- What a profile describes without one of its entries, keys or words.
use Rattle.std.specs.Prelude.{◌≡◌, ◌↔◌, ℕ, suc, Bool, false, List, take, drop, ◌++◌, set, HoldsAt, IsTrue}
use Rattle.bus_word.specs.Command.{wraparound_subaddress}
use Rattle.bus_legal.specs.declared.entries.InitialWords.{InitialWords}
use Rattle.bus_legal.specs.declared.profile.Profile.{Profile}
use Rattle.bus_legal.specs.OwnCodes.{has_required_codes}
use Rattle.bus_legal.specs.Description.{Description}
use Rattle.bus_legal.specs.Initial.{initial_word}
use Rattle.bus_legal.specs.Legal.{is_legal}
use Rattle.bus_legal.specs.Meaning.{description_of}
use Rattle.terminal_rules.specs.Same.{Same}
use Rattle.spare_entries.specs.declared.spare.Setting.{Setting}
use Rattle.spare_entries.specs.declared.spare.Setting.TheVariants.{Broadcast, Wraparound, AcceptBusControl, Vector, Bit}

-- the list without its element of this index
abbrev pub without : {A : Type 0} → ℕ → List A → List A
without k xs = take k xs ++ drop (suc k) xs

-- what the profile describes without rule k, counted from 0
abbrev pub without_rule : Profile → ℕ → Description
without_rule p k = record (description_of p) { legal = is_legal (without k p.rules) p.modes }

-- what the profile describes without mode entry k, counted from 0
abbrev pub without_mode : Profile → ℕ → Description
without_mode p k = record (description_of p) { legal = is_legal p.rules (without k p.modes) }

-- The profile without this mode entry is accepted, and means the same terminal.
abbrev pub IsSpareMode : Profile → ℕ → Type 0
IsSpareMode p k = IsTrue (has_required_codes (without k p.modes)) × Same (description_of p) (without_mode p k)

-- what the profile describes without initial entry k, counted from 0
abbrev pub without_initial : Profile → ℕ → Description
without_initial p k = record (description_of p) { initial = initial_word (without k p.initials) }

-- with the default at a key of the root
abbrev pub without_setting : Profile → Setting → Description
without_setting p Broadcast = record (description_of p) { broadcast = false }
without_setting p Wraparound = record (description_of p) { wrap = wraparound_subaddress }
without_setting p AcceptBusControl = record (description_of p) { accept = false }
without_setting p Vector = record (description_of p) { vector = 0 }
without_setting p Bit = record (description_of p) { bit = 0 }

-- the same initial entry with 0 at the word of this index
pub record IsZeroed (old : InitialWords) (word : ℕ) (new : InitialWords) : Type 0 where
  pub subaddress : new.subaddress ≡ old.subaddress
  pub first : new.first ≡ old.first
  pub len : new.len ≡ old.len
  pub words : new.words ≡ set old.words word 0

-- with another initial entry at this index
abbrev pub with_entry : Profile → ℕ → InitialWords → Description
with_entry p k e = record (description_of p) { initial = initial_word (set p.initials k e) }

-- Whether a word of an initial entry has no effect: the profile with 0 in its place means the same terminal.
abbrev pub SparesWord : Profile → ℕ → ℕ → Bool → Type 0
SparesWord p k word spare = HoldsAt (λ old. (new : InitialWords) × IsZeroed old word new × (IsTrue spare ↔ Same (description_of p) (with_entry p k new))) p.initials k
