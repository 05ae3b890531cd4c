-- What of a profile has no effect, of all that it has.
use Rattle.std.specs.Prelude.{◌≡◌, ◌≢◌, ◌<◌, ◌⊎◌, ℕ, Bool, true, not, ◌==◌, IsFalse, HoldsAt, List, [], ◌∷◌, ◌++◌, map, flat_map, length, slice_index}
use Rattle.std.specs.List.{range_with_len}
use Rattle.bus_word.specs.Command.{wraparound_subaddress}
use Rattle.bus_legal.specs.declared.entries.InitialWords.{InitialWords}
use Rattle.bus_legal.specs.declared.profile.Profile.{Profile}
use Rattle.bus_legal.specs.Meaning.{description_of}
use Rattle.terminal_rules.specs.Same.{Same}
use Rattle.spare_entries.specs.declared.spare.Setting.{Setting}
use Rattle.spare_entries.specs.declared.spare.Setting.TheVariants.{Broadcast, Wraparound, AcceptBusControl, Vector, Bit}
use Rattle.spare_entries.specs.declared.spare.SparePlace.{SparePlace}
use Rattle.spare_entries.specs.declared.spare.SparePlace.TheVariants.{Key, Rule, Mode, Initial, Word}
use Rattle.spare_entries.specs.Without.{without_setting, without_rule, without_initial, IsSpareMode, SparesWord}

-- the key of the root has its default
abbrev pub is_default : Profile → Setting → Bool
is_default p Broadcast = not p.broadcast
is_default p Wraparound = p.wrap == wraparound_subaddress
is_default p AcceptBusControl = not p.accept
is_default p Vector = p.vector == 0
is_default p Bit = p.bit == 0

-- the initial entry gives a word of this index, and not 0
abbrev pub GivesWord : ℕ → InitialWords → Type 0
GivesWord word e = (word < e.len) × (slice_index e.words word ≢ 0)

-- the profile without the initial entry means the same terminal
abbrev pub IsSpareInitial : Profile → ℕ → Type 0
IsSpareInitial p k = Same (description_of p) (without_initial p k)

-- What of a profile has no effect: without it the profile means the same terminal. A key at its default and a word that is 0
-- are none, nor are the words of an initial entry that has no effect itself.
abbrev pub IsSpare : Profile → SparePlace → Type 0
IsSpare p (Key setting) = IsFalse (is_default p setting) × Same (description_of p) (without_setting p setting)
IsSpare p (Rule k) = Same (description_of p) (without_rule p k)
IsSpare p (Mode k) = IsSpareMode p k
IsSpare p (Initial k) = IsSpareInitial p k
IsSpare p (Word k word) = HoldsAt (GivesWord word) p.initials k × SparesWord p k word true × (IsSpareInitial p k → ⊥)

-- the second list has those of the first of which P holds, in their order
abbrev pub Picks : {A : Type 0} → (A → Type 0) → List A → List A → Type 0
Picks P [] ys = ys ≡ []
Picks {A} P (x ∷ xs) ys = (P x × (rest : List A) × (ys ≡ x ∷ rest) × Picks P xs rest) ⊎ ((P x → ⊥) × Picks P xs ys)

-- the keys of the root that have a default and hold one value
abbrev pub setting_places : List SparePlace
setting_places = Key Broadcast ∷ Key Wraparound ∷ Key AcceptBusControl ∷ Key Vector ∷ Key Bit ∷ []

-- an initial entry, and its words
abbrev pub initial_places : ℕ → List SparePlace
initial_places k = Initial k ∷ map (Word k) (range_with_len 0 32)

-- all that may have no effect in a profile, in order
abbrev pub places_of : Profile → List SparePlace
places_of p =
    setting_places
    ++ (map Rule (range_with_len 0 (length p.rules))
    ++ (map Mode (range_with_len 0 (length p.modes))
    ++ flat_map initial_places (range_with_len 0 (length p.initials))))
