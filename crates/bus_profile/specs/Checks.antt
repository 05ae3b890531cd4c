-- The checks of a profile's tree, each at its place, and the fault that stands first.
use Rattle.std.specs.Prelude.{◌≡◌, ℕ, suc, ◌<◌, Bool, true, false, List, [], ◌∷◌, ◌++◌, map, ◌⊎◌, Option, Some, None, if◌then◌else◌}
use Rattle.bus_profile.specs.declared.fault.ProfileFault.{ProfileFault}

-- A fault, where in the tree it stands, and whether the tree has it.
pub record Check : Type 0 where
  pub place : List ℕ
  pub fault : ProfileFault
  pub fails : Bool

-- Places are compared from the left.
abbrev pub IsBefore : List ℕ → List ℕ → Type 0
IsBefore p [] = ⊥
IsBefore [] (b ∷ q) = Unit {0}
IsBefore (a ∷ p) (b ∷ q) = (a < b) ⊎ ((a ≡ b) × IsBefore p q)

-- the check is one of these
abbrev pub IsAmong : List Check → Check → Type 0
IsAmong [] c = ⊥
IsAmong (d ∷ ds) c = (c ≡ d) ⊎ IsAmong ds c

-- The fault is there, and every other that is there stands at a later place.
pub record IsFirst (checks : List Check) (fault : ProfileFault) : Type 0 where
  pub check : Check
  pub among : IsAmong checks check
  pub fails : check.fails ≡ true
  pub is : check.fault ≡ fault
  pub least : (other : Check) → IsAmong checks other → other.fails ≡ true → (other ≡ check) ⊎ IsBefore check.place other.place

-- no check fails
abbrev pub HasNoFault : List Check → Type 0
HasNoFault checks = (check : Check) → IsAmong checks check → check.fails ≡ false

-- the fault of the first check of a list that fails, or none
abbrev pub first_fault : List Check → Option ProfileFault
first_fault [] = None
first_fault (c ∷ cs) = if c.fails then Some c.fault else first_fault cs

-- ---- how checks are put at their places

-- one check, whose place is still empty
abbrev pub check : ProfileFault → Bool → List Check
check fault fails = record { place = []; fault = fault; fails = fails } ∷ []

-- the checks with a number in front of their places
abbrev pub under : ℕ → List Check → List Check
under n checks = map (λ c. record { place = n ∷ c.place; fault = c.fault; fails = c.fails }) checks

-- the checks of several parts, those of each under its number, from n
abbrev pub numbered : ℕ → List (List Check) → List Check
numbered n [] = []
numbered n (part ∷ parts) = under n part ++ numbered (suc n) parts

-- the checks of several parts, those of each under its number, from 0
unfoldable pub in_order : List (List Check) → List Check
in_order parts = numbered 0 parts
