-- Where there is no fault among several there is none in each.
use Rattle.std.proofs.Common.{◌≡◌, List, [], ◌∷◌, Option, Some, None, refl, inl, inr}
use Rattle.std.specs.Option.{option_or}
use Rattle.bus_profile.specs.declared.fault.ProfileFault.{ProfileFault}
use Rattle.bus_profile.specs.Checks.{Check, HasNoFault, first_fault}

pub first_fault-none : (cs : List Check) → HasNoFault cs → first_fault cs ≡ None
first_fault-none [] h = refl
first_fault-none (c ∷ cs) h = rw (h c (inl refl)) (first_fault-none cs (λ d among. h d (inr among)))

pub no_first : (a b : Option ProfileFault) → option_or a b ≡ None → a ≡ None
no_first None b e = refl
no_first (Some f) b e = e

pub no_second : (a b : Option ProfileFault) → option_or a b ≡ None → b ≡ None
no_second None b e = e
no_second (Some f) b e = absurd (cc)

-- faults that are asked for in turn
abbrev pub in_turn : List (Option ProfileFault) → Option ProfileFault
in_turn [] = None
in_turn (o ∷ os) = option_or o (in_turn os)

abbrev pub AreNone : List (Option ProfileFault) → Type 0
AreNone [] = Unit {0}
AreNone (o ∷ os) = (o ≡ None) × AreNone os

pub each_none : (os : List (Option ProfileFault)) → in_turn os ≡ None → AreNone os
each_none [] e = tt
each_none (o ∷ os) e = (no_first o (in_turn os) e, each_none os (no_second o (in_turn os) e))
