-- Laws of texts that aren't loaded.
use Rattle.std.proofs.Common.{◌≡◌, ℕ, List, Bool, true, false, refl, sym, ◌∙◌, subst}
use Rattle.line_format.specs.Answers.{LineAnswers, Whole, More, Wrong}
use Rattle.line_format.proofs.AnswerLaws.{one}
use Rattle.bus_profile.specs.declared.fault.ProfileFault.{ProfileFault}
use Rattle.bus_profile.specs.declared.fault.ProfileFault.TheVariants as profile
use Rattle.bus_legal.specs.declared.profile.Profile.{Profile}
use Rattle.bus_profile.specs.Checks.{HasNoFault}
use Rattle.bus_profile.specs.Faults.{faults}
use Rattle.bus_profile.specs.Read.{Accepts, HasFirst}
use Rattle.bus_legal.specs.Description.{Description}
use Rattle.bus_legal.specs.Parts.{Parts}
use Rattle.bus_canon.specs.Canon.{is_read, canon}
use Rattle.bus_canon.specs.Read.{IsNoText}
use Rattle.bus_canon.specs.declared.fault.CanonFault.{CanonFault}
use Rattle.bus_canon.specs.declared.fault.CanonFault.TheVariants.{Line, Trailing}
use Rattle.rt1553.specs.declared.fault.LoadFault.{LoadFault}
use Rattle.rt1553.specs.declared.fault.LoadFault.TheVariants as load
use Rattle.rt1553.specs.Load.{is_canon_text, OfBy, IsNoProfile, IsNotLoadedBy, OnlyMemoryRefuses}
use Rattle.rt1553.proofs.LoadLaws.{one_tree}

no_first : (text : List ℕ) (p : Profile) (fault : ProfileFault) → Accepts text p → HasFirst text fault → ⊥
no_first text p fault accepts first =
    let none : HasNoFault (faults first.tree) = subst (λ tree. HasNoFault (faults tree)) (one_tree text accepts.tree first.tree accepts.is first.is) accepts.faultless in
    let wrong : true ≡ false = sym first.first.fails ∙ none first.first.check first.first.among in
    cc

no_profile : (text : List ℕ) (p : Profile) (fault : ProfileFault) → Accepts text p → IsNoProfile text fault → ⊥
no_profile text p profile.NotToml accepts refused = refused accepts.tree accepts.is
no_profile text p profile.Memory accepts refused = refused
no_profile text p (profile.UnknownKey part) accepts refused = no_first text p (profile.UnknownKey part) accepts refused
no_profile text p (profile.Missing part key) accepts refused = no_first text p (profile.Missing part key) accepts refused
no_profile text p (profile.WrongKind part key) accepts refused = no_first text p (profile.WrongKind part key) accepts refused
no_profile text p (profile.OutOfRange part key) accepts refused = no_first text p (profile.OutOfRange part key) accepts refused
no_profile text p (profile.BadRanges part key) accepts refused = no_first text p (profile.BadRanges part key) accepts refused
no_profile text p (profile.TooMany part key) accepts refused = no_first text p (profile.TooMany part key) accepts refused
no_profile text p (profile.RequiredCode code) accepts refused = no_first text p (profile.RequiredCode code) accepts refused

no_canon : (text : List ℕ) (v : Parts) (fault : CanonFault) → LineAnswers (canon is_read) text (Whole v) → IsNoText text fault → ⊥
no_canon text v (Line n) whole refused = let wrong : Whole v ≡ Wrong n = one (canon is_read) text (Whole v) (Wrong n) whole refused in cc
no_canon text v Trailing whole refused = let wrong : Whole v ≡ More = one (canon is_read) text (Whole v) More whole refused in cc

memory_alone : (by : Bool) (text : List ℕ) (P : Description) (fault : LoadFault) → OfBy by text P → IsNotLoadedBy by text fault → fault ≡ load.Memory
memory_alone true text P (load.Canon fault) of refused = absurd (no_canon text of.value fault of.means refused)
memory_alone true text P (load.Profile fault) of refused = absurd refused
memory_alone true text P load.Memory of refused = refl
memory_alone false text P (load.Profile fault) of refused = absurd (no_profile text of.profile fault of.accepts refused)
memory_alone false text P (load.Canon fault) of refused = absurd refused
memory_alone false text P load.Memory of refused = refl

pub only_memory_refuses : OnlyMemoryRefuses
only_memory_refuses text P fault of refused = memory_alone (is_canon_text text) text P fault of refused
