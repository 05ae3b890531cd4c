-- A profile in plain values, apart from how the code keeps it.
use Rattle.std.specs.Prelude.{ℕ, Bool, List, map, take}
use Rattle.bus_legal.specs.declared.entries.Rule.{Rule}
use Rattle.bus_legal.specs.declared.entries.ModeRule.{ModeRule}
use Rattle.bus_legal.specs.declared.entries.InitialWords.{InitialWords}
use Rattle.bus_legal.specs.declared.profile.Profile.{Profile}

-- a rule for data: own or broadcast commands, to receive or to transmit; subaddresses and counts as masks; legal or not
pub record PlainRule : Type 0 where
  pub own : Bool
  pub broadcast : Bool
  pub receive : Bool
  pub transmit : Bool
  pub subaddresses : ℕ
  pub counts : ℕ
  pub legal : Bool

-- words that a subaddress holds from number `first` on
pub record PlainInitial : Type 0 where
  pub subaddress : ℕ
  pub first : ℕ
  pub words : List ℕ

-- a profile; a wraparound subaddress of 0 means none, and entries are in the order of the text
pub record PlainProfile : Type 0 where
  pub address : ℕ
  pub broadcast : Bool
  pub wrap : ℕ
  pub accept : Bool
  pub vector : ℕ
  pub bit : ℕ
  pub rules : List PlainRule
  pub modes : List ModeRule
  pub initials : List PlainInitial

-- ---- what the code keeps, as plain values

-- a rule as the code keeps it
abbrev pub plain_rule : Rule → PlainRule
plain_rule r = record { own = r.own; broadcast = r.broadcast; receive = r.receive; transmit = r.transmit; subaddresses = r.subaddresses; counts = r.counts; legal = r.legal }

-- of the words the first `len` count
abbrev pub plain_initial : InitialWords → PlainInitial
plain_initial i = record { subaddress = i.subaddress; first = i.first; words = take i.len i.words }

-- a profile as the code keeps it
abbrev pub plain : Profile → PlainProfile
plain p = record { address = p.address; broadcast = p.broadcast; wrap = p.wrap; accept = p.accept; vector = p.vector; bit = p.bit; rules = map plain_rule p.rules; modes = p.modes; initials = map plain_initial p.initials }
