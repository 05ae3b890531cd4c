-- At most one terminal sends at a time.
use Rattle.std.specs.Prelude.{◌≡◌, ◌≢◌, ◌≤◌, true, List, length}
use Rattle.bus_word.specs.declared.word.Bus.{Bus}
use Rattle.bus_legal.specs.Description.{Description}
use Rattle.terminal_rules.specs.LookBack.{keep}
use Rattle.terminal_bus.specs.Lists.{EachTwo}
use Rattle.terminal_bus.specs.declared.event.BusEvent.{BusEvent}
use Rattle.terminal_bus.specs.Members.{Member, sendings, play, powered_up}
use Rattle.terminal_bus.specs.Discipline.{member_reply, is_disciplined}

-- no two terminals have the same address
abbrev pub AddressesDiffer : List Description → Type 0
AddressesDiffer Ps = EachTwo (λ P Q. P.address ≢ Q.address) Ps

-- at most one terminal has a reply in progress, and a slot that comes now sends at most one word on each bus
pub record OneSpeaks (members : List Member) : Type 0 where
  pub replies : length (keep member_reply members) ≤ 1
  pub sendings : (b : Bus) → length (sendings b members) ≤ 1

-- From power-up, after all that happens under the discipline, at most one terminal sends. It holds at each point, since each
-- front of what happens keeps to the discipline too.
abbrev pub OneSpeakerLaw : Type 0
OneSpeakerLaw =
    (Ps : List Description) (xs : List BusEvent) → AddressesDiffer Ps → is_disciplined (powered_up Ps) xs ≡ true → OneSpeaks (play (powered_up Ps) xs)
