-- Schedules: messages of all formats, in any order.
use Rattle.std.specs.Prelude.{◌≡◌, ◌≤◌, ℕ, ◌&&◌, Bool, true, false, List, [], ◌∷◌}
use Rattle.bus_legal.specs.Description.{Description}
use Rattle.terminal_rules.specs.declared.event.Event.{Event}
use Rattle.terminal_rules.specs.declared.event.Event.TheVariants.{Flag as FlagIs}
use Rattle.terminal_rules.specs.declared.event.Flag.TheVariants.{Busy}
use Rattle.terminal_rules.specs.Flags.{same_flag}
use Rattle.terminal_rules.specs.Out.{Out}
use Rattle.terminal_bus.specs.declared.event.BusEvent.{BusEvent}
use Rattle.terminal_bus.specs.declared.event.BusEvent.TheVariants.{Subsystem}
use Rattle.terminal_bus.specs.Members.{Member, play, powered_up}
use Rattle.terminal_bus.specs.Alone.{own_answers}
use Rattle.terminal_bus.specs.Discipline.{comes_from_subsystem}
use Rattle.terminal_bus.specs.Lists.{Each}
use Rattle.terminal_bus.specs.OneSpeaker.{AddressesDiffer}
use Rattle.terminal_bus.specs.Transfer.{Has, actions}
use Rattle.terminal_schedules.specs.Schedule.{IsClearIf, EndsAsAlone, CanFollow}
use Rattle.terminal_schedules.specs.Formats.{ScheduledCommand, command_events, IsLegal, EndsWell}
use Rattle.terminal_schedules.specs.Transfers.{Transfer, transfer_events, CanBeSent, IsTransferred}

-- An entry of a schedule: a message of one command, a transfer, an event of a subsystem, or anything else.
pub data ScheduleEntry : Type 0 where
  One : (message : ScheduledCommand) → ScheduleEntry
  Between : (transfer : Transfer) → ScheduleEntry
  Happens : (address : ℕ) → (event : Event) → ScheduleEntry
  Any : (events : List BusEvent) → ScheduleEntry

abbrev pub entry_events : ScheduleEntry → List BusEvent
entry_events (One x) = command_events x
entry_events (Between x) = transfer_events x
entry_events (Happens a e) = Subsystem a e ∷ []
entry_events (Any xs) = xs

abbrev pub sets_busy : Event → Bool
sets_busy (FlagIs f value) = same_flag Busy f && value
sets_busy _ = false

-- It can stand in a schedule: a message is legal; an event of a subsystem does not set busy; and anything else leaves, alone
-- from power-up, each terminal clear. If kept message errors are left out, none asks for the kept status, and what is for all
-- may be illegal at some terminals.
abbrev pub CanStand : Bool → List Description → ScheduleEntry → Type 0
CanStand asked Ps (One x) = IsLegal asked Ps x
CanStand asked Ps (Between x) = CanBeSent asked Ps x
CanStand asked Ps (Happens a e) = (comes_from_subsystem e ≡ true) × (sets_busy e ≡ false)
CanStand asked Ps (Any xs) = CanFollow asked Ps xs

-- no terminal answers an event of a subsystem
pub record IsOnlyTaken (asked : Bool) (members : List Member) (xs : List BusEvent) : Type 0 where
  pub answers : (m : Member) → Has members m → (let none : List Out = [] in actions (own_answers members xs m) ≡ none)
  pub clear : Each (IsClearIf asked) (play members xs)

abbrev pub EntryEndsWell : Bool → List Description → List Member → ScheduleEntry → Type 0
EntryEndsWell asked Ps members (One x) = EndsWell asked members x
EntryEndsWell asked Ps members (Between x) = IsTransferred asked members x
EntryEndsWell asked Ps members (Happens a e) = IsOnlyTaken asked members (Subsystem a e ∷ [])
EntryEndsWell asked Ps members (Any xs) = EndsAsAlone asked Ps members xs

abbrev pub EachEndsWell : Bool → List Description → List Member → List ScheduleEntry → Type 0
EachEndsWell asked Ps members [] = Unit {0}
EachEndsWell asked Ps members (x ∷ entries) = EntryEndsWell asked Ps members x × EachEndsWell asked Ps (play members (entry_events x)) entries

-- Entries that can stand in a schedule end well from power-up, in any order and any number of times.
abbrev pub ScheduleLaw : Type 0
ScheduleLaw =
    (asked : Bool) (Ps : List Description) (entries : List ScheduleEntry) → AddressesDiffer Ps → Each (λ P. P.address ≤ 30) Ps → Each (CanStand asked Ps) entries →
    EachEndsWell asked Ps (powered_up Ps) entries
