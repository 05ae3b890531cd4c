-- What of a message is left behind, and at which terminal.
use Rattle.std.specs.Prelude.{ℕ, ◌≡◌, ◌≤◌, Bool, true, false, not, if◌then◌else◌, Option, Some, None, is_some, List, [], ◌∷◌, map, ◌↔◌, Contains}
use Rattle.std.specs.Option.{option_map}
use Rattle.bus_word.specs.declared.word.Bus.{Bus}
use Rattle.bus_word.specs.declared.word.Bus.TheVariants.{A, B}
use Rattle.bus_word.specs.declared.cell.Cell.{Cell}
use Rattle.bus_legal.specs.Description.{Description}
use Rattle.terminal_rules.specs.declared.event.Flag.TheVariants.{Busy as BusyFlag}
use Rattle.terminal_rules.specs.Open.{Open, Idle}
use Rattle.terminal_rules.specs.Reply.{reply_now}
use Rattle.terminal_rules.specs.Flags.{flag_now}
use Rattle.terminal_rules.specs.Starts.{heard_now}
use Rattle.terminal_rules.specs.SinceReset.{off_now}
use Rattle.terminal_rules.specs.Status.{kept_now}
use Rattle.terminal_rules.specs.Past.{open_at}
use Rattle.terminal_bus.specs.declared.bus.TerminalBus.{TerminalBus}
use Rattle.terminal_bus.specs.declared.event.BusEvent.{BusEvent}
use Rattle.terminal_bus.specs.Members.{Member, play, powered_up}
use Rattle.terminal_bus.specs.AtMembers.{BusStandsAt}
use Rattle.terminal_bus.specs.Lists.{Each}
use Rattle.terminal_bus.specs.OneSpeaker.{AddressesDiffer}
use Rattle.terminal_bus.specs.Transfer.{noted_of}
use Rattle.terminal_schedules.specs.declared.left.LeftBehind.{LeftBehind}
use Rattle.terminal_schedules.specs.declared.left.LeftBehind.TheVariants.{Message, WordInRun, Reply, ShutDown, Busy, MessageError}
use Rattle.terminal_schedules.specs.declared.left.LeftAt.{LeftAt}
use Rattle.terminal_schedules.specs.Schedule.{IsClear, LeavesClear, EachEndsAsAlone}

abbrev pub is_idle : Open → Bool
is_idle Idle = true
is_idle _ = false

-- the first of the two buses of which this holds
abbrev pub first_bus : (Bus → Bool) → Option Bus
first_bus test = if test A then Some A else if test B then Some B else None

abbrev pub if_so : Bool → LeftBehind → Option LeftBehind
if_so test x = if test then Some x else None

-- the first of two that there is
abbrev pub first_there : {X : Type 0} → Option X → Option X → Option X
first_there None y = y
first_there (Some x) y = Some x

-- The first that is left behind: a message in progress on a bus, a word for the terminal in the run of one, a reply in progress, a
-- transmitter shut down, busy, or a message error that is kept.
abbrev pub left_among : (message run off : Option Bus) → (replies busy error : Bool) → Option LeftBehind
left_among message run off replies busy error =
    first_there (option_map Message message)
    (first_there (option_map WordInRun run)
    (first_there (if_so replies Reply)
    (first_there (option_map ShutDown off)
    (first_there (if_so busy Busy) (if_so error MessageError)))))

-- what is left behind at a terminal, if it is not clear
abbrev pub what_is_left : Member → Option LeftBehind
what_is_left m =
    left_among (first_bus (λ b. not (is_idle (open_at m.description m.history b)))) (first_bus (λ b. heard_now m.description (noted_of m) b)) (first_bus (λ b. off_now (noted_of m) b))
    (is_some (reply_now (noted_of m))) (flag_now (noted_of m) BusyFlag) (kept_now m.description (noted_of m)).error

-- with the address of the terminal
abbrev pub left_there : ℕ → Option LeftBehind → Option LeftAt
left_there a what = option_map (λ what. record { address = a; what = what }) what

abbrev pub left_at : Member → Option LeftAt
left_at m = left_there m.description.address (what_is_left m)

-- of the first terminal that is not clear
abbrev pub first_left : List Member → Option LeftAt
first_left [] = None
first_left (m ∷ members) = first_there (left_at m) (first_left members)

-- what is left behind by what happens on the bus, alone from power-up
abbrev pub left_alone : List Description → List BusEvent → Option LeftAt
left_alone Ps xs = first_left (play (powered_up Ps) xs)

-- A bus has terminals so described, each clear, whatever came before.
pub record IsClearBus {L : Type 0} (is_legal : L → Cell → Bool) (Ps : List Description) (bus : TerminalBus L) : Type 0 where
  pub members : List Member
  pub stands : BusStandsAt is_legal members bus
  pub same : map (λ (m : Member). m.description) members ≡ Ps
  pub clear : Each IsClear members

-- Just of a terminal that is clear nothing is told, and just a message after which all are clear leaves nothing behind.
pub record LeftTells : Type 0 where
  pub terminal : (m : Member) → (what_is_left m ≡ None) ↔ IsClear m
  pub message : (Ps : List Description) (xs : List BusEvent) → (left_alone Ps xs ≡ None) ↔ LeavesClear true Ps xs

-- messages end in any order, and any number of times, as each does alone
abbrev pub EndInEveryOrder : List Description → List (List BusEvent) → Type 0
EndInEveryOrder Ps messages =
    (schedule : List (List BusEvent)) → Each (Contains messages) schedule → EachEndsAsAlone true Ps (powered_up Ps) schedule

-- So do messages of which none leaves anything behind.
abbrev pub EveryOrderLaw : Type 0
EveryOrderLaw =
    (Ps : List Description) (messages : List (List BusEvent)) → AddressesDiffer Ps → Each (λ P. P.address ≤ 30) Ps → Each (λ xs. left_alone Ps xs ≡ None) messages → EndInEveryOrder Ps messages
