-- What a call tells with its status.
use Rattle.std.specs.Prelude.{◌≡◌, ◌≢◌, ◌<◌, ◌⊎◌, ℕ, zero, suc, List, [], Some, None, Option, Result, Ok, Err, length, slice_get}
use base.Fml.{Fml, ftrue}
use Rattle.bus_legal.specs.Description.{Description}
use Rattle.bus_script.specs.declared.fault.RunFault.{RunFault}
use Rattle.bus_script.specs.declared.fault.RunFault.TheVariants as run
use Rattle.rt1553.specs.declared.fault.LoadFault.{LoadFault}
use Rattle.rt1553.specs.declared.fault.LoadFault.TheVariants as load
use Rattle.rt1553.specs.declared.fault.EngineFault.{EngineFault}
use Rattle.rt1553.specs.declared.fault.EngineFault.TheVariants.{Load, Script}
use Rattle.rt1553.specs.Load.{Of, IsNotLoaded}
use Rattle.rt1553.specs.Canon.{IsCanon}
use Rattle.rt1553.specs.Engine.{RunCompletes, RunStops, OnLoad, OnScript}
use Rattle.rt1553.specs.Report.{exit_status_of}
use Rattle.rt1553_live.specs.State.{State}
use Rattle.rt1553_live.specs.Text.{StateText}
use Rattle.rt1553_live.specs.Live.{IsNew}
use Rattle.rt1553_live.specs.declared.terminal.Live.{Live}
use Rattle.rt1553_live.specs.PlainFault.{TellsFault}
use Rattle.rt1553_live.specs.Restored.{IsNotRestored, TellsRestoreFault, restore_status}
use Rattle.rt1553_live.specs.declared.live.RestoreFault.{RestoreFault}
use Rattle.rt1553_live.specs.declared.fault.PlainFault.{PlainFault}
use Rattle.terminal_bus.specs.declared.bus.NotAdded.{NotAdded}
use Rattle.terminal_bus.specs.Members.{Member}
use Rattle.terminal_bus.specs.AtMembers.{not_added}
use Rattle.live_bus.specs.declared.front.LiveBus.{LiveBus}
use Rattle.live_bus.specs.LiveBus.{StandsAtMembers, Joins, IsTaken}

-- A fault for which this holds is told by its numbers and its line, with the status of the program `rt1553` for it: 2
-- where a text is refused, 4 where memory runs out.
pub record IsTold (Why : LoadFault → Type 0) (to : PlainFault) (status : ℕ) : Type 0 where
  pub fault : LoadFault
  pub why : Why fault
  pub tells : TellsFault to (Load fault)
  pub answers : status ≡ exit_status_of (Load fault)

-- the text is refused by this fault, its first, or out of memory
abbrev pub IsNotWritten : List ℕ → LoadFault → Type 0
IsNotWritten text fault = (fault ≡ load.Memory) ⊎ IsNotLoaded text fault

-- the text is accepted, and its canonical bytes are this many, which is more than the room
pub record IsTooLong (text : List ℕ) (needed room : ℕ) : Type 0 where
  pub bytes : List ℕ
  pub canon : IsCanon text bytes
  pub counts : needed ≡ length bytes
  pub more : room < needed

-- memory ran out
abbrev pub IsNoMemory : LoadFault → Type 0
IsNoMemory fault = fault ≡ load.Memory

-- the text of the state is this long, which is more than the room
pub record IsLongState (state : State) (needed room : ℕ) : Type 0 where
  pub bytes : List ℕ
  pub text : StateText state bytes
  pub counts : needed ≡ length bytes
  pub more : room < needed

-- The text is no saved state, or memory ran out: told by its numbers and its line, with status 2 or 4.
pub record IsNotRestoredFor (text : List ℕ) (to : PlainFault) (status : ℕ) : Type 0 where
  pub fault : RestoreFault
  pub why : IsNotRestored text fault
  pub tells : TellsRestoreFault to fault
  pub answers : status ≡ restore_status fault

-- the text is accepted, and this is the transcript of the whole script
abbrev pub RunsThrough : List ℕ → List ℕ → List ℕ → Type 0
RunsThrough profile script transcript = (n : ℕ) × RunCompletes profile (Some script) (Some []) (Some transcript) n

-- this is the transcript of the whole script, or of what was played of it before it was stopped
abbrev pub IsPlayed : List ℕ → List ℕ → List ℕ → Type 0
IsPlayed profile script transcript = RunsThrough profile script transcript
    ⊎ ((fault : RunFault) × (left : Option (List ℕ)) × RunStops profile (Some script) left (Some []) (Some transcript) fault)

-- Where a run was stopped: by the profile, of which this is the first fault; or by the script, or out of memory, behind
-- the events whose transcript this is. A script in memory is always read.
pub record IsStopped (profile script transcript : List ℕ) (to : PlainFault) (status : ℕ) : Type 0 where
  pub fault : EngineFault
  pub left : Option (List ℕ)
  pub not_loaded : OnLoad fault (λ f. IsNotLoaded profile f × (transcript ≡ []))
  pub stopped : OnScript fault (RunStops profile (Some script) left (Some []) (Some transcript))
  pub read : fault ≢ Script run.Read
  pub tells : TellsFault to fault
  pub answers : status ≡ exit_status_of fault

-- a terminal at power-up, of which nothing was asked yet, of a description of this text
abbrev pub IsNewOf : List ℕ → Live → Type 0
IsNewOf text w = (P : Description) × Of text P × IsNew P w

-- What a terminal does that is put on a bus with these members: 0, and it joins them; or 2, it is refused for this reason, and
-- nothing changed.
abbrev pub JoinsBy : List Member → Option NotAdded → Live → LiveBus → ℕ → LiveBus → Type 0
JoinsBy members None it x status w = (status ≡ 0) × Joins members it x w
JoinsBy members (Some _) it x status w = (status ≡ 2) × (w ≡ x)

-- so at whatever members the bus stood
abbrev pub JoinsAtAll : Live → LiveBus → ℕ → LiveBus → Type 0
JoinsAtAll it x status w = (members : List Member) → StandsAtMembers members x → JoinsBy members (not_added members it.terminal.legality.address) it x status w

-- a terminal that goes on as that at a place of a bus, at whatever members this stood
abbrev pub TakenAtAll : LiveBus → ℕ → Live → Type 0
TakenAtAll x place w = (members : List Member) → StandsAtMembers members x → IsTaken (slice_get members place) (Some w)

-- the bus has no terminal at this place, and no fault is told; or memory ran out, and that is told
abbrev pub IsNotTaken : LiveBus → ℕ → PlainFault → PlainFault → ℕ → Type 0
IsNotTaken x place old new status =
    ((status ≡ 2) × (new ≡ old) × ((members : List Member) → StandsAtMembers members x → slice_get members place ≡ None))
    ⊎ IsTold IsNoMemory new status

-- what is owned where the status is 0: done
abbrev pub when_done : ℕ → Fml → Fml
when_done zero F = F
when_done (suc _) F = ftrue

-- what is owned of a value, where there is one
abbrev pub when_ok : {A B : Type 0} → Result A B → (A → Fml) → Fml
when_ok (Ok a) F = F a
when_ok (Err _) F = ftrue
