-- What a call of the page's module tells.
use Rattle.std.specs.Prelude.{◌≡◌, ◌≢◌, ℕ, List, [], Some, Option}
use Rattle.bus_script.specs.declared.fault.RunFault.TheVariants as run
use Rattle.rt1553.specs.declared.fault.LoadFault.{LoadFault}
use Rattle.rt1553.specs.declared.fault.EngineFault.{EngineFault}
use Rattle.rt1553.specs.declared.fault.EngineFault.TheVariants.{Load, Script}
use Rattle.rt1553.specs.Load.{IsNoCanonText}
use Rattle.rt1553.specs.Engine.{RunStops, OnLoad, OnScript}
use Rattle.rt1553_live.specs.PlainFault.{TellsFault}
use Rattle.rt1553_live.specs.declared.fault.PlainFault.{PlainFault}

-- a text is refused by a fault for which this holds, and the fault is told
pub record TellsRefusal (Why : LoadFault → Type 0) (to : PlainFault) : Type 0 where
  pub fault : LoadFault
  pub why : Why fault
  pub tells : TellsFault to (Load fault)

-- Where a run was stopped, and that is told: by the text, of which this is the first fault, and nothing was played; or by a line of
-- the script, behind the events whose transcript this is. The script in memory is always read.
pub record TellsStop (text script transcript : List ℕ) (to : PlainFault) : Type 0 where
  pub fault : EngineFault
  pub left : Option (List ℕ)
  pub not_loaded : OnLoad fault (λ f. IsNoCanonText text f × (transcript ≡ []))
  pub stopped : OnScript fault (RunStops text (Some script) left (Some []) (Some transcript))
  pub not_read : fault ≢ Script run.Read
  pub not_written : fault ≢ Script run.Write
  pub tells : TellsFault to fault

-- no more was written than these bytes from the front of the transcript
abbrev pub IsFront : List ℕ → List ℕ → List ℕ → Type 0
IsFront text script front = (left : Option (List ℕ)) × RunStops text (Some script) left (Some []) (Some front) run.Write
