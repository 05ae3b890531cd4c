-- What the program's arguments ask for, over texts.
use Rattle.std.specs.Prelude.{ℕ, ◌≡◌, ◌⊎◌, List, Option, codes}
use Rattle.std.specs.Io.KnownBytes.{Appends}
use Rattle.bus_legal.specs.Description.{Description}
use Rattle.terminal_rules.specs.declared.event.Event.{Event}
use Rattle.script_lines.specs.EventLine.{script_text}
use Rattle.rt1553.specs.Load.{Of}
use Rattle.rt1553.specs.Canon.{IsCanon}
use Rattle.rt1553.specs.Compare.{AreSame, AreDifferent}
use Rattle.rt1553_args.specs.declared.args.Job.{Job}
use Rattle.rt1553_args.specs.declared.args.Job.TheVariants as job

-- the text is accepted: some terminal is that of the text
abbrev pub Accepted : List ℕ → Type 0
Accepted text = (P : Description) × Of text P

-- Status 0: the two are the same, and this was written. Status 1: they are different, and a script was written that
-- shows it.
abbrev pub TellsVerdict : List ℕ → List ℕ → Option (List ℕ) → Option (List ℕ) → ℕ → Type 0
TellsVerdict first second old new status =
    ((status ≡ 0) × AreSame first second × Appends old new (codes "same\n"))
    ⊎ ((status ≡ 1) × (script : List Event) × AreDifferent first second script × Appends old new (script_text script))

-- the job compares two profiles
abbrev pub IsComparison : Job → Type 0
IsComparison (job.Compare p q) = Unit {0}
IsComparison job.Standard = ⊥
IsComparison (job.Check p) = ⊥
IsComparison (job.Canon p) = ⊥
IsComparison (job.Run p q) = ⊥

-- What was done for a job, for some texts. No contract says that these are what its files hold.
abbrev pub Does : Job → Option (List ℕ) → Option (List ℕ) → ℕ → Type 0
Does job.Standard old new status = Unit {0}
Does (job.Check p) old new status = (text : List ℕ) × Accepted text × Appends old new (codes "ok\n")
Does (job.Canon p) old new status = (text : List ℕ) × (bytes : List ℕ) × IsCanon text bytes × Appends old new bytes
Does (job.Run p q) old new status = Unit {0}
Does (job.Compare p q) old new status = (first : List ℕ) × (second : List ℕ) × TellsVerdict first second old new status
