-- What a job says of the arguments: the subcommand that was met, and the values of its arguments.
use Rattle.std.specs.Prelude.{List, codes, Option, Some, None, option_map, ◌≡◌}
use Rattle.clap.specs.Words.{Row, Text, first_of}
use Rattle.rt1553_args.specs.declared.args.Job.{Job}
use Rattle.rt1553_args.specs.declared.args.Job.TheVariants as job

-- the value of the argument `id` of the subcommand that was met
abbrev pub arg_of : Text → Option (Text × List Row) → Option (Option Text)
arg_of id met = option_map (λ p. first_of id p.1) met

-- the subcommand `name` was met
abbrev pub IsCalled : Text → Option (Text × List Row) → Type 0
IsCalled name met = option_map (λ p. p.0) met ≡ Some name

-- the subcommand `name` was met with this file
abbrev pub HasOneFile : Text → Text → Option (Text × List Row) → Type 0
HasOneFile name p met = IsCalled name met × (arg_of (codes "first") met ≡ Some (Some p))

-- the subcommand `name` was met with these two files
abbrev pub HasTwoFiles : Text → Text → Text → Option (Text × List Row) → Type 0
HasTwoFiles name p q met = IsCalled name met × (arg_of (codes "first") met ≡ Some (Some p)) × (arg_of (codes "second") met ≡ Some (Some q))

-- the arguments name this job
abbrev pub MeansJob : Job → Option (Text × List Row) → Type 0
MeansJob job.Standard met = met ≡ None
MeansJob (job.Check p) met = HasOneFile (codes "check") p.now met
MeansJob (job.Canon p) met = HasOneFile (codes "canon") p.now met
MeansJob (job.Run p q) met = HasTwoFiles (codes "run") p.now q.now met
MeansJob (job.Compare p q) met = HasTwoFiles (codes "compare") p.now q.now met

-- the arguments name no job
abbrev pub MeansNoJob : Option (Text × List Row) → Type 0
MeansNoJob met = (job : Job) → MeansJob job met → ⊥
