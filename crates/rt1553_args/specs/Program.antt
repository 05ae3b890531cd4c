-- The command line of the program, in clap's own definitions.
use Rattle.std.specs.Prelude.{ℕ, codes, true, List, Some}
use Rattle.clap.specs.Words.{App, Rule, new_app, new_rule, with_rule, with_subcommand}
use Rattle.clap.specs.declared.builder.ArgAction.TheVariants.{Set}

-- an argument that has to be there, and is there once
abbrev pub file_rule : List ℕ → Rule
file_rule id = record (new_rule id) { required = true; action = Some Set }

-- a subcommand of this name that takes one file
abbrev pub one_file_app : List ℕ → App
one_file_app name = with_rule (new_app name) (file_rule (codes "first"))

-- a subcommand of this name that takes two files
abbrev pub two_files_app : List ℕ → App
two_files_app name = with_rule (one_file_app name) (file_rule (codes "second"))

-- the four subcommands
abbrev pub program : App
program = with_subcommand (with_subcommand (with_subcommand (with_subcommand (new_app (codes "rt1553"))
    (one_file_app (codes "check")).top) (one_file_app (codes "canon")).top) (two_files_app (codes "run")).top) (two_files_app (codes "compare")).top
