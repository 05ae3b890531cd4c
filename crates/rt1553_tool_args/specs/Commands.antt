-- What the command line asks for, by what clap found in it.
use Rattle.std.specs.Prelude.{ℕ, ◌≡◌, ◌≢◌, ◌≤◌, ◌⊎◌, Bool, true, false, if◌then◌else◌, codes, List, [], ◌∷◌, map, Option, Some, None, option_map, IfSome}
use Rattle.std.specs.Option.{unwrap_or}
use Rattle.std.specs.Str.{bytes_eq}
use Rattle.std.specs.Str.Parse.{IsNumeral, digits_value}
use Rattle.std.specs.Borrow.{Bor}
use Rattle.clap.specs.Words.{Text, first_value, matched_of, raw_values, subcommand_name_of, subcommand_rows_of}
use Rattle.clap.specs.Walk.{rows_of}
use Rattle.clap.specs.declared.parser.matches.Found.{Found}
use Rattle.clap.specs.declared.parser.matches.ArgMatches.{ArgMatches}
use Rattle.rt1553_tool_args.specs.Dates.{is_date}
use Rattle.rt1553_tool_args.specs.declared.command.ToolCommand.{ToolCommand}
use Rattle.rt1553_tool_args.specs.declared.command.ToolCommand.TheVariants.{Lint, CheckScript, Verify, Witness, Monitor, Coverage, Infer, Import, CheckImport, Export, Expand, Toml, Explain, Differ, Acceptance, Against, Messages, Gather, Draw, Words, Live, Answers, Check, Canon, Run, Bus, Compare}
use Rattle.rt1553_tool_args.specs.declared.command.Profiles.{Profiles}
use Rattle.rt1553_tool_args.specs.declared.command.Profiles.TheVariants.{One, Folder}
use Rattle.rt1553_tool_args.specs.declared.command.ScriptKind.{ScriptKind}
use Rattle.rt1553_tool_args.specs.declared.command.ScriptKind.TheVariants.{Test, BusTest, Recording, LaterRecording}
use Rattle.rt1553_tool_args.specs.declared.command.LintFormat.{LintFormat}
use Rattle.rt1553_tool_args.specs.declared.command.LintFormat.TheVariants as lint
use Rattle.rt1553_tool_args.specs.declared.command.CoverageFormat.{CoverageFormat}
use Rattle.rt1553_tool_args.specs.declared.command.CoverageFormat.TheVariants as coverage
use Rattle.rt1553_tool_args.specs.declared.command.ReportFormat.{ReportFormat}
use Rattle.rt1553_tool_args.specs.declared.command.ReportFormat.TheVariants as report
use Rattle.rt1553_tool_args.specs.declared.command.MessagesFormat.{MessagesFormat}
use Rattle.rt1553_tool_args.specs.declared.command.MessagesFormat.TheVariants as messages
use Rattle.rt1553_tool_args.specs.declared.command.BusOutput.{BusOutput}
use Rattle.rt1553_tool_args.specs.declared.command.BusOutput.TheVariants as printed
use Rattle.rt1553_tool_args.specs.declared.command.AskedCheck.{AskedCheck}
use Rattle.rt1553_tool_args.specs.declared.command.CheckFormat.{CheckFormat}
use Rattle.rt1553_tool_args.specs.declared.command.CheckFormat.TheVariants as check
use Rattle.rt1553_tool_args.specs.declared.command.TestFormat.{TestFormat}
use Rattle.rt1553_tool_args.specs.declared.command.TestFormat.TheVariants.{Script, Csv, Json}

-- the texts
abbrev pub texts_of : List (Bor (List ℕ)) → List Text
texts_of = map (λ v. v.now)

-- all values of an argument, none where it is left out
abbrev pub all_values : Found → Text → List Text
all_values f id = unwrap_or (option_map raw_values (matched_of f id)) []

-- the first value of an argument is this text
abbrev pub is_value : Text → Option Text → Bool
is_value text None = false
is_value text (Some v) = bytes_eq v text

-- the argument has this value
abbrev pub HasValue : Found → Text → Text → Type 0
HasValue f id v = first_value f id ≡ Some v

-- the text is a number up to this one, in decimal digits
abbrev pub IsNumberUpTo : ℕ → Text → ℕ → Type 0
IsNumberUpTo most text n = IsNumeral 10 text × (digits_value 10 text ≡ n) × (n ≤ most)

-- the address of a terminal is this number
abbrev pub HasAddress : Found → ℕ → Type 0
HasAddress f a = (text : Text) × HasValue f (codes "address") text × IsNumberUpTo 30 text a

-- an address of the bus, 0 to 30 or all for 31, or none is given
abbrev pub HasBusAddress : Found → Option ℕ → Type 0
HasBusAddress f None = first_value f (codes "rt") ≡ None
HasBusAddress f (Some a) = (text : Text) × HasValue f (codes "rt") text × (((text ≡ codes "all") × (a ≡ 31)) ⊎ IsNumberUpTo 30 text a)

-- a subaddress, 0 to 31, or none is given
abbrev pub HasSubaddress : Found → Option ℕ → Type 0
HasSubaddress f None = first_value f (codes "subaddress") ≡ None
HasSubaddress f (Some s) = (text : Text) × HasValue f (codes "subaddress") text × IsNumberUpTo 31 text s

-- the address of one terminal of a bus, 0 to 30, or none is given
abbrev pub HasAlone : Found → Option ℕ → Type 0
HasAlone f None = first_value f (codes "alone") ≡ None
HasAlone f (Some a) = (text : Text) × HasValue f (codes "alone") text × IsNumberUpTo 30 text a

-- what is said of an option with a value: its value, where it is given
abbrev pub HasOption : Found → Text → Option (Bor Text) → Type 0
HasOption f id value = first_value f id ≡ option_map (λ v. v.now) value

-- the table with the names of messages
abbrev pub HasNames : Found → Option (Bor Text) → Type 0
HasNames f names = HasOption f (codes "names") names

-- the flag is given
abbrev pub is_given : Found → Text → Bool
is_given f id = is_value (codes "true") (first_value f id)

-- JSON is asked for
abbrev pub is_json : Found → Bool
is_json f = is_value (codes "json") (first_value f (codes "format"))

-- the argument, if it is there, before the others
abbrev pub first_and_rest : Option Text → List Text → List Text
first_and_rest None rest = rest
first_and_rest (Some first) rest = first ∷ rest

-- How the scripts of `verify` are played, and which they are. With a folder no profile stands before the scripts, so the first word is
-- a script.
abbrev pub PlaysTo : Found → Profiles → List Text → Type 0
PlaysTo f (One p) scripts = (first_value f (codes "profiles") ≡ None) × HasValue f (codes "profile") p.now × (scripts ≡ all_values f (codes "script"))
PlaysTo f (Folder folder) scripts = HasValue f (codes "profiles") folder.now × (scripts ≡ first_and_rest (first_value f (codes "profile")) (all_values f (codes "script")))

-- how the test is to be written
abbrev pub format_of : Option Text → TestFormat
format_of o = if is_value (codes "csv") o then Csv else if is_value (codes "json") o then Json else Script

-- how findings are to be written
abbrev pub lint_format_of : Option Text → LintFormat
lint_format_of o = if is_value (codes "json") o then lint.Json else if is_value (codes "sarif") o then lint.Sarif else lint.Text

-- how it is to be written what came in recordings
abbrev pub coverage_format_of : Option Text → CoverageFormat
coverage_format_of o = if is_value (codes "json") o then coverage.Json else if is_value (codes "html") o then coverage.Html else coverage.Text

-- how the messages of a run are to be written
abbrev pub messages_format_of : Option Text → MessagesFormat
messages_format_of o = if is_value (codes "csv") o then messages.Csv else if is_value (codes "json") o then messages.Json else messages.Text

-- how results of scripts are to be written
abbrev pub report_format_of : Option Text → ReportFormat
report_format_of o =
    if is_value (codes "json") o then report.Json
    else if is_value (codes "junit") o then report.Junit
    else if is_value (codes "html") o then report.Html
    else report.Text

-- how results are to be written, and whether what passes is, too, which only the text leaves open
abbrev pub AsksReport : Found → ReportFormat → Bool → Type 0
AsksReport f format summary =
    (format ≡ report_format_of (first_value f (codes "format"))) × (summary ≡ is_given f (codes "summary")) × (summary ≡ true → format ≡ report.Text)

-- the date of a report, where it is given: there is none in the text
abbrev pub HasDate : Found → ReportFormat → Option (Bor Text) → Type 0
HasDate f format date = HasOption f (codes "date") date × IfSome date (λ d. is_date d.now ≡ true) × (format ≡ report.Text → date ≡ None)

-- how it is to be written which messages of a bus do not end well
abbrev pub check_format_of : Option Text → CheckFormat
check_format_of o = if is_value (codes "json") o then check.Json else if is_value (codes "junit") o then check.Junit else check.Text

-- a time is the usual one, or a number of microseconds that is given
abbrev pub IsTimeOf : ℕ → Option Text → ℕ → Type 0
IsTimeOf usual None t = t ≡ usual
IsTimeOf usual (Some text) t = IsNumberUpTo 1000 text t

-- How messages of a bus are to be checked. The usual times are the longest response (4.3.3.8), and the shortest gap (4.3.3.7).
abbrev pub AsksCheck : Found → AskedCheck → Type 0
AsksCheck f asked =
    (asked.format ≡ check_format_of (first_value f (codes "format"))) × IsTimeOf 12 (first_value f (codes "response")) asked.response
    × IsTimeOf 4 (first_value f (codes "gap")) asked.gap × HasDate f (report_format_of (first_value f (codes "format"))) asked.date

-- no option is given that is for such a check alone
abbrev pub HasNoCheck : Found → Type 0
HasNoCheck f =
    (is_value (codes "json") (first_value f (codes "format")) ≡ false) × (is_value (codes "junit") (first_value f (codes "format")) ≡ false)
    × (first_value f (codes "names") ≡ None) × (first_value f (codes "date") ≡ None) × (first_value f (codes "response") ≡ None)
    × (first_value f (codes "gap") ≡ None)

-- what `bus` is to print: at most one of the three options is given
abbrev pub AsksOutput : Found → BusOutput → Type 0
AsksOutput f printed.Transcript = HasAlone f None × (is_given f (codes "messages") ≡ false) × (is_given f (codes "check") ≡ false) × HasNoCheck f
AsksOutput f (printed.CameTo a) = HasAlone f (Some a) × (is_given f (codes "messages") ≡ false) × (is_given f (codes "check") ≡ false) × HasNoCheck f
AsksOutput f printed.Messages = HasAlone f None × (is_given f (codes "messages") ≡ true) × (is_given f (codes "check") ≡ false) × HasNoCheck f
AsksOutput f (printed.Check asked) = HasAlone f None × (is_given f (codes "messages") ≡ false) × (is_given f (codes "check") ≡ true) × AsksCheck f asked

-- no format of reports alone is given, and no date
abbrev pub HasNoReport : Found → Type 0
HasNoReport f =
    (is_value (codes "junit") (first_value f (codes "format")) ≡ false) × (is_value (codes "html") (first_value f (codes "format")) ≡ false)
    × (first_value f (codes "date") ≡ None)

-- what the scripts are to be
abbrev pub AsksKind : Found → ScriptKind → Type 0
AsksKind f Test = (is_given f (codes "bus-only") ≡ false) × (is_given f (codes "any-subsystem") ≡ false) × (is_given f (codes "already-on") ≡ false)
AsksKind f BusTest = (is_given f (codes "bus-only") ≡ true) × (is_given f (codes "any-subsystem") ≡ false) × (is_given f (codes "already-on") ≡ false)
AsksKind f Recording = (is_given f (codes "bus-only") ≡ false) × (is_given f (codes "any-subsystem") ≡ true) × (is_given f (codes "already-on") ≡ false)
AsksKind f LaterRecording = (is_given f (codes "bus-only") ≡ false) × (is_given f (codes "any-subsystem") ≡ true) × (is_given f (codes "already-on") ≡ true)

-- the name of a command
abbrev pub command_name : ToolCommand → Text
command_name (Lint files format) = codes "lint"
command_name (CheckScript scripts) = codes "check-script"
command_name (Verify asked scripts) = codes "verify"
command_name (Witness asked) = codes "verify"
command_name (Monitor asked) = codes "recording"
command_name (Coverage asked scripts) = codes "coverage"
command_name (Infer asked) = codes "infer"
command_name (Import table) = codes "import"
command_name (CheckImport table p) = codes "import"
command_name (Export p) = codes "export"
command_name (Expand messages profile) = codes "expand"
command_name (Toml p) = codes "toml"
command_name (Explain p json names) = codes "explain"
command_name (Differ asked) = codes "differ"
command_name (Acceptance p format names) = codes "acceptance"
command_name (Against asked) = codes "acceptance"
command_name (Messages asked) = codes "messages"
command_name (Gather asked) = codes "messages"
command_name (Draw asked) = codes "draw"
command_name Words = codes "words"
command_name (Live p) = codes "live"
command_name (Answers asked) = codes "answers"
command_name (Check p) = codes "check"
command_name (Canon p) = codes "canon"
command_name (Run p script) = codes "run"
command_name (Bus asked profiles tables) = codes "bus"
command_name (Compare p q) = codes "compare"

-- what a command says of its arguments
abbrev pub Asks : Found → ToolCommand → Type 0
Asks f (Lint files format) = (texts_of files.items ≡ all_values f (codes "profile")) × (format ≡ lint_format_of (first_value f (codes "format")))
Asks f (CheckScript scripts) = texts_of scripts.items ≡ all_values f (codes "script")
Asks f (Verify asked scripts) =
    PlaysTo f asked.profiles (texts_of scripts.items) × (scripts.items ≢ []) × AsksKind f asked.kind × (asked.expand ≡ is_given f (codes "expand"))
    × AsksReport f asked.format asked.summary × HasNames f asked.names × HasDate f asked.format asked.date × (is_given f (codes "witness") ≡ false)
Asks f (Witness asked) =
    PlaysTo f (One asked.profile) (asked.script.now ∷ []) × AsksKind f asked.kind × ((asked.kind ≡ Recording) ⊎ (asked.kind ≡ LaterRecording))
    × (asked.expand ≡ is_given f (codes "expand")) × AsksReport f report.Text false × HasNames f asked.names × HasDate f report.Text None × (is_given f (codes "witness") ≡ true)
Asks f (Monitor asked) =
    HasValue f (codes "table") asked.table.now × HasAddress f asked.address × HasOption f (codes "gap") asked.gap
    × HasOption f (codes "no-response") asked.no_response × HasOption f (codes "pause") asked.pause
    × HasOption f (codes "after-reset") asked.after_reset × HasOption f (codes "after-self-test") asked.after_self_test
Asks f (Coverage asked scripts) =
    HasValue f (codes "profile") asked.profile.now × (texts_of scripts.items ≡ all_values f (codes "script"))
    × (asked.expand ≡ is_given f (codes "expand")) × (asked.format ≡ coverage_format_of (first_value f (codes "format"))) × HasNames f asked.names
Asks f (Infer asked) =
    HasValue f (codes "script") asked.script.now × HasAddress f asked.address
    × (asked.unseen_is_legal ≡ is_value (codes "legal") (first_value f (codes "unseen"))) × (asked.expand ≡ is_given f (codes "expand"))
Asks f (Import table) = HasValue f (codes "table") table.now × (first_value f (codes "profile") ≡ None) × (is_given f (codes "check") ≡ false)
Asks f (CheckImport table p) = HasValue f (codes "table") table.now × HasValue f (codes "profile") p.now × (is_given f (codes "check") ≡ true)
Asks f (Export p) = HasValue f (codes "profile") p.now
Asks f (Expand messages profile) = HasValue f (codes "messages") messages.now × HasOption f (codes "for") profile
Asks f (Toml p) = HasValue f (codes "profile") p.now
Asks f (Explain p json names) = HasValue f (codes "profile") p.now × (json ≡ is_json f) × HasNames f names
Asks f (Differ asked) =
    HasValue f (codes "profile") asked.profile.now × HasValue f (codes "other") asked.other.now × (asked.scripts ≡ is_given f (codes "scripts"))
    × (asked.as_json ≡ is_json f) × HasNames f asked.names
Asks f (Acceptance p format names) =
    HasValue f (codes "profile") p.now × (first_value f (codes "against") ≡ None) × (is_given f (codes "any-subsystem") ≡ false)
    × (format ≡ format_of (first_value f (codes "format"))) × HasNames f names × HasNoReport f
Asks f (Against asked) =
    HasValue f (codes "profile") asked.profile.now × HasValue f (codes "against") asked.results.now × (asked.any_subsystem ≡ is_given f (codes "any-subsystem"))
    × (is_value (codes "csv") (first_value f (codes "format")) ≡ false) × (asked.format ≡ report_format_of (first_value f (codes "format")))
    × HasNames f asked.names × HasDate f asked.format asked.date
Asks f (Messages asked) =
    HasValue f (codes "profile") asked.profile.now × HasValue f (codes "script") asked.script.now × (asked.expand ≡ is_given f (codes "expand"))
    × HasBusAddress f asked.address × HasSubaddress f asked.subaddress × (asked.errors ≡ is_given f (codes "errors"))
    × (asked.format ≡ messages_format_of (first_value f (codes "format"))) × HasNames f asked.names
Asks f (Gather asked) =
    HasValue f (codes "profile") asked.profile.now × HasValue f (codes "script") asked.script.now × (asked.expand ≡ is_given f (codes "expand"))
    × HasValue f (codes "format") (codes "messages") × HasBusAddress f None × HasSubaddress f None × (is_given f (codes "errors") ≡ false) × HasNames f None
Asks f (Draw asked) =
    HasValue f (codes "profile") asked.profile.now × HasValue f (codes "script") asked.script.now × (asked.expand ≡ is_given f (codes "expand"))
    × (asked.html ≡ is_given f (codes "html")) × HasNames f asked.names
Asks f Words = Unit {0}
Asks f (Live p) = HasValue f (codes "profile") p.now
Asks f (Answers asked) =
    HasValue f (codes "profile") asked.profile.now × HasValue f (codes "script") asked.script.now × (asked.expand ≡ is_given f (codes "expand"))
Asks f (Check p) = HasValue f (codes "profile") p.now
Asks f (Canon p) = HasValue f (codes "profile") p.now
Asks f (Run p script) = HasValue f (codes "profile") p.now × HasValue f (codes "script") script.now
Asks f (Bus asked profiles tables) =
    HasValue f (codes "script") asked.script.now × (asked.expand ≡ is_given f (codes "expand")) × AsksOutput f asked.output
    × (texts_of profiles.items ≡ all_values f (codes "profile")) × (texts_of tables.items ≡ all_values f (codes "names"))
Asks f (Compare p q) = HasValue f (codes "profile") p.now × HasValue f (codes "other") q.now

-- clap met the subcommand of this command, with these arguments
pub record IsAskedBy (m : ArgMatches) (command : ToolCommand) : Type 0 where
  pub found : Found
  pub name : subcommand_name_of m ≡ Some (command_name command)
  pub rows : option_map (λ p. p.1) (subcommand_rows_of m) ≡ Some (rows_of found)
  pub asks : Asks found command
