-- The statements that are returned, beside those of the text.
use Rattle.std.specs.Prelude.{ℕ, ◌-◌}
use Rattle.toml_parser.specs.declared.error.ParseError.{ParseError}
use Rattle.toml_parser.specs.declared.error.ParseError.TheVariants.{OutOfMemory, At}
use Rattle.toml_parser.specs.Strings.{Key}
use Rattle.toml_parser.specs.Reading.{key_view}
use Rattle.toml_places.specs.declared.fault.StatementsFault.{StatementsFault}
use Rattle.toml_places.specs.declared.fault.StatementsFault.TheVariants.{Memory, NotToml}
use Rattle.toml_places.specs.declared.statement.Statement.{Statement}
use Rattle.toml_places.specs.declared.statement.StatementKind.{StatementKind}
use Rattle.toml_places.specs.Parsed.{Placed, statement_kind}

-- a statement: how many bytes stand before it, its key, and what it is
abbrev pub Seen : Type 0
Seen = ℕ × Key × StatementKind

-- a statement of a text of this length
abbrev pub seen : ℕ → Placed → Seen
seen len p = (len - p.1, p.0.0, statement_kind p.0.1)

-- the same of a statement that was returned
abbrev pub statement_view : Statement → Seen
statement_view s = (s.at, key_view s.key, s.kind)

-- the fault that a fault of the parser is passed on as
abbrev pub fault_of : ParseError → StatementsFault
fault_of OutOfMemory = Memory
fault_of (At kind from to) = NotToml
