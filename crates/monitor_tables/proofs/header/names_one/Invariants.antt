use Rattle.std.proofs.Common.{◌≡◌, drop}
use Rattle.monitor_tables.specs.Header.{names_one}
use Rattle.monitor_tables.proofs.header.names_one.Given as goal

-- no column so far has that name
abbrev pub invariant-columns : goal.invariant-columns
invariant-columns l = names_one l.columns l.text ≡ names_one (drop l.column-index l.columns) l.text
