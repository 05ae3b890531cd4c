-- Which word counts are legal where a command is.
use Rattle.std.specs.Prelude.{ℕ, Bool, false, if◌then◌else◌}
use Rattle.bus_word.specs.declared.cell.Cell.TheVariants.{OwnReceive, OwnTransmit, BroadReceive}
use Rattle.bus_word.specs.Command.{transmits, subaddress_of, is_broadcast}
use Rattle.bus_legal.specs.declared.tables.Tables.{Tables}
use Rattle.bus_legal.specs.Tables.{tables_say}

-- n words are legal at the subaddress of a command of data words, to its address and in its direction; no terminal transmits to all
abbrev pub is_count_legal : Tables → ℕ → ℕ → Bool
is_count_legal t command n =
    if transmits command
    then (if is_broadcast command then false else tables_say t (OwnTransmit (subaddress_of command) n))
    else (if is_broadcast command then tables_say t (BroadReceive (subaddress_of command) n) else tables_say t (OwnReceive (subaddress_of command) n))
