-- What messages are called in texts, but for their word counts.
use Rattle.std.specs.Prelude.{ℕ, ◌++◌, [], List, if◌then◌else◌, codes}
use Rattle.std.specs.Fmt.{decimal}
use Rattle.bus_word.specs.declared.cell.Cell.{Cell}
use Rattle.bus_word.specs.declared.cell.Cell.TheVariants.{OwnReceive, OwnTransmit, BroadReceive, OwnMode, BroadMode}
use Rattle.bus_word.specs.Command.{is_broadcast, is_mode, transmits, subaddress_of, code_of}
use Rattle.bus_word.specs.Mode.{mode_name}

-- a mode code
abbrev pub mode_told : ℕ → List ℕ
mode_told c = codes "mode code " ++ decimal c ++ codes ", " ++ mode_name c

-- the messages of a cell
abbrev pub place_told : Cell → List ℕ
place_told (OwnReceive s n) = codes "receive " ++ decimal s
place_told (OwnTransmit s n) = codes "transmit " ++ decimal s
place_told (BroadReceive s n) = codes "broadcast receive " ++ decimal s
place_told (OwnMode c) = mode_told c
place_told (BroadMode c) = codes "broadcast " ++ mode_told c

-- the message of a command, whoever it is for
abbrev pub order_told : ℕ → List ℕ
order_told c =
    if is_mode c then codes "mode code " ++ decimal (code_of c) ++ codes " with T/R " ++ decimal (if transmits c then 1 else 0) ++ codes ", " ++ mode_name (code_of c)
    else (if transmits c then codes "transmit" else codes "receive") ++ codes " " ++ decimal (subaddress_of c)

-- the message that a command asks for
abbrev pub command_told : ℕ → List ℕ
command_told c = (if is_broadcast c then codes "broadcast " else []) ++ order_told c
