-- The two buses of a dual standby redundant system (MIL-STD-1553B, 4.6.3).
use Rattle.std.specs.Prelude.{Bool, true, false}
use Rattle.bus_word.specs.declared.word.Bus.{Bus}
use Rattle.bus_word.specs.declared.word.Bus.TheVariants.{A, B}

-- both are the same bus
abbrev pub same_bus : Bus → Bus → Bool
same_bus A A = true
same_bus B B = true
same_bus _ _ = false

-- the other bus
abbrev pub other : Bus → Bus
other A = B
other B = A
