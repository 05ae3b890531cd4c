-- Which message a command begins, in the words of a test bench: `RT 5 receive 3, 2 words`.
use Rattle.std.specs.Prelude.{ℕ, ◌==◌, if◌then◌else◌, List, ◌++◌, codes}
use Rattle.std.specs.Fmt.{decimal}
use Rattle.bus_word.specs.Command.{address_of, transmits, subaddress_of, code_of, count_of, is_mode, is_broadcast}

-- whom a command is for: all terminals, or the one of an address
abbrev pub bench_receiver : ℕ → List ℕ
bench_receiver c = if is_broadcast c then codes "all RT " else codes "RT " ++ decimal (address_of c) ++ codes " "

-- the direction, the subaddress and the word count of a message of data
abbrev pub bench_data : ℕ → List ℕ
bench_data c =
    (if transmits c then codes "transmit " else codes "receive ") ++ decimal (subaddress_of c) ++ codes ", " ++ decimal (count_of c)
    ++ (if count_of c == 1 then codes " word" else codes " words")

-- what a command asks for
abbrev pub bench_order : ℕ → List ℕ
bench_order c = if is_mode c then codes "mode code " ++ decimal (code_of c) else bench_data c

-- the message that a command begins
abbrev pub bench_message : ℕ → List ℕ
bench_message c = bench_receiver c ++ bench_order c
