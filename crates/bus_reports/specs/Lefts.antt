-- What is told of what lines leave behind.
use Rattle.std.specs.Prelude.{ℕ, ◌/◌, ◌%◌, List, [], ◌++◌, codes, decimal, Option, Some, None}
use Rattle.bus_word.specs.declared.word.Bus.{Bus}
use Rattle.bus_word.specs.declared.word.Bus.TheVariants.{A, B}
use Rattle.terminal_schedules.specs.declared.left.LeftBehind.{LeftBehind}
use Rattle.terminal_schedules.specs.declared.left.LeftBehind.TheVariants.{Message, WordInRun, Reply, ShutDown, Busy, MessageError}
use Rattle.terminal_schedules.specs.declared.left.LeftAt.{LeftAt}
use Rattle.bus_reports.specs.declared.judged.PartLeft.{PartLeft}

abbrev pub letter_of : Bus → List ℕ
letter_of A = codes "A"
letter_of B = codes "B"

-- how a terminal is left
abbrev pub left_words : LeftBehind → List ℕ
left_words (Message b) = codes "in a message on bus " ++ letter_of b
left_words (WordInRun b) = codes "with a word and no gap behind it on bus " ++ letter_of b
left_words Reply = codes "with a reply to send"
left_words (ShutDown b) = codes "with its transmitter shut down on bus " ++ letter_of b
left_words Busy = codes "busy"
left_words MessageError = codes "with message error in the status that it keeps"

-- the bus of what is left behind, where it is on one
abbrev pub left_bus : LeftBehind → Option (List ℕ)
left_bus (Message b) = Some (letter_of b)
left_bus (WordInRun b) = Some (letter_of b)
left_bus (ShutDown b) = Some (letter_of b)
left_bus _ = None

abbrev pub bus_told : Option (List ℕ) → List ℕ
bus_told None = []
bus_told (Some letter) = letter

-- with its address, in two digits
abbrev pub left_told : LeftAt → List ℕ
left_told left = codes "leaves terminal " ++ (decimal (left.address / 10) ++ (decimal (left.address % 10) ++ (codes " " ++ left_words left.what)))

-- the line that tells it of a line of the file of this name
abbrev pub line_of_left : List ℕ → ℕ → Option LeftAt → List ℕ
line_of_left file line None = []
line_of_left file line (Some left) = file ++ (codes ":" ++ (decimal line ++ (codes ": " ++ (left_told left ++ codes "\n"))))

abbrev pub left_line : List ℕ → PartLeft → List ℕ
left_line file part = line_of_left file part.line part.left
