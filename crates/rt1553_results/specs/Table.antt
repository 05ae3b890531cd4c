-- The table of the acceptance test: CSV (RFC 4180), a record for each row.
use Rattle.std.specs.Prelude.{ℕ, ◌-◌, Bool, true, false, Option, Some, None, List, [], ◌∷◌, ◌++◌, length, take, drop, codes, decimal}
use Rattle.std.specs.List.{flat_map}
use Rattle.csv.specs.declared.parser.Terminator.TheVariants.{CRLF}
use Rattle.csv.specs.declared.writer.WriterBuilder.{WriterBuilder}
use Rattle.csv.specs.Writing.{default_writer, with_terminator, row_text}
use Rattle.bus_legal.specs.Description.{Description}
use Rattle.terminal_rules.specs.Out.{Handing}
use Rattle.script_lines.specs.Digits.{digits_of}
use Rattle.script_lines.specs.Transcript.{word_field, hand_text}
use Rattle.rt1553_acceptance.specs.Label.{label_of}
use Rattle.rt1553_results.specs.Rows.{Answered}

-- words, four hexadecimal digits each, with a space between two
abbrev pub words_text : List ℕ → List ℕ
words_text [] = []
words_text (word ∷ words) = digits_of word ++ flat_map word_field words

-- a reply: its words, or that there is none
abbrev pub reply_text : List ℕ → List ℕ
reply_text [] = codes "none"
reply_text (word ∷ words) = words_text (word ∷ words)

-- a line of a transcript without `hand ` before it and the line feed behind it
abbrev pub inner_text : List ℕ → List ℕ
inner_text line = take (length line - 6) (drop 5 line)

-- what is handed over, as in a transcript
abbrev pub handed_text : Option Handing → List ℕ
handed_text None = []
handed_text (Some handing) = inner_text (hand_text handing)

-- a writer of RFC 4180: each line ends in CR and LF
abbrev pub table_writer : WriterBuilder
table_writer = with_terminator default_writer CRLF

-- the names of the columns
abbrev pub columns : List (List ℕ)
columns = codes "number" ∷ codes "tries" ∷ codes "command" ∷ codes "data" ∷ codes "expected" ∷ codes "handed" ∷ []

-- the fields of row number n, of the terminal of P
abbrev pub csv_fields : Description → ℕ → Answered → List (List ℕ)
csv_fields P n row =
    decimal n
    ∷ label_of P row.exchange.command
    ∷ digits_of row.exchange.command
    ∷ words_text row.exchange.words
    ∷ reply_text row.reply
    ∷ handed_text row.handed
    ∷ []

-- one field more for the name of the message, where there are names
abbrev pub name_field : Option (List ℕ) → List (List ℕ)
name_field None = []
name_field (Some name) = name ∷ []

-- the column of the names of messages, where there are names
abbrev pub name_column : Bool → Option (List ℕ)
name_column true = Some (codes "name")
name_column false = None

-- the bytes of the header, and of a row
abbrev pub csv_header : Bool → List ℕ
csv_header with_names = row_text table_writer (columns ++ name_field (name_column with_names))

-- the bytes of row number n, with the name of its message where there is one
abbrev pub csv_row : Description → ℕ → Answered → Option (List ℕ) → List ℕ
csv_row P n row name = row_text table_writer (csv_fields P n row ++ name_field name)
