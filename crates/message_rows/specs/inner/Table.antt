-- Tables.
use Rattle.csv.specs.declared.parser.Terminator.TheVariants.{CRLF}
use Rattle.csv.specs.declared.writer.WriterBuilder.{WriterBuilder}
use Rattle.csv.specs.Writing.{default_writer, with_terminator}

-- a writer of RFC 4180: each line ends in CR and LF
abbrev pub rows_writer : WriterBuilder
rows_writer = with_terminator default_writer CRLF
