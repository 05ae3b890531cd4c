-- Why a line is no line of a script, in words.
use Rattle.std.specs.Prelude.{ℕ, List, codes}
use Rattle.refused_lines.specs.declared.reason.LineReason.{LineReason}
use Rattle.refused_lines.specs.declared.reason.LineReason.TheVariants.{Long, Mark, Return, Tab, Front, Spaces, End, Comment, Name, Spelling, OnBus, Sent, Digits, Parity, Subaddress, Number, Flag, Value, Much, Many, Answer, Message}

-- the words of a reason
abbrev pub reason_text : LineReason → List ℕ
reason_text Long = codes "over 64 bytes before the line feed"
reason_text Mark = codes "a byte order mark: save the file as UTF-8 without it"
reason_text Return = codes "a carriage return: a line ends in a line feed alone"
reason_text Tab = codes "a tab: fields are separated by one space"
reason_text Front = codes "a space at the front: a line begins with its first field"
reason_text Spaces = codes "a second space: fields are separated by exactly one"
reason_text End = codes "a space at the end: nothing may follow the last field"
reason_text Comment = codes "a comment after a field: a comment is a line of its own"
reason_text Name = codes "no event begins like this: it is A, B, slot, write, vector, bit or flag"
reason_text Spelling = codes "names have one spelling: A, B, slot, write, vector, bit, flag, c, d, gap, noise"
reason_text OnBus = codes "after a bus, c, d, gap or noise is expected"
reason_text Sent = codes "the terminal's own words are no events; the status word of another terminal is written as a word with c"
reason_text Digits = codes "a word is four hexadecimal digits, without a mark"
reason_text Parity = codes "a parity bit is 0 or 1"
reason_text Subaddress = codes "a subaddress is two digits, 01 to 30"
reason_text Number = codes "the number of a word is two digits, 01 to 32"
reason_text Flag = codes "a flag is service, busy, subsystem or terminal, in small letters"
reason_text Value = codes "a flag is set by 1 and taken back by 0"
reason_text Much = codes "nothing may follow the last field"
reason_text Many = codes "a script has at most 1,048,576 lines"
reason_text Answer = codes "looks like a stated answer and is a comment: one space comes after #>, #~ or #+, and none before it"
reason_text Message = codes "a message and no event: `expand` writes its events, and --expand reads messages"
