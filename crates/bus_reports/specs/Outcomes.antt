-- Which messages of a file are told, and what comes of the file.
use Rattle.std.specs.Prelude.{ℕ, ◌≡◌, Bool, false, not, ◌&&◌, ◌==◌, ◌++◌, if◌then◌else◌, List, length, filter, codes, Option, Some, None, is_some}
use Rattle.std.specs.String.{string_bytes}
use Rattle.bus_reports.specs.declared.report.CheckOutcome.{CheckOutcome}
use Rattle.bus_reports.specs.declared.report.CheckOutcome.TheVariants.{Judged, Refused}
use Rattle.bus_reports.specs.declared.judged.JudgedMessage.{JudgedMessage}
use Rattle.bus_reports.specs.declared.judged.Judgement.{Judgement}
use Rattle.bus_reports.specs.declared.judged.PartLeft.{PartLeft}

-- a message is told: one of its two playings shows a reason
abbrev pub has_trouble : JudgedMessage → Bool
has_trouble message = not ((length message.alone.items == 0) && (length message.in_run.items == 0))

-- how many messages are told
abbrev pub told_among : Judgement → ℕ
told_among judged = length (filter has_trouble judged.messages.items)

-- a line leaves something behind
abbrev pub leaves_something : PartLeft → Bool
leaves_something part = is_some part.left

-- each message ends well, in every order: none is told, and no line leaves anything behind
abbrev pub in_every_order : Judgement → Bool
in_every_order judged = (told_among judged == 0) && (length (filter leaves_something judged.lefts.items) == 0)

-- the same of a file, which was played then
abbrev pub file_in_every_order : CheckOutcome → Bool
file_in_every_order (Judged judged) = in_every_order judged
file_in_every_order (Refused reason) = false

-- the file was played, and no message is told
abbrev pub file_passes : CheckOutcome → Bool
file_passes (Judged judged) = told_among judged == 0
file_passes (Refused reason) = false

-- how many messages the file has that was played
abbrev pub file_messages : CheckOutcome → Option ℕ
file_messages (Judged judged) = Some (length judged.messages.items)
file_messages (Refused reason) = None

-- why it was not played
abbrev pub file_fault : CheckOutcome → Option (List ℕ)
file_fault (Judged judged) = None
file_fault (Refused reason) = Some (string_bytes reason)

-- The text ends with these words: none is told, in this order or in every order, or so many are.
abbrev pub EndsWith : List ℕ → List ℕ → Type 0
EndsWith words text = (front : List ℕ) × (text ≡ front ++ words)

abbrev pub well_words : Bool → List ℕ
well_words every = if every then codes ": each ends well, in every order\n" else codes ": all end well; in another order some may not\n"

abbrev pub last_words : ℕ → Bool → List ℕ
last_words told every = if told == 0 then well_words every else codes "n't end well\n"
