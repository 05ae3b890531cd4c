-- What the fields of a row say.
use Rattle.std.specs.Prelude.{ℕ, ◌≤◌, Bool, true, false, ◌||◌, ◌/◌, ◌%◌, nat_eq, nat_lt, if◌then◌else◌, Option, Some, None, List, [], ◌∷◌, ◌++◌, length, take, drop, ◌-◌, codes, decimal, ⊤}
use Rattle.std.specs.List.{flat_map}
use Rattle.std.specs.Option.{option_map}
use Rattle.bus_word.specs.Command.{address_of, subaddress_of, code_of, count_of, is_mode}
use Rattle.terminal_rules.specs.Out.{Handing}
use Rattle.bus_terminal.specs.Answer.{shown_copy}
use Rattle.script_lines.specs.Digits.{digits_of}
use Rattle.script_lines.specs.Transcript.{bus_letter, word_field, hand_text}
use Rattle.terminal_messages.specs.declared.ending.ErrorCause.{ErrorCause}
use Rattle.terminal_messages.specs.declared.ending.ErrorCause.TheVariants.{WordCount, InvalidWord, CommandWithin, GapWithin, NoStatus}
use Rattle.terminal_messages.specs.declared.ending.IgnoreCause.{IgnoreCause}
use Rattle.terminal_messages.specs.declared.ending.IgnoreCause.TheVariants.{Reply, NoGap}
use Rattle.terminal_messages.specs.declared.ending.Unsent.{Unsent}
use Rattle.terminal_messages.specs.declared.ending.Unsent.TheVariants.{ShutDown, Dropped}
use Rattle.terminal_messages.specs.declared.ending.MessageEnding.{MessageEnding}
use Rattle.terminal_messages.specs.declared.ending.MessageEnding.TheVariants as ended
use Rattle.terminal_messages.specs.Ends.{handed_in}
use Rattle.terminal_messages.specs.View.{View}
use Rattle.message_rows.specs.declared.commands.MessageForm.{MessageForm}
use Rattle.message_rows.specs.declared.commands.MessageForm.TheVariants.{Receive, Transmit, Mode, Transfer}
use Rattle.message_rows.specs.declared.field.Field.{Field}
use Rattle.message_rows.specs.declared.field.Field.TheVariants as field
use Rattle.message_rows.specs.Commands.{form_by}
use Rattle.message_rows.specs.StatusBits.{is_bit_set, named_bits}

-- a text, or nothing
abbrev pub text_or_none : Option (List ℕ) → List ℕ
text_or_none None = []
text_or_none (Some text) = text

-- what a message is called by its form
abbrev pub form_name : MessageForm → List ℕ
form_name Receive = codes "rx"
form_name Transmit = codes "tx"
form_name Mode = codes "mode"
form_name Transfer = codes "transfer"

-- how a message ended
abbrev pub end_name : MessageEnding → List ℕ
end_name ended.Other = codes "other"
end_name ended.Open = codes "open"
end_name (ended.Ignored cause) = codes "ignored"
end_name ended.Superseded = codes "superseded"
end_name (ended.InError cause) = codes "in error"
end_name ended.Illegal = codes "illegal"
end_name ended.Busy = codes "busy"
end_name ended.Done = codes "done"

abbrev pub cause_name : ErrorCause → List ℕ
cause_name WordCount = codes "wrong word count"
cause_name InvalidWord = codes "invalid word or noise"
cause_name CommandWithin = codes "command within"
cause_name GapWithin = codes "gap within"
cause_name NoStatus = codes "no status from the transmitter"

abbrev pub ignore_name : IgnoreCause → List ℕ
ignore_name Reply = codes "during a reply"
ignore_name NoGap = codes "no gap after a command"

abbrev pub unsent_name : Option Unsent → Option (List ℕ)
unsent_name None = None
unsent_name (Some ShutDown) = Some (codes "transmitter shut down")
unsent_name (Some Dropped) = Some (codes "reply dropped by a command on the other bus")

-- why it ended so, or why its reply is missing or cut
abbrev pub why : MessageEnding → Option Unsent → Option (List ℕ)
why (ended.InError cause) u = Some (cause_name cause)
why (ended.Ignored cause) u = Some (ignore_name cause)
why x u = unsent_name u

-- how it ended, and why
abbrev pub with_why : List ℕ → Option (List ℕ) → List ℕ
with_why text None = text
with_why text (Some reason) = text ++ (codes ": " ++ reason)

-- the subaddress of a command, or its mode code
abbrev pub place_number : ℕ → ℕ
place_number c = if is_mode c then code_of c else subaddress_of c

abbrev pub place_shown : ℕ → List ℕ
place_shown c = (if is_mode c then codes "mode " else []) ++ decimal (place_number c)

-- an address: 31 is that of all terminals
abbrev pub address_told : ℕ → List ℕ
address_told n = if nat_eq n 31 then codes "all" else decimal n

-- the transmitter of a transfer: its address and place
abbrev pub transmitter_told : Option ℕ → List ℕ
transmitter_told None = []
transmitter_told (Some c) = decimal (address_of c) ++ (codes " " ++ place_shown c)

abbrev pub number_or_none : Option ℕ → List ℕ
number_or_none None = []
number_or_none (Some n) = decimal n

abbrev pub digits_or_none : Option ℕ → List ℕ
digits_or_none None = []
digits_or_none (Some word) = digits_of word

-- words with a space between two
abbrev pub spaced : List ℕ → List ℕ
spaced [] = []
spaced (word ∷ words) = digits_of word ++ flat_map word_field words

-- data words, and how many are left out
abbrev pub words_told : List ℕ → ℕ → List ℕ
words_told words left_out = spaced words ++ (if nat_lt 0 left_out then codes " and " ++ (decimal left_out ++ codes " more") else [])

-- what was handed over: its line in a transcript, without `hand ` before it and the line feed behind it
abbrev pub handing_told : Handing → List ℕ
handing_told handing = take (length (hand_text handing) - 6) (drop 5 (hand_text handing))

abbrev pub handed_told : Option Handing → List ℕ
handed_told None = []
handed_told (Some handing) = handing_told handing

-- the name of the bit of this place value, if it is set: behind a space, if something stands before it
abbrev pub bit_named : Bool → ℕ → ℕ → List ℕ → List ℕ
bit_named behind word place name =
    if is_bit_set word place then (if behind || nat_lt 0 (word % 2048 / place / 2) then 32 ∷ name else name) else []

-- the names of the bits of a status word that are set, with a space between two
abbrev pub bits_told : Bool → ℕ → List ℕ
bits_told behind word = flat_map (λ bit. bit_named behind word bit.0 bit.1) named_bits

abbrev pub bits_or_none : Option ℕ → List ℕ
bits_or_none None = []
bits_or_none (Some word) = bits_told false word

abbrev pub status_told : Option ℕ → List ℕ
status_told None = []
status_told (Some word) = digits_of word ++ bits_told true word

-- what a field says
abbrev pub field_told : Field → List ℕ
field_told (field.Text text) = text_or_none (option_map (λ t. t.now) text)
field_told (field.Number n) = decimal n
field_told (field.Small n) = number_or_none n
field_told (field.Address n) = address_told n
field_told (field.Place c) = place_shown c
field_told (field.Transmitter c) = transmitter_told c
field_told (field.End m) = with_why (end_name m.now.state.«end») (why m.now.state.«end» m.now.state.unsent)
field_told (field.Words m) = words_told m.now.words.items m.now.left_out
field_told (field.Handed a) = handed_told (handed_in (shown_copy a.now))
field_told (field.Digits word) = digits_or_none word
field_told (field.Bits word) = bits_or_none word
field_told (field.Status word) = status_told word

-- a text that is no name has at most 400 bytes, as what any other field says
abbrev pub IsShortField : Field → Type 0
IsShortField (field.Text text) = length (text_or_none (option_map (λ t. t.now) text)) ≤ 400
IsShortField _ = ⊤

-- the fields of the row of a message, as a table without names has them
abbrev pub fields_told : View → List (List ℕ)
fields_told m =
    let c = m.state.command in
    decimal m.number ∷ decimal m.place ∷ bus_letter m.state.bus ∷ form_name (form_by m.state.second c)
    ∷ address_told (address_of c) ∷ decimal (subaddress_of c)
    ∷ number_or_none (if is_mode c then Some (code_of c) else None) ∷ number_or_none (if is_mode c then None else Some (count_of c))
    ∷ digits_of c ∷ digits_or_none m.state.second
    ∷ end_name m.state.«end» ∷ text_or_none (why m.state.«end» m.state.unsent)
    ∷ words_told m.words m.left_out ∷ digits_or_none m.state.status ∷ bits_or_none m.state.status ∷ handed_told m.handed ∷ []

abbrev pub comma_first : List ℕ → List ℕ
comma_first text = 44 ∷ text

abbrev pub comma_joined : List (List ℕ) → List ℕ
comma_joined [] = []
comma_joined (text ∷ texts) = text ++ flat_map comma_first texts

-- the row of a message as a line
abbrev pub row_line : View → List ℕ
row_line m = comma_joined (fields_told m) ++ codes "\n"
