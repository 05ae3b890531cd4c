-- What is wrong with a unit, by the lines of what it sent in a slot and of what the terminal sends there, in a transcript: of a word, or empty.
use Rattle.std.specs.Prelude.{ℕ, ◌/◌, ◌%◌, ◌==◌, Bool, true, false, if◌then◌else◌, Option, Some, None, option_map, List, [], ◌∷◌, ◌++◌, codes}
use Rattle.std.specs.List.{flat_map}
use Rattle.std.specs.Option.{unwrap_or}
use Rattle.std.specs.Fmt.{decimal}
use Rattle.bus_word.specs.Cell.{same_bool}
use Rattle.bus_word.specs.Command.{address_of}
use Rattle.script_lines.specs.Digits.{word_of}
use Rattle.rt1553_report.specs.declared.fault.ReplyShown.{ReplyShown}
use Rattle.rt1553_report.specs.declared.fault.SlotWord.{SlotWord}
use Rattle.rt1553_report.specs.declared.fault.StatusBit.{StatusBit}
use Rattle.rt1553_report.specs.declared.fault.StatusBit.TheVariants.{MessageError, Instrumentation, ServiceRequest, Reserved1, Reserved2, Reserved3, BroadcastReceived, Busy, SubsystemFlag, BusControl, TerminalFlag}

-- the word of a line, as `A s 2800`; the bits of a data word that is left open, `A d ....`, count as 0
abbrev pub line_word : List ℕ → Option SlotWord
line_word (bus ∷ blank ∷ kind ∷ space ∷ a ∷ b ∷ c ∷ d ∷ rest) =
    Some (record { bus = bus; is_status = kind == 115; bits = unwrap_or (word_of (a ∷ b ∷ c ∷ d ∷ [])) 0 })
line_word _ = None

-- the bits of a status word behind its address, the first sent first (MIL-STD-1553B, 4.3.3.5.3)
abbrev pub all_status_bits : List StatusBit
all_status_bits = MessageError ∷ Instrumentation ∷ ServiceRequest ∷ Reserved1 ∷ Reserved2 ∷ Reserved3 ∷ BroadcastReceived ∷ Busy ∷ SubsystemFlag ∷ BusControl ∷ TerminalFlag ∷ []

abbrev pub bit_mask : StatusBit → ℕ
bit_mask MessageError = 0x0400
bit_mask Instrumentation = 0x0200
bit_mask ServiceRequest = 0x0100
bit_mask Reserved1 = 0x0080
bit_mask Reserved2 = 0x0040
bit_mask Reserved3 = 0x0020
bit_mask BroadcastReceived = 0x0010
bit_mask Busy = 0x0008
bit_mask SubsystemFlag = 0x0004
bit_mask BusControl = 0x0002
bit_mask TerminalFlag = 0x0001

abbrev pub bit_name : StatusBit → List ℕ
bit_name MessageError = codes "message error"
bit_name Instrumentation = codes "instrumentation"
bit_name ServiceRequest = codes "service request"
bit_name Reserved1 = codes "reserved bit 1"
bit_name Reserved2 = codes "reserved bit 2"
bit_name Reserved3 = codes "reserved bit 3"
bit_name BroadcastReceived = codes "broadcast command received"
bit_name Busy = codes "busy"
bit_name SubsystemFlag = codes "subsystem flag"
bit_name BusControl = codes "dynamic bus control acceptance"
bit_name TerminalFlag = codes "terminal flag"

-- the bit is set in a status word
abbrev pub is_bit_on : ℕ → StatusBit → Bool
is_bit_on word bit = word / bit_mask bit % 2 == 1

-- what is sent before this bit is the same in two status words
abbrev pub is_first : ℕ → ℕ → StatusBit → Bool
is_first recorded sent bit = recorded / bit_mask bit / 2 == sent / bit_mask bit / 2

-- what is told of a bit that differs, behind its name: the first is told in full
abbrev pub bit_state : Bool → Bool → List ℕ
bit_state first true = codes " is set"
bit_state true false = codes " is not set"
bit_state false false = codes " is not"

-- a bit that differs, the first one or another, which is set in what was recorded or not
abbrev pub differing_bit : Bool → Bool → List ℕ → List ℕ
differing_bit first set name = (if first then codes ": " else codes ", ") ++ name ++ bit_state first set

-- a bit of two status words, where it differs
abbrev pub bit_told : ℕ → ℕ → StatusBit → List ℕ
bit_told recorded sent bit =
    if same_bool (is_bit_on recorded bit) (is_bit_on sent bit) then []
    else differing_bit (is_first recorded sent bit) (is_bit_on recorded bit) (bit_name bit)

-- a status word in place of another one of its address
unfoldable pub other_bits : ℕ → ℕ → List ℕ
other_bits recorded sent = codes "another status word" ++ flat_map (bit_told recorded sent) all_status_bits

-- a status word in place of another one
abbrev pub other_status : ℕ → ℕ → List ℕ
other_status recorded sent =
    if address_of recorded == address_of sent then other_bits recorded sent
    else codes "another address: " ++ decimal (address_of recorded)

-- a word in place of another one on its bus, by whether each is a status word
abbrev pub other_word : SlotWord → SlotWord → Bool → Bool → List ℕ
other_word recorded sent true true = other_status recorded.bits sent.bits
other_word recorded sent true false = codes "a status word in place of a data word"
other_word recorded sent false true = codes "a data word in place of a status word"
other_word recorded sent false false = codes "another data word"

-- how many data words of a reply are missing, if that is known
abbrev pub shortfall : ℕ → List ℕ
shortfall missing = if missing == 0 then [] else codes " by " ++ decimal missing ++ (if missing == 1 then codes " word" else codes " words")

-- a reply is too short
abbrev pub too_short : ℕ → List ℕ
too_short missing = codes "the reply is too short" ++ shortfall missing

-- by how much a reply came too late, if that is known
abbrev pub lateness : List ℕ → List ℕ
lateness [] = []
lateness (b ∷ bs) = codes " by " ++ b ∷ bs

-- a reply came too late
abbrev pub too_late : List ℕ → List ℕ
too_late late = codes "the reply is too late" ++ lateness late

-- there is no reply, or it came too late
abbrev pub no_reply : Option (List ℕ) → List ℕ
no_reply None = codes "no reply"
no_reply (Some late) = too_late late

-- A reply begins with the status word, and data words follow. Where none came, one may have come too late, or so many data words are missing.
abbrev pub fault_by_words : Option (List ℕ) → ℕ → Option SlotWord → Option SlotWord → List ℕ
fault_by_words late missing None None = too_short missing
fault_by_words late missing None (Some sent) = if sent.is_status then no_reply late else too_short missing
fault_by_words late missing (Some recorded) None = if recorded.is_status then codes "no reply is due" else codes "the reply is too long"
fault_by_words late missing (Some recorded) (Some sent) =
    if recorded.bus == sent.bus then other_word recorded sent recorded.is_status sent.is_status
    else codes "the reply is on the other bus"

-- the text that is shown of a late reply
abbrev pub late_text : ReplyShown → Option (List ℕ)
late_text reply = option_map (λ late. late.now) reply.late

-- the same of two lines, and of what is shown of the reply
abbrev pub slot_fault : ReplyShown → List ℕ → List ℕ → List ℕ
slot_fault reply recorded sent = fault_by_words (late_text reply) reply.missing (line_word recorded) (line_word sent)
