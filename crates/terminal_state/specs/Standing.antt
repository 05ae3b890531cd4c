-- What a terminal keeps of the message in progress on a bus: not its run, but what can still become of it.
use Rattle.std.specs.Prelude.{ℕ, Bool, false, ◌&&◌, ◌==◌, nat_le, nat_lt, if◌then◌else◌, Option, Some, None, List, [], ◌∷◌, ◌++◌, length}
use Rattle.bus_word.specs.declared.word.Raw.{Raw}
use Rattle.bus_word.specs.Command.{is_receive, is_broadcast, expected}
use Rattle.bus_legal.specs.Description.{Description}
use Rattle.terminal_rules.specs.History.{Entry, Ending, Nothing, Badly}
use Rattle.terminal_rules.specs.Open.{MessageState, Open, Idle, Collects, Waits, Resumes, transmitter, transmitter_at, status_at}
use Rattle.terminal_rules.specs.Starts.{is_free, starts_message}
use Rattle.terminal_rules.specs.Ends.{data_words, data_of, well}

-- what was collected: at most 32 data words; just a command to the transmitter of a transfer; or what can
-- neither end well nor wait
pub data Collected : Type 0 where
  Words : (words : List ℕ) → Collected
  Transmitter : (address : ℕ) → Collected
  Spoilt : Collected

-- the transmitter that is addressed, where only that command followed
abbrev pub lone_transmitter : Description → List Entry → Option ℕ
lone_transmitter P (x ∷ []) = transmitter P x
lone_transmitter P _ = None

-- what is kept of an entry that is no data word: the transmitter that it addresses, where it does
abbrev pub transmitter_or_spoilt : Option ℕ → Collected
transmitter_or_spoilt None = Spoilt
transmitter_or_spoilt (Some a) = Transmitter a

-- no command takes more than 32 words
abbrev pub few : List ℕ → Collected
few ds = if nat_le (length ds) 32 then Words ds else Spoilt

-- what is kept of what followed: its data words where it is nothing else, or the transmitter of a lone command
abbrev pub collected_by : Description → List Entry → Option (List ℕ) → Collected
collected_by P after None = transmitter_or_spoilt (lone_transmitter P after)
collected_by P after (Some ds) = few ds

-- what is kept of what followed
abbrev pub collected_of : Description → List Entry → Collected
collected_of P after = collected_by P after (data_words after)

-- how the message on a bus stands: its state, with what was collected
abbrev pub Standing : Type 0
Standing = MessageState Collected

-- what is kept of the message in progress
abbrev pub standing_of : Description → Open → Standing
standing_of P Idle = Idle
standing_of P (Collects c after) = Collects c (collected_of P after)
standing_of P (Waits c a) = Waits c a
standing_of P (Resumes c after) = Resumes c (collected_of P after)

-- one word more, where there is room
abbrev pub more : List ℕ → ℕ → Collected
more ds d = if nat_lt (length ds) 32 then Words (ds ++ d ∷ []) else Spoilt

-- something other than a data word came after these words: a transfer only where there are none
abbrev pub first_other : List ℕ → Option ℕ → Collected
first_other [] a = transmitter_or_spoilt a
first_other (d ∷ ds) a = Spoilt

-- one entry more came after these words
abbrev pub next_word : List ℕ → Option ℕ → Option ℕ → Collected
next_word ds (Some d) a = more ds d
next_word ds None a = first_other ds a

-- what was collected with one entry more: d are its data bits, a is the transmitter that it addresses
abbrev pub next : Collected → Option ℕ → Option ℕ → Collected
next (Words ds) d a = next_word ds d a
next (Transmitter b) d a = Spoilt
next Spoilt d a = Spoilt

-- the words with which a message ends well
abbrev pub whole_of : ℕ → Collected → Option (List ℕ)
whole_of c (Words ds) = if length ds == expected c then Some ds else None
whole_of c (Transmitter a) = None
whole_of c Spoilt = None

-- the transfer for whose status a message comes to wait
abbrev pub transfer_of : ℕ → Collected → Option (ℕ × ℕ)
transfer_of c (Words ds) = None
transfer_of c Spoilt = None
transfer_of c (Transmitter a) = if is_receive c then Some (c, a) else None

-- how a gap ends what stands: not, in error, or with its words
pub data GapEnd : Type 0 where
  NoEnd : GapEnd
  InError : (command : ℕ) → GapEnd
  Complete : (command : ℕ) → (words : List ℕ) → GapEnd

-- a gap ends a message that has its words, or makes a transfer wait, or ends the message in error
abbrev pub gap_end_of : ℕ → Option (List ℕ) → Option (ℕ × ℕ) → GapEnd
gap_end_of c (Some ds) t = Complete c ds
gap_end_of c None (Some t) = NoEnd
gap_end_of c None None = InError c

-- the same by the state of the message
abbrev pub gap_end : Standing → GapEnd
gap_end Idle = NoEnd
gap_end (Collects c f) = gap_end_of c (whole_of c f) (transfer_of c f)
gap_end (Waits c a) = InError c
gap_end (Resumes c f) = gap_end_of c (whole_of c f) None

-- such an end in the words of the rules
abbrev pub ending_at : Description → Bool → GapEnd → Ending
ending_at P busy NoEnd = Nothing
ending_at P busy (InError c) = Badly c
ending_at P busy (Complete c ds) = well P busy c ds

-- how a gap ends the message in this state
abbrev pub gap_ends : Description → Bool → Standing → Ending
gap_ends P busy s = ending_at P busy (gap_end s)

-- a transfer waits for its status word, and any other message is over
abbrev pub waits_for : Option (ℕ × ℕ) → Standing
waits_for None = Idle
waits_for (Some t) = Waits t.0 t.1

-- what a gap leaves
abbrev pub gap_leaves : Standing → Standing
gap_leaves (Collects c f) = waits_for (transfer_of c f)
gap_leaves _ = Idle

-- what a word or noise leaves that starts nothing
abbrev pub entry_leaves : ℕ → Option Raw → Standing → Standing
entry_leaves own w Idle = Idle
entry_leaves own w (Collects c f) = Collects c (next f (data_of w) (transmitter_at own w))
entry_leaves own w (Waits c a) = if status_at a w then Resumes c (Words []) else Idle
entry_leaves own w (Resumes c f) = Resumes c (next f (data_of w) (transmitter_at own w))

-- the command of the transfer that a word or noise ends in error
abbrev pub entry_fails : Option Raw → Standing → Option ℕ
entry_fails w (Waits c a) = if status_at a w then None else Some c
entry_fails w _ = None

-- the message of this command ends in error, where there is one
abbrev pub fails : Option ℕ → Ending
fails None = Nothing
fails (Some c) = Badly c

-- the command that nothing has followed
abbrev pub fresh_in : Standing → Option ℕ
fresh_in (Collects c (Words [])) = Some c
fresh_in _ = None

-- there is a command, a broadcast receive command to a subaddress of data
abbrev pub is_broadcast_receive : Option ℕ → Bool
is_broadcast_receive None = false
is_broadcast_receive (Some c) = is_receive c && is_broadcast c

-- such a command began the message, and nothing has followed it
abbrev pub stands_fresh : Standing → Bool
stands_fresh s = is_broadcast_receive (fresh_in s)

-- whether a word or noise starts a message, from what is kept
abbrev pub starts_by : Description → Option Raw → Bool → Standing → Bool
starts_by P None heard s = false
starts_by P (Some w) heard s = starts_message P w heard (is_free s) (stands_fresh s)

-- the bits of a word, and 0 for noise
abbrev pub word_bits : Option Raw → ℕ
word_bits None = 0
word_bits (Some w) = w.bits

-- what a word or noise leaves, by whether it starts a message and whether it is on this bus
abbrev pub word_leaves : ℕ → Bool → Bool → Option Raw → Standing → Standing
word_leaves own starts here w s =
    if starts then (if here then Collects (word_bits w) (Words []) else Idle)
    else (if here then entry_leaves own w s else s)
