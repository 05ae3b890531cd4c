-- The recording that a script states: each of its events is one that is seen, and what is stated of it is the line of the word that
-- was sent, or nothing where none was. A data word can be left open, and a gap may have come or not. What is handed over is left out. A slot in
-- which the unit may have been silent ends a part of it.
use Rattle.std.specs.Prelude.{◌≡◌, ◌≢◌, ◌⊎◌, ◌<◌, ◌^◌, ◌==◌, ◌&&◌, ℕ, Bool, true, false, not, if◌then◌else◌, Option, Some, None, is_some, codes, Result, Ok, Err, List, [], ◌∷◌, ◌++◌, filter, length}
use Rattle.std.specs.List.{AllByRecursion}
use Rattle.bus_word.specs.declared.word.Bus.{Bus}
use Rattle.bus_word.specs.declared.word.Bus.TheVariants.{A, B}
use Rattle.bus_word.specs.declared.word.Kind.TheVariants.{Dat}
use Rattle.terminal_rules.specs.declared.event.Event.TheVariants.{Gap}
use Rattle.terminal_rules.specs.Out.{Sending, sending_out}
use Rattle.terminal_recordings.specs.Recordings.{is_seen}
use Rattle.terminal_recordings.specs.Masks.{MaskedSighting}
use Rattle.terminal_recordings.specs.MaybeGaps.{MaybeSighting, Seen, MaybeGap}
use Rattle.recorded_terminal.specs.Marks.{HasManyWays}
use Rattle.script_lines.specs.Transcript.{answer_text, sent_text}
use Rattle.rt1553_verify.specs.declared.matching.Matching.TheVariants.{Exact, Masked as Mask}
use Rattle.rt1553_verify.specs.declared.stated.ScriptWarning.{ScriptWarning}
use Rattle.rt1553_verify.specs.declared.stated.StatedFault.{StatedFault}
use Rattle.rt1553_verify.specs.declared.stated.StatedFault.TheVariants.{Memory, Read}
use Rattle.rt1553_verify.specs.Stated.{StatedEvent, is_gap, is_maybe, stated_through, stated_warning}
use Rattle.script_recordings.specs.declared.reading.RecordingFault.{RecordingFault}
use Rattle.script_recordings.specs.declared.reading.RecordingFault.TheVariants.{Unseen, Masked, NoWord, TooManyWays, Script}
use Rattle.script_recordings.specs.Parts.{is_silence, heard}

-- the line that leaves a data word open, on a bus: its bits are dots
abbrev pub open_line : Bus → List ℕ
open_line A = codes "A d ....\n"
open_line B = codes "B d ....\n"

-- what states a word that was sent: its line, or where it is left open that line; nothing where none was
abbrev pub stated_word : Bool → Option Sending → List ℕ
stated_word false sent = answer_text (sending_out sent)
stated_word true None = []
stated_word true (Some word) = open_line word.bus

-- a word that is left open is a data word
abbrev pub IsData : Option Sending → Type 0
IsData None = ⊥
IsData (Some word) = word.kind ≡ Dat

-- the word that was sent is stated whole, or as one that is left open
abbrev pub StatesSent : StatedEvent → Bool → Option Sending → Type 0
StatesSent s false sent = (s.matching ≡ Exact) × (s.answer ≡ stated_word false sent)
StatesSent s true sent = (s.matching ≡ Mask) × (s.answer ≡ stated_word true sent) × IsData sent

-- what a bus shows of what is stated: nothing of what is stated of a gap, where something is handed over, and no word is sent
abbrev pub bus_shows : StatedEvent → StatedEvent
bus_shows s = if is_gap s.event && not (is_maybe s.matching) then record s { matching = Exact; answer = [] } else s

-- what a script states of an event is this sighting
pub record IsSeenAs (s : StatedEvent) (x : MaskedSighting) : Type 0 where
  pub event : x.sighting.event ≡ s.event
  pub seen : is_seen s.event ≡ true
  pub sent : StatesSent (bus_shows s) x.any_word x.sighting.sent

-- what a script states of an event is what was seen, or that it is a gap that may have come
abbrev pub IsToldAs : StatedEvent → MaybeSighting → Type 0
IsToldAs s (Seen x) = IsSeenAs s x
IsToldAs s (MaybeGap b) = (s.event ≡ Gap b) × (is_maybe s.matching ≡ true)

-- event by event
abbrev pub AreToldAs : List StatedEvent → List MaybeSighting → Type 0
AreToldAs [] [] = Unit {0}
AreToldAs (s ∷ ss) (x ∷ xs) = IsToldAs s x × AreToldAs ss xs
AreToldAs _ _ = ⊥

-- it is neither nothing nor the line of a word of 16 bits
abbrev pub IsNoWord : List ℕ → Type 0
IsNoWord line = (line ≡ [] → ⊥) × ((w : Sending) → w.bits < 2 ^ 16 → sent_text w ≡ line → ⊥)

-- why a script states no word of an event, and not that none was sent
abbrev pub StatesNoWord : StatedEvent → RecordingFault → Type 0
StatesNoWord s (Masked n) = (n ≡ s.line) × (s.matching ≡ Exact → ⊥) × ((bus : Bus) → s.matching ≡ Mask → s.answer ≡ open_line bus → ⊥)
StatesNoWord s (NoWord n) = (n ≡ s.line) × (s.matching ≡ Exact) × IsNoWord s.answer
StatesNoWord s _ = ⊥

-- why what a script states of an event is no sighting
abbrev pub IsUnseenAs : StatedEvent → RecordingFault → Type 0
IsUnseenAs s (Unseen n) = (n ≡ s.line) × (is_seen s.event ≡ false)
IsUnseenAs s fault = StatesNoWord (bus_shows s) fault

-- each event is a slot in which the unit may have been silent, or what is stated of it is a sighting or a gap that may have come
abbrev pub AreNoted : List StatedEvent → Type 0
AreNoted ss = AllByRecursion (λ s. (is_silence s ≡ true) ⊎ ((x : MaybeSighting) × IsToldAs s x)) ss

-- events are a recording, of which this is told; slots in which the unit may have been silent are left out
abbrev pub AreRecording : Result (List StatedEvent) StatedFault → List MaybeSighting → Type 0
AreRecording said xs = (ss : List StatedEvent) × (said ≡ Ok ss) × AreToldAs (heard ss) xs

-- so are those of a script
abbrev pub StatesRecording : List ℕ → List MaybeSighting → Type 0
StatesRecording script xs = AreRecording (stated_through script) xs

-- Why events are none: there is a fault among them, or else the first of them that is neither a sighting nor such a slot. That memory runs out and
-- that a read fails say nothing of them. Gaps that may have come are no reason.
abbrev pub AreNoRecording : Result (List StatedEvent) StatedFault → RecordingFault → Type 0
AreNoRecording said (Script fault) = fault ≢ Memory → fault ≢ Read → said ≡ Err fault
AreNoRecording said TooManyWays = ⊥
AreNoRecording said fault =
    (front : List StatedEvent) × (s : StatedEvent) × (rest : List StatedEvent) × (said ≡ Ok (front ++ s ∷ rest)) × AreNoted front × (is_silence s ≡ false) × IsUnseenAs s fault

-- so are those of a script
abbrev pub StatesNoRecording : List ℕ → RecordingFault → Type 0
StatesNoRecording script fault = AreNoRecording (stated_through script) fault

-- why of a script no behaviour is sought that explains it: it states no recording, or gaps in it that may have come leave room for too many ways
abbrev pub GivesNoWitness : List ℕ → RecordingFault → Type 0
GivesNoWitness script TooManyWays = (xs : List MaybeSighting) × StatesRecording script xs × HasManyWays xs
GivesNoWitness script fault = StatesNoRecording script fault

-- a word was sent
abbrev pub shows_word : MaybeSighting → Bool
shows_word (Seen x) = is_some x.sighting.sent
shows_word (MaybeGap bus) = false

-- so many of these events are told with a word that was sent
abbrev pub StateWords : List StatedEvent → ℕ → Type 0
StateWords ss n = (xs : List MaybeSighting) × AreToldAs (heard ss) xs × (n ≡ length (filter shows_word xs))

-- a recording without an event, or without a word that was sent, shows nothing
abbrev pub recorded_warning : List MaybeSighting → Option ScriptWarning
recorded_warning xs = stated_warning (not (length xs == 0)) (length (filter shows_word xs))
