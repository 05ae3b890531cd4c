-- Laws of a recording that is read, sighting by sighting.
use Rattle.std.proofs.Common.{◌≡◌, ◌∙◌, ◌&&◌, ℕ, Bool, true, false, not, cond, Option, Some, None, IfSome, is_some, Result, Ok, Err, List, [], ◌∷◌, ◌++◌, inl, inr, ⊎_elim, refl, sym, ap, subst, append-nil}
use Rattle.std.specs.List.{All}
use Rattle.std.proofs.lemmas.List.Elements.{All-nil, All-cons}
use Rattle.terminal_rules.specs.declared.event.Event.{Event}
use Rattle.terminal_rules.specs.declared.event.Event.TheVariants as event
use Rattle.terminal_rules.specs.Out.{Sending}
use Rattle.terminal_recordings.specs.Masks.{MaskedSighting}
use Rattle.terminal_recordings.specs.MaybeGaps.{MaybeSighting, Seen, MaybeGap}
use Rattle.recorded_terminal.specs.declared.watch.Marked.{Marked}
use Rattle.recorded_terminal.specs.Marks.{maybe, maybe_in, HasManyWays}
use Rattle.recorded_terminal.specs.declared.watch.WatchFault.{WatchFault}
use Rattle.recorded_terminal.specs.declared.watch.WatchFault.TheVariants as watch
use Rattle.rt1553_verify.specs.declared.matching.Matching.{Matching}
use Rattle.rt1553_verify.specs.declared.stated.Stated.{Stated}
use Rattle.rt1553_verify.specs.declared.stated.StatedFault.{StatedFault}
use Rattle.rt1553_verify.specs.declared.stated.StatedFault.TheVariants.{Memory, Read}
use Rattle.rt1553_verify.specs.Stated.{StatedEvent, shown, is_maybe, then_events, stated_through}
use Rattle.rt1553_verify.specs.Reader.{NextIs}
use Rattle.rt1553_verify.proofs.StatedLaws.{then-twice}
use Rattle.script_recordings.specs.declared.reading.RecordingFault.{RecordingFault}
use Rattle.script_recordings.specs.declared.reading.RecordingFault.TheVariants.{Unseen, Masked, NoWord, TooManyWays, Script}
use Rattle.terminal_rules.specs.Reply.{is_slot}
use Rattle.script_recordings.specs.Parts.{is_silence, heard}
use Rattle.script_recordings.specs.Seen.{IsSeenAs, IsToldAs, StatesSent, AreToldAs, IsUnseenAs, AreRecording, StatesRecording, AreNoRecording, StatesNoRecording, GivesNoWitness, AreNoted}
use Rattle.script_recordings.specs.Messages.{InMessage, AreInMessages}
use Rattle.script_recordings.specs.inner.Reads.{Left, AreMarkedAs, IsMarkedAs, SaysNothing, RefusesRest, ReadsPart, EndsPart, NextSeen, watch_fault_of}

abbrev Said : Type 0
Said = Result (List StatedEvent) StatedFault

-- ---- events and their sightings

marked_more : (ss : List StatedEvent) (s : StatedEvent) (ms : List Marked) (m : Marked) → AreMarkedAs ss ms → IsMarkedAs s m → AreMarkedAs (ss ++ s ∷ []) (ms ++ m ∷ [])
marked_more [] s [] m are is = (is, tt)
marked_more [] s (n ∷ ms) m are is = absurd are
marked_more (t ∷ ss) s [] m are is = absurd are
marked_more (t ∷ ss) s (n ∷ ms) m are is = (are.0, marked_more ss s ms m are.1 is)

pub are_told : (ss : List StatedEvent) (ms : List Marked) → AreMarkedAs ss ms → AreToldAs ss (maybe_in ms)
are_told [] [] are = tt
are_told [] (m ∷ ms) are = absurd are
are_told (s ∷ ss) [] are = absurd are
are_told (s ∷ ss) (m ∷ ms) are = (are.0.0, are_told ss ms are.1)

-- the event of one of the sightings
pub record Split (ss : List StatedEvent) (before : List Marked) (m : Marked) (later : List Marked) : Type 0 where
  pub front : List StatedEvent
  pub stated : StatedEvent
  pub rest : List StatedEvent
  pub all : ss ≡ front ++ stated ∷ rest
  pub are : AreMarkedAs front before
  pub is : IsMarkedAs stated m
  pub are_rest : AreMarkedAs rest later

pub split : (ss : List StatedEvent) (before : List Marked) (m : Marked) (later : List Marked) → AreMarkedAs ss (before ++ m ∷ later) → Split ss before m later
split [] [] m later are = absurd are
split [] (b ∷ before) m later are = absurd are
split (s ∷ ss) [] m later are = record { front = []; stated = s; rest = ss; all = refl; are = tt; is = are.0; are_rest = are.1 }
split (s ∷ ss) (b ∷ before) m later are =
    let c = split ss before m later are.1 in
    record { front = s ∷ c.front; stated = c.stated; rest = c.rest; all = ap (λ l. s ∷ l) c.all; are = (are.0, c.are); is = c.is; are_rest = c.are_rest }

-- ---- what is no slot in which the unit may have been silent

-- a sighting ends none
by_slot : (m : Matching) (s : StatedEvent) (any : Bool) (sent : Option Sending) → s.matching ≡ m → StatesSent s any sent → is_maybe m ≡ false
by_slot m s false sent is said = ap is_maybe (sym is ∙ said.0)
by_slot m s true sent is said = ap is_maybe (sym is ∙ said.0)

by_event : (line : ℕ) (e : Event) (m : Matching) (at : ℕ) (answer : List ℕ) (x : MaskedSighting) → IsSeenAs (record { line = line; event = e; matching = m; answer_line = at; answer = answer }) x
    → is_silence (record { line = line; event = e; matching = m; answer_line = at; answer = answer }) ≡ false
by_event line (event.Word b w) m at answer x is = refl
by_event line (event.Noise b) m at answer x is = refl
by_event line (event.Gap b) m at answer x is = refl
by_event line event.Slot m at answer x is = by_slot m (record { line = line; event = event.Slot; matching = m; answer_line = at; answer = answer }) x.any_word x.sighting.sent refl is.sent
by_event line (event.Write p v) m at answer x is = refl
by_event line (event.Vector v) m at answer x is = refl
by_event line (event.Bit v) m at answer x is = refl
by_event line (event.Flag f v) m at answer x is = refl

pub goes_on : (s : StatedEvent) (x : MaybeSighting) → IsToldAs s x → is_silence s ≡ false
goes_on s (MaybeGap bus) is = ap (λ e. is_slot e && is_maybe s.matching) is.0
goes_on s (Seen x) is = by_event s.line s.event s.matching s.answer_line s.answer x is

pub none_end : (ss : List StatedEvent) (xs : List MaybeSighting) → AreToldAs ss xs → All (λ s. is_silence s ≡ false) ss
none_end [] xs are = All-nil (λ s. is_silence s ≡ false)
none_end (s ∷ ss) [] are = absurd are
none_end (s ∷ ss) (x ∷ xs) are = All-cons (λ s. is_silence s ≡ false) s ss (goes_on s x are.0) (none_end ss xs are.1)

-- so all of a part is heard, and noted
pub all_heard : (ss : List StatedEvent) (xs : List MaybeSighting) → AreToldAs ss xs → heard ss ≡ ss
all_heard [] xs are = refl
all_heard (s ∷ ss) [] are = absurd are
all_heard (s ∷ ss) (x ∷ xs) are = (λ j. cond (not (goes_on s x are.0 j)) (s ∷ all_heard ss xs are.1 j) (all_heard ss xs are.1 j))

pub are_noted : (ss : List StatedEvent) (xs : List MaybeSighting) → AreToldAs ss xs → AreNoted ss
are_noted [] xs are = tt
are_noted (s ∷ ss) [] are = absurd are
are_noted (s ∷ ss) (x ∷ xs) are = (inr (x, are.0), are_noted ss xs are.1)

pub noted_more : (ss ts : List StatedEvent) → AreNoted ss → AreNoted ts → AreNoted (ss ++ ts)
noted_more [] ts are more = more
noted_more (s ∷ ss) ts are more = (are.0, noted_more ss ts are.1 more)

-- ---- what was read so far of a part, of all that was left

abbrev pub PartSoFar : Left → Left → List Marked → Type 0
PartSoFar None left ms = Unit {0}
PartSoFar (Some said) left ms =
    (front : List StatedEvent) × (later : Said) × (left ≡ Some later) × (said ≡ then_events front later) × AreMarkedAs front ms

then_none : (said : Said) → said ≡ then_events [] said
then_none (Ok ss) = refl
then_none (Err fault) = refl

pub part_none : (left : Left) → PartSoFar left left []
part_none None = tt
part_none (Some said) = ([], said, refl, then_none said, tt)

pub part_more : (all left new : Left) (ms : List Marked) (m : Marked) → PartSoFar all left ms → NextSeen left new (Ok (Some m)) → PartSoFar all new (ms ++ m ∷ [])
part_more None left new ms m read next = tt
part_more (Some said) left new ms m (front, later, is, all, are) next =
    let n : NextSeen (Some later) new (Ok (Some m)) = subst (λ (l : Left). NextSeen l new (Ok (Some m))) is next in (
      front ++ n.0 ∷ [],
      n.1,
      n.2,
      all ∙ ap (then_events front) n.3 ∙ then-twice front (n.0 ∷ []) n.1,
      marked_more front n.0 ms m are n.4,
    )

pub part_ended : (said : Said) (left new : Left) (silence : Option ℕ) (ms : List Marked) → PartSoFar (Some said) left ms → EndsPart left new silence
    → (events : List StatedEvent) × ReadsPart (Some said) new silence events × AreMarkedAs events ms
part_ended said left new None ms (front, later, is, all, are) end =
    let n : EndsPart (Some later) new None = subst (λ (l : Left). EndsPart l new None) is end in
    (front, all ∙ ap (then_events front) n ∙ ap Ok (append-nil front), are)
part_ended said left new (Some line) ms (front, later, is, all, are) end =
    let n : EndsPart (Some later) new (Some line) = subst (λ (l : Left). EndsPart l new (Some line)) is end in
    (front, (n.0, n.1, n.2, all ∙ ap (then_events front) n.3 ∙ then-twice front (n.0 ∷ []) n.1, n.4, n.5), are)

-- ---- what is no recording

unread : (new : Left) (front : List StatedEvent) (said later : Said) (fault : RecordingFault) → AreNoted front → said ≡ then_events front later → NextSeen (Some later) new (Err fault) → AreNoRecording said fault
unread new front said later (Script other) noted all n = λ memory read. all ∙ ap (then_events front) (n memory read)
unread new front said later (Unseen line) noted all (s, rest, e, live, bad) = (front, s, rest, all ∙ ap (then_events front) e, noted, live, bad)
unread new front said later (Masked line) noted all (s, rest, e, live, bad) = (front, s, rest, all ∙ ap (then_events front) e, noted, live, bad)
unread new front said later (NoWord line) noted all (s, rest, e, live, bad) = (front, s, rest, all ∙ ap (then_events front) e, noted, live, bad)
unread new front said later TooManyWays noted all (s, rest, e, live, bad) = absurd bad

pub part_fault : (all left new : Left) (ms : List Marked) (fault : RecordingFault) → PartSoFar all left ms → NextSeen left new (Err fault) → IfSome all (λ said. AreNoRecording said fault)
part_fault None left new ms fault read next = tt
part_fault (Some said) left new ms fault (front, later, is, all, are) next =
    unread new front said later fault (are_noted front (maybe_in ms) (are_told front ms are)) all (subst (λ (l : Left). NextSeen l new (Err fault)) is next)

-- ---- what was read so far of the whole, without slots in which the unit may have been silent

heard_step : (front : List StatedEvent) (s : StatedEvent) (b : Bool) → is_silence s ≡ b → heard (front ++ s ∷ []) ≡ heard front ++ cond (not b) (s ∷ []) []
heard_step [] s b is = ap (λ c. cond (not c) (s ∷ []) []) is
heard_step (t ∷ front) s b is = by (not (is_silence t)) (heard_step front s b is)
  where
    by : (c : Bool) → heard (front ++ s ∷ []) ≡ heard front ++ cond (not b) (s ∷ []) []
        → cond c (t ∷ heard (front ++ s ∷ [])) (heard (front ++ s ∷ [])) ≡ cond c (t ∷ heard front) (heard front) ++ cond (not b) (s ∷ []) []
    by true e = ap (λ l. t ∷ l) e
    by false e = e

abbrev pub HeardSoFar : Left → Left → List Marked → Type 0
HeardSoFar None left ms = Unit {0}
HeardSoFar (Some said) left ms =
    (front : List StatedEvent) × (later : Said) × (left ≡ Some later) × (said ≡ then_events front later) × AreNoted front × AreMarkedAs (heard front) ms

pub heard_none : (left : Left) → HeardSoFar left left []
heard_none None = tt
heard_none (Some said) = ([], said, refl, then_none said, tt, tt)

pub heard_more : (all left new : Left) (ms : List Marked) (m : Marked) → HeardSoFar all left ms → NextSeen left new (Ok (Some m)) → HeardSoFar all new (ms ++ m ∷ [])
heard_more None left new ms m read next = tt
heard_more (Some said) left new ms m (front, later, is, all, noted, are) next =
    let n : NextSeen (Some later) new (Ok (Some m)) = subst (λ (l : Left). NextSeen l new (Ok (Some m))) is next in
    let same : heard (front ++ n.0 ∷ []) ≡ heard front ++ n.0 ∷ [] = heard_step front n.0 false (goes_on n.0 (maybe m) n.4.0) in (
      front ++ n.0 ∷ [],
      n.1,
      n.2,
      all ∙ ap (then_events front) n.3 ∙ then-twice front (n.0 ∷ []) n.1,
      noted_more front (n.0 ∷ []) noted (inr (maybe m, n.4.0), tt),
      subst (λ l. AreMarkedAs l (ms ++ m ∷ [])) (sym same) (marked_more (heard front) n.0 ms m are n.4),
    )

-- behind such a slot
pub heard_silence : (all left new : Left) (silence : Option ℕ) (ms : List Marked) → is_some silence ≡ true → HeardSoFar all left ms → EndsPart left new silence → HeardSoFar all new ms
heard_silence all left new None ms some read end = absurd (cc)
heard_silence None left new (Some line) ms some read end = tt
heard_silence (Some said) left new (Some line) ms some (front, later, is, all, noted, are) end =
    let n : EndsPart (Some later) new (Some line) = subst (λ (l : Left). EndsPart l new (Some line)) is end in
    let same : heard (front ++ n.0 ∷ []) ≡ heard front = heard_step front n.0 true n.4 ∙ append-nil (heard front) in (
      front ++ n.0 ∷ [],
      n.1,
      n.2,
      all ∙ ap (then_events front) n.3 ∙ then-twice front (n.0 ∷ []) n.1,
      noted_more front (n.0 ∷ []) noted (inl n.4, tt),
      subst (λ l. AreMarkedAs l ms) (sym same) are,
    )

pub heard_all : (all left new : Left) (silence : Option ℕ) (ms : List Marked) → is_some silence ≡ false → HeardSoFar all left ms → EndsPart left new silence → IfSome all (λ said. AreRecording said (maybe_in ms))
heard_all all left new (Some line) ms none read end = absurd (cc)
heard_all None left new None ms none read end = tt
heard_all (Some said) left new None ms none (front, later, is, all, noted, are) end =
    let n : EndsPart (Some later) new None = subst (λ (l : Left). EndsPart l new None) is end in
    (front, all ∙ ap (then_events front) n ∙ ap Ok (append-nil front), are_told (heard front) ms are)

pub heard_fault : (all left new : Left) (ms : List Marked) (fault : RecordingFault) → HeardSoFar all left ms → NextSeen left new (Err fault) → IfSome all (λ said. AreNoRecording said fault)
heard_fault None left new ms fault read next = tt
heard_fault (Some said) left new ms fault (front, later, is, all, noted, are) next =
    unread new front said later fault noted all (subst (λ (l : Left). NextSeen l new (Err fault)) is next)

-- ---- to which messages they belong

pub messages_more : (address : ℕ) (before : Option ℕ) (ms : List Marked) (last : Option ℕ) (m : Marked) → AreInMessages address before ms last → InMessage address last m
    → AreInMessages address before (ms ++ m ∷ []) m.command
messages_more address before [] last m are is = (subst (λ c. InMessage address c m) are is, refl)
messages_more address before (n ∷ ms) last m are is = (are.0, messages_more address n.command ms last m are.1 is)

-- so far, by the reader's address and command word
abbrev pub MessagesSoFar : ℕ → ℕ → Option ℕ → List Marked → Type 0
MessagesSoFar address own command ms = (own ≡ address) × AreInMessages address None ms command

pub messages_none : (address own : ℕ) (command : Option ℕ) (ms : List Marked) → (own ≡ address) × (command ≡ None) → ms ≡ [] → MessagesSoFar address own command ms
messages_none address own command ms begins none = (begins.0, subst (λ ns. AreInMessages address None ns command) (sym none) begins.1)

pub messages_next : (address own new : ℕ) (command next : Option ℕ) (ms ns : List Marked) (m : Marked) → MessagesSoFar address own command ms → InMessage own command m × (next ≡ m.command)
    → new ≡ own → ns ≡ ms ++ m ∷ [] → MessagesSoFar address new next ns
messages_next address own new command next ms ns m far is same more = (
  same ∙ far.0,
  subst (λ l. AreInMessages address None l next) (sym more) (subst (AreInMessages address None (ms ++ m ∷ [])) (sym is.1)
      (messages_more address None ms command m far.1 (subst (λ a. InMessage a command m) far.0 is.0))),
)

-- ---- what is left of a script that states no recording

abbrev pub RestRead : Left → Left → Type 0
RestRead None left = Unit {0}
RestRead (Some said) left = (front : List StatedEvent) × (later : Said) × (left ≡ Some later) × (said ≡ then_events front later)

pub rest_none : (left : Left) → RestRead left left
rest_none None = tt
rest_none (Some said) = ([], said, refl, then_none said)

pub rest_more : (all left new : Left) (s : Stated) → RestRead all left → NextIs left new (Ok (Some s)) → RestRead all new
rest_more None left new s read next = tt
rest_more (Some said) left new s (front, later, is, e) next =
    let n : NextIs (Some later) new (Ok (Some s)) = subst (λ (l : Left). NextIs l new (Ok (Some s))) is next in
    (front ++ shown s ∷ [], n.0, n.1, e ∙ ap (then_events front) n.2 ∙ then-twice front (shown s ∷ []) n.0)

-- ---- the sighting that comes next

pub next_unseen : (left mid new : Left) (s : Stated) (fault given : RecordingFault) → NextIs left mid (Ok (Some s)) → is_silence (shown s) ≡ false → IsUnseenAs (shown s) fault → RefusesRest mid fault given
    → NextSeen left new (Err given)
next_unseen None mid new s fault given next heard bad refuses = tt
next_unseen (Some said) mid new s fault given (later, is, e) heard bad refuses = rest later e (subst (λ (l : Left). RefusesRest l fault given) is refuses)
  where
    unread : (g : RecordingFault) → SaysNothing g → NextSeen (Some said) new (Err g)
    unread g is = ⊎_elim
        (λ (x : g ≡ Script Memory). subst (λ (f : RecordingFault). NextSeen (Some said) new (Err f)) (sym x) (λ memory read. absurd (memory refl)))
        (λ (x : g ≡ Script Read). subst (λ (f : RecordingFault). NextSeen (Some said) new (Err f)) (sym x) (λ memory read. absurd (read refl))) is

    event : (ss : List StatedEvent) → said ≡ Ok (shown s ∷ ss) → (f : RecordingFault) → IsUnseenAs (shown s) f → NextSeen (Some said) new (Err f)
    event ss all (Script other) bad = absurd bad
    event ss all (Unseen line) bad = (shown s, ss, all, heard, bad)
    event ss all (Masked line) bad = (shown s, ss, all, heard, bad)
    event ss all (NoWord line) bad = (shown s, ss, all, heard, bad)
    event ss all TooManyWays bad = absurd bad

    rest : (l : Said) → said ≡ then_events (shown s ∷ []) l → RefusesRest (Some l) fault given → NextSeen (Some said) new (Err given)
    rest (Ok ss) all r = ⊎_elim
        (λ (x : given ≡ fault). subst (λ (f : RecordingFault). NextSeen (Some said) new (Err f)) (sym x) (event ss all fault bad))
        (unread given) r
    rest (Err other) all r = ⊎_elim
        (λ (x : given ≡ Script other). subst (λ (f : RecordingFault). NextSeen (Some said) new (Err f)) (sym x) (λ memory read. all))
        (unread given) r

-- ---- the whole recording

-- what holds of all that is left to a new reader holds of the script
pub of_script : (input : Option (List ℕ)) (left : Left) (F : Said → Type 0) → IfSome input (λ script. left ≡ Some (stated_through script)) → IfSome left F → IfSome input (λ script. F (stated_through script))
of_script None left F is f = tt
of_script (Some script) left F is f = subst (λ (l : Left). IfSome l F) is f

-- ---- too many ways

-- a fault of a watch by which a reading is sought
pub settle_refused : (input : Option (List ℕ)) (ms : List Marked) (fault : WatchFault) → IfSome input (λ script. StatesRecording script (maybe_in ms)) → (fault ≡ watch.TooManyWays → HasManyWays (maybe_in ms))
    → IfSome input (λ script. GivesNoWitness script (watch_fault_of fault))
settle_refused None ms fault states has = tt
settle_refused (Some script) ms watch.Memory states has = λ memory read. absurd (memory refl)
settle_refused (Some script) ms watch.TooManyWays states has = (maybe_in ms, states, has refl)

-- a script that states no recording
no_witness : (script : List ℕ) (fault : RecordingFault) → StatesNoRecording script fault → GivesNoWitness script fault
no_witness script (Script fault) bad = bad
no_witness script (Unseen line) bad = bad
no_witness script (Masked line) bad = bad
no_witness script (NoWord line) bad = bad
no_witness script TooManyWays bad = absurd bad

pub unread_refused : (input : Option (List ℕ)) (fault : RecordingFault) → IfSome input (λ script. StatesNoRecording script fault) → IfSome input (λ script. GivesNoWitness script fault)
unread_refused None fault bad = tt
unread_refused (Some script) fault bad = no_witness script fault bad

pub memory_left : (left : Left) → IfSome left (λ said. AreNoRecording said (Script Memory))
memory_left None = tt
memory_left (Some said) = λ memory read. absurd (memory refl)

pub memory_refused : (input : Option (List ℕ)) → IfSome input (λ script. GivesNoWitness script (Script Memory))
memory_refused None = tt
memory_refused (Some script) = λ memory read. absurd (memory refl)
