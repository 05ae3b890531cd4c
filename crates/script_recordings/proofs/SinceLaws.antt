-- Laws of what is judged of a recording that began at any time.
use Rattle.std.proofs.Common.{◌≡◌, ◌∙◌, ℕ, Option, Some, None, IfSome, Ok, List, [], ◌∷◌, ◌++◌, append_assoc, drop, length, suc, ◌≤◌, refl, sym, ap, subst}
use Rattle.bus_word.specs.Mode as mode
use Rattle.bus_legal.specs.Description.{Description}
use Rattle.bus_legal.specs.Parts.{Parts, description_in, IsNormal}
use Rattle.bus_legal.specs.Reach.{reach}
use Rattle.bus_legal.proofs.NormalLaws.{required-legal}
use Rattle.terminal_rules.specs.Out.{out}
use Rattle.terminal_rules.proofs.Reach.Same.{out-reach}
use Rattle.terminal_rules.specs.Past.{history_after}
use Rattle.terminal_recordings.specs.Recordings.{Sighting, IsExplainedAfter}
use Rattle.terminal_recordings.specs.Later.{IsExplainedLater, IsExplainedAnyTime, no_gaps, shut_history}
use Rattle.terminal_recordings.specs.MaybeGaps.{MaybeSighting, IsReadingOf, ExplainsReading, IsExplainedSomehow, certainly, fresh_part}
use Rattle.terminal_recordings.proofs.MaybeLaw.{maybe_law}
use Rattle.rt1553.proofs.EngineLaws.{AnswersAlike}
use Rattle.recorded_terminal.specs.declared.watch.Marked.{Marked}
use Rattle.recorded_terminal.specs.declared.watch.Unexplained.{Unexplained}
use Rattle.recorded_terminal.specs.declared.later.FreshPart.{FreshPart}
use Rattle.terminal_recordings.specs.Masks.{FitsMasked, unmasked, ExplainsSome}
use Rattle.terminal_recordings.proofs.MaskLaw.{mask_law}
use Rattle.recorded_terminal.specs.Marks.{masked_in, maybe_in, seen_in}
use Rattle.recorded_terminal.specs.Watched.{IsUnexplainedBy}
use Rattle.recorded_terminal.proofs.CameLaws.{certainly_all, masked_recording}
use Rattle.recorded_terminal.proofs.WayLaws.{maybe_append}
use Rattle.recorded_terminal.specs.Follows.{shut_down}
use Rattle.recorded_terminal.specs.Judged.{CanBegin, IsJudged, IsJudgedBy}
use Rattle.recorded_terminal.specs.Behaviour.{IsBehaviourAfter}
use Rattle.terminal_rules.specs.declared.event.Event.{Event}
use Rattle.terminal_recordings.specs.Completion.{shown_from}
use Rattle.rt1553_verify.specs.declared.stated.ScriptWarning.{ScriptWarning}
use Rattle.rt1553_verify.specs.Stated.{StatedEvent, stated_through}
use Rattle.rt1553_verify.specs.Verify.{ToldAnswer, told_answer}
use Rattle.script_recordings.specs.declared.explaining.UnexplainedLine.{UnexplainedLine}
use Rattle.script_lines.specs.EventLine.{script_text}
use Rattle.script_recordings.specs.Parts.{split_parts}
use Rattle.script_recordings.specs.Seen.{AreToldAs, StatesRecording}
use Rattle.script_recordings.specs.Explained.{first_some, told_first, IsFirstUnexplainedBy, IsJudgedAfter, IsJudgedLater, IsJudgedBehind, AreJudgedLater, IsJudgedSince, HasNoPart, NothingExplains, IsLaterWitness}
use Rattle.script_recordings.specs.inner.Reads.{AreMarkedAs, TellsUnexplained, TellsJudged}
use Rattle.script_recordings.specs.inner.PartsTold.{judged_of}
use Rattle.script_recordings.specs.inner.Settled.{IsSettled}
use Rattle.script_recordings.proofs.SettleLaws.{all_seen}
use Rattle.script_recordings.proofs.ReadLaws.{are_told, Split, split}
use Rattle.script_recordings.proofs.ExplainedLaws.{sightings_alike, reading_alike, first_told, first_none, none_told, told_none}

-- the transmitters of what can be reached of a profile can be shut down
pub can_begin : (v : Parts) → IsNormal v → CanBegin (description_in v)
can_begin v normal = record { address = normal.address; shutdown = required-legal v normal mode.shutdown refl }

told_later : (D : Description) (events : List StatedEvent) (part : List Marked) (first : Option Unexplained) (told : Option UnexplainedLine) → AreMarkedAs events part → TellsUnexplained first told →
    IfSome first (IsUnexplainedBy (IsExplainedLater D) part) → IfSome (told_first told) (IsFirstUnexplainedBy (IsExplainedLater D) events)
told_later D events part first None are tells found = tt
told_later D events part None (Some line) are tells found = absurd tells
told_later D events part (Some it) (Some line) are tells found = first_told {E = IsExplainedLater D} {F = IsExplainedLater D} (λ xs x. x) (λ xs x. x) events part it (told_answer line.answer) are tells found

drop_front : (front : List Marked) (m : Marked) (part : List Marked) → drop (suc (length front)) (front ++ m ∷ part) ≡ part
drop_front [] m part = refl
drop_front (x ∷ front) m part = drop_front front m part

-- the part is what is behind so many sightings
part_is : (D : Description) (ms : List Marked) (it : FreshPart) (i : IsJudged D ms it) → drop it.before ms ≡ i.part
part_is D ms it i = (λ j. drop (i.before j) (i.all j)) ∙ drop_front i.front i.pause i.part

-- what is told of a part of a recording that began at any time
pub judged_later : (D : Description) (events : List StatedEvent) (ms : List Marked) (judged : Option FreshPart) (after : Option ℕ) (first : Option UnexplainedLine) → AreMarkedAs events ms →
    TellsJudged judged after first → IsJudgedBy D ms judged → IsJudgedLater D events after (told_first first) (judged_of judged ms)
judged_later D events ms None None None are tells found = (refl, refl, (maybe_in ms, are_told events ms are, found))
judged_later D events ms None None (Some line) are tells found = absurd tells
judged_later D events ms None (Some after) first are tells found = absurd tells
judged_later D events ms (Some it) None first are tells found = absurd tells
judged_later D events ms (Some it) (Some after) first are tells i =
    let c : Split events i.front i.pause i.part = split events i.front i.pause i.part (subst (λ (l : List Marked). AreMarkedAs events l) i.all are) in
    let part : maybe_in i.part ≡ maybe_in (drop it.before ms) = ap maybe_in (sym (part_is D ms it i)) in
    subst (IsJudgedAfter D events after (told_first first)) part
    (record {
      front = c.front;
      pause = c.stated;
      fresh = c.rest;
      all = c.all;
      line = tells.0 ∙ i.line ∙ c.is.1;
      recording = maybe_in ms;
      are_told = are_told events ms are;
      judged_told = are_told c.rest i.part c.are_rest;
      is_fresh = i.is_part;
      explained = (
        λ e. i.explained.0 (none_told it.first first tells.1 (first_none first e)),
        λ x. ap told_first (told_none it.first first tells.1 (i.explained.1 x)),
      );
      first = told_later D c.rest i.part it.first first c.are_rest tells.1 i.first;
    })

any_time_alike : (P Q : Description) → AnswersAlike P Q → (recording : List Sighting) → IsExplainedAnyTime P recording → IsExplainedAnyTime Q recording
any_time_alike P Q alike recording (earlier, a, (es, proper, seen)) = (earlier, a, (es, proper, sym (sightings_alike P Q alike (history_after earlier []) es) ∙ seen))

-- a part of which something is told is never explained, whenever it began
part_never : (D P : Description) → AnswersAlike D P → (events : List StatedEvent) (after : Option ℕ) (told : ToldAnswer) (judged : List MaybeSighting) → IsJudgedLater D events after (Some told) judged
    → (recording : List MaybeSighting) × AreToldAs events recording × (ExplainsReading (IsExplainedAnyTime P) recording → ⊥)
part_never D P alike events None told judged (is, none, begins) = absurd (cc)
part_never D P alike events (Some after) told judged i = (
  i.recording,
  i.are_told,
  λ any.
      let found : Some told ≡ None = i.explained.1 ((maybe_law.afresh D i.recording judged i.is_fresh).1 (reading_alike (any_time_alike P D (λ h e. sym (alike h e))) i.recording any)) in
      absurd (cc),
)

-- so one is of which something is told of parts
pub parts_never : (D P : Description) → AnswersAlike D P → (script : List ℕ) (events : List StatedEvent) → stated_through script ≡ Ok events → (parts : List (List StatedEvent)) (after : Option ℕ) (told : ToldAnswer)
    (stretches : ℕ) (judged : List MaybeSighting) → AreJudgedLater D parts after (Some told) stretches judged → (front : List (List StatedEvent)) → split_parts events ≡ front ++ parts → NothingExplains P script
parts_never D P alike script events says [] after told stretches judged (at, is, many, none) front whole = absurd (cc)
parts_never D P alike script events says (part ∷ parts) after told stretches judged (line, lines, one, others, n, m, seen, more, i, are, at, is, many, all) front whole =
    by one i is
    (λ e. parts_never D P alike script events says parts lines told m more (subst (λ q. AreJudgedLater D parts lines q m more) (sym e) are) (front ++ part ∷ [])
    (whole ∙ sym (append_assoc front (part ∷ []) parts)))
  where
    by : (o : Option ToldAnswer) → IsJudgedBehind D n part line o seen → Some told ≡ first_some o others → (Some told ≡ others → NothingExplains P script) → NothingExplains P script
    by (Some t) (rest, is_behind, i) e more =
        let never = part_never D P alike rest line t seen i in
        record { before = front; part = part; behind = parts; events = events; says = says; split = whole; stretches = n; rest = rest; is_behind = is_behind; recording = never.0; are_told = never.1; never = never.2 }
    by None i e rest = rest e

-- what can be reached of a profile answers alike
pub normal_alike : (v : Parts) (P : Description) → IsNormal v → description_in v ≡ reach P → AnswersAlike (description_in v) P
normal_alike v P normal reached h e =
    let small : P.address ≤ 30 = subst (λ n. n ≤ 30) (ap (λ D. D.address) reached) normal.address in
    ap (λ D. out D h e) reached ∙ out-reach P h e small

-- where a line is told, nothing explains one of the parts, whenever it began
pub never_told : (D P : Description) → AnswersAlike D P → (input : Option (List ℕ)) (after : Option ℕ) (first : Option UnexplainedLine) (warning : Option ScriptWarning) (k n m : ℕ) →
    IfSome input (λ script. IsJudgedSince D script after (told_first first) warning k n m) → IfSome first (λ line. IfSome input (λ script. NothingExplains P script))
never_told D P alike input after None warning k n m judged = tt
never_told D P alike None after (Some line) warning k n m judged = tt
never_told D P alike (Some script) after (Some line) warning k n m i = parts_never D P alike script i.events i.says (split_parts i.events) after (told_answer line.answer) m i.judged i.are_judged [] refl

pub no_part : (input : Option (List ℕ)) (D : Description) (ms : List Marked) → IfSome input (λ script. StatesRecording script (maybe_in ms)) → IsJudgedBy D ms None → IfSome input (HasNoPart D)
no_part None D ms states none = tt
no_part (Some script) D ms states none = (maybe_in ms, states, none)

-- ---- a witness

-- what the events of a reading of the part are, of a script that states the recording
pub is_later_witness : (D : Description) (script : List ℕ) (ms settled : List Marked) (it : FreshPart) (events : List Event) → D.address ≤ 30 → StatesRecording script (maybe_in ms) → IsJudged D ms it →
    IsSettled D (shut_history D (shut_down it.shut)) (drop it.before ms) settled → IsBehaviourAfter D (shut_down it.shut) (seen_in settled) events → IsLaterWitness D script events
is_later_witness D script ms settled it events low states i s b =
    let front : List Marked = i.front ++ i.pause ∷ [] in
    let cut : maybe_in ms ≡ maybe_in front ++ maybe_in i.part = ap maybe_in (i.all ∙ sym (append_assoc i.front (i.pause ∷ []) i.part)) ∙ maybe_append front i.part in
    let part : drop it.before ms ≡ i.part = part_is D ms it i in
    let k : List Event = shut_history D (shut_down it.shut) in
    record {
      proper = b.proper;
      front = maybe_in front;
      part = maybe_in i.part;
      states = subst (StatesRecording script) cut states;
      is_part = subst (λ l. fresh_part D no_gaps l ≡ Some (maybe_in i.part)) cut i.is_part;
      reading = masked_in settled;
      reads = subst (λ (l : List Marked). IsReadingOf (maybe_in l) (masked_in settled)) part s.reads;
      shut = shut_down it.shut;
      behaviour = b.behaviour;
      begins = b.begins;
      plays = λ x.
          let all : seen_in settled ≡ unmasked (masked_in settled) = ap certainly (all_seen settled s.seen) ∙ certainly_all (masked_in settled) in
          let explained : ExplainsSome (IsExplainedAfter D k) (masked_in settled) =
          s.explained (subst (λ (l : List Marked). IsExplainedSomehow D k (maybe_in l)) (sym part) (i.begins (i.explained.1 x))) in
          subst (FitsMasked (masked_in settled)) (sym (b.shown ∙ ap (shown_from D k) all)) ((mask_law.decided D k (masked_in settled) low (masked_recording settled)).0 explained);
    }

pub later_witness_by : (input : Option (List ℕ)) (D : Description) (ms settled : List Marked) (it : FreshPart) (events : List Event) (text : List ℕ) → D.address ≤ 30 → IfSome input (λ script. StatesRecording script (maybe_in ms)) →
    IsJudged D ms it → IsSettled D (shut_history D (shut_down it.shut)) (drop it.before ms) settled → IsBehaviourAfter D (shut_down it.shut) (seen_in settled) events → text ≡ script_text events →
    IfSome input (λ script. (events : List Event) × (text ≡ script_text events) × IsLaterWitness D script events)
later_witness_by None D ms settled it events text low states i s b is = tt
later_witness_by (Some script) D ms settled it events text low states i s b is = (events, is, is_later_witness D script ms settled it events low states i s b)
