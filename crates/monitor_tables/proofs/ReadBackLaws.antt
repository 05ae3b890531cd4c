-- A recording, read back, says what was heard and the silent slots that are owed.
use Rattle.std.proofs.Common.{ℕ, ◌≡◌, ◌∙◌, ◌+◌, ◌*◌, ◌<◌, ◌≤◌, ◌^◌, ◌-◌, ◌/◌, ◌==◌, ◌%◌, ◌&&◌, ◌||◌, Bool, true, false, if◌then◌else◌, List, [], ◌∷◌, ◌++◌, Option, Some, None, is_some, Result, Ok, Err, length, map, flat_map, refl, sym, ap, subst, arith, append_assoc, append-nil, length-append, codes, decimal}
use Rattle.std.specs.List.{list_all}
use Rattle.std.proofs.lemmas.List.{map-append}
use Rattle.std.proofs.lemmas.Bool.Decides.{nat_tests}
use Rattle.std.proofs.lemmas.Fmt.{decimal_by_steps, length-decimal-le}
use Rattle.bus_word.specs.declared.word.Bus.{Bus}
use Rattle.bus_word.specs.declared.word.Bus.TheVariants.{A, B}
use Rattle.bus_word.specs.declared.word.Kind.{Kind}
use Rattle.bus_word.specs.declared.word.Kind.TheVariants.{Com, Dat}
use Rattle.bus_word.specs.Word.{valid_word}
use Rattle.terminal_rules.specs.declared.event.Event.{Event}
use Rattle.terminal_rules.specs.declared.event.Event.TheVariants as event
use Rattle.terminal_rules.specs.Out.{Sending, SendsWord}
use Rattle.terminal_rules.specs.Same.{IsProper}
use Rattle.bus_terminal.specs.Answer.{shown_word}
use Rattle.line_format.specs.Front.{after}
use Rattle.script_lines.specs.Digits.{digits_of}
use Rattle.script_lines.specs.Line.{meaning}
use Rattle.script_lines.specs.Text.{lines_of, NoLineFeed}
use Rattle.script_lines.proofs.LineLaws.{lines-line}
use Rattle.script_lines.specs.EventLine.{event_text, event_line}
use Rattle.script_lines.specs.Transcript.{bus_letter, sent_kind, sent_text}
use Rattle.script_lines.proofs.RoundTrip.{event_read}
use Rattle.rt1553_verify.specs.declared.stated.StatedFault.{StatedFault}
use Rattle.rt1553_verify.specs.declared.matching.Matching.TheVariants.{Exact, Maybe}
use Rattle.rt1553_verify.specs.Stated.{StatedEvent, Latest, After, can_answer, can_be_given, states, ended, all_stated, then_event, maybe_line, stays, or_misplaced, silent_line, by_going_on, by_mask, by_answer, unstated_line, line_says, then_events, then_lines, stated_by, stated_within}
use Rattle.rt1553_verify.specs.declared.stated.StatedFault.TheVariants.{Impossible, EndsEarly}
use Rattle.rt1553_verify.proofs.PossibleLaws.{answer-possible}
use Rattle.rt1553_verify.proofs.StatedLaws.{stated-means, bounded-short, stated-line, then-none, then-twice, stated-none}
use Rattle.rt1553_acceptance.proofs.Feeds.{IsLine, literal, within, joined, digits-line, letter-line, sent_kind-line, event-line}
use Rattle.rt1553_acceptance.proofs.Pieces.{feeds-append}
use Rattle.rt1553_acceptance.proofs.Small.{IsRead, read-sent}
use Rattle.monitor_cells.specs.declared.heard.HeardItem.{HeardItem}
use Rattle.monitor_cells.specs.declared.heard.HeardItem.TheVariants.{Gap, Word, Noise, Reply, Late, Slot, MaybeSilent, MaybeGap, Pause}
use Rattle.monitor_cells.specs.Cells.{is_time_byte, is_time_text, kind_of_sync}
use Rattle.monitor_tables.specs.declared.fault.RefusedRow.{RefusedRow}
use Rattle.monitor_tables.specs.Recording.{HeardAt, time_line, late_line, heard_line, noted_text, recording_text, refused_line, event_stating, event_maybe, without_line, heard_stated, HasWords, IsNotable, AreNotable, ReadBackLaw, EarlyEndLaw}

-- ---- one line

decimal-feeds : (n : ℕ) → n < 2 ^ 64 → NoLineFeed (decimal n)
decimal-feeds n small =
    decimal_by_steps (λ _ ds. NoLineFeed ds) (λ n low. ((λ e. absurd (omega (arith, e))), tt))
    (λ n ds high none. feeds-append ds ((48 + n % 10) ∷ []) none ((λ e. absurd (omega (arith, e))), tt)) n small

-- a number of 64 bits
number-line : (n : ℕ) → n < 2 ^ 64 → IsLine 20 (decimal n)
number-line n small = record { feeds = decimal-feeds n small; short = length-decimal-le 20 n (omega arith) (omega (arith, small)) small }

-- the front of the comment on a word that came too late
late-line : (late : ℕ) → late < 2 ^ 64 → IsLine 56 (late_line late)
late-line late small = by (late == 0)
  where
    by : (b : Bool) → IsLine 56 (if b then codes "# later than no response: " else codes "# later than no response by " ++ (decimal ((late - 1) / 1000 + 1) ++ codes " us: "))
    by true = within (omega arith) (literal (codes "# later than no response: ") refl)
    by false =
        let number : IsLine 20 (decimal ((late - 1) / 1000 + 1)) = number-line ((late - 1) / 1000 + 1) (omega (arith, small)) in
        within (omega arith) (joined (codes "# later than no response by ") _ (literal (codes "# later than no response by ") refl) (joined _ (codes " us: ") number (literal (codes " us: ") refl)))

-- a terminal can give what was stated of the latest event
abbrev IsGiven : Latest → Type 0
IsGiven latest = all_stated latest ≡ Ok (ended latest)

given : (s : StatedEvent) → can_be_given s.matching s.answer ≡ true → IsGiven (Some s)
given s can = ap (λ b. if b then Ok (ended (Some s)) else Err (Impossible s.answer_line)) can

-- a line that means an event says that event, whatever is the latest
says-event : (n : ℕ) (latest : Latest) (line : List ℕ) (e : Event) → meaning line ≡ Ok (Some e) → IsGiven latest
    → line_says true n latest line ≡ Ok (record { events = ended latest; latest = Some (record { line = n; event = e; matching = Exact; answer_line = 0; answer = [] }) })
says-event n latest line e means given = first (after (codes "#> ") line) refl
  where
    Said : Result After StatedFault → Type 0
    Said said = said ≡ Ok (record { events = ended latest; latest = Some (record { line = n; event = e; matching = Exact; answer_line = 0; answer = [] }) })

    third : (o : Option (List ℕ)) → after (codes "#+ ") line ≡ o → Said (by_going_on true n latest line o)
    third None is = ap (unstated_line true n latest line) means ∙ ap (then_event n e Exact) given
    third (Some rest) is = let no = sym (stated-means 43 line rest is) ∙ means in absurd (cc)

    second : (o : Option (List ℕ)) → after (codes "#~ ") line ≡ o → Said (by_mask true n latest line o)
    second None is = third (after (codes "#+ ") line) refl
    second (Some mask) is = let no = sym (stated-means 126 line mask is) ∙ means in absurd (cc)

    first : (o : Option (List ℕ)) → after (codes "#> ") line ≡ o → Said (by_answer true n latest line o)
    first None is = second (after (codes "#~ ") line) refl
    first (Some rest) is = let no = sym (stated-means 62 line rest is) ∙ means in absurd (cc)

-- an event on a line, of which this is stated on another
abbrev placed : ℕ → Event → ℕ → List ℕ → StatedEvent
placed n e m answer = record { line = n; event = e; matching = Exact; answer_line = m; answer = answer }

-- ---- pieces of a script of at most so many lines

module _ (most : ℕ) where
  -- After n lines and this latest event the text says these events, whatever follows it, and then m lines are behind, and this event is the
  -- latest.
  record Tells (n m : ℕ) (text : List ℕ) (latest later : Latest) (events : List StatedEvent) : Type 0 where
    each : (rest : List ℕ) → stated_by true most n latest (lines_of (text ++ rest)) ≡ then_events events (stated_by true most m later (lines_of rest))

  Tells-nil : (n : ℕ) (latest : Latest) → Tells n n [] latest latest []
  Tells-nil n latest = record { each = λ rest. sym (then-none (stated_by true most n latest (lines_of rest))) }

  Tells-trans : {n m k : ℕ} {text more : List ℕ} {a b c : Latest} {es fs : List StatedEvent} → Tells n m text a b es → Tells m k more b c fs → Tells n k (text ++ more) a c (es ++ fs)
  Tells-trans {n = n} {k = k} {text = text} {more = more} {a = a} {c = c} {es = es} {fs = fs} p q = record {
    each = λ rest. ap (λ xs. stated_by true most n a (lines_of xs)) (append_assoc text more rest)
        ∙ p.each (more ++ rest) ∙ ap (then_events es) (q.each rest) ∙ then-twice es fs (stated_by true most k c (lines_of rest));
  }

  -- one whole line
  Tells-line : (n : ℕ) (line : List ℕ) (latest later : Latest) (es : List StatedEvent) → n < most → length line ≤ 64 → NoLineFeed line
      → line_says true (n + 1) latest line ≡ Ok (record { events = es; latest = later }) → Tells n (n + 1) (line ++ 10 ∷ []) latest later es
  Tells-line n line latest later es few short feeds says = record {
    each = λ rest. ap (λ xs. stated_by true most n latest (lines_of xs)) (append_assoc line (10 ∷ []) rest)
        ∙ ap (stated_by true most n latest) (lines-line line rest feeds) ∙ stated-line true most n latest line (lines_of rest) few
        ∙ ap (λ s. then_lines s (λ l. stated_by true most (n + 1) l (lines_of rest))) (bounded-short true (n + 1) latest line short ∙ says);
  }

  Tells-same : {n m : ℕ} {text : List ℕ} {a b : Latest} {es : List StatedEvent} (same : List ℕ) → same ≡ text → Tells n m text a b es → Tells n m same a b es
  Tells-same {n = n} {a = a} same is p = record { each = λ rest. ap (λ xs. stated_by true most n a (lines_of (xs ++ rest))) is ∙ p.each rest }

  -- all of a text
  Tells-all : {m : ℕ} {text : List ℕ} {later : Latest} {es : List StatedEvent} → Tells 0 m text None later es → IsGiven later → stated_within true most text ≡ Ok (es ++ ended later)
  Tells-all {m = m} {text = text} {later = later} {es = es} p last =
      ap (λ xs. stated_by true most 0 None (lines_of xs)) (sym (append-nil text)) ∙ p.each [] ∙ ap (then_events es) (stated-none true most m later ∙ last)

  -- ---- pieces of a recording

  -- After n lines and this latest event the text says these events, but for their lines, and then m lines are behind. The latest event of all
  -- is not yet ended.
  record Reads (n m : ℕ) (text : List ℕ) (latest later : Latest) (ss : List StatedEvent) : Type 0 where
    said : List StatedEvent
    stated : List StatedEvent
    tells : IsGiven latest → Tells n m text latest later said
    gives : IsGiven latest → IsGiven later
    splits : said ++ ended later ≡ ended latest ++ stated
    are : map without_line stated ≡ ss

  -- the same within so many lines
  abbrev Read : ℕ → List ℕ → Latest → List StatedEvent → ℕ → Type 0
  Read n text latest ss last = (m : ℕ) × (later : Latest) × Reads n m text latest later ss × (m ≤ last)

  reads-nil : (n : ℕ) (latest : Latest) → Read n [] latest [] n
  reads-nil n latest = (n, latest, record { said = []; stated = []; tells = λ x. Tells-nil n latest; gives = λ x. x; splits = sym (append-nil (ended latest)); are = refl }, omega arith)

  Reads-trans : {n m k : ℕ} {text more : List ℕ} {a b c : Latest} {ss ts : List StatedEvent} → Reads n m text a b ss → Reads m k more b c ts → Reads n k (text ++ more) a c (ss ++ ts)
  Reads-trans {a = a} {b = b} {c = c} p q = record {
    said = p.said ++ q.said;
    stated = p.stated ++ q.stated;
    tells = λ x. Tells-trans (p.tells x) (q.tells (p.gives x));
    gives = λ x. q.gives (p.gives x);
    splits = append_assoc p.said q.said (ended c) ∙ ap (λ xs. p.said ++ xs) q.splits ∙ sym (append_assoc p.said (ended b) q.stated)
        ∙ ap (λ xs. xs ++ q.stated) p.splits ∙ append_assoc (ended a) p.stated q.stated;
    are = map-append without_line p.stated q.stated ∙ (λ j. p.are j ++ q.are j);
  }

  -- a comment says nothing
  reads-comment : (n : ℕ) (line : List ℕ) (latest : Latest) → n < most → IsLine 64 line → line_says true (n + 1) latest line ≡ Ok (stays latest) → Read n (line ++ 10 ∷ []) latest [] (n + 1)
  reads-comment n line latest few is says = (
    n + 1,
    latest,
    record { said = []; stated = []; tells = λ x. Tells-line n line latest latest [] few is.short is.feeds says; gives = λ x. x; splits = sym (append-nil (ended latest)); are = refl },
    omega arith,
  )

  -- an event
  reads-event : (n : ℕ) (e : Event) (latest : Latest) → n < most → IsProper e → Read n (event_line e) latest (event_stating e [] ∷ []) (n + 1)
  reads-event n e latest few proper =
      let line = event-line e in (
        n + 1,
        Some (placed (n + 1) e 0 []),
        record {
          said = ended latest;
          stated = placed (n + 1) e 0 [] ∷ [];
          tells = λ x. Tells-line n (event_text e) latest (Some (placed (n + 1) e 0 [])) (ended latest) few line.short line.feeds (says-event (n + 1) latest (event_text e) e (event_read e proper) x);
          gives = λ x. refl;
          splits = refl;
          are = refl;
        },
        omega arith,
      )

  -- ---- words that the terminal sent

  -- the line of a word, without its line feed
  abbrev word_line : Sending → List ℕ
  word_line w = bus_letter w.bus ++ (sent_kind w.kind ++ digits_of w.bits)

  word-line : (w : Sending) → IsLine 8 (word_line w)
  word-line w = joined (bus_letter w.bus) _ (letter-line w.bus) (joined (sent_kind w.kind) _ (sent_kind-line w.kind) (digits-line w.bits))

  -- behind a front
  fronted : (front : List ℕ) (w : Sending) → front ++ sent_text w ≡ (front ++ word_line w) ++ 10 ∷ []
  fronted front w = ap (λ xs. front ++ xs) (on_bus w.bus w.kind) ∙ sym (append_assoc front (word_line w) (10 ∷ []))
    where
      on_bus : (bus : Bus) (kind : Kind) → sent_text (record w { bus = bus; kind = kind }) ≡ word_line (record w { bus = bus; kind = kind }) ++ 10 ∷ []
      on_bus A Com = refl
      on_bus A Dat = refl
      on_bus B Com = refl
      on_bus B Dat = refl

  can_send : (w : Sending) → can_answer event.Slot (word_line w) ≡ true
  can_send w = on_bus w.bus
    where
      on_bus : (bus : Bus) → can_answer event.Slot (bus_letter bus ++ (sent_kind w.kind ++ digits_of w.bits)) ≡ true
      on_bus A = refl
      on_bus B = refl

  states-word : (n k : ℕ) (line : List ℕ) → can_answer event.Slot line ≡ true → IsRead line → line_says true n (Some (placed k event.Slot 0 [])) (codes "#> " ++ line) ≡ Ok (stays (Some (placed k event.Slot n line)))
  states-word n k line can small = ap (λ text. or_misplaced n (states n Exact (Some (placed k event.Slot 0 [])) text)) small ∙ ap (λ b. or_misplaced n (if b then Some (placed k event.Slot n line) else None)) can

  -- what is stated of an ended slot is the word with its line feed
  ended-word : (k m : ℕ) (w : Sending) → map without_line (ended (Some (placed k event.Slot m (word_line w)))) ≡ event_stating event.Slot (sent_text w) ∷ []
  ended-word k m w = on_bus w.bus w.kind
    where
      on_bus : (bus : Bus) (kind : Kind) → map without_line (ended (Some (placed k event.Slot m (word_line (record w { bus = bus; kind = kind }))))) ≡ event_stating event.Slot (sent_text (record w { bus = bus; kind = kind })) ∷ []
      on_bus A Com = refl
      on_bus A Dat = refl
      on_bus B Com = refl
      on_bus B Dat = refl

  reads-reply : (n : ℕ) (w : Sending) (latest : Latest) → n + 1 < most → w.bits < 2 ^ 16 → Read n (codes "slot\n#> " ++ sent_text w) latest (event_stating event.Slot (sent_text w) ∷ []) (n + 2)
  reads-reply n w latest few small =
      let slot : IsLine 64 (codes "slot") = within (omega arith) (literal (codes "slot") refl) in
      let line : IsLine 64 (codes "#> " ++ word_line w) = within (omega arith) (joined (codes "#> ") (word_line w) (literal (codes "#> ") refl) (word-line w)) in
      let first = λ (x : IsGiven latest). Tells-line n (codes "slot") latest (Some (placed (n + 1) event.Slot 0 [])) (ended latest) (omega (arith, few)) slot.short slot.feeds
      (says-event (n + 1) latest (codes "slot") event.Slot (event_read event.Slot tt) x) in
      let second = Tells-line (n + 1) (codes "#> " ++ word_line w) (Some (placed (n + 1) event.Slot 0 [])) (Some (placed (n + 1) event.Slot (n + 1 + 1) (word_line w))) [] few line.short line.feeds
      (states-word (n + 1 + 1) (n + 1) (word_line w) (can_send w) (read-sent w.bus w.kind w.bits)) in (
        n + 1 + 1,
        Some (placed (n + 1) event.Slot (n + 1 + 1) (word_line w)),
        record {
          said = ended latest ++ [];
          stated = ended (Some (placed (n + 1) event.Slot (n + 1 + 1) (word_line w)));
          tells = λ x. Tells-same (codes "slot\n#> " ++ sent_text w) (ap (λ xs. codes "slot\n" ++ xs) (fronted (codes "#> ") w)) (Tells-trans (first x) second);
          gives = λ x. given (placed (n + 1) event.Slot (n + 1 + 1) (word_line w)) (answer-possible (SendsWord w) small);
          splits = ap (λ xs. xs ++ ended (Some (placed (n + 1) event.Slot (n + 1 + 1) (word_line w)))) (append-nil (ended latest));
          are = ended-word (n + 1) (n + 1 + 1) w;
        },
        omega arith,
      )

  -- ---- comments

  late-says : (n : ℕ) (latest : Latest) (late : ℕ) (line : List ℕ) → line_says true n latest (late_line late ++ line) ≡ Ok (stays latest)
  unfolding meaning
  late-says n latest late line = by (late == 0)
    where
      by : (b : Bool) → line_says true n latest ((if b then codes "# later than no response: " else codes "# later than no response by " ++ (decimal ((late - 1) / 1000 + 1) ++ codes " us: ")) ++ line) ≡ Ok (stays latest)
      by true = refl
      by false = refl

  reads-late : (n : ℕ) (w : Sending) (late : ℕ) (latest : Latest) → n < most → late < 2 ^ 64 → Read n (late_line late ++ sent_text w) latest [] (n + 1)
  reads-late n w late latest few small =
      let line : IsLine 64 (late_line late ++ word_line w) = within (omega arith) (joined (late_line late) (word_line w) (late-line late small) (word-line w)) in
      subst (λ text. Read n text latest [] (n + 1)) (sym (fronted (late_line late) w)) (reads-comment n _ latest few line (late-says (n + 1) latest late (word_line w)))

  -- the line of a gap that may have come
  maybe-line : (bus : Bus) → IsLine 64 (codes "#? " ++ event_text (event.Gap bus))
  maybe-line A = within (omega arith) (literal (codes "#? A gap") refl)
  maybe-line B = within (omega arith) (literal (codes "#? B gap") refl)

  -- an event that may have come
  abbrev maybe : ℕ → Event → StatedEvent
  maybe n e = record { line = n; event = e; matching = Maybe; answer_line = 0; answer = [] }

  -- line n says so
  abbrev SaysMaybe : ℕ → Latest → Event → Type 0
  SaysMaybe n latest e = line_says true n latest (codes "#? " ++ event_text e) ≡ Ok (record { events = ended latest; latest = Some (maybe n e) })

  maybe-says : (n : ℕ) (latest : Latest) (bus : Bus) → IsGiven latest → SaysMaybe n latest (event.Gap bus)
  unfolding meaning
  maybe-says n latest A given = ap (λ r. maybe_line n latest r) (event_read (event.Gap A) tt) ∙ ap (then_event n (event.Gap A) Maybe) given
  maybe-says n latest B given = ap (λ r. maybe_line n latest r) (event_read (event.Gap B) tt) ∙ ap (then_event n (event.Gap B) Maybe) given

  -- or a slot in which the terminal may be silent
  silent-says : (n : ℕ) (latest : Latest) → IsGiven latest → SaysMaybe n latest event.Slot
  unfolding meaning
  silent-says n latest given = ap (λ r. maybe_line n latest r) (event_read event.Slot tt) ∙ ap (then_event n event.Slot Maybe) given

  reads-maybe : (n : ℕ) (e : Event) (latest : Latest) → n < most → IsLine 64 (codes "#? " ++ event_text e) → (IsGiven latest → SaysMaybe (n + 1) latest e)
      → Read n (codes "#? " ++ event_line e) latest (event_maybe e ∷ []) (n + 1)
  reads-maybe n e latest few line says =
      let it : StatedEvent = maybe (n + 1) e in (
        n + 1,
        Some it,
        record {
          said = ended latest;
          stated = it ∷ [];
          tells = λ x. Tells-same (codes "#? " ++ event_line e) (sym (append_assoc (codes "#? ") (event_text e) (10 ∷ [])))
              (Tells-line n (codes "#? " ++ event_text e) latest (Some it) (ended latest) few line.short line.feeds (says x));
          gives = λ x. refl;
          splits = refl;
          are = refl;
        },
        omega arith,
      )

  -- a byte of a time begins no stated answer, and is no line feed
  time_byte : (b : ℕ) (more : Bool) → (is_time_byte b && more) ≡ true → ((b == 62) ≡ false) × ((b == 126) ≡ false) × (b ≡ 10 → ⊥) × (more ≡ true)
  time_byte b more e = (grind (arith, nat_tests), grind (arith, nat_tests), (λ is. grind (arith, nat_tests)), grind (arith, nat_tests))

  time-feeds : (text : List ℕ) → list_all is_time_byte text ≡ true → NoLineFeed text
  time-feeds [] e = tt
  time-feeds (b ∷ bs) e = let p = time_byte b _ e in (p.2, time-feeds bs p.3)

  time-parts : (text : List ℕ) → is_time_text text ≡ true → (length text ≤ 60) × (list_all is_time_byte text ≡ true)
  time-parts text e = (grind (arith, nat_tests), grind (arith, nat_tests))

  time-says : (n : ℕ) (latest : Latest) (b : ℕ) (bs : List ℕ) → (b == 62) ≡ false → (b == 126) ≡ false → line_says true n latest (35 ∷ 32 ∷ b ∷ bs) ≡ Ok (stays latest)
  unfolding meaning
  time-says n latest b bs p q = ap (silent_line n latest) (by (b == 62) (b == 126) p q)
    where
      by : (x y : Bool) → x ≡ false → y ≡ false → (let none : Option ℕ = None in if is_some (if x then Some bs else None) || is_some (if y then Some bs else None) then Some 2 else none) ≡ None
      by true y p q = cc p
      by false true p q = cc q
      by false false p q = refl

  reads-time : (n : ℕ) (text : List ℕ) (latest : Latest) → n < most → is_time_text text ≡ true → Read n (time_line text) latest [] (n + 1)
  reads-time n [] latest few is = let none = reads-nil n latest in (none.0, none.1, none.2, omega (arith, none.3))
  reads-time n (b ∷ bs) latest few is =
      let parts = time-parts (b ∷ bs) is in
      let byte = time_byte b _ parts.1 in
      let line : IsLine 64 (35 ∷ 32 ∷ b ∷ bs) = record { feeds = ((λ e. absurd (omega (arith, e))), ((λ e. absurd (omega (arith, e))), time-feeds (b ∷ bs) parts.1)); short = omega (arith, parts.0) } in
      reads-comment n (35 ∷ 32 ∷ b ∷ bs) latest few line (time-says (n + 1) latest b bs byte.0 byte.1)

  -- ---- what was heard

  reads-more : {n few last : ℕ} {text more : List ℕ} {latest : Latest} {ss ts : List StatedEvent} → (p : Read n text latest ss few) → Read p.0 more p.1 ts last → Read n (text ++ more) latest (ss ++ ts) last
  reads-more p q = (q.0, q.1, Reads-trans p.2 q.2, q.3)

  reads-later : {n few last : ℕ} {text : List ℕ} {latest : Latest} {ss : List StatedEvent} → few ≤ last → Read n text latest ss few → Read n text latest ss last
  reads-later low p = (p.0, p.1, p.2, omega (arith, low, p.3))

  reads-heard : (n : ℕ) (x : HeardItem) (latest : Latest) → n + 1 < most → HasWords x → Read n (heard_line x) latest (heard_stated x) (n + 2)
  reads-heard n (Gap bus) latest few words = reads-later (omega arith) (reads-event n (event.Gap bus) latest (omega (arith, few)) tt)
  reads-heard n (Word bus sync bits) latest few words = reads-later (omega arith) (reads-event n (event.Word bus (valid_word (kind_of_sync sync) bits)) latest (omega (arith, few)) words)
  reads-heard n (Noise bus) latest few words = reads-later (omega arith) (reads-event n (event.Noise bus) latest (omega (arith, few)) tt)
  reads-heard n (Reply sent) latest few words = reads-reply n (shown_word sent) latest few words
  reads-heard n (Late sent late) latest few words = reads-later (omega arith) (reads-late n (shown_word sent) late latest (omega (arith, few)) words.1)
  reads-heard n Slot latest few words = reads-later (omega arith) (reads-event n event.Slot latest (omega (arith, few)) tt)
  reads-heard n MaybeSilent latest few words = reads-later (omega arith)
      (reads-maybe n event.Slot latest (omega (arith, few)) (within (omega arith) (literal (codes "#? slot") refl)) (silent-says (n + 1) latest))
  reads-heard n (MaybeGap bus) latest few words = reads-later (omega arith) (reads-maybe n (event.Gap bus) latest (omega (arith, few)) (maybe-line bus) (maybe-says (n + 1) latest bus))
  reads-heard n Pause latest few words = reads-later (omega arith) (reads-event n event.Slot latest (omega (arith, few)) tt)

  reads-noted : (n : ℕ) (x : HeardAt) (latest : Latest) → n + 2 < most → IsNotable x → Read n (noted_text x) latest (heard_stated x.heard) (n + 3)
  reads-noted n x latest few is =
      let time = reads-time n x.time latest (omega (arith, few)) is.time in
      let heard = reads-heard time.0 x.heard time.1 (omega (arith, few, time.3)) is.words in
      reads-later (omega (arith, time.3)) (reads-more time heard)

  reads-all : (ns : List HeardAt) (n : ℕ) (latest : Latest) → AreNotable ns → n + 3 * length ns < most
      → Read n (recording_text ns) latest (flat_map heard_stated (map (λ n. n.heard) ns)) (n + 3 * length ns)
  reads-all [] n latest are few = reads-later (omega arith) (reads-nil n latest)
  reads-all (x ∷ ns) n latest are few =
      let first = reads-noted n x latest (omega (arith, few)) are.0 in
      let rest = reads-all ns first.0 first.1 are.1 (omega (arith, few, first.3)) in
      reads-later (omega (arith, first.3)) (reads-more first rest)

pub read_back : ReadBackLaw
read_back most ns are few =
    let all = reads-all most ns 0 None are (omega (arith, few)) in
    let r = all.2 in record { stated = r.stated; reads = Tells-all most (r.tells refl) (r.gives refl) ∙ ap Ok r.splits; events = r.are }

-- ---- recordings that end early

-- the last line, without its line feed, and behind its front
early_rest : RefusedRow → List ℕ
early_rest refused = decimal refused.row ++ (codes " was refused; rows written: " ++ decimal refused.rows)

early-line : (refused : RefusedRow) → refused_line refused.row refused.rows ≡ (codes "#! row " ++ early_rest refused) ++ 10 ∷ []
unfolding early_rest
early-line refused =
    ap (λ text. codes "#! row " ++ text)
    (ap (λ text. decimal refused.row ++ text) (sym (append_assoc (codes " was refused; rows written: ") (decimal refused.rows) (10 ∷ [])))
    ∙ sym (append_assoc (decimal refused.row) (codes " was refused; rows written: " ++ decimal refused.rows) (10 ∷ [])))
    ∙ sym (append_assoc (codes "#! row ") (early_rest refused) (10 ∷ []))

early-feeds : (refused : RefusedRow) → refused.row < 2 ^ 64 → refused.rows < 2 ^ 64 → NoLineFeed (codes "#! row " ++ early_rest refused)
unfolding early_rest
early-feeds refused row rows =
    let written = literal (codes " was refused; rows written: ") refl in
    let front = literal (codes "#! row ") refl in
    feeds-append (codes "#! row ") (early_rest refused) front.feeds
    (feeds-append (decimal refused.row) (codes " was refused; rows written: " ++ decimal refused.rows) (decimal-feeds refused.row row)
    (feeds-append (codes " was refused; rows written: ") (decimal refused.rows) written.feeds (decimal-feeds refused.rows rows)))

early-says : (n : ℕ) (latest : Latest) (rest : List ℕ) → line_says true n latest (codes "#! row " ++ rest) ≡ Err (EndsEarly n)
unfolding meaning
early-says n latest rest = refl

pub early_ends : EarlyEndLaw
early_ends most ns refused row rows are few short =
    let begun = reads-all most ns 0 None are (omega (arith, few)) in
    let m : ℕ = begun.0 in
    let later : Latest = begun.1 in
    let r = begun.2 in
    let line : List ℕ = codes "#! row " ++ early_rest refused in
    let low : length line ≤ 64 = omega (arith, short, ap length (early-line refused), length-append line (10 ∷ [])) in (
      m + 1,
      ap (λ text. stated_by true most 0 None (lines_of (recording_text ns ++ text))) (early-line refused)
          ∙ (r.tells refl).each (line ++ 10 ∷ [])
          ∙ ap (λ ls. then_events r.said (stated_by true most m later ls)) (lines-line line [] (early-feeds refused row rows))
          ∙ ap (then_events r.said) (stated-line true most m later line (lines_of []) (omega (arith, few, begun.3))
          ∙ ap (λ s. then_lines s (λ l. stated_by true most (m + 1) l (lines_of []))) (bounded-short true (m + 1) later line low ∙ early-says (m + 1) later (early_rest refused))),
    )
