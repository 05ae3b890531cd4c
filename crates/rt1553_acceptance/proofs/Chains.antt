-- The text of events with what is stated of their answers, read: it says these events, and just these answers.
use Rattle.std.proofs.Common.{ℕ, ◌≡◌, ◌∙◌, ◌+◌, ◌*◌, ◌<◌, ◌≤◌, ◌==◌, Bool, true, false, if◌then◌else◌, List, [], ◌∷◌, ◌++◌, Option, Some, None, Result, Ok, Err, length, map, refl, sym, ap, subst, arith, append_assoc, append-nil, length-append, codes}
use Rattle.std.proofs.lemmas.List.{map-append}
use Rattle.bus_word.specs.declared.word.Bus.{Bus}
use Rattle.bus_word.specs.declared.word.Bus.TheVariants.{A, B}
use Rattle.bus_word.specs.declared.word.Kind.{Kind}
use Rattle.bus_word.specs.Cell.{cell_of}
use Rattle.bus_word.specs.Command.{transmits, code_of, is_mode, is_broadcast}
use Rattle.bus_word.specs.Mode.{mode_name}
use Rattle.bus_legal.specs.Description.{Description}
use Rattle.terminal_rules.specs.declared.event.Event.{Event}
use Rattle.terminal_rules.specs.declared.event.Event.TheVariants as event
use Rattle.terminal_rules.specs.Reply.{reply_now}
use Rattle.terminal_rules.specs.Ends.{ends_now}
use Rattle.terminal_rules.specs.Past.{past, history_after}
use Rattle.terminal_rules.specs.Same.{AreProper}
use Rattle.terminal_rules.specs.Out.{Sending, Handing, HandsReceived, HandsSynchronize, HandsSynchronizeWith, HandsSelfTest, HandsBusControl, Out, Silence, SendsWord, HandsOver, sends, hands, handing_over, sending_out, out}
use Rattle.terminal_exchanges.specs.Exchanges.{Exchange, script_of}
use Rattle.terminal_exchanges.proofs.EventLaws.{exchange-append}
use Rattle.script_lines.specs.Digits.{digits_of, decimal_digits}
use Rattle.script_lines.specs.Line.{meaning}
use Rattle.script_lines.specs.Text.{NoLineFeed}
use Rattle.script_lines.specs.EventLine.{event_text}
use Rattle.script_lines.specs.Transcript.{bus_letter, sent_kind, received_by, transcript}
use Rattle.script_lines.proofs.RoundTrip.{event_read}
use Rattle.line_format.specs.Front.{after}
use Rattle.refused_lines.specs.Refused.{mistyped}
use Rattle.rt1553_verify.specs.declared.stated.StatedFault.{StatedFault}
use Rattle.rt1553_verify.specs.declared.matching.Matching.TheVariants.{Exact}
use Rattle.rt1553_verify.specs.Stated.{StatedEvent, Latest, After, can_answer, can_be_given, states, ended, all_stated, then_event, stays, or_misplaced, silent_line, unstated_line, by_going_on, by_mask, by_answer, with_line_feed, is_empty, line_says}
use Rattle.rt1553_verify.specs.declared.stated.StatedFault.TheVariants.{Impossible}
use Rattle.rt1553_verify.specs.Possible.{IsProperAnswer}
use Rattle.rt1553_verify.proofs.StatedLaws.{stated-means}
use Rattle.rt1553_verify.proofs.PossibleLaws.{answer_line, line-text, answer-possible}
use Rattle.message_names.specs.NameRow.{NameRow}
use Rattle.rt1553_acceptance.specs.Label.{data_asked, asked, is_legal_by, label_of}
use Rattle.rt1553_acceptance.specs.Remark.{remark_of}
use Rattle.rt1553_acceptance.specs.Text.{answer_stated, event_stated, comment_of, exchanges_stated, fields_stated}
use Rattle.rt1553_acceptance.specs.Law.{AreStatedAnswers}
use Rattle.rt1553_acceptance.specs.inner.Fits.{Fits, AllFit}
use Rattle.rt1553_acceptance.proofs.Pieces.{Tells, Tells-nil, Tells-line, Tells-trans, Tells-same}
use Rattle.rt1553_acceptance.proofs.Feeds.{IsLine, literal, within, joined, digits-line, decimal_digits-line, letter-line, sent_kind-line, labelled-line, event-line}
use Rattle.rt1553_acceptance.proofs.Fields.{answered, fields-added}
use Rattle.rt1553_acceptance.proofs.Small.{IsSmall, IsRead, small-append, small-whole, small-digits, small-decimal, read-sent}
use Rattle.rt1553_acceptance.proofs.Handed.{IsHandable, handed}

-- ---- the line of an event

-- a terminal can give what was stated of the latest event
abbrev pub IsGiven : Latest → Type 0
IsGiven latest = all_stated latest ≡ Ok (ended latest)

-- a line that means an event says that event, whatever is the latest
says-event : (n : ℕ) (latest : Latest) (line : List ℕ) (e : Event) → meaning line ≡ Ok (Some e) → IsGiven latest
    → line_says false n latest line ≡ Ok (record { events = ended latest; latest = Some (record { line = n; event = e; matching = Exact; answer_line = 0; answer = [] }) })
says-event n latest line e means given = first (after (codes "#> ") line) refl
  where
    Said : Result After StatedFault → Type 0
    Said said = said ≡ Ok (record { events = ended latest; latest = Some (record { line = n; event = e; matching = Exact; answer_line = 0; answer = [] }) })

    third : (o : Option (List ℕ)) → after (codes "#+ ") line ≡ o → Said (by_going_on false n latest line o)
    third None is = ap (unstated_line false n latest line) means ∙ ap (then_event n e Exact) given
    third (Some rest) is = let no = sym (stated-means 43 line rest is) ∙ means in absurd (cc)

    second : (o : Option (List ℕ)) → after (codes "#~ ") line ≡ o → Said (by_mask false n latest line o)
    second None is = third (after (codes "#+ ") line) refl
    second (Some mask) is = let no = sym (stated-means 126 line mask is) ∙ means in absurd (cc)

    first : (o : Option (List ℕ)) → after (codes "#> ") line ≡ o → Said (by_answer false n latest line o)
    first None is = second (after (codes "#~ ") line) refl
    first (Some rest) is = let no = sym (stated-means 62 line rest is) ∙ means in absurd (cc)

-- ---- the lines of an answer

-- the answer is one that the event can have: a gap hands over, and a slot sends
abbrev CanBe : Event → Out → Type 0
CanBe e Silence = Unit {0}
CanBe event.Slot (SendsWord s) = Unit {0}
CanBe (event.Gap bus) (HandsOver h) = IsHandable (Some h)
CanBe _ _ = ⊥

can_be : (P : Description) (h : List Event) (e : Event) → CanBe e (out P h e)
can_be P h (event.Word bus w) = tt
can_be P h (event.Noise bus) = tt
can_be P h (event.Gap bus) = by_hands (hands P (ends_now P (past P h) (event.Gap bus))) (handed P h bus)
  where
    by_hands : (o : Option Handing) → IsHandable o → CanBe (event.Gap bus) (handing_over o)
    by_hands None is = tt
    by_hands (Some handing) is = is
can_be P h (event.Write place word) = tt
can_be P h (event.Vector word) = tt
can_be P h (event.Bit word) = tt
can_be P h (event.Flag f value) = tt
can_be P h event.Slot = by_reply (sends P (past P h) (reply_now (past P h)))
  where
    by_reply : (o : Option Sending) → CanBe event.Slot (sending_out o)
    by_reply None = tt
    by_reply (Some sending) = tt

-- an event of which nothing was stated, on a line
abbrev unanswered : ℕ → Event → StatedEvent
unanswered n e = record { line = n; event = e; matching = Exact; answer_line = 0; answer = [] }

-- an event of which an answer is stated on a line
abbrev told_on : ℕ → ℕ → Event → StatedEvent
told_on n k e = record { line = k; event = e; matching = Exact; answer_line = n; answer = [] }

-- an event with its answer, which is stated on a line if it is not nothing
abbrev line_if : ℕ → Out → ℕ
line_if n Silence = 0
line_if n _ = n

abbrev after_answer : ℕ → ℕ → Event → Out → StatedEvent
after_answer n k e o = record { line = k; event = e; matching = Exact; answer_line = line_if n o; answer = answer_line o }

-- the lines of an answer are read, at most four
abbrev IsTold : ℕ → ℕ → ℕ → Event → Out → Type 0
IsTold most n k e o = (m : ℕ) × Tells most n m (answer_stated o) (Some (unanswered k e)) (Some (after_answer (n + 1) k e o)) [] × (m ≤ n + 4)

-- a line that states an answer that the event can have
states-line : (n k : ℕ) (e : Event) (line : List ℕ) → can_answer e line ≡ true → IsRead line
    → line_says false n (Some (unanswered k e)) (codes "#> " ++ line) ≡ Ok (stays (Some (answered (told_on n k e) line)))
states-line n k e line can small = ap (λ text. or_misplaced n (states n Exact (Some (unanswered k e)) text)) small ∙ ap (λ b. or_misplaced n (if b then Some (answered (told_on n k e) line) else None)) can

-- an answer of one line
one_line : (most n k : ℕ) (e : Event) (line text : List ℕ) → n + 6 < most → IsLine 61 line → can_answer e line ≡ true → IsRead line → text ≡ codes "#> " ++ (line ++ 10 ∷ [])
    → Tells most n (n + 1) text (Some (unanswered k e)) (Some (answered (told_on (n + 1) k e) line)) []
one_line most n k e line text few is can small split =
    let whole : IsLine 64 (codes "#> " ++ line) = joined (codes "#> ") line (literal _ refl) is in
    Tells-same text (split ∙ sym (append_assoc (codes "#> ") line (10 ∷ [])))
    (Tells-line most n (codes "#> " ++ line) (Some (unanswered k e)) _ [] (omega (arith, few)) whole.short whole.feeds (states-line (n + 1) k e line can small))

told : (most n k : ℕ) (e : Event) (o : Out) → n + 6 < most → CanBe e o → Fits o → IsTold most n k e o
told most n k e Silence few can fits = (n, Tells-nil most n (Some (unanswered k e)), omega arith)
told most n k event.Slot (SendsWord s) few can fits = (
  n + 1,
  one_line most n k event.Slot _ _ few (within (omega arith) (joined (bus_letter s.bus) _ (letter-line s.bus) (joined (sent_kind s.kind) _ (sent_kind-line s.kind) (digits-line s.bits))))
      (on_bus s.bus s.kind) (read-sent s.bus s.kind s.bits)
      (ap (λ text. codes "#> " ++ text) (sym (line-text (SendsWord s)) ∙ with_feed s.bus s.kind)),
  omega arith,
)
  where
    on_bus : (bus : Bus) (kind : Kind) → can_answer event.Slot (bus_letter bus ++ (sent_kind kind ++ digits_of s.bits)) ≡ true
    on_bus A kind = refl
    on_bus B kind = refl

    with_feed : (bus : Bus) (kind : Kind) → with_line_feed (bus_letter bus ++ (sent_kind kind ++ digits_of s.bits)) ≡ (bus_letter bus ++ (sent_kind kind ++ digits_of s.bits)) ++ 10 ∷ []
    with_feed A kind = refl
    with_feed B kind = refl
told most n k (event.Gap bus) (HandsOver (HandsReceived broadcast subaddress words)) few can fits =
    let front : List ℕ = codes "#> " ++ (received_by broadcast ++ decimal_digits subaddress) in
    let is : IsLine 28 front = within (omega arith) (joined (codes "#> ") _ (literal _ refl) (joined (received_by broadcast) _ (by_line broadcast) (decimal_digits-line subaddress))) in
    let p = fields-added most n 7 words front (received_by broadcast ++ decimal_digits subaddress) (Some (unanswered k (event.Gap bus))) (told_on (n + 1) k (event.Gap bus))
    refl is.feeds (omega (arith, is.short)) (omega arith) (some broadcast) (omega (arith, few, fits.0))
    (λ more small. states-line (n + 1) k (event.Gap bus) ((received_by broadcast ++ decimal_digits subaddress) ++ more) (hands_line broadcast more)
    (small-whole _ (small-append (received_by broadcast ++ decimal_digits subaddress) more (small-append (received_by broadcast) _ (by_small broadcast) (small-decimal subaddress (omega (arith, can.1)))) small))) in (
      p.0,
      Tells-same {m = p.0} _ (ap (λ text. codes "#> " ++ text) (sym (append_assoc (received_by broadcast) (decimal_digits subaddress) (fields_stated 7 words)))) p.1,
      omega (arith, p.2, fits.0),
    )
  where
    by_line : (broadcast : Bool) → IsLine 23 (received_by broadcast)
    by_line true = literal _ refl
    by_line false = within (omega arith) (literal _ refl)

    by_small : (broadcast : Bool) → IsSmall (received_by broadcast)
    by_small true = refl
    by_small false = refl

    some : (broadcast : Bool) → is_empty (received_by broadcast ++ decimal_digits subaddress) ≡ false
    some true = refl
    some false = refl

    hands_line : (broadcast : Bool) (more : List ℕ) → can_answer (event.Gap bus) ((received_by broadcast ++ decimal_digits subaddress) ++ more) ≡ true
    hands_line true more = refl
    hands_line false more = refl
told most n k (event.Gap bus) (HandsOver HandsSynchronize) few can fits =
    (n + 1, one_line most n k (event.Gap bus) _ _ few (within (omega arith) (literal (codes "hand sync") refl)) refl refl refl, omega arith)
told most n k (event.Gap bus) (HandsOver (HandsSynchronizeWith word)) few can fits = (
  n + 1,
  one_line most n k (event.Gap bus) _ _ few (within (omega arith) (joined (codes "hand sync ") (digits_of word) (literal _ refl) (digits-line word))) refl
      (small-whole _ (small-append (codes "hand sync ") (digits_of word) refl (small-digits word))) refl,
  omega arith,
)
told most n k (event.Gap bus) (HandsOver HandsSelfTest) few can fits =
    (n + 1, one_line most n k (event.Gap bus) _ _ few (within (omega arith) (literal (codes "hand self-test") refl)) refl refl refl, omega arith)
told most n k (event.Gap bus) (HandsOver HandsBusControl) few can fits =
    (n + 1, one_line most n k (event.Gap bus) _ _ few (within (omega arith) (literal (codes "hand bus-control") refl)) refl refl refl, omega arith)
told most n k (event.Word bus w) (SendsWord s) few can fits = absurd can
told most n k (event.Word bus w) (HandsOver h) few can fits = absurd can
told most n k (event.Noise bus) (SendsWord s) few can fits = absurd can
told most n k (event.Noise bus) (HandsOver h) few can fits = absurd can
told most n k (event.Gap bus) (SendsWord s) few can fits = absurd can
told most n k (event.Write place word) (SendsWord s) few can fits = absurd can
told most n k (event.Write place word) (HandsOver h) few can fits = absurd can
told most n k (event.Vector word) (SendsWord s) few can fits = absurd can
told most n k (event.Vector word) (HandsOver h) few can fits = absurd can
told most n k (event.Bit word) (SendsWord s) few can fits = absurd can
told most n k (event.Bit word) (HandsOver h) few can fits = absurd can
told most n k (event.Flag f value) (SendsWord s) few can fits = absurd can
told most n k (event.Flag f value) (HandsOver h) few can fits = absurd can
told most n k event.Slot (HandsOver h) few can fits = absurd can

-- ---- the answers are proper

handable-of : (e : Event) (h : Handing) → CanBe e (HandsOver h) → IsHandable (Some h)
handable-of (event.Word bus w) h can = absurd can
handable-of (event.Noise bus) h can = absurd can
handable-of (event.Gap bus) h can = can
handable-of (event.Write place word) h can = absurd can
handable-of (event.Vector word) h can = absurd can
handable-of (event.Bit word) h can = absurd can
handable-of (event.Flag f value) h can = absurd can
handable-of event.Slot h can = absurd can

proper-of : (e : Event) (o : Out) → CanBe e o → Fits o → IsProperAnswer o
proper-of e Silence can fits = tt
proper-of e (SendsWord s) can fits = fits
proper-of e (HandsOver (HandsReceived broadcast s ws)) can fits = let p = handable-of e (HandsReceived broadcast s ws) can in (p.0, p.1, p.2, p.3, fits.1)
proper-of e (HandsOver HandsSynchronize) can fits = tt
proper-of e (HandsOver (HandsSynchronizeWith word)) can fits = fits.1 0 0 (omega arith)
proper-of e (HandsOver HandsSelfTest) can fits = tt
proper-of e (HandsOver HandsBusControl) can fits = tt

given : (s : StatedEvent) → can_be_given s.matching s.answer ≡ true → IsGiven (Some s)
given s can = ap (λ b. if b then Ok (ended (Some s)) else Err (Impossible s.answer_line)) can

-- ---- events, one after the other

-- After n lines and this latest event, the text says these events of the history h, with just their answers, and then m lines
-- are behind, if a terminal can give what was stated of that event. The latest event of all is not yet ended.
pub record Chain (most : ℕ) (P : Description) (n m : ℕ) (h : List Event) (text : List ℕ) (latest later : Latest) (es : List Event) : Type 0 where
  pub said : List StatedEvent
  pub stated : List StatedEvent
  pub tells : IsGiven latest → Tells most n m text latest later said
  pub gives : IsGiven latest → IsGiven later
  pub splits : said ++ ended later ≡ ended latest ++ stated
  pub events : map (λ s. s.event) stated ≡ es
  pub answers : AreStatedAnswers P h stated

abbrev pub Chained : ℕ → Description → ℕ → List Event → List ℕ → Latest → List Event → ℕ → Type 0
Chained most P n h text latest es high = (m : ℕ) × (later : Latest) × Chain most P n m h text latest later es × (m ≤ high)

pub Chain-nil : (most : ℕ) (P : Description) (n : ℕ) (h : List Event) (latest : Latest) → Chain most P n n h [] latest latest []
Chain-nil most P n h latest = record { said = []; stated = []; tells = λ x. Tells-nil most n latest; gives = λ x. x; splits = sym (append-nil (ended latest)); events = refl; answers = tt }

answered-append : (P : Description) (h : List Event) (ss ts : List StatedEvent) → AreStatedAnswers P h ss → AreStatedAnswers P (history_after (map (λ s. s.event) ss) h) ts → AreStatedAnswers P h (ss ++ ts)
answered-append P h [] ts a b = b
answered-append P h (s ∷ ss) ts a b = (a.0, a.1, answered-append P (s.event ∷ h) ss ts a.2 b)

pub Chain-trans : {most : ℕ} {P : Description} {n m k : ℕ} {h : List Event} {text more : List ℕ} {a b c : Latest} {es fs : List Event}
    → Chain most P n m h text a b es → Chain most P m k (history_after es h) more b c fs → Chain most P n k h (text ++ more) a c (es ++ fs)
Chain-trans {P = P} {h = h} {a = a} {b = b} {c = c} p q = record {
  said = p.said ++ q.said;
  stated = p.stated ++ q.stated;
  tells = λ x. Tells-trans (p.tells x) (q.tells (p.gives x));
  gives = λ x. q.gives (p.gives x);
  splits = append_assoc p.said q.said (ended c) ∙ ap (λ xs. p.said ++ xs) q.splits ∙ sym (append_assoc p.said (ended b) q.stated)
      ∙ ap (λ xs. xs ++ q.stated) p.splits ∙ append_assoc (ended a) p.stated q.stated;
  events = map-append (λ s. s.event) p.stated q.stated ∙ (λ j. p.events j ++ q.events j);
  answers = answered-append P h p.stated q.stated p.answers (subst (λ xs. AreStatedAnswers P (history_after xs h) q.stated) (sym p.events) q.answers);
}

-- the line of an event, and what is stated of its answer
pub line_event : (most : ℕ) (P : Description) (n : ℕ) (h : List Event) (line : List ℕ) (e : Event) (latest : Latest) → n + 7 < most → length line ≤ 64 → NoLineFeed line
    → meaning line ≡ Ok (Some e) → Fits (out P h e) → Chained most P n h (line ++ 10 ∷ answer_stated (out P h e)) latest (e ∷ []) (n + 5)
line_event most P n h line e latest few short feeds means fits =
    let event : IsGiven latest → Tells most n (n + 1) (line ++ 10 ∷ []) latest (Some (unanswered (n + 1) e)) (ended latest) = λ x. Tells-line most n line latest (Some (unanswered (n + 1) e)) (ended latest) (omega (arith, few)) short feeds (says-event (n + 1) latest line e means x) in
    let can = can_be P h e in
    let answer = told most (n + 1) (n + 1) e (out P h e) (omega (arith, few)) can fits in
    let last : StatedEvent = after_answer (n + 1 + 1) (n + 1) e (out P h e) in (
      answer.0,
      Some (last),
      record {
        said = ended latest ++ [];
        stated = ended (Some (last));
        tells = λ x. Tells-same {m = answer.0} _ (sym (append_assoc line (10 ∷ []) (answer_stated (out P h e)))) (Tells-trans (event x) answer.1);
        gives = λ x. given last (answer-possible (out P h e) (proper-of e (out P h e) can fits));
        splits = ap (λ xs. xs ++ ended (Some (last))) (append-nil (ended latest));
        events = refl;
        answers = (refl, line-text (out P h e), tt);
      },
      omega (arith, answer.2),
    )

some_events : (most : ℕ) (P : Description) (n : ℕ) (h es : List Event) (latest : Latest) → AreProper es → AllFit P h es → n + 5 * length es + 7 < most
    → Chained most P n h (transcript (event_stated P) h es) latest es (n + 5 * length es)
unfolding transcript
some_events most P n h [] latest proper fits few = (n, latest, Chain-nil most P n h latest, omega arith)
some_events most P n h (e ∷ es) latest proper fits few =
    let line = event-line e in
    let first = line_event most P n h (event_text e) e latest (omega (arith, few)) line.short line.feeds (event_read e proper.0) fits.0 in
    let rest = some_events most P first.0 (e ∷ h) es first.1 proper.1 fits.1 (omega (arith, few, first.3)) in
    (rest.0, rest.1, Chain-trans {k = rest.0} {c = rest.1} first.2 rest.2, omega (arith, first.3, rest.3))

-- ---- exchanges, each behind its comment

-- a comment that begins so does not look like a stated answer
abbrev Front : List ℕ → Type 0
Front text = (more : List ℕ) → mistyped (codes "# " ++ (text ++ more)) ≡ None

front-more : (text rest : List ℕ) → Front text → Front (text ++ rest)
front-more text rest front more = ap (λ xs. mistyped (codes "# " ++ xs)) (append_assoc text rest more) ∙ front (rest ++ more)

front-if : (b : Bool) (text other : List ℕ) → Front text → Front other → Front (if b then text else other)
front-if true text other a b = a
front-if false text other a b = b

mode-front : (code : ℕ) → Front (mode_name code)
mode-front code =
    front-if (code == 0) _ _ (λ more. refl) (front-if (code == 1) _ _ (λ more. refl) (front-if (code == 2) _ _ (λ more. refl)
    (front-if (code == 3) _ _ (λ more. refl) (front-if (code == 4) _ _ (λ more. refl) (front-if (code == 5) _ _ (λ more. refl)
    (front-if (code == 6) _ _ (λ more. refl) (front-if (code == 7) _ _ (λ more. refl) (front-if (code == 8) _ _ (λ more. refl)
    (front-if (code == 16) _ _ (λ more. refl) (front-if (code == 17) _ _ (λ more. refl) (front-if (code == 18) _ _ (λ more. refl)
    (front-if (code == 19) _ _ (λ more. refl) (front-if (code == 20) _ _ (λ more. refl) (front-if (code == 21) _ _ (λ more. refl) (λ more. refl)))))))))))))))

asked-front : (c : ℕ) → Front (asked c)
asked-front c = front-if (is_mode c) (mode_name (code_of c)) (data_asked c) (mode-front (code_of c))
    (front-more (if transmits c then codes "transmit " else codes "receive ") _ (front-if (transmits c) _ _ (λ more. refl) (λ more. refl)))

label-front : (P : Description) (c : ℕ) → Front (label_of P c)
label-front P c = by (is_broadcast c)
  where
    verdict : List ℕ
    verdict = if is_legal_by P (cell_of c) then codes ": legal" else codes ": illegal"

    by : (b : Bool) → Front ((if b then codes "broadcast " else []) ++ (asked c ++ verdict))
    by true = front-more (codes "broadcast ") (asked c ++ verdict) (λ more. refl)
    by false = front-more (asked c) verdict (asked-front c)

-- a line that says nothing
pub silent_said : (most : ℕ) (P : Description) (n : ℕ) (h : List Event) (line : List ℕ) (latest : Latest) → n < most → length line ≤ 64 → NoLineFeed line
    → line_says false (n + 1) latest line ≡ Ok (stays latest) → Chain most P n (n + 1) h (line ++ 10 ∷ []) latest latest []
silent_said most P n h line latest few short feeds says = record {
  said = [];
  stated = [];
  tells = λ x. Tells-line most n line latest latest [] few short feeds says;
  gives = λ x. x;
  splits = sym (append-nil (ended latest));
  events = refl;
  answers = tt;
}

comment_said : (rows : List NameRow) (most : ℕ) (P : Description) (n : ℕ) (h : List Event) (x : Exchange) (latest : Latest) → n < most
    → Chain most P n (n + 1) h (comment_of rows P x) latest latest []
unfolding meaning
comment_said rows most P n h x latest few =
    let label = label_of P x.command in
    let remark = remark_of rows label x.command in
    let line : IsLine 64 (codes "# " ++ (label ++ remark)) = within (omega arith) (joined (codes "# ") (label ++ remark) (literal _ refl) (labelled-line rows P x.command)) in
    let split : (codes "# " ++ (label ++ remark)) ++ 10 ∷ [] ≡ comment_of rows P x =
    append_assoc (codes "# ") (label ++ remark) (10 ∷ []) ∙ ap (λ text. codes "# " ++ text) (append_assoc label remark (10 ∷ [])) in
    subst (λ text. Chain most P n (n + 1) h text latest latest []) split
    (silent_said most P n h (codes "# " ++ (label ++ remark)) latest few line.short line.feeds (ap (silent_line (n + 1) latest) (label-front P x.command remark)))

proper-append : (es fs : List Event) → AreProper (es ++ fs) → AreProper es × AreProper fs
proper-append [] fs p = (tt, p)
proper-append (e ∷ es) fs p = let later = proper-append es fs p.1 in ((p.0, later.0), later.1)

pub fit-append : (P : Description) (h es fs : List Event) → AllFit P h (es ++ fs) → AllFit P h es × AllFit P (history_after es h) fs
fit-append P h [] fs p = (tt, p)
fit-append P h (e ∷ es) fs p = let later = fit-append P (e ∷ h) es fs p.1 in ((p.0, later.0), later.1)

pub some_exchanges : (rows : List NameRow) (most : ℕ) (P : Description) (n : ℕ) (h : List Event) (xs : List Exchange) (latest : Latest) → AreProper (script_of xs) → AllFit P h (script_of xs)
    → n + 6 * length (script_of xs) + 7 < most → Chained most P n h (exchanges_stated rows P h xs) latest (script_of xs) (n + 6 * length (script_of xs))
unfolding exchanges_stated
some_exchanges rows most P n h [] latest proper fits few = (n, latest, Chain-nil most P n h latest, omega arith)
some_exchanges rows most P n h (x ∷ xs) latest proper fits few =
    let one : List Event = script_of (x ∷ []) in
    let parts : one ++ script_of xs ≡ script_of (x ∷ xs) = exchange-append x (script_of xs) in
    let long = ap length (sym parts) ∙ length-append one (script_of xs) in
    let some : 1 ≤ length one = omega arith in
    let propers = proper-append one (script_of xs) (subst AreProper (sym parts) proper) in
    let fit = fit-append P h one (script_of xs) (subst (AllFit P h) (sym parts) fits) in
    let comment = comment_said rows most P n h x latest (omega (arith, few)) in
    let events = some_events most P (n + 1) h one latest propers.0 fit.0 (omega (arith, few, long, some)) in
    let rest = some_exchanges rows most P events.0 (history_after one h) xs events.1 propers.1 fit.1 (omega (arith, few, long, some, events.3)) in (
      rest.0,
      rest.1,
      subst (Chain most P n rest.0 h (exchanges_stated rows P h (x ∷ xs)) latest rest.1) parts (Chain-trans {k = rest.0} {c = rest.1} comment (Chain-trans {k = rest.0} {c = rest.1} events.2 rest.2)),
      omega (arith, long, some, events.3, rest.3),
    )
