-- What the acceptance test shows: a terminal is found to answer as it states exactly if it is the same terminal.
use Rattle.std.proofs.Common.{ℕ, ◌≡◌, ◌∙◌, ◌<◌, ◌^◌, Bool, true, false, if◌then◌else◌, List, [], ◌∷◌, ◌++◌, Some, None, Ok, map, take, drop, get_or, refl, sym, ap, subst, arith}
use Rattle.std.specs.Str.{bytes_eq}
use Rattle.std.proofs.lemmas.Slice.Eq.{bytes_eq-Decides}
use Rattle.hex.specs.Hex.{encode_with}
use Rattle.bus_word.specs.declared.word.Bus.{Bus}
use Rattle.bus_word.specs.declared.word.Bus.TheVariants.{A, B}
use Rattle.bus_word.specs.declared.word.Kind.{Kind}
use Rattle.bus_word.specs.declared.word.Kind.TheVariants.{Com, Dat}
use Rattle.bus_legal.specs.Description.{Description}
use Rattle.bus_legal.specs.Parts.{Parts, description_in, IsNormal}
use Rattle.terminal_rules.specs.declared.event.Event.{Event}
use Rattle.terminal_rules.specs.Out.{Sending, Handing, HandsReceived, HandsSynchronize, HandsSynchronizeWith, HandsSelfTest, HandsBusControl, Out, Silence, SendsWord, HandsOver, out, outs_from, sent_in}
use Rattle.bus_complete_test.specs.CompleteTest.{complete_test, tried}
use Rattle.script_lines.specs.Digits.{digits_of}
use Rattle.script_lines.specs.Transcript.{sent_text, hand_text, answer_text, text_at}
use Rattle.bus_complete_test.proofs.Complete.{complete_test_law}
use Rattle.rt1553_verify.specs.declared.matching.Matching.TheVariants.{Exact}
use Rattle.rt1553_verify.specs.Stated.{StatedEvent, fits, stated_in}
use Rattle.rt1553_verify.specs.Verify.{ToldAnswer, answers_told, wrong_answers_from, by_script, verified}
use Rattle.message_names.specs.NameRow.{NameRow}
use Rattle.rt1553_acceptance.specs.Text.{acceptance_text}
use Rattle.rt1553_acceptance.specs.Law.{AreStatedAnswers, IsAcceptanceTest}
use Rattle.rt1553_acceptance.specs.inner.Fits.{Fits, AllFit}
use Rattle.rt1553_acceptance.proofs.Pieces.{Tells-all}
use Rattle.rt1553_acceptance.proofs.Digits.{same_digits}
use Rattle.rt1553_acceptance.proofs.Chains.{some_exchanges}

-- ---- texts of answers tell the words that are sent

abbrev word : Bus → Kind → ℕ → Sending
word bus kind bits = record { bus = bus; kind = kind; bits = bits }

-- words with the same text are the same, where one has 16 bits
same_sent : (s t : Sending) → s.bits < 2 ^ 16 → sent_text s ≡ sent_text t → s ≡ t
unfolding encode_with
same_sent s t small same = on_buses s.bus s.kind t.bus t.kind same
  where
    one : (bus : Bus) (kind : Kind) → digits_of s.bits ≡ digits_of t.bits → word bus kind s.bits ≡ word bus kind t.bits
    one bus kind e = ap (word bus kind) (same_digits s.bits t.bits small e)

    on_buses : (b : Bus) (k : Kind) (c : Bus) (l : Kind) → sent_text (word b k s.bits) ≡ sent_text (word c l t.bits) → word b k s.bits ≡ word c l t.bits
    on_buses A Com A Com e = one A Com (ap (λ xs. take 4 (drop 4 xs)) e)
    on_buses A Dat A Dat e = one A Dat (ap (λ xs. take 4 (drop 4 xs)) e)
    on_buses B Com B Com e = one B Com (ap (λ xs. take 4 (drop 4 xs)) e)
    on_buses B Dat B Dat e = one B Dat (ap (λ xs. take 4 (drop 4 xs)) e)
    on_buses A k B l e = absurd (omega (arith, ap (λ xs. get_or xs 0 0) e))
    on_buses B k A l e = absurd (omega (arith, ap (λ xs. get_or xs 0 0) e))
    on_buses A Com A Dat e = absurd (omega (arith, ap (λ xs. get_or xs 2 0) e))
    on_buses A Dat A Com e = absurd (omega (arith, ap (λ xs. get_or xs 2 0) e))
    on_buses B Com B Dat e = absurd (omega (arith, ap (λ xs. get_or xs 2 0) e))
    on_buses B Dat B Com e = absurd (omega (arith, ap (λ xs. get_or xs 2 0) e))

-- the first byte of a text, which is that of a bus where a word is sent
first_byte : List ℕ → ℕ
first_byte bytes = get_or bytes 0 0

sent_first : (s : Sending) → first_byte (sent_text s) < 67 × 64 < first_byte (sent_text s)
unfolding first_byte
sent_first s = on_bus s.bus
  where
    on_bus : (bus : Bus) → first_byte (sent_text (record s { bus = bus })) < 67 × 64 < first_byte (sent_text (record s { bus = bus }))
    on_bus A = (omega arith, omega arith)
    on_bus B = (omega arith, omega arith)

hand_first : (h : Handing) → first_byte (hand_text h) ≡ 104
unfolding first_byte
hand_first (HandsReceived true subaddress words) = refl
hand_first (HandsReceived false subaddress words) = refl
hand_first HandsSynchronize = refl
hand_first (HandsSynchronizeWith word) = refl
hand_first HandsSelfTest = refl
hand_first HandsBusControl = refl

silent_first : first_byte [] ≡ 0
unfolding first_byte
silent_first = refl

-- answers with the same text send the same, where one fits
same_word : (o p : Out) → Fits o → answer_text o ≡ answer_text p → sent_in o ≡ sent_in p
same_word Silence Silence fits e = refl
same_word Silence (SendsWord t) fits e = absurd (omega (arith, silent_first, (sent_first t).1, ap first_byte e))
same_word Silence (HandsOver h) fits e = refl
same_word (SendsWord s) Silence fits e = absurd (omega (arith, silent_first, (sent_first s).1, ap first_byte e))
same_word (SendsWord s) (SendsWord t) fits e = ap Some (same_sent s t fits e)
same_word (SendsWord s) (HandsOver h) fits e = absurd (omega (arith, hand_first h, (sent_first s).0, ap first_byte e))
same_word (HandsOver h) Silence fits e = refl
same_word (HandsOver h) (SendsWord t) fits e = absurd (omega (arith, hand_first h, (sent_first t).0, ap first_byte e))
same_word (HandsOver h) (HandsOver k) fits e = refl

-- ---- what is told

abbrev told_if : Bool → StatedEvent → List ℕ → List ToldAnswer
told_if same s came = if same then [] else record { line = s.line; expected = s.answer; came = came } ∷ []

-- of an answer that is stated without a mask it is told whether it is another
told-exact : (s : StatedEvent) (came : List ℕ) → s.matching ≡ Exact → answers_told s came ≡ told_if (bytes_eq came s.answer) s came
told-exact s came exact = ap (λ m. told_if (fits m s.answer came) s came) exact

told-same : (s : StatedEvent) (came : List ℕ) → s.matching ≡ Exact → s.answer ≡ came → answers_told s came ≡ []
told-same s came exact same = told-exact s came exact ∙ pick (bytes_eq came s.answer) ((bytes_eq-Decides came s.answer).1 (sym same))
  where
    pick : (b : Bool) → b ≡ true → told_if b s came ≡ []
    pick true e = refl
    pick false e = absurd (cc)

told-none : (s : StatedEvent) (came : List ℕ) (more : List ToldAnswer) → s.matching ≡ Exact → answers_told s came ++ more ≡ [] → (s.answer ≡ came) × (more ≡ [])
told-none s came more exact e = pick (bytes_eq came s.answer) refl (ap (λ xs. xs ++ more) (sym (told-exact s came exact)) ∙ e)
  where
    pick : (b : Bool) → bytes_eq came s.answer ≡ b → told_if b s came ++ more ≡ [] → (s.answer ≡ came) × (more ≡ [])
    pick true is e = (sym ((bytes_eq-Decides came s.answer).0 is), e)
    pick false is e = absurd (cc)

-- nothing differs where just the answers of a terminal are stated
pub none-differs : (Q : Description) (h : List Event) (ss : List StatedEvent) → AreStatedAnswers Q h ss → wrong_answers_from Q h ss ≡ []
unfolding wrong_answers_from
none-differs Q h [] are = refl
none-differs Q h (s ∷ ss) are = ap (λ xs. xs ++ wrong_answers_from Q (s.event ∷ h) ss) (told-same s (text_at Q h s.event) are.0 are.1) ∙ none-differs Q (s.event ∷ h) ss are.2

-- where nothing differs, what is stated of the answers of one terminal is stated of those of the other
pub all-answered : (P Q : Description) (g h : List Event) (ss : List StatedEvent) → AreStatedAnswers P g ss → wrong_answers_from Q h ss ≡ [] → AreStatedAnswers Q h ss
unfolding wrong_answers_from
all-answered P Q g h [] are e = tt
all-answered P Q g h (s ∷ ss) are e =
    let p = told-none s (text_at Q h s.event) (wrong_answers_from Q (s.event ∷ h) ss) are.0 e in
    (are.0, p.0, all-answered P Q (s.event ∷ g) (s.event ∷ h) ss are.2 p.1)

-- terminals of which the same answers are stated send the same words
same-sent : (P Q : Description) (h : List Event) (ss : List StatedEvent) → AreStatedAnswers P h ss → AreStatedAnswers Q h ss → AllFit P h (map (λ s. s.event) ss)
    → map sent_in (outs_from Q h (map (λ s. s.event) ss)) ≡ map sent_in (outs_from P h (map (λ s. s.event) ss))
same-sent P Q h [] p q fits = refl
same-sent P Q h (s ∷ ss) p q fits =
    let here = sym (same_word (out P h s.event) (out Q h s.event) fits.0 (sym p.1 ∙ q.1)) in
    let later = same-sent P Q (s.event ∷ h) ss p.2 q.2 fits.1 in (λ j. here j ∷ later j)

-- terminals of which the same answers are stated have the same texts
pub texts-alike : (P Q : Description) (h : List Event) (ss : List StatedEvent) → AreStatedAnswers P h ss → AreStatedAnswers Q h ss
    → map answer_text (outs_from Q h (map (λ s. s.event) ss)) ≡ map answer_text (outs_from P h (map (λ s. s.event) ss))
texts-alike P Q h [] p q = refl
texts-alike P Q h (s ∷ ss) p q =
    let here = sym q.1 ∙ p.1 in
    let later = texts-alike P Q (s.event ∷ h) ss p.2 q.2 in (λ j. here j ∷ later j)

-- of terminals with the same texts the same answers are stated
pub texts-answered : (P Q : Description) (h : List Event) (ss : List StatedEvent) → AreStatedAnswers P h ss
    → map answer_text (outs_from Q h (map (λ s. s.event) ss)) ≡ map answer_text (outs_from P h (map (λ s. s.event) ss)) → AreStatedAnswers Q h ss
texts-answered P Q h [] are same = tt
texts-answered P Q h (s ∷ ss) are same =
    let here : answer_text (out Q h s.event) ≡ answer_text (out P h s.event) = cc in
    let later : map answer_text (outs_from Q (s.event ∷ h) (map (λ s. s.event) ss)) ≡ map answer_text (outs_from P (s.event ∷ h) (map (λ s. s.event) ss)) = cc in
    (are.0, are.1 ∙ sym here, texts-answered P Q (s.event ∷ h) ss are.2 later)

-- ---- the test

pub acceptance-law : (rows : List NameRow) (v : Parts) → IsNormal v → AllFit (description_in v) [] (complete_test (description_in v)) → IsAcceptanceTest (description_in v) (acceptance_text rows (description_in v))
acceptance-law rows v normal fits =
    let P = description_in v in
    let text = acceptance_text rows P in
    let told = some_exchanges rows 1048576 P 0 [] (tried P) None (complete_test_law.proper v normal) fits (omega (arith, complete_test_law.short v normal)) in
    let chain = told.2 in
    let reads : stated_in text ≡ Ok chain.stated = Tells-all (chain.tells refl) (chain.gives refl) ∙ ap Ok chain.splits in
    let own : verified P text ≡ Ok [] = ap (by_script P) reads ∙ ap Ok (none-differs P [] chain.stated chain.answers) in record {
      stated = chain.stated;
      reads = reads;
      events = chain.events;
      answers = chain.answers;
      own = own;
      others = λ w other. let Q = description_in w in (
        (λ passes.
            let none : wrong_answers_from Q [] chain.stated ≡ [] = let e = sym (ap (by_script Q) reads) ∙ passes in cc in
            let same = same-sent P Q [] chain.stated chain.answers (all-answered P Q [] [] chain.stated chain.answers none) (subst (AllFit P []) (sym chain.events) fits) in
            (complete_test_law.seen v w normal other).0 (ap (λ es. map sent_in (outs_from Q [] es)) (sym chain.events) ∙ same ∙ ap (λ es. map sent_in (outs_from P [] es)) chain.events)),
        (λ alike.
            let same = alike (complete_test P) (complete_test_law.proper v normal) in
            let outs = ap (outs_from Q []) chain.events ∙ same ∙ ap (outs_from P []) (sym chain.events) in
            let are = texts-answered P Q [] chain.stated chain.answers (ap (map answer_text) outs) in
            ap (by_script Q) reads ∙ ap Ok (none-differs Q [] chain.stated are)),
      );
    }
