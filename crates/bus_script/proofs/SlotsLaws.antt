-- Laws of slots one after another: their lines, and what is written in them.
use Rattle.std.proofs.Common.{ℕ, zero, suc, Bool, true, false, ◌≡◌, ◌<◌, ◌≤◌, ◌+◌, ◌-◌, ◌*◌, ◌/◌, List, [], ◌∷◌, ◌++◌, length, take, drop, get_or, get_or-take, take-append-drop, append_assoc, length-append, nat_lt, nat_le, flat_map, refl, sym, ap, ◌∙◌, subst, arith, Option}
use Rattle.std.proofs.lemmas.Grind.{common_steps}
use Rattle.std.proofs.lemmas.Bool.Decides.{nat_tests}
use Rattle.std.proofs.lemmas.List.{drop-drop, take-append-le}
use Rattle.std.proofs.Math.Seq.{take-append-add}
use Rattle.std.specs.Io.KnownBytes.{Appends}
use Rattle.bus_word.specs.declared.word.Bus.{Bus}
use Rattle.bus_word.specs.declared.word.Kind.TheVariants.{Dat}
use Rattle.bus_word.specs.declared.cell.Cell.{Cell}
use Rattle.bus_legal.specs.Description.{Description}
use Rattle.terminal_rules.specs.declared.event.Event.{Event}
use Rattle.terminal_rules.specs.declared.event.Event.TheVariants.{Slot}
use Rattle.terminal_rules.specs.Past.{history_after}
use Rattle.terminal_rules.specs.Out.{Silence, sending, SendsWord, out}
use Rattle.bus_terminal.specs.declared.terminal.Terminal.{Terminal}
use Rattle.bus_terminal.specs.Stands.{StandsAt}
use Rattle.bus_terminal.specs.Slots.{slots, AreSent}
use Rattle.script_lines.specs.Begins.{BeginsWith}
use Rattle.script_lines.specs.Transcript.{answer_text, text_at, data_text, transcript}
use Rattle.script_lines.proofs.TranscriptLaws.{sent_length}
use Rattle.bus_script.specs.Played.{Played, PlayedPart}
use Rattle.bus_script.specs.inner.Lines.{LinesFirst}
use Rattle.bus_script.specs.inner.Pieces.{IsPiece, Taken}
use Rattle.bus_script.proofs.FeedLaws.{LinesFirst-more}

pub slots-append : (j k : ℕ) → slots j ++ slots k ≡ slots (j + k)
slots-append zero k = grind (arith, common_steps)
slots-append (suc j) k = let more : suc j + k ≡ suc (j + k) = omega arith in ap (λ es. Slot ∷ es) (slots-append j k) ∙ ap slots (sym more)

-- one slot more is later than the others
slots-after : (k : ℕ) (h : List Event) → history_after (slots (suc k)) h ≡ Slot ∷ history_after (slots k) h
slots-after zero h = refl
slots-after (suc k) h = slots-after k (Slot ∷ h)

slots-length : (k : ℕ) → length (slots k) ≡ k
slots-length zero = refl
slots-length (suc k) = ap suc (slots-length k)

-- ---- their lines

-- one slot more, and all fewer
pub SlotsFirst-more : (bytes : List ℕ) (n : ℕ) → ((k : ℕ) → k ≤ n → LinesFirst bytes (5 * k) k (slots k)) → BeginsWith (drop (5 * n) bytes) 4 Slot
    → (k : ℕ) → k ≤ n + 1 → LinesFirst bytes (5 * k) k (slots k)
SlotsFirst-more bytes n fewer next k within = by_test (nat_le k n) refl
  where
    last : LinesFirst bytes (5 * (n + 1)) (n + 1) (slots (n + 1))
    last =
        let more : 5 * n + 5 ≡ 5 * (n + 1) = omega arith in
        subst (λ es. LinesFirst bytes (5 * (n + 1)) (n + 1) es) (slots-append n 1)
        (subst (λ i. LinesFirst bytes i (n + 1) (slots n ++ Slot ∷ [])) more (LinesFirst-more 4 Slot (omega arith) (fewer n (omega arith)) next))

    by_test : (t : Bool) → nat_le k n ≡ t → LinesFirst bytes (5 * k) k (slots k)
    by_test true e = fewer k (grind (arith, nat_tests, e))
    by_test false e = let same : n + 1 ≡ k = grind (arith, nat_tests, e) in subst (λ j. LinesFirst bytes (5 * j) j (slots j)) same last

-- many more, and all fewer
pub SlotsFirst-many : (bytes : List ℕ) (n m : ℕ) → ((k : ℕ) → k ≤ n → LinesFirst bytes (5 * k) k (slots k)) → ((k : ℕ) → k < m → BeginsWith (drop (5 * k) (drop (5 * n) bytes)) 4 Slot)
    → (k : ℕ) → k ≤ n + m → LinesFirst bytes (5 * k) k (slots k)
SlotsFirst-many bytes n zero fewer next k within = fewer k (omega (arith, within))
SlotsFirst-many bytes n (suc m) fewer next k within =
    let there : 5 * n + 5 * m ≡ 5 * (n + m) = omega arith in
    SlotsFirst-more bytes (n + m) (SlotsFirst-many bytes n m fewer (λ j below. next j (omega (arith, below))))
    (subst (λ xs. BeginsWith xs 4 Slot) (drop-drop (5 * m) (5 * n) bytes ∙ ap (λ i. drop i bytes) there) (next m (omega arith))) k (omega (arith, within))

-- behind four slots more
pub behind-slots : (n : ℕ) (bytes : List ℕ) → drop 20 (drop (5 * n) bytes) ≡ drop (5 * (n + 4)) bytes
behind-slots n bytes = let more : 5 * n + 20 ≡ 5 * (n + 4) = omega arith in drop-drop 20 (5 * n) bytes ∙ ap (λ k. drop k bytes) more

-- behind one slot more
pub behind-slot : (n : ℕ) (bytes : List ℕ) → drop 5 (drop (5 * n) bytes) ≡ drop (5 * (n + 1)) bytes
behind-slot n bytes = let more : 5 * n + 5 ≡ 5 * (n + 1) = omega arith in drop-drop 5 (5 * n) bytes ∙ ap (λ k. drop k bytes) more

pub SlotsPiece : (bytes : List ℕ) (most k : ℕ) → k ≤ most → LinesFirst bytes (5 * k) k (slots k) → IsPiece bytes most (record { bytes = 5 * k; lines = k; events = k }) (slots k)
SlotsPiece bytes most k fits p = record { lines = p; fits = fits; count = sym (slots-length k) }

-- with the last one apart
pub SlotsPiece-last : (bytes : List ℕ) (most k : ℕ) → k + 1 ≤ most → LinesFirst bytes (5 * (k + 1)) (k + 1) (slots (k + 1))
    → IsPiece bytes most (record { bytes = 5 * (k + 1); lines = k + 1; events = k + 1 }) (slots k ++ Slot ∷ [])
SlotsPiece-last bytes most k fits p =
    subst (λ es. IsPiece bytes most (record { bytes = 5 * (k + 1); lines = k + 1; events = k + 1 }) es) (sym (slots-append k 1)) (SlotsPiece bytes most (k + 1) fits p)

-- ---- slots in which nothing is sent

silent-text : (P : Description) (h : List Event) (k : ℕ) → ((j : ℕ) → out P (history_after (slots j) h) Slot ≡ Silence) → transcript (text_at P) h (slots k) ≡ []
unfolding transcript
silent-text P h zero silent = refl
silent-text P h (suc k) silent =
    ap (λ x. x ++ transcript (text_at P) (Slot ∷ h) (slots k)) (ap answer_text (silent 0)) ∙ silent-text P (Slot ∷ h) k (λ j. silent (suc j))

pub slots-silent : {L : Type 0} (is_legal : L → Cell → Bool) (t t' : Terminal L) (k : ℕ)
    → ((P : Description) (h : List Event) → StandsAt is_legal P h t → (j : ℕ) → out P (history_after (slots j) h) Slot ≡ Silence)
    → ((P : Description) (h : List Event) → StandsAt is_legal P h t → StandsAt is_legal P (history_after (slots k) h) t') → Taken is_legal t t' (slots k)
slots-silent is_legal t t' k silent at = record { at = at; silent = λ P h s. silent-text P h k (silent P h s) }

-- ---- slots in which words are sent

-- the first of some words that are sent
sent-first : (P : Description) (h : List Event) (b : Bus) (words : List ℕ) (n : ℕ) → n ≤ length words → AreSent P h b words → AreSent P h b (take n words)
sent-first P h b words n few sent k within =
    let below : k < n = grind (arith, common_steps) in
    sent k (omega arith) ∙ ap (λ w. SendsWord (sending b Dat w)) (sym (get_or-take n words k 0 below))

-- what is written for words that are sent, each in a slot
sent-text : (P : Description) (h : List Event) (b : Bus) (words : List ℕ) → AreSent P h b words → transcript (text_at P) h (slots (length words)) ≡ flat_map (data_text b) words
unfolding transcript
sent-text P h b [] sent = refl
sent-text P h b (w ∷ words) sent =
    ap (λ x. x ++ transcript (text_at P) (Slot ∷ h) (slots (length words))) (ap answer_text (sent 0 (omega arith)))
    ∙ ap (λ x. data_text b w ++ x) (sent-text P (Slot ∷ h) b words (λ k within. sent (suc k) (omega arith)))

-- what is written for the first n of them
text-of-first : (P : Description) (h : List Event) (b : Bus) (words : List ℕ) (n : ℕ) → n ≤ length words → AreSent P h b words
    → flat_map (data_text b) (take n words) ≡ transcript (text_at P) h (slots n)
text-of-first P h b words n few sent =
    let len : length (take n words) ≡ n = grind (arith, common_steps) in
    sym (sent-text P h b (take n words) (sent-first P h b words n few sent)) ∙ ap (λ k. transcript (text_at P) h (slots k)) len

-- lines of words that are cut after n bytes: those that are whole, and a part of the next one
abbrev Cut : Bus → List ℕ → ℕ → Type 0
Cut b words n = (n / 9 < length words) × ((part : List ℕ) × (more : List ℕ) × (part ++ more ≡ data_text b (get_or words (n / 9) 0))
    × (take n (flat_map (data_text b) words) ≡ flat_map (data_text b) (take (n / 9) words) ++ part))

cut-lines : (b : Bus) (words : List ℕ) (n : ℕ) → n < length (flat_map (data_text b) words) → Cut b words n
cut-lines b [] n short = absurd (omega (arith, short))
cut-lines b (w ∷ words) n short = by_test (λ m within. cut-lines b words m within) (nat_lt n 9) refl
  where
    line : List ℕ
    line = data_text b w

    nine : length line ≡ 9
    nine = sent_length (sending b Dat w)

    later : (m : ℕ) → n ≡ 9 + m → Cut b words m → Cut b (w ∷ words) n
    later m is c =
        let next : n / 9 ≡ suc (m / 9) = omega (arith, is) in (
          omega (arith, next, c.0),
          (
            c.1.0,
            c.1.1,
            c.1.2 ∙ ap (λ k. get_text k) (sym next),
            (ap (λ k. take k (line ++ flat_map (data_text b) words)) (is ∙ ap (λ k. k + m) (sym nine)) ∙ take-append-add line (flat_map (data_text b) words) m
                ∙ ap (λ x. line ++ x) c.1.3 ∙ sym (append_assoc line (flat_map (data_text b) (take (m / 9) words)) c.1.0) ∙ ap (λ k. flat_map (data_text b) (take k (w ∷ words)) ++ c.1.0) (sym next)),
          ),
        )
      where
        get_text : ℕ → List ℕ
        get_text k = data_text b (get_or (w ∷ words) k 0)

    by_test : ((m : ℕ) → m < length (flat_map (data_text b) words) → Cut b words m) → (t : Bool) → nat_lt n 9 ≡ t → Cut b (w ∷ words) n
    by_test others true e =
        let few : n < 9 = grind (arith, nat_tests, e) in
        let none : n / 9 ≡ 0 = omega (arith, few) in
        let within : n ≤ length line = omega (arith, few, nine) in (
          omega (arith, none),
          (
            take n line,
            drop n line,
            take-append-drop n line ∙ ap (λ k. data_text b (get_or (w ∷ words) k 0)) (sym none),
            (take-append-le n line (flat_map (data_text b) words) within ∙ ap (λ k. flat_map (data_text b) (take k (w ∷ words)) ++ take n line) (sym none)),
          ),
        )
    by_test others false e =
        let many : 9 ≤ n = grind (arith, nat_tests, e) in
        let is : n ≡ 9 + (n - 9) = omega (arith, many) in
        later (n - 9) is (others (n - 9) (omega (arith, short, many, nine, length-append line (flat_map (data_text b) words))))

module _ {L W : Type 0} {is_legal : L → Cell → Bool} {written : W → Option (List ℕ)} where
  -- a terminal that was to send these words took n slots, and the lines of the first n were written
  pub slots-play : (t t' : Terminal L) (w w' : W) (b : Bus) (words : List ℕ) (n : ℕ) → n ≤ length words
      → ((P : Description) (h : List Event) → StandsAt is_legal P h t → AreSent P h b words)
      → ((P : Description) (h : List Event) → StandsAt is_legal P h t → StandsAt is_legal P (history_after (slots n) h) t')
      → Appends (written w) (written w') (flat_map (data_text b) (take n words)) → Played is_legal text_at written (t, w) (t', w') (slots n)
  slots-play t t' w w' b words n few sent at wrote = record {
    at = at;
    wrote = λ P h s. subst (Appends (written w) (written w')) (text-of-first P h b words n few (sent P h s)) wrote;
  }

  -- it took so many slots that the last is the one whose line was cut, after k bytes of all the lines
  pub slots-break : (t t' : Terminal L) (w w' : W) (b : Bus) (words : List ℕ) (n k : ℕ) → n ≤ length words → k < length (flat_map (data_text b) (take n words))
      → ((P : Description) (h : List Event) → StandsAt is_legal P h t → AreSent P h b words)
      → ((P : Description) (h : List Event) → StandsAt is_legal P h t → StandsAt is_legal P (history_after (slots (k / 9 + 1)) h) t')
      → Appends (written w) (written w') (take k (flat_map (data_text b) (take n words)))
      → (k / 9 < n) × PlayedPart is_legal written (t, w) (t', w') (slots (k / 9)) Slot
  slots-break t t' w w' b words n k few short sent at wrote =
      let c = cut-lines b (take n words) k short in
      let within : k / 9 < n = grind (arith, common_steps, c.0) in (
        within,
        record {
          at = λ P h s. let one : k / 9 + 1 ≡ suc (k / 9) = omega arith in
              subst (λ g. StandsAt is_legal P g t') (ap (λ j. history_after (slots j) h) one ∙ slots-after (k / 9) h) (at P h s);
          wrote = λ P h s.
              let first = sent-first P h b words n few (sent P h s) in (
                c.1.0,
                c.1.1,
                c.1.2 ∙ sym (ap answer_text (first (k / 9) c.0)),
                subst (λ x. Appends (written w) (written w') (x ++ c.1.0)) (text-of-first P h b (take n words) (k / 9) (omega (arith, c.0)) first) (subst (Appends (written w) (written w')) c.1.3 wrote),
              );
        },
      )
