-- Laws of a message that is received: its words and its gap, taken at once.
use Rattle.std.proofs.Common.{ℕ, Bool, ◌≡◌, ◌<◌, ◌≤◌, ◌+◌, ◌-◌, ◌*◌, List, [], ◌∷◌, ◌++◌, length, drop, length-append, refl, sym, ap, ◌∙◌, arith, subst, flat_map, append_assoc, append-nil, Option, Some}
use Rattle.std.proofs.lemmas.Grind.{flat_map-append}
use Rattle.std.proofs.lemmas.List.{length-map, drop-drop}
use Rattle.std.specs.Io.KnownBytes.{Appends}
use Rattle.bus_word.specs.declared.word.Bus.{Bus}
use Rattle.bus_word.specs.declared.word.Kind.TheVariants.{Dat}
use Rattle.bus_word.specs.declared.cell.Cell.{Cell}
use Rattle.bus_word.specs.declared.word.Raw.{Raw}
use Rattle.bus_word.specs.Word.{valid_word}
use Rattle.bus_legal.specs.Description.{Description}
use Rattle.terminal_rules.specs.Past.{history_after}
use Rattle.terminal_rules.specs.declared.event.Event.{Event}
use Rattle.terminal_rules.specs.declared.event.Event.TheVariants.{Word, Gap}
use Rattle.bus_terminal.specs.declared.answer.Receiving.{Receiving}
use Rattle.bus_terminal.specs.declared.terminal.Terminal.{Terminal}
use Rattle.bus_terminal.specs.Stands.{StandsAt}
use Rattle.bus_terminal.specs.Received.{data_words_on, receiving}
use Rattle.bus_terminal.proofs.ReceivedLaw.{received_is_handed}
use Rattle.byte_streams.specs.Device.{IsPartWritten}
use Rattle.script_lines.specs.Begins.{BeginsWith}
use Rattle.script_lines.specs.Digits.{digits_of, decimal_digits}
use Rattle.script_lines.specs.Transcript.{word_field, received_by, received_text, answer_text, text_at, transcript}
use Rattle.bus_script.specs.Played.{Played, PlayedPart}
use Rattle.bus_script.specs.inner.Lines.{LinesFirst}
use Rattle.bus_script.specs.inner.Pieces.{IsPiece}
use Rattle.bus_script.proofs.PlayLaws.{after_append, transcript-append, transcript-one}
use Rattle.bus_script.proofs.FeedLaws.{LinesFirst-more, LinesFirst-one, LinesFirst-behind}

words-more : (b : Bus) (ds : List ℕ) (d : ℕ) → data_words_on b (ds ++ d ∷ []) ≡ data_words_on b ds ++ Word b (valid_word Dat d) ∷ []
words-more b [] d = refl
words-more b (x ∷ ds) d = ap (λ es. Word b (valid_word Dat x) ∷ es) (words-more b ds d)

-- behind one word more
pub behind-word : (n : ℕ) (bytes : List ℕ) → drop 9 (drop (9 * n) bytes) ≡ drop (9 * (n + 1)) bytes
behind-word n bytes = let more : 9 * n + 9 ≡ 9 * (n + 1) = omega arith in drop-drop 9 (9 * n) bytes ∙ ap (λ k. drop k bytes) more

-- one word more, as a line and as a field
pub word-line : (bytes : List ℕ) (b : Bus) (n : ℕ) (ds : List ℕ) (d : ℕ) → LinesFirst bytes (9 * n) n (data_words_on b ds) → BeginsWith (drop (9 * n) bytes) 8 (Word b (valid_word Dat d))
    → LinesFirst bytes (9 * (n + 1)) (n + 1) (data_words_on b (ds ++ d ∷ []))
word-line bytes b n ds d p next =
    let more : 9 * n + 9 ≡ 9 * (n + 1) = omega arith in
    subst (λ es. LinesFirst bytes (9 * (n + 1)) (n + 1) es) (sym (words-more b ds d)) (subst (λ i. LinesFirst bytes i (n + 1) (data_words_on b ds ++ Word b (valid_word Dat d) ∷ [])) more (LinesFirst-more 8 (Word b (valid_word Dat d)) (omega arith) p next))

pub word-field : (front text text' : List ℕ) (ds : List ℕ) (digits : List ℕ) (d : ℕ) → text ≡ front ++ flat_map word_field ds → digits ≡ digits_of d → text' ≡ text ++ 32 ∷ digits
    → text' ≡ front ++ flat_map word_field (ds ++ d ∷ [])
word-field front text text' ds digits d was same is =
    is ∙ ap (λ x. text ++ 32 ∷ x) same ∙ ap (λ x. x ++ word_field d) was ∙ append_assoc front (flat_map word_field ds) (word_field d)
    ∙ ap (λ x. front ++ x) (ap (λ x. flat_map word_field ds ++ x) (sym (append-nil (word_field d))) ∙ sym (flat_map-append word_field ds (d ∷ [])))

-- data words are not answered
words-silent : (P : Description) (h : List Event) (b : Bus) (ds : List ℕ) → transcript (text_at P) h (data_words_on b ds) ≡ []
unfolding transcript
words-silent P h b [] = refl
words-silent P h b (d ∷ ds) = words-silent P (Word b (valid_word Dat d) ∷ h) b ds

-- what is written at the gap
gap-text : (P : Description) (h : List Event) (b : Bus) (it : Receiving) (ds : List ℕ) → receiving P h b ≡ Some it → length ds ≡ it.count
    → received_text it.broadcast it.subaddress ds ≡ text_at P (history_after (data_words_on b ds) h) (Gap b)
gap-text P h b it ds is len = sym (ap answer_text (received_is_handed P h b it ds is len))

-- what is written for the words and the gap
message-line : (P : Description) (h : List Event) (b : Bus) (it : Receiving) (ds line : List ℕ) → receiving P h b ≡ Some it → length ds ≡ it.count → line ≡ received_text it.broadcast it.subaddress ds
    → line ≡ transcript (text_at P) h (data_words_on b ds ++ Gap b ∷ [])
message-line P h b it ds line receives len is =
    is ∙ gap-text P h b it ds receives len ∙ sym (transcript-one (text_at P) (history_after (data_words_on b ds) h) (Gap b))
    ∙ ap (λ x. x ++ transcript (text_at P) (history_after (data_words_on b ds) h) (Gap b ∷ [])) (sym (words-silent P h b ds))
    ∙ sym (transcript-append (text_at P) h (data_words_on b ds) (Gap b ∷ []))

module _ {L W : Type 0} {is_legal : L → Cell → Bool} {written : W → Option (List ℕ)} where
  pub message-plays : (t t' : Terminal L) (w w' : W) (b : Bus) (it : Receiving) (ds : List ℕ) (line : List ℕ) → length ds ≡ it.count → line ≡ received_text it.broadcast it.subaddress ds
      → ((P : Description) (h : List Event) → StandsAt is_legal P h t → receiving P h b ≡ Some it)
      → ((P : Description) (h : List Event) → StandsAt is_legal P h t → StandsAt is_legal P (Gap b ∷ history_after (data_words_on b ds) h) t')
      → Appends (written w) (written w') line → Played is_legal text_at written (t, w) (t', w') (data_words_on b ds ++ Gap b ∷ [])
  message-plays t t' w w' b it ds line len is receives at wrote = record {
    at = λ P h s. subst (λ g. StandsAt is_legal P g t') (sym (after_append h (data_words_on b ds) (Gap b ∷ []))) (at P h s);
    wrote = λ P h s. subst (Appends (written w) (written w')) (message-line P h b it ds line (receives P h s) len is) wrote;
  }

  -- and where its line was written in part
  pub message-breaks : (t t' : Terminal L) (w w' : W) (b : Bus) (it : Receiving) (ds : List ℕ) (line : List ℕ) → length ds ≡ it.count → line ≡ received_text it.broadcast it.subaddress ds
      → ((P : Description) (h : List Event) → StandsAt is_legal P h t → receiving P h b ≡ Some it)
      → ((P : Description) (h : List Event) → StandsAt is_legal P h t → StandsAt is_legal P (Gap b ∷ history_after (data_words_on b ds) h) t')
      → IsPartWritten (written w) (written w') line → PlayedPart is_legal written (t, w) (t', w') (data_words_on b ds) (Gap b)
  message-breaks t t' w w' b it ds line len is receives at cut = record {
    at = at;
    wrote = λ P h s. (
      cut.0,
      cut.1,
      cut.2 ∙ is ∙ gap-text P h b it ds (receives P h s) len,
      subst (λ x. Appends (written w) (written w') (x ++ cut.0)) (sym (words-silent P h b ds)) cut.3,
    );
  }

  -- ---- from its command word on

  pub whole-plays : (t t' : Terminal L) (w w' : W) (b : Bus) (v : Raw) (it : Receiving) (ds : List ℕ) (line : List ℕ) → length ds ≡ it.count → line ≡ received_text it.broadcast it.subaddress ds
      → ((P : Description) (h : List Event) → StandsAt is_legal P h t → receiving P (Word b v ∷ h) b ≡ Some it)
      → ((P : Description) (h : List Event) → StandsAt is_legal P h t → StandsAt is_legal P (Gap b ∷ history_after (data_words_on b ds) (Word b v ∷ h)) t')
      → Appends (written w) (written w') line → Played is_legal text_at written (t, w) (t', w') (Word b v ∷ data_words_on b ds ++ Gap b ∷ [])
  unfolding transcript
  whole-plays t t' w w' b v it ds line len is receives at wrote = record {
    at = λ P h s. subst (λ g. StandsAt is_legal P g t') (sym (after_append (Word b v ∷ h) (data_words_on b ds) (Gap b ∷ []))) (at P h s);
    wrote = λ P h s. subst (Appends (written w) (written w')) (message-line P (Word b v ∷ h) b it ds line (receives P h s) len is) wrote;
  }

  pub whole-breaks : (t t' : Terminal L) (w w' : W) (b : Bus) (v : Raw) (it : Receiving) (ds : List ℕ) (line : List ℕ) → length ds ≡ it.count → line ≡ received_text it.broadcast it.subaddress ds
      → ((P : Description) (h : List Event) → StandsAt is_legal P h t → receiving P (Word b v ∷ h) b ≡ Some it)
      → ((P : Description) (h : List Event) → StandsAt is_legal P h t → StandsAt is_legal P (Gap b ∷ history_after (data_words_on b ds) (Word b v ∷ h)) t')
      → IsPartWritten (written w) (written w') line → PlayedPart is_legal written (t, w) (t', w') (Word b v ∷ data_words_on b ds) (Gap b)
  unfolding transcript
  whole-breaks t t' w w' b v it ds line len is receives at cut = record {
    at = at;
    wrote = λ P h s. (
      cut.0,
      cut.1,
      cut.2 ∙ is ∙ gap-text P (Word b v ∷ h) b it ds (receives P h s) len,
      subst (λ x. Appends (written w) (written w') (x ++ cut.0)) (sym (words-silent P (Word b v ∷ h) b ds)) cut.3,
    );
  }

  -- a command word and the gap right behind it
  pub gap-plays : (a b : Terminal L × W) (bus : Bus) (v : Raw) (bytes : List ℕ)
      → ((P : Description) (h : List Event) → StandsAt is_legal P h a.0 → StandsAt is_legal P (Gap bus ∷ Word bus v ∷ h) b.0)
      → ((P : Description) (h : List Event) → StandsAt is_legal P h a.0 → bytes ≡ text_at P (Word bus v ∷ h) (Gap bus))
      → Appends (written a.1) (written b.1) bytes → Played is_legal text_at written a b (Word bus v ∷ Gap bus ∷ [])
  unfolding transcript
  gap-plays a b bus v bytes at is wrote = record {
    at = at;
    wrote = λ P h s. subst (Appends (written a.1) (written b.1)) (is P h s ∙ sym (transcript-one (text_at P) (Word bus v ∷ h) (Gap bus))) wrote;
  }

  pub gap-breaks : (a b : Terminal L × W) (bus : Bus) (v : Raw) (bytes : List ℕ)
      → ((P : Description) (h : List Event) → StandsAt is_legal P h a.0 → StandsAt is_legal P (Gap bus ∷ Word bus v ∷ h) b.0)
      → ((P : Description) (h : List Event) → StandsAt is_legal P h a.0 → bytes ≡ text_at P (Word bus v ∷ h) (Gap bus))
      → IsPartWritten (written a.1) (written b.1) bytes → PlayedPart is_legal written a b (Word bus v ∷ []) (Gap bus)
  unfolding transcript
  gap-breaks a b bus v bytes at is cut = record { at = at; wrote = λ P h s. (cut.0, cut.1, cut.2 ∙ is P h s, cut.3) }

-- the line of words that were received, piece by piece
pub message-text : (broadcast : Bool) (subaddress : ℕ) (ds : List ℕ)
    → ((received_by broadcast ++ decimal_digits subaddress) ++ flat_map word_field ds) ++ 10 ∷ [] ≡ received_text broadcast subaddress ds
message-text broadcast subaddress ds =
    append_assoc (received_by broadcast ++ decimal_digits subaddress) (flat_map word_field ds) (10 ∷ [])
    ∙ append_assoc (received_by broadcast) (decimal_digits subaddress) (flat_map word_field ds ++ 10 ∷ [])

pub message-piece : (bytes : List ℕ) (most : ℕ) (b : Bus) (n : ℕ) (ds : List ℕ) → length ds ≡ n → n + 1 ≤ most
    → LinesFirst bytes (9 * n + 6) (n + 1) (data_words_on b ds ++ Gap b ∷ [])
    → IsPiece bytes most (record { bytes = 9 * n + 5 + 1; lines = n + 1; events = n + 1 }) (data_words_on b ds ++ Gap b ∷ [])
message-piece bytes most b n ds len fits p = record {
  lines = let same : 9 * n + 6 ≡ 9 * n + 5 + 1 = omega arith in subst (λ i. LinesFirst bytes i (n + 1) (data_words_on b ds ++ Gap b ∷ [])) same p;
  fits = fits;
  count = omega (arith, length-append (data_words_on b ds) (Gap b ∷ []), length-map ds (λ d. Word b (valid_word Dat d)), len);
}

-- the same from its command word on
pub whole-piece : (bytes : List ℕ) (most : ℕ) (b : Bus) (v : Raw) (n : ℕ) (ds : List ℕ) → length ds ≡ n → n + 1 ≤ most - 1 → BeginsWith bytes 8 (Word b v)
    → LinesFirst (drop 9 bytes) (9 * n + 6) (n + 1) (data_words_on b ds ++ Gap b ∷ [])
    → IsPiece bytes most (record { bytes = 9 * n + 8 + 5 + 2; lines = n + 2; events = n + 2 }) (Word b v ∷ data_words_on b ds ++ Gap b ∷ [])
whole-piece bytes most b v n ds len fits first p = record {
  lines =
      let same : 9 + (9 * n + 6) ≡ 9 * n + 8 + 5 + 2 = omega arith in
      let more : 1 + (n + 1) ≡ n + 2 = omega arith in
      subst (λ i. LinesFirst bytes i (n + 2) (Word b v ∷ data_words_on b ds ++ Gap b ∷ [])) same
      (subst (λ k. LinesFirst bytes (9 + (9 * n + 6)) k (Word b v ∷ data_words_on b ds ++ Gap b ∷ [])) more (LinesFirst-behind (LinesFirst-one bytes 8 (Word b v) (omega arith) first) p));
  fits = omega (arith, fits);
  count = omega (arith, length-append (data_words_on b ds) (Gap b ∷ []), length-map ds (λ d. Word b (valid_word Dat d)), len);
}

pub gap-piece : (bytes : List ℕ) (most : ℕ) (b : Bus) (v : Raw) → 1 < most → BeginsWith bytes 8 (Word b v) → BeginsWith (drop 9 bytes) 5 (Gap b)
    → IsPiece bytes most (record { bytes = 15; lines = 2; events = 2 }) (Word b v ∷ Gap b ∷ [])
gap-piece bytes most b v some first gap = record { lines = LinesFirst-more 5 (Gap b) (omega arith) (LinesFirst-one bytes 8 (Word b v) (omega arith) first) gap; fits = some; count = refl }
