-- Laws of rows as lines.
use Rattle.std.proofs.Common.{ℕ, zero, suc, ◌≡◌, ◌∙◌, ◌<◌, ◌≤◌, ◌-◌, Bool, true, false, List, [], ◌∷◌, ◌++◌, length, map, take, get_or, codes, flat_map, refl, sym, ap, arith, append_assoc, append-nil, length-append}
use Rattle.std.proofs.lemmas.List.{map-append}
use Rattle.terminal_rules.specs.Out.{Handing, HandsReceived, HandsSynchronize, HandsSynchronizeWith, HandsSelfTest, HandsBusControl}
use Rattle.script_lines.specs.Digits.{digits_of, decimal_digits}
use Rattle.script_lines.specs.Transcript.{word_field, received_by, received_text, hand_text}
use Rattle.message_rows.specs.declared.field.Field.{Field}
use Rattle.message_rows.specs.Texts.{field_told, comma_first, comma_joined}

flat-more : (ts : List (List ℕ)) (t : List ℕ) → flat_map comma_first (ts ++ t ∷ []) ≡ flat_map comma_first ts ++ comma_first t
flat-more [] t = append-nil (comma_first t)
flat-more (x ∷ ts) t = ap (λ xs. comma_first x ++ xs) (flat-more ts t) ∙ sym (append_assoc (comma_first x) (flat_map comma_first ts) (comma_first t))

-- the first field
pub field-first : (f : Field) (old mid new : List ℕ) → mid ≡ old ++ [] → new ≡ mid ++ field_told f → new ≡ old ++ comma_joined (map field_told (f ∷ []))
field-first f old mid new before grown =
    grown ∙ ap (λ xs. xs ++ field_told f) (before ∙ append-nil old) ∙ ap (λ xs. old ++ xs) (sym (append-nil (field_told f)))

-- one field more
pub field-next : (g : Field) (gs : List Field) (f : Field) (old mid between new : List ℕ)
    → mid ≡ old ++ comma_joined (map field_told (g ∷ gs)) → between ≡ mid ++ 44 ∷ [] → new ≡ between ++ field_told f
    → new ≡ old ++ comma_joined (map field_told (g ∷ gs ++ f ∷ []))
field-next g gs f old mid between new before comma grown =
    let ts = map field_told gs in
    grown ∙ ap (λ xs. xs ++ field_told f) comma ∙ append_assoc mid (44 ∷ []) (field_told f)
    ∙ ap (λ xs. xs ++ comma_first (field_told f)) before
    ∙ append_assoc old (comma_joined (field_told g ∷ ts)) (comma_first (field_told f))
    ∙ ap (λ xs. old ++ xs) (append_assoc (field_told g) (flat_map comma_first ts) (comma_first (field_told f))
    ∙ ap (λ xs. field_told g ++ xs) (sym (flat-more ts (field_told f)))
    ∙ ap (λ xs. field_told g ++ flat_map comma_first xs) (sym (map-append field_told gs (f ∷ []))))

-- the same of the first fields of a list
pub taken-first : (fs : List Field) (i : ℕ) (f : Field) (old mid new : List ℕ) → i ≡ 0
    → mid ≡ old ++ comma_joined (map field_told (take i fs)) → new ≡ mid ++ field_told f → new ≡ old ++ comma_joined (map field_told (take i fs ++ f ∷ []))
taken-first fs zero f old mid new none before grown = field-first f old mid new before grown
taken-first fs (suc i) f old mid new none before grown = absurd (omega (arith, none))

pub taken-next : (fs : List Field) (i : ℕ) (f : Field) (old mid between new : List ℕ) → 0 < i → i < length fs
    → mid ≡ old ++ comma_joined (map field_told (take i fs)) → between ≡ mid ++ 44 ∷ [] → new ≡ between ++ field_told f
    → new ≡ old ++ comma_joined (map field_told (take i fs ++ f ∷ []))
taken-next fs zero f old mid between new some within before comma grown = absurd (omega (arith, some))
taken-next [] (suc i) f old mid between new some within before comma grown = absurd (omega (arith, within))
taken-next (g ∷ gs) (suc i) f old mid between new some within before comma grown = field-next g (take i gs) f old mid between new before comma grown

-- ---- the line of what is handed over

last_feed : (xs : List ℕ) (i : ℕ) → i ≡ length xs → get_or (xs ++ 10 ∷ []) i 0 ≡ 10
last_feed [] i is = ap (λ n. get_or (10 ∷ []) n 0) is
last_feed (x ∷ xs) zero is = absurd (omega (arith, is))
last_feed (x ∷ xs) (suc i) is = last_feed xs i (omega (arith, is))

feed_behind : (line xs : List ℕ) → line ≡ xs ++ 10 ∷ [] → get_or line (length line - 1) 0 ≡ 10
feed_behind line xs is =
    ap (λ l. get_or l (length l - 1) 0) is ∙ last_feed xs (length (xs ++ 10 ∷ []) - 1) (omega (arith, length-append xs (10 ∷ [])))

-- it ends with a line feed
pub record IsHandLine (line : List ℕ) : Type 0 where
  pub least : 6 ≤ length line
  pub last : get_or line (length line - 1) 0 ≡ 10

received_line : (broadcast : Bool) (subaddress : ℕ) (words : List ℕ) → IsHandLine (received_text broadcast subaddress words)
received_line true subaddress words = record {
  least = omega arith;
  last = feed_behind (received_text true subaddress words) (received_by true ++ (decimal_digits subaddress ++ flat_map word_field words)) (sym (append_assoc (received_by true ++ decimal_digits subaddress) (flat_map word_field words) (10 ∷ [])));
}
received_line false subaddress words = record {
  least = omega arith;
  last = feed_behind (received_text false subaddress words) (received_by false ++ (decimal_digits subaddress ++ flat_map word_field words)) (sym (append_assoc (received_by false ++ decimal_digits subaddress) (flat_map word_field words) (10 ∷ [])));
}

pub hand_line : (h : Handing) → IsHandLine (hand_text h)
hand_line (HandsReceived broadcast subaddress words) = received_line broadcast subaddress words
hand_line HandsSynchronize = record { least = omega arith; last = refl }
hand_line (HandsSynchronizeWith word) = record { least = omega arith; last = feed_behind (hand_text (HandsSynchronizeWith word)) (codes "hand sync " ++ digits_of word) refl }
hand_line HandsSelfTest = record { least = omega arith; last = refl }
hand_line HandsBusControl = record { least = omega arith; last = refl }
