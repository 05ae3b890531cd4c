-- An initial entry, or a word of it, has no effect exactly if the words that are held and transmitted are the same without it.
use Rattle.std.proofs.Common.{◌≡◌, ◌≢◌, ◌↔◌, ℕ, ◌+◌, ◌-◌, ◌<◌, ◌≤◌, ◌==◌, Bool, true, false, ◌&&◌, nat_le, nat_lt, List, length, get_or, set, take, IsTrue, refl, ap, subst, sym, ◌∙◌, get_or-set_same, get_or-set_other, arith}
use Rattle.std.proofs.lemmas.Bool.{eqb-true, eq-eqb}
use Rattle.std.proofs.lemmas.Bool.Decides.{nat_tests}
use Rattle.std.proofs.lemmas.List.Elements.{at_read}
use Rattle.bus_word.specs.declared.cell.Cell.{Cell}
use Rattle.bus_word.specs.declared.cell.Cell.TheVariants.{OwnTransmit}
use Rattle.bus_word.specs.Cell.{is_data_place}
use Rattle.bus_word.specs.Mask.{has_bit}
use Rattle.bus_word.proofs.Places.{place_from}
use Rattle.bus_legal.specs.declared.entries.InitialWords.{InitialWords}
use Rattle.bus_legal.specs.declared.profile.Profile.{Profile}
use Rattle.bus_legal.specs.declared.tables.Tables.{Tables}
use Rattle.bus_legal.specs.Initial.{gives, word_given, initial_word}
use Rattle.bus_legal.specs.Legal.{is_legal}
use Rattle.bus_legal.specs.Meaning.{description_of}
use Rattle.bus_legal.specs.Reach.{largest_count, transmits_at, can_transmit}
use Rattle.bus_legal.specs.Tables.{tables_say, largest_in}
use Rattle.bus_legal.proofs.Bools.{left_of, right_of}
use Rattle.bus_legal.proofs.Counts.{sent_place}
use Rattle.bus_legal.proofs.LegalLaws.{legal_allowed, required_codes}
use Rattle.bus_legal.proofs.TablesReach.{largest_count-said}
use Rattle.terminal_rules.specs.Same.{Same}
use Rattle.spare_entries.specs.declared.initials.InitialSpares.{InitialSpares}
use Rattle.spare_entries.specs.Without.{without, without_initial, IsZeroed, SparesWord}
use Rattle.spare_entries.specs.inner.Words.{gives_last, is_held, IsSpareBy, AreSpareBy, may_be_sent, SameWords, IsMarked}
use Rattle.spare_entries.proofs.LastOf.{same_without, same_set}
use Rattle.spare_entries.proofs.Reached.{IsAsked, same_in_reach, same_words}
use Rattle.spare_entries.proofs.RuleLaws.{asked}
use Rattle.spare_entries.proofs.Zeroed.{zeroed_of, zeroed-is}

-- ---- the words that an entry holds

-- an entry at its index, the largest legal word count at its subaddress, and the numbers there that it is the last to give
pub record IsEntry (sent : List ℕ) (entries : List InitialWords) (k : ℕ) (e : InitialWords) (last largest : ℕ) : Type 0 where
  pub inside : k < length entries
  pub is : e ≡ get_or entries k e
  pub largest_is : largest ≡ largest_in (get_or sent (e.subaddress - 1) 0)
  pub last_is : (i : ℕ) → i < 32 → has_bit last i ≡ gives_last entries k e.subaddress (i + 1) e

pub is_entry : (sent : List ℕ) (entries : List InitialWords) (k : ℕ) (e : InitialWords) (s last largest : ℕ) → k < length entries → e ≡ get_or entries k e → e.subaddress ≡ s →
    largest ≡ largest_in (get_or sent (s - 1) 0) → ((i : ℕ) → i < 32 → has_bit last i ≡ gives_last entries k s (i + 1) (get_or entries k e)) → IsEntry sent entries k e last largest
is_entry sent entries k e s last largest l is here most lasts = search arith

both_true : (a b : Bool) → a ≡ true → b ≡ true → (a && b) ≡ true
both_true a b e f = search arith

below : (w len : ℕ) → nat_lt w len ≡ true → w < len
below w len e = grind (arith, nat_tests)

-- a word that is held stands at a number that is transmitted, and that the entry is the last to give
held_to : (sent : List ℕ) (entries : List InitialWords) (k : ℕ) (e : InitialWords) (last largest : ℕ) → IsEntry sent entries k e last largest → (w : ℕ) → is_held e last largest w ≡ true →
    (may_be_sent sent e.subaddress (e.first + w) ≡ true) × (gives_last entries k e.subaddress (e.first + w) e ≡ true)
held_to sent entries k e last largest at w held = search (arith, below, left_of, right_of, both_true, nat_tests)

-- a place that is transmitted, and that the entry is the last to give
record IsPlace (e : InitialWords) (last largest s n : ℕ) : Type 0 where
  same : s ≡ e.subaddress
  small : n - e.first < 32
  number : e.first - 1 + (n - e.first) + 1 ≡ n
  held : is_held e last largest (n - e.first) ≡ true

held_from : (sent : List ℕ) (entries : List InitialWords) (k : ℕ) (e : InitialWords) (last largest : ℕ) → IsEntry sent entries k e last largest → (s n : ℕ) →
    may_be_sent sent s n ≡ true → gives_last entries k s n e ≡ true → IsPlace e last largest s n
held_from sent entries k e last largest at s n t g = search (arith, right_of, eqb-true, left_of, both_true, nat_tests)

-- ---- the entry

pub spare_entry : (sent : List ℕ) (entries : List InitialWords) (k : ℕ) (e : InitialWords) (last largest : ℕ) (row : List ℕ) → IsEntry sent entries k e last largest →
    ((i : ℕ) → i < 32 → get_or row i 0 ≡ initial_word (take k entries) e.subaddress (i + 1)) → IsSpareBy e row last largest ↔ SameWords sent entries (without k entries)
spare_entry sent entries k e last largest row at rows =
    let from : 1 ≤ e.first = e.first_low in
    let room : e.first + e.len ≤ 33 = e.room in
    let law : (s n : ℕ) → (initial_word entries s n ≡ initial_word (without k entries) s n) ↔ (gives_last entries k s n e ≡ true → get_or e.words (n - e.first) 0 ≡ initial_word (take k entries) s n) =
    (λ s n.
    subst (λ (x : InitialWords). (initial_word entries s n ≡ initial_word (without k entries) s n) ↔ (gives_last entries k s n x ≡ true → get_or x.words (n - x.first) 0 ≡ initial_word (take k entries) s n))
    (sym at.is) (same_without (word_given 0 n) (gives s n) entries k e at.inside)) in (
      λ f s n t. (law s n).1 (λ g.
          let place = held_from sent entries k e last largest at s n t g in
          let low : 1 ≤ n = place_from s n (left_of _ _ t) in
          let within : e.first - 1 + (n - e.first) < 32 = (let number : e.first - 1 + (n - e.first) + 1 ≡ n = place.number in let l : n - e.first < e.len = below (n - e.first) e.len (left_of _ _ place.held) in omega arith) in
          f (n - e.first) place.small place.held
          ∙ (rows (e.first - 1 + (n - e.first)) within
          ∙ (λ j. initial_word (take k entries) (sym place.same j) (place.number j)))),
      λ f w small held.
          let both = held_to sent entries k e last largest at w held in
          let l : w < e.len = below w e.len (left_of _ _ held) in
          let within : e.first - 1 + w < 32 = omega arith in
          let number : e.first - 1 + w + 1 ≡ e.first + w = omega arith in
          let back : e.first + w - e.first ≡ w = omega arith in
          ap (λ n. get_or e.words n 0) (sym back)
          ∙ ((law e.subaddress (e.first + w)).0 (f e.subaddress (e.first + w) both.0) both.1
          ∙ sym (rows (e.first - 1 + w) within ∙ ap (initial_word (take k entries) e.subaddress) number)),
    )

-- ---- a word of it

pub spare_word : (sent : List ℕ) (entries : List InitialWords) (k : ℕ) (e : InitialWords) (last largest w : ℕ) (new : InitialWords) → IsEntry sent entries k e last largest → w < 32 → IsZeroed e w new →
    (is_held e last largest w ≡ true → get_or e.words w 0 ≡ 0) ↔ SameWords sent entries (set entries k new)
spare_word sent entries k e last largest w new at small zeroed =
    let from : 1 ≤ e.first = e.first_low in
    let whole : w < length e.words = (let long : length e.words ≡ 32 = e.whole in omega arith) in
    let law : (s n : ℕ) → (initial_word entries s n ≡ initial_word (set entries k new) s n) ↔ (gives_last entries k s n e ≡ true → get_or e.words (n - e.first) 0 ≡ get_or new.words (n - new.first) 0) =
    (λ s n.
    let alike : gives s n new ≡ gives s n e = (λ j. (s == zeroed.subaddress j) && (nat_le (zeroed.first j) n && nat_lt n (zeroed.first j + zeroed.len j))) in
    subst (λ (x : InitialWords). (initial_word entries s n ≡ initial_word (set entries k new) s n) ↔ (gives_last entries k s n x ≡ true → get_or x.words (n - x.first) 0 ≡ get_or new.words (n - new.first) 0))
    (sym at.is) (same_set (word_given 0 n) (gives s n) entries k new e at.inside (alike ∙ ap (gives s n) at.is))) in
    let other_words : (n : ℕ) → get_or new.words (n - new.first) 0 ≡ get_or (set e.words w 0) (n - e.first) 0 = (λ n j. get_or (zeroed.words j) (n - zeroed.first j) 0) in (
      λ f s n t. (law s n).1 (λ g.
          let place = held_from sent entries k e last largest at s n t g in
          elim (n - e.first == w) as (λ b. (n - e.first == w) ≡ b → get_or e.words (n - e.first) 0 ≡ get_or new.words (n - new.first) 0) [
            | true ↦ λ h.
                let here : n - e.first ≡ w = eqb-true (n - e.first) w h in
                ap (λ m. get_or e.words m 0) here
                ∙ (f (ap (is_held e last largest) (sym here) ∙ place.held)
                ∙ sym (other_words n ∙ (ap (λ m. get_or (set e.words w 0) m 0) here ∙ get_or-set_same e.words w 0 0 whole)))
            | false ↦ λ h.
                let apart : n - e.first ≢ w = (λ q. let wrong : true ≡ false = sym (eq-eqb (n - e.first) w q) ∙ h in cc) in
                sym (other_words n ∙ get_or-set_other e.words w (n - e.first) 0 0 apart)
          ] refl),
      λ f held.
          let both = held_to sent entries k e last largest at w held in
          let back : e.first + w - e.first ≡ w = omega arith in
          ap (λ n. get_or e.words n 0) (sym back)
          ∙ ((law e.subaddress (e.first + w)).0 (f e.subaddress (e.first + w) both.0) both.1
          ∙ (other_words (e.first + w) ∙ (ap (λ m. get_or (set e.words w 0) m 0) back ∙ get_or-set_same e.words w 0 0 whole))),
    )

-- what is told of an entry
pub marked : (sent : List ℕ) (entries : List InitialWords) (k : ℕ) (e : InitialWords) (last largest : ℕ) (row : List ℕ) (spare : InitialSpares) → IsEntry sent entries k e last largest →
    ((i : ℕ) → i < 32 → get_or row i 0 ≡ initial_word (take k entries) e.subaddress (i + 1)) →
    IsTrue spare.entry ↔ IsSpareBy e row last largest → AreSpareBy e last largest spare.words → IsMarked sent entries k spare
marked sent entries k e last largest row spare at rows entry words =
    let law = spare_entry sent entries k e last largest row at rows in
    record {
      entry = (λ h. law.0 (entry.0 h), λ same. entry.1 (law.1 same));
      words = λ w small. at_read entries (λ (old : InitialWords). (new : InitialWords) × IsZeroed old w new × (IsTrue (has_bit spare.words w) ↔ SameWords sent entries (set entries k new))) k e at.inside at.is
          (let one = spare_word sent entries k e last largest w (zeroed_of e w) at small (zeroed-is e w) in
          (zeroed_of e w, zeroed-is e w, (λ h. one.0 ((words w small).0 h), λ same. (words w small).1 (one.1 same))));
    }

-- ---- the terminal

sends : (p : Profile) (t : Tables) → ((cell : Cell) → tables_say t cell ≡ is_legal p.rules p.modes cell) → (s n : ℕ) → can_transmit (description_of p) s n ≡ may_be_sent t.own_transmit s n
sends p t legal s n = by_place (is_data_place s n) refl
  where
    most : is_data_place s n ≡ true → largest_count (transmits_at (description_of p) s) ≡ largest_in (get_or t.own_transmit (s - 1) 0)
    most place = (λ j. largest_count (λ m. sym (legal (OwnTransmit s m)) j)) ∙ largest_count-said t.own_transmit s (left_of _ _ place)

    by_number : (m : ℕ) → 1 ≤ n → (nat_le 1 n && nat_le n m) ≡ nat_lt (n - 1) m
    by_number m low = grind (arith, nat_tests)

    unsent : (b : Bool) → (b ≡ true → is_data_place s n ≡ true) → is_data_place s n ≡ false → b ≡ false
    unsent true h e = sym (h refl) ∙ e
    unsent false h e = refl

    by_place : (b : Bool) → is_data_place s n ≡ b → can_transmit (description_of p) s n ≡ may_be_sent t.own_transmit s n
    by_place true e =
        ap (λ m. nat_le 1 n && nat_le n m) (most e)
        ∙ (by_number (largest_in (get_or t.own_transmit (s - 1) 0)) (place_from s n e)
        ∙ sym (ap (λ b. b && nat_lt (n - 1) (largest_in (get_or t.own_transmit (s - 1) 0))) e))
    by_place false e =
        unsent (can_transmit (description_of p) s n) (sent_place (description_of p) (λ s n legal_there. legal_allowed p.rules p.modes (OwnTransmit s n) legal_there) s n) e
        ∙ sym (ap (λ b. b && nat_lt (n - 1) (largest_in (get_or t.own_transmit (s - 1) 0))) e)

asked_with : (p : Profile) (initial : ℕ → ℕ → ℕ) → IsAsked (record (description_of p) { initial = initial })
asked_with p initial = record { low = p.own_address; asks = required_codes p 2 refl; allowed = legal_allowed p.rules p.modes }

pub same_terminal : (p : Profile) (t : Tables) (others : List InitialWords) → ((cell : Cell) → tables_say t cell ≡ is_legal p.rules p.modes cell) →
    SameWords t.own_transmit p.initials others ↔ Same (description_of p) (record (description_of p) { initial = initial_word others })
same_terminal p t others legal =
    let words = same_words (description_of p) (initial_word others) in
    let same = same_in_reach (description_of p) (record (description_of p) { initial = initial_word others }) (asked p) (asked_with p (initial_word others)) in (
      λ f. same.1 (words.1 (λ s n sent. f s n (sym (sends p t legal s n) ∙ sent))),
      λ alike s n sent. words.0 (same.0 alike) s n (sends p t legal s n ∙ sent),
    )

-- what is told of an entry, of the terminal
pub entry_told : (p : Profile) (t : Tables) (k : ℕ) (spare : InitialSpares) → ((cell : Cell) → tables_say t cell ≡ is_legal p.rules p.modes cell) → IsMarked t.own_transmit p.initials k spare →
    IsTrue spare.entry ↔ Same (description_of p) (without_initial p k)
entry_told p t k spare legal told = search (arith, same_terminal, same_terminal p t (without k p.initials) legal)

pub word_told : (p : Profile) (t : Tables) (k : ℕ) (spare : InitialSpares) → ((cell : Cell) → tables_say t cell ≡ is_legal p.rules p.modes cell) → IsMarked t.own_transmit p.initials k spare →
    (w : ℕ) → w < 32 → SparesWord p k w (has_bit spare.words w)
word_told p t k spare legal told w small d =
    let (new, zeroed, same) = told.words w small d in
    let law = same_terminal p t (set p.initials k new) legal in
    (new, zeroed, (λ h. law.0 (same.0 h), λ alike. same.1 (law.1 alike)))
