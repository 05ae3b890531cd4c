-- What the rows of the full table become: rules, mode entries and initial entries.
use Rattle.std.proofs.Common.{◌≡◌, ℕ, suc, ◌+◌, ◌^◌, ◌<◌, ◌≤◌, ◌==◌, Bool, true, false, not, cond, pos, Some, List, [], ◌∷◌, ◌++◌, map, filter, length, get_or, codes, refl, ap, ◌∙◌, arith}
use Rattle.std.specs.List.{zip}
use Rattle.std.specs.Str.{str_to_ascii_lowercase, trim}
use Rattle.toml.specs.Data.{Data, string, integer, boolean, array, table, no_members, member}
use Rattle.toml.specs.View.{items_of}
use Rattle.bus_legal.specs.Parts.{IsBlock}
use Rattle.rt1553_import.specs.declared.column.TableColumn.TheVariants as column
use Rattle.rt1553_import.specs.declared.sheet.Sheet.{Sheet}
use Rattle.rt1553_import.specs.declared.tree.Entry.{Entry}
use Rattle.rt1553_import.specs.declared.tree.Entry.TheVariants as entry
use Rattle.rt1553_import.specs.Cells.{has_no_text, cell_words, cell_value}
use Rattle.rt1553_import.specs.Reading.{row_fields}
use Rattle.rt1553_import.specs.Tree.{member_put, with_text, words_data, word_value, is_entry, rule_entry_data, mode_entry_data, entry_data}
use Rattle.rt1553_toml.specs.Sets.{two_digits, set_text}
use Rattle.rt1553_toml.specs.inner.FullTree.{from_number, rule_data, mode_data, initial_data}
use Rattle.rt1553_toml.proofs.TreeFaults.{AllIn}
use Rattle.rt1553_export.specs.inner.Rows.{header_cells, setting_cells, message_cells, mode_cells}
use Rattle.rt1553_export.specs.inner.Full.{yes_no, legal_cell, words_cell, receive_row, transmit_row, mode_codes_row}
use Rattle.rt1553_export.proofs.Trimmed.{IsPlain, plain_by, trim_plain, trim_nothing}
use Rattle.rt1553_export.proofs.CellValues.{two_says, two_plain, set_says, set_plain, yes_no_says, yes_no_plain, AreWords16, words_read, words_say, words_plain}
use Rattle.rt1553_export.proofs.FullSheet.{row_of, row_made, Says, text_put, cell_is, entry_is, is_entry_by}

-- ---- cells that say a value

plain_some : (t : List ℕ) → IsPlain t → has_no_text t ≡ false
plain_some [] h = absurd h.begins
plain_some (c ∷ cs) h = refl

pub plain_says : (t : List ℕ) (d : Data) → IsPlain t → cell_value t ≡ d → Says t d
plain_says t d h e = record { some = plain_some t h; value = e; trimmed = trim_plain t h }

pub two_cell : (n : ℕ) → n < 100 → Says (two_digits n) (integer (pos n))
two_cell n l = plain_says (two_digits n) (integer (pos n)) (two_plain n l) (two_says n l)

pub set_cell : (first mask : ℕ) → first ≤ 1 → mask < 2 ^ 32 → Says (set_text first mask) (string (set_text first mask))
set_cell first mask low fits = plain_says (set_text first mask) (string (set_text first mask)) (set_plain first mask low fits) (set_says first mask low fits)

pub truth_cell : (b : Bool) → Says (yes_no b) (boolean b)
truth_cell b = plain_says (yes_no b) (boolean b) (yes_no_plain b) (yes_no_says b)

pub receive_cell : Says (codes "receive") (string (codes "receive"))
receive_cell = plain_says (codes "receive") (string (codes "receive")) (plain_by (codes "receive") refl) refl

pub transmit_cell : Says (codes "transmit") (string (codes "transmit"))
transmit_cell = plain_says (codes "transmit") (string (codes "transmit")) (plain_by (codes "transmit") refl) refl

-- a cell in the column `to`: a word in small letters
pub record IsWordCell (to : List ℕ) : Type 0 where
  pub says : Says to (string to)
  pub small : Says (str_to_ascii_lowercase to) (string to)

own_says : Says (codes "own") (string (codes "own"))
own_says = plain_says (codes "own") (string (codes "own")) (plain_by (codes "own") refl) refl

pub own_cell : IsWordCell (codes "own")
own_cell = record { says = own_says; small = own_says }

broadcast_says : Says (codes "broadcast") (string (codes "broadcast"))
broadcast_says = plain_says (codes "broadcast") (string (codes "broadcast")) (plain_by (codes "broadcast") refl) refl

pub broadcast_cell : IsWordCell (codes "broadcast")
broadcast_cell = record { says = broadcast_says; small = broadcast_says }

pub mode_plain : IsPlain (codes "mode")
mode_plain = plain_by (codes "mode") refl

-- ---- the words of a subaddress

words_sixteen : (ws : List ℕ) → ((i : ℕ) → get_or ws i 0 < 2 ^ 16) → AreWords16 ws
words_sixteen [] h = tt
words_sixteen (w ∷ ws) h = (h 0, words_sixteen ws (λ i. h (suc i)))

pub record IsWordsCell (ws : List ℕ) : Type 0 where
  pub plain : IsPlain (words_cell ws)
  pub read : cell_words (words_cell ws) ≡ Some ws
  pub says : words_data (words_cell ws) ≡ map word_value ws

words_of : (ws : List ℕ) → length ws ≡ 32 → AreWords16 ws → IsWordsCell ws
words_of [] long h = absurd (omega (arith, long))
words_of (w ∷ ws) long h = record { plain = words_plain w ws h; read = words_read w ws h; says = words_say w ws h }

pub block_cell : (ws : List ℕ) → IsBlock ws → IsWordsCell ws
block_cell ws block = words_of ws block.long (words_sixteen ws block.fit)

-- the word counts of a subaddress, and the words that it holds
abbrev pub IsHeld : ℕ × List ℕ → Type 0
IsHeld held = (held.0 < 2 ^ 32) × IsBlock held.1

-- ---- lists of rows, each with what it becomes

module _ (s : Sheet) (header : row_fields s.header ≡ header_cells) where
  -- what these rows become
  abbrev pub become : Entry → List (List (List ℕ)) → List Data
  become e fs = map (entry_data s e) (filter (is_entry s e) (map row_of fs))

  pub become_kept : (e : Entry) (f : List (List ℕ)) (fs : List (List (List ℕ))) (d : Data) (ds : List Data) → is_entry s e (row_of f) ≡ true → entry_data s e (row_of f) ≡ d → become e fs ≡ ds → become e (f ∷ fs) ≡ d ∷ ds
  become_kept e f fs d ds is same more =
      ap (λ b. map (entry_data s e) (cond b (row_of f ∷ filter (is_entry s e) (map row_of fs)) (filter (is_entry s e) (map row_of fs)))) is
      ∙ (λ j. same j ∷ more j)

  pub become_left : (e : Entry) (f : List (List ℕ)) (fs : List (List (List ℕ))) (ds : List Data) → is_entry s e (row_of f) ≡ false → become e fs ≡ ds → become e (f ∷ fs) ≡ ds
  become_left e f fs ds is more =
      ap (λ b. map (entry_data s e) (cond b (row_of f ∷ filter (is_entry s e) (map row_of fs)) (filter (is_entry s e) (map row_of fs)))) is ∙ more

  pub become-append : (e : Entry) (fs gs : List (List (List ℕ))) → become e (fs ++ gs) ≡ become e fs ++ become e gs
  become-append e [] gs = refl
  become-append e (f ∷ fs) gs = pick (is_entry s e (row_of f)) (become-append e fs gs)
    where
      pick : (b : Bool) → become e (fs ++ gs) ≡ become e fs ++ become e gs
          → map (entry_data s e) (cond b (row_of f ∷ filter (is_entry s e) (map row_of (fs ++ gs))) (filter (is_entry s e) (map row_of (fs ++ gs))))
          ≡ map (entry_data s e) (cond b (row_of f ∷ filter (is_entry s e) (map row_of fs)) (filter (is_entry s e) (map row_of fs))) ++ become e gs
      pick true more = ap (λ ds. entry_data s e (row_of f) ∷ ds) more
      pick false more = more

  -- numbered rows, each of which becomes such an entry, or none of which does
  pub record Becomes (e : Entry) (f : List (List ℕ)) (d : Data) : Type 0 where
    pub is : is_entry s e (row_of f) ≡ true
    pub data_is : entry_data s e (row_of f) ≡ d

  pub numbered_become : {A : Type 0} (e : Entry) (P : A → Type 0) (f : ℕ → A → List (List ℕ)) (g : ℕ → A → Data) → ((n : ℕ) (x : A) → n ≤ 30 → P x → Becomes e (f n x) (g n x))
      → (n : ℕ) (xs : List A) → n + length xs ≤ 31 → AllIn P xs → become e (from_number f n xs) ≡ from_number g n xs
  numbered_become e P f g h n [] room all = refl
  numbered_become e P f g h n (x ∷ xs) room all =
      let here = h n x (omega arith) all.0 in
      become_kept e (f n x) (from_number f (suc n) xs) (g n x) (from_number g (suc n) xs) here.is here.data_is (numbered_become e P f g h (suc n) xs (omega arith) all.1)

  pub numbered_left : {A : Type 0} (e : Entry) (P : A → Type 0) (f : ℕ → A → List (List ℕ)) → ((n : ℕ) (x : A) → n ≤ 30 → P x → is_entry s e (row_of (f n x)) ≡ false)
      → (n : ℕ) (xs : List A) → n + length xs ≤ 31 → AllIn P xs → become e (from_number f n xs) ≡ []
  numbered_left e P f h n [] room all = refl
  numbered_left e P f h n (x ∷ xs) room all = become_left e (f n x) (from_number f (suc n) xs) [] (h n x (omega arith) all.0) (numbered_left e P f h (suc n) xs (omega arith) all.1)

  -- ---- a message of data

  rule_made : (f : List (List ℕ)) (direction sub words to initial legal : List ℕ) (dd ds dw dt dl : Data) → f ≡ message_cells direction sub words to initial legal
      → Says direction dd → Says (str_to_ascii_lowercase direction) dd → Says sub ds → Says words dw → Says to dt → Says (str_to_ascii_lowercase to) dt → trim initial ≡ initial → Says legal dl
      → rule_entry_data s (row_of f) ≡ table (member (codes "counts") dw (member (codes "direction") dd (member (codes "legal") dl (member (codes "subaddresses") ds (member (codes "to") dt no_members)))))
  rule_made f direction sub words to initial legal dd ds dw dt dl is a a' b k t t' i l =
      let at = cell_is s header (row_of f) (message_cells direction sub words to initial legal) (row_made f ∙ is) (a.trimmed, (trim_nothing, (b.trimmed, (k.trimmed, (trim_nothing, (t.trimmed, (i, (l.trimmed, (trim_nothing, tt))))))))) in
      (λ j. table (with_text (codes "legal") (at column.Legal j) (with_text (codes "to") (str_to_ascii_lowercase (at column.To j))
      (with_text (codes "counts") (at column.Words j) (with_text (codes "subaddresses") (at column.Subaddress j) (with_text (codes "direction") (str_to_ascii_lowercase (at column.Kind j)) no_members))))))
      ∙ (λ j. table (text_put (codes "legal") legal dl (text_put (codes "to") (str_to_ascii_lowercase to) dt (text_put (codes "counts") words dw (text_put (codes "subaddresses") sub ds (text_put (codes "direction") (str_to_ascii_lowercase direction) dd no_members a' j) b j) k j) t' j) l j))

  mode_made : (f : List (List ℕ)) (set to legal : List ℕ) (dc dt dl : Data) → f ≡ mode_cells set to legal []
      → Says set dc → Says to dt → Says (str_to_ascii_lowercase to) dt → Says legal dl → mode_entry_data s (row_of f) ≡ table (member (codes "codes") dc (member (codes "legal") dl (member (codes "to") dt no_members)))
  mode_made f set to legal dc dt dl is k t t' l =
      let at = cell_is s header (row_of f) (mode_cells set to legal []) (row_made f ∙ is) (trim_plain (codes "mode") mode_plain, (trim_nothing, (trim_nothing, (trim_nothing, (k.trimmed, (t.trimmed, (trim_nothing, (l.trimmed, (trim_nothing, tt))))))))) in
      (λ j. table (with_text (codes "legal") (at column.Legal j) (with_text (codes "to") (str_to_ascii_lowercase (at column.To j)) (with_text (codes "codes") (at column.Code j) no_members))))
      ∙ (λ j. table (text_put (codes "legal") legal dl (text_put (codes "to") (str_to_ascii_lowercase to) dt (text_put (codes "codes") set dc no_members k j) t' j) l j))

  -- what a message of data becomes, by its direction and its initial words
  message_entry : (f : List (List ℕ)) (direction sub words to initial legal : List ℕ) (dd ds dw dt dl : Data) → f ≡ message_cells direction sub words to initial legal
      → Says direction dd → Says sub ds → Says words dw → Says to dt → trim initial ≡ initial → Says legal dl → (e : Entry) → is_entry s e (row_of f) ≡ is_entry_by e direction initial
  message_entry f direction sub words to initial legal dd ds dw dt dl is a b k t i l =
      let at = cell_is s header (row_of f) (message_cells direction sub words to initial legal) (row_made f ∙ is) (a.trimmed, (trim_nothing, (b.trimmed, (k.trimmed, (trim_nothing, (t.trimmed, (i, (l.trimmed, (trim_nothing, tt))))))))) in
      entry_is s header (row_of f) direction initial (at column.Kind) (at column.Initial)

  pub receive_entry : (to : List ℕ) → IsWordCell to → (n mask : ℕ) → n ≤ 30 → mask < 2 ^ 32 → (e : Entry) → is_entry s e (row_of (receive_row to n mask)) ≡ is_entry_by e (codes "receive") []
  receive_entry to t n mask l fits =
      message_entry (receive_row to n mask) (codes "receive") (two_digits n) (set_text 1 mask) to [] (legal_cell mask) _ _ _ _ _ refl receive_cell (two_cell n (omega arith)) (set_cell 1 mask (omega arith) fits) t.says trim_nothing (truth_cell (not (mask == 0)))

  pub receive_rule : (to : List ℕ) → IsWordCell to → (n mask : ℕ) → n ≤ 30 → mask < 2 ^ 32 → Becomes entry.Rule (receive_row to n mask) (rule_data to (codes "receive") n mask)
  receive_rule to t n mask l fits = record {
    is = receive_entry to t n mask l fits entry.Rule;
    data_is = rule_made (receive_row to n mask) (codes "receive") (two_digits n) (set_text 1 mask) to [] (legal_cell mask) _ _ _ _ _ refl receive_cell receive_cell (two_cell n (omega arith)) (set_cell 1 mask (omega arith) fits) t.says t.small trim_nothing (truth_cell (not (mask == 0)));
  }

  -- ---- a subaddress with the words that it holds

  pub transmit_entry : (n : ℕ) (held : ℕ × List ℕ) → n ≤ 30 → IsHeld held → (e : Entry) → is_entry s e (row_of (transmit_row n held)) ≡ is_entry_by e (codes "transmit") (words_cell held.1)
  transmit_entry n held l is =
      message_entry (transmit_row n held) (codes "transmit") (two_digits n) (set_text 1 held.0) (codes "own") (words_cell held.1) (legal_cell held.0) _ _ _ _ _ refl transmit_cell (two_cell n (omega arith)) (set_cell 1 held.0 (omega arith) is.0) own_cell.says
      (trim_plain (words_cell held.1) (block_cell held.1 is.1).plain) (truth_cell (not (held.0 == 0)))

  pub transmit_rule : (n : ℕ) (held : ℕ × List ℕ) → n ≤ 30 → IsHeld held → Becomes entry.Rule (transmit_row n held) (rule_data (codes "own") (codes "transmit") n held.0)
  transmit_rule n held l is = record {
    is = transmit_entry n held l is entry.Rule;
    data_is = rule_made (transmit_row n held) (codes "transmit") (two_digits n) (set_text 1 held.0) (codes "own") (words_cell held.1) (legal_cell held.0) _ _ _ _ _ refl transmit_cell transmit_cell (two_cell n (omega arith)) (set_cell 1 held.0 (omega arith) is.0) own_cell.says own_cell.small
        (trim_plain (words_cell held.1) (block_cell held.1 is.1).plain) (truth_cell (not (held.0 == 0)));
  }

  pub transmit_initial : (n : ℕ) (held : ℕ × List ℕ) → n ≤ 30 → IsHeld held → Becomes entry.Initial (transmit_row n held) (initial_data n held.1)
  transmit_initial n held l is =
      let words = block_cell held.1 is.1 in
      let sub = two_cell n (omega arith) in
      let at = cell_is s header (row_of (transmit_row n held)) (transmit_row n held) (row_made (transmit_row n held))
      (transmit_cell.trimmed, (trim_nothing, (sub.trimmed, ((set_cell 1 held.0 (omega arith) is.0).trimmed, (trim_nothing, (own_cell.says.trimmed, (trim_plain (words_cell held.1) words.plain, ((truth_cell (not (held.0 == 0))).trimmed, (trim_nothing, tt))))))))) in
      record {
        is = transmit_entry n held l is entry.Initial ∙ ap (λ b. not b) (plain_some (words_cell held.1) words.plain);
        data_is = (λ j. table (member_put (codes "words") (array (items_of (words_data (at column.Initial j)))) (with_text (codes "subaddress") (at column.Subaddress j) no_members)))
            ∙ (λ j. table (member_put (codes "words") (array (items_of (words.says j))) (text_put (codes "subaddress") (two_digits n) (integer (pos n)) no_members sub j)));
      }

  -- ---- mode codes

  pub codes_entry : (to : List ℕ) → IsWordCell to → (mask : ℕ) → mask < 2 ^ 32 → (e : Entry) → is_entry s e (row_of (mode_codes_row to mask)) ≡ is_entry_by e (codes "mode") []
  codes_entry to t mask fits =
      let at = cell_is s header (row_of (mode_codes_row to mask)) (mode_codes_row to mask) (row_made (mode_codes_row to mask))
      (trim_plain (codes "mode") mode_plain, (trim_nothing, (trim_nothing, (trim_nothing, ((set_cell 0 mask (omega arith) fits).trimmed, (t.says.trimmed, (trim_nothing, ((truth_cell (not (mask == 0))).trimmed, (trim_nothing, tt))))))))) in
      entry_is s header (row_of (mode_codes_row to mask)) (codes "mode") [] (at column.Kind) (at column.Initial)

  pub codes_mode : (to : List ℕ) → IsWordCell to → (mask : ℕ) → mask < 2 ^ 32 → Becomes entry.Mode (mode_codes_row to mask) (mode_data to mask)
  codes_mode to t mask fits = record {
    is = codes_entry to t mask fits entry.Mode;
    data_is = mode_made (mode_codes_row to mask) (set_text 0 mask) to (legal_cell mask) _ _ _ refl (set_cell 0 mask (omega arith) fits) t.says t.small (truth_cell (not (mask == 0)));
  }

  -- ---- all rows

  -- a setting, whose kind is none of a message or of mode codes
  pub setting_entry : (kind value : List ℕ) → trim kind ≡ kind → trim value ≡ value → (e : Entry) → is_entry s e (row_of (setting_cells kind value)) ≡ is_entry_by e kind []
  setting_entry kind value a b =
      let at = cell_is s header (row_of (setting_cells kind value)) (setting_cells kind value) (row_made (setting_cells kind value)) (a, (b, (trim_nothing, (trim_nothing, (trim_nothing, (trim_nothing, (trim_nothing, (trim_nothing, (trim_nothing, tt))))))))) in
      entry_is s header (row_of (setting_cells kind value)) kind [] (at column.Kind) (at column.Initial)

-- ---- pairs

pub zip_all : {A B : Type 0} (P : A → Type 0) (Q : B → Type 0) (xs : List A) (ys : List B) → AllIn P xs → AllIn Q ys → AllIn (λ pair. P pair.0 × Q pair.1) (zip xs ys)
zip_all P Q [] ys a b = tt
zip_all P Q (x ∷ xs) [] a b = tt
zip_all P Q (x ∷ xs) (y ∷ ys) a b = ((a.0, b.0), zip_all P Q xs ys a.1 b.1)

pub zip_first : {A B : Type 0} (f : ℕ → A → Data) (n : ℕ) (xs : List A) (ys : List B) → length xs ≡ length ys → from_number (λ n (pair : A × B). f n pair.0) n (zip xs ys) ≡ from_number f n xs
zip_first f n [] ys e = refl
zip_first f n (x ∷ xs) [] e = absurd (omega (arith, e))
zip_first f n (x ∷ xs) (y ∷ ys) e = ap (λ ds. f n x ∷ ds) (zip_first f (suc n) xs ys (omega (arith, e)))

pub zip_second : {A B : Type 0} (f : ℕ → B → Data) (n : ℕ) (xs : List A) (ys : List B) → length xs ≡ length ys → from_number (λ n (pair : A × B). f n pair.1) n (zip xs ys) ≡ from_number f n ys
zip_second f n [] [] e = refl
zip_second f n [] (y ∷ ys) e = absurd (omega (arith, e))
zip_second f n (x ∷ xs) [] e = absurd (omega (arith, e))
zip_second f n (x ∷ xs) (y ∷ ys) e = ap (λ ds. f n y ∷ ds) (zip_second f (suc n) xs ys (omega (arith, e)))
