-- The full table has no blanks to leave out: all its rows are kept as they are written.
use Rattle.std.proofs.Common.{◌≡◌, ℕ, suc, ◌+◌, ◌^◌, ◌<◌, ◌≤◌, ◌==◌, ◌&&◌, Bool, true, false, not, cond, List, [], ◌∷◌, ◌++◌, map, length, take, codes, refl, ap, sym, ◌∙◌, arith}
use Rattle.std.proofs.lemmas.Bool.Decides.{nat_tests}
use Rattle.std.proofs.lemmas.List.{take_all}
use Rattle.std.specs.Char.{is_ascii_whitespace}
use Rattle.std.specs.List.{zip}
use Rattle.csv.specs.Records.{trim_start, trim_end, trimmed}
use Rattle.bus_legal.specs.Parts.{Parts, IsBlock, IsNormal}
use Rattle.csv_rows.specs.Rows.{says_something, kept_rows}
use Rattle.rt1553_toml.specs.Sets.{two_digits, set_text}
use Rattle.rt1553_toml.specs.inner.FullTree.{from_number}
use Rattle.rt1553_toml.proofs.TreeFaults.{AllIn, AllIn-append, IsMask32, all_masks, all_blocks, from_number_in, own_mode_fits, broadcast_mode_fits}
use Rattle.rt1553_export.specs.inner.Rows.{header_cells, setting_cells, message_cells, mode_cells}
use Rattle.rt1553_export.specs.inner.Full.{yes_no, legal_cell, word_cell, wrap_cell, words_cell, receive_row, transmit_row, mode_codes_row, all_settings, all_messages, all_codes, full_rows}
use Rattle.rt1553_export.proofs.Trimmed.{IsGraphic, BeginsGraphic, EndsGraphic, IsPlain, plain_by}
use Rattle.rt1553_export.proofs.CellValues.{two_plain, set_plain, yes_no_plain, wrap_plain, word_plain}
use Rattle.rt1553_export.proofs.RowLaws.{length-zip}
use Rattle.rt1553_export.proofs.FullEntries.{block_cell, IsHeld, mode_plain, zip_all}

-- ---- cells

not_white : (c : ℕ) → 33 ≤ c → c ≤ 126 → is_ascii_whitespace c ≡ false
not_white c low high = grind (arith, nat_tests)

starts_so : (t : List ℕ) → BeginsGraphic t → trim_start t ≡ t
unfolding trim_start
starts_so [] h = absurd h
starts_so (c ∷ cs) h = ap (λ b. cond b (trim_start cs) (c ∷ cs)) (not_white c h.0 h.1)

ends_so : (t : List ℕ) → EndsGraphic t → trim_end t ≡ length t
unfolding trim_end
ends_so [] h = absurd h
ends_so (c ∷ []) h = ap (λ b. cond b 0 1) (not_white c h.0 h.1)
ends_so (c ∷ d ∷ ds) h = ap (λ n. cond ((n == 0) && is_ascii_whitespace c) 0 (n + 1)) (ends_so (d ∷ ds) h) ∙ on
  where
    some : (length (d ∷ ds) == 0) ≡ false
    some = grind (arith, nat_tests)

    on : cond ((length (d ∷ ds) == 0) && is_ascii_whitespace c) 0 (length (d ∷ ds) + 1) ≡ length (c ∷ d ∷ ds)
    on = ap (λ b. cond (b && is_ascii_whitespace c) 0 (length (d ∷ ds) + 1)) some ∙ omega arith

so : (t : List ℕ) → IsPlain t → trimmed t ≡ t
so t h =
    let front = starts_so t h.begins in
    (λ j. take (trim_end (front j)) (front j)) ∙ (ap (λ n. take n t) (ends_so t h.ends) ∙ take_all (length t) t (omega arith))

none : trimmed [] ≡ []
unfolding trim_start trim_end
none = refl

-- ---- rows

-- a row that is kept as it is
record IsKept (row : List (List ℕ)) : Type 0 where
  same : map trimmed row ≡ row
  said : says_something row ≡ true

rows_kept : (rows : List (List (List ℕ))) → AllIn IsKept rows → kept_rows rows ≡ rows
rows_kept [] h = refl
rows_kept (r ∷ rs) h =
    let here = h.0 in
    ap (λ b. cond b (map trimmed r ∷ kept_rows rs) (kept_rows rs)) (ap says_something here.same ∙ here.said) ∙ (λ j. here.same j ∷ rows_kept rs h.1 j)

first_said : (first : List ℕ) (rest : List (List ℕ)) → IsPlain first → says_something (first ∷ rest) ≡ true
first_said [] rest h = absurd h.begins
first_said (c ∷ cs) rest h = refl

setting_kept : (kind value : List ℕ) → IsPlain kind → IsPlain value → IsKept (setting_cells kind value)
setting_kept kind value a b = record {
  same = λ j. so kind a j ∷ so value b j ∷ none j ∷ none j ∷ none j ∷ none j ∷ none j ∷ none j ∷ none j ∷ [];
  said = first_said kind (value ∷ [] ∷ [] ∷ [] ∷ [] ∷ [] ∷ [] ∷ [] ∷ []) a;
}

message_kept : (direction sub words to initial legal : List ℕ) → IsPlain direction → IsPlain sub → IsPlain words → IsPlain to → trimmed initial ≡ initial → IsPlain legal → IsKept (message_cells direction sub words to initial legal)
message_kept direction sub words to initial legal a b k t i l = record {
  same = λ j. so direction a j ∷ none j ∷ so sub b j ∷ so words k j ∷ none j ∷ so to t j ∷ i j ∷ so legal l j ∷ none j ∷ [];
  said = first_said direction ([] ∷ sub ∷ words ∷ [] ∷ to ∷ initial ∷ legal ∷ [] ∷ []) a;
}

receive_kept : (to : List ℕ) → IsPlain to → (n mask : ℕ) → n ≤ 30 → mask < 2 ^ 32 → IsKept (receive_row to n mask)
receive_kept to t n mask l fits =
    message_kept (codes "receive") (two_digits n) (set_text 1 mask) to [] (legal_cell mask) (plain_by (codes "receive") refl) (two_plain n (omega arith)) (set_plain 1 mask (omega arith) fits) t none (yes_no_plain (not (mask == 0)))

transmit_kept : (n : ℕ) (held : ℕ × List ℕ) → n ≤ 30 → IsHeld held → IsKept (transmit_row n held)
transmit_kept n held l is =
    message_kept (codes "transmit") (two_digits n) (set_text 1 held.0) (codes "own") (words_cell held.1) (legal_cell held.0) (plain_by (codes "transmit") refl) (two_plain n (omega arith)) (set_plain 1 held.0 (omega arith) is.0)
    (plain_by (codes "own") refl) (so (words_cell held.1) (block_cell held.1 is.1).plain) (yes_no_plain (not (held.0 == 0)))

codes_kept : (to : List ℕ) → IsPlain to → (mask : ℕ) → mask < 2 ^ 32 → IsKept (mode_codes_row to mask)
codes_kept to t mask fits = record {
  same = λ j. so (codes "mode") mode_plain j ∷ none j ∷ none j ∷ none j ∷ so (set_text 0 mask) (set_plain 0 mask (omega arith) fits) j ∷ so to t j ∷ none j ∷ so (legal_cell mask) (yes_no_plain (not (mask == 0))) j ∷ none j ∷ [];
  said = refl;
}

header_kept : IsKept header_cells
header_kept = record {
  same = λ j. so (codes "kind") (plain_by (codes "kind") refl) j ∷ so (codes "value") (plain_by (codes "value") refl) j ∷ so (codes "subaddress") (plain_by (codes "subaddress") refl) j
      ∷ so (codes "words") (plain_by (codes "words") refl) j ∷ so (codes "code") (plain_by (codes "code") refl) j ∷ so (codes "to") (plain_by (codes "to") refl) j
      ∷ so (codes "initial") (plain_by (codes "initial") refl) j ∷ so (codes "legal") (plain_by (codes "legal") refl) j ∷ so (codes "name") (plain_by (codes "name") refl) j ∷ [];
  said = refl;
}

-- ---- the table

module _ (v : Parts) (is : IsNormal v) where
  own : IsPlain (codes "own")
  own = plain_by (codes "own") refl

  broadcast : IsPlain (codes "broadcast")
  broadcast = plain_by (codes "broadcast") refl

  long : length (zip v.tables.own_transmit v.initial) ≡ 30
  long = length-zip v.tables.own_transmit v.initial (is.own_transmit.thirty ∙ sym is.words.thirty) ∙ is.own_transmit.thirty

  held : AllIn IsHeld (zip v.tables.own_transmit v.initial)
  held = zip_all IsMask32 IsBlock v.tables.own_transmit v.initial (all_masks v.tables.own_transmit is.own_transmit) (all_blocks v.initial is.words)

  messages : AllIn IsKept (all_messages v)
  messages =
      AllIn-append IsKept (from_number (receive_row (codes "own")) 1 v.tables.own_receive) (from_number transmit_row 1 (zip v.tables.own_transmit v.initial) ++ from_number (receive_row (codes "broadcast")) 1 v.tables.broadcast_receive)
      (from_number_in IsMask32 IsKept (receive_row (codes "own")) (λ n mask low l fits. receive_kept (codes "own") own n mask l fits) 1 v.tables.own_receive (omega arith) (omega (arith, is.own_receive.thirty)) (all_masks v.tables.own_receive is.own_receive))
      (AllIn-append IsKept (from_number transmit_row 1 (zip v.tables.own_transmit v.initial)) (from_number (receive_row (codes "broadcast")) 1 v.tables.broadcast_receive)
      (from_number_in IsHeld IsKept transmit_row (λ n held low l h. transmit_kept n held l h) 1 (zip v.tables.own_transmit v.initial) (omega arith) (omega (arith, long)) held)
      (from_number_in IsMask32 IsKept (receive_row (codes "broadcast")) (λ n mask low l fits. receive_kept (codes "broadcast") broadcast n mask l fits) 1 v.tables.broadcast_receive (omega arith) (omega (arith, is.broadcast_receive.thirty)) (all_masks v.tables.broadcast_receive is.broadcast_receive)))

  others : AllIn IsKept (all_messages v ++ all_codes v.tables)
  others =
      AllIn-append IsKept (all_messages v) (all_codes v.tables) messages
      (codes_kept (codes "own") own v.tables.own_mode (own_mode_fits v is), (codes_kept (codes "broadcast") broadcast v.tables.broadcast_mode (broadcast_mode_fits v is), tt))

  settings : AllIn IsKept (all_settings v)
  settings = (
    setting_kept (codes "address") (two_digits v.address) (plain_by (codes "address") refl) (two_plain v.address (omega (arith, is.address))),
    (
      setting_kept (codes "broadcast") (yes_no v.broadcast) (plain_by (codes "broadcast") refl) (yes_no_plain v.broadcast),
      (
        setting_kept (codes "wraparound") (wrap_cell v.wrap) (plain_by (codes "wraparound") refl) (wrap_plain v.wrap (omega (arith, is.wrap))),
        (
          setting_kept (codes "accept_bus_control") (yes_no v.accept) (plain_by (codes "accept_bus_control") refl) (yes_no_plain v.accept),
          (
            setting_kept (codes "vector") (word_cell v.vector) (plain_by (codes "vector") refl) (word_plain v.vector is.vector),
            (setting_kept (codes "bit") (word_cell v.bit) (plain_by (codes "bit") refl) (word_plain v.bit is.bit), tt),
          ),
        ),
      ),
    ),
  )

  pub full_kept : kept_rows (header_cells ∷ full_rows v) ≡ header_cells ∷ full_rows v
  full_kept = rows_kept (header_cells ∷ full_rows v) (header_kept, AllIn-append IsKept (all_settings v) (all_messages v ++ all_codes v.tables) settings others)
