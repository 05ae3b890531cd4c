-- The full table's text is ASCII.
use Rattle.std.proofs.Common.{ℕ, ◌^◌, ◌<◌, ◌≤◌, ◌==◌, Bool, true, false, not, cond, List, [], ◌∷◌, ◌++◌, codes, IsUtf8, refl, sym, ◌∙◌, arith}
use Rattle.std.proofs.lemmas.Str.{IsUtf8-from_ascii}
use Rattle.std.specs.List.{zip, list_any}
use Rattle.csv.specs.Writing.{default_writer, needs_byte, escaped, field_text, fields_text, is_blank}
use Rattle.bus_legal.specs.Parts.{Parts, IsNormal}
use Rattle.rt1553_toml.specs.Sets.{two_digits}
use Rattle.rt1553_toml.specs.inner.FullTree.{from_number}
use Rattle.rt1553_toml.proofs.TreeFaults.{AllIn, AllIn-append, IsMask32, all_masks, all_blocks, from_number_in, own_mode_fits, broadcast_mode_fits}
use Rattle.rt1553_export.specs.inner.Rows.{header_cells, setting_cells, row_bytes, rows_text}
use Rattle.rt1553_export.specs.inner.Full.{yes_no, receive_row, transmit_row, mode_codes_row, all_messages, all_codes, full_rows, full_text}
use Rattle.rt1553_export.proofs.Trimmed.{AllAscii, IsPlain, plain_by, ascii_all, ascii-append}
use Rattle.rt1553_export.proofs.CellValues.{two_plain, word_plain, wrap_plain, yes_no_plain, set_plain}
use Rattle.rt1553_export.proofs.FullEntries.{IsHeld, block_cell, zip_all}
use Rattle.rt1553_export.proofs.RowLaws.{length-zip}

escaped_ascii : (t : List ℕ) → AllAscii t → AllAscii (escaped default_writer t)
unfolding escaped
escaped_ascii [] h = tt
escaped_ascii (b ∷ bs) h = pick (b == 34) (escaped_ascii bs h.1)
  where
    pick : (q : Bool) → AllAscii (escaped default_writer bs) → AllAscii (cond q (34 ∷ b ∷ escaped default_writer bs) (b ∷ escaped default_writer bs))
    pick true more = (omega arith, (h.0, more))
    pick false more = (h.0, more)

field_ascii : (t : List ℕ) → AllAscii t → AllAscii (field_text default_writer t)
field_ascii t h = pick (list_any (needs_byte default_writer) t)
  where
    pick : (q : Bool) → AllAscii (cond q (34 ∷ (escaped default_writer t ++ 34 ∷ [])) t)
    pick true = (omega arith, ascii-append (escaped default_writer t) (34 ∷ []) (escaped_ascii t h) (omega arith, tt))
    pick false = h

fields_ascii : (fs : List (List ℕ)) → AllIn AllAscii fs → AllAscii (fields_text default_writer fs)
unfolding fields_text
fields_ascii [] h = tt
fields_ascii (f ∷ fs) h = (omega arith, ascii-append (field_text default_writer f) (fields_text default_writer fs) (field_ascii f h.0) (fields_ascii fs h.1))

row_ascii : (f : List ℕ) (fs : List (List ℕ)) → AllIn AllAscii (f ∷ fs) → AllAscii (row_bytes (f ∷ fs))
unfolding row_bytes
row_ascii f fs h =
    ascii-append (field_text default_writer f ++ fields_text default_writer fs) (cond (is_blank default_writer (f ∷ fs)) (34 ∷ 34 ∷ []) [] ++ 10 ∷ [])
    (ascii-append (field_text default_writer f) (fields_text default_writer fs) (field_ascii f h.0) (fields_ascii fs h.1))
    (pick (is_blank default_writer (f ∷ fs)))
  where
    pick : (b : Bool) → AllAscii (cond b (34 ∷ 34 ∷ []) [] ++ 10 ∷ [])
    pick true = (omega arith, (omega arith, (omega arith, tt)))
    pick false = (omega arith, tt)

-- a row of ASCII cells, of which there is one
abbrev IsAsciiRow : List (List ℕ) → Type 0
IsAsciiRow [] = ⊥
IsAsciiRow (f ∷ fs) = AllIn AllAscii (f ∷ fs)

rows_ascii : (rows : List (List (List ℕ))) → AllIn IsAsciiRow rows → AllAscii (rows_text rows)
rows_ascii [] h = tt
rows_ascii ([] ∷ rows) h = absurd h.0
rows_ascii ((f ∷ fs) ∷ rows) h = ascii-append (row_bytes (f ∷ fs)) (rows_text rows) (row_ascii f fs h.0) (rows_ascii rows h.1)

setting_ascii : (kind value : List ℕ) → IsPlain kind → IsPlain value → IsAsciiRow (setting_cells kind value)
setting_ascii kind value a b = (a.ascii, (b.ascii, (tt, (tt, (tt, (tt, (tt, (tt, (tt, tt)))))))))

receive_ascii : (to : List ℕ) → IsPlain to → (n mask : ℕ) → n ≤ 30 → mask < 2 ^ 32 → IsAsciiRow (receive_row to n mask)
receive_ascii to t n mask l fits =
    ((plain_by (codes "receive") refl).ascii, (tt, ((two_plain n (omega arith)).ascii, ((set_plain 1 mask (omega arith) fits).ascii, (tt, (t.ascii, (tt, ((yes_no_plain (not (mask == 0))).ascii, (tt, tt)))))))))

transmit_ascii : (n : ℕ) (held : ℕ × List ℕ) → n ≤ 30 → IsHeld held → IsAsciiRow (transmit_row n held)
transmit_ascii n held l h =
    ((plain_by (codes "transmit") refl).ascii, (tt, ((two_plain n (omega arith)).ascii, ((set_plain 1 held.0 (omega arith) h.0).ascii, (tt, ((plain_by (codes "own") refl).ascii, ((block_cell held.1 h.1).plain.ascii, ((yes_no_plain (not (held.0 == 0))).ascii, (tt, tt)))))))))

codes_ascii : (to : List ℕ) → IsPlain to → (mask : ℕ) → mask < 2 ^ 32 → IsAsciiRow (mode_codes_row to mask)
codes_ascii to t mask fits =
    ((plain_by (codes "mode") refl).ascii, (tt, (tt, (tt, ((set_plain 0 mask (omega arith) fits).ascii, (t.ascii, (tt, ((yes_no_plain (not (mask == 0))).ascii, (tt, tt)))))))))

header_ascii : IsAsciiRow header_cells
header_ascii = (
  (plain_by (codes "kind") refl).ascii,
  (
    (plain_by (codes "value") refl).ascii,
    (
      (plain_by (codes "subaddress") refl).ascii,
      (
        (plain_by (codes "words") refl).ascii,
        (
          (plain_by (codes "code") refl).ascii,
          ((plain_by (codes "to") refl).ascii, ((plain_by (codes "initial") refl).ascii, ((plain_by (codes "legal") refl).ascii, ((plain_by (codes "name") refl).ascii, tt)))),
        ),
      ),
    ),
  ),
)

all_ascii : (v : Parts) → IsNormal v → AllIn IsAsciiRow (header_cells ∷ full_rows v)
all_ascii v is = (
  header_ascii,
  (
    setting_ascii (codes "address") (two_digits v.address) (plain_by (codes "address") refl) (two_plain v.address (omega (arith, is.address))),
    (
      setting_ascii (codes "broadcast") (yes_no v.broadcast) (plain_by (codes "broadcast") refl) (yes_no_plain v.broadcast),
      (
        setting_ascii (codes "wraparound") _ (plain_by (codes "wraparound") refl) (wrap_plain v.wrap (omega (arith, is.wrap))),
        (
          setting_ascii (codes "accept_bus_control") (yes_no v.accept) (plain_by (codes "accept_bus_control") refl) (yes_no_plain v.accept),
          (
            setting_ascii (codes "vector") _ (plain_by (codes "vector") refl) (word_plain v.vector is.vector),
            (
              setting_ascii (codes "bit") _ (plain_by (codes "bit") refl) (word_plain v.bit is.bit),
              AllIn-append IsAsciiRow (all_messages v) (all_codes v.tables)
                  (AllIn-append IsAsciiRow (from_number (receive_row (codes "own")) 1 v.tables.own_receive) (from_number transmit_row 1 (zip v.tables.own_transmit v.initial) ++ from_number (receive_row (codes "broadcast")) 1 v.tables.broadcast_receive)
                  (from_number_in IsMask32 IsAsciiRow (receive_row (codes "own")) (λ n mask low l fits. receive_ascii (codes "own") (plain_by (codes "own") refl) n mask l fits) 1 v.tables.own_receive (omega arith) (omega (arith, is.own_receive.thirty)) (all_masks v.tables.own_receive is.own_receive))
                  (AllIn-append IsAsciiRow (from_number transmit_row 1 (zip v.tables.own_transmit v.initial)) (from_number (receive_row (codes "broadcast")) 1 v.tables.broadcast_receive)
                  (from_number_in IsHeld IsAsciiRow transmit_row (λ n held low l h. transmit_ascii n held l h) 1 (zip v.tables.own_transmit v.initial) (omega arith)
                  (omega (arith, length-zip v.tables.own_transmit v.initial (is.own_transmit.thirty ∙ sym is.words.thirty), is.own_transmit.thirty))
                  (zip_all IsMask32 _ v.tables.own_transmit v.initial (all_masks v.tables.own_transmit is.own_transmit) (all_blocks v.initial is.words)))
                  (from_number_in IsMask32 IsAsciiRow (receive_row (codes "broadcast")) (λ n mask low l fits. receive_ascii (codes "broadcast") (plain_by (codes "broadcast") refl) n mask l fits) 1 v.tables.broadcast_receive (omega arith) (omega (arith, is.broadcast_receive.thirty)) (all_masks v.tables.broadcast_receive is.broadcast_receive))))
                  (codes_ascii (codes "own") (plain_by (codes "own") refl) v.tables.own_mode (own_mode_fits v is), (codes_ascii (codes "broadcast") (plain_by (codes "broadcast") refl) v.tables.broadcast_mode (broadcast_mode_fits v is), tt)),
            ),
          ),
        ),
      ),
    ),
  ),
)

pub full_utf8 : (v : Parts) → IsNormal v → IsUtf8 (full_text v)
full_utf8 v is = IsUtf8-from_ascii (full_text v) (ascii_all (full_text v) (rows_ascii (header_cells ∷ full_rows v) (all_ascii v is)))
