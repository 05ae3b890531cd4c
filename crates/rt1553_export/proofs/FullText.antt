-- The full table's text is read as its rows.
use Rattle.std.proofs.Common.{◌≡◌, ℕ, suc, Vec, Global, List, [], ◌∷◌, ◌++◌, map, length, None, codes, refl, ap, sym, subst, ◌∙◌, length-append, arith}
use Rattle.std.specs.List.{zip}
use Rattle.csv.specs.Machine.{next_record}
use Rattle.csv.specs.Reading.{Reached, AreRecords, default_config, strip_bom}
use Rattle.csv.specs.Writing.{fields_text, is_blank, read_back}
use Rattle.csv.specs.declared.parser.State.TheVariants.{StartRecord}
use Rattle.csv.proofs.RoundTrip.{read-write}
use Rattle.bus_profile.specs.Gives.{profile_of}
use Rattle.bus_legal.specs.Parts.{Parts, IsNormal}
use Rattle.rt1553_import.specs.declared.sheet.Sheet.{Sheet}
use Rattle.csv_rows.specs.Csv.{IsCsv}
use Rattle.csv_rows.specs.Rows.{AreRowsBy, AreRows}
use Rattle.csv_rows.proofs.WrittenLaws.{no_rows, written_row}
use Rattle.csv_rows.specs.Delimiter.{delimiter_of}
use Rattle.rt1553_import.specs.Reading.{row_fields, IsSheetOf}
use Rattle.rt1553_toml.specs.inner.FullTree.{from_number}
use Rattle.rt1553_toml.proofs.TreeFaults.{AllIn, AllIn-append, length-map, length-from_number}
use Rattle.rt1553_toml.proofs.TreeMeaning.{full_tree_gives}
use Rattle.rt1553_export.specs.Table.{IsTableOf}
use Rattle.rt1553_export.specs.inner.Rows.{header_cells, row_bytes, rows_text}
use Rattle.rt1553_export.specs.inner.Full.{receive_row, transmit_row, all_messages, all_codes, full_rows, full_text}
use Rattle.rt1553_export.proofs.RowLaws.{length-zip}
use Rattle.rt1553_export.proofs.FullSheet.{row_of, row_made}
use Rattle.rt1553_export.proofs.FullTable.{full_table_tree}
use Rattle.rt1553_export.proofs.FullFaults.{full_table_faultless}
use Rattle.rt1553_export.proofs.FullKept.{full_kept}

-- ---- rows that were written are read

abbrev IsReadBack : List (List ℕ) → Type 0
IsReadBack row = read_back row ≡ row

rows_read : (rows : List (List (List ℕ))) → AllIn IsReadBack rows → Reached default_config StartRecord (rows_text rows) rows StartRecord []
unfolding Reached row_bytes
rows_read [] h = (refl, refl)
rows_read (r ∷ rs) h = ((read_back r, StartRecord, rows_text rs), read-write r (rows_text rs), sym h.0, rows_read rs h.1)

numbered_read : {A : Type 0} (f : ℕ → A → List (List ℕ)) → ((n : ℕ) (x : A) → IsReadBack (f n x)) → (n : ℕ) (xs : List A) → AllIn IsReadBack (from_number f n xs)
numbered_read f h n [] = tt
numbered_read f h n (x ∷ xs) = (h n x, numbered_read f h (suc n) xs)

all_read : (v : Parts) → AllIn IsReadBack (header_cells ∷ full_rows v)
all_read v = (
  refl,
  (
    refl,
    (
      refl,
      (
        refl,
        (
          refl,
          (
            refl,
            (
              refl,
              AllIn-append IsReadBack (all_messages v) (all_codes v.tables)
                  (AllIn-append IsReadBack (from_number (receive_row (codes "own")) 1 v.tables.own_receive) (from_number transmit_row 1 (zip v.tables.own_transmit v.initial) ++ from_number (receive_row (codes "broadcast")) 1 v.tables.broadcast_receive)
                  (numbered_read (receive_row (codes "own")) (λ n mask. refl) 1 v.tables.own_receive)
                  (AllIn-append IsReadBack (from_number transmit_row 1 (zip v.tables.own_transmit v.initial)) (from_number (receive_row (codes "broadcast")) 1 v.tables.broadcast_receive)
                  (numbered_read transmit_row (λ n held. refl) 1 (zip v.tables.own_transmit v.initial))
                  (numbered_read (receive_row (codes "broadcast")) (λ n mask. refl) 1 v.tables.broadcast_receive)))
                  (refl, (refl, tt)),
            ),
          ),
        ),
      ),
    ),
  ),
)

-- ---- the header

header_line : row_bytes header_cells ≡ codes "kind,value,subaddress,words,code,to,initial,legal,name\n"
unfolding row_bytes fields_text is_blank
header_line = refl

commas : (v : Parts) → delimiter_of (full_text v) ≡ 44
commas v = ap (λ line. delimiter_of (line ++ rows_text (full_rows v))) header_line

no_mark : (v : Parts) → strip_bom (full_text v) ≡ full_text v
unfolding strip_bom
no_mark v =
    ap (λ line. strip_bom (line ++ rows_text (full_rows v))) header_line ∙ ap (λ line. line ++ rows_text (full_rows v)) (sym header_line)

ends : next_record default_config StartRecord [] [] [] ≡ None
unfolding next_record
ends = refl

rows_csv : (rows : List (List (List ℕ))) → IsCsv 44 (rows_text rows)
unfolding row_bytes
rows_csv [] = no_rows
rows_csv (row ∷ rows) = written_row row (rows_text rows) (rows_csv rows)

rows_are : (v : Parts) → IsNormal v → AreRows (full_text v) (header_cells ∷ full_rows v)
rows_are v is =
    let rows = header_cells ∷ full_rows v in
    let plain : AreRecords default_config StartRecord (full_text v) rows = (StartRecord, [], rows_read rows (all_read v), ends) in
    subst (λ d. AreRowsBy d (full_text v) rows) (sym (commas v)) (record {
      csv = subst (IsCsv 44) (sym (no_mark v)) (rows_csv rows);
      are = record { records = rows; read = subst (λ t. AreRecords default_config StartRecord t rows) (sym (no_mark v)) plain; kept = sym (full_kept v is) };
    })

-- ---- a sheet with these rows

rows_long : (v : Parts) → IsNormal v → length (map row_of (full_rows v)) ≡ 98
rows_long v is =
    let a = from_number (receive_row (codes "own")) 1 v.tables.own_receive in
    let b = from_number transmit_row 1 (zip v.tables.own_transmit v.initial) in
    let d = from_number (receive_row (codes "broadcast")) 1 v.tables.broadcast_receive in
    length-map row_of (full_rows v)
    ∙ omega (
      arith,
      length-append (all_messages v) (all_codes v.tables),
      length-append a (b ++ d),
      length-append b d,
      length-from_number (receive_row (codes "own")) 1 v.tables.own_receive,
      length-from_number transmit_row 1 (zip v.tables.own_transmit v.initial),
      length-from_number (receive_row (codes "broadcast")) 1 v.tables.broadcast_receive,
      is.own_receive.thirty,
      length-zip v.tables.own_transmit v.initial (is.own_transmit.thirty ∙ sym is.words.thirty),
      is.own_transmit.thirty,
      is.broadcast_receive.thirty,
    )

rows_made : (fs : List (List (List ℕ))) → map row_fields (map row_of fs) ≡ fs
rows_made [] = refl
rows_made (f ∷ fs) = λ j. row_made f j ∷ rows_made fs j

-- the sheet, in a block of memory of its own
sheet_of : Vec ℕ Global → (v : Parts) → IsNormal v → Sheet
sheet_of block v is = record {
  header = row_of header_cells;
  rows = record {
    ptr = block.ptr;
    len = length (map row_of (full_rows v));
    cap = length (map row_of (full_rows v));
    alloc = block.alloc;
    items = map row_of (full_rows v);
    ok = (refl, omega arith);
    small = omega (arith, rows_long v is);
  };
}

sheet_read : (block : Vec ℕ Global) (v : Parts) (is : IsNormal v) → IsSheetOf (full_text v) (sheet_of block v is)
unfolding sheet_of
sheet_read block v is = record { records = header_cells ∷ full_rows v; read = rows_are v is; has = (row_made header_cells, rows_made (full_rows v)) }

-- the text is a table of the terminal
pub full_is_table : (block : Vec ℕ Global) (v : Parts) → IsNormal v → IsTableOf (full_text v) v
unfolding sheet_of
full_is_table block v is =
    let given = full_tree_gives v is in
    let s : Sheet = sheet_of block v is in
    record {
      sheet = s;
      is = record { read = sheet_read block v is; faultless = full_table_faultless s (row_made header_cells) v is refl };
      profile = given.profile;
      says = given.gives ∙ ap profile_of (sym (full_table_tree s (row_made header_cells) v is refl));
      reached = given.reached;
    }
