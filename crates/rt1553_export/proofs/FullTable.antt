-- The tree of the full table is the full tree.
use Rattle.std.proofs.Common.{◌≡◌, ℕ, ◌^◌, ◌<◌, false, cond, pos, Option, Some, List, [], ◌∷◌, ◌++◌, map, filter, length, get_or, codes, refl, ap, sym, ◌∙◌, append-nil, arith}
use Rattle.std.specs.List.{find, zip}
use Rattle.std.specs.Str.{str_eq_ignore_ascii_case, trim}
use Rattle.toml.specs.Data.{Data, integer, boolean, array, Members, no_members}
use Rattle.toml.specs.View.{items_of}
use Rattle.bus_legal.specs.Parts.{Parts, IsBlock, IsNormal}
use Rattle.rt1553_import.specs.declared.column.TableColumn.{TableColumn}
use Rattle.rt1553_import.specs.declared.column.TableColumn.TheVariants as column
use Rattle.rt1553_import.specs.declared.kind.RowKind.{RowKind}
use Rattle.rt1553_import.specs.declared.kind.RowKind.TheVariants as kind
use Rattle.rt1553_import.specs.declared.sheet.Sheet.{Sheet}
use Rattle.rt1553_import.specs.declared.sheet.TableRow.{TableRow}
use Rattle.rt1553_import.specs.declared.tree.Entry.{Entry}
use Rattle.rt1553_import.specs.declared.tree.Entry.TheVariants as entry
use Rattle.rt1553_import.specs.Columns.{cell}
use Rattle.rt1553_import.specs.Kinds.{kind_name}
use Rattle.rt1553_import.specs.Reading.{row_fields}
use Rattle.rt1553_import.specs.Tree.{member_put, with_text, has_none, with_entries, is_kind, is_entry, entry_data, entries_of, value_in, setting_text, with_settings, with_arrays, table_tree}
use Rattle.rt1553_toml.specs.Sets.{two_digits}
use Rattle.rt1553_toml.specs.inner.FullTree.{from_number, rule_data, initial_data, rules_by, modes_by, initials_by, wraparound_data, full_tree}
use Rattle.rt1553_toml.proofs.TreeFaults.{AllIn, IsMask32, all_masks, all_blocks, own_mode_fits, broadcast_mode_fits, rules_few, length-from_number}
use Rattle.rt1553_export.specs.inner.Rows.{header_cells, setting_cells}
use Rattle.rt1553_export.specs.inner.Full.{yes_no, word_cell, wrap_cell, receive_row, transmit_row, mode_codes_row, all_settings, all_messages, all_codes, full_rows}
use Rattle.rt1553_export.proofs.Trimmed.{IsPlain, plain_by, trim_plain, trim_nothing}
use Rattle.rt1553_export.proofs.CellValues.{two_plain, yes_no_plain, wrap_says, wrap_plain, word_says, word_plain}
use Rattle.rt1553_export.proofs.RowLaws.{length-zip}
use Rattle.rt1553_export.proofs.FullSheet.{row_of, row_made, Says, column_place, text_put, cell_is, kind_is, is_entry_by}
use Rattle.rt1553_export.proofs.FullEntries.{plain_says, two_cell, truth_cell, own_cell, broadcast_cell, become, IsHeld, become_left, become_kept, become-append, numbered_become, numbered_left, receive_entry, receive_rule, transmit_entry, transmit_rule, transmit_initial, codes_entry, codes_mode, setting_entry, zip_all, zip_first, zip_second}

-- a word as a cell of a setting
value_cell : (w : ℕ) → w < 2 ^ 16 → Says (word_cell w) (integer (pos w))
value_cell w l = plain_says (word_cell w) (integer (pos w)) (word_plain w l) (word_says w l)

pub wraparound_cell : (w : ℕ) → w < 100 → Says (wrap_cell w) (wraparound_data w)
wraparound_cell w l = plain_says (wrap_cell w) (wraparound_data w) (wrap_plain w l) (wrap_says w l)

some_entries : (ds : List Data) → 0 < length ds → has_none ds ≡ false
some_entries [] l = absurd (omega arith)
some_entries (d ∷ ds) l = refl

entries_put : (key : List ℕ) (ds : List Data) (ms : Members) → 0 < length ds → with_entries key ds ms ≡ member_put key (array (items_of ds)) ms
entries_put key ds ms l = ap (λ b. cond b ms (member_put key (array (items_of ds)) ms)) (some_entries ds l)

-- a kind of setting is none of a message or of mode codes
abbrev IsNoEntry : List ℕ → Type 0
IsNoEntry kind = (e : Entry) → is_entry_by e kind [] ≡ false

address_none : IsNoEntry (codes "address")
address_none entry.Rule = refl
address_none entry.Mode = refl
address_none entry.Initial = refl

broadcast_none : IsNoEntry (codes "broadcast")
broadcast_none entry.Rule = refl
broadcast_none entry.Mode = refl
broadcast_none entry.Initial = refl

wraparound_none : IsNoEntry (codes "wraparound")
wraparound_none entry.Rule = refl
wraparound_none entry.Mode = refl
wraparound_none entry.Initial = refl

accept_none : IsNoEntry (codes "accept_bus_control")
accept_none entry.Rule = refl
accept_none entry.Mode = refl
accept_none entry.Initial = refl

vector_none : IsNoEntry (codes "vector")
vector_none entry.Rule = refl
vector_none entry.Mode = refl
vector_none entry.Initial = refl

bit_none : IsNoEntry (codes "bit")
bit_none entry.Rule = refl
bit_none entry.Mode = refl
bit_none entry.Initial = refl

module _ (s : Sheet) (header : row_fields s.header ≡ header_cells) (v : Parts) (is : IsNormal v) where
  -- ---- the rows of each kind of entry

  pub address_low : v.address < 100
  address_low = omega (arith, is.address)

  pub wrap_low : v.wrap < 100
  wrap_low = omega (arith, is.wrap)

  abbrev pub as_row : List ℕ × List ℕ → List (List ℕ)
  as_row setting = setting_cells setting.0 setting.1

  all_left : (e : Entry) (settings : List (List ℕ × List ℕ)) → AllIn (λ setting. IsPlain setting.0 × IsPlain setting.1 × IsNoEntry setting.0) settings → become s header e (map as_row settings) ≡ []
  all_left e [] h = refl
  all_left e (x ∷ xs) h = become_left s header e (as_row x) (map as_row xs) [] (setting_entry s header x.0 x.1 (trim_plain x.0 h.0.0) (trim_plain x.1 h.0.1) e ∙ h.0.2 e) (all_left e xs h.1)

  settings_left : (e : Entry) → become s header e (all_settings v) ≡ []
  settings_left e =
      all_left e ((codes "address", two_digits v.address) ∷ (codes "broadcast", yes_no v.broadcast) ∷ (codes "wraparound", wrap_cell v.wrap) ∷ (codes "accept_bus_control", yes_no v.accept)
      ∷ (codes "vector", word_cell v.vector) ∷ (codes "bit", word_cell v.bit) ∷ []) (
        (plain_by (codes "address") refl, two_plain v.address address_low, address_none),
        (
          (plain_by (codes "broadcast") refl, yes_no_plain v.broadcast, broadcast_none),
          (
            (plain_by (codes "wraparound") refl, wrap_plain v.wrap wrap_low, wraparound_none),
            (
              (plain_by (codes "accept_bus_control") refl, yes_no_plain v.accept, accept_none),
              (
                (plain_by (codes "vector") refl, word_plain v.vector is.vector, vector_none),
                ((plain_by (codes "bit") refl, word_plain v.bit is.bit, bit_none), tt),
              ),
            ),
          ),
        ),
      )

  -- ---- messages of data

  abbrev receives : List (List (List ℕ))
  receives = from_number (receive_row (codes "own")) 1 v.tables.own_receive

  abbrev transmits : List (List (List ℕ))
  transmits = from_number transmit_row 1 (zip v.tables.own_transmit v.initial)

  abbrev broadcasts : List (List (List ℕ))
  broadcasts = from_number (receive_row (codes "broadcast")) 1 v.tables.broadcast_receive

  pub same_long : length v.tables.own_transmit ≡ length v.initial
  same_long = is.own_transmit.thirty ∙ sym is.words.thirty

  pub zip_long : length (zip v.tables.own_transmit v.initial) ≡ 30
  zip_long = length-zip v.tables.own_transmit v.initial same_long ∙ is.own_transmit.thirty

  pub all_held : AllIn IsHeld (zip v.tables.own_transmit v.initial)
  all_held = zip_all IsMask32 IsBlock v.tables.own_transmit v.initial (all_masks v.tables.own_transmit is.own_transmit) (all_blocks v.initial is.words)

  receives_are : become s header entry.Rule receives ≡ from_number (rule_data (codes "own") (codes "receive")) 1 v.tables.own_receive
  receives_are =
      numbered_become s header entry.Rule IsMask32 (receive_row (codes "own")) (rule_data (codes "own") (codes "receive")) (λ n mask l fits. receive_rule s header (codes "own") own_cell n mask l fits)
      1 v.tables.own_receive (omega (arith, is.own_receive.thirty)) (all_masks v.tables.own_receive is.own_receive)

  broadcasts_are : become s header entry.Rule broadcasts ≡ from_number (rule_data (codes "broadcast") (codes "receive")) 1 v.tables.broadcast_receive
  broadcasts_are =
      numbered_become s header entry.Rule IsMask32 (receive_row (codes "broadcast")) (rule_data (codes "broadcast") (codes "receive")) (λ n mask l fits. receive_rule s header (codes "broadcast") broadcast_cell n mask l fits)
      1 v.tables.broadcast_receive (omega (arith, is.broadcast_receive.thirty)) (all_masks v.tables.broadcast_receive is.broadcast_receive)

  transmits_are : become s header entry.Rule transmits ≡ from_number (rule_data (codes "own") (codes "transmit")) 1 v.tables.own_transmit
  transmits_are =
      numbered_become s header entry.Rule IsHeld transmit_row (λ n held. rule_data (codes "own") (codes "transmit") n held.0) (λ n held l h. transmit_rule s header n held l h)
      1 (zip v.tables.own_transmit v.initial) (omega (arith, zip_long)) all_held
      ∙ zip_first (rule_data (codes "own") (codes "transmit")) 1 v.tables.own_transmit v.initial same_long

  initials_are : become s header entry.Initial transmits ≡ initials_by v.initial
  initials_are =
      numbered_become s header entry.Initial IsHeld transmit_row (λ n held. initial_data n held.1) (λ n held l h. transmit_initial s header n held l h)
      1 (zip v.tables.own_transmit v.initial) (omega (arith, zip_long)) all_held
      ∙ zip_second initial_data 1 v.tables.own_transmit v.initial same_long

  -- no receive command has initial words, and no message is of mode codes
  receives_left : (e : Entry) → is_entry_by e (codes "receive") [] ≡ false → become s header e receives ≡ []
  receives_left e no' =
      numbered_left s header e IsMask32 (receive_row (codes "own")) (λ n mask l fits. receive_entry s header (codes "own") own_cell n mask l fits e ∙ no')
      1 v.tables.own_receive (omega (arith, is.own_receive.thirty)) (all_masks v.tables.own_receive is.own_receive)

  broadcasts_left : (e : Entry) → is_entry_by e (codes "receive") [] ≡ false → become s header e broadcasts ≡ []
  broadcasts_left e no' =
      numbered_left s header e IsMask32 (receive_row (codes "broadcast")) (λ n mask l fits. receive_entry s header (codes "broadcast") broadcast_cell n mask l fits e ∙ no')
      1 v.tables.broadcast_receive (omega (arith, is.broadcast_receive.thirty)) (all_masks v.tables.broadcast_receive is.broadcast_receive)

  transmits_left : become s header entry.Mode transmits ≡ []
  transmits_left =
      numbered_left s header entry.Mode IsHeld transmit_row (λ n held l h. transmit_entry s header n held l h entry.Mode)
      1 (zip v.tables.own_transmit v.initial) (omega (arith, zip_long)) all_held

  codes_left : (e : Entry) → is_entry_by e (codes "mode") [] ≡ false → become s header e (all_codes v.tables) ≡ []
  codes_left e no' =
      become_left s header e (mode_codes_row (codes "own") v.tables.own_mode) (mode_codes_row (codes "broadcast") v.tables.broadcast_mode ∷ []) [] (codes_entry s header (codes "own") own_cell v.tables.own_mode (own_mode_fits v is) e ∙ no')
      (become_left s header e (mode_codes_row (codes "broadcast") v.tables.broadcast_mode) [] [] (codes_entry s header (codes "broadcast") broadcast_cell v.tables.broadcast_mode (broadcast_mode_fits v is) e ∙ no') refl)

  codes_are : become s header entry.Mode (all_codes v.tables) ≡ modes_by v.tables
  codes_are =
      let own = codes_mode s header (codes "own") own_cell v.tables.own_mode (own_mode_fits v is) in
      let broadcast = codes_mode s header (codes "broadcast") broadcast_cell v.tables.broadcast_mode (broadcast_mode_fits v is) in
      become_kept s header entry.Mode (mode_codes_row (codes "own") v.tables.own_mode) (mode_codes_row (codes "broadcast") v.tables.broadcast_mode ∷ []) _ _ own.is own.data_is
      (become_kept s header entry.Mode (mode_codes_row (codes "broadcast") v.tables.broadcast_mode) [] _ _ broadcast.is broadcast.data_is refl)

  -- ---- all rows

  parts_become : (e : Entry) (a b d k : List Data) → become s header e receives ≡ a → become s header e transmits ≡ b → become s header e broadcasts ≡ d → become s header e (all_codes v.tables) ≡ k
      → become s header e (full_rows v) ≡ (a ++ (b ++ d)) ++ k
  parts_become e a b d k p q r t =
      become-append s header e (all_settings v) (all_messages v ++ all_codes v.tables)
      ∙ (λ j. settings_left e j ++ become-append s header e (all_messages v) (all_codes v.tables) j)
      ∙ (λ j. (become-append s header e receives (transmits ++ broadcasts) ∙ (λ i. p i ++ (become-append s header e transmits broadcasts ∙ (λ i. q i ++ r i)) i)) j ++ t j)

  all_rules : become s header entry.Rule (full_rows v) ≡ rules_by v.tables
  all_rules = parts_become entry.Rule _ _ _ [] receives_are transmits_are broadcasts_are (codes_left entry.Rule refl) ∙ append-nil (rules_by v.tables)

  all_modes : become s header entry.Mode (full_rows v) ≡ modes_by v.tables
  all_modes = parts_become entry.Mode [] [] [] _ (receives_left entry.Mode refl) transmits_left (broadcasts_left entry.Mode refl) codes_are

  all_initials : become s header entry.Initial (full_rows v) ≡ initials_by v.initial
  all_initials = parts_become entry.Initial [] _ [] [] (receives_left entry.Initial refl) initials_are (broadcasts_left entry.Initial refl) (codes_left entry.Initial refl) ∙ append-nil (initials_by v.initial ++ []) ∙ append-nil (initials_by v.initial)

  -- ---- the settings

  abbrev rest_rows : List TableRow
  rest_rows = map row_of (all_messages v ++ all_codes v.tables)

  pub setting_at : (kind value : List ℕ) (c : TableColumn) → IsPlain kind → trim value ≡ value → cell s (row_of (setting_cells kind value)) c ≡ get_or (setting_cells kind value) (column_place c) []
  setting_at kind value c a b =
      cell_is s header (row_of (setting_cells kind value)) (setting_cells kind value) (row_made (setting_cells kind value)) (trim_plain kind a, (b, (trim_nothing, (trim_nothing, (trim_nothing, (trim_nothing, (trim_nothing, (trim_nothing, (trim_nothing, tt))))))))) c

  pub setting_kind : (kind value : List ℕ) (k : RowKind) → IsPlain kind → trim value ≡ value → is_kind s k (row_of (setting_cells kind value)) ≡ str_eq_ignore_ascii_case kind (kind_name k)
  setting_kind kind value k a b = kind_is s header (row_of (setting_cells kind value)) kind (setting_at kind value column.Kind a b) k

  -- the setting of a kind, by the texts of the kinds
  abbrev by_kind : RowKind → Option TableRow
  by_kind k =
      cond (str_eq_ignore_ascii_case (codes "address") (kind_name k)) (Some (row_of (setting_cells (codes "address") (two_digits v.address))))
      (cond (str_eq_ignore_ascii_case (codes "broadcast") (kind_name k)) (Some (row_of (setting_cells (codes "broadcast") (yes_no v.broadcast))))
      (cond (str_eq_ignore_ascii_case (codes "wraparound") (kind_name k)) (Some (row_of (setting_cells (codes "wraparound") (wrap_cell v.wrap))))
      (cond (str_eq_ignore_ascii_case (codes "accept_bus_control") (kind_name k)) (Some (row_of (setting_cells (codes "accept_bus_control") (yes_no v.accept))))
      (cond (str_eq_ignore_ascii_case (codes "vector") (kind_name k)) (Some (row_of (setting_cells (codes "vector") (word_cell v.vector))))
      (cond (str_eq_ignore_ascii_case (codes "bit") (kind_name k)) (Some (row_of (setting_cells (codes "bit") (word_cell v.bit))))
      (find (is_kind s k) rest_rows))))))

  pub address_says : Says (two_digits v.address) (integer (pos v.address))
  address_says = two_cell v.address address_low

  pub wrap_is : Says (wrap_cell v.wrap) (wraparound_data v.wrap)
  wrap_is = wraparound_cell v.wrap wrap_low

  pub vector_says : Says (word_cell v.vector) (integer (pos v.vector))
  vector_says = value_cell v.vector is.vector

  pub bit_says : Says (word_cell v.bit) (integer (pos v.bit))
  bit_says = value_cell v.bit is.bit

  found_by_kind : (k : RowKind) → find (is_kind s k) (map row_of (full_rows v)) ≡ by_kind k
  found_by_kind k =
      λ j. cond (setting_kind (codes "address") (two_digits v.address) k (plain_by (codes "address") refl) address_says.trimmed j) (Some (row_of (setting_cells (codes "address") (two_digits v.address))))
      (cond (setting_kind (codes "broadcast") (yes_no v.broadcast) k (plain_by (codes "broadcast") refl) (truth_cell v.broadcast).trimmed j) (Some (row_of (setting_cells (codes "broadcast") (yes_no v.broadcast))))
      (cond (setting_kind (codes "wraparound") (wrap_cell v.wrap) k (plain_by (codes "wraparound") refl) wrap_is.trimmed j) (Some (row_of (setting_cells (codes "wraparound") (wrap_cell v.wrap))))
      (cond (setting_kind (codes "accept_bus_control") (yes_no v.accept) k (plain_by (codes "accept_bus_control") refl) (truth_cell v.accept).trimmed j) (Some (row_of (setting_cells (codes "accept_bus_control") (yes_no v.accept))))
      (cond (setting_kind (codes "vector") (word_cell v.vector) k (plain_by (codes "vector") refl) vector_says.trimmed j) (Some (row_of (setting_cells (codes "vector") (word_cell v.vector))))
      (cond (setting_kind (codes "bit") (word_cell v.bit) k (plain_by (codes "bit") refl) bit_says.trimmed j) (Some (row_of (setting_cells (codes "bit") (word_cell v.bit))))
      (find (is_kind s k) rest_rows))))))

  -- ---- the tree

  module _ (rows : s.rows.items ≡ map row_of (full_rows v)) where
    found_text : (k : RowKind) → setting_text s k ≡ value_in s (by_kind k)
    found_text k = ap (λ rs. value_in s (find (is_kind s k) rs)) rows ∙ ap (value_in s) (found_by_kind k)

    entries_are : (e : Entry) → entries_of s e ≡ become s header e (full_rows v)
    entries_are e = ap (λ rs. map (entry_data s e) (filter (is_entry s e) rs)) rows

    address_text : setting_text s kind.Address ≡ two_digits v.address
    address_text = found_text kind.Address ∙ setting_at (codes "address") (two_digits v.address) column.Value (plain_by (codes "address") refl) address_says.trimmed

    broadcast_text : setting_text s kind.Broadcast ≡ yes_no v.broadcast
    broadcast_text = found_text kind.Broadcast ∙ setting_at (codes "broadcast") (yes_no v.broadcast) column.Value (plain_by (codes "broadcast") refl) (truth_cell v.broadcast).trimmed

    wraparound_text : setting_text s kind.Wraparound ≡ wrap_cell v.wrap
    wraparound_text = found_text kind.Wraparound ∙ setting_at (codes "wraparound") (wrap_cell v.wrap) column.Value (plain_by (codes "wraparound") refl) wrap_is.trimmed

    accept_text : setting_text s kind.AcceptBusControl ≡ yes_no v.accept
    accept_text = found_text kind.AcceptBusControl ∙ setting_at (codes "accept_bus_control") (yes_no v.accept) column.Value (plain_by (codes "accept_bus_control") refl) (truth_cell v.accept).trimmed

    vector_text : setting_text s kind.Vector ≡ word_cell v.vector
    vector_text = found_text kind.Vector ∙ setting_at (codes "vector") (word_cell v.vector) column.Value (plain_by (codes "vector") refl) vector_says.trimmed

    bit_text : setting_text s kind.Bit ≡ word_cell v.bit
    bit_text = found_text kind.Bit ∙ setting_at (codes "bit") (word_cell v.bit) column.Value (plain_by (codes "bit") refl) bit_says.trimmed

    settings_made : Members
    settings_made =
        member_put (codes "bit") (integer (pos v.bit)) (member_put (codes "vector") (integer (pos v.vector)) (member_put (codes "accept_bus_control") (boolean v.accept)
        (member_put (codes "wraparound") (wraparound_data v.wrap) (member_put (codes "broadcast") (boolean v.broadcast) (member_put (codes "address") (integer (pos v.address)) no_members)))))

    settings_are : with_settings s no_members ≡ settings_made
    unfolding settings_made
    settings_are =
        (λ j. with_text (codes "bit") (bit_text j) (with_text (codes "vector") (vector_text j) (with_text (codes "accept_bus_control") (accept_text j)
        (with_text (codes "wraparound") (wraparound_text j) (with_text (codes "broadcast") (broadcast_text j) (with_text (codes "address") (address_text j) no_members))))))
        ∙ (λ j. text_put (codes "bit") (word_cell v.bit) (integer (pos v.bit)) (text_put (codes "vector") (word_cell v.vector) (integer (pos v.vector)) (text_put (codes "accept_bus_control") (yes_no v.accept) (boolean v.accept)
        (text_put (codes "wraparound") (wrap_cell v.wrap) (wraparound_data v.wrap) (text_put (codes "broadcast") (yes_no v.broadcast) (boolean v.broadcast) (text_put (codes "address") (two_digits v.address) (integer (pos v.address)) no_members address_says j)
        (truth_cell v.broadcast) j) wrap_is j) (truth_cell v.accept) j) vector_says j) bit_says j)

    arrays_are : (ms : Members) → with_arrays s ms ≡ member_put (codes "initial") (array (items_of (initials_by v.initial))) (member_put (codes "mode") (array (items_of (modes_by v.tables))) (member_put (codes "rule") (array (items_of (rules_by v.tables))) ms))
    arrays_are ms =
        (λ j. with_entries (codes "initial") ((entries_are entry.Initial ∙ all_initials) j) (with_entries (codes "mode") ((entries_are entry.Mode ∙ all_modes) j) (with_entries (codes "rule") ((entries_are entry.Rule ∙ all_rules) j) ms)))
        ∙ (λ j. entries_put (codes "initial") (initials_by v.initial) (entries_put (codes "mode") (modes_by v.tables) (entries_put (codes "rule") (rules_by v.tables) ms (omega (arith, rules_few v is)) j) (omega arith) j)
        (omega (arith, length-from_number initial_data 1 v.initial, is.words.thirty)) j)

    pub full_table_tree : table_tree s ≡ full_tree v
    unfolding table_tree settings_made
    full_table_tree = arrays_are (with_settings s no_members) ∙ ap (λ ms. member_put (codes "initial") (array (items_of (initials_by v.initial))) (member_put (codes "mode") (array (items_of (modes_by v.tables))) (member_put (codes "rule") (array (items_of (rules_by v.tables))) ms))) settings_are
