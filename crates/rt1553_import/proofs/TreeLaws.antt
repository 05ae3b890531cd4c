-- The tree of a table is not deep, and has no dates.
use Rattle.std.proofs.Common.{◌≡◌, ℕ, ◌≤◌, Bool, true, false, cond, ◌&&◌, Option, Some, None, List, [], ◌∷◌, map, Ordering, Less, Equal, Greater, refl, arith}
use Rattle.std.specs.Ordering.{nat_cmp, match_ordering}
use Rattle.std.specs.Cmp.Lexicographic.{slice_cmp}
use Rattle.std.specs.Str.{str_to_ascii_lowercase}
use Rattle.toml.specs.Data.{Data, array, table, Members, no_members, member, depth, items_depth, members_depth, has_valid_dates, items_have_valid_dates, members_have_valid_dates}
use Rattle.toml.specs.View.{items_of}
use Rattle.rt1553_import.specs.declared.column.TableColumn.TheVariants as column
use Rattle.rt1553_import.specs.declared.kind.RowKind.{RowKind}
use Rattle.rt1553_import.specs.declared.kind.RowKind.TheVariants as kind
use Rattle.rt1553_import.specs.declared.sheet.Sheet.{Sheet}
use Rattle.rt1553_import.specs.declared.sheet.TableRow.{TableRow}
use Rattle.rt1553_import.specs.declared.tree.Entry.{Entry}
use Rattle.rt1553_import.specs.declared.tree.Entry.TheVariants as entry
use Rattle.rt1553_import.specs.Columns.{cell}
use Rattle.rt1553_import.specs.Kinds.{kind_name}
use Rattle.rt1553_import.specs.Cells.{has_no_text, cell_number, cell_truth, cell_words, value_or, value_from, cell_value}
use Rattle.rt1553_import.specs.Tree.{member_put, with_text, has_none, with_entries, word_value, each_word, rule_entry_data, mode_entry_data, initial_entry_data, entry_data, entry_rows, entries_of, setting_text, with_setting, table_tree}

-- a value that is so deep at most, and has no date that can't be written
pub record IsLow (n : ℕ) (d : Data) : Type 0 where
  pub low : depth d ≤ n
  pub dates : has_valid_dates d ≡ true

pub record AreLow (n : ℕ) (ms : Members) : Type 0 where
  pub low : members_depth ms ≤ n
  pub dates : members_have_valid_dates ms ≡ true

none_low : (n : ℕ) → AreLow n no_members
none_low n = record { low = omega arith; dates = refl }

member_low : (n : ℕ) (k : List ℕ) (d : Data) (ms : Members) → IsLow n d → AreLow n ms → AreLow n (member k d ms)
member_low n k d ms a b = record { low = omega (arith, a.low, b.low); dates = λ j. a.dates j && b.dates j }

first_low : (n : ℕ) (k : List ℕ) (d : Data) (ms : Members) → AreLow n (member k d ms) → members_have_valid_dates ms ≡ true → has_valid_dates d ≡ true → IsLow n d × AreLow n ms
first_low n k d ms a more here = (record { low = omega (arith, a.low); dates = here }, record { low = omega (arith, a.low); dates = more })

by_order : (n : ℕ) (o : Ordering) (a b c : Members) → AreLow n a → AreLow n b → AreLow n c → AreLow n (match_ordering o a b c)
by_order n Less a b c x y z = x
by_order n Equal a b c x y z = y
by_order n Greater a b c x y z = z

both : (a b : Bool) → (a && b) ≡ true → (a ≡ true) × (b ≡ true)
both true b e = (refl, e)
both false b e = cc e

put_low : (n : ℕ) (k : List ℕ) (d : Data) (ms : Members) → IsLow n d → AreLow n ms → AreLow n (member_put k d ms)
put_low n k d no_members a b = member_low n k d no_members a b
put_low n k d (member l e ms) a b =
    let (here, more) = both (has_valid_dates e) (members_have_valid_dates ms) b.dates in
    let parts = first_low n l e ms b more here in
    by_order n (slice_cmp nat_cmp k l) _ _ _ (member_low n k d (member l e ms) a b) (member_low n l d ms a parts.1) (member_low n l e (member_put k d ms) parts.0 (put_low n k d ms a parts.1))

by_test : (n : ℕ) (t : Bool) (a b : Members) → AreLow n a → AreLow n b → AreLow n (cond t a b)
by_test n true a b x y = x
by_test n false a b x y = y

-- ---- values

or_low : (n : ℕ) (o : Option Bool) (text : List ℕ) → IsLow n (value_or o text)
or_low n None text = record { low = omega arith; dates = refl }
or_low n (Some b) text = record { low = omega arith; dates = refl }

from_low : (n : ℕ) (o : Option ℕ) (text : List ℕ) → IsLow n (value_from o text)
from_low n None text = or_low n (cell_truth text) text
from_low n (Some k) text = record { low = omega arith; dates = refl }

value_low : (n : ℕ) (text : List ℕ) → IsLow n (cell_value text)
value_low n text = from_low n (cell_number text) text

text_low : (n : ℕ) (key text : List ℕ) (ms : Members) → AreLow n ms → AreLow n (with_text key text ms)
text_low n key text ms a = by_test n (has_no_text text) ms (member_put key (cell_value text) ms) a (put_low n key (cell_value text) ms (value_low n text) a)

words_low : (ws : List ℕ) → (items_depth (items_of (map word_value ws)) ≡ 0) × (items_have_valid_dates (items_of (map word_value ws)) ≡ true)
words_low [] = (refl, refl)
words_low (w ∷ ws) = let more = words_low ws in (omega (arith, more.0), more.1)

each_low : (o : Option (List ℕ)) → IsLow 1 (array (items_of (each_word o)))
each_low None = record { low = omega arith; dates = refl }
each_low (Some ws) = let flat = words_low ws in record { low = omega (arith, flat.0); dates = flat.1 }

-- ---- entries

table_low : (ms : Members) → AreLow 1 ms → IsLow 2 (table ms)
table_low ms a = record { low = omega (arith, a.low); dates = a.dates }

rule_low : (s : Sheet) (r : TableRow) → IsLow 2 (rule_entry_data s r)
rule_low s r = table_low _ (text_low 1 _ (cell s r column.Legal) _ (text_low 1 _ (str_to_ascii_lowercase (cell s r column.To)) _ (text_low 1 _ (cell s r column.Words) _ (text_low 1 _ (cell s r column.Subaddress) _ (text_low 1 _ (str_to_ascii_lowercase (cell s r column.Kind)) _ (none_low 1))))))

mode_low : (s : Sheet) (r : TableRow) → IsLow 2 (mode_entry_data s r)
mode_low s r = table_low _ (text_low 1 _ (cell s r column.Legal) _ (text_low 1 _ (str_to_ascii_lowercase (cell s r column.To)) _ (text_low 1 _ (cell s r column.Code) _ (none_low 1))))

initial_low : (s : Sheet) (r : TableRow) → IsLow 2 (initial_entry_data s r)
initial_low s r = table_low _ (put_low 1 _ _ _ (each_low (cell_words (cell s r column.Initial))) (text_low 1 _ (cell s r column.Subaddress) _ (none_low 1)))

entry_low : (s : Sheet) (e : Entry) (r : TableRow) → IsLow 2 (entry_data s e r)
entry_low s entry.Rule r = rule_low s r
entry_low s entry.Mode r = mode_low s r
entry_low s entry.Initial r = initial_low s r

rows_low : (s : Sheet) (e : Entry) (rs : List TableRow) → (items_depth (items_of (map (entry_data s e) rs)) ≤ 2) × (items_have_valid_dates (items_of (map (entry_data s e) rs)) ≡ true)
rows_low s e [] = (omega arith, refl)
rows_low s e (r ∷ rs) = let more = rows_low s e rs in let here = entry_low s e r in (omega (arith, here.low, more.0), λ j. here.dates j && more.1 j)

entries_low : (s : Sheet) (e : Entry) → IsLow 3 (array (items_of (entries_of s e)))
entries_low s e = let all = rows_low s e (entry_rows s e) in record { low = omega (arith, all.0); dates = all.1 }

with_low : (s : Sheet) (key : List ℕ) (e : Entry) (ms : Members) → AreLow 3 ms → AreLow 3 (with_entries key (entries_of s e) ms)
with_low s key e ms a = by_test 3 (has_none (entries_of s e)) ms _ a (put_low 3 key _ ms (entries_low s e) a)

-- ---- the tree

setting_low : (s : Sheet) (k : RowKind) (ms : Members) → AreLow 3 ms → AreLow 3 (with_setting s k ms)
setting_low s k ms a = text_low 3 (kind_name k) (setting_text s k) ms a

pub tree_low : (s : Sheet) → AreLow 3 (table_tree s)
unfolding table_tree
tree_low s =
    with_low s _ entry.Initial _ (with_low s _ entry.Mode _ (with_low s _ entry.Rule _
    (setting_low s kind.Bit _ (setting_low s kind.Vector _ (setting_low s kind.AcceptBusControl _
    (setting_low s kind.Wraparound _ (setting_low s kind.Broadcast _ (setting_low s kind.Address _ (none_low 3)))))))))
