-- What is put into a table.
use Rattle.std.proofs.Common.{◌≡◌, ℕ, List, [], ◌∷◌, String, Global, Ordering, Less, Equal, Greater, string_bytes, codes, refl, ap, ◌∙◌}
use Rattle.std.specs.String.{string_cmp}
use Rattle.std.specs.Ordering.{match_ordering}
use Rattle.std.specs.BTreeMap.{insert_entry}
use Rattle.toml.specs.View.{view, members_view}
use Rattle.toml.specs.declared.value.Value.{Value}
use Rattle.toml.specs.Data.{table, Members, no_members}
use Rattle.rt1553_import.specs.declared.column.TableColumn.TheVariants as column
use Rattle.rt1553_import.specs.declared.sheet.Sheet.{Sheet}
use Rattle.rt1553_import.specs.declared.sheet.TableRow.{TableRow}
use Rattle.rt1553_import.specs.Columns.{cell}
use Rattle.rt1553_import.specs.Tree.{member_put, with_text, with_small_text, with_scope, rule_entry_data}

abbrev Entry : Type 0
Entry = String Global × Value

match_members : (o : Ordering) (a b c : List Entry) → members_view (match_ordering o a b c) ≡ match_ordering o (members_view a) (members_view b) (members_view c)
match_members Less a b c = refl
match_members Equal a b c = refl
match_members Greater a b c = refl

put_entry : (k : String Global) (v : Value) (es : List Entry) → members_view (insert_entry string_cmp es k v) ≡ member_put (string_bytes k) (view v) (members_view es)
put_entry k v [] = refl
put_entry k v (e ∷ es) = match_members (string_cmp k e.0) _ _ _ ∙ rw (put_entry k v es)

-- the members of a map after an insert
pub put_table : (k : String Global) (name : List ℕ) (v : Value) (es fs : List Entry) → string_bytes k ≡ name → fs ≡ insert_entry string_cmp es k v
    → members_view fs ≡ member_put name (view v) (members_view es)
put_table k name v es fs same put = ap members_view put ∙ put_entry k v es ∙ ap (λ n. member_put n (view v) (members_view es)) same

-- the members of a rule, key by key
pub rule_made : (s : Sheet) (r : TableRow) (d u k : List ℕ) (m0 m1 m2 m3 m4 : Members) → m0 ≡ no_members → m1 ≡ with_small_text (codes "direction") d m0 → m2 ≡ with_text (codes "subaddresses") u m1
    → m3 ≡ with_text (codes "counts") k m2 → m4 ≡ with_scope s r m3 → d ≡ cell s r column.Kind → u ≡ cell s r column.Subaddress → k ≡ cell s r column.Words → table m4 ≡ rule_entry_data s r
rule_made s r d u k m0 m1 m2 m3 m4 e0 e1 e2 e3 e4 ed eu ek =
    ap table (e4 ∙ (λ j. with_scope s r ((e3 ∙ (λ j. with_text (codes "counts") (ek j) ((e2 ∙ (λ j. with_text (codes "subaddresses") (eu j) ((e1 ∙ (λ j. with_small_text (codes "direction") (ed j) (e0 j))) j))) j))) j)))
