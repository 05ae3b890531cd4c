-- Rows of a table of results, one more after others.
use Rattle.std.proofs.Common.{◌≡◌, ℕ, ◌+◌, ◌<◌, nat_eq, Bool, true, false, ◌||◌, cond, Option, Some, None, option_map, List, [], ◌∷◌, ◌++◌, length, map, take, drop, ◌-◌, get_or, refl, sym, ap, subst, ◌∙◌, ⊎_elim, arith}
use Rattle.std.specs.List.{IsDistinct, list_any}
use Rattle.std.specs.Map.{lookup}
use Rattle.std.specs.BTreeMap as tree
use Rattle.std.specs.Ordering.{nat_cmp}
use Rattle.std.proofs.lemmas.Cmp.{nat_eq_equiv}
use Rattle.std.proofs.lemmas.Bool.Decides.{nat_tests}
use Rattle.std.proofs.lemmas.List.{map-append, take_more, take_all, length-drop, drop_more, take-append-drop}
use Rattle.std.proofs.lemmas.Map.Keys.{IsDistinct-push}
use Rattle.csv_rows.specs.declared.rows.CsvRow.{CsvRow}
use Rattle.csv_rows.specs.Rows.{record_fields, AreRows}
use Rattle.rt1553_results.specs.declared.results.ResultsFault.{ResultsFault}
use Rattle.rt1553_results.specs.declared.results.ResultsFault.TheVariants as fault
use Rattle.rt1553_results.specs.declared.results.Columns.{Columns}
use Rattle.rt1553_results.specs.declared.results.Results.{Results}
use Rattle.rt1553_results.specs.Results.{IsRead, AreColumns, AreResultsRead, answer}
use Rattle.rt1553_results.specs.Refused.{IsWrongRow, HasWrongRow, AreNoResults}

-- what some rows say, and that the results have just that
pub record SoFar (columns : Columns) (rows : List (List (List ℕ))) (results : Results) : Type 0 where
  pub pairs : List (ℕ × List ℕ)
  pub read : AreResultsRead columns rows pairs
  pub once : IsDistinct nat_eq (map (λ pair. pair.0) pairs)
  pub answers : (n : ℕ) → answer results n ≡ lookup (nat_eq n) pairs

read_more : (columns : Columns) (rows : List (List (List ℕ))) (pairs : List (ℕ × List ℕ)) (row : List (List ℕ)) (pair : ℕ × List ℕ)
    → AreResultsRead columns rows pairs → IsRead columns row pair → AreResultsRead columns (rows ++ row ∷ []) (pairs ++ pair ∷ [])
unfolding AreResultsRead
read_more columns [] [] row pair read is = (is, tt)
read_more columns [] (p ∷ pairs) row pair read is = absurd read
read_more columns (r ∷ rows) [] row pair read is = absurd read
read_more columns (r ∷ rows) (p ∷ pairs) row pair (here, rest) is = (here, read_more columns rows pairs row pair rest is)

-- a pair behind others is found where none of them is
lookup_last : (test : ℕ → Bool) (pairs : List (ℕ × List ℕ)) (pair : ℕ × List ℕ) → lookup test pairs ≡ None → lookup test (pairs ++ pair ∷ []) ≡ lookup test (pair ∷ [])
lookup_last test [] pair none = refl
lookup_last test (p ∷ pairs) pair none = by_test (test p.0) none (λ e. lookup_last test pairs pair e)
  where
    by_test : (b : Bool) → cond b (Some p.1) (lookup test pairs) ≡ None → (lookup test pairs ≡ None → lookup test (pairs ++ pair ∷ []) ≡ lookup test (pair ∷ []))
        → cond b (Some p.1) (lookup test (pairs ++ pair ∷ [])) ≡ lookup test (pair ∷ [])
    by_test true e rest = cc e
    by_test false e rest = rest e

lookup_others : (test : ℕ → Bool) (pairs : List (ℕ × List ℕ)) (pair : ℕ × List ℕ) → test pair.0 ≡ false → lookup test (pairs ++ pair ∷ []) ≡ lookup test pairs
lookup_others test [] pair other = ap (λ b. cond b (Some pair.1) None) other
lookup_others test (p ∷ pairs) pair other = ap (λ o. cond (test p.0) (Some p.1) o) (lookup_others test pairs pair other)

not_among : (test : ℕ → Bool) (pairs : List (ℕ × List ℕ)) → lookup test pairs ≡ None → list_any test (map (λ pair. pair.0) pairs) ≡ false
not_among test [] none = refl
not_among test (p ∷ pairs) none = by_test (test p.0) none (λ e. not_among test pairs e)
  where
    by_test : (b : Bool) → cond b (Some p.1) (lookup test pairs) ≡ None → (lookup test pairs ≡ None → list_any test (map (λ pair. pair.0) pairs) ≡ false)
        → (b || list_any test (map (λ pair. pair.0) pairs)) ≡ false
    by_test true e rest = cc e
    by_test false e rest = rest e

answers_more : (pairs : List (ℕ × List ℕ)) (k : ℕ) (v : List ℕ) (old new : ℕ → Option (List ℕ))
    → ((n : ℕ) → old n ≡ lookup (nat_eq n) pairs) → old k ≡ None → ((n : ℕ) → new n ≡ cond (nat_eq k n) (Some v) (old n))
    → (n : ℕ) → new n ≡ lookup (nat_eq n) (pairs ++ (k, v) ∷ [])
answers_more pairs k v old new before fresh grown n = by_test (nat_eq k n) refl
  where
    by_test : (b : Bool) → nat_eq k n ≡ b → new n ≡ lookup (nat_eq n) (pairs ++ (k, v) ∷ [])
    by_test true e =
        let same : k ≡ n = grind (arith, nat_tests) in
        let test : nat_eq n k ≡ true = grind (arith, nat_tests) in
        let none : lookup (nat_eq n) pairs ≡ None = sym (before n) ∙ (ap old (sym same) ∙ fresh) in
        grown n ∙ (ap (λ b. cond b (Some v) (old n)) e ∙ sym (lookup_last (nat_eq n) pairs (k, v) none ∙ ap (λ b. cond b (Some v) None) test))
    by_test false e =
        let test : nat_eq n k ≡ false = grind (arith, nat_tests) in
        grown n ∙ (ap (λ b. cond b (Some v) (old n)) e ∙ (before n ∙ sym (lookup_others (nat_eq n) pairs (k, v) test)))

pub so_far_none : (columns : Columns) (results : Results) → results.given.entries ≡ [] → SoFar columns [] results
unfolding AreResultsRead IsDistinct
so_far_none columns results none = record {
  pairs = [];
  read = tt;
  once = tt;
  answers = (λ n. ap (λ entries. option_map (λ given. given.reply.items) (lookup (tree.is_at (nat_cmp n)) entries)) none);
}

pub so_far_more : (columns : Columns) (rows : List (List (List ℕ))) (row : List (List ℕ)) (k : ℕ) (v : List ℕ) (old new : Results) → SoFar columns rows old → IsRead columns row (k, v)
    → answer old k ≡ None → ((n : ℕ) → answer new n ≡ cond (nat_eq k n) (Some v) (answer old n)) → SoFar columns (rows ++ row ∷ []) new
so_far_more columns rows row k v old new before read fresh grown = record {
  pairs = before.pairs ++ (k, v) ∷ [];
  read = read_more columns rows before.pairs row (k, v) before.read read;
  once =
      (let keys : List ℕ = map (λ pair. pair.0) before.pairs in
      let apart : list_any (nat_eq k) keys ≡ false = not_among (nat_eq k) before.pairs (sym (before.answers k) ∙ fresh) in
      subst (IsDistinct nat_eq) (sym (map-append (λ pair. pair.0) before.pairs ((k, v) ∷ []))) (IsDistinct-push nat_eq_equiv keys k before.once apart));
  answers = answers_more before.pairs k v (answer old) (answer new) before.answers fresh grown;
}

-- the header, and the rows under it
pub under_header : (rows : List CsvRow) (first : CsvRow) → 0 < length rows → first ≡ get_or rows 0 first → map record_fields rows ≡ record_fields first ∷ map record_fields (drop 1 rows)
under_header [] first some is = absurd (omega arith)
under_header (row ∷ rows) first some is = ap (λ r. record_fields r ∷ map record_fields rows) (sym is)

pub row_more : (rows : List CsvRow) (i : ℕ) (row : CsvRow) → i < length rows → row ≡ get_or rows i row → map record_fields (take i rows) ++ record_fields row ∷ [] ≡ map record_fields (take (i + 1) rows)
row_more rows i row few is =
    sym (ap (map record_fields) (take_more rows i row few ∙ ap (λ r. take i rows ++ r ∷ []) (sym is)) ∙ map-append record_fields (take i rows) (row ∷ []))

-- ---- why a table is refused

pub wrong_row : (text : List ℕ) (f : ResultsFault) → HasWrongRow text f → AreNoResults text f
wrong_row text (fault.Fields place) has = has
wrong_row text (fault.Number place) has = has
wrong_row text (fault.Twice place) has = has
wrong_row text (fault.Reply place) has = has
wrong_row text fault.Memory has = tt
wrong_row text (fault.NoHeader place) has = absurd (⊎_elim (λ no. no) (λ kept. kept.2) has.wrong)
wrong_row text (fault.NoColumn place name) has = absurd (⊎_elim (λ no. no) (λ kept. kept.2) has.wrong)
wrong_row text (fault.TwoColumns place name) has = absurd (⊎_elim (λ no. no) (λ kept. kept.2) has.wrong)
wrong_row text (fault.NotCsv place) has = absurd (⊎_elim (λ no. no) (λ kept. kept.2) has.wrong)

split_at : (rows : List CsvRow) (i : ℕ) (row : CsvRow) → i < length rows → row ≡ get_or rows i row → rows ≡ take i rows ++ row ∷ drop (i + 1) rows
split_at rows i row few is = sym (take-append-drop i rows) ∙ ap (λ rest. take i rows ++ rest) (drop_more rows i row few ∙ ap (λ r. r ∷ drop (i + 1) rows) (sym is))

-- the table as its header, the rows before one, that row, and those after it
pub around_row : (rows : List CsvRow) (first : CsvRow) (i : ℕ) (row : CsvRow) → 0 < length rows → first ≡ get_or rows 0 first
    → i < length (take (length rows - 1) (drop 1 rows)) → row ≡ get_or (take (length rows - 1) (drop 1 rows)) i row
    → map record_fields rows
    ≡ record_fields first ∷ map record_fields (take i (take (length rows - 1) (drop 1 rows))) ++ record_fields row ∷ map record_fields (drop (i + 1) (take (length rows - 1) (drop 1 rows)))
around_row rows first i row some is few here =
    let under = take (length rows - 1) (drop 1 rows) in
    let whole : under ≡ drop 1 rows = take_all (length rows - 1) (drop 1 rows) (omega (arith, length-drop 1 rows)) in
    under_header rows first some is
    ∙ ap (λ rest. record_fields first ∷ map record_fields rest) (sym whole ∙ split_at under i row few here)
    ∙ ap (λ rest. record_fields first ∷ rest) (map-append record_fields (take i under) (row ∷ drop (i + 1) under))

-- a row that is wrong, behind rows that were read
pub first_wrong : (text : List ℕ) (all : List (List (List ℕ))) (header : List (List ℕ)) (before : List (List (List ℕ))) (row : List (List ℕ)) (after : List (List (List ℕ)))
    (columns : Columns) (results : Results) (f : ResultsFault) → AreRows text all → all ≡ header ∷ before ++ row ∷ after → AreColumns header columns → (so_far : SoFar columns before results)
    → IsWrongRow columns so_far.pairs row f → AreNoResults text f
first_wrong text all header before row after columns results f records parts found so_far wrong = wrong_row text f (record {
  header = header;
  before = before;
  row = row;
  after = after;
  columns = columns;
  pairs = so_far.pairs;
  records = subst (AreRows text) parts records;
  found = found;
  read = so_far.read;
  once = so_far.once;
  wrong = wrong;
})
