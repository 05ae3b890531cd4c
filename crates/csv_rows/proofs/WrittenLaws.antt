-- Rows that the library `csv` writes are CSV.
use Rattle.std.proofs.Common.{◌≡◌, inl, inr, ℕ, ◌==◌, ◌&&◌, ◌||◌, not, Bool, true, false, if◌then◌else◌, List, [], ◌∷◌, ◌++◌, length, refl, sym, ap, subst, ◌∙◌, append_assoc, arith}
use Rattle.std.specs.List.{list_any}
use Rattle.std.proofs.lemmas.Bool.Decides.{nat_tests}
use Rattle.csv.specs.Writing.{default_writer, needs_byte, needs_quotes, escaped, field_text, fields_text, is_blank, row_text}
use Rattle.csv_rows.specs.Csv.{is_unquoted, all_unquoted, doubled, IsField, AreFields, joined, IsCsv}
use Rattle.csv_rows.proofs.ScanLaws.{csv_more}

escaped_doubled : (text : List ℕ) → escaped default_writer text ≡ doubled text
unfolding escaped doubled
escaped_doubled [] = refl
escaped_doubled (b ∷ bs) = ap (λ more. if b == 34 then 34 ∷ b ∷ more else b ∷ more) (escaped_doubled bs) ∙ by (b == 34) refl
  where
    by : (q : Bool) → (b == 34) ≡ q → (if q then 34 ∷ b ∷ doubled bs else b ∷ doubled bs) ≡ (if q then 34 ∷ 34 ∷ doubled bs else b ∷ doubled bs)
    by true e = let is : b ≡ 34 = grind (arith, nat_tests, e) in ap (λ b. 34 ∷ b ∷ doubled bs) is
    by false e = refl

plain_by : (comma quote cr lf other : Bool) → ((((comma || quote) || (cr || lf)) || (not true && other)) || false) ≡ false → (not (comma || (lf || cr)) && not quote) ≡ true
plain_by true quote cr lf other e = cc e
plain_by false true cr lf other e = cc e
plain_by false false true lf other e = cc e
plain_by false false false true other e = cc e
plain_by false false false false other e = refl

neither : (a b : Bool) → (a || b) ≡ false → (a ≡ false) × (b ≡ false)
neither true b e = cc e
neither false b e = (refl, e)

both : (a b : Bool) → a ≡ true → b ≡ true → (a && b) ≡ true
both true b x y = y
both false b x y = cc x

plain_field : (field : List ℕ) → list_any (needs_byte default_writer) field ≡ false → all_unquoted 44 field ≡ true
unfolding all_unquoted
plain_field [] none = refl
plain_field (b ∷ bs) none =
    let apart = neither (needs_byte default_writer b) (list_any (needs_byte default_writer) bs) none in
    both (is_unquoted 44 b) (all_unquoted 44 bs) (plain_by (b == 44) (b == 34) (b == 13) (b == 10) (b == 92) apart.0) (plain_field bs apart.1)

written_field : (field : List ℕ) → IsField 44 (field_text default_writer field)
written_field field = by (needs_quotes default_writer field) refl
  where
    by : (q : Bool) → needs_quotes default_writer field ≡ q → IsField 44 (if q then 34 ∷ (escaped default_writer field ++ (34 ∷ [])) else field)
    by true e = inr (field, ap (λ text. 34 ∷ (text ++ (34 ∷ []))) (escaped_doubled field))
    by false e = inl (plain_field field e)

written_fields : (field : List ℕ) (fields : List (List ℕ)) (rest : List ℕ) → IsCsv 44 rest → IsCsv 44 (field_text default_writer field ++ (fields_text default_writer fields ++ 10 ∷ rest))
unfolding fields_text
written_fields field [] rest more = csv_more 44 (field_text default_writer field) 10 rest (written_field field) refl more
written_fields field (next ∷ fields) rest more =
    let on : IsCsv 44 (field_text default_writer next ++ (fields_text default_writer fields ++ 10 ∷ rest)) = written_fields next fields rest more in
    csv_more 44 (field_text default_writer field) 44 ((field_text default_writer next ++ fields_text default_writer fields) ++ 10 ∷ rest) (written_field field) refl
    (subst (IsCsv 44) (sym (append_assoc (field_text default_writer next) (fields_text default_writer fields) (10 ∷ rest))) on)

empty_text : (text : List ℕ) → (length text == 0) ≡ true → text ≡ []
empty_text [] e = refl
empty_text (b ∷ bs) e = absurd (grind (arith, nat_tests, e))

blank_field : (rest : List ℕ) → IsCsv 44 rest → IsCsv 44 (34 ∷ 34 ∷ 10 ∷ rest)
unfolding doubled
blank_field rest more = csv_more 44 (34 ∷ 34 ∷ []) 10 rest (inr ([], refl)) refl more

pub no_rows : IsCsv 44 []
unfolding AreFields joined all_unquoted
no_rows = record { fields = []; last = []; are = tt; is = inl refl; whole = refl }

-- a row that is written, before a text that is CSV
pub written_row : (row : List (List ℕ)) (rest : List ℕ) → IsCsv 44 rest → IsCsv 44 (row_text default_writer row ++ rest)
unfolding fields_text is_blank
written_row [] rest more = blank_field rest more
written_row (field ∷ []) rest more = by (length (field_text default_writer field) == 0) refl
  where
    by : (q : Bool) → (length (field_text default_writer field) == 0) ≡ q → IsCsv 44 (((field_text default_writer field ++ []) ++ ((if q then 34 ∷ 34 ∷ [] else []) ++ (10 ∷ []))) ++ rest)
    by true e = subst (λ text. IsCsv 44 (((text ++ []) ++ (34 ∷ 34 ∷ 10 ∷ [])) ++ rest)) (sym (empty_text (field_text default_writer field) e)) (blank_field rest more)
    by false e =
        subst (IsCsv 44) (sym (append_assoc (field_text default_writer field ++ []) (10 ∷ []) rest ∙ append_assoc (field_text default_writer field) [] (10 ∷ rest)))
        (written_fields field [] rest more)
written_row (field ∷ next ∷ fields) rest more =
    subst (IsCsv 44)
    (sym (append_assoc (field_text default_writer field ++ fields_text default_writer (next ∷ fields)) (10 ∷ []) rest ∙ append_assoc (field_text default_writer field) (fields_text default_writer (next ∷ fields)) (10 ∷ rest)))
    (written_fields field (next ∷ fields) rest more)
