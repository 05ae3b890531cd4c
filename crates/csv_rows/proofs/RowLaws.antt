-- What is kept of records, and fields with text.
use Rattle.std.proofs.Common.{◌≡◌, ℕ, ◌+◌, ◌<◌, ◌||◌, Bool, true, false, cond, List, [], ◌∷◌, ◌++◌, Option, Some, None, length, drop, map, refl, sym, ap, ◌∙◌}
use Rattle.std.specs.List.{list_any}
use Rattle.std.proofs.lemmas.List.{drop_more}
use Rattle.csv.specs.Records.{field_at, trimmed}
use Rattle.csv.proofs.RecordFacts.{field-get, field-there}
use Rattle.csv_rows.specs.Rows.{has_bytes, says_something, kept_rows}
use Rattle.csv_rows.specs.inner.Scan.{is_filled}

pub kept-append : (xs ys : List (List (List ℕ))) → kept_rows (xs ++ ys) ≡ kept_rows xs ++ kept_rows ys
kept-append [] ys = refl
kept-append (x ∷ xs) ys = by (says_something (map trimmed x)) (kept-append xs ys)
  where
    by : (q : Bool) → kept_rows (xs ++ ys) ≡ kept_rows xs ++ kept_rows ys
        → cond q (map trimmed x ∷ kept_rows (xs ++ ys)) (kept_rows (xs ++ ys)) ≡ cond q (map trimmed x ∷ kept_rows xs) (kept_rows xs) ++ kept_rows ys
    by true more = ap (λ rows. map trimmed x ∷ rows) more
    by false more = more

-- ---- fields with text

said_step : (fields : List (List ℕ)) (place : ℕ) (field : Option (List ℕ)) → place < length fields → field_at fields place ≡ field
    → list_any has_bytes (drop place fields) ≡ (is_filled field || list_any has_bytes (drop (place + 1) fields))
said_step fields place None within there = absurd (field-there fields place within there)
said_step fields place (Some field) within there =
    ap (list_any has_bytes) (drop_more fields place [] within)
    ∙ ap (λ f. has_bytes f || list_any has_bytes (drop (place + 1) fields)) (field-get fields place field there)

pub said_found : (fields : List (List ℕ)) (place : ℕ) (all : Bool) → place < length fields → is_filled (field_at fields place) ≡ true → list_any has_bytes (drop place fields) ≡ all → true ≡ all
said_found fields place all within is so_far =
    sym (said_step fields place (field_at fields place) within refl ∙ ap (λ b. b || list_any has_bytes (drop (place + 1) fields)) is) ∙ so_far

pub said_passed : (fields : List (List ℕ)) (place : ℕ) (all : Bool) → place < length fields → is_filled (field_at fields place) ≡ false → list_any has_bytes (drop place fields) ≡ all → list_any has_bytes (drop (place + 1) fields) ≡ all
said_passed fields place all within is so_far =
    sym (said_step fields place (field_at fields place) within refl ∙ ap (λ b. b || list_any has_bytes (drop (place + 1) fields)) is) ∙ so_far
