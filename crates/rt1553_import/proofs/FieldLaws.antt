-- The places of fields with a text.
use Rattle.std.proofs.Common.{◌≡◌, ℕ, ◌+◌, ◌<◌, true, false, cond, Option, Some, None, List, [], length, drop, refl, sym, ap, ◌∙◌}
use Rattle.std.specs.List.{position_from}
use Rattle.std.specs.Str.{str_eq_ignore_ascii_case}
use Rattle.std.proofs.lemmas.List.{drop_more}
use Rattle.csv.specs.Records.{field_at}
use Rattle.csv.proofs.RecordFacts.{field-get, field-there}
use Rattle.rt1553_import.specs.Columns.{is_field, place_from}

-- what is left to look at, from a place on
place_step : (text : List ℕ) (fields : List (List ℕ)) (place : ℕ) (field : Option (List ℕ)) → place < length fields → field_at fields place ≡ field
    → place_from text place fields ≡ cond (is_field text field) (Some place) (place_from text (place + 1) fields)
place_step text fields place None within there = absurd (field-there fields place within there)
place_step text fields place (Some field) within there =
    ap (position_from (λ f. str_eq_ignore_ascii_case f text) place) (drop_more fields place [] within)
    ∙ ap (λ f. cond (str_eq_ignore_ascii_case f text) (Some place) (place_from text (place + 1) fields)) (field-get fields place field there)

pub place_more : (text : List ℕ) (fields : List (List ℕ)) (place : ℕ) → place < length fields
    → place_from text place fields ≡ cond (is_field text (field_at fields place)) (Some place) (place_from text (place + 1) fields)
place_more text fields place within = place_step text fields place (field_at fields place) within refl

pub place_found : (text : List ℕ) (fields : List (List ℕ)) (place : ℕ) (all : Option ℕ) → place < length fields → is_field text (field_at fields place) ≡ true → place_from text place fields ≡ all → Some place ≡ all
place_found text fields place all within is so_far =
    sym (place_more text fields place within ∙ ap (λ b. cond b (Some place) (place_from text (place + 1) fields)) is) ∙ so_far

pub place_passed : (text : List ℕ) (fields : List (List ℕ)) (place : ℕ) (all : Option ℕ) → place < length fields → is_field text (field_at fields place) ≡ false → place_from text place fields ≡ all → place_from text (place + 1) fields ≡ all
place_passed text fields place all within is so_far =
    sym (place_more text fields place within ∙ ap (λ b. cond b (Some place) (place_from text (place + 1) fields)) is) ∙ so_far
