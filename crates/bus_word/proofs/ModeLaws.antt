-- Laws of mode codes, from their table.
use Rattle.std.proofs.Common.{◌≡◌, ℕ, Bool, true, false, not, ◌&&◌, ◌==◌, nat_le, if◌then◌else◌, Option, Some, None, List, [], ◌∷◌, refl, ap, sym, ◌∙◌}
use Rattle.std.specs.List.{list_all}
use Rattle.std.proofs.lemmas.Bool.{eqb-true, and_parts}
use Rattle.bus_word.specs.declared.mode.ModeRow.{ModeRow}
use Rattle.bus_word.specs.Command.{transmits, code_of, count_of, is_mode}
use Rattle.bus_word.specs.Mode.{ModeEntry, entry, row_in, mode_table}
use Rattle.bus_word.specs.Cell.{same_bool}
use Rattle.bus_word.specs.Laws.{WordIsExpected}

abbrev row_or : ModeRow → Option ModeRow → ModeRow
row_or row None = row
row_or row (Some r) = r

-- what all entries of a table pass, a code and its row pass
pub passes_in : (p : ModeEntry → Bool) (entries : List ModeEntry) (code : ℕ) (row : ModeRow) → list_all p entries ≡ true → row_in entries code ≡ Some row → p (entry code row) ≡ true
passes_in p [] code row all is = cc
passes_in p (e ∷ entries) code row all is = by_here (code == e.code) refl is (passes_in p entries code row parts.1)
  where
    parts : (p e ≡ true) × (list_all p entries ≡ true)
    parts = and_parts (p e) (list_all p entries) all

    by_here : (here : Bool) → (code == e.code) ≡ here → (if here then Some e.row else row_in entries code) ≡ Some row → (row_in entries code ≡ Some row → p (entry code row) ≡ true) → p (entry code row) ≡ true
    by_here true at is later =
        let code_is : code ≡ e.code = eqb-true code e.code at in
        let row_is : e.row ≡ row = ap (row_or e.row) is in
        (λ j. p (entry (code_is j) (sym row_is j))) ∙ parts.0
    by_here false at is later = later is

pub same_bool-true : (a b : Bool) → same_bool a b ≡ true → a ≡ b
same_bool-true true true e = refl
same_bool-true true false e = cc
same_bool-true false true e = cc
same_bool-true false false e = refl

-- the codes from 16 on are those with a word
abbrev has_word_from_16 : ModeEntry → Bool
has_word_from_16 e = same_bool (nat_le 16 e.code) e.row.word

expected_by : (transmit high mode word : Bool) (count : ℕ) → mode ≡ true → high ≡ word →
    (if transmit then 0 else (if mode then (if high then 1 else 0) else count)) ≡ (if not transmit && word then 1 else 0)
expected_by true high mode word count m e = refl
expected_by false high mode word count m e = λ i. if m i then (if e i then 1 else 0) else count

pub word_is_expected : WordIsExpected
word_is_expected command row mode is =
    expected_by (transmits command) (nat_le 16 (code_of command)) (is_mode command) row.word (count_of command) mode
    (same_bool-true (nat_le 16 (code_of command)) row.word (passes_in has_word_from_16 mode_table (code_of command) row refl is))
