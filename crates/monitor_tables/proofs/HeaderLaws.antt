-- Where the columns of a header are.
use Rattle.std.proofs.Common.{ℕ, suc, ◌≡◌, ◌∙◌, ◌<◌, ◌+◌, Bool, true, false, if◌then◌else◌, Option, Some, None, List, [], ◌∷◌, ◌++◌, sym, ap, subst, append-nil, arith}
use Rattle.monitor_cells.specs.Cells.{is_headed}
use Rattle.monitor_tables.specs.declared.header.LeftOutColumn.{LeftOutColumn}
use Rattle.monitor_tables.specs.declared.header.TableLayout.{TableLayout}
use Rattle.monitor_tables.specs.Fields.{record_text}
use Rattle.monitor_tables.specs.Header.{is_left_out, left_fields, IsLeftOutColumn, AreLeftOutColumns}

-- what is found of a name in the fields before a place
abbrev pub FoundBefore : List ℕ → List (List ℕ) → ℕ → Option ℕ → Type 0
FoundBefore name fields place None = (k : ℕ) → k < place → is_headed name (record_text fields k) ≡ false
FoundBefore name fields place (Some found) = (is_headed name (record_text fields found) ≡ true) × (found < place) × ((k : ℕ) → k < place → is_headed name (record_text fields k) ≡ true → k ≡ found)

-- ---- columns that are left out

left-more : (fields : List (List ℕ)) (line : ℕ) (ns : List ℕ) (lefts : List LeftOutColumn) (n : ℕ) (left : LeftOutColumn)
    → AreLeftOutColumns fields line ns lefts → IsLeftOutColumn fields line n left → AreLeftOutColumns fields line (ns ++ n ∷ []) (lefts ++ left ∷ [])
left-more fields line [] [] n left are is = (is, tt)
left-more fields line (m ∷ ns) (l ∷ lefts) n left are is = (are.0, left-more fields line ns lefts n left are.1 is)
left-more fields line [] (l ∷ lefts) n left are is = absurd are
left-more fields line (m ∷ ns) [] n left are is = absurd are

-- the fields before the next one
left-step : (layout : TableLayout) (fields : List (List ℕ)) (n : ℕ) (b : Bool) → is_left_out layout (record_text fields n) ≡ b → left_fields layout fields (n + 1) ≡ left_fields layout fields n ++ (if b then n ∷ [] else [])
left-step layout fields n b is =
    let next : n + 1 ≡ suc n = omega arith in
    ap (left_fields layout fields) next ∙ ap (λ x. left_fields layout fields n ++ (if x then n ∷ [] else [])) is

pub left-told : (layout : TableLayout) (fields : List (List ℕ)) (line n : ℕ) (lefts lefts' : List LeftOutColumn) (left : LeftOutColumn) → is_left_out layout (record_text fields n) ≡ true
    → AreLeftOutColumns fields line (left_fields layout fields n) lefts → IsLeftOutColumn fields line n left → lefts' ≡ lefts ++ left ∷ [] → AreLeftOutColumns fields line (left_fields layout fields (n + 1)) lefts'
left-told layout fields line n lefts lefts' left out are is more =
    subst (λ ns. AreLeftOutColumns fields line ns lefts') (sym (left-step layout fields n true out))
    (subst (AreLeftOutColumns fields line (left_fields layout fields n ++ n ∷ [])) (sym more) (left-more fields line (left_fields layout fields n) lefts n left are is))

pub left-untold : (layout : TableLayout) (fields : List (List ℕ)) (line n : ℕ) (lefts lefts' : List LeftOutColumn) → is_left_out layout (record_text fields n) ≡ false
    → AreLeftOutColumns fields line (left_fields layout fields n) lefts → lefts' ≡ lefts → AreLeftOutColumns fields line (left_fields layout fields (n + 1)) lefts'
left-untold layout fields line n lefts lefts' out are same =
    subst (λ ns. AreLeftOutColumns fields line ns lefts') (sym (left-step layout fields n false out ∙ append-nil (left_fields layout fields n)))
    (subst (AreLeftOutColumns fields line (left_fields layout fields n)) (sym same) are)
