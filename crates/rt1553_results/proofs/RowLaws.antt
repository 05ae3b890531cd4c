-- The rows of terminals that answer alike, and one row more.
use Rattle.std.proofs.Common.{◌≡◌, ◌≤◌, List, [], ◌∷◌, refl, sym, ap, ◌∙◌}
use Rattle.bus_legal.specs.Description.{Description, described}
use Rattle.bus_legal.specs.Parts.{Parts, parts_of, description_in, IsNormal}
use Rattle.bus_legal.specs.Tables.{tables_say}
use Rattle.bus_legal.specs.declared.setup.Setup.{Setup}
use Rattle.bus_legal.proofs.NormalLaws.{reach-set_up_normal}
use Rattle.terminal_rules.specs.declared.event.Event.{Event}
use Rattle.terminal_rules.specs.Out.{out, outs_from}
use Rattle.terminal_rules.proofs.Reach.Same.{out-reach}
use Rattle.terminal_exchanges.specs.Exchanges.{Exchange, script_of}
use Rattle.rt1553_results.specs.Rows.{Answered, words_sent, handed_over, row_at, after_exchange, rows_from}

abbrev pub Alike : Description → Description → Type 0
Alike P Q = (h : List Event) (e : Event) → out P h e ≡ out Q h e

-- a terminal that is set up by a `Normal` answers as its description says
pub set_up_alike : (v : Parts) (setup : Setup) → IsNormal v → parts_of setup v.tables ≡ v → setup.address ≤ 30 → Alike (described setup (tables_say v.tables)) (description_in v)
set_up_alike v setup normal parts own h e =
    sym (out-reach (described setup (tables_say v.tables)) h e own) ∙ ap (λ D. out D h e) (reach-set_up_normal v setup normal parts)

outs_alike : (P Q : Description) → Alike P Q → (h es : List Event) → outs_from P h es ≡ outs_from Q h es
outs_alike P Q alike h [] = refl
outs_alike P Q alike h (e ∷ es) = (λ j. alike h e j ∷ outs_alike P Q alike (e ∷ h) es j)

row_alike : (P Q : Description) → Alike P Q → (h : List Event) (x : Exchange) → row_at P h x ≡ row_at Q h x
row_alike P Q alike h x =
    let answers : outs_from P h (script_of (x ∷ [])) ≡ outs_from Q h (script_of (x ∷ [])) = outs_alike P Q alike h (script_of (x ∷ [])) in
    (λ j. record { exchange = x; reply = words_sent (answers j); handed = handed_over (answers j) })

pub rows_alike : (P Q : Description) → Alike P Q → (h : List Event) (xs : List Exchange) → rows_from P h xs ≡ rows_from Q h xs
unfolding rows_from
rows_alike P Q alike h [] = refl
rows_alike P Q alike h (x ∷ xs) = (λ j. row_alike P Q alike h x j ∷ rows_alike P Q alike (after_exchange x h) xs j)

-- the next of the rows that are left, and the end
pub next_row : (P : Description) (h : List Event) (x : Exchange) (left rest : List Exchange) (rows : List Answered) → left ≡ x ∷ rest → rows ≡ rows_from P h left
    → rows ≡ row_at P h x ∷ rows_from P (after_exchange x h) rest
unfolding rows_from
next_row P h x left rest rows split is = is ∙ ap (rows_from P h) split

pub no_row : (P : Description) (h : List Event) (left : List Exchange) (rows : List Answered) → left ≡ [] → rows ≡ rows_from P h left → rows ≡ []
unfolding rows_from
no_row P h left rows over is = is ∙ ap (rows_from P h) over
