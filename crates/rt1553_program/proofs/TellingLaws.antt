-- Events are written, a line each.
use Rattle.std.proofs.Common.{ℕ, ◌≡◌, ◌<◌, ◌+◌, List, [], ◌∷◌, ◌++◌, length, take, get_or, take-suc, Option, sym, ap, ◌∙◌, append-nil, subst, arith}
use Rattle.std.proofs.lemmas.Grind.{common_steps, flat_map-append}
use Rattle.std.proofs.KnownBytes.{Appends-trans}
use Rattle.std.specs.Io.KnownBytes.{Appends}
use Rattle.terminal_rules.specs.declared.event.Event.{Event}
use Rattle.script_lines.specs.EventLine.{event_line, script_text}

one_more : (es : List Event) (i : ℕ) (e : Event) → i < length es → e ≡ get_or es i e → take (i + 1) es ≡ take i es ++ e ∷ []
one_more es i e within is = grind (arith, common_steps, take-suc es i e within)

-- the line of one event more
pub script_more : (a b c : Option (List ℕ)) (es : List Event) (i : ℕ) (e : Event) → i < length es → e ≡ get_or es i e
    → Appends a b (script_text (take i es)) → Appends b c (event_line e) → Appends a c (script_text (take (i + 1) es))
script_more a b c es i e within is p q =
    subst (Appends a c)
    (sym (ap script_text (one_more es i e within is) ∙ flat_map-append event_line (take i es) (e ∷ []) ∙ ap (λ l. script_text (take i es) ++ l) (append-nil (event_line e))))
    (Appends-trans a b c (script_text (take i es)) (event_line e) p q)
