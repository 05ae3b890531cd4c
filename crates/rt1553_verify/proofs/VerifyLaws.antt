-- Laws of what is told of a script that states its answers.
use Rattle.std.proofs.Common.{ℕ, map, ◌≡◌, ◌∙◌, ◌+◌, List, [], ◌∷◌, ◌++◌, drop, refl, sym, ap, ap₂, append_assoc, append-nil}
use Rattle.bus_legal.specs.Description.{Description}
use Rattle.terminal_rules.specs.declared.event.Event.{Event}
use Rattle.script_lines.specs.Transcript.{answer_text}
use Rattle.rt1553.proofs.EngineLaws.{AnswersAlike}
use Rattle.rt1553_verify.specs.Stated.{StatedEvent, shown}
use Rattle.rt1553_verify.specs.declared.stated.Stated.{Stated}
use Rattle.rt1553_verify.specs.Verify.{ToldAnswer, answers_told, wrong_answer_at, wrong_answers_from}

pub wrong_answer_at-alike : (P Q : Description) → AnswersAlike P Q → (h : List Event) (s : StatedEvent) → wrong_answer_at P h s ≡ wrong_answer_at Q h s
wrong_answer_at-alike P Q alike h s = ap (answers_told s) (ap answer_text (alike h s.event))

-- of terminals that answer alike the same is told
pub wrong_answers_from-alike : (P Q : Description) → AnswersAlike P Q → (h : List Event) (ss : List StatedEvent) → wrong_answers_from P h ss ≡ wrong_answers_from Q h ss
unfolding wrong_answers_from
wrong_answers_from-alike P Q alike h [] = refl
wrong_answers_from-alike P Q alike h (s ∷ ss) = ap₂ (λ a b. a ++ b) (wrong_answer_at-alike P Q alike h s) (wrong_answers_from-alike P Q alike (s.event ∷ h) ss)

-- one event more was compared
pub one_more : (P : Description) (h : List Event) (script : List Stated) (i : ℕ) (s : Stated) (old new all : List ToldAnswer)
    → drop i script ≡ s ∷ drop (i + 1) script → new ≡ old ++ wrong_answer_at P h (shown s) → old ++ wrong_answers_from P h (map shown (drop i script)) ≡ all
    → new ++ wrong_answers_from P (s.event ∷ h) (map shown (drop (i + 1) script)) ≡ all
unfolding wrong_answers_from
one_more P h script i s old new all next grown before =
    ap (λ xs. xs ++ wrong_answers_from P (s.event ∷ h) (map shown (drop (i + 1) script))) grown
    ∙ append_assoc old (wrong_answer_at P h (shown s)) (wrong_answers_from P (s.event ∷ h) (map shown (drop (i + 1) script)))
    ∙ ap (λ ss. old ++ wrong_answers_from P h (map shown ss)) (sym next)
    ∙ before

-- all events were compared
pub all_told : (P : Description) (h : List Event) (script : List Stated) (i : ℕ) (found all : List ToldAnswer)
    → drop i script ≡ [] → found ++ wrong_answers_from P h (map shown (drop i script)) ≡ all → found ≡ all
unfolding wrong_answers_from
all_told P h script i found all none before = sym (append-nil found) ∙ ap (λ ss. found ++ wrong_answers_from P h (map shown ss)) (sym none) ∙ before
