-- The command words for events that are told, one event more at a time.
use Rattle.std.proofs.Common.{ℕ, ◌≡◌, ◌∙◌, ◌+◌, Bool, List, [], ◌∷◌, ◌++◌, drop, map, Option, sym, ap, append_assoc, append-nil}
use Rattle.rt1553_verify.specs.Stated.{shown}
use Rattle.rt1553_verify.specs.declared.stated.Stated.{Stated}
use Rattle.rt1553_verify.specs.Verify.{ToldAnswer}
use Rattle.rt1553_verify.specs.Commands.{command_after, is_next, command_if, told_behind, commands_from}

-- an event more, which is told or not
pub event_more : (address : ℕ) (before after : Option ℕ) (script : List Stated) (i : ℕ) (s : Stated) (is_told : Bool) (told rest : List ToldAnswer) (old new all : List (Option ℕ))
    → drop i script ≡ s ∷ drop (i + 1) script → after ≡ command_after address before s.event → is_told ≡ is_next s.line told
    → new ≡ old ++ command_if is_told after → rest ≡ told_behind is_told told → old ++ commands_from address before (map shown (drop i script)) told ≡ all
    → new ++ commands_from address after (map shown (drop (i + 1) script)) rest ≡ all
unfolding commands_from
event_more address before after script i s is_told told rest old new all next command is grown left before_it =
    let ss = map shown (drop (i + 1) script) in
    ap (λ xs. xs ++ commands_from address after ss rest) grown
    ∙ append_assoc old (command_if is_told after) (commands_from address after ss rest)
    ∙ ap (λ ts. old ++ (command_if is_told after ++ commands_from address after ss ts)) left
    ∙ ap (λ b. old ++ (command_if b after ++ commands_from address after ss (told_behind b told))) is
    ∙ ap (λ c. old ++ (command_if (is_next s.line told) c ++ commands_from address c ss (told_behind (is_next s.line told) told))) command
    ∙ ap (λ xs. old ++ commands_from address before (map shown xs) told) (sym next)
    ∙ before_it

pub no_event : (address : ℕ) (before : Option ℕ) (script : List Stated) (i : ℕ) (told : List ToldAnswer) (found all : List (Option ℕ))
    → drop i script ≡ [] → found ++ commands_from address before (map shown (drop i script)) told ≡ all → found ≡ all
unfolding commands_from
no_event address before script i told found all none left = sym (append-nil found) ∙ ap (λ ss. found ++ commands_from address before (map shown ss) told) (sym none) ∙ left
