-- Texts that are expanded line by line.
use Rattle.std.proofs.Common.{ℕ, ◌≡◌, ◌∙◌, ◌+◌, List, [], ◌∷◌, ◌++◌, length, refl, sym, ap, arith, append_assoc, append-nil, flat_map}
use Rattle.std.specs.List.{sum_by}
use Rattle.std.proofs.lemmas.List.Sums.{sum_by-cons}
use Rattle.terminal_rules.specs.declared.event.Event.{Event}
use Rattle.script_lines.specs.Text.{lines_of}
use Rattle.bus_script.specs.Reading.{reading, adds, nothing}
use Rattle.bus_script.specs.inner.Lines.{ReadsLines}
use Rattle.rt1553_expand.specs.declared.script_for.ScriptFor.{ScriptFor}
use Rattle.rt1553_expand.specs.Expansion.{expansion_of, refusal_at, Refusal, refusals_from}

pub no-lines : lines_of [] ≡ []
unfolding lines_of
no-lines = refl

-- one line more
pub lists-on : {A : Type 0} (f : List ℕ → List A) (rest line more : List ℕ) (old new all : List A) → lines_of rest ≡ line ∷ lines_of more → new ≡ old ++ f line
    → all ≡ old ++ flat_map f (lines_of rest) → all ≡ new ++ flat_map f (lines_of more)
lists-on f rest line more old new all first added is =
    is ∙ ap (λ ls. old ++ flat_map f ls) first ∙ sym (append_assoc old (f line) (flat_map f (lines_of more))) ∙ ap (λ l. l ++ flat_map f (lines_of more)) (sym added)

-- all lines
pub lists-all : {A : Type 0} (f : List ℕ → List A) (rest : List ℕ) (old all : List A) → length rest ≡ 0 → all ≡ old ++ flat_map f (lines_of rest) → old ≡ all
lists-all f [] old all none is = sym (is ∙ ap (λ ls. old ++ flat_map f ls) no-lines ∙ append-nil old)
lists-all f (b ∷ bytes) old all none is = absurd (omega (arith, none))

pub count-on : (f : List ℕ → ℕ) (rest line more : List ℕ) (old new all : ℕ) → lines_of rest ≡ line ∷ lines_of more → new ≡ old + f line
    → all ≡ old + sum_by f (lines_of rest) → all ≡ new + sum_by f (lines_of more)
count-on f rest line more old new all first added is =
    let here : sum_by f (lines_of rest) ≡ f line + sum_by f (lines_of more) = ap (sum_by f) first ∙ sum_by-cons f line (lines_of more) in
    omega (arith, here, added, is)

pub count-all : (f : List ℕ → ℕ) (rest : List ℕ) (old all : ℕ) → length rest ≡ 0 → all ≡ old + sum_by f (lines_of rest) → old ≡ all
count-all f [] old all none is =
    let empty : sum_by f (lines_of []) ≡ 0 = ap (sum_by f) no-lines in
    omega (arith, is, empty)
count-all f (b ∷ bytes) old all none is = absurd (omega (arith, none))

-- a script that was read whole
pub all-read : (text : List ℕ) (es : List Event) (n : ℕ) → ReadsLines 0 text es n → reading 0 (lines_of text) ≡ adds es nothing
unfolding reading
all-read text es n r = ap (λ bytes. reading 0 (lines_of bytes)) (sym (append-nil text)) ∙ r.each [] ∙ ap (λ ls. adds es (reading n ls)) no-lines

-- ---- refusals

refusals-none : (own : ScriptFor) (n : ℕ) → refusals_from own n (lines_of []) ≡ []
unfolding refusals_from
refusals-none own n = ap (refusals_from own n) no-lines

pub refusals-on : (own : ScriptFor) (n : ℕ) (rest line more : List ℕ) (old new all : List Refusal) → lines_of rest ≡ line ∷ lines_of more → new ≡ old ++ refusal_at n (expansion_of own line)
    → all ≡ old ++ refusals_from own n (lines_of rest) → all ≡ new ++ refusals_from own (n + 1) (lines_of more)
unfolding refusals_from
refusals-on own n rest line more old new all first added is =
    is ∙ ap (λ ls. old ++ refusals_from own n ls) first ∙ sym (append_assoc old (refusal_at n (expansion_of own line)) (refusals_from own (n + 1) (lines_of more)))
    ∙ ap (λ l. l ++ refusals_from own (n + 1) (lines_of more)) (sym added)

pub refusals-all : (own : ScriptFor) (n : ℕ) (rest : List ℕ) (old all : List Refusal) → length rest ≡ 0 → all ≡ old ++ refusals_from own n (lines_of rest) → old ≡ all
refusals-all own n [] old all none is = sym (is ∙ ap (λ l. old ++ l) (refusals-none own n) ∙ append-nil old)
refusals-all own n (b ∷ bytes) old all none is = absurd (omega (arith, none))
