-- Texts whose lines are refused on a bus, line by line.
use Rattle.std.proofs.Common.{ℕ, ◌≡◌, ◌∙◌, ◌+◌, List, [], ◌∷◌, ◌++◌, Result, Ok, Err, length, refl, sym, ap, arith, append_assoc, append-nil}
use Rattle.script_lines.specs.Text.{lines_of}
use Rattle.rt1553_expand.specs.declared.script_for.ScriptFor.{ScriptFor}
use Rattle.rt1553_expand.specs.declared.fault.ExpandFault.{ExpandFault}
use Rattle.rt1553_expand.specs.Expansion.{Expansion, expansion_of, refusal_at, refusals_from}
use Rattle.rt1553_expand.specs.OnBus.{fault_on_bus, BusRefusal, bus_refusal_at, bus_refusals_from}
use Rattle.rt1553_expand.proofs.ExpandLaws.{no-lines}

none-there : (own : ScriptFor) (n : ℕ) → bus_refusals_from own n (lines_of []) ≡ []
unfolding bus_refusals_from
none-there own n = ap (bus_refusals_from own n) no-lines

pub bus_refusals-on : (own : ScriptFor) (n : ℕ) (rest line more : List ℕ) (old new all : List BusRefusal) → lines_of rest ≡ line ∷ lines_of more
    → new ≡ old ++ bus_refusal_at n line (fault_on_bus own line (expansion_of own line)) → all ≡ old ++ bus_refusals_from own n (lines_of rest)
    → all ≡ new ++ bus_refusals_from own (n + 1) (lines_of more)
unfolding bus_refusals_from
bus_refusals-on own n rest line more old new all first added is =
    let here : List BusRefusal = bus_refusal_at n line (fault_on_bus own line (expansion_of own line)) in
    is ∙ ap (λ ls. old ++ bus_refusals_from own n ls) first ∙ sym (append_assoc old here (bus_refusals_from own (n + 1) (lines_of more)))
    ∙ ap (λ l. l ++ bus_refusals_from own (n + 1) (lines_of more)) (sym added)

pub bus_refusals-all : (own : ScriptFor) (n : ℕ) (rest : List ℕ) (old all : List BusRefusal) → length rest ≡ 0 → all ≡ old ++ bus_refusals_from own n (lines_of rest) → old ≡ all
bus_refusals-all own n [] old all none is = sym (is ∙ ap (λ l. old ++ l) (none-there own n) ∙ append-nil old)
bus_refusals-all own n (b ∷ bytes) old all none is = absurd (omega (arith, none))

-- ---- where no line is refused, none is left unexpanded

first-empty : {A : Type 0} (xs ys : List A) → xs ++ ys ≡ [] → xs ≡ []
first-empty [] ys is = refl
first-empty (x ∷ xs) ys is = absurd (cc)

rest-empty : {A : Type 0} (xs ys : List A) → xs ++ ys ≡ [] → ys ≡ []
rest-empty [] ys is = is
rest-empty (x ∷ xs) ys is = absurd (cc)

line-expanded : (own : ScriptFor) (n : ℕ) (line : List ℕ) (r : Result Expansion ExpandFault) → bus_refusal_at n line (fault_on_bus own line r) ≡ [] → refusal_at n r ≡ []
line-expanded own n line (Ok x) is = refl
line-expanded own n line (Err fault) is = absurd (cc)

pub all-expanded : (own : ScriptFor) (n : ℕ) (lines : List (List ℕ)) → bus_refusals_from own n lines ≡ [] → refusals_from own n lines ≡ []
unfolding bus_refusals_from refusals_from
all-expanded own n [] is = refl
all-expanded own n (line ∷ lines) is =
    let here : List BusRefusal = bus_refusal_at n line (fault_on_bus own line (expansion_of own line)) in
    ap (λ l. l ++ refusals_from own (n + 1) lines) (line-expanded own n line (expansion_of own line) (first-empty here (bus_refusals_from own (n + 1) lines) is))
    ∙ all-expanded own (n + 1) lines (rest-empty here (bus_refusals_from own (n + 1) lines) is)
