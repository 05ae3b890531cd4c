-- The lines of a text, and those of them that are refused.
use Rattle.std.proofs.Common.{ℕ, ◌≡◌, ◌≢◌, ◌∙◌, ◌+◌, ◌-◌, ◌<◌, ◌≤◌, nat_le, nat_lt, Bool, true, false, not, ◌||◌, if◌then◌else◌, Option, Some, None, Result, Ok, Err, is_ok, List, [], ◌∷◌, ◌++◌, length, map, get_or, take, drop, refl, sym, ap, arith, append_assoc, append-nil}
use Rattle.std.proofs.lemmas.Bool.Decides.{nat_tests}
use Rattle.std.proofs.lemmas.List.{take_all, drop_all, length-drop, map-append}
use Rattle.script_lines.specs.Text.{lines_of}
use Rattle.script_lines.proofs.LineLaws.{line_at, lines-line, lines-last, no_line_feed}
use Rattle.terminal_rules.specs.declared.event.Event.{Event}
use Rattle.script_lines.specs.declared.line.LineFault.{LineFault}
use Rattle.script_lines.specs.Line.{meaning}
use Rattle.bus_script.specs.Reading.{reading, then_reads, stops}
use Rattle.bus_script.specs.declared.fault.RunFault.TheVariants.{LongLine, TooLong}
use Rattle.refused_lines.specs.declared.script.RefusedLine.{RefusedLine}
use Rattle.refused_lines.specs.Refused.{refused_at, refused_from, faulty_line, first_of, mistyped_at, mistyped_from}

-- the first line of a text with a line feed at i
pub first-with_feed : (bytes : List ℕ) (i : ℕ) → i < length bytes → ((k : ℕ) → k < i → get_or bytes k 0 ≢ 10) → get_or bytes i 0 ≡ 10
    → lines_of bytes ≡ take i bytes ∷ lines_of (take (length bytes - (i + 1)) (drop (i + 1) bytes))
first-with_feed bytes i within before here =
    let at = line_at bytes i within before here in
    let whole : take (length bytes - (i + 1)) (drop (i + 1) bytes) ≡ drop (i + 1) bytes = take_all _ _ (omega (arith, length-drop (i + 1) bytes)) in
    ap lines_of at.1 ∙ lines-line (take i bytes) (drop (i + 1) bytes) at.0 ∙ ap (λ rest. take i bytes ∷ lines_of rest) (sym whole)

no-lines : lines_of [] ≡ []
unfolding lines_of
no-lines = refl

-- the only line of a text without line feed
pub first-without_feed : (bytes : List ℕ) → 0 < length bytes → ((k : ℕ) → k < length bytes → get_or bytes k 0 ≢ 10)
    → lines_of bytes ≡ bytes ∷ lines_of (take (length bytes - length bytes) (drop (length bytes) bytes))
first-without_feed [] some none = absurd (omega arith)
first-without_feed (b ∷ bytes) some none =
    let rest : take (length (b ∷ bytes) - length (b ∷ bytes)) (drop (length (b ∷ bytes)) (b ∷ bytes)) ≡ []
    = ap (take (length (b ∷ bytes) - length (b ∷ bytes))) (drop_all (length (b ∷ bytes)) (b ∷ bytes) (omega arith)) ∙ take_all _ _ (omega arith) in
    lines-last b bytes (no_line_feed (b ∷ bytes) none) ∙ ap (λ ls. (b ∷ bytes) ∷ ls) (sym no-lines ∙ ap lines_of (sym rest))

refused-no_lines : (n : ℕ) → refused_from n [] ≡ []
unfolding refused_from
refused-no_lines n = refl

refused-none : (n : ℕ) → refused_from n (lines_of []) ≡ []
refused-none n = ap (refused_from n) no-lines ∙ refused-no_lines n

-- a line in its place
refused-line : (n : ℕ) (line : List ℕ) (lines : List (List ℕ)) → n ≤ 1048576 → refused_from n (line ∷ lines) ≡ refused_at n line ++ refused_from (n + 1) lines
unfolding refused_from
refused-line n line lines few = let test : nat_lt 1048576 n ≡ false = grind (arith, nat_tests, few) in ap (λ b. if b then n ∷ [] else refused_at n line ++ refused_from (n + 1) lines) test

-- one line more was looked at
pub refused-on : (n : ℕ) (rest line more : List ℕ) (old new all : List ℕ) → n ≤ 1048576 → lines_of rest ≡ line ∷ lines_of more → new ≡ old ++ refused_at n line
    → all ≡ old ++ refused_from n (lines_of rest) → all ≡ new ++ refused_from (n + 1) (lines_of more)
refused-on n rest line more old new all few first added is =
    is ∙ ap (λ ls. old ++ refused_from n ls) first ∙ ap (λ l. old ++ l) (refused-line n line (lines_of more) few)
    ∙ sym (append_assoc old (refused_at n line) (refused_from (n + 1) (lines_of more))) ∙ ap (λ l. l ++ refused_from (n + 1) (lines_of more)) (sym added)

-- a line is one too many
refused-many : (n : ℕ) (rest line more : List ℕ) (old all : List ℕ) → 1048576 < n → lines_of rest ≡ line ∷ lines_of more
    → all ≡ old ++ refused_from n (lines_of rest) → old ++ n ∷ [] ≡ all
unfolding refused_from
refused-many n rest line more old all many first is =
    let test : nat_lt 1048576 n ≡ true = grind (arith, nat_tests, many) in
    sym (is ∙ ap (λ ls. old ++ refused_from n ls) first ∙ ap (λ b. old ++ (if b then n ∷ [] else refused_at n line ++ refused_from (n + 1) (lines_of more))) test)

-- it is found behind the others
pub all-told : (n : ℕ) (rest line more : List ℕ) (old new : List RefusedLine) (last : RefusedLine) (all : List ℕ) → new ≡ old ++ last ∷ [] → last.line ≡ n → 1048576 < n → lines_of rest ≡ line ∷ lines_of more
    → all ≡ map (λ refused. refused.line) old ++ refused_from n (lines_of rest) → map (λ refused. refused.line) new ≡ all
all-told n rest line more old new last all is at many first before =
    ap (map (λ refused. refused.line)) is
    ∙ map-append (λ (refused : RefusedLine). refused.line) old (last ∷ [])
    ∙ ap (λ n. map (λ (refused : RefusedLine). refused.line) old ++ n ∷ []) at
    ∙ refused-many n rest line more (map (λ refused. refused.line) old) all many first before

-- all lines were looked at
pub refused-all : (n : ℕ) (rest old all : List ℕ) → length rest ≡ 0 → all ≡ old ++ refused_from n (lines_of rest) → old ≡ all
refused-all n [] old all none is = sym (is ∙ ap (λ l. old ++ l) (refused-none n) ∙ append-nil old)
refused-all n (b ∷ bytes) old all none is = absurd (omega (arith, none))

-- ---- comments that look like stated answers

mistyped-none : (n : ℕ) → mistyped_from n (lines_of []) ≡ []
unfolding mistyped_from
mistyped-none n = ap (mistyped_from n) no-lines

pub mistyped-on : (n : ℕ) (rest line more : List ℕ) (old new all : List ℕ) → lines_of rest ≡ line ∷ lines_of more → new ≡ old ++ mistyped_at n line
    → all ≡ old ++ mistyped_from n (lines_of rest) → all ≡ new ++ mistyped_from (n + 1) (lines_of more)
unfolding mistyped_from
mistyped-on n rest line more old new all first added is =
    is ∙ ap (λ ls. old ++ mistyped_from n ls) first ∙ sym (append_assoc old (mistyped_at n line) (mistyped_from (n + 1) (lines_of more))) ∙ ap (λ l. l ++ mistyped_from (n + 1) (lines_of more)) (sym added)

pub mistyped-all : (n : ℕ) (rest old all : List ℕ) → length rest ≡ 0 → all ≡ old ++ mistyped_from n (lines_of rest) → old ≡ all
mistyped-all n [] old all none is = sym (is ∙ ap (λ l. old ++ l) (mistyped-none n) ∙ append-nil old)
mistyped-all n (b ∷ bytes) old all none is = absurd (omega (arith, none))

-- ---- the first of them is the one that a run names

abbrev Names : ℕ → List (List ℕ) → Type 0
Names n lines = first_of (refused_from (n + 1) lines) ≡ faulty_line (reading n lines).fault

names-meaning : (n : ℕ) (lines : List (List ℕ)) (m : Result (Option Event) LineFault) → Names (n + 1) lines
    → first_of ((if not (is_ok m) then (n + 1) ∷ [] else []) ++ refused_from (n + 1 + 1) lines) ≡ faulty_line (then_reads m n (reading (n + 1) lines)).fault
names-meaning n lines (Err f) later = refl
names-meaning n lines (Ok None) later = later
names-meaning n lines (Ok (Some e)) later = later

names-line : (n : ℕ) (line : List ℕ) (lines : List (List ℕ)) (long : Bool) → Names (n + 1) lines
    → first_of ((if long || not (is_ok (meaning line)) then (n + 1) ∷ [] else []) ++ refused_from (n + 1 + 1) lines)
    ≡ faulty_line (if long then stops (LongLine (n + 1)) else then_reads (meaning line) n (reading (n + 1) lines)).fault
names-line n line lines true later = refl
names-line n line lines false later = names-meaning n lines (meaning line) later

names-place : (n : ℕ) (line : List ℕ) (lines : List (List ℕ)) (many over : Bool) → many ≡ over → (many ≡ true → n + 1 ≡ 1048577) → (many ≡ false → Names (n + 1) lines)
    → first_of (if over then (n + 1) ∷ [] else refused_at (n + 1) line ++ refused_from (n + 1 + 1) lines)
    ≡ faulty_line (if many then stops TooLong else if nat_lt 64 (length line) then stops (LongLine (n + 1)) else then_reads (meaning line) n (reading (n + 1) lines)).fault
names-place n line lines true true same at later = ap (λ n. n ∷ []) (at refl)
names-place n line lines true false same at later = cc same
names-place n line lines false true same at later = cc same
names-place n line lines false false same at later = names-line n line lines (nat_lt 64 (length line)) (later refl)

-- of lines that follow few enough others
pub names-from : (n : ℕ) (lines : List (List ℕ)) → n ≤ 1048576 → Names n lines
unfolding refused_from reading
names-from n [] few = refl
names-from n (line ∷ lines) few =
    let same : nat_le 1048576 n ≡ nat_lt 1048576 (n + 1) = grind (arith, nat_tests) in
    names-place n line lines (nat_le 1048576 n) (nat_lt 1048576 (n + 1)) same (λ e. grind (arith, nat_tests, e, few)) (λ e. names-from (n + 1) lines (grind (arith, nat_tests, e)))
