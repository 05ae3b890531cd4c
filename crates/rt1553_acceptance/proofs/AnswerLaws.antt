-- A script in which answers are stated says its events and just these answers.
use Rattle.std.proofs.Common.{ℕ, ◌≡◌, ◌∙◌, ◌+◌, ◌*◌, ◌<◌, ◌≤◌, ◌==◌, ◌||◌, nat_lt, Bool, true, false, if◌then◌else◌, List, [], ◌∷◌, ◌++◌, Option, Some, None, is_some, Result, Ok, Err, length, refl, sym, ap, subst, arith, append_assoc, append-nil, codes, ⊎_elim, inl, inr, ◌⊎◌}
use Rattle.std.specs.Result.{result_unwrap_or}
use Rattle.std.proofs.lemmas.Bool.{cases_lt}
use Rattle.std.proofs.lemmas.Bool.Decides.{nat_tests}
use Rattle.bus_word.specs.declared.cell.Cell.{Cell}
use Rattle.bus_legal.specs.Description.{Description}
use Rattle.terminal_rules.specs.declared.event.Event.{Event}
use Rattle.terminal_rules.specs.Past.{history_after}
use Rattle.bus_terminal.specs.declared.terminal.Terminal.{Terminal}
use Rattle.bus_terminal.specs.Stands.{StandsAt}
use Rattle.line_format.specs.Front.{after}
use Rattle.script_lines.specs.declared.line.LineFault.{LineFault}
use Rattle.script_lines.specs.Line.{meaning}
use Rattle.script_lines.specs.Text.{onto_first, lines_of, NoLineFeed}
use Rattle.refused_lines.specs.Refused.{mistyped}
use Rattle.bus_script.specs.Reading.{reading, adds, nothing, then_reads}
use Rattle.bus_script.proofs.ReadingLaws.{reading-line, adds-adds}
use Rattle.rt1553_verify.specs.declared.stated.StatedFault.{StatedFault}
use Rattle.rt1553_verify.specs.declared.stated.StatedFault.TheVariants.{LongLine}
use Rattle.rt1553_verify.specs.Stated.{StatedEvent, Latest, After, silent_line, by_early_end, unstated_line, by_going_on, by_mask, by_answer, line_says, bounded_line, then_events, then_lines, stated_by, stated_in}
use Rattle.rt1553_verify.specs.Verify.{wrong_answers_from, by_script}
use Rattle.rt1553_verify.proofs.StatedLaws.{stated-means, stated-line, stated-too_long}
use Rattle.rt1553_acceptance.specs.Answered.{if_event, states_line, event_meant, meant_by, stated_behind, line_answered, lines_answered, script_answered, StatesAnswers}
use Rattle.rt1553_acceptance.specs.inner.Fits.{AllFit}
use Rattle.rt1553_acceptance.specs.inner.Answering.{events_meant, WritesAnswer, IsLeft}
use Rattle.rt1553_acceptance.proofs.Pieces.{Tells-all}
use Rattle.rt1553_acceptance.proofs.Chains.{Chained, Chain-nil, Chain-trans, line_event, silent_said, fit-append}
use Rattle.rt1553_acceptance.proofs.Showing.{none-differs, all-answered, texts-alike, texts-answered}
use Rattle.rt1553_acceptance.proofs.PutLaws.{fit-joined}

-- ---- lines of a script without fault

-- a stated answer, a line that says nothing, or one that says an event
abbrev Kind : List ℕ → Type 0
Kind line =
    ((states_line line ≡ true) × (meaning line ≡ Ok None))
    ⊎ ((states_line line ≡ false) × (meaning line ≡ Ok None) × (mistyped line ≡ None) × (after (codes "#! row ") line ≡ None))
    ⊎ ((states_line line ≡ false) × ((e : Event) × (meaning line ≡ Ok (Some e))))

first-states : (line rest : List ℕ) → after (codes "#> ") line ≡ Some rest → states_line line ≡ true
first-states line rest is = ap (λ o. is_some o || (is_some (after (codes "#~ ") line) || is_some (after (codes "#+ ") line))) is

second-states : (line rest : List ℕ) → after (codes "#> ") line ≡ None → after (codes "#~ ") line ≡ Some rest → states_line line ≡ true
second-states line rest other is =
    ap (λ o. is_some o || (is_some (after (codes "#~ ") line) || is_some (after (codes "#+ ") line))) other ∙ ap (λ o. is_some o || is_some (after (codes "#+ ") line)) is

third-states : (line : List ℕ) (o : Option (List ℕ)) → after (codes "#> ") line ≡ None → after (codes "#~ ") line ≡ None → after (codes "#+ ") line ≡ o → states_line line ≡ is_some o
third-states line o other none is =
    ap (λ o. is_some o || (is_some (after (codes "#~ ") line) || is_some (after (codes "#+ ") line))) other ∙ ap (λ o. is_some o || is_some (after (codes "#+ ") line)) none ∙ ap is_some is

unstated-kind : (n : ℕ) (latest : Latest) (line : List ℕ) (result : After) (said : Result (Option Event) LineFault) → states_line line ≡ false → meaning line ≡ said
    → unstated_line false n latest line said ≡ Ok result → Kind line
unstated-kind n latest line result (Err fault) plain means e = absurd (cc)
unstated-kind n latest line result (Ok (Some event)) plain means e = inr (inr (plain, (event, means)))
unstated-kind n latest line result (Ok None) plain means e = by_end (after (codes "#! row ") line) refl e
  where
    by_column : after (codes "#! row ") line ≡ None → (o : Option ℕ) → mistyped line ≡ o → silent_line n latest o ≡ Ok result → Kind line
    by_column whole None typed e = inr (inl (plain, means, typed, whole))
    by_column whole (Some column) typed e = absurd (cc)

    by_end : (o : Option (List ℕ)) → after (codes "#! row ") line ≡ o → by_early_end n latest line o ≡ Ok result → Kind line
    by_end None whole e = by_column whole (mistyped line) refl e
    by_end (Some rest) early e = absurd (cc)

says-kind : (n : ℕ) (latest : Latest) (line : List ℕ) (result : After) → line_says false n latest line ≡ Ok result → Kind line
says-kind n latest line result e = first (after (codes "#> ") line) refl e
  where
    third : after (codes "#> ") line ≡ None → after (codes "#~ ") line ≡ None → (o : Option (List ℕ)) → after (codes "#+ ") line ≡ o → by_going_on false n latest line o ≡ Ok result → Kind line
    third other none None is e = unstated-kind n latest line result (meaning line) (third-states line None other none is) refl e
    third other none (Some rest) is e = inl (third-states line (Some rest) other none is, stated-means 43 line rest is)

    second : after (codes "#> ") line ≡ None → (o : Option (List ℕ)) → after (codes "#~ ") line ≡ o → by_mask false n latest line o ≡ Ok result → Kind line
    second other None is e = third other is (after (codes "#+ ") line) refl e
    second other (Some rest) is e = inl (second-states line rest other is, stated-means 126 line rest is)

    first : (o : Option (List ℕ)) → after (codes "#> ") line ≡ o → by_answer false n latest line o ≡ Ok result → Kind line
    first None is e = second is (after (codes "#~ ") line) refl e
    first (Some rest) is e = inl (first-states line rest is, stated-means 62 line rest is)

-- a line that states no answer says what it says in any script
plain-says : (n : ℕ) (latest : Latest) (line : List ℕ) → states_line line ≡ false → line_says false n latest line ≡ unstated_line false n latest line (meaning line)
plain-says n latest line plain = first (after (codes "#> ") line) refl
  where
    Plain : Result After StatedFault → Type 0
    Plain said = said ≡ unstated_line false n latest line (meaning line)

    third : after (codes "#> ") line ≡ None → after (codes "#~ ") line ≡ None → (o : Option (List ℕ)) → after (codes "#+ ") line ≡ o → Plain (by_going_on false n latest line o)
    third other none None is = refl
    third other none (Some rest) is = let states = sym (third-states line (Some rest) other none is) ∙ plain in absurd (cc)

    second : after (codes "#> ") line ≡ None → (o : Option (List ℕ)) → after (codes "#~ ") line ≡ o → Plain (by_mask false n latest line o)
    second other None is = third other is (after (codes "#+ ") line) refl
    second other (Some rest) is = let states = sym (second-states line rest other is) ∙ plain in absurd (cc)

    first : (o : Option (List ℕ)) → after (codes "#> ") line ≡ o → Plain (by_answer false n latest line o)
    first None is = second is (after (codes "#~ ") line) refl
    first (Some rest) is = let states = sym (first-states line rest is) ∙ plain in absurd (cc)

record Fine (line : List ℕ) : Type 0 where
  short : length line ≤ 64
  kind : Kind line

AreFine : List (List ℕ) → Type 0
AreFine [] = Unit {0}
AreFine (line ∷ lines) = Fine line × AreFine lines

bounded-fine : (n : ℕ) (latest : Latest) (line : List ℕ) (result : After) → bounded_line false n latest line ≡ Ok result → Fine line
bounded-fine n latest line result e = pick (nat_lt 64 (length line)) refl e
  where
    pick : (b : Bool) → nat_lt 64 (length line) ≡ b → (if b then Err (LongLine n) else line_says false n latest line) ≡ Ok result → Fine line
    pick true is e = absurd (cc)
    pick false is e = record { short = grind (arith, nat_tests, is); kind = says-kind n latest line result e }

-- all lines of a script without fault, which has at most so many
stated-fine : (most n : ℕ) (latest : Latest) (lines : List (List ℕ)) (ss : List StatedEvent) → stated_by false most n latest lines ≡ Ok ss → n ≤ most → AreFine lines × (n + length lines ≤ most)
unfolding stated_by AreFine
stated-fine most n latest [] ss e low = (tt, omega (arith, low))
stated-fine most n latest (line ∷ lines) ss e low = ⊎_elim (few (λ latest ss is high. stated-fine most (n + 1) latest lines ss is high)) many (cases_lt n most)
  where
    Later : Type 0
    Later = (latest : Latest) (ss : List StatedEvent) → stated_by false most (n + 1) latest lines ≡ Ok ss → n + 1 ≤ most → AreFine lines × (n + 1 + length lines ≤ most)

    Goal : Type 0
    Goal = AreFine (line ∷ lines) × (n + length (line ∷ lines) ≤ most)

    later : Later → Fine line → (after : After) (said : Result (List StatedEvent) StatedFault) → stated_by false most (n + 1) after.latest lines ≡ said → then_events after.events said ≡ Ok ss → n < most → Goal
    later read fine after (Err fault) is e high = absurd (cc)
    later read fine after (Ok others) is e high = let rest = read after.latest others is (omega (arith, high)) in ((fine, rest.0), omega (arith, rest.1))

    by_line : Later → (says : Result After StatedFault) → bounded_line false (n + 1) latest line ≡ says → then_lines says (λ l. stated_by false most (n + 1) l lines) ≡ Ok ss → n < most → Goal
    by_line read (Err fault) is e high = absurd (cc)
    by_line read (Ok after) is e high = later read (bounded-fine (n + 1) latest line after is) after (stated_by false most (n + 1) after.latest lines) refl e high

    few : Later → n < most → Goal
    few read high = by_line read (bounded_line false (n + 1) latest line) refl (sym (stated-line false most n latest line lines high) ∙ e) high

    many : most ≤ n → Goal
    many high = let many = sym (stated-too_long false most n latest line lines high) ∙ e in absurd (cc)

-- ---- the events are those that a run reads

kind-reads : (n : ℕ) (line : List ℕ) (es : List Event) → Kind line → then_reads (meaning line) n (adds es nothing) ≡ adds (event_meant line ++ es) nothing
kind-reads n line es (inl (states, means)) = ap (λ said. then_reads said n (adds es nothing)) means ∙ ap (λ said. adds (meant_by said ++ es) nothing) (sym means)
kind-reads n line es (inr (inl (plain, means, typed, whole))) = ap (λ said. then_reads said n (adds es nothing)) means ∙ ap (λ said. adds (meant_by said ++ es) nothing) (sym means)
kind-reads n line es (inr (inr (plain, (e, means)))) =
    ap (λ said. then_reads said n (adds es nothing)) means ∙ adds-adds (e ∷ []) es nothing ∙ ap (λ said. adds (meant_by said ++ es) nothing) (sym means)

fine-reads : (n : ℕ) (lines : List (List ℕ)) → AreFine lines → n + length lines ≤ 1048576 → reading n lines ≡ adds (events_meant lines) nothing
unfolding reading AreFine
fine-reads n [] fine few = refl
fine-reads n (line ∷ lines) fine few =
    reading-line n line lines (omega (arith, few)) fine.0.short ∙ ap (then_reads (meaning line) n) (fine-reads (n + 1) lines fine.1 (omega (arith, few)))
    ∙ kind-reads n line (events_meant lines) fine.0.kind

-- ---- no line of a text has a line feed

AreLines : List (List ℕ) → Type 0
AreLines [] = Unit {0}
AreLines (line ∷ lines) = NoLineFeed line × AreLines lines

onto-lines : (b : ℕ) (lines : List (List ℕ)) → (b == 10) ≡ false → AreLines lines → AreLines (onto_first b lines)
unfolding AreLines
onto-lines b [] other are = ((grind (arith, nat_tests, other), tt), tt)
onto-lines b (line ∷ lines) other are = ((grind (arith, nat_tests, other), are.0), are.1)

text-lines : (bytes : List ℕ) → AreLines (lines_of bytes)
unfolding lines_of AreLines
text-lines [] = tt
text-lines (b ∷ bytes) = pick (b == 10) refl (text-lines bytes)
  where
    pick : (t : Bool) → (b == 10) ≡ t → AreLines (lines_of bytes) → AreLines (if t then [] ∷ lines_of bytes else onto_first b (lines_of bytes))
    pick true is rest = (tt, rest)
    pick false is rest = onto-lines b (lines_of bytes) is rest

-- ---- what stands for lines, read

line-chain : (most : ℕ) (P : Description) (n : ℕ) (h : List Event) (line : List ℕ) (latest : Latest) → n + 7 < most → Fine line → NoLineFeed line → AllFit P h (event_meant line)
    → Chained most P n h (line_answered P h line) latest (event_meant line) (n + 5)
line-chain most P n h line latest few fine feeds fits = by_kind fine.kind
  where
    of : (text : List ℕ) (es : List Event) → line_answered P h line ≡ text → event_meant line ≡ es → Chained most P n h text latest es (n + 5)
        → Chained most P n h (line_answered P h line) latest (event_meant line) (n + 5)
    of text es is said chained =
        subst (λ t. Chained most P n h t latest (event_meant line) (n + 5)) (sym is) (subst (λ xs. Chained most P n h text latest xs (n + 5)) (sym said) chained)

    plain-text : states_line line ≡ false → (es : List Event) → event_meant line ≡ es → line_answered P h line ≡ line ++ 10 ∷ stated_behind P h es
    plain-text plain es said =
        ap (λ b. if b then [] else line ++ 10 ∷ stated_behind P h (event_meant line)) plain ∙ ap (λ xs. line ++ 10 ∷ stated_behind P h xs) said

    by_kind : Kind line → Chained most P n h (line_answered P h line) latest (event_meant line) (n + 5)
    by_kind (inl (states, means)) =
        of [] [] (ap (λ b. if b then [] else line ++ 10 ∷ stated_behind P h (event_meant line)) states) (ap meant_by means) (n, latest, Chain-nil most P n h latest, omega arith)
    by_kind (inr (inl (plain, means, typed, whole))) =
        of (line ++ 10 ∷ []) [] (plain-text plain [] (ap meant_by means)) (ap meant_by means) (
          n + 1,
          latest,
          silent_said most P n h line latest (omega (arith, few)) fine.short feeds
              (plain-says (n + 1) latest line plain ∙ ap (unstated_line false (n + 1) latest line) means ∙ ap (by_early_end (n + 1) latest line) whole ∙ ap (silent_line (n + 1) latest) typed),
          omega arith,
        )
    by_kind (inr (inr (plain, (e, means)))) =
        let fit : AllFit P h (e ∷ []) = subst (AllFit P h) (ap meant_by means) fits in
        of (line ++ 10 ∷ stated_behind P h (e ∷ [])) (e ∷ []) (plain-text plain (e ∷ []) (ap meant_by means)) (ap meant_by means)
        (line_event most P n h line e latest few fine.short feeds means fit.0)

lines-chain : (most : ℕ) (P : Description) (n : ℕ) (h : List Event) (lines : List (List ℕ)) (latest : Latest) → n + 6 * length lines + 7 < most → AreFine lines → AreLines lines
    → AllFit P h (events_meant lines) → Chained most P n h (lines_answered P h lines) latest (events_meant lines) (n + 5 * length lines)
unfolding lines_answered AreFine AreLines
lines-chain most P n h [] latest few fine are fits = (n, latest, Chain-nil most P n h latest, omega arith)
lines-chain most P n h (line ∷ lines) latest few fine are fits =
    let fit = fit-append P h (event_meant line) (events_meant lines) fits in
    let first = line-chain most P n h line latest (omega (arith, few)) fine.0 are.0 fit.0 in
    let rest = lines-chain most P first.0 (history_after (event_meant line) h) lines first.1 (omega (arith, few, first.3)) fine.1 are.1 fit.1 in
    (rest.0, rest.1, Chain-trans {k = rest.0} {c = rest.1} first.2 rest.2, omega (arith, first.3, rest.3))

-- ---- what was written for a line

states-means : (line : List ℕ) → states_line line ≡ true → meaning line ≡ Ok None
states-means line states = first (after (codes "#> ") line) refl
  where
    third : after (codes "#> ") line ≡ None → after (codes "#~ ") line ≡ None → (o : Option (List ℕ)) → after (codes "#+ ") line ≡ o → meaning line ≡ Ok None
    third other none None is = let plain = sym (third-states line None other none is) ∙ states in absurd (cc)
    third other none (Some rest) is = stated-means 43 line rest is

    second : after (codes "#> ") line ≡ None → (o : Option (List ℕ)) → after (codes "#~ ") line ≡ o → meaning line ≡ Ok None
    second other None is = third other is (after (codes "#+ ") line) refl
    second other (Some rest) is = stated-means 126 line rest is

    first : (o : Option (List ℕ)) → after (codes "#> ") line ≡ o → meaning line ≡ Ok None
    first None is = second is (after (codes "#~ ") line) refl
    first (Some rest) is = stated-means 62 line rest is

pub states-answered : {L : Type 0} (is_legal : L → Cell → Bool) (P : Description) (h : List Event) (t : Terminal L) (text line : List ℕ) → states_line line ≡ true → StandsAt is_legal P h t
    → WritesAnswer is_legal P h t text text (line_answered P h line) (event_meant line)
states-answered is_legal P h t text line states stands =
    let none : event_meant line ≡ [] = ap meant_by (states-means line states) in
    let empty : line_answered P h line ≡ [] = ap (λ b. if b then [] else line ++ 10 ∷ stated_behind P h (event_meant line)) states in
    record {
      at = subst (λ es. StandsAt is_legal P (history_after es h) t) (sym none) stands;
      text = sym (append-nil text) ∙ ap (λ xs. text ++ xs) (sym empty);
      fit = subst (AllFit P h) (sym none) tt;
    }

pub plain-answered : {L : Type 0} (is_legal : L → Cell → Bool) (P : Description) (h : List Event) (t : Terminal L) (old first second new line : List ℕ) (event : Option Event)
    → states_line line ≡ false → first ≡ old ++ line → second ≡ first ++ 10 ∷ [] → event ≡ result_unwrap_or (meaning line) None
    → WritesAnswer is_legal P h t second new (stated_behind P h (if_event event)) (if_event event) → WritesAnswer is_legal P h t old new (line_answered P h line) (event_meant line)
plain-answered is_legal P h t old first second new line event plain copied fed says a =
    let is : if_event event ≡ event_meant line = ap if_event says in
    let behind = stated_behind P h (if_event event) in
    record {
      at = subst (λ es. StandsAt is_legal P (history_after es h) t) is a.at;
      text = a.text ∙ ap (λ xs. xs ++ behind) (fed ∙ ap (λ xs. xs ++ 10 ∷ []) copied) ∙ append_assoc (old ++ line) (10 ∷ []) behind ∙ append_assoc old line (10 ∷ behind)
          ∙ ap (λ es. old ++ (line ++ 10 ∷ stated_behind P h es)) is ∙ ap (λ b. old ++ (if b then [] else line ++ 10 ∷ stated_behind P h (event_meant line))) (sym plain);
      fit = subst (AllFit P h) is a.fit;
    }

-- one line less is left
pub left-on : {L : Type 0} {is_legal : L → Cell → Bool} {P : Description} {t t' : Terminal L} {text text' rest script : List ℕ} (i : IsLeft is_legal P t text rest script) (line more : List ℕ)
    → lines_of rest ≡ line ∷ lines_of more → WritesAnswer is_legal P i.h t' text text' (line_answered P i.h line) (event_meant line) → IsLeft is_legal P t' text' more script
unfolding lines_answered
left-on {is_legal = is_legal} {P = P} {text = text} i line more first a =
    let later = lines_answered P (history_after (event_meant line) i.h) (lines_of more) in
    record {
      h = history_after (event_meant line) i.h;
      at = a.at;
      all = ap (λ xs. xs ++ later) a.text ∙ append_assoc text (line_answered P i.h line) later ∙ ap (λ ls. text ++ lines_answered P i.h ls) (sym first) ∙ i.all;
      fit = λ fits. i.fit (subst (λ ls. AllFit P i.h (events_meant ls)) (sym first) (fit-joined P i.h (event_meant line) (events_meant (lines_of more)) a.fit fits));
    }

pub no-lines : (rest : List ℕ) → length rest ≡ 0 → length (lines_of rest) ≡ 0
unfolding lines_of
no-lines [] none = refl
no-lines (b ∷ rest) none = absurd (omega (arith, none))

-- nothing is left
pub left-all : {L : Type 0} {is_legal : L → Cell → Bool} {P : Description} {t : Terminal L} {text script : List ℕ} (rest : List ℕ) → length rest ≡ 0 → IsLeft is_legal P t text rest script
    → (text ≡ script_answered P script) × AllFit P [] (events_meant (lines_of script))
unfolding lines_answered lines_of
left-all {text = text} [] none i = (sym (append-nil text) ∙ i.all, i.fit tt)
left-all (b ∷ rest) none i = absurd (omega (arith, none))

-- ---- the script with its answers

-- as long as there is room for all lines, it is one whether there is more
stated-room : (m k n : ℕ) (latest : Latest) (lines : List (List ℕ)) → n + length lines ≤ m → n + length lines ≤ k → stated_by false m n latest lines ≡ stated_by false k n latest lines
unfolding stated_by
stated-room m k n latest [] low high = refl
stated-room m k n latest (line ∷ lines) low high =
    stated-line false m n latest line lines (omega (arith, low)) ∙ on (bounded_line false (n + 1) latest line) (λ l. stated-room m k (n + 1) l lines (omega (arith, low)) (omega (arith, high)))
    ∙ sym (stated-line false k n latest line lines (omega (arith, high)))
  where
    on : (says : Result After StatedFault) → ((l : Latest) → stated_by false m (n + 1) l lines ≡ stated_by false k (n + 1) l lines)
        → then_lines says (λ l. stated_by false m (n + 1) l lines) ≡ then_lines says (λ l. stated_by false k (n + 1) l lines)
    on (Err fault) same = refl
    on (Ok after) same = ap (then_events after.events) (same after.latest)

pub answers-law : (P : Description) (script text : List ℕ) (before : List StatedEvent) → stated_in script ≡ Ok before → AllFit P [] (events_meant (lines_of script))
    → text ≡ script_answered P script → length (lines_of text) ≤ 1048576 → StatesAnswers P script text
answers-law P script text before accepted fits is few =
    let lines = lines_of script in
    let most : ℕ = 6 * length lines + 8 + 1048576 in
    let fine = stated-fine 1048576 0 None lines before accepted (omega arith) in
    let told = lines-chain most P 0 [] lines None (omega arith) fine.0 (text-lines script) fits in
    let chain = told.2 in
    let reads : stated_in text ≡ Ok chain.stated =
    stated-room 1048576 most 0 None (lines_of text) (omega (arith, few)) (omega (arith, few)) ∙ ap (λ bytes. stated_by false most 0 None (lines_of bytes)) is ∙ Tells-all (chain.tells refl) (chain.gives refl) ∙ ap Ok chain.splits in
    record {
      is = is;
      before = before;
      accepted = accepted;
      stated = chain.stated;
      reads = reads;
      events = fine-reads 0 lines fine.0 fine.1 ∙ ap (λ es. adds es nothing) (sym chain.events);
      answers = chain.answers;
      own = ap (by_script P) reads ∙ ap Ok (none-differs P [] chain.stated chain.answers);
      others = λ Q. (
        (λ passes.
            let none : wrong_answers_from Q [] chain.stated ≡ [] = let e = sym (ap (by_script Q) reads) ∙ passes in cc in
            texts-alike P Q [] chain.stated chain.answers (all-answered P Q [] [] chain.stated chain.answers none)),
        (λ alike. ap (by_script Q) reads ∙ ap Ok (none-differs Q [] chain.stated (texts-answered P Q [] chain.stated chain.answers alike))),
      );
    }
