-- What comes of the lines that are left, one line after another.
use Rattle.std.proofs.Common.{ℕ, ◌≡◌, ◌∙◌, ◌+◌, ◌<◌, ◌≤◌, Bool, true, false, if◌then◌else◌, List, [], ◌∷◌, ◌++◌, Option, Some, None, length, map, take, drop, replicate, refl, sym, ap, arith, append_assoc, append-nil, flat_map}
use Rattle.std.proofs.lemmas.List.{map-append, take_all, take-append-drop, drop-drop, length-append, length-drop, length-take-le}
use Rattle.std.proofs.lemmas.Grind.{flat_map-append}
use Rattle.terminal_rules.specs.declared.event.Event.{Event}
use Rattle.script_lines.specs.Text.{lines_of}
use Rattle.script_lines.specs.EventLine.{event_line, script_text}
use Rattle.rt1553_expand.specs.declared.script_for.ScriptFor.{ScriptFor}
use Rattle.rt1553_expand.specs.Placing.{ScriptLine, Statement, Placing, is_stating, is_more, is_hand, can_have, event_at, among_events, nothing_placed, lines_in_order, leading, statement_lines}
use Rattle.rt1553_expand.specs.Expansion.{Expansion, Stays, Gives, events_said, events_given, lines_given, is_statement, with_expansion, with_expanded, expansion_of, placing, spelled}
use Rattle.rt1553_expand.specs.inner.StillLeft.{StillLeft, to_come, first_can_have, count_up_to, events_before_statement, events_before_line, own_line, left_behind}

-- ---- a message

among_events-end : (n : ℕ) (es : List Event) → among_events n es [] ≡ map (event_at n) es
among_events-end n [] = refl
among_events-end n (e ∷ es) = ap (λ ls. event_at n e ∷ ls) (among_events-end n es)

-- a statement comes behind the first event that can have it
among_events-statement : (n : ℕ) (es : List Event) (s : Statement) (ss : List Statement)
    → among_events n es (s ∷ ss) ≡ map (event_at n) (take (count_up_to (is_hand s.first.text) es) es) ++ (statement_lines s ++ among_events n (drop (count_up_to (is_hand s.first.text) es) es) ss)
among_events-statement n [] s ss = refl
among_events-statement n (e ∷ es) s ss = case (can_have (is_hand s.first.text) e es) refl (among_events-statement n es s ss)
  where
    case : (t : Bool) → can_have (is_hand s.first.text) e es ≡ t
        → among_events n es (s ∷ ss) ≡ map (event_at n) (take (count_up_to (is_hand s.first.text) es) es) ++ (statement_lines s ++ among_events n (drop (count_up_to (is_hand s.first.text) es) es) ss)
        → among_events n (e ∷ es) (s ∷ ss)
        ≡ map (event_at n) (take (count_up_to (is_hand s.first.text) (e ∷ es)) (e ∷ es)) ++ (statement_lines s ++ among_events n (drop (count_up_to (is_hand s.first.text) (e ∷ es)) (e ∷ es)) ss)
    case true is later = rw is refl
    case false is later = rw is (ap (λ ls. event_at n e ∷ ls) later)

-- ---- one line

joined : {A : Type 0} (a m b c : List A) (l : A) → (a ++ ((l ∷ m) ++ b)) ++ c ≡ a ++ ((l ∷ []) ++ (m ++ (b ++ c)))
joined a m b c l = append_assoc a ((l ∷ m) ++ b) c ∙ ap (λ ls. a ++ (l ∷ ls)) (append_assoc m b c)

all-among_events : (k : ℕ) (es : List Event) (rest : List ScriptLine) → among_events k es [] ++ rest ≡ map (event_at k) (take (length es) es) ++ rest
all-among_events k es rest = ap (λ ls. ls ++ rest) (among_events-end k es ∙ ap (map (event_at k)) (sym (take_all (length es) es (omega arith))))

gives-come : (n k : ℕ) (es fs : List Event) (fresh : Bool) (p : Placing) → let l : StillLeft = record { events = es; source = k; fresh = fresh } in
    to_come l (with_expansion n (Gives fs) p) ≡ map (event_at k) (take (length es) es) ++ ([] ++ to_come (left_behind n l (Gives fs)) p)
gives-come n k es fs true p = all-among_events k es _
gives-come n k es fs false p = all-among_events k es _

statement-come : (k : ℕ) (es : List Event) (l : ScriptLine) (p : Placing)
    → among_events k es (record { first = l; more = p.more } ∷ p.statements) ++ p.script
    ≡ map (event_at k) (take (count_up_to (is_hand l.text) es) es) ++ ((l ∷ []) ++ (p.more ++ (among_events k (drop (count_up_to (is_hand l.text) es) es) p.statements ++ p.script)))
statement-come k es l p = ap (λ ls. ls ++ p.script) (among_events-statement k es _ p.statements) ∙ joined _ p.more _ p.script l

stays-come : (n k : ℕ) (es : List Event) (line : List ℕ) (said : Option Event) (fresh : Bool) (p : Placing) → let l : StillLeft = record { events = es; source = k; fresh = fresh } in
    to_come l (with_expansion n (Stays line said) p)
    ≡ map (event_at k) (take (events_before_line l (Stays line said)) es) ++ (own_line n (Stays line said) ++ to_come (left_behind n l (Stays line said)) p)
stays-come n k es line said fresh p = case (is_statement line said) refl (is_more line) refl fresh
  where
    case : (t : Bool) → is_statement line said ≡ t → (g : Bool) → is_more line ≡ g → (f : Bool) → let l : StillLeft = record { events = es; source = k; fresh = f } in
        to_come l (with_expansion n (Stays line said) p)
        ≡ map (event_at k) (take (events_before_line l (Stays line said)) es) ++ (own_line n (Stays line said) ++ to_come (left_behind n l (Stays line said)) p)
    case false is g goes true = rw is (all-among_events k es _)
    case false is g goes false = rw is (all-among_events k es _)
    case true is true goes true = rw is (rw goes (statement-come k es (record { text = line; source = n }) p))
    case true is true goes false = rw is (rw goes refl)
    case true is false goes true = rw is (rw goes (statement-come k es (record { text = line; source = n }) p))
    case true is false goes false = rw is (rw goes (statement-come k es (record { text = line; source = n }) p))

-- the events that come before a line, the line, and what comes behind it
come-on : (n : ℕ) (l : StillLeft) (x : Expansion) (p : Placing)
    → to_come l (with_expansion n x p) ≡ map (event_at l.source) (take (events_before_line l x) l.events) ++ (own_line n x ++ to_come (left_behind n l x) p)
come-on n l (Gives es) p = gives-come n l.source l.events es l.fresh p
come-on n l (Stays line said) p = stays-come n l.source l.events line said l.fresh p

come-end : (l : StillLeft) → to_come l nothing_placed ≡ map (event_at l.source) l.events
come-end l = case l.fresh refl
  where
    case : (f : Bool) → l.fresh ≡ f → to_come l nothing_placed ≡ map (event_at l.source) l.events
    case true is = rw is (append-nil (among_events l.source l.events []) ∙ among_events-end l.source l.events)
    case false is = rw is (append-nil (among_events l.source l.events []) ∙ among_events-end l.source l.events)

-- ---- the events and the count of a line

abbrev pub own_said : Expansion → List Event
own_said (Gives es) = []
own_said (Stays line said) = events_said said

pub events-split : (n : ℕ) (l : StillLeft) (x : Expansion) → l.events ++ events_given x ≡ take (events_before_line l x) l.events ++ (own_said x ++ (left_behind n l x).events)
events-split n l (Gives es) = ap (λ ls. ls ++ es) (sym (take_all (length l.events) l.events (omega arith)))
events-split n l (Stays line None) = case (is_stating line) refl
  where
    case : (t : Bool) → is_stating line ≡ t → l.events ++ [] ≡ take (events_before_line l (Stays line None)) l.events ++ ([] ++ (left_behind n l (Stays line None)).events)
    case true is = rw is (append-nil l.events ∙ sym (take-append-drop (events_before_statement l line) l.events))
    case false is = rw is (ap (λ ls. ls ++ []) (sym (take_all (length l.events) l.events (omega arith))))
events-split n l (Stays line (Some e)) = ap (λ ls. ls ++ e ∷ []) (sym (take_all (length l.events) l.events (omega arith)))

abbrev pub own_count : Expansion → ℕ
own_count (Gives es) = 0
own_count (Stays line said) = 1

pub count-split : (n : ℕ) (l : StillLeft) (x : Expansion) → length l.events + lines_given x ≡ length (take (events_before_line l x) l.events) + (own_count x + length (left_behind n l x).events)
count-split n l (Gives es) = omega (arith, ap length (take_all (length l.events) l.events (omega arith)))
count-split n l (Stays line said) = case (is_statement line said) refl
  where
    case : (t : Bool) → is_statement line said ≡ t
        → length l.events + 1 ≡ length (take (events_before_line l (Stays line said)) l.events) + (1 + length (left_behind n l (Stays line said)).events)
    case true is = rw is
        (let both : length (take (events_before_statement l line) l.events ++ drop (events_before_statement l line) l.events) ≡ length l.events = ap length (take-append-drop (events_before_statement l line) l.events) in
        let parts : length (take (events_before_statement l line) l.events ++ drop (events_before_statement l line) l.events) ≡ length (take (events_before_statement l line) l.events) + length (drop (events_before_statement l line) l.events)
        = length-append (take (events_before_statement l line) l.events) (drop (events_before_statement l line) l.events) in
        omega (arith, both, parts))
    case false is = rw is (ap (λ ls. length ls + 1) (sym (take_all (length l.events) l.events (omega arith))))

-- ---- texts

events-spelled : (k : ℕ) (es : List Event) → flat_map spelled (map (event_at k) es) ≡ script_text es
events-spelled k [] = refl
events-spelled k (e ∷ es) = ap (λ t. event_line e ++ t) (events-spelled k es)

-- the text of what was written, and of what is to come
pub text-on : (n : ℕ) (l : StillLeft) (x : Expansion) (p : Placing) (old mid new : List ℕ) → mid ≡ old ++ script_text (take (events_before_line l x) l.events) → new ≡ mid ++ flat_map spelled (own_line n x)
    → old ++ flat_map spelled (to_come l (with_expansion n x p)) ≡ new ++ flat_map spelled (to_come (left_behind n l x) p)
text-on n l x p old mid new before own =
    let es : List ScriptLine = map (event_at l.source) (take (events_before_line l x) l.events) in
    let more : List ScriptLine = to_come (left_behind n l x) p in
    ap (λ ls. old ++ flat_map spelled ls) (come-on n l x p)
    ∙ ap (λ t. old ++ t) (flat_map-append spelled es (own_line n x ++ more))
    ∙ ap (λ t. old ++ (t ++ flat_map spelled (own_line n x ++ more))) (events-spelled l.source (take (events_before_line l x) l.events))
    ∙ sym (append_assoc old (script_text (take (events_before_line l x) l.events)) (flat_map spelled (own_line n x ++ more)))
    ∙ ap (λ t. t ++ flat_map spelled (own_line n x ++ more)) (sym before)
    ∙ ap (λ t. mid ++ t) (flat_map-append spelled (own_line n x) more)
    ∙ sym (append_assoc mid (flat_map spelled (own_line n x)) (flat_map spelled more))
    ∙ ap (λ t. t ++ flat_map spelled more) (sym own)

pub text-end : (l : StillLeft) (old new : List ℕ) → new ≡ old ++ script_text l.events → old ++ flat_map spelled (to_come l nothing_placed) ≡ new
text-end l old new written = ap (λ ls. old ++ flat_map spelled ls) (come-end l) ∙ ap (λ t. old ++ t) (events-spelled l.source l.events) ∙ sym written

-- ---- where lines come from

abbrev sources : List ScriptLine → List ℕ
sources ls = map (λ l. l.source) ls

events-from : (k : ℕ) (es : List Event) → sources (map (event_at k) es) ≡ replicate (length es) k
events-from k [] = refl
events-from k (e ∷ es) = ap (λ ns. k ∷ ns) (events-from k es)

pub sources-on : (n : ℕ) (l : StillLeft) (x : Expansion) (p : Placing) (old mid new : List ℕ) → events_before_line l x ≤ length l.events → mid ≡ old ++ replicate (events_before_line l x) l.source → new ≡ mid ++ sources (own_line n x)
    → old ++ sources (to_come l (with_expansion n x p)) ≡ new ++ sources (to_come (left_behind n l x) p)
sources-on n l x p old mid new within before own =
    let es : List ScriptLine = map (event_at l.source) (take (events_before_line l x) l.events) in
    let more : List ScriptLine = to_come (left_behind n l x) p in
    ap (λ ls. old ++ sources ls) (come-on n l x p)
    ∙ ap (λ t. old ++ t) (map-append (λ l. l.source) es (own_line n x ++ more))
    ∙ ap (λ t. old ++ (t ++ sources (own_line n x ++ more))) (events-from l.source (take (events_before_line l x) l.events) ∙ ap (λ c. replicate c l.source) (length-take-le (events_before_line l x) l.events within))
    ∙ sym (append_assoc old (replicate (events_before_line l x) l.source) (sources (own_line n x ++ more)))
    ∙ ap (λ t. t ++ sources (own_line n x ++ more)) (sym before)
    ∙ ap (λ t. mid ++ t) (map-append (λ l. l.source) (own_line n x) more)
    ∙ sym (append_assoc mid (sources (own_line n x)) (sources more))
    ∙ ap (λ t. t ++ sources more) (sym own)

pub sources-end : (l : StillLeft) (old new : List ℕ) → new ≡ old ++ replicate (length l.events) l.source → old ++ sources (to_come l nothing_placed) ≡ new
sources-end l old new written = ap (λ ls. old ++ sources ls) (come-end l) ∙ ap (λ t. old ++ t) (events-from l.source l.events) ∙ sym written

-- ---- lines of a text

pub placing-on : (own : ScriptFor) (n : ℕ) (rest line more : List ℕ) → lines_of rest ≡ line ∷ lines_of more
    → placing own n (lines_of rest) ≡ with_expanded n (expansion_of own line) (placing own (n + 1) (lines_of more))
unfolding placing
placing-on own n rest line more first = ap (placing own n) first

pub placing-none : (own : ScriptFor) (n : ℕ) (rest : List ℕ) → length rest ≡ 0 → placing own n (lines_of rest) ≡ nothing_placed
unfolding placing lines_of
placing-none own n [] none = refl
placing-none own n (b ∷ bytes) none = absurd (omega (arith, none))

-- nothing is left before the first line
pub come-start : (l : StillLeft) (p : Placing) → l.events ≡ [] → l.fresh ≡ false → to_come l p ≡ lines_in_order p
come-start l p none stale = ap (λ f. if f then among_events l.source l.events (leading p.more ++ p.statements) ++ p.script else p.more ++ (among_events l.source l.events p.statements ++ p.script)) stale
    ∙ ap (λ es. p.more ++ (among_events l.source es p.statements ++ p.script)) none

-- ---- the first event that can have an answer

count_up_to-next : (hand : Bool) (es : List Event) → 0 < length es → first_can_have hand es ≡ false → count_up_to hand es ≡ 1 + count_up_to hand (drop 1 es)
count_up_to-next hand [] some is = absurd (omega (arith, some))
count_up_to-next hand (e ∷ es) some is = rw is (omega arith)

-- one event more that cannot have it
pub count_up_to-on : (hand : Bool) (es : List Event) (i : ℕ) (rest : List Event) (t : Bool) → i < length es → count_up_to hand es ≡ i + count_up_to hand (drop i es) → rest ≡ drop i es
    → t ≡ first_can_have hand rest → t ≡ false → count_up_to hand es ≡ (i + 1) + count_up_to hand (drop (i + 1) es)
count_up_to-on hand es i rest t low before is tested not_it =
    let some : 0 < length (drop i es) = omega (arith, low, length-drop i es) in
    let next : count_up_to hand (drop i es) ≡ 1 + count_up_to hand (drop 1 (drop i es)) = count_up_to-next hand (drop i es) some (ap (first_can_have hand) (sym is) ∙ sym tested ∙ not_it) in
    let same : count_up_to hand (drop 1 (drop i es)) ≡ count_up_to hand (drop (i + 1) es) = ap (count_up_to hand) (drop-drop 1 i es) in
    omega (arith, before, next, same)
