-- Laws of what a script says that states its answers.
use Rattle.std.proofs.Common.{ℕ, ◌≡◌, ◌∙◌, ◌+◌, ◌<◌, ◌≤◌, Bool, true, false, ◌&&◌, ◌==◌, cond, List, [], ◌∷◌, ◌++◌, Option, Some, None, Result, Ok, Err, length, map, refl, sym, ap, arith, append_assoc, append-nil, codes, ⊎_elim}
use Rattle.std.proofs.lemmas.Bool.{cases_lt}
use Rattle.std.proofs.lemmas.Bool.Decides.{nat_tests}
use Rattle.std.proofs.lemmas.List.{map-append}
use Rattle.terminal_rules.specs.declared.event.Event.{Event}
use Rattle.line_format.specs.Front.{after}
use Rattle.line_format.proofs.Digits.{after-is}
use Rattle.script_lines.specs.declared.line.LineFault.{LineFault}
use Rattle.script_lines.specs.Line.{meaning}
use Rattle.script_lines.specs.Text.{lines_of}
use Rattle.refused_lines.specs.Refused.{mistyped}
use Rattle.bus_script.specs.Reading.{Reading, reading, adds, nothing, then_reads}
use Rattle.bus_script.proofs.ReadingLaws.{reading-line, adds-adds}
use Rattle.rt1553_verify.specs.declared.stated.StatedFault.{StatedFault}
use Rattle.rt1553_verify.specs.declared.stated.StatedFault.TheVariants.{LongLine, TooLong, Impossible}
use Rattle.rt1553_verify.specs.declared.matching.Matching.{Matching}
use Rattle.rt1553_verify.specs.declared.matching.Matching.TheVariants.{Exact}
use Rattle.rt1553_verify.specs.Stated.{StatedEvent, Latest, After, is_unanswered, states_answer, says_bytes, can_match, matching_of, small_digit, small_digits, states, goes_on, can_be_given, ended, all_stated, then_event, stays, or_misplaced, silent_line, by_early_end, unstated_line, by_going_on, by_mask, by_answer, line_says, bounded_line, then_events, then_lines, stated_by}

-- a comment says no event
comment-means : (line : List ℕ) → meaning (35 ∷ line) ≡ Ok None
unfolding meaning
comment-means line = refl

pub stated-means : (c : ℕ) (line rest : List ℕ) → after (35 ∷ c ∷ 32 ∷ []) line ≡ Some rest → meaning line ≡ Ok None
stated-means c line rest is = ap meaning (after-is (35 ∷ c ∷ 32 ∷ []) line rest is) ∙ comment-means (c ∷ 32 ∷ rest)

-- what was stated of the latest event, if a terminal can give it
pub all-ended : (latest : Latest) (es : List StatedEvent) → all_stated latest ≡ Ok es → es ≡ ended latest
all-ended None es e = cc
all-ended (Some s) es e = pick (can_be_given s.matching s.answer) e
  where
    pick : (b : Bool) → cond b (Ok (ended (Some s))) (Err (Impossible s.answer_line)) ≡ Ok es → es ≡ ended (Some s)
    pick true e = cc
    pick false e = absurd (cc)

-- ---- line by line

abbrev Said : Type 0
Said = Result (List StatedEvent) StatedFault

pub then-twice : (es fs : List StatedEvent) (later : Said) → then_events es (then_events fs later) ≡ then_events (es ++ fs) later
then-twice es fs (Ok later) = ap Ok (sym (append_assoc es fs later))
then-twice es fs (Err fault) = refl

pub then-none : (said : Said) → then_events [] said ≡ said
then-none (Ok later) = refl
then-none (Err fault) = refl

pub bounded-short : (r : Bool) (n : ℕ) (latest : Latest) (line : List ℕ) → length line ≤ 64 → bounded_line r n latest line ≡ line_says r n latest line
bounded-short r n latest line short = grind (arith, nat_tests)

bounded-long : (r : Bool) (n : ℕ) (latest : Latest) (line : List ℕ) → 64 < length line → bounded_line r n latest line ≡ Err (LongLine n)
bounded-long r n latest line long = grind (arith, nat_tests)

-- a line in its place
pub stated-line : (r : Bool) (most n : ℕ) (latest : Latest) (line : List ℕ) (lines : List (List ℕ)) → n < most
    → stated_by r most n latest (line ∷ lines) ≡ then_lines (bounded_line r (n + 1) latest line) (λ l. stated_by r most (n + 1) l lines)
unfolding stated_by
stated-line r most n latest line lines few = grind (arith, nat_tests)

pub stated-too_long : (r : Bool) (most n : ℕ) (latest : Latest) (line : List ℕ) (lines : List (List ℕ)) → most ≤ n → stated_by r most n latest (line ∷ lines) ≡ Err TooLong
unfolding stated_by
stated-too_long r most n latest line lines many = grind (arith, nat_tests)

-- one line more was read
pub stated_on : (r : Bool) (most n : ℕ) (rest line more : List ℕ) (latest now : Latest) (old es new : List StatedEvent) (all : Said)
    → n < most → lines_of rest ≡ line ∷ lines_of more
    → bounded_line r (n + 1) latest line ≡ Ok (record { events = es; latest = now }) → new ≡ old ++ es
    → all ≡ then_events old (stated_by r most n latest (lines_of rest)) → all ≡ then_events new (stated_by r most (n + 1) now (lines_of more))
stated_on r most n rest line more latest now old es new all few first says grown before =
    let later : Said = stated_by r most (n + 1) now (lines_of more) in
    before
    ∙ ap (λ ls. then_events old (stated_by r most n latest ls)) first
    ∙ ap (then_events old) (stated-line r most n latest line (lines_of more) few ∙ ap (λ s. then_lines s (λ l. stated_by r most (n + 1) l (lines_of more))) says)
    ∙ then-twice old es later
    ∙ ap (λ xs. then_events xs later) (sym grown)

-- a line is refused
pub stated_stops : (r : Bool) (most n : ℕ) (rest line more : List ℕ) (latest : Latest) (old : List StatedEvent) (all : Said) (fault : StatedFault)
    → n < most → lines_of rest ≡ line ∷ lines_of more → bounded_line r (n + 1) latest line ≡ Err fault
    → all ≡ then_events old (stated_by r most n latest (lines_of rest)) → all ≡ Err fault
stated_stops r most n rest line more latest old all fault few first says before =
    before
    ∙ ap (λ ls. then_events old (stated_by r most n latest ls)) first
    ∙ ap (then_events old) (stated-line r most n latest line (lines_of more) few ∙ ap (λ s. then_lines s (λ l. stated_by r most (n + 1) l (lines_of more))) says)

pub stated_many : (r : Bool) (most n : ℕ) (rest line more : List ℕ) (latest : Latest) (old : List StatedEvent) (all : Said)
    → most ≤ n → lines_of rest ≡ line ∷ lines_of more → all ≡ then_events old (stated_by r most n latest (lines_of rest)) → all ≡ Err TooLong
stated_many r most n rest line more latest old all many first before =
    before ∙ ap (λ ls. then_events old (stated_by r most n latest ls)) first ∙ ap (then_events old) (stated-too_long r most n latest line (lines_of more) many)

pub stated-none : (r : Bool) (most n : ℕ) (latest : Latest) → stated_by r most n latest (lines_of []) ≡ all_stated latest
unfolding stated_by lines_of
stated-none r most n latest = refl

-- all lines were read
pub stated_all : (r : Bool) (most n : ℕ) (rest : List ℕ) (latest : Latest) (old es new : List StatedEvent) (all : Said)
    → length rest ≡ 0 → all_stated latest ≡ Ok es → new ≡ old ++ es → all ≡ then_events old (stated_by r most n latest (lines_of rest)) → all ≡ Ok new
stated_all r most n [] latest old es new all none last grown before = before ∙ ap (then_events old) (stated-none r most n latest ∙ last) ∙ ap Ok (sym grown)
stated_all r most n (b ∷ rest) latest old es new all none last grown before = absurd (omega (arith, none))

pub none-left : (rest : List ℕ) (b : Bool) → b ≡ (length rest == 0) → b ≡ true → length rest ≡ 0
none-left rest true is ends = grind (arith, nat_tests, is)
none-left rest false is ends = absurd (cc)

-- or the answer to the last event is refused
pub stated_refused : (r : Bool) (most n : ℕ) (rest : List ℕ) (latest : Latest) (old : List StatedEvent) (all : Said) (fault : StatedFault)
    → length rest ≡ 0 → all_stated latest ≡ Err fault → all ≡ then_events old (stated_by r most n latest (lines_of rest)) → all ≡ Err fault
stated_refused r most n [] latest old all fault none last before = before ∙ ap (then_events old) (stated-none r most n latest ∙ last)
stated_refused r most n (b ∷ rest) latest old all fault none last before = absurd (omega (arith, none))

-- ---- the events are those that a run reads

-- the events of a line: those that a run reads there, behind the latest
record Line (n : ℕ) (latest : Latest) (line : List ℕ) (after : After) : Type 0 where
  events : List Event
  means : (r : Reading) → then_reads (meaning line) n r ≡ adds events r
  are : map (λ s. s.event) after.events ++ map (λ s. s.event) (ended after.latest) ≡ map (λ s. s.event) (ended latest) ++ events

-- a line that states an answer says no event
stays-line : (n m : ℕ) (latest : Latest) (o : Option StatedEvent) (line : List ℕ) (after : After) → meaning line ≡ Ok None
    → ((s : StatedEvent) → o ≡ Some s → map (λ s. s.event) (ended (Some s)) ≡ map (λ s. s.event) (ended latest)) → or_misplaced m o ≡ Ok after → Line n latest line after
stays-line n m latest None line after comment same e = absurd (cc)
stays-line n m latest (Some s) line after comment same e = let is : after ≡ stays (Some s) = cc in record {
  events = [];
  means = λ r. ap (λ x. then_reads x n r) comment;
  are = ap (λ a. map (λ s. s.event) a.events ++ map (λ s. s.event) (ended a.latest)) is ∙ same s refl ∙ sym (append-nil _);
}

states-event : (n : ℕ) (matching : Matching) (latest : Latest) (line : List ℕ) (s : StatedEvent) → states n matching latest line ≡ Some s → map (λ s. s.event) (ended (Some s)) ≡ map (λ s. s.event) (ended latest)
states-event n matching None line s e = absurd (cc)
states-event n matching (Some l) line s e = pick (is_unanswered l && can_match matching l.event line) e
  where
    pick : (b : Bool) → cond b (Some (record l { matching = matching; answer_line = n; answer = line })) None ≡ Some s → map (λ s. s.event) (ended (Some s)) ≡ map (λ s. s.event) (ended (Some l))
    pick true e = let is : s ≡ record l { matching = matching; answer_line = n; answer = line } = cc in ap (λ x. x.event ∷ []) is
    pick false e = absurd (cc)

goes_on-event : (latest : Latest) (rest : List ℕ) (s : StatedEvent) → goes_on latest rest ≡ Some s → map (λ s. s.event) (ended (Some s)) ≡ map (λ s. s.event) (ended latest)
goes_on-event None rest s e = absurd (cc)
goes_on-event (Some l) rest s e = pick (states_answer l && says_bytes l.matching) e
  where
    pick : (b : Bool) → cond b (Some (record l { answer = l.answer ++ 32 ∷ rest })) None ≡ Some s → map (λ s. s.event) (ended (Some s)) ≡ map (λ s. s.event) (ended (Some l))
    pick true e = let is : s ≡ record l { answer = l.answer ++ 32 ∷ rest } = cc in ap (λ x. x.event ∷ []) is
    pick false e = absurd (cc)

silent-stays : (m : ℕ) (latest : Latest) (o : Option ℕ) (after : After) → silent_line m latest o ≡ Ok after → after ≡ stays latest
silent-stays m latest None after e = cc e
silent-stays m latest (Some column) after e = absurd (cc)

early-stays : (m : ℕ) (latest : Latest) (line : List ℕ) (o : Option (List ℕ)) (after : After) → by_early_end m latest line o ≡ Ok after → after ≡ stays latest
early-stays m latest line None after e = silent-stays m latest (mistyped line) after e
early-stays m latest line (Some rest) after e = absurd (cc)

unstated-line : (n m : ℕ) (latest : Latest) (x : Result (Option Event) LineFault) (line : List ℕ) (after : After) → meaning line ≡ x → unstated_line false m latest line x ≡ Ok after → Line n latest line after
unstated-line n m latest (Err fault) line after says e = absurd (cc)
unstated-line n m latest (Ok None) line result says e = record {
  events = [];
  means = λ r. ap (λ x. then_reads x n r) says;
  are = ap (λ a. map (λ s. s.event) a.events ++ map (λ s. s.event) (ended a.latest)) (early-stays m latest line (after (codes "#! row ") line) result e) ∙ sym (append-nil _);
}
unstated-line n m latest (Ok (Some event)) line after says e = by_last (all_stated latest) refl e
  where
    new : StatedEvent
    new = record { line = m; event = event; matching = Exact; answer_line = 0; answer = [] }

    by_last : (last : Said) → all_stated latest ≡ last → then_event m event Exact last ≡ Ok after → Line n latest line after
    by_last (Err fault) last e = absurd (cc)
    by_last (Ok es) last e =
        let is : after ≡ record { events = es; latest = Some new } = cc in record {
          events = event ∷ [];
          means = λ r. ap (λ x. then_reads x n r) says;
          are = ap (λ a. map (λ s. s.event) a.events ++ map (λ s. s.event) (ended a.latest)) is ∙ ap (λ xs. map (λ s. s.event) xs ++ event ∷ []) (all-ended latest es last);
        }

says-line : (n m : ℕ) (latest : Latest) (line : List ℕ) (result : After) → line_says false m latest line ≡ Ok result → Line n latest line result
says-line n m latest line result e = first (after (codes "#> ") line) refl e
  where
    third : (o : Option (List ℕ)) → after (codes "#+ ") line ≡ o → by_going_on false m latest line o ≡ Ok result → Line n latest line result
    third None is e = unstated-line n m latest (meaning line) line result refl e
    third (Some rest) is e = stays-line n m latest (goes_on latest (map small_digit rest)) line result (stated-means 43 line rest is) (goes_on-event latest (map small_digit rest)) e

    second : (o : Option (List ℕ)) → after (codes "#~ ") line ≡ o → by_mask false m latest line o ≡ Ok result → Line n latest line result
    second None is e = third (after (codes "#+ ") line) refl e
    second (Some mask) is e = stays-line n m latest (states m (matching_of mask) latest (small_digits mask)) line result (stated-means 126 line mask is) (states-event m (matching_of mask) latest (small_digits mask)) e

    first : (o : Option (List ℕ)) → after (codes "#> ") line ≡ o → by_answer false m latest line o ≡ Ok result → Line n latest line result
    first None is e = second (after (codes "#~ ") line) refl e
    first (Some answer) is e = stays-line n m latest (states m Exact latest (small_digits answer)) line result (stated-means 62 line answer is) (states-event m Exact latest (small_digits answer)) e

-- the events of lines, behind the latest, are those that a run reads
abbrev AreRead : ℕ → Latest → List (List ℕ) → List StatedEvent → Type 0
AreRead n latest lines ss = (events : List Event) × (map (λ s. s.event) ss ≡ map (λ s. s.event) (ended latest) ++ events) × (reading n lines ≡ adds events nothing)

are_read : (n : ℕ) (latest : Latest) (lines : List (List ℕ)) (ss : List StatedEvent) → stated_by false 1048576 n latest lines ≡ Ok ss → AreRead n latest lines ss
unfolding stated_by reading
are_read n latest [] ss e = let is = all-ended latest ss e in ([], ap (map (λ s. s.event)) is ∙ sym (append-nil _), refl)
are_read n latest (line ∷ lines) ss e = ⊎_elim (few (λ latest ss is. are_read (n + 1) latest lines ss is)) many (cases_lt n 1048576)
  where
    Later : Type 0
    Later = (latest : Latest) (ss : List StatedEvent) → stated_by false 1048576 (n + 1) latest lines ≡ Ok ss → AreRead (n + 1) latest lines ss

    later : Later → (after : After) (said : Said) → stated_by false 1048576 (n + 1) after.latest lines ≡ said → then_events after.events said ≡ Ok ss
        → n < 1048576 → length line ≤ 64 → Line n latest line after → AreRead n latest (line ∷ lines) ss
    later read after (Err fault) is e few short l = absurd (cc)
    later read after (Ok others) is e few short l =
        let all : ss ≡ after.events ++ others = cc in
        let p = read after.latest others is in (
          l.events ++ p.0,
          ap (map (λ s. s.event)) all ∙ map-append (λ s. s.event) after.events others ∙ ap (λ xs. map (λ s. s.event) after.events ++ xs) p.1
              ∙ sym (append_assoc (map (λ s. s.event) after.events) (map (λ s. s.event) (ended after.latest)) p.0)
              ∙ ap (λ xs. xs ++ p.0) l.are ∙ append_assoc (map (λ s. s.event) (ended latest)) l.events p.0,
          reading-line n line lines few short ∙ l.means (reading (n + 1) lines) ∙ ap (adds l.events) p.2 ∙ adds-adds l.events p.0 nothing,
        )

    by_line : Later → (says : Result After StatedFault) → bounded_line false (n + 1) latest line ≡ says → then_lines says (λ l. stated_by false 1048576 (n + 1) l lines) ≡ Ok ss
        → n < 1048576 → length line ≤ 64 → AreRead n latest (line ∷ lines) ss
    by_line read (Err fault) is e few short = absurd (cc)
    by_line read (Ok after) is e few short = later read after (stated_by false 1048576 (n + 1) after.latest lines) refl e few short (says-line n (n + 1) latest line after (sym (bounded-short false (n + 1) latest line short) ∙ is))

    short : Later → n < 1048576 → length line ≤ 64 → AreRead n latest (line ∷ lines) ss
    short read few low = by_line read (bounded_line false (n + 1) latest line) refl (sym (stated-line false 1048576 n latest line lines few) ∙ e) few low

    few : Later → n < 1048576 → AreRead n latest (line ∷ lines) ss
    few read low = ⊎_elim (λ s. short read low (omega (arith, s))) (λ long. let no = sym (stated-line false 1048576 n latest line lines low ∙ ap (λ s. then_lines s (λ l. stated_by false 1048576 (n + 1) l lines)) (bounded-long false (n + 1) latest line (omega (arith, long)))) ∙ e in absurd (cc)) (cases_lt (length line) 65)

    many : 1048576 ≤ n → AreRead n latest (line ∷ lines) ss
    many high = let no = sym (stated-too_long false 1048576 n latest line lines high) ∙ e in absurd (cc)

pub stated-read : (script : List ℕ) (ss : List StatedEvent) → stated_by false 1048576 0 None (lines_of script) ≡ Ok ss → reading 0 (lines_of script) ≡ adds (map (λ s. s.event) ss) nothing
stated-read script ss e = let p = are_read 0 None (lines_of script) ss e in p.2 ∙ ap (λ es. adds es nothing) (sym p.1)
