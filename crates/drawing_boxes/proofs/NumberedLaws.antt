-- Laws of the events of a script and the numbers of their lines.
use Rattle.std.proofs.Common.{ℕ, ◌≡◌, ◌∙◌, ◌+◌, ◌<◌, ◌≤◌, true, false, List, [], ◌∷◌, ◌++◌, Option, Some, None, Result, Ok, Err, is_ok, length, map, refl, sym, ap, arith, append_assoc, append-nil}
use Rattle.std.proofs.lemmas.Bool.Decides.{nat_tests}
use Rattle.std.proofs.lemmas.List.{map-append, length-map}
use Rattle.terminal_rules.specs.declared.event.Event.{Event}
use Rattle.script_lines.specs.declared.line.LineFault.{LineFault}
use Rattle.script_lines.specs.Line.{meaning}
use Rattle.script_lines.specs.Text.{lines_of}
use Rattle.bus_script.specs.declared.fault.RunFault.TheVariants.{Line, LongLine, TooLong}
use Rattle.bus_script.specs.Reading.{Reading, reading, adds, nothing, stops, then_reads}
use Rattle.bus_script.proofs.ReadingLaws.{reading-line, reading-too_long, reading-long_line, adds-adds}
use Rattle.drawing_boxes.specs.declared.fault.DrawFault.TheVariants.{Script, TooMany}
use Rattle.drawing_boxes.specs.declared.numbered.Numbered.{Numbered}
use Rattle.drawing_boxes.specs.Refused.{event_said, events_on, refusal}

abbrev event_in : Numbered → Event
event_in it = it.event

-- ---- line by line

-- a line that isn't refused says its event, if it is one
line-reads : (n : ℕ) (x : Result (Option Event) LineFault) (r : Reading) → is_ok x ≡ true → then_reads x n r ≡ adds (map event_in (event_said (n + 1) x)) r
line-reads n (Err fault) r ok = absurd (cc)
line-reads n (Ok None) r ok = refl
line-reads n (Ok (Some e)) r ok = refl

line-stops : (n : ℕ) (x : Result (Option Event) LineFault) (r : Reading) → is_ok x ≡ false → then_reads x n r ≡ stops (Line (n + 1))
line-stops n (Err fault) r bad = refl
line-stops n (Ok None) r bad = absurd (cc)
line-stops n (Ok (Some e)) r bad = absurd (cc)

-- one line more was read
pub numbered-on : (n : ℕ) (rest line more : List ℕ) (old new all : List Numbered)
    → lines_of rest ≡ line ∷ lines_of more → new ≡ old ++ event_said (n + 1) (meaning line)
    → all ≡ old ++ events_on n (lines_of rest) → all ≡ new ++ events_on (n + 1) (lines_of more)
unfolding events_on
numbered-on n rest line more old new all first grown before =
    before ∙ ap (λ ls. old ++ events_on n ls) first
    ∙ sym (append_assoc old (event_said (n + 1) (meaning line)) (events_on (n + 1) (lines_of more)))
    ∙ ap (λ xs. xs ++ events_on (n + 1) (lines_of more)) (sym grown)

pub reading-on : (n : ℕ) (rest line more : List ℕ) (old new : List Numbered) (all : Reading)
    → n < 1048576 → length line ≤ 64 → lines_of rest ≡ line ∷ lines_of more → is_ok (meaning line) ≡ true → new ≡ old ++ event_said (n + 1) (meaning line)
    → all ≡ adds (map event_in old) (reading n (lines_of rest)) → all ≡ adds (map event_in new) (reading (n + 1) (lines_of more))
reading-on n rest line more old new all few short first ok grown before =
    let later : Reading = reading (n + 1) (lines_of more) in
    let es : List Event = map event_in (event_said (n + 1) (meaning line)) in
    before ∙ ap (λ ls. adds (map event_in old) (reading n ls)) first
    ∙ ap (adds (map event_in old)) (reading-line n line (lines_of more) few short ∙ line-reads n (meaning line) later ok)
    ∙ adds-adds (map event_in old) es later
    ∙ ap (λ xs. adds xs later) (sym (map-append event_in old (event_said (n + 1) (meaning line))))
    ∙ ap (λ xs. adds (map event_in xs) later) (sym grown)

-- a line is refused
pub reading-stops : (n : ℕ) (rest line more : List ℕ) (old : List Numbered) (all : Reading)
    → n < 1048576 → length line ≤ 64 → lines_of rest ≡ line ∷ lines_of more → is_ok (meaning line) ≡ false
    → all ≡ adds (map event_in old) (reading n (lines_of rest)) → refusal all ≡ Some (Script (Line (n + 1)))
reading-stops n rest line more old all few short first bad before =
    ap refusal (before ∙ ap (λ ls. adds (map event_in old) (reading n ls)) first
    ∙ ap (adds (map event_in old)) (reading-line n line (lines_of more) few short ∙ line-stops n (meaning line) (reading (n + 1) (lines_of more)) bad))

pub reading-many : (n : ℕ) (rest line more : List ℕ) (old : List Numbered) (all : Reading)
    → 1048576 ≤ n → lines_of rest ≡ line ∷ lines_of more
    → all ≡ adds (map event_in old) (reading n (lines_of rest)) → refusal all ≡ Some (Script TooLong)
reading-many n rest line more old all many first before =
    ap refusal (before ∙ ap (λ ls. adds (map event_in old) (reading n ls)) first ∙ ap (adds (map event_in old)) (reading-too_long n line (lines_of more) many))

pub reading-long : (n : ℕ) (rest line more : List ℕ) (old : List Numbered) (all : Reading)
    → n < 1048576 → 64 < length line → lines_of rest ≡ line ∷ lines_of more
    → all ≡ adds (map event_in old) (reading n (lines_of rest)) → refusal all ≡ Some (Script (LongLine (n + 1)))
reading-long n rest line more old all few long first before =
    ap refusal (before ∙ ap (λ ls. adds (map event_in old) (reading n ls)) first ∙ ap (adds (map event_in old)) (reading-long_line n line (lines_of more) few long))

-- ---- all lines were read

pub numbered-all : (n : ℕ) (rest : List ℕ) (read all : List Numbered) → length rest ≡ 0 → all ≡ read ++ events_on n (lines_of rest) → all ≡ read
unfolding events_on lines_of
numbered-all n [] read all none before = before ∙ append-nil read
numbered-all n (b ∷ rest) read all none before = absurd (omega (arith, none))

pub reading-all : (n : ℕ) (rest : List ℕ) (read : List Numbered) (all : Reading) → length rest ≡ 0
    → all ≡ adds (map event_in read) (reading n (lines_of rest)) → all ≡ adds (map event_in read) nothing
unfolding reading lines_of
reading-all n [] read all none before = before
reading-all n (b ∷ rest) read all none before = absurd (omega (arith, none))

-- ---- what is refused

refusal-counted : (read : List Numbered) (all : Reading) → all ≡ adds (map event_in read) nothing → refusal all ≡ refusal (adds (map event_in read) nothing)
refusal-counted read all is = ap refusal is

pub few_drawn : (read : List Numbered) (all : Reading) → length read ≤ 4096 → all ≡ adds (map event_in read) nothing → refusal all ≡ None
few_drawn read all few is = refusal-counted read all is ∙ grind (arith, nat_tests, length-map, append-nil)

pub many_refused : (read : List Numbered) (all : Reading) → 4096 < length read → all ≡ adds (map event_in read) nothing → refusal all ≡ Some TooMany
many_refused read all many is = refusal-counted read all is ∙ grind (arith, nat_tests, length-map, append-nil)
