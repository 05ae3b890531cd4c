-- Laws of a script that is read event by event.
use Rattle.std.proofs.Common.{ℕ, ◌≡◌, ◌≢◌, ◌∙◌, ◌+◌, ◌<◌, Bool, true, false, ◌==◌, List, [], ◌∷◌, Option, Some, None, IfSome, option_map, Result, Ok, Err, length, refl, sym, ap, subst, arith}
use Rattle.std.specs.Io.KnownBytes.{IsAtEnd}
use Rattle.std.specs.Io.BufRead.{take_through, drop_through, DropsThrough}
use Rattle.std.proofs.BufReadLemmas.{take_through_nonempty}
use Rattle.script_lines.specs.Text.{lines_of}
use Rattle.rt1553_verify.specs.declared.stated.Stated.{Stated}
use Rattle.rt1553_verify.specs.declared.stated.StatedFault.{StatedFault}
use Rattle.rt1553_verify.specs.declared.stated.StatedFault.TheVariants.{Memory, TooLong}
use Rattle.rt1553_verify.specs.Stated.{StatedEvent, Latest, shown, all_stated, if_any, bounded_line, then_events, then_lines, stated_by}
use Rattle.rt1553_verify.specs.Reader.{NextIs}
use Rattle.rt1553_verify.specs.inner.Steps.{IsFirstLine, ReadsLine, StepBy}
use Rattle.rt1553_verify.proofs.StatedLaws.{stated-line, stated-too_long, stated-none, then-none}

-- what is read up to a line feed is the first line
line_read : (xs : List ℕ) → 0 < length xs → IsFirstLine (take_through 10 xs) xs (drop_through 10 xs)
unfolding lines_of
line_read [] some = absurd (omega (arith, some))
line_read (x ∷ []) some = case (x == 10) refl
  where
    case : (t : Bool) → (x == 10) ≡ t → IsFirstLine (take_through 10 (x ∷ [])) (x ∷ []) (drop_through 10 (x ∷ []))
    case true e = ([], grind arith, grind arith)
    case false e = (x ∷ [], grind arith, grind arith)
line_read (x ∷ y ∷ xs) some = case (x == 10) refl (line_read (y ∷ xs) (omega arith))
  where
    case : (t : Bool) → (x == 10) ≡ t → IsFirstLine (take_through 10 (y ∷ xs)) (y ∷ xs) (drop_through 10 (y ∷ xs))
        → IsFirstLine (take_through 10 (x ∷ y ∷ xs)) (x ∷ y ∷ xs) (drop_through 10 (x ∷ y ∷ xs))
    case true e i = ([], grind arith, grind arith)
    case false e i = (x ∷ i.0, grind (arith, i.1), grind (arith, i.2))

pub reads_line : (a b : Option (List ℕ)) (bytes : List ℕ) (n : ℕ) → IfSome a (λ xs. bytes ≡ take_through 10 xs) → DropsThrough a b 10 → (n ≡ 0 → IsAtEnd a)
    → length bytes ≡ n → (more : Bool) → (more ≡ true → 0 < n) → (more ≡ false → n ≡ 0) → ReadsLine a b bytes more
reads_line None b bytes n is rest end count more some none = tt
reads_line (Some xs) b bytes n is rest end count false some none =
    let all : xs ≡ [] = end (none refl) in (all, rest ∙ ap (λ l. Some (drop_through 10 l)) all)
reads_line (Some xs) b bytes n is rest end count true some none = (
  drop_through 10 xs,
  rest,
  subst (λ (l : List ℕ). IsFirstLine l xs (drop_through 10 xs)) (sym is) (line_read xs (take_through_nonempty 10 xs (omega (arith, some refl, count, ap length is)))),
)

-- what is left of a text of so many lines, by the latest event
abbrev pub Left : Option (List ℕ) → ℕ → Latest → Option (Result (List StatedEvent) StatedFault)
Left a n latest = option_map (λ bytes. stated_by true 18446744073709551615 n latest (lines_of bytes)) a

-- the input is at its end
pub ends : (a b : Option (List ℕ)) (bytes : List ℕ) (n : ℕ) (latest : Latest) (all : Option Stated) → ReadsLine a b bytes false → all_stated latest ≡ Ok (if_any (option_map shown all))
    → NextIs (Left a n latest) (Left b n None) (Ok all)
ends None b bytes n latest all reads is = tt
ends (Some text) b bytes n latest None reads is =
    ap (λ l. stated_by true 18446744073709551615 n latest (lines_of l)) reads.0 ∙ stated-none true 18446744073709551615 n latest ∙ is
ends (Some text) b bytes n latest (Some s) reads is = (
  Ok [],
  ap (λ o. Left o n None) reads.1 ∙ ap Some (stated-none true 18446744073709551615 n None),
  ap (λ l. stated_by true 18446744073709551615 n latest (lines_of l)) reads.0 ∙ stated-none true 18446744073709551615 n latest ∙ is,
)

-- or the answer to the last event is refused
pub ends_badly : (a b : Option (List ℕ)) (bytes : List ℕ) (n : ℕ) (latest : Latest) (fault : StatedFault) (new : Option (Result (List StatedEvent) StatedFault)) → ReadsLine a b bytes false
    → (fault ≢ Memory → all_stated latest ≡ Err fault) → NextIs (Left a n latest) new (Err fault)
ends_badly None b bytes n latest fault new reads says = tt
ends_badly (Some text) b bytes n latest fault new reads says = λ memory read.
    ap (λ l. stated_by true 18446744073709551615 n latest (lines_of l)) reads.0 ∙ stated-none true 18446744073709551615 n latest ∙ says memory

-- the line that was read is the first of the text
first_of : (bytes text rest line more : List ℕ) → IsFirstLine bytes text rest → lines_of bytes ≡ line ∷ lines_of more → lines_of text ≡ line ∷ lines_of rest
first_of bytes text rest line more (l, is, first) at = let same : l ≡ line = cc in first ∙ ap (λ x. x ∷ lines_of rest) same

-- a line more was read, which ended no event, or one
abbrev Known : ℕ → Latest → List ℕ → Latest → Latest → Type 0
Known n latest line event now = bounded_line true (n + 1) latest line ≡ Ok (record { events = if_any event; latest = now })

goes_on : (n : ℕ) (latest : Latest) (bytes text rest line more : List ℕ) (event now : Latest) → n < 18446744073709551615 → IsFirstLine bytes text rest
    → lines_of bytes ≡ line ∷ lines_of more → Known n latest line event now
    → stated_by true 18446744073709551615 n latest (lines_of text) ≡ then_events (if_any event) (stated_by true 18446744073709551615 (n + 1) now (lines_of rest))
goes_on n latest bytes text rest line more event now few first at says =
    ap (stated_by true 18446744073709551615 n latest) (first_of bytes text rest line more first at)
    ∙ stated-line true 18446744073709551615 n latest line (lines_of rest) few
    ∙ ap (λ s. then_lines s (λ l. stated_by true 18446744073709551615 (n + 1) l (lines_of rest))) says

line_more : (a b : Option (List ℕ)) (bytes : List ℕ) (n : ℕ) (latest : Latest) (line more : List ℕ) (now : Latest) → n < 18446744073709551615 → ReadsLine a b bytes true
    → lines_of bytes ≡ line ∷ lines_of more → Known n latest line None now → StepBy (Left a n latest) (Left b (n + 1) now) false None
line_more None b bytes n latest line more now few reads at says = tt
line_more (Some text) b bytes n latest line more now few (rest, is, first) at says =
    ap (λ o. Left o (n + 1) now) is
    ∙ ap Some (sym (goes_on n latest bytes text rest line more None now few first at says ∙ then-none (stated_by true 18446744073709551615 (n + 1) now (lines_of rest))))

event_more : (a b : Option (List ℕ)) (bytes : List ℕ) (n : ℕ) (latest : Latest) (line more : List ℕ) (s : Stated) (now : Latest) → n < 18446744073709551615
    → ReadsLine a b bytes true → lines_of bytes ≡ line ∷ lines_of more → Known n latest line (Some (shown s)) now
    → NextIs (Left a n latest) (Left b (n + 1) now) (Ok (Some s))
event_more None b bytes n latest line more s now few reads at says = tt
event_more (Some text) b bytes n latest line more s now few (rest, is, first) at says = (
  stated_by true 18446744073709551615 (n + 1) now (lines_of rest),
  ap (λ o. Left o (n + 1) now) is,
  goes_on n latest bytes text rest line more (Some (shown s)) now few first at says,
)

pub line_step : (a b : Option (List ℕ)) (bytes : List ℕ) (n : ℕ) (latest : Latest) (line more : List ℕ) (event : Option Stated) (now : Latest) → n < 18446744073709551615
    → ReadsLine a b bytes true → lines_of bytes ≡ line ∷ lines_of more → Known n latest line (option_map shown event) now
    → StepBy (Left a n latest) (Left b (n + 1) now) false event
line_step a b bytes n latest line more None now few reads at says = line_more a b bytes n latest line more now few reads at says
line_step a b bytes n latest line more (Some s) now few reads at says = event_more a b bytes n latest line more s now few reads at says

-- or it is refused
line_refused : (a b : Option (List ℕ)) (bytes : List ℕ) (n : ℕ) (latest : Latest) (line more : List ℕ) (fault : StatedFault) → n < 18446744073709551615
    → ReadsLine a b bytes true → lines_of bytes ≡ line ∷ lines_of more → bounded_line true (n + 1) latest line ≡ Err fault → IfSome (Left a n latest) (λ said. said ≡ Err fault)
line_refused None b bytes n latest line more fault few reads at says = tt
line_refused (Some text) b bytes n latest line more fault few (rest, is, first) at says =
    ap (stated_by true 18446744073709551615 n latest) (first_of bytes text rest line more first at)
    ∙ stated-line true 18446744073709551615 n latest line (lines_of rest) few
    ∙ ap (λ s. then_lines s (λ l. stated_by true 18446744073709551615 (n + 1) l (lines_of rest))) says

pub too_many : (a b : Option (List ℕ)) (bytes : List ℕ) (n : ℕ) (latest : Latest) → n ≡ 18446744073709551615 → ReadsLine a b bytes true
    → IfSome (Left a n latest) (λ said. said ≡ Err TooLong)
too_many None b bytes n latest all reads = tt
too_many (Some text) b bytes n latest all (rest, is, first) =
    ap (stated_by true 18446744073709551615 n latest) first.2 ∙ stated-too_long true 18446744073709551615 n latest first.0 (lines_of rest) (omega (arith, all))

-- what is said of a text is said of what comes next
pub refused : (old new : Option (Result (List StatedEvent) StatedFault)) (fault : StatedFault) → IfSome old (λ said. said ≡ Err fault) → NextIs old new (Err fault)
refused None new fault says = tt
refused (Some said) new fault says = λ memory read. says

-- as much is left as before
abbrev pub Keeps : Option (Result (List StatedEvent) StatedFault) → Option (Result (List StatedEvent) StatedFault) → Type 0
Keeps None new = Unit {0}
Keeps (Some said) new = new ≡ Some said

-- a fault of a line, but when memory runs out
pub line_fault : (a b : Option (List ℕ)) (new : Option (Result (List StatedEvent) StatedFault)) (bytes : List ℕ) (n : ℕ) (latest : Latest) (line more : List ℕ) (fault : StatedFault) → n < 18446744073709551615
    → ReadsLine a b bytes true → lines_of bytes ≡ line ∷ lines_of more → (fault ≢ Memory → bounded_line true (n + 1) latest line ≡ Err fault) → NextIs (Left a n latest) new (Err fault)
line_fault None b new bytes n latest line more fault few reads at says = tt
line_fault (Some text) b new bytes n latest line more fault few reads at says = λ memory read. line_refused (Some text) b bytes n latest line more fault few reads at (says memory)
