-- What a run reads of the lines that were written.
use Rattle.std.proofs.Common.{ℕ, ◌≡◌, ◌≢◌, ◌∙◌, ◌+◌, ◌≤◌, Bool, true, false, ◌==◌, List, [], ◌∷◌, ◌++◌, Option, Some, None, Ok, length, map, take, replicate, refl, sym, ap, subst, arith, append_assoc, append-nil, flat_map}
use Rattle.std.proofs.lemmas.Bool.Decides.{nat_tests}
use Rattle.terminal_rules.specs.declared.event.Event.{Event}
use Rattle.script_lines.specs.Line.{meaning}
use Rattle.script_lines.specs.Text.{onto_first, lines_of, NoLineFeed}
use Rattle.script_lines.specs.EventLine.{event_text, event_line, script_text}
use Rattle.bus_script.specs.Reading.{Reading, adds, then_reads}
use Rattle.bus_script.specs.inner.Lines.{ReadsLines}
use Rattle.bus_script.proofs.ReadingLaws.{ReadsLines-nil, ReadsLines-line, ReadsLines-trans}
use Rattle.rt1553_expand.specs.declared.script_for.ScriptFor.{ScriptFor}
use Rattle.rt1553_expand.specs.declared.expanding.ScriptSoFar.{ScriptSoFar}
use Rattle.rt1553_expand.specs.declared.expanding.ReadLine.{ReadLine}
use Rattle.rt1553_expand.specs.declared.expanding.ReadLine.TheVariants.{Kept, Written}
use Rattle.rt1553_expand.specs.Own.{is_of_bus}
use Rattle.rt1553_expand.specs.Placing.{Placing}
use Rattle.rt1553_expand.specs.Expansion.{Expansion, Stays, Gives, events_said, events_given, lines_given, expansion_of, with_expanded, spelled, expanded_events, expanded_lines}
use Rattle.rt1553_expand.specs.inner.Wrote.{AreRead, Wrote}
use Rattle.rt1553_expand.specs.inner.StillLeft.{StillLeft, left_of, to_come, IsPending, events_before_line, own_line, left_behind}
use Rattle.rt1553_expand.specs.inner.Added.{Added, ReadSo}
use Rattle.rt1553_expand.specs.inner.Read.{expansion_by, IsWritable}
use Rattle.rt1553_expand.proofs.FeedLaws.{event-line}
use Rattle.rt1553_expand.proofs.PlacingLaws.{own_said, own_count, events-split, count-split, text-on, sources-on}

-- the lines of events say these events
events-read : (n : ℕ) (es : List Event) → AreRead es → n + length es ≤ 1048576 → ReadsLines n (script_text es) es (n + length es)
events-read n [] read few =
    let none : n ≡ n + length {A = Event} [] = omega arith in
    subst (λ m. ReadsLines n [] [] m) none (ReadsLines-nil n)
events-read n (e ∷ es) read few =
    let line = event-line e in
    let first : ReadsLines n (event_line e) (e ∷ []) (n + 1)
    = ReadsLines-line n (event_text e) (e ∷ []) (omega (arith, few)) line.short line.feeds (λ r. ap (λ x. then_reads x n r) read.0) in
    let on : n + 1 + length es ≡ n + length (e ∷ es) = omega arith in
    subst (λ m. ReadsLines n (event_line e ++ script_text es) (e ∷ es) m) on
    (ReadsLines-trans first (events-read (n + 1) es read.1 (omega (arith, few))))

-- a line that stays says what it means
said-read : (line : List ℕ) (said : Option Event) (n : ℕ) (r : Reading) → meaning line ≡ Ok said → then_reads (meaning line) n r ≡ adds (events_said said) r
said-read line None n r is = ap (λ x. then_reads x n r) is
said-read line (Some e) n r is = ap (λ x. then_reads x n r) is

-- a line that stays has room in a script, and means what it says
abbrev IsRight : Expansion → Type 0
IsRight (Stays line said) = (length line ≤ 64) × NoLineFeed line × (meaning line ≡ Ok said)
IsRight (Gives es) = Unit {0}

is-right : (own : ScriptFor) (line : List ℕ) (read : ReadLine) → is_of_bus own ≡ false → IsWritable own line read → NoLineFeed line → IsRight (expansion_by own line read)
is-right own line (Kept said) one sound none = ((sound one).0, none, (sound one).1)
is-right own line (Written bus message) one sound none = tt

own-read : (k n : ℕ) (x : Expansion) → IsRight x → n + own_count x ≤ 1048576 → ReadsLines n (flat_map spelled (own_line k x)) (own_said x) (n + own_count x)
own-read k n (Gives es) right few =
    let none : n ≡ n + 0 = omega arith in
    subst (λ m. ReadsLines n [] [] m) none (ReadsLines-nil n)
own-read k n (Stays line said) right few =
    subst (λ t. ReadsLines n t (events_said said) (n + 1)) (sym (append-nil (line ++ 10 ∷ [])))
    (ReadsLines-line n line (events_said said) (omega (arith, few)) right.0 right.1 (λ r. said-read line said n r right.2))

-- the lines of the events that come before a line, and the line, are read
read-on : (n : ℕ) (l : StillLeft) (x : Expansion) (old mid new : List ℕ) (lines count : ℕ) (all : List Event) → IsRight x → Wrote old mid (take (events_before_line l x) l.events)
    → new ≡ mid ++ flat_map spelled (own_line n x) → count ≡ lines + lines_given x → count ≤ 1048576 → ReadSo old l.events lines all
    → ReadSo new (left_behind n l x).events count (all ++ events_given x)
read-on n l x old mid new lines count all right wrote own counted few so =
    let es : List Event = take (events_before_line l x) l.events in
    let more : List Event = (left_behind n l x).events in
    let sum : length l.events + lines_given x ≡ length es + (own_count x + length more) = count-split n l x in
    let first : ReadsLines 0 (old ++ script_text es) (so.said ++ es) (so.written + length es)
    = ReadsLines-trans so.reads (events-read so.written es wrote.read (omega (arith, sum, counted, few, so.count))) in
    let both : ReadsLines 0 ((old ++ script_text es) ++ flat_map spelled (own_line n x)) ((so.said ++ es) ++ own_said x) (so.written + length es + own_count x)
    = ReadsLines-trans first (own-read n (so.written + length es) x right (omega (arith, sum, counted, few, so.count))) in
    record {
      said = (so.said ++ es) ++ own_said x;
      written = so.written + length es + own_count x;
      reads = subst (λ t. ReadsLines 0 t ((so.said ++ es) ++ own_said x) (so.written + length es + own_count x)) (sym (own ∙ ap (λ t. t ++ flat_map spelled (own_line n x)) wrote.bytes)) both;
      events = ap (λ ls. ls ++ events_given x) so.events ∙ append_assoc so.said l.events (events_given x) ∙ ap (λ ls. so.said ++ ls) (events-split n l x)
          ∙ sym (append_assoc so.said es (own_said x ++ more)) ∙ sym (append_assoc (so.said ++ es) (own_said x) more);
      count = omega (arith, sum, counted, so.count);
    }

-- what was added for a line that is not refused
pub added-by : (own : ScriptFor) (n : ℕ) (old new : ScriptSoFar) (line : List ℕ) (read : ReadLine) (mid : List ℕ) (count : ℕ) → expansion_of own line ≡ Ok (expansion_by own line read)
    → IsWritable own line read → count ≡ events_before_line (left_of old.pending) (expansion_by own line read) → Wrote old.text.items mid (take count (left_of old.pending).events)
    → new.text.items ≡ mid ++ flat_map spelled (own_line n (expansion_by own line read))
    → left_of new.pending ≡ left_behind n (left_of old.pending) (expansion_by own line read) → IsPending new.pending
    → new.lines ≡ old.lines + lines_given (expansion_by own line read) → new.lines ≤ 1048576 → Added own n old new line
added-by own n old new line read mid count is sound counted wrote stays left fits lines few =
    let x : Expansion = expansion_by own line read in
    let l : StillLeft = left_of old.pending in
    let due_wrote : Wrote old.text.items mid (take (events_before_line l x) l.events) = subst (λ c. Wrote old.text.items mid (take c l.events)) counted wrote in
    record {
      text = λ p. ap (λ o. old.text.items ++ flat_map spelled (to_come l (with_expanded n o p))) is ∙ text-on n l x p old.text.items mid new.text.items due_wrote.bytes stays
          ∙ ap (λ it. new.text.items ++ flat_map spelled (to_come it p)) (sym left);
      lines = lines ∙ ap (λ o. old.lines + expanded_lines o) (sym is);
      few = few;
      fits = fits;
      reads = λ one none all so.
          subst (λ o. ReadSo new.text.items (left_of new.pending).events new.lines (all ++ expanded_events o)) (sym is)
          (subst (λ it. ReadSo new.text.items it.events new.lines (all ++ events_given x)) (sym left)
          (read-on n l x old.text.items mid new.text.items old.lines new.lines all (is-right own line read one sound none) due_wrote stays lines few so));
    }

-- the events that were left were written
pub read-end : (old new : List ℕ) (left : List Event) (lines : ℕ) (all : List Event) → Wrote old new left → lines ≤ 1048576 → ReadSo old left lines all → ReadsLines 0 new all lines
read-end old new left lines all wrote few so =
    let first : ReadsLines 0 (old ++ script_text left) (so.said ++ left) (so.written + length left)
    = ReadsLines-trans so.reads (events-read so.written left wrote.read (omega (arith, few, so.count))) in
    subst (λ t. ReadsLines 0 t all lines) (sym wrote.bytes)
    (subst (λ es. ReadsLines 0 (old ++ script_text left) es lines) (sym so.events)
    (subst (λ m. ReadsLines 0 (old ++ script_text left) (so.said ++ left) m) so.count first))

-- before the first line
pub read-start : (text : List ℕ) (left all : List Event) → text ≡ [] → left ≡ [] → all ≡ [] → ReadSo text left 0 all
read-start text left all empty nothing none = record {
  said = [];
  written = 0;
  reads = subst (λ t. ReadsLines 0 t [] 0) (sym empty) (ReadsLines-nil 0);
  events = none ∙ sym nothing;
  count = omega (arith, ap length nothing);
}

-- where the lines come from of a line that is not refused
pub sources-by : (own : ScriptFor) (n : ℕ) (was now : StillLeft) (line : List ℕ) (read : ReadLine) (old mid new : List ℕ) (count : ℕ) → expansion_of own line ≡ Ok (expansion_by own line read)
    → count ≡ events_before_line was (expansion_by own line read) → count ≤ length was.events → mid ≡ old ++ replicate count was.source
    → new ≡ mid ++ map (λ l. l.source) (own_line n (expansion_by own line read)) → now ≡ left_behind n was (expansion_by own line read)
    → (p : Placing) → old ++ map (λ l. l.source) (to_come was (with_expanded n (expansion_of own line) p)) ≡ new ++ map (λ l. l.source) (to_come now p)
sources-by own n was now line read old mid new count is counted within before stays left p =
    let x : Expansion = expansion_by own line read in
    ap (λ o. old ++ map (λ l. l.source) (to_come was (with_expanded n o p))) is
    ∙ sources-on n was x p old mid new (subst (λ c. c ≤ length was.events) counted within) (before ∙ ap (λ c. old ++ replicate c was.source) counted) stays
    ∙ ap (λ it. new ++ map (λ l. l.source) (to_come it p)) (sym left)

-- ---- lines of a text

abbrev HaveNoFeed : List (List ℕ) → Type 0
HaveNoFeed [] = Unit {0}
HaveNoFeed (line ∷ lines) = NoLineFeed line × HaveNoFeed lines

first-no_feed : (b : ℕ) (lines : List (List ℕ)) → b ≢ 10 → HaveNoFeed lines → HaveNoFeed (onto_first b lines)
first-no_feed b [] other none = ((other, tt), tt)
first-no_feed b (line ∷ lines) other none = ((other, none.0), none.1)

lines-no_feed : (bytes : List ℕ) → HaveNoFeed (lines_of bytes)
unfolding lines_of
lines-no_feed [] = tt
lines-no_feed (b ∷ bytes) = case (b == 10) refl (lines-no_feed bytes)
  where
    case : (t : Bool) → (b == 10) ≡ t → HaveNoFeed (lines_of bytes) → HaveNoFeed (lines_of (b ∷ bytes))
    case true e rest = rw e (tt, rest)
    case false e rest = rw e (first-no_feed b (lines_of bytes) (grind (arith, nat_tests, e)) rest)

-- the first line of a text has no line feed
pub line-no_feed : (bytes line : List ℕ) (lines : List (List ℕ)) → lines_of bytes ≡ line ∷ lines → NoLineFeed line
line-no_feed bytes line lines first = (subst HaveNoFeed first (lines-no_feed bytes)).0
