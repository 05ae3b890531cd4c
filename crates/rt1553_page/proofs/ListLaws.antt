-- Laws of the rows of a script, line by line.
use Rattle.std.proofs.Common.{ℕ, suc, ◌≡◌, ◌∙◌, ◌+◌, ◌<◌, ◌≤◌, List, [], ◌∷◌, ◌++◌, Option, Some, None, Ok, is_ok, Bool, length, map, get_or, refl, sym, ap, subst, arith, append_assoc, append-nil}
use Rattle.std.specs.List.{flat_map}
use Rattle.std.proofs.lemmas.List.{map-append}
use Rattle.bus_word.specs.declared.cell.Cell.{Cell}
use Rattle.bus_legal.specs.Description.{Description}
use Rattle.terminal_rules.specs.declared.event.Event.{Event}
use Rattle.terminal_rules.specs.Past.{history_after}
use Rattle.script_lines.specs.Line.{meaning}
use Rattle.script_lines.specs.Text.{lines_of}
use Rattle.bus_script.specs.declared.fault.RunFault.{RunFault}
use Rattle.bus_script.specs.Reading.{Reading, reading, adds, nothing, stops}
use Rattle.terminal_messages.specs.declared.watch.MessageWatch.{MessageWatch}
use Rattle.terminal_messages.specs.Message.{Message}
use Rattle.terminal_messages.specs.Messages.{closed, closed_by}
use Rattle.terminal_messages.specs.Parts.{tell}
use Rattle.terminal_messages.specs.View.{View, told_view}
use Rattle.terminal_messages.specs.Watch.{WatchStands, told_event_at}
use Rattle.drawing_boxes.specs.declared.numbered.Numbered.{Numbered}
use Rattle.drawing_boxes.specs.Refused.{events_on, event_said}
use Rattle.drawing_boxes.proofs.NumberedLaws.{numbered-on, reading-on, reading-all}
use Rattle.message_rows.specs.Texts.{row_line}
use Rattle.rt1553_page.specs.declared.listing.Filled.{Filled}
use Rattle.rt1553_page.specs.Listed.{line_of_event, rows_told}
use Rattle.rt1553_page.specs.inner.Held.{Holds}

abbrev event_in : Numbered → Event
event_in it = it.event

abbrev line_in : Numbered → ℕ
line_in it = it.line

-- the history of events that were read
abbrev pub history_of : List Numbered → List Event
history_of read = history_after (map event_in read) []

-- the rows of the messages that are over by then
abbrev pub rows_over : Description → List ℕ → List Event → List ℕ
rows_over P script h = rows_told (map (told_view P (line_of_event script)) (closed (tell P h)))

-- these events were read, lines follow, and the watch and the room stand where they do behind these events
pub record Played {L : Type 0} (is_legal : L → Cell → Bool) (script : List ℕ) (w₀ w : MessageWatch L) (room₀ room : List ℕ) (filled₀ filled : Filled) (h : List Event) : Type 0 where
  pub stands : (P : Description) → WatchStands is_legal P (line_of_event script) [] w₀ → WatchStands is_legal P (line_of_event script) h w
  pub held : (P : Description) → WatchStands is_legal P (line_of_event script) [] w₀ → Holds [] room₀ filled₀ → Holds (rows_over P script h) room filled

-- so far these events were read
pub record HasRead (script rest : List ℕ) (lines : ℕ) (read : List Numbered) : Type 0 where
  pub few : lines ≤ 1048576
  pub numbered : events_on 0 (lines_of script) ≡ read ++ events_on lines (lines_of rest)
  pub events : reading 0 (lines_of script) ≡ adds (map event_in read) (reading lines (lines_of rest))

-- ---- lists

history-on : (es : List Event) (e : Event) (h : List Event) → history_after (es ++ e ∷ []) h ≡ e ∷ history_after es h
history-on [] e h = refl
history-on (x ∷ es) e h = history-on es e (x ∷ h)

pub history-read : (read : List Numbered) (x : Numbered) → history_of (read ++ x ∷ []) ≡ x.event ∷ history_of read
history-read read x = ap (λ es. history_after es []) (map-append event_in read (x ∷ [])) ∙ history-on (map event_in read) x.event []

history-length : (es h : List Event) → length (history_after es h) ≡ length es + length h
history-length [] h = omega arith
history-length (e ∷ es) h = history-length es (e ∷ h) ∙ omega arith

map-length : (read : List Numbered) → length (map event_in read) ≡ length read
map-length [] = refl
map-length (x ∷ read) = ap (λ n. suc n) (map-length read)

line-there : (read : List Numbered) (x : Numbered) (ys : List Numbered) → get_or (map line_in ((read ++ x ∷ []) ++ ys)) (length read) 0 ≡ x.line
line-there [] x ys = refl
line-there (r ∷ read) x ys = line-there read x ys

-- the line of the event that comes next
pub next-line : (script : List ℕ) (read : List Numbered) (x : Numbered) (ys : List Numbered) → events_on 0 (lines_of script) ≡ (read ++ x ∷ []) ++ ys
    → line_of_event script (length (history_of read)) ≡ x.line
next-line script read x ys is =
    ap (λ n. line_of_event script n) (history-length (map event_in read) [] ∙ omega (arith, map-length read))
    ∙ ap (λ xs. get_or (map line_in xs) (length read) 0) is ∙ line-there read x ys

flat-append : (f : View → List ℕ) (xs ys : List View) → flat_map f (xs ++ ys) ≡ flat_map f xs ++ flat_map f ys
flat-append f [] ys = refl
flat-append f (x ∷ xs) ys = ap (λ zs. f x ++ zs) (flat-append f xs ys) ∙ sym (append_assoc (f x) (flat_map f xs) (flat_map f ys))

pub rows-append : (xs ys : List View) → rows_told (xs ++ ys) ≡ rows_told xs ++ rows_told ys
rows-append xs ys = flat-append row_line xs ys

pub told-append : (f : Message → View) (xs ys : List Message) → rows_told (map f (xs ++ ys)) ≡ rows_told (map f xs) ++ rows_told (map f ys)
told-append f xs ys = ap rows_told (map-append f xs ys) ∙ rows-append (map f xs) (map f ys)

-- ---- line by line

-- a line that says no event
pub read-none : (script rest line more : List ℕ) (n : ℕ) (read : List Numbered) → HasRead script rest n read → lines_of rest ≡ line ∷ lines_of more
    → meaning line ≡ Ok None → n < 1048576 → length line ≤ 64 → HasRead script more (n + 1) read
read-none script rest line more n read r first says few short =
    let grown : read ≡ read ++ event_said (n + 1) (meaning line) = sym (ap (λ x. read ++ event_said (n + 1) x) says ∙ append-nil read) in record {
      few = omega (arith, few);
      numbered = numbered-on n rest line more read read _ first grown r.numbered;
      events = reading-on n rest line more read read _ few short first (ap is_ok says) grown r.events;
    }

-- a line that says this event
pub read-event : (script rest line more : List ℕ) (n : ℕ) (read : List Numbered) (e : Event) → HasRead script rest n read → lines_of rest ≡ line ∷ lines_of more
    → meaning line ≡ Ok (Some e) → n < 1048576 → length line ≤ 64 → HasRead script more (n + 1) (read ++ record { line = n + 1; event = e } ∷ [])
read-event script rest line more n read e r first says few short =
    let new : List Numbered = read ++ record { line = n + 1; event = e } ∷ [] in
    let grown : new ≡ read ++ event_said (n + 1) (meaning line) = sym (ap (λ x. read ++ event_said (n + 1) x) says) in record {
      few = omega (arith, few);
      numbered = numbered-on n rest line more read new _ first grown r.numbered;
      events = reading-on n rest line more read new _ few short first (ap is_ok says) grown r.events;
    }

-- what is said behind a line that is refused
pub read-stops : (script rest line more : List ℕ) (n : ℕ) (read : List Numbered) (f : RunFault) → HasRead script rest n read → lines_of rest ≡ line ∷ lines_of more
    → ((more : List (List ℕ)) → reading n (line ∷ more) ≡ stops f) → reading 0 (lines_of script) ≡ adds (map event_in read) (stops f)
read-stops script rest line more n read f r first stop =
    r.events ∙ ap (λ ls. adds (map event_in read) (reading n ls)) first ∙ ap (adds (map event_in read)) (stop (lines_of more))

pub read-all : (script rest : List ℕ) (n : ℕ) (read : List Numbered) → HasRead script rest n read → length rest ≡ 0
    → reading 0 (lines_of script) ≡ adds (map event_in read) nothing
read-all script rest n read r none = reading-all n rest read _ none r.events

-- the events that were read are those before the first fault
pub events-said : (read : List Numbered) (all r : Reading) → all ≡ adds (map event_in read) r → r.events ≡ [] → history_of read ≡ history_after all.events []
events-said read all r is none =
    ap (λ es. history_after es []) (sym (append-nil (map event_in read)) ∙ ap (λ es. map event_in read ++ es) (sym none)) ∙ ap (λ r. history_after r.events []) (sym is)

-- an event more
pub rows-on : (P : Description) (script : List ℕ) (h : List Event) (e : Event)
    → rows_over P script (e ∷ h) ≡ rows_over P script h ++ rows_told (map (told_view P (line_of_event script)) (closed_by (tell P h) (told_event_at P h e)))
rows-on P script h e = told-append (told_view P (line_of_event script)) (closed (tell P h)) (closed_by (tell P h) (told_event_at P h e))

-- what a line says was played
pub played-on : {L : Type 0} (is_legal : L → Cell → Bool) (script rest line more : List ℕ) (n : ℕ) (read : List Numbered) (said : Option Event)
    (w₀ w w' : MessageWatch L) (room₀ room room' : List ℕ) (filled₀ filled filled' : Filled)
    → HasRead script rest n read → lines_of rest ≡ line ∷ lines_of more → meaning line ≡ Ok said → n < 1048576 → length line ≤ 64
    → Played is_legal script w₀ w room₀ room filled₀ filled (history_of read)
    → (said ≡ None → (w' ≡ w) × (room' ≡ room) × (filled' ≡ filled))
    → ((e : Event) (P : Description) (at : ℕ → ℕ) (h : List Event) → said ≡ Some e → WatchStands is_legal P at h w → at (length h) ≡ n + 1 → WatchStands is_legal P at (e ∷ h) w')
    → ((e : Event) (P : Description) (at : ℕ → ℕ) (h : List Event) (rows : List ℕ) → said ≡ Some e → WatchStands is_legal P at h w → at (length h) ≡ n + 1
    → Holds rows room filled → Holds (rows ++ rows_told (map (told_view P at) (closed_by (tell P h) (told_event_at P h e)))) room' filled')
    → (read' : List Numbered) × HasRead script more (n + 1) read' × Played is_legal script w₀ w' room₀ room' filled₀ filled' (history_of read')
played-on is_legal script rest line more n read None w₀ w w' room₀ room room' filled₀ filled filled' r first says few short p none stands held =
    let same = none refl in (
      read,
      read-none script rest line more n read r first says few short,
      record {
        stands = λ P s. subst (λ x. WatchStands is_legal P (line_of_event script) (history_of read) x) (sym same.0) (p.stands P s);
        held = λ P s h. subst (λ x. Holds (rows_over P script (history_of read)) room' x) (sym same.2)
            (subst (λ x. Holds (rows_over P script (history_of read)) x filled) (sym same.1) (p.held P s h));
      },
    )
played-on is_legal script rest line more n read (Some e) w₀ w w' room₀ room room' filled₀ filled filled' r first says few short p none stands held =
    let x : Numbered = record { line = n + 1; event = e } in
    let r' = read-event script rest line more n read e r first says few short in
    let there = next-line script read x _ r'.numbered in
    let joins = history-read read x in (
      read ++ x ∷ [],
      r',
      record {
        stands = λ P s. subst (λ h. WatchStands is_legal P (line_of_event script) h w') (sym joins) (stands e P (line_of_event script) (history_of read) refl (p.stands P s) there);
        held = λ P s h. subst (λ h. Holds (rows_over P script h) room' filled') (sym joins)
            (subst (λ rows. Holds rows room' filled') (sym (rows-on P script (history_of read) e))
            (held e P (line_of_event script) (history_of read) (rows_over P script (history_of read)) refl (p.stands P s) there (p.held P s h)));
      },
    )
