-- Which message comes next, and that no other does.
use Rattle.std.proofs.Common.{ℕ, ◌≡◌, ◌∙◌, ◌+◌, ◌<◌, ◌≤◌, Bool, true, false, if◌then◌else◌, List, [], ◌∷◌, ◌++◌, Option, Some, None, is_some, Ok, Err, length, map, take, drop, replicate, refl, sym, ap, subst, arith, unwrap_or}
use Rattle.bus_word.specs.declared.word.Bus.{Bus}
use Rattle.terminal_rules.specs.declared.event.Event.{Event}
use Rattle.script_lines.specs.declared.line.LineFault.{LineFault}
use Rattle.script_lines.specs.Line.{meaning}
use Rattle.script_lines.specs.Text.{lines_of}
use Rattle.bus_script.specs.Reading.{Reading, reading, adds, nothing, then_reads}
use Rattle.bus_script.proofs.ReadingLaws.{reading-line, reading-too_long, reading-long_line, adds-adds}
use Rattle.rt1553_tool.specs.declared.fields.CommandFields.{CommandFields}
use Rattle.rt1553_tool.specs.declared.fields.WordFields.TheVariants as fields
use Rattle.rt1553_expand.specs.declared.script_for.ScriptFor.{ScriptFor}
use Rattle.rt1553_expand.specs.Message.{SaidMessage, words_wanted}
use Rattle.rt1553_expand.specs.Events.{message_events}
use Rattle.rt1553_expand.specs.Gathered.{CommandMessage, said, IsMessage, IsListed, NoneNext}
use Rattle.rt1553_expand.specs.inner.Found.{HeardCommand, heard_in, bits_heard, events_before, words_found, message_found, MessageOn, message_behind, message_at}
use Rattle.rt1553_expand.specs.inner.Gathering.{ReadsOn}
use Rattle.rt1553_expand.proofs.FoundLaws.{found-next}

some-not : {A : Type 0} (x : A) → Some x ≡ None → ⊥
some-not x e = absurd (cc)

-- nothing is found, so no message comes next
pub none-found : (own : ScriptFor) (es : List Event) → message_at own es ≡ None → NoneNext own es
none-found own es missing bus m rest listed next =
    some-not (record { bus = bus; message = m }) (sym (found-next own bus m rest listed) ∙ ap (message_at own) (sym next) ∙ missing)

-- what is found is no message that comes next
pub other-found : (own : ScriptFor) (es : List Event) (found : MessageOn) → message_at own es ≡ Some found
    → ((rest : List Event) → IsListed own found.message → es ≡ message_events own found.bus (said found.message) ++ rest → ⊥) → NoneNext own es
other-found own es found is other bus m rest listed next =
    let both : Some found ≡ Some (record { bus = bus; message = m }) = sym is ∙ ap (message_at own) next ∙ found-next own bus m rest listed in
    let same : found ≡ record { bus = bus; message = m } = ap (λ o. unwrap_or o found) both in
    subst (λ it. (IsListed own it.message → es ≡ message_events own it.bus (said it.message) ++ rest → ⊥)) same (other rest) listed next

-- ---- lines of a script

pub reads-too_many : (n : ℕ) (line : List ℕ) (lines : List (List ℕ)) → 1048576 ≤ n → is_some (reading n (line ∷ lines)).fault ≡ true
reads-too_many n line lines many = ap (λ r. is_some r.fault) (reading-too_long n line lines many)

pub reads-too_long : (n : ℕ) (line : List ℕ) (lines : List (List ℕ)) → n < 1048576 → 64 < length line → is_some (reading n (line ∷ lines)).fault ≡ true
reads-too_long n line lines few long = ap (λ r. is_some r.fault) (reading-long_line n line lines few long)

pub reads-refused : (n : ℕ) (line : List ℕ) (lines : List (List ℕ)) (fault : LineFault) → n < 1048576 → length line ≤ 64 → meaning line ≡ Err fault
    → is_some (reading n (line ∷ lines)).fault ≡ true
reads-refused n line lines fault few short is =
    ap (λ r. is_some r.fault) (reading-line n line lines few short ∙ ap (λ x. then_reads x n (reading (n + 1) lines)) is)

pub reads-event : (n : ℕ) (line : List ℕ) (lines : List (List ℕ)) (e : Event) → n < 1048576 → length line ≤ 64 → meaning line ≡ Ok (Some e)
    → reading n (line ∷ lines) ≡ adds (e ∷ []) (reading (n + 1) lines)
reads-event n line lines e few short is = reading-line n line lines few short ∙ ap (λ x. then_reads x n (reading (n + 1) lines)) is

pub reads-none : (n : ℕ) (line : List ℕ) (lines : List (List ℕ)) → n < 1048576 → length line ≤ 64 → meaning line ≡ Ok None
    → reading n (line ∷ lines) ≡ adds [] (reading (n + 1) lines)
reads-none n line lines few short is = reading-line n line lines few short ∙ ap (λ x. then_reads x n (reading (n + 1) lines)) is

-- one line more was read
pub reads-on : (n : ℕ) (rest line more : List ℕ) (old new : List Event) (all : Reading) (is_read : Bool) → lines_of rest ≡ line ∷ lines_of more → is_read ≡ true → ReadsOn n old new line is_read
    → all ≡ adds old (reading n (lines_of rest)) → all ≡ adds new (reading (n + 1) (lines_of more))
reads-on n rest line more old new all false first is on before = absurd (cc)
reads-on n rest line more old new all true first is on before =
    before ∙ ap (λ ls. adds old (reading n ls)) first ∙ ap (adds old) (on.2 (lines_of more)) ∙ adds-adds old on.0 (reading (n + 1) (lines_of more))
    ∙ ap (λ es. adds es (reading (n + 1) (lines_of more))) (sym on.1)

-- all lines were read
pub reads-all : (n : ℕ) (rest : List ℕ) (events : List Event) (all : Reading) → length rest ≡ 0 → all ≡ adds events (reading n (lines_of rest)) → all ≡ adds events nothing
unfolding reading lines_of
reads-all n [] events all none before = before
reads-all n (b ∷ rest) events all none before = absurd (omega (arith, none))

-- ---- pieces

pub listed-events : (own : ScriptFor) (bus : Bus) (a b : SaidMessage) (old new : List Event) → old ≡ [] → new ≡ old ++ message_events own bus a → a ≡ b → new ≡ message_events own bus b
listed-events own bus a b old new none pushed same = pushed ∙ ap (λ es. es ++ message_events own bus a) none ∙ ap (message_events own bus) same

pub message-listed : (own : ScriptFor) (es : List Event) (m : CommandMessage) (command : CommandFields) → message_found own command es ≡ m → IsMessage m → IsListed own m
message-listed own es m command same is =
    let words : words_found own m.sender (words_wanted (fields.Command m.command)) es ≡ m.words
    = subst (λ it. words_found own it.sender (words_wanted (fields.Command it.command)) es ≡ it.words) same refl in
    record {
      message = is;
      zeros = λ own_is. sym words ∙ ap (λ b. if b then replicate (words_wanted (fields.Command m.command)) 0 else map bits_heard (take (words_wanted (fields.Command m.command)) (drop (events_before m.sender) es))) own_is;
    }

-- what is found is listed, where it is a message
pub found-listed : (own : ScriptFor) (es : List Event) (bus : Bus) (m : CommandMessage) → message_at own es ≡ Some (record { bus = bus; message = m }) → IsMessage m → IsListed own m
found-listed own [] bus m is message = absurd (some-not (record { bus = bus; message = m }) (sym is))
found-listed own (e ∷ es) bus m is message = heard (heard_in e) is
  where
    heard : (h : Option HeardCommand) → message_behind own es h ≡ Some (record { bus = bus; message = m }) → IsListed own m
    heard None is = absurd (some-not (record { bus = bus; message = m }) (sym is))
    heard (Some h) is = message-listed own es m h.command (ap (λ o. (unwrap_or {T = MessageOn} o (record { bus = bus; message = m })).message) is) message

-- ---- what a test says

pub not-both : (b : Bool) → b ≡ true → b ≡ false → ⊥
not-both b is other = let both : true ≡ false = sym is ∙ other in absurd (cc)
