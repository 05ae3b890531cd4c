-- Pieces that are written one behind the other, and expanded again.
use Rattle.std.proofs.Common.{ℕ, ◌≡◌, ◌∙◌, ◌+◌, ◌<◌, ◌≤◌, false, List, [], ◌∷◌, ◌++◌, Option, Some, Result, Ok, Err, is_ok, length, get_or, drop, refl, sym, ap, subst, arith, append_assoc, append-nil}
use Rattle.std.proofs.lemmas.Bool.Decides.{nat_tests}
use Rattle.std.proofs.lemmas.Grind.{flat_map-append}
use Rattle.bus_word.specs.declared.word.Bus.{Bus}
use Rattle.bus_word.specs.declared.word.Bus.TheVariants.{A, B}
use Rattle.terminal_rules.specs.declared.event.Event.{Event}
use Rattle.script_lines.specs.declared.line.LineFault.{LineFault}
use Rattle.script_lines.specs.Line.{meaning, bus_first}
use Rattle.script_lines.specs.Text.{lines_of}
use Rattle.script_lines.specs.EventLine.{event_text, event_line}
use Rattle.script_lines.proofs.LineLaws.{lines-line}
use Rattle.bus_script.specs.Reading.{Reading, adds, nothing}
use Rattle.rt1553_expand.specs.declared.script_for.ScriptFor.{ScriptFor}
use Rattle.rt1553_expand.specs.Message.{message_in}
use Rattle.rt1553_expand.specs.Events.{message_events}
use Rattle.rt1553_expand.specs.Expansion.{Expansion, Stays, Gives, message_expansion, by_bus_letter, with_named_fault, by_meaning, expansion_of, expanded_events, all_events, refusal_at, refusals_from, refusals_in}
use Rattle.rt1553_expand.specs.Gathered.{CommandMessage, said, message_text, listed_line, Piece, Whole, Alone, piece_line, piece_events, events_in, lines_text, NoneNext, IsNext, AreNext, IsMessage}
use Rattle.rt1553_expand.specs.inner.Wrote.{Wrote}
use Rattle.rt1553_expand.specs.inner.Gathering.{Says, AllSay, IsNextLine, WroteNext, WroteSo}
use Rattle.rt1553_expand.proofs.FeedLaws.{event-line, message-feeds}
use Rattle.rt1553_expand.proofs.SpelledLaws.{each_is_said}

-- ---- a line expands to the events of its piece

-- a line that is none of a script
refused-meaning : (own : ScriptFor) (line : List ℕ) (x : Expansion) (r : Result (Option Event) LineFault) → is_ok r ≡ false → by_bus_letter own line (bus_first line) ≡ Ok x
    → by_meaning own line r ≡ Ok x
refused-meaning own line x (Ok said) other is = absurd (cc)
refused-meaning own line x (Err fault) other is = ap (with_named_fault line) is

within-most : (own : ScriptFor) (line : List ℕ) → length line ≤ 256 → expansion_of own line ≡ by_meaning own line (meaning line)
within-most own line short = grind (arith, nat_tests, short)

by-letter : (own : ScriptFor) (bus : Bus) (m : CommandMessage) → message_in own (message_text m) ≡ Ok (said m)
    → by_bus_letter own (listed_line bus m) (bus_first (listed_line bus m)) ≡ Ok (Gives (message_events own bus (said m)))
by-letter own A m read = ap (message_expansion own A) read
by-letter own B m read = ap (message_expansion own B) read

message-says : (bus : Bus) (m : CommandMessage) → IsMessage m → Says (Whole bus m)
message-says bus m is = record {
  feeds = message-feeds bus m;
  expands = λ own.
      let says = each_is_said bus m is in (
        Gives (message_events own bus (said m)),
        within-most own (listed_line bus m) says.short ∙ refused-meaning own (listed_line bus m) (Gives (message_events own bus (said m))) (meaning (listed_line bus m)) says.other (by-letter own bus m (says.read own)),
        refl,
      );
}

kept-line : (own : ScriptFor) (e : Event) → length (event_text e) ≤ 64 → by_meaning own (event_text e) (Ok (Some e)) ≡ Ok (Stays (event_text e) (Some e))
kept-line own e short = grind (arith, nat_tests, short)

event-says : (e : Event) → meaning (event_text e) ≡ Ok (Some e) → Says (Alone e)
event-says e read =
    let line = event-line e in record {
      feeds = line.feeds;
      expands = λ own. (
        Stays (event_text e) (Some e),
        within-most own (event_text e) (omega (arith, line.short)) ∙ ap (by_meaning own (event_text e)) read ∙ kept-line own e line.short,
        refl,
      );
    }

-- ---- one piece more

some-events : (own : ScriptFor) (bus : Bus) (m : CommandMessage) (room : List Event) → room ≡ message_events own bus (said m) → 0 < length room
some-events own bus m [] is = absurd (omega (arith, ap length is))
some-events own bus m (e ∷ room) is = omega arith

pub wrote-message : (own : ScriptFor) (es room : List Event) (old mid new line : List ℕ) → IsNextLine own es room line → mid ≡ old ++ line → new ≡ mid ++ 10 ∷ [] → WroteNext own old new es (length room)
wrote-message own es room old mid new line n wrote feed = record {
  piece = Whole n.bus n.message;
  some = some-events own n.bus n.message room n.room_is;
  within = n.within;
  events = n.begins ∙ ap (λ r. r ++ drop (length room) es) n.room_is;
  next = n.listed;
  says = message-says n.bus n.message n.listed.message;
  text = feed ∙ ap (λ t. t ++ 10 ∷ []) (wrote ∙ ap (λ l. old ++ l) n.spelled) ∙ append_assoc old (listed_line n.bus n.message) (10 ∷ []);
}

pub wrote-alone : (own : ScriptFor) (es : List Event) (e : Event) (old new : List ℕ) → 0 < length es → e ≡ get_or es 0 e → NoneNext own es → Wrote old new (e ∷ []) → WroteNext own old new es 1
wrote-alone own [] e old new some is none wrote = absurd (omega (arith, some))
wrote-alone own (first ∷ es) e old new some is none wrote = record {
  piece = Alone e;
  some = omega arith;
  within = omega arith;
  events = ap (λ x. x ∷ es) (sym is);
  next = subst (λ x. NoneNext own (x ∷ es)) (sym is) none;
  says = event-says e wrote.read.0;
  text = wrote.bytes ∙ ap (λ t. old ++ t) (append-nil (event_line e));
}

-- ---- pieces, one behind the other

next-more : (own : ScriptFor) (pieces : List Piece) (p : Piece) (rest : List Event) → AreNext own pieces (piece_events own p ++ rest) → IsNext own p rest → AreNext own (pieces ++ p ∷ []) rest
next-more own [] p rest before next = (next, tt)
next-more own (q ∷ pieces) p rest before next =
    let same : events_in own pieces ++ (piece_events own p ++ rest) ≡ events_in own (pieces ++ p ∷ []) ++ rest
    = sym (append_assoc (events_in own pieces) (piece_events own p) rest)
    ∙ ap (λ es. es ++ rest) (ap (λ es. events_in own pieces ++ es) (sym (append-nil (piece_events own p))) ∙ sym (flat_map-append (piece_events own) pieces (p ∷ []))) in
    (subst (IsNext own q) same before.0, next-more own pieces p rest before.1 next)

say-more : (pieces : List Piece) (p : Piece) → AllSay pieces → Says p → AllSay (pieces ++ p ∷ [])
say-more [] p all one = (one, tt)
say-more (q ∷ pieces) p all one = (all.0, say-more pieces p all.1 one)

pub wrote-more : (own : ScriptFor) (es rest : List Event) (old new : List ℕ) (taken : ℕ) → WroteSo own es rest old → WroteNext own old new rest taken → WroteSo own es (drop taken rest) new
wrote-more own es rest old new taken so next =
    let left : List Event = drop taken rest in
    let more : events_in own so.pieces ++ piece_events own next.piece ≡ events_in own (so.pieces ++ next.piece ∷ [])
    = ap (λ l. events_in own so.pieces ++ l) (sym (append-nil (piece_events own next.piece))) ∙ sym (flat_map-append (piece_events own) so.pieces (next.piece ∷ [])) in
    record {
      pieces = so.pieces ++ next.piece ∷ [];
      events = so.events ∙ ap (λ l. events_in own so.pieces ++ l) next.events ∙ sym (append_assoc (events_in own so.pieces) (piece_events own next.piece) left) ∙ ap (λ l. l ++ left) more;
      next = next-more own so.pieces next.piece left (subst (AreNext own so.pieces) next.events so.next) next.next;
      say = say-more so.pieces next.piece so.say next.says;
      text = next.text ∙ ap (λ t. t ++ (piece_line next.piece ++ 10 ∷ [])) so.text
          ∙ ap (λ t. lines_text so.pieces ++ t) (sym (append-nil (piece_line next.piece ++ 10 ∷ []))) ∙ sym (flat_map-append (λ p. piece_line p ++ 10 ∷ []) so.pieces (next.piece ∷ []));
    }

-- ---- expanded again

no-lines : lines_of [] ≡ []
unfolding lines_of
no-lines = refl

lines-more : (p : Piece) (pieces : List Piece) → Says p → lines_of (lines_text (p ∷ pieces)) ≡ piece_line p ∷ lines_of (lines_text pieces)
lines-more p pieces says = ap lines_of (append_assoc (piece_line p) (10 ∷ []) (lines_text pieces)) ∙ lines-line (piece_line p) (lines_text pieces) says.feeds

pub events-back : (own : ScriptFor) (pieces : List Piece) → AllSay pieces → all_events own (lines_of (lines_text pieces)) ≡ events_in own pieces
events-back own [] say = ap (all_events own) no-lines
events-back own (p ∷ pieces) say =
    let e = say.0.expands own in
    ap (all_events own) (lines-more p pieces say.0) ∙ ap (λ x. expanded_events x ++ all_events own (lines_of (lines_text pieces))) e.1
    ∙ ap (λ es. es ++ all_events own (lines_of (lines_text pieces))) e.2 ∙ ap (λ es. piece_events own p ++ es) (events-back own pieces say.1)

pub none-refused : (own : ScriptFor) (n : ℕ) (pieces : List Piece) → AllSay pieces → refusals_from own n (lines_of (lines_text pieces)) ≡ []
unfolding refusals_from
none-refused own n [] say = ap (refusals_from own n) no-lines
none-refused own n (p ∷ pieces) say =
    let e = say.0.expands own in
    ap (refusals_from own n) (lines-more p pieces say.0) ∙ ap (λ x. refusal_at n x ++ refusals_from own (n + 1) (lines_of (lines_text pieces))) e.1 ∙ none-refused own (n + 1) pieces say.1

pub gives-back : (own : ScriptFor) (script : Reading) (events es : List Event) (text : List ℕ) → WroteSo own events [] text → events ≡ es → script ≡ adds es nothing
    → (refusals_in own text ≡ []) × (all_events own (lines_of text) ≡ script.events)
gives-back own script events es text so same read = (
  ap (refusals_in own) so.text ∙ none-refused own 1 so.pieces so.say,
  ap (λ t. all_events own (lines_of t)) so.text ∙ events-back own so.pieces so.say ∙ sym (append-nil (events_in own so.pieces)) ∙ sym so.events ∙ same
      ∙ sym (append-nil es) ∙ sym (ap (λ r. r.events) read),
)
