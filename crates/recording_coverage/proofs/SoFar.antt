-- What is counted of the first of some events.
use Rattle.std.proofs.Common.{◌≡◌, ℕ, ◌+◌, ◌<◌, ◌≤◌, Bool, List, [], ◌∷◌, ◌++◌, length, map, take, get_or, refl, ap, sym, subst, ◌∙◌, append_assoc}
use Rattle.std.proofs.lemmas.List.{take_more, take_all, map-append}
use Rattle.bus_word.specs.declared.cell.Cell.{Cell}
use Rattle.bus_legal.specs.Description.{Description}
use Rattle.terminal_rules.specs.declared.event.Event.{Event}
use Rattle.terminal_rules.specs.Past.{history_after}
use Rattle.terminal_messages.specs.declared.watch.MessageWatch.{MessageWatch}
use Rattle.terminal_messages.specs.declared.fold.ClosedMessages.{ClosedMessages}
use Rattle.terminal_messages.specs.Message.{Message}
use Rattle.terminal_messages.specs.Parts.{tell, command_begun, second_of, terminal_command}
use Rattle.terminal_messages.specs.Messages.{closed, closed_by}
use Rattle.terminal_messages.specs.Ends.{ended_how}
use Rattle.terminal_messages.specs.View.{View, told_view}
use Rattle.terminal_messages.specs.Fold.{shown_closed}
use Rattle.terminal_messages.specs.Watch.{WatchStands, told_event_at}
use Rattle.recording_coverage.specs.declared.coverage.Coverage.{Coverage}
use Rattle.recording_coverage.specs.declared.outcome.MessageEnd.{MessageEnd}
use Rattle.recording_coverage.specs.Endings.{counted_end}
use Rattle.recording_coverage.specs.Covers.{Covers}
use Rattle.recording_coverage.specs.inner.Counted.{end_told, ends_told, ends_over}

-- each event is called 0
abbrev pub no_place : ℕ → ℕ
no_place n = 0

-- the terminal stands at them, after a history, and the messages are counted that are over with them, behind those that were over before
pub record CountedSoFar {L : Type 0} (is_legal : L → Cell → Bool) (P : Description) (own : ℕ) (h : List Event) (es : List Event) (n : ℕ) (w : MessageWatch L) (old c : Coverage) : Type 0 where
  pub stands : WatchStands is_legal P no_place (history_after (take n es) h) w
  pub covers : (ends : List MessageEnd) → own ≡ P.address → Covers (ends ++ ends_over P h) old → Covers (ends ++ ends_over P (history_after (take n es) h)) c

history_push : (es : List Event) (e : Event) (h : List Event) → history_after (es ++ e ∷ []) h ≡ e ∷ history_after es h
history_push [] e h = refl
history_push (x ∷ es) e h = history_push es e (x ∷ h)

-- what is told of messages says how they ended
pub told_ends : (P : Description) (own : ℕ) (ms : List Message) → own ≡ P.address → ends_told own (map (told_view P no_place) ms) ≡ map (counted_end P) ms
told_ends P own [] same = refl
told_ends P own (m ∷ ms) same = λ j. record { command = terminal_command (same j) (command_begun m) (second_of m); ending = ended_how P m } ∷ told_ends P own ms same j

-- messages one after the other
pub covers_three : (own : ℕ) (ends : List MessageEnd) (xs ys zs : List View) (c : Coverage) → Covers (((ends ++ ends_told own xs) ++ ends_told own ys) ++ ends_told own zs) c → Covers (ends ++ ends_told own ((xs ++ ys) ++ zs)) c
covers_three own ends xs ys zs c covers =
    let f : View → MessageEnd = λ v. end_told own v.state in
    subst (λ ks. Covers ks c)
    (ap (λ ks. ks ++ map f zs) (append_assoc ends (map f xs) (map f ys))
    ∙ (append_assoc ends (map f xs ++ map f ys) (map f zs)
    ∙ ap (λ ks. ends ++ ks) (sym (map-append f (xs ++ ys) zs ∙ ap (λ ks. ks ++ map f zs) (map-append f xs ys)))))
    covers

-- messages behind those that are over
pub covers_more : (P : Description) (own : ℕ) (k : List Event) (ms : List Message) (x : ClosedMessages) (ends : List MessageEnd) (d : Coverage) → own ≡ P.address → shown_closed x ≡ map (told_view P no_place) ms
    → Covers ((ends ++ ends_over P k) ++ ends_told own (shown_closed x)) d → Covers (ends ++ map (counted_end P) (closed (tell P k) ++ ms)) d
covers_more P own k ms x ends d same shown covers =
    let told : ends_told own (shown_closed x) ≡ map (counted_end P) ms = ap (ends_told own) shown ∙ told_ends P own ms same in
    subst (λ ks. Covers ks d)
    (append_assoc ends (ends_over P k) (ends_told own (shown_closed x))
    ∙ ap (λ ks. ends ++ ks) (ap (λ ks. ends_over P k ++ ks) told ∙ sym (map-append (counted_end P) (closed (tell P k)) ms)))
    covers

-- no event yet
pub counted_none : {L : Type 0} (is_legal : L → Cell → Bool) (P : Description) (own : ℕ) (h : List Event) (es : List Event) (w : MessageWatch L) (c : Coverage) → WatchStands is_legal P no_place h w → CountedSoFar is_legal P own h es 0 w c c
counted_none is_legal P own h es w c stands = record { stands = stands; covers = λ ends same covers. covers }

-- one event more
pub counted_next : {L : Type 0} (is_legal : L → Cell → Bool) (P : Description) (own : ℕ) (h : List Event) (es : List Event) (n : ℕ) (e : Event) (w v : MessageWatch L) (old c d : Coverage) (x : ClosedMessages) →
    n < length es → e ≡ get_or es n e → CountedSoFar is_legal P own h es n w old c
    → ((k : List Event) → WatchStands is_legal P no_place k w → shown_closed x ≡ map (told_view P no_place) (closed_by (tell P k) (told_event_at P k e)))
    → ((ends : List MessageEnd) → Covers ends c → Covers (ends ++ ends_told own (shown_closed x)) d)
    → ((k : List Event) → WatchStands is_legal P no_place k w → WatchStands is_legal P no_place (e ∷ k) v)
    → CountedSoFar is_legal P own h es (n + 1) v old d
counted_next is_legal P own h es n e w v old c d x l at s shown counts takes =
    let k : List Event = history_after (take n es) h in
    let next : history_after (take (n + 1) es) h ≡ e ∷ k =
    ap (λ fs. history_after fs h) (take_more es n e l ∙ ap (λ y. take n es ++ y ∷ []) (sym at)) ∙ history_push (take n es) e h in
    record {
      stands = subst (λ y. WatchStands is_legal P no_place y v) (sym next) (takes k s.stands);
      covers = λ ends same covers. subst (λ y. Covers (ends ++ ends_over P y) d) (sym next)
          (covers_more P own k (closed_by (tell P k) (told_event_at P k e)) x ends d same (shown k s.stands) (counts (ends ++ ends_over P k) (s.covers ends same covers)));
    }

-- all of them
pub counted_all : {L : Type 0} (is_legal : L → Cell → Bool) (P : Description) (own : ℕ) (h : List Event) (es : List Event) (n : ℕ) (w : MessageWatch L) (old c : Coverage) → length es ≤ n → CountedSoFar is_legal P own h es n w old c
    → (WatchStands is_legal P no_place (history_after es h) w) × ((ends : List MessageEnd) → own ≡ P.address → Covers (ends ++ ends_over P h) old → Covers (ends ++ ends_over P (history_after es h)) c)
counted_all is_legal P own h es n w old c l s = (
  subst (λ fs. WatchStands is_legal P no_place (history_after fs h) w) (take_all n es l) s.stands,
  λ ends same covers. subst (λ fs. Covers (ends ++ ends_over P (history_after fs h)) c) (take_all n es l) (s.covers ends same covers),
)
