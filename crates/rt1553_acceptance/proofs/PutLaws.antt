-- What was written of exchanges, one after the other.
use Rattle.std.proofs.Common.{ℕ, ◌≡◌, ◌∙◌, ◌+◌, ◌<◌, ◌||◌, Bool, true, false, List, [], ◌∷◌, ◌++◌, Option, Result, Ok, Err, OnOk, length, get_or, take, refl, sym, ap, subst, append_assoc, append-nil}
use Rattle.std.proofs.lemmas.List.{take_more}
use Rattle.std.specs.Io.KnownBytes.{Appends}
use Rattle.std.proofs.KnownBytes.{Appends-nil, Appends-trans}
use Rattle.bus_word.specs.declared.cell.Cell.{Cell}
use Rattle.bus_legal.specs.Description.{Description}
use Rattle.terminal_rules.specs.declared.event.Event.{Event}
use Rattle.terminal_rules.specs.Past.{history_after}
use Rattle.terminal_exchanges.specs.Exchanges.{Exchange, exchange_then, script_of}
use Rattle.terminal_exchanges.proofs.EventLaws.{exchange-append}
use Rattle.bus_terminal.specs.declared.terminal.Terminal.{Terminal}
use Rattle.bus_terminal.specs.Stands.{StandsAt}
use Rattle.script_lines.specs.Transcript.{transcript}
use Rattle.bus_script.specs.Played.{Played}
use Rattle.bus_script.proofs.PlayLaws.{after_append}
use Rattle.message_names.specs.NameRow.{NameRow}
use Rattle.rt1553_acceptance.specs.Text.{event_stated, comment_of, exchanges_stated}
use Rattle.rt1553_acceptance.specs.inner.Fits.{AllFit}
use Rattle.rt1553_acceptance.specs.inner.Puts.{Puts}

script-append : (xs ys : List Exchange) → script_of (xs ++ ys) ≡ script_of xs ++ script_of ys
script-append [] ys = refl
script-append (x ∷ xs) ys =
    ap (exchange_then x) (script-append xs ys) ∙ sym (exchange-append x (script_of xs ++ script_of ys))
    ∙ sym (append_assoc (exchange_then x []) (script_of xs) (script_of ys)) ∙ ap (λ es. es ++ script_of ys) (exchange-append x (script_of xs))

-- the history after an exchange and others
after-exchange : (x : Exchange) (xs : List Exchange) (h : List Event) → history_after (script_of (x ∷ xs)) h ≡ history_after (script_of xs) (history_after (script_of (x ∷ [])) h)
after-exchange x xs h = ap (λ es. history_after es h) (sym (exchange-append x (script_of xs))) ∙ after_append h (script_of (x ∷ [])) (script_of xs)

stated-append : (rows : List NameRow) (P : Description) (h : List Event) (xs ys : List Exchange)
    → exchanges_stated rows P h (xs ++ ys) ≡ exchanges_stated rows P h xs ++ exchanges_stated rows P (history_after (script_of xs) h) ys
unfolding exchanges_stated
stated-append rows P h [] ys = refl
stated-append rows P h (x ∷ xs) ys =
    let one : List Event = script_of (x ∷ []) in
    let text : List ℕ = transcript (event_stated P) h one in
    let later : List ℕ = exchanges_stated rows P (history_after one h) xs in
    let others : List ℕ = exchanges_stated rows P (history_after (script_of (x ∷ xs)) h) ys in
    ap (λ rest. comment_of rows P x ++ (text ++ rest)) (stated-append rows P (history_after one h) xs ys ∙ ap (λ g. later ++ exchanges_stated rows P g ys) (sym (after-exchange x xs h)))
    ∙ ap (λ rest. comment_of rows P x ++ rest) (sym (append_assoc text later others))
    ∙ sym (append_assoc (comment_of rows P x) (text ++ later) others)

pub fit-joined : (P : Description) (h es fs : List Event) → AllFit P h es → AllFit P (history_after es h) fs → AllFit P h (es ++ fs)
fit-joined P h [] fs a b = b
fit-joined P h (e ∷ es) fs a b = (a.0, fit-joined P (e ∷ h) es fs a.1 b)

pub Puts-nil : {L W : Type 0} (is_legal : L → Cell → Bool) (written : W → Option (List ℕ)) (rows : List NameRow) (P : Description) (t : Terminal L) (w : W) → Puts is_legal written rows P t t w w []
unfolding exchanges_stated
Puts-nil is_legal written rows P t w = record { at = λ h s. s; text = λ h s. Appends-nil (written w); fit = λ h s. tt }

pub Puts-trans : {L W : Type 0} {is_legal : L → Cell → Bool} {written : W → Option (List ℕ)} {rows : List NameRow} {P : Description} {t t' t'' : Terminal L} {w w' w'' : W} {xs ys : List Exchange}
    → Puts is_legal written rows P t t' w w' xs → Puts is_legal written rows P t' t'' w' w'' ys → Puts is_legal written rows P t t'' w w'' (xs ++ ys)
Puts-trans {is_legal = is_legal} {written = written} {rows = rows} {P = P} {t'' = t''} {w = w} {w' = w'} {w'' = w''} {xs = xs} {ys = ys} p q = record {
  at = λ h s. subst (λ g. StandsAt is_legal P g t'') (sym (ap (λ es. history_after es h) (script-append xs ys) ∙ after_append h (script_of xs) (script_of ys)))
      (q.at (history_after (script_of xs) h) (p.at h s));
  text = λ h s. subst (Appends (written w) (written w'')) (sym (stated-append rows P h xs ys))
      (Appends-trans (written w) (written w') (written w'') (exchanges_stated rows P h xs) (exchanges_stated rows P (history_after (script_of xs) h) ys)
      (p.text h s) (q.text (history_after (script_of xs) h) (p.at h s)));
  fit = λ h s. subst (AllFit P h) (sym (script-append xs ys)) (fit-joined P h (script_of xs) (script_of ys) (p.fit h s) (q.fit (history_after (script_of xs) h) (p.at h s)));
}

-- a comment, and the events of its exchange
pub Puts-one : {L W : Type 0} (is_legal : L → Cell → Bool) (written : W → Option (List ℕ)) (rows : List NameRow) (P : Description) (t t' : Terminal L) (w w' w'' : W) (x : Exchange)
    → Appends (written w) (written w') (comment_of rows P x) → Played is_legal event_stated written (t, w') (t', w'') (script_of (x ∷ []))
    → ((Q : Description) (h : List Event) → StandsAt is_legal Q h t → AllFit Q h (script_of (x ∷ []))) → Puts is_legal written rows P t t' w w'' (x ∷ [])
unfolding exchanges_stated
Puts-one is_legal written rows P t t' w w' w'' x comment plays fits = record {
  at = plays.at P;
  text = λ h s. subst (Appends (written w) (written w'')) (ap (λ text. comment_of rows P x ++ text) (sym (append-nil (transcript (event_stated P) h (script_of (x ∷ []))))))
      (Appends-trans (written w) (written w') (written w'') (comment_of rows P x) (transcript (event_stated P) h (script_of (x ∷ []))) comment (plays.wrote P h s));
  fit = fits P;
}

-- the same, where the exchange was played to its end
pub Puts-events : {L W E : Type 0} (is_legal : L → Cell → Bool) (written : W → Option (List ℕ)) (rows : List NameRow) (P : Description) (t t' : Terminal L) (w w' w'' : W) (x : Exchange) (events : List Event) (r : Result Unit E)
    → events ≡ script_of (x ∷ []) → Appends (written w) (written w') (comment_of rows P x) → OnOk r (Played is_legal event_stated written (t, w') (t', w'') events)
    → OnOk r ((Q : Description) (h : List Event) → StandsAt is_legal Q h t → AllFit Q h events) → OnOk r (Puts is_legal written rows P t t' w w'' (x ∷ []))
Puts-events is_legal written rows P t t' w w' w'' x events (Ok u) is comment plays fits =
    Puts-one is_legal written rows P t t' w w' w'' x comment (subst (Played is_legal event_stated written (t, w') (t', w'')) is plays)
    (λ Q h s. subst (AllFit Q h) is (fits Q h s))
Puts-events is_legal written rows P t t' w w' w'' x events (Err e) is comment plays fits = tt

-- one element more of a list
pub taken_more : {X : Type 0} (xs : List X) (i : ℕ) (x : X) → i < length xs → get_or xs i x ≡ x → take (i + 1) xs ≡ take i xs ++ x ∷ []
taken_more xs i x low is = take_more xs i x low ∙ ap (λ y. take i xs ++ y ∷ []) is

-- a write that passes leaves it as it was whether one has failed
pub failed_as_before : (first old new : Bool) → old ≡ first → new ≡ (old || false) → new ≡ first
failed_as_before first true new before after = after ∙ before
failed_as_before first false new before after = after ∙ before

-- a trial more was tried
pub tried_on : (xs here later all : List Exchange) (from : List Exchange) → from ≡ here ++ later → xs ++ from ≡ all → (xs ++ here) ++ later ≡ all
tried_on xs here later all from is before = append_assoc xs here later ∙ ap (λ ys. xs ++ ys) (sym is) ∙ before
