-- Events that were written, one behind the other.
use Rattle.std.proofs.Common.{ℕ, ◌≡◌, ◌∙◌, ◌+◌, ◌<◌, List, [], ◌∷◌, ◌++◌, Option, Some, length, get_or, take, sym, ap, subst, append_assoc}
use Rattle.std.proofs.lemmas.List.{map-append, take_more}
use Rattle.std.proofs.lemmas.Grind.{flat_map-append}
use Rattle.bus_word.specs.declared.word.Bus.{Bus}
use Rattle.terminal_rules.specs.declared.event.Event.{Event}
use Rattle.terminal_rules.specs.declared.event.Event.TheVariants.{Gap}
use Rattle.script_lines.specs.EventLine.{event_line, script_text}
use Rattle.rt1553_tool.specs.declared.fields.WordFields.TheVariants.{Command, Status, Data}
use Rattle.rt1553_tool.specs.declared.fields.CommandFields.{CommandFields}
use Rattle.rt1553_tool.specs.declared.fields.StatusFields.{StatusFields}
use Rattle.rt1553_tool.specs.WordLines.{status_with}
use Rattle.rt1553_expand.specs.Events.{word_event, data_events, sender_events}
use Rattle.rt1553_expand.specs.inner.Wrote.{AreRead, Wrote}

read-append : (es fs : List Event) → AreRead es → AreRead fs → AreRead (es ++ fs)
read-append [] fs p q = q
read-append (e ∷ es) fs p q = (p.0, read-append es fs p.1 q)

pub Wrote-trans : {a b c : List ℕ} {es fs : List Event} → Wrote a b es → Wrote b c fs → Wrote a c (es ++ fs)
Wrote-trans {a = a} {es = es} {fs = fs} p q = record {
  bytes = q.bytes ∙ ap (λ bytes. bytes ++ script_text fs) p.bytes ∙ append_assoc a (script_text es) (script_text fs) ∙ ap (λ t. a ++ t) (sym (flat_map-append event_line es fs));
  read = read-append es fs p.read q.read;
}

pub Wrote-same : {a b : List ℕ} {es fs : List Event} → es ≡ fs → Wrote a b es → Wrote a b fs
Wrote-same {a = a} {b = b} same p = subst (λ es. Wrote a b es) same p

-- one event more
pub Wrote-event : {a b c : List ℕ} (events : List Event) (i : ℕ) (e : Event) → i < length events → e ≡ get_or events i e → Wrote a b (take i events) → Wrote b c (e ∷ []) → Wrote a c (take (i + 1) events)
Wrote-event {a = a} {c = c} events i e low is p q =
    Wrote-same {a = a} {b = c} (ap (λ x. take i events ++ x ∷ []) is ∙ sym (take_more events i e low)) (Wrote-trans p q)

-- one data word more
pub data-more : (bus : Bus) (words : List ℕ) (i : ℕ) (old a new : List Event) → i < length words → a ≡ old ++ data_events bus (take i words)
    → new ≡ a ++ word_event bus (Data (get_or words i 0)) ∷ [] → new ≡ old ++ data_events bus (take (i + 1) words)
data-more bus words i old a new low p q =
    q ∙ ap (λ es. es ++ word_event bus (Data (get_or words i 0)) ∷ []) p ∙ append_assoc old (data_events bus (take i words)) (word_event bus (Data (get_or words i 0)) ∷ [])
    ∙ ap (λ es. old ++ es)
    (sym (map-append (λ word. word_event bus (Data word)) (take i words) (get_or words i 0 ∷ [])) ∙ ap (data_events bus) (sym (take_more words i 0 low)))

three-more : {A : Type 0} (old a b new : List A) (x y z : A) → a ≡ old ++ x ∷ [] → b ≡ a ++ y ∷ [] → new ≡ b ++ z ∷ [] → new ≡ old ++ x ∷ y ∷ z ∷ []
three-more old a b new x y z p q r =
    r ∙ ap (λ l. l ++ z ∷ []) (q ∙ ap (λ l. l ++ y ∷ []) p ∙ append_assoc old (x ∷ []) (y ∷ [])) ∙ append_assoc old (x ∷ y ∷ []) (z ∷ [])

-- what comes from and to the terminal that sends in a transfer
pub sender-more : (bus : Bus) (sender : Option CommandFields) (f : CommandFields) (status : StatusFields) (old a b new : List Event) → sender ≡ Some f → status ≡ status_with f.address []
    → a ≡ old ++ word_event bus (Command f) ∷ [] → b ≡ a ++ Gap bus ∷ [] → new ≡ b ++ word_event bus (Status status) ∷ [] → new ≡ old ++ sender_events bus sender
sender-more bus sender f status old a b new is plain p q r =
    three-more old a b new _ _ _ p q r
    ∙ ap (λ s. old ++ word_event bus (Command f) ∷ Gap bus ∷ word_event bus (Status s) ∷ []) plain ∙ ap (λ s. old ++ sender_events bus s) (sym is)
