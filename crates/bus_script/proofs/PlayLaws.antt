-- Laws of what is played: nothing, one event, one after another, and in part.
use Rattle.std.proofs.Common.{ℕ, Bool, ◌≡◌, List, [], ◌∷◌, ◌++◌, refl, sym, ap, ◌∙◌, append_assoc, append-nil, subst, Option}
use Rattle.std.specs.Io.KnownBytes.{Appends, Keeps}
use Rattle.std.proofs.KnownBytes.{Appends-nil, Appends-trans, Appends-kept}
use Rattle.bus_word.specs.declared.cell.Cell.{Cell}
use Rattle.bus_legal.specs.Description.{Description}
use Rattle.terminal_rules.specs.Past.{history_after}
use Rattle.terminal_rules.specs.declared.event.Event.{Event}
use Rattle.bus_terminal.specs.declared.terminal.Terminal.{Terminal}
use Rattle.bus_terminal.specs.Stands.{StandsAt, TakesEvent}
use Rattle.byte_streams.specs.Device.{IsPartWritten}
use Rattle.script_lines.specs.Transcript.{transcript, text_at}
use Rattle.bus_script.specs.Played.{TextAt, Played, PlayedPart}
use Rattle.bus_script.specs.inner.Pieces.{Taken}

pub after_append : (h es fs : List Event) → history_after (es ++ fs) h ≡ history_after fs (history_after es h)
after_append h [] fs = refl
after_append h (e ∷ es) fs = after_append (e ∷ h) es fs

pub transcript-append : (text : List Event → Event → List ℕ) (h es fs : List Event) → transcript text h (es ++ fs) ≡ transcript text h es ++ transcript text (history_after es h) fs
unfolding transcript
transcript-append text h [] fs = refl
transcript-append text h (e ∷ es) fs =
    ap (λ x. text h e ++ x) (transcript-append text (e ∷ h) es fs)
    ∙ sym (append_assoc (text h e) (transcript text (e ∷ h) es) (transcript text (history_after es (e ∷ h)) fs))

pub transcript-one : (text : List Event → Event → List ℕ) (h : List Event) (e : Event) → transcript text h (e ∷ []) ≡ text h e
unfolding transcript
transcript-one text h e = append-nil (text h e)

module _ {L W : Type 0} {is_legal : L → Cell → Bool} {text : TextAt} {written : W → Option (List ℕ)} where
  pub Played-nil : (a : Terminal L × W) → Played is_legal text written a a []
  unfolding transcript
  Played-nil a = record { at = λ P h s. s; wrote = λ P h s. Appends-nil (written a.1) }

  pub Played-trans : {a b c : Terminal L × W} {es fs : List Event} → Played is_legal text written a b es → Played is_legal text written b c fs → Played is_legal text written a c (es ++ fs)
  Played-trans {a = a} {b = b} {c = c} {es = es} {fs = fs} p q = record {
    at = λ P h s. subst (λ g. StandsAt is_legal P g c.0) (sym (after_append h es fs)) (q.at P (history_after es h) (p.at P h s));
    wrote = λ P h s. subst (Appends (written a.1) (written c.1)) (sym (transcript-append (text P) h es fs))
        (Appends-trans (written a.1) (written b.1) (written c.1) (transcript (text P) h es) (transcript (text P) (history_after es h) fs) (p.wrote P h s) (q.wrote P (history_after es h) (p.at P h s)));
  }

  -- one event, whose text is this
  pub Played-one : (a b : Terminal L × W) (e : Event) (bytes : List ℕ) → TakesEvent is_legal e a.0 b.0
      → ((P : Description) (h : List Event) → StandsAt is_legal P h a.0 → bytes ≡ text P h e)
      → Appends (written a.1) (written b.1) bytes → Played is_legal text written a b (e ∷ [])
  Played-one a b e bytes step is wrote = record {
    at = step;
    wrote = λ P h s. subst (Appends (written a.1) (written b.1)) (is P h s ∙ sym (transcript-one (text P) h e)) wrote;
  }

  -- what the sink keeps stays played
  pub Played-kept : {a b : Terminal L × W} {w : W} {es : List Event} → Played is_legal text written a b es → Keeps (written b.1) (written w) → Played is_legal text written a (b.0, w) es
  Played-kept {a = a} {b = b} {w = w} p k = record { at = p.at; wrote = λ P h s. Appends-kept (written a.1) (written b.1) (written w) _ (p.wrote P h s) k }

-- ---- events that are not answered

module _ {L : Type 0} {is_legal : L → Cell → Bool} where
  pub Taken-nil : (t : Terminal L) → Taken is_legal t t []
  unfolding transcript
  Taken-nil t = record { at = λ P h s. s; silent = λ P h s. refl }

  pub Taken-one : (t t' : Terminal L) (e : Event) → TakesEvent is_legal e t t' → ((P : Description) (h : List Event) → [] ≡ text_at P h e) → Taken is_legal t t' (e ∷ [])
  Taken-one t t' e step silent = record { at = step; silent = λ P h s. transcript-one (text_at P) h e ∙ sym (silent P h) }

  pub Taken-plays : {W : Type 0} {written : W → Option (List ℕ)} {t t' : Terminal L} {es : List Event} (w : W) → Taken is_legal t t' es → Played is_legal text_at written (t, w) (t', w) es
  Taken-plays {written = written} w p = record { at = p.at; wrote = λ P h s. subst (Appends (written w) (written w)) (sym (p.silent P h s)) (Appends-nil (written w)) }

-- ---- one event more, of whose text a part was written

module _ {L W : Type 0} {is_legal : L → Cell → Bool} {written : W → Option (List ℕ)} where
  pub Played-part : {a b c : Terminal L × W} {es fs : List Event} {e : Event} → Played is_legal text_at written a b es → PlayedPart is_legal written b c fs e → PlayedPart is_legal written a c (es ++ fs) e
  Played-part {a = a} {b = b} {c = c} {es = es} {fs = fs} {e = e} p q = record {
    at = λ P h s. subst (λ g. StandsAt is_legal P (e ∷ g) c.0) (sym (after_append h es fs)) (q.at P (history_after es h) (p.at P h s));
    wrote = λ P h s. let t = q.wrote P (history_after es h) (p.at P h s) in (
      t.0,
      t.1,
      t.2 ∙ ap (λ g. text_at P g e) (sym (after_append h es fs)),
      subst (Appends (written a.1) (written c.1))
          (sym (append_assoc (transcript (text_at P) h es) (transcript (text_at P) (history_after es h) fs) t.0) ∙ ap (λ x. x ++ t.0) (sym (transcript-append (text_at P) h es fs)))
          (Appends-trans (written a.1) (written b.1) (written c.1) (transcript (text_at P) h es) (transcript (text_at P) (history_after es h) fs ++ t.0) (p.wrote P h s) t.3),
    );
  }

  pub PlayedPart-one : (a b : Terminal L × W) (e : Event) (bytes : List ℕ) → TakesEvent is_legal e a.0 b.0
      → ((P : Description) (h : List Event) → StandsAt is_legal P h a.0 → bytes ≡ text_at P h e)
      → IsPartWritten (written a.1) (written b.1) bytes → PlayedPart is_legal written a b [] e
  unfolding transcript
  PlayedPart-one a b e bytes step is wrote = record { at = step; wrote = λ P h s. (wrote.0, wrote.1, wrote.2 ∙ is P h s, wrote.3) }

  -- a last whole text is a part of it
  pub Played-last : {a b : Terminal L × W} (es : List Event) (e : Event) → Played is_legal text_at written a b (es ++ e ∷ []) → PlayedPart is_legal written a b es e
  Played-last {a = a} {b = b} es e p = record {
    at = λ P h s. subst (λ g. StandsAt is_legal P g b.0) (after_append h es (e ∷ [])) (p.at P h s);
    wrote = λ P h s. (
      text_at P (history_after es h) e,
      [],
      append-nil (text_at P (history_after es h) e),
      subst (Appends (written a.1) (written b.1)) (transcript-append (text_at P) h es (e ∷ []) ∙ ap (λ x. transcript (text_at P) h es ++ x) (transcript-one (text_at P) (history_after es h) e)) (p.wrote P h s),
    );
  }

  pub PlayedPart-kept : {a b : Terminal L × W} {w : W} {es : List Event} {e : Event} → PlayedPart is_legal written a b es e → Keeps (written b.1) (written w) → PlayedPart is_legal written a (b.0, w) es e
  PlayedPart-kept {a = a} {b = b} {w = w} p k = record {
    at = p.at;
    wrote = λ P h s. let t = p.wrote P h s in (t.0, t.1, t.2, Appends-kept (written a.1) (written b.1) (written w) _ t.3 k);
  }
