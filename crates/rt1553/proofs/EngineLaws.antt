-- Laws of a run from power-up: what was played is what was written, as the profile's own terminal writes it.
use Rattle.std.proofs.Common.{ℕ, ◌≡◌, ◌≤◌, ◌∙◌, List, [], ◌∷◌, ◌++◌, Option, Bool, refl, sym, ap, ap₂, subst}
use Rattle.std.specs.Io.KnownBytes.{Appends}
use Rattle.bus_word.specs.declared.cell.Cell.{Cell}
use Rattle.bus_legal.specs.declared.setup.Setup.{Setup}
use Rattle.bus_legal.specs.Description.{Description, described}
use Rattle.bus_legal.specs.Tables.{tables_say}
use Rattle.bus_legal.specs.Parts.{Parts, parts_of, description_in, IsNormal}
use Rattle.bus_legal.specs.Reach.{reach}
use Rattle.bus_legal.proofs.NormalLaws.{reach-set_up_normal}
use Rattle.terminal_rules.specs.declared.event.Event.{Event}
use Rattle.bus_terminal.specs.declared.terminal.Terminal.{Terminal}
use Rattle.terminal_rules.specs.Out.{out}
use Rattle.bus_terminal.specs.Stands.{StandsAt}
use Rattle.terminal_rules.specs.Past.{history_after}
use Rattle.terminal_rules.proofs.Reach.Same.{out-reach}
use Rattle.bus_script.specs.declared.fault.RunFault.{RunFault}
use Rattle.bus_script.specs.Reading.{Reading, stops, nothing, ByFault}
use Rattle.script_lines.specs.Transcript.{answer_text, text_at, transcript}
use Rattle.bus_script.specs.Played.{Ran, StoppedReading, StoppedWriting}
use Rattle.bus_script.proofs.FeedLaws.{ByFault-weaker}
use Rattle.rt1553.specs.Engine.{Writes, StopsBy}

-- two descriptions whose terminals answer alike at every event
abbrev pub AnswersAlike : Description → Description → Type 0
AnswersAlike P Q = (h : List Event) (e : Event) → out P h e ≡ out Q h e

pub transcripts_alike : (P Q : Description) → AnswersAlike P Q → (h es : List Event) → transcript (text_at P) h es ≡ transcript (text_at Q) h es
unfolding transcript
transcripts_alike P Q alike h [] = refl
transcripts_alike P Q alike h (e ∷ es) = ap₂ (λ a b. a ++ b) (ap answer_text (alike h e)) (transcripts_alike P Q alike (e ∷ h) es)

-- a terminal that is set up by what can be reached of a description answers as it
pub set_up_alike : (v : Parts) (setup : Setup) (P : Description) → IsNormal v → parts_of setup v.tables ≡ v → setup.address ≤ 30 → description_in v ≡ reach P
    → AnswersAlike (described setup (tables_say v.tables)) P
set_up_alike v setup P normal parts own reached h e =
    let Q = described setup (tables_say v.tables) in
    let small : P.address ≤ 30 = subst (λ n. n ≤ 30) (ap (λ D. D.address) reached) normal.address in
    sym (out-reach Q h e own)
    ∙ ap (λ D. out D h e) (reach-set_up_normal v setup normal parts ∙ reached)
    ∙ out-reach P h e small

pub ran_writes : {L W : Type 0} (is_legal : L → Cell → Bool) (written : W → Option (List ℕ)) (P Q : Description) (a b : Terminal L × W) (text : List ℕ) (es : List Event) (r : Reading)
    → StandsAt is_legal Q [] a.0 → AnswersAlike Q P → Ran is_legal written a b text es r → Writes P text r (written a.1) (written b.1) es
ran_writes is_legal written P Q a b text es r s alike ran = record {
  says = ran.says;
  wrote = subst (Appends (written a.1) (written b.1)) (transcripts_alike Q P alike [] es) (ran.plays.wrote Q [] s);
}

-- what is known of a script that is not run to its end
pub stopped : {L W : Type 0} (is_legal : L → Cell → Bool) (written : W → Option (List ℕ)) (P Q : Description) (a b : Terminal L × W) (left left' : Option (List ℕ)) (script : List ℕ) (f : RunFault)
    → StandsAt is_legal Q [] a.0 → AnswersAlike Q P
    → ByFault f
    ((es : List Event) × Ran is_legal written a b script es (stops f))
    (StoppedReading is_legal written left left' a b)
    (StoppedWriting is_legal written script a b)
    → StopsBy P script left left' (written a.1) (written b.1) f
stopped is_legal written P Q a b left left' script f s alike known =
    ByFault-weaker f
    (λ k. (k.0, ran_writes is_legal written P Q a b script k.0 (stops f) s alike k.1))
    (λ k. record { events = k.0; whole = k.1; part = k.2; read = k.3; ends = k.4; unfinished = k.5; writes = ran_writes is_legal written P Q a b k.1 k.0 nothing s alike k.6 })
    (λ k. let text = k.3.plays.wrote Q [] s in record {
      events = k.0;
      event = k.1;
      others = k.2;
      part = text.0;
      more = text.1;
      says = k.3.says;
      splits = text.2 ∙ ap answer_text (alike (history_after k.0 []) k.1);
      wrote = subst (λ x. Appends (written a.1) (written b.1) (x ++ text.0)) (transcripts_alike Q P alike [] k.0) text.3;
    })
    known
