-- Laws of proposals: a text explains a recording exactly if what can be reached of it does.
use Rattle.std.proofs.Common.{ℕ, ◌≡◌, ◌≤◌, ◌∙◌, ◌↔◌, Bool, List, [], ◌∷◌, Result, Ok, Err, IfOk, IsTrue, sym, ap, subst, refl}
use Rattle.std.specs.Prelude.{Option, Some, None, is_some, not, true, false}
use Rattle.recorded_terminal.specs.declared.watch.WatchFault.{WatchFault}
use Rattle.bus_legal.specs.Description.{Description}
use Rattle.bus_legal.specs.Parts.{Parts, description_in, IsNormal}
use Rattle.bus_legal.specs.Reach.{reach}
use Rattle.terminal_rules.specs.declared.event.Event.{Event}
use Rattle.terminal_rules.proofs.Reach.Same.{out-reach}
use Rattle.terminal_rules.specs.Out.{out}
use Rattle.terminal_recordings.specs.Recordings.{Sighting, seen_then, sightings_from, IsExplained}
use Rattle.terminal_recordings.specs.MaybeGaps.{MaybeSighting, ExplainsReading}
use Rattle.rt1553.specs.declared.fault.LoadFault.{LoadFault}
use Rattle.rt1553.specs.declared.fault.LoadFault.TheVariants as load
use Rattle.rt1553.specs.Load.{is_canon_text, Of, OfBy, Reaches, IsNotLoaded}
use Rattle.rt1553.proofs.RefusalLaws.{only_memory_refuses}
use Rattle.rt1553.proofs.EngineLaws.{AnswersAlike}
use Rattle.rt1553.proofs.LoadLaws.{one_description}
use Rattle.inferred_profiles.specs.Proposed.{IsProposal}

sightings_alike : (P Q : Description) → AnswersAlike P Q → (h es : List Event) → sightings_from P h es ≡ sightings_from Q h es
sightings_alike P Q alike h [] = refl
sightings_alike P Q alike h (e ∷ es) = λ j. seen_then e (alike h e j) (sightings_alike P Q alike (e ∷ h) es j)

explained_alike : (P Q : Description) → AnswersAlike P Q → (recording : List Sighting) → IsExplained P recording → IsExplained Q recording
explained_alike P Q alike recording (es, proper, seen) = (es, proper, sym (sightings_alike P Q alike [] es) ∙ seen)

some_alike : (P Q : Description) → AnswersAlike P Q → (recording : List MaybeSighting) → ExplainsReading (IsExplained P) recording → ExplainsReading (IsExplained Q) recording
some_alike P Q alike recording (reading, is, some) = (reading, is, (some.0, some.1, explained_alike P Q alike some.0 some.2))

-- what can be reached of a text answers as the text
reached_alike : (v : Parts) (P : Description) → IsNormal v → description_in v ≡ reach P → AnswersAlike (description_in v) P
reached_alike v P normal reached h e =
    let small : P.address ≤ 30 = subst (λ n. n ≤ 30) (ap (λ D. D.address) reached) normal.address in
    ap (λ D. out D h e) reached ∙ out-reach P h e small

is_of : (text : List ℕ) (address : ℕ) (recording : List MaybeSighting) (p : IsProposal address recording text) → Of text p.description
is_of text address recording p = subst (λ b. OfBy b text p.description) (sym p.toml) p.of

pub proposal_of : (text : List ℕ) (v : Parts) (recording : List MaybeSighting) → is_canon_text text ≡ false → IsNormal v → Reaches text v → ExplainsReading (IsExplained (description_in v)) recording → IsProposal v.address recording text
proposal_of text v recording toml normal r explains = record {
  description = r.description;
  toml = toml;
  of = subst (λ b. OfBy b text r.description) toml r.of;
  own = sym (ap (λ D. D.address) r.reached);
  explains = some_alike (description_in v) r.description (reached_alike v r.description normal r.reached) recording explains;
}

pub proposal_explains : (text : List ℕ) (v : Parts) (address : ℕ) (recording : List MaybeSighting) → IsNormal v → Reaches text v → IsProposal address recording text → ExplainsReading (IsExplained (description_in v)) recording
proposal_explains text v address recording normal r p =
    let alike = reached_alike v p.description normal (r.reached ∙ ap reach (one_description text r.description p.description r.of (is_of text address recording p))) in
    some_alike p.description (description_in v) (λ h e. sym (alike h e)) recording p.explains

pub proposal_address : (text : List ℕ) (v : Parts) (address : ℕ) (recording : List MaybeSighting) → Reaches text v → IsProposal address recording text → v.address ≡ address
proposal_address text v address recording r p = ap (λ D. D.address) (r.reached ∙ ap reach (one_description text r.description p.description r.of (is_of text address recording p))) ∙ p.own

pub decides : (text : List ℕ) (v : Parts) (address : ℕ) (recording : List MaybeSighting) (r : Result Bool WatchFault) → is_canon_text text ≡ false → IsNormal v → Reaches text v → v.address ≡ address
    → IfOk r (λ truth. IsTrue truth ↔ ExplainsReading (IsExplained (description_in v)) recording) → IfOk r (λ truth. IsTrue truth ↔ IsProposal address recording text)
decides text v address recording (Err e) toml normal reaches own decided = tt
decides text v address recording (Ok truth) toml normal reaches own decided = (
  λ is. subst (λ a. IsProposal a recording text) own (proposal_of text v recording toml normal reaches (decided.0 is)),
  λ p. decided.1 (proposal_explains text v address recording normal reaches p),
)

pub refused_none : (text : List ℕ) (fault : LoadFault) (address : ℕ) (recording : List MaybeSighting) → IsNotLoaded text fault → IsProposal address recording text → fault ≡ load.Memory
refused_none text fault address recording refused p = only_memory_refuses text p.description fault (is_of text address recording p) refused

pub none_of : {A : Type 0} (o : Option A) (truth : Bool) → is_some o ≡ not truth → IsTrue truth → o ≡ None
none_of None truth e is = refl
none_of (Some x) truth e is = let wrong : true ≡ false = e ∙ ap not is in cc

pub is_none_of : {A : Type 0} (o : Option A) (truth : Bool) → is_some o ≡ not truth → o ≡ None → IsTrue truth
is_none_of o true e is = refl
is_none_of o false e is = let wrong : false ≡ true = sym (ap is_some is) ∙ e in cc
