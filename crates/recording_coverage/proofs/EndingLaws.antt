-- What can't be reached changes nothing of what comes of messages.
use Rattle.std.proofs.Common.{◌≡◌, ◌≤◌, suc, ◌&&◌, ◌∙◌, cond, if◌then◌else◌, List, [], ◌∷◌, ◌++◌, length, map, refl, ap, subst}
use Rattle.bus_word.proofs.Places.{place_above, place_count, place_from}
use Rattle.bus_legal.specs.declared.setup.Setup.{Setup}
use Rattle.bus_legal.specs.Description.{Description, described}
use Rattle.bus_legal.specs.Parts.{Parts, parts_of, description_in, IsNormal}
use Rattle.bus_legal.specs.Reach.{reach}
use Rattle.bus_legal.specs.Tables.{tables_say}
use Rattle.bus_legal.proofs.Descriptions.{initial-reach, wrap-reach}
use Rattle.bus_legal.proofs.NormalLaws.{set_up_normal}
use Rattle.terminal_rules.specs.declared.event.Event.{Event}
use Rattle.terminal_rules.specs.History.{Noted}
use Rattle.terminal_rules.specs.Out.{Out}
use Rattle.terminal_rules.specs.Past.{note, past, history_after}
use Rattle.terminal_rules.specs.Reply.{reply_now, reply_bus}
use Rattle.terminal_rules.proofs.Reach.Agrees.{Agrees}
use Rattle.terminal_rules.proofs.Reach.Past.{past_alike}
use Rattle.terminal_rules.proofs.Reach.Same.{out-reach}
use Rattle.bus_terminal.specs.Waiting.{is_engaged}
use Rattle.terminal_messages.specs.declared.ending.MessageEnding.TheVariants.{Open}
use Rattle.terminal_messages.specs.Told.{ToldEvent, event_bus, begins_message, begun_in}
use Rattle.terminal_messages.specs.Message.{Message}
use Rattle.terminal_messages.specs.Parts.{tell, part_now, awaits_on, command_begun, second_of, terminal_command}
use Rattle.terminal_messages.specs.Messages.{messages_of, closed, still_open}
use Rattle.terminal_messages.specs.Ends.{end_so_far, end_after, end_closed, with_gap_within, shows_gap_within, cause_of}
use Rattle.recording_coverage.specs.declared.outcome.MessageEnd.{MessageEnd}
use Rattle.recording_coverage.specs.Endings.{counted_end, ends_of}

-- what can be reached agrees where it can be asked for
reached_agrees : (P : Description) → Agrees P (reach P)
reached_agrees P = record {
  legal = λ cell heard allowed. ap (λ b. b && P.legal cell) heard;
  accept = λ legal. ap (λ b. b && P.accept) legal;
  vector = λ legal. ap (λ b. cond b P.vector 0) legal;
  bit = λ legal. ap (λ b. cond b P.bit 0) legal;
  initial = λ s n i sent place low high. initial-reach P s n i sent (place_count s n place) low high;
  wrap = λ s m n received place sent place_of_it. wrap-reach P s m n (place_above s m place) received (place_from s m place) (place_count s m place) sent (place_from s n place_of_it) (place_count s n place_of_it);
}

-- an event as it is told, by what it did and by the answer
abbrev told_by : Description → List Noted → Noted → Out → List ToldEvent → Event → ToldEvent
told_by P ns n answer h e = record {
  index = length h;
  noted = n;
  answer = answer;
  awaits = awaits_on P ns (event_bus e);
  replied = reply_bus (reply_now ns);
  engaged = is_engaged P (n ∷ ns);
  part = part_now P ns n h e;
  begun = if begins_message (part_now P ns n h e) then suc (begun_in h) else begun_in h;
}

-- the latest event, of a history that has one
abbrev latest_noted : Noted → List Noted → Noted
latest_noted n [] = n
latest_noted n (m ∷ ms) = m

tell-reach : (P : Description) (h : List Event) → P.address ≤ 30 → tell (reach P) h ≡ tell P h
tell-reach P [] low = refl
tell-reach P (e ∷ h) low = λ j.
    told_by P (past_alike P (reach P) (reached_agrees P) low h j) (latest_noted (note P (past P h) e) (past_alike P (reach P) (reached_agrees P) low (e ∷ h) j)) (out-reach P h e low j) (tell-reach P h low j) e
    ∷ tell-reach P h low j

messages-reach : (P : Description) (es : List Event) → P.address ≤ 30 → messages_of (reach P) es ≡ messages_of P es
messages-reach P es low = ap (λ h. closed h ++ still_open h) (tell-reach P (history_after es []) low)

-- of what can be reached the address and the broadcast option alone are asked
so_far-reach : (P : Description) (first : ToldEvent) (later : List ToldEvent) → end_so_far (reach P) first later ≡ end_so_far P first later
so_far-reach P first [] = refl
so_far-reach P first (t ∷ ts) =
    ap (λ x. end_after (if t.noted.starts then Open else with_gap_within (shows_gap_within P first t ts) x) (cause_of t ts) t.noted.ends) (so_far-reach P first ts)

end-reach : (P : Description) (m : Message) → counted_end (reach P) m ≡ counted_end P m
end-reach P m = λ j. record { command = terminal_command P.address (command_begun m) (second_of m); ending = end_closed m.bus m.closer (so_far-reach P m.first m.later j) }

pub ends-of-reach : (P : Description) (es : List Event) → P.address ≤ 30 → ends_of (reach P) es ≡ ends_of P es
ends-of-reach P es low = λ j. map (λ m. end-reach P m j) (messages-reach P es low j)

-- of a terminal that is set up by what can be reached of a description
pub endings_alike : (v : Parts) (setup : Setup) (P : Description) (es : List Event) → IsNormal v → parts_of setup v.tables ≡ v → description_in v ≡ reach P → ends_of (described setup (tables_say v.tables)) es ≡ ends_of P es
endings_alike v setup P es normal parts reached =
    let small : P.address ≤ 30 = subst (λ n. n ≤ 30) (ap (λ (D : Description). D.address) reached) normal.address in
    ap (λ D. ends_of D es) (set_up_normal v setup parts ∙ reached) ∙ ends-of-reach P es small
