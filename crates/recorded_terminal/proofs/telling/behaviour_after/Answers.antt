use Rattle.std.proofs.Common.{◌≡◌, [], ◌∷◌, ◌++◌, ◌+◌, List, drop, ap, sym, ◌∙◌, add-one, append_assoc, append-nil, refl}
use Rattle.std.proofs.lemmas.List.{take_rest}
use Rattle.bus_legal.specs.Description.{Description, described}
use Rattle.terminal_rules.specs.declared.event.Event.{Event}
use Rattle.terminal_recordings.specs.Completion.{next_status, shown_from}
use Rattle.terminal_recordings.specs.Later.{shutting, shut_history}
use Rattle.terminal_recordings.proofs.Law.{proper_join}
use Rattle.terminal_recordings.proofs.Leaving.{shutting_proper}
use Rattle.recorded_terminal.specs.declared.sighting.Sighting.{Sighting as Seen}
use Rattle.recorded_terminal.specs.Sightings.{recorded}
use Rattle.recorded_terminal.specs.Follows.{shut_down, told_events}
use Rattle.recorded_terminal.proofs.SoFar.{cut_of}
use Rattle.recorded_terminal.proofs.ToldSoFar.{told_more, told_all}
use Rattle.recorded_terminal.proofs.telling.behaviour_after.Goals as goal

pub loop-number-init : goal.loop-number-init
loop-number-init g c =
    let P : Description = described c.args.setup (g.L.Legality.is_legal c.args.legality) in (
      [],
      c.in_ok-events.ensures P (refl {a = c.args.setup.address}) ∙ sym (append-nil (shutting P (shut_down c.args.shut))),
      record {
        history = shut_history P (shut_down c.args.shut);
        follows = c.shut-follower.ensures;
        follows_told = c.shut-follower.ensures;
        status = c.next_status-status.ensures;
        shown = refl {a = shown_from P (shut_history P (shut_down c.args.shut)) (recorded c.args.recording.now)};
        proper = tt;
      },
    )

pushed : (first behaviour told old between new : List Event) (e : Event) → old ≡ first ++ behaviour → between ≡ old ++ told → new ≡ between ++ e ∷ [] → new ≡ first ++ (behaviour ++ (told ++ e ∷ []))
pushed first behaviour told old between new e is more all =
    all ∙ ap (λ es. es ++ e ∷ []) (more ∙ ap (λ es. es ++ told) is)
    ∙ (append_assoc (first ++ behaviour) told (e ∷ []) ∙ append_assoc first behaviour (told ++ e ∷ []))

pub loop-number-preserved : goal.loop-number-preserved
loop-number-preserved g c =
    let P : Description = described c.args.setup (g.L.Legality.is_legal c.args.legality) in
    let xs : List Seen = c.args.recording.now in
    let n = c.loop-number.number in
    let x : Seen = c.index-recording-number.result in
    let (behaviour, begins, i) = c.loop-number.invariant in
    let f = c.see-followed in
    let told : List Event = told_events f.result.told in (
      behaviour ++ (told ++ x.event ∷ []),
      pushed (shutting P (shut_down c.args.shut)) behaviour told c.loop-number.events.items c.push_told.new.events.items c.push.new.self.items x.event begins c.in_ok-push_told.ensures c.in_ok-push.ensures.items,
      told_more g.L.Legality.is_legal P (shut_history P (shut_down c.args.shut)) xs n (n + 1) x c.loop-number.status c.status_behind-status.result behaviour told f.result.sent
          c.loop-number.follower f.new.self (add-one n) (cut_of xs n x c.loop-number-test.true c.index-recording-number.is) f.ensures.told i
          (f.ensures.sent P i.history i.follows) (f.ensures.sent_told P _ i.follows_told) (f.ensures.stands P i.history i.follows) (f.ensures.stands_told P _ i.follows_told)
          (c.status_behind-status.ensures ∙ (ap (λ l. next_status (recorded l)) (take_rest xs (n + 1)) ∙ ap (λ m. next_status (recorded (drop m xs))) (add-one n))),
    )

pub returns : goal.returns
returns g c =
    let P : Description = described c.args.setup (g.L.Legality.is_legal c.args.legality) in
    let (behaviour, begins, i) = c.loop-number.invariant in
    record {
      proper = rw begins (proper_join (shutting P (shut_down c.args.shut)) behaviour (shutting_proper P (shut_down c.args.shut) c.args.setup.own_address) i.proper);
      behaviour = behaviour;
      begins = begins;
      shown = told_all P (shut_history P (shut_down c.args.shut)) c.args.recording.now c.loop-number.number i.history behaviour c.loop-number-test.false i.shown;
    }
