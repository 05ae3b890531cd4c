use Rattle.std.proofs.Common.{◌∷◌, sym, subst}
use Rattle.recorded_terminal.specs.Ways.{AreQuiet, told_then}
use Rattle.recorded_terminal.specs.SentWords.{word_shown}
use Rattle.recorded_terminal.proofs.WayLaws.{quiet_more}
use Rattle.recorded_terminal.proofs.way.Way.see.Goals as goal

pub returns : goal.returns
returns g c = record {
  stands = λ P h at. record { follows = c.see.ensures.stands P h at.follows; quiet = subst (λ q. AreQuiet q P (c.args.marked.now.sighting.event ∷ told_then P h c.args.status (word_shown c.args.marked.now.sighting.sent))) (sym c.quiet_with-self.ensures) (quiet_more P h c.args.status (word_shown c.args.marked.now.sighting.sent) c.args.marked.now.sighting.event c.args.self.now.quiet at.quiet) };
  sent = λ P h at. c.see.ensures.sent P h at.follows;
  left = c.is_as_seen-self.ensures;
}
