use Rattle.std.proofs.Common.{Some, None, [], ap, sym, ◌∙◌}
use Rattle.terminal_rules.specs.Ends.{ends_now}
use Rattle.terminal_rules.specs.Past.{past}
use Rattle.bus_terminal.proofs.EndingLaw.{gap_will_end, entry_will_end}
use Rattle.bus_terminal.proofs.terminal.Terminal.ending.Goals as goal

pub returns-in-Gap : goal.returns-in-Gap
returns-in-Gap g c P h s =
    let t = c.args.self.now in (
      t.in_progress.words.items,
      c.ending_at_gap.ensures ∙ gap_will_end g.L.Legality.is_legal P h c.in-Gap.bus t s ∙ ap (ends_now P (past P h)) (sym c.in-Gap.is),
    )

pub returns-in-Word : goal.returns-in-Word
returns-in-Word g c P h s = (
  [],
  c.ending_at_entry.ensures [] ∙ entry_will_end g.L.Legality.is_legal P h c.in-Word.bus (Some c.in-Word.word) c.args.self.now s ∙ ap (ends_now P (past P h)) (sym c.in-Word.is),
)

pub returns-in-Noise : goal.returns-in-Noise
returns-in-Noise g c P h s = (
  [],
  c.ending_at_entry-in-Noise.ensures [] ∙ entry_will_end g.L.Legality.is_legal P h c.in-Noise.bus None c.args.self.now s ∙ ap (ends_now P (past P h)) (sym c.in-Noise.is),
)
