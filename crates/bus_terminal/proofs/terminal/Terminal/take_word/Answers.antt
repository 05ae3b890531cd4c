use Rattle.std.proofs.Common.{sym, ◌∙◌, subst, if◌then◌else◌, true}
use Rattle.terminal_state.specs.Buses.{with_bus}
use Rattle.terminal_state.specs.Registers.{failed_by}
use Rattle.bus_terminal.specs.Stands.{own_description}
use Rattle.bus_terminal.specs.inner.Terminal.{TakesStart}
use Rattle.bus_terminal.proofs.TakesLaw.{starting_word}
use Rattle.bus_terminal.proofs.terminal.Terminal.take_word.Goals as goal

pub returns-then-starts : goal.returns-then-starts
returns-then-starts g c =
    let is_legal = g.L.Legality.is_legal in
    let t = c.args.self.now in
    let u = c.start.new.self in
    let b = c.args.bus in
    let w = c.args.word in
    let failed = c.fail.ensures ∙ (λ j. record t { registers = failed_by (own_description is_legal t) (c.failed_by-failed.ensures j) t.registers }) in
    let noted = c.note_word.ensures ∙ (λ j. record (failed j) { heard = if c.requires j then with_bus b true (failed j).heard else (failed j).heard }) in
    starting_word is_legal b w t u (sym c.starts-starts.ensures ∙ c.if-starts.true)
    (subst (λ t. TakesStart is_legal b w.bits t u) noted (subst (λ bits. TakesStart is_legal b bits c.note_word.new.self u) c.of.ensures c.start.ensures))
