use Rattle.std.proofs.Common.{◌≡◌, [], refl, ap, ◌∙◌}
use Rattle.bus_word.specs.declared.word.Bus.{Bus}
use Rattle.terminal_rules.specs.Open.{Idle}
use Rattle.bus_terminal.specs.Answer.{shown_answer}
use Rattle.terminal_state.specs.Message.{standing_on}
use Rattle.bus_terminal.proofs.WholeLaw.{bare_stands, bare_answers}
use Rattle.bus_terminal.proofs.terminal.Terminal.take_with_gap.Goals as goal

pub returns-then-starts_alone : goal.returns-then-starts_alone
returns-then-starts_alone g c =
    let is_legal = g.L.Legality.is_legal in
    let t = c.args.self.now in
    let x = c.start_alone.new.self in
    let u = c.settle.new.self in
    let d = c.of-decoded.result in
    let a = c.starts_alone.ensures c.if-starts_alone.true in
    let same = c.of-decoded.ensures ∙ c.of.ensures in
    let ip = record x.in_progress { words = c.new-self.result } in
    let gone : (q : Bus) → standing_on q ip ≡ Idle = λ q. (λ j. standing_on q (record (c.start_alone.ensures.in_progress j) { words = c.new-self.result })) ∙ ap (λ m. standing_on q (record t.in_progress { message = m; words = c.new-self.result })) a.none in (
      (
        refl,
        λ _. tt,
        (λ P h s. bare_stands is_legal c.args.bus d c.args.bits t x u a same c.start_alone.ensures.starts P h s ip c.judge-ended.result c.new-self.ensures c.if-decoded-eq0.true gone c.settle.ensures.in_progress
            (c.judge-ended.ensures.ending []) c.settle.ensures.settles),
      ),
      record {
        answer = λ P h s. bare_answers is_legal c.args.bus d c.args.bits t x u a same c.start_alone.ensures.starts P h s ip c.judge-ended.result c.new-self.ensures c.if-decoded-eq0.true gone c.settle.ensures.in_progress
            (c.judge-ended.ensures.ending []) c.settle.ensures.settles (shown_answer c.handed.result) c.handed.ensures.answer;
        stands = tt;
        small = c.handed.ensures.small;
      },
    )

pub returns : goal.returns
returns g c = (
  (refl, λ _. tt, (λ P h s. c.step.follows.holds-at-none.0 P _ (c.take_valid.ensures.takes P h s))),
  record { answer = λ P h s. c.step.ensures.answer P _ (c.take_valid.ensures.takes P h s); stands = tt; small = c.step.ensures.small },
)
