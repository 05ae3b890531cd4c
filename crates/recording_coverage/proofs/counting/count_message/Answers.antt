use Rattle.std.proofs.Common.{[], ◌∷◌, ◌++◌, ap, sym, subst, ◌∙◌}
use Rattle.terminal_messages.specs.View.{view_listed}
use Rattle.terminal_messages.specs.Shown.{shown_slot}
use Rattle.recording_coverage.specs.Covers.{Covers}
use Rattle.recording_coverage.specs.inner.Counted.{ends_told}
use Rattle.recording_coverage.proofs.counting.count_message.Goals as goal

pub returns-in-Some : goal.returns-in-Some
returns-in-Some c = λ ends covers.
    subst (λ ks. Covers (ends ++ ks) c.note.new.self)
    (ap (λ e. e ∷ []) c.counted_end.ensures ∙ ap (λ m. ends_told c.args.own (view_listed (shown_slot m))) (sym c.in-Some.is)) (c.note.ensures ends covers)
