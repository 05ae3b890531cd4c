use Rattle.std.proofs.Common.{◌≡◌, ◌++◌, refl, ◌∙◌}
use Rattle.bus_word.specs.declared.word.Bus.TheVariants.{A, B}
use Rattle.terminal_messages.specs.declared.fold.MessageFold.{MessageFold}
use Rattle.terminal_messages.specs.State.{Facts, facts_in}
use Rattle.terminal_messages.specs.View.{message_after, alone_after, next_number, view_listed, view_turn}
use Rattle.terminal_messages.specs.Shown.{shown_slot}
use Rattle.terminal_messages.specs.Fold.{fold_view}
use Rattle.terminal_messages.proofs.fold.MessageFold.take.Goals as goal

pub returns : goal.returns
returns c ds =
    let x : Facts = facts_in c.args.seen.now ds in
    let f : MessageFold = c.args.self.now in
    record {
      own = refl;
      begun = c.number_after-self.ensures;
      newest = c.newest_after-self.ensures ds;
      kept = λ b. elim b as (λ b. fold_view (record { own = f.own; begun = c.number_after-self.result; newest = c.newest_after-self.result; a = c.take_on-on_a.new.slot; b = c.take_on-on_b.new.slot }) b
          ≡ message_after f.own.address f.own.broadcast b x c.args.part c.args.seen.now.is_ignored (next_number f.begun) (fold_view f b)) [
            | A ↦ c.take_on-on_a.ensures.kept ds ∙ (λ j. message_after f.own.address f.own.broadcast A x c.args.part c.args.seen.now.is_ignored (c.next_number-number.ensures j) (shown_slot f.a))
            | B ↦ c.take_on-on_b.ensures.kept ds ∙ (λ j. message_after f.own.address f.own.broadcast B x c.args.part c.args.seen.now.is_ignored (c.next_number-number.ensures j) (shown_slot f.b))
          ];
      over = c.in_turn.ensures
          ∙ (λ j. view_turn f.newest (c.take_on-on_a.ensures.closed ds j) (c.take_on-on_b.ensures.closed ds j)
          ++ view_listed ((c.alone-unheard.ensures ds ∙ (λ j. alone_after f.own.address f.own.broadcast x c.args.part (c.next_number-number.ensures j))) j));
    }
