use Rattle.std.proofs.Common.{◌≡◌, refl, ◌∙◌, if◌then◌else◌}
use Rattle.std.specs.Option.{option_map}
use Rattle.bus_word.specs.declared.word.Bus.TheVariants.{A, B}
use Rattle.terminal_messages.specs.declared.fold.MessageFold.{MessageFold}
use Rattle.terminal_messages.specs.State.{Facts, facts_in}
use Rattle.terminal_messages.specs.View.{added_view, concerns_by}
use Rattle.terminal_messages.specs.Fold.{fold_view}
use Rattle.terminal_messages.proofs.GoOnLaw.{goes_on, turn_none}
use Rattle.terminal_messages.proofs.fold.MessageFold.go_on.Goals as goal

pub returns : goal.returns
returns c ds quiet =
    let x : Facts = facts_in c.args.seen.now ds in
    let f : MessageFold = c.args.self.now in
    let new : MessageFold = record f { a = c.add_on.new.slot; b = c.add_on-2.new.slot } in
    goes_on x c.args.seen.now.is_ignored c.args.part f new c.in_turn.result quiet refl refl refl (c.in_turn.ensures ∙ turn_none f.newest)
    (λ b. elim b as (λ b. fold_view new b ≡ (if concerns_by b x c.args.seen.now.is_ignored then option_map (added_view f.own.address x c.args.part) (fold_view f b) else fold_view f b)) [
      | A ↦ c.add_on.ensures ds
      | B ↦ c.add_on-2.ensures ds
    ])
