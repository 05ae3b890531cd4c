-- The fold takes an event that closes and begins no message.
use Rattle.std.proofs.Common.{◌≡◌, Bool, true, false, not, ◌&&◌, ◌||◌, if◌then◌else◌, Option, None, List, [], ◌++◌, refl, sym, ◌∙◌}
use Rattle.std.specs.Option.{option_map}
use Rattle.bus_word.specs.declared.word.Bus.{Bus}
use Rattle.bus_word.specs.declared.word.Bus.TheVariants.{A, B}
use Rattle.terminal_rules.specs.Open.{is_on}
use Rattle.terminal_rules.specs.Reply.{is_other}
use Rattle.terminal_messages.specs.declared.fold.MessageFold.{MessageFold}
use Rattle.terminal_messages.specs.declared.fold.ClosedMessages.{ClosedMessages}
use Rattle.terminal_messages.specs.declared.part.MessagePart.{MessagePart}
use Rattle.terminal_messages.specs.Told.{event_bus, is_first_command, is_unheard, begins_message}
use Rattle.terminal_messages.specs.State.{Facts}
use Rattle.terminal_messages.specs.View.{View, closes_by, concerns_by, added_view, closed_after, alone_after, next_number, view_listed, view_turn}
use Rattle.terminal_messages.specs.Fold.{shown_closed, fold_view, FoldSteps}
use Rattle.terminal_messages.proofs.Choice.{if_false}

left_false : (a b : Bool) → (a || b) ≡ false → a ≡ false
left_false true b e = e
left_false false b e = refl

right_false : (a b : Bool) → (a || b) ≡ false → b ≡ false
right_false true b e = absurd (cc)
right_false false b e = e

closes_none : (b : Bus) (x : Facts) (part : MessagePart) → x.starts ≡ false → is_first_command part ≡ false → closes_by b x part ≡ false
closes_none b x part s f = λ j. (f j && is_on b (event_bus x.event)) || (((f j || s j) && is_other b (event_bus x.event)) && not (x.engaged b))

pub turn_none : (b : Bus) → view_turn b None None ++ [] ≡ (let none : List View = [] in none)
turn_none A = refl
turn_none B = refl

pub goes_on : (x : Facts) (ignored : Bool) (part : MessagePart) (old new : MessageFold) (closed : ClosedMessages) → (x.starts || begins_message part) ≡ false →
    new.own ≡ old.own → new.begun ≡ old.begun → new.newest ≡ old.newest → (let none : List View = [] in shown_closed closed ≡ none) →
    ((b : Bus) → fold_view new b ≡ (if concerns_by b x ignored then option_map (added_view old.own.address x part) (fold_view old b) else fold_view old b)) →
    FoldSteps x ignored part old new closed
goes_on x ignored part old new closed quiet own begun newest none kept =
    let starts : x.starts ≡ false = left_false x.starts (begins_message part) quiet in
    let begins : begins_message part ≡ false = right_false x.starts (begins_message part) quiet in
    let first : is_first_command part ≡ false = left_false (is_first_command part) (is_unheard part) begins in
    let unheard : is_unheard part ≡ false = right_false (is_first_command part) (is_unheard part) begins in
    let over : (b : Bus) → (let no : Option View = None in no ≡ closed_after b x part (fold_view old b)) = λ b. if_false _ _ (closes_none b x part starts first) in
    let alone : (let no : Option View = None in no ≡ alone_after old.own.address old.own.broadcast x part (next_number old.begun)) = if_false _ _ unheard in
    record {
      own = own;
      begun = begun ∙ if_false _ _ begins;
      newest = newest ∙ if_false _ _ first;
      kept = λ b. kept b ∙ if_false _ _ (closes_none b x part starts first);
      over = none ∙ (sym (turn_none old.newest) ∙ (λ j. view_turn old.newest (over A j) (over B j) ++ view_listed (alone j)));
    }
