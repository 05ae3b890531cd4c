use Rattle.std.proofs.Common.{◌≡◌, ◌≤◌, ◌∙◌, ◌++◌, length, drop, sym, ap, subst}
use Rattle.rt1553_expand.specs.inner.Found.{command_message, message_on}
use Rattle.rt1553_expand.proofs.GatherLaws.{none-found, other-found, found-listed, listed-events, not-both}
use Rattle.rt1553_expand.proofs.gathering.next_message.Goals as goal

pub returns-in_default-clause-none : goal.returns-in_default-clause-none
returns-in_default-clause-none c = none-found c.args.own.now c.args.events.now (sym c.in_default.ensures.value)

pub returns-then-not-is_message-clause-none : goal.returns-then-not-is_message-clause-none
returns-then-not-is_message-clause-none c =
    other-found c.args.own.now c.args.events.now (message_on c.in-Some.found) (sym c.in-Some.ensures.value)
    (λ rest listed next. not-both _ (c.is_message.ensures.not listed.message) c.if-not-is_message.true)

pub returns-then-not-begins_with-clause-none : goal.returns-then-not-begins_with-clause-none
returns-then-not-begins_with-clause-none c =
    let room = listed-events c.args.own.now c.in-Some.found.bus _ _ _ _ c.clear.ensures.items c.in_ok-push_events.ensures c.as_read.ensures.value in
    other-found c.args.own.now c.args.events.now (message_on c.in-Some.found) (sym c.in-Some.ensures.value)
    (λ rest listed next. not-both _ (c.begins_with.ensures.not rest (next ∙ ap (λ es. es ++ rest) (sym (c.as_slice.ensures.value ∙ room)))) c.if-not-begins_with.true)

pub returns-clause-some : goal.returns-clause-some
returns-clause-some c =
    let begins = c.begins_with.ensures.yes c.if-not-begins_with.false in
    let within = c.begins_with.ensures.within c.if-not-begins_with.false in
    let front = c.as_slice.ensures.value in
    record {
      bus = c.in-Some.found.bus;
      message = command_message c.in-Some.found;
      listed = found-listed c.args.own.now c.args.events.now c.in-Some.found.bus (command_message c.in-Some.found) (sym c.in-Some.ensures.value) (c.is_message.ensures.yes c.if-not-is_message.false);
      spelled = c.listed_line-line.ensures;
      room_is = listed-events c.args.own.now c.in-Some.found.bus _ _ _ _ c.clear.ensures.items c.in_ok-push_events.ensures c.as_read.ensures.value;
      within = subst (λ f. length f ≤ length c.args.events.now) front within;
      begins = subst (λ f. c.args.events.now ≡ f ++ drop (length f) c.args.events.now) front begins;
    }
