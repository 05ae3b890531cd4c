use Rattle.std.proofs.Common.{◌≡◌, ◌∙◌, ◌++◌, [], List, true, map, if◌then◌else◌, ap, sym, subst}
use Rattle.bus_legal.specs.Description.{Description}
use Rattle.bus_legal.specs.Parts.{description_in}
use Rattle.terminal_bus.specs.Members.{all_events_for, member_of, powered_up}
use Rattle.terminal_messages.specs.Messages.{messages_of}
use Rattle.terminal_messages.specs.State.{told_state}
use Rattle.tool_buses.specs.EndsWell.{MessageAt, messages_alone, speaks_to}
use Rattle.tool_buses.specs.inner.Results.{message_of_terminal, AreResultsAt}
use Rattle.tool_buses.proofs.AloneLaws.{on_ok_weaker, states_told}
use Rattle.tool_buses.proofs.alone.take_place.Goals as goal

pub returns : goal.returns
returns c = on_ok_weaker c.take_all.result _ _
    (λ taken vs ms p is r.
    let v = c.args.normal.now in
    let P : Description = description_in v in
    let kept = c.in_ok-messages.messages.items in
    let told : List MessageAt = map (λ m. (let it : MessageAt = record { address = v.address; state = told_state P m } in it)) (messages_of P (all_events_for (powered_up (map description_in vs)) c.args.events.now (member_of P))) in
    let spoken : speaks_to c.args.put v.address ≡ true = ap (speaks_to c.args.put) (sym c.address-address.ensures) ∙ (sym c.speaks_to.ensures ∙ c.if-not-speaks_to.false) in
    let came : map (message_of_terminal c.address-address.result) c.as_slice.result.now ≡ messages_alone c.args.put (map description_in vs) c.args.events.now v =
    (λ j. map (message_of_terminal (c.address-address.ensures j)) (c.as_slice.ensures.value j))
    ∙ (states_told P v.address kept _ (c.in_ok-messages.ensures vs p is) ∙ ap (λ b. if b then told else []) (sym spoken)) in
    subst (λ l. AreResultsAt c.args.put (ms ++ l) c.take_all.new.result_of) came (taken ms r))
    c.take_all.ensures
