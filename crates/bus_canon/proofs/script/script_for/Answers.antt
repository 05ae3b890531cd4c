use Rattle.std.proofs.Common.{◌≡◌, ◌-◌, true, [], ◌∷◌, replicate, subst, sym, ap, ◌∙◌}
use Rattle.bus_word.specs.Cell.{is_data_place}
use Rattle.bus_legal.specs.Parts.{description_in}
use Rattle.bus_word.proofs.Places.{place_from}
use Rattle.terminal_exchanges.specs.Exchanges.{script_of}
use Rattle.terminal_exchanges.specs.Distinguish.{all_terminals, receive, mode_code, ask}
use Rattle.bus_canon.specs.Difference.{IsInRange, script_for}
use Rattle.bus_canon.proofs.ScriptLaws.{received_zeros}
use Rattle.bus_canon.proofs.script.script_for.Goals as goal

pub returns-in-BroadcastOption : goal.returns-in-BroadcastOption
returns-in-BroadcastOption c =
    c.script_of_two.ensures
    ∙ ((λ j. script_of (c.mode_code.ensures.exchange j ∷ c.ask-in-BroadcastOption.ensures.exchange j ∷ []))
    ∙ ((λ j. script_of (mode_code all_terminals 2 ∷ ask (c.address-own.ensures j) ∷ []))
    ∙ ap (script_for (description_in c.args.p.now) (description_in c.args.q.now)) (sym c.in-BroadcastOption.is)))

pub returns-in-ReceiveCell : goal.returns-in-ReceiveCell
returns-in-ReceiveCell c =
    let at = c.in-ReceiveCell in
    let place : is_data_place at.s at.n ≡ true = subst IsInRange at.is c.requires.range in
    c.script_of_one-in-ReceiveCell.ensures
    ∙ ((λ j. script_of (c.receive.ensures.exchange j ∷ []))
    ∙ ((λ j. script_of (receive (c.address-own.ensures j) at.s at.n (0 ∷ replicate (at.n - 1) 0) ∷ []))
    ∙ (ap (λ x. script_of (x ∷ [])) (received_zeros c.args.p.now.address at.s at.n (place_from at.s at.n place))
    ∙ ap (script_for (description_in c.args.p.now) (description_in c.args.q.now)) (sym at.is))))

pub returns-in-BroadcastReceiveCell : goal.returns-in-BroadcastReceiveCell
returns-in-BroadcastReceiveCell c =
    let at = c.in-BroadcastReceiveCell in
    let place : is_data_place at.s at.n ≡ true = subst IsInRange at.is c.requires.range in
    c.script_of_two-in-BroadcastReceiveCell.ensures
    ∙ ((λ j. script_of (c.receive-in-BroadcastReceiveCell.ensures.exchange j ∷ c.ask-in-BroadcastReceiveCell.ensures.exchange j ∷ []))
    ∙ ((λ j. script_of (receive all_terminals at.s at.n (0 ∷ replicate (at.n - 1) 0) ∷ ask (c.address-own.ensures j) ∷ []))
    ∙ (ap (λ x. script_of (x ∷ ask c.args.p.now.address ∷ [])) (received_zeros all_terminals at.s at.n (place_from at.s at.n place))
    ∙ ap (script_for (description_in c.args.p.now) (description_in c.args.q.now)) (sym at.is))))
