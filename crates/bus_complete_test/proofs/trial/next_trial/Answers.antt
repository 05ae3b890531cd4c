use Rattle.std.proofs.Common.{◌++◌, ap, sym, ◌∙◌, subst, arith}
use Rattle.bus_legal.specs.Description.{Description}
use Rattle.bus_legal.specs.Parts.{description_in}
use Rattle.bus_complete_test.specs.CompleteTest.{option_tried, transmit_tried, own_code_tried, wraparound_tried}
use Rattle.bus_complete_test.specs.declared.trial.Trial.TheVariants.{BroadcastOption, Transmit, OwnCode, Wraparound}
use Rattle.bus_complete_test.specs.Trials.{IsTrialInRange}
use Rattle.bus_complete_test.proofs.TrialLaws.{by_trial, place_first, place_end, code_end, subaddress_next, subaddress_last, after_transmits, after_codes, receives_first, heard_first}
use Rattle.bus_complete_test.proofs.trial.next_trial.Goals as goal

pub returns-in-BroadcastOption-clause-rest : goal.returns-in-BroadcastOption-clause-rest
returns-in-BroadcastOption-clause-rest c =
    let P : Description = description_in c.args.p.now in
    by_trial P c.args.trial BroadcastOption _ c.in-BroadcastOption.is
    (ap (λ xs. option_tried P ++ (xs ++ after_transmits P)) (place_first (transmit_tried P)))

pub returns-in-None-clause-rest : goal.returns-in-None-clause-rest
returns-in-None-clause-rest c =
    let P : Description = description_in c.args.p.now in
    by_trial P c.args.trial (Transmit c.in-Transmit.s c.in-Transmit.n) _ c.in-Transmit.is
    (place_end (transmit_tried P) c.in-Transmit.s c.in-Transmit.n (after_transmits P) (c.in-None.ensures.rest (transmit_tried P))
    ∙ ap (λ xs. transmit_tried P c.in-Transmit.s c.in-Transmit.n ++ xs) (receives_first P))

pub returns-in-None-next_code-clause-rest : goal.returns-in-None-next_code-clause-rest
returns-in-None-next_code-clause-rest c =
    let P : Description = description_in c.args.p.now in
    by_trial P c.args.trial (OwnCode c.in-OwnCode.code) _ c.in-OwnCode.is
    (code_end (own_code_tried P) c.in-OwnCode.code (after_codes P) (c.in-None-next_code.ensures.rest (own_code_tried P))
    ∙ ap (λ xs. own_code_tried P c.in-OwnCode.code ++ xs) (heard_first P (sym c.broadcast.ensures ∙ c.if-broadcast.true)))

pub returns-in-Wraparound-clause-rest : goal.returns-in-Wraparound-clause-rest
returns-in-Wraparound-clause-rest c =
    let P : Description = description_in c.args.p.now in
    by_trial P c.args.trial (Wraparound c.in-Wraparound.s) _ c.in-Wraparound.is
    (subaddress_next (wraparound_tried P) c.in-Wraparound.s c.if-s-lt30.true)

pub returns-in-Wraparound-2-clause-rest : goal.returns-in-Wraparound-2-clause-rest
returns-in-Wraparound-2-clause-rest c =
    let P : Description = description_in c.args.p.now in
    by_trial P c.args.trial (Wraparound c.in-Wraparound.s) _ c.in-Wraparound.is
    (subaddress_last (wraparound_tried P) c.in-Wraparound.s (subst IsTrialInRange c.in-Wraparound.is c.requires) (omega arith))
