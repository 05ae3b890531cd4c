use Rattle.std.proofs.Common.{◌≡◌, ◌&&◌, false, is_some, ap, ◌∙◌}
use Rattle.std.proofs.lemmas.Bool.{eq-eqb}
use Rattle.bus_word.specs.declared.cell.Cell.{Cell}
use Rattle.bus_word.specs.declared.cell.Cell.TheVariants.{OwnReceive, OwnTransmit, BroadReceive, OwnMode, BroadMode}
use Rattle.bus_word.specs.Cell.{is_allowed, allows_broadcast}
use Rattle.bus_word.specs.Mode.{mode_row, is_required_code}
use Rattle.bus_legal.specs.Last.{last_of}
use Rattle.bus_legal.specs.OwnCodes.{contains_own, mode_says}
use Rattle.bus_legal.specs.declared.tables.Tables.{Tables}
use Rattle.bus_legal.specs.Legal.{contains_broadcast, last_says, is_legal}
use Rattle.bus_legal.specs.Tables.{tables_say}
use Rattle.bus_legal.specs.inner.Masks.{bit_said}
use Rattle.bus_legal.proofs.ModeMasks.{own_mask}
use Rattle.bus_legal.proofs.TableSteps.{at_place, at_code, row_below, broadcast_row_below}
use Rattle.bus_legal.proofs.tables.Tables.of.Goals as goal

pub returns-clause-legal : goal.returns-clause-legal
unfolding is_legal
returns-clause-legal c =
    let counts = c.count_tables-tables.result in
    let own = c.own_mode_mask in
    let broadcast = c.broadcast_mode_mask in
    let tables : Tables = record { own_receive = counts.own_receive; own_transmit = counts.own_transmit; broadcast_receive = counts.broadcast_receive; own_mode = own.result; broadcast_mode = broadcast.result } in
    let p = c.args.profile.now in
    let on_rules = λ (cell : Cell). ap (λ rules. is_allowed cell && last_says rules p.modes cell) c.as_slice.ensures in
    λ cell. elim cell as (λ cell. tables_say tables cell ≡ is_legal p.rules p.modes cell) [
      | OwnReceive s n ↦ at_place s n counts.own_receive (bit_said (λ r. r.own && r.receive) c.as_slice.result.now) c.count_tables-tables.ensures.own_receive ∙ on_rules (OwnReceive s n)
      | OwnTransmit s n ↦ at_place s n counts.own_transmit (bit_said (λ r. r.own && r.transmit) c.as_slice.result.now) c.count_tables-tables.ensures.own_transmit ∙ on_rules (OwnTransmit s n)
      | BroadReceive s n ↦ at_place s n counts.broadcast_receive (bit_said (λ r. r.broadcast && r.receive) c.as_slice.result.now) c.count_tables-tables.ensures.broadcast_receive ∙ on_rules (BroadReceive s n)
      | OwnMode k ↦ at_code (is_some (mode_row k)) _ (mode_says (is_required_code k) (last_of (contains_own k) p.modes)) (λ e. rw c.as_slice-2.ensures at (own.ensures.codes k (row_below k e)))
      | BroadMode k ↦ at_code (allows_broadcast (mode_row k)) _ (mode_says false (last_of (contains_broadcast k) p.modes)) (λ e. rw c.as_slice-3.ensures at (broadcast.ensures.codes k (broadcast_row_below k e)))
    ]

pub returns-clause-own_mode : goal.returns-clause-own_mode
returns-clause-own_mode c =
    let own = c.own_mode_mask in
    own_mask c.args.profile.now.modes own.result (λ k l. rw c.as_slice-2.ensures at (own.ensures.codes k l)) own.ensures.no_other c.args.profile.now.required_codes

pub returns-clause-broadcast_mode : goal.returns-clause-broadcast_mode
returns-clause-broadcast_mode c = eq-eqb _ _ c.broadcast_mode_mask.ensures.no_other
