-- What the search among the legal cells finds, by the tables of the two terminals.
use Rattle.std.proofs.Common.{◌≡◌, ℕ, ◌<◌, true, refl, sym, ap, ◌∙◌}
use Rattle.bus_word.specs.declared.cell.Cell.{Cell}
use Rattle.bus_word.specs.declared.cell.Cell.TheVariants.{OwnReceive, OwnTransmit, BroadReceive, OwnMode, BroadMode}
use Rattle.bus_word.specs.Cell.{is_data_place}
use Rattle.bus_legal.specs.declared.tables.Tables.{Tables}
use Rattle.bus_legal.specs.Description.{Description}
use Rattle.bus_legal.specs.Tables.{has_count, tables_say, is_own_mask, is_broadcast_mask}
use Rattle.bus_legal.specs.Parts.{Parts, description_in, IsNormal}
use Rattle.bus_canon.specs.declared.difference.Difference.TheVariants.{ReceiveCell, TransmitCell, BroadcastReceiveCell, OwnCode, BroadcastCode}
use Rattle.bus_canon.specs.Difference.{IsFirstDifference}
use Rattle.bus_word.specs.Mask.{has_bit}
use Rattle.bus_canon.specs.inner.Search.{IsFirstNumber, IsFirstPlace, AlikeBefore}
use Rattle.bus_canon.proofs.FirstLaws.{alike_to, first_of_kind}
use Rattle.bus_canon.proofs.CellSteps.{cells_alike, cells_lower, cells_differ, codes_lower, own_alike, broadcast_alike, own_differ, broadcast_differ, is_own, is_by_broadcast}

module _ (v w : Parts) (t u : Tables) (ours : t ≡ v.tables) (theirs : u ≡ w.tables) where
  abbrev P : Description
  P = description_in v

  abbrev Q : Description
  Q = description_in w

  through : (cell : Cell) → tables_say t cell ≡ tables_say u cell → tables_say v.tables cell ≡ tables_say w.tables cell
  through cell e = sym (ap (λ x. tables_say x cell) ours) ∙ (e ∙ ap (λ x. tables_say x cell) theirs)

  back : (cell : Cell) → tables_say v.tables cell ≡ tables_say w.tables cell → tables_say t cell ≡ tables_say u cell
  back cell e = ap (λ x. tables_say x cell) ours ∙ (e ∙ sym (ap (λ x. tables_say x cell) theirs))

  pub receive_same : AlikeBefore 3 P Q → ((s n : ℕ) → is_data_place s n ≡ true → has_count t.own_receive s n ≡ has_count u.own_receive s n) → AlikeBefore 4 P Q
  receive_same before same = alike_to 3 4 P Q refl before (λ s n _. through (OwnReceive s n) (cells_alike (has_count t.own_receive) (has_count u.own_receive) same s n))

  pub receive_first : (s n : ℕ) → AlikeBefore 3 P Q → IsFirstPlace (has_count t.own_receive) (has_count u.own_receive) s n → IsFirstDifference P Q (ReceiveCell s n) × is_data_place s n ≡ true
  receive_first s n before first = (
    first_of_kind P Q (ReceiveCell s n) before
        (λ k m lower. through (OwnReceive k m) (cells_lower (has_count t.own_receive) (has_count u.own_receive) s n first k m lower))
        (λ e. cells_differ (has_count t.own_receive) (has_count u.own_receive) s n first (back (OwnReceive s n) e)),
    first.place,
  )

  pub transmit_same : AlikeBefore 4 P Q → ((s n : ℕ) → is_data_place s n ≡ true → has_count t.own_transmit s n ≡ has_count u.own_transmit s n) → AlikeBefore 5 P Q
  transmit_same before same = alike_to 4 5 P Q refl before (λ s n _. through (OwnTransmit s n) (cells_alike (has_count t.own_transmit) (has_count u.own_transmit) same s n))

  pub transmit_first : (s n : ℕ) → AlikeBefore 4 P Q → IsFirstPlace (has_count t.own_transmit) (has_count u.own_transmit) s n → IsFirstDifference P Q (TransmitCell s n) × is_data_place s n ≡ true
  transmit_first s n before first = (
    first_of_kind P Q (TransmitCell s n) before
        (λ k m lower. through (OwnTransmit k m) (cells_lower (has_count t.own_transmit) (has_count u.own_transmit) s n first k m lower))
        (λ e. cells_differ (has_count t.own_transmit) (has_count u.own_transmit) s n first (back (OwnTransmit s n) e)),
    first.place,
  )

  pub broadcast_receive_same : AlikeBefore 5 P Q → ((s n : ℕ) → is_data_place s n ≡ true → has_count t.broadcast_receive s n ≡ has_count u.broadcast_receive s n) → AlikeBefore 6 P Q
  broadcast_receive_same before same = alike_to 5 6 P Q refl before (λ s n _. through (BroadReceive s n) (cells_alike (has_count t.broadcast_receive) (has_count u.broadcast_receive) same s n))

  pub broadcast_receive_first : (s n : ℕ) → AlikeBefore 5 P Q → IsFirstPlace (has_count t.broadcast_receive) (has_count u.broadcast_receive) s n → IsFirstDifference P Q (BroadcastReceiveCell s n) × is_data_place s n ≡ true
  broadcast_receive_first s n before first = (
    first_of_kind P Q (BroadcastReceiveCell s n) before
        (λ k m lower. through (BroadReceive k m) (cells_lower (has_count t.broadcast_receive) (has_count u.broadcast_receive) s n first k m lower))
        (λ e. cells_differ (has_count t.broadcast_receive) (has_count u.broadcast_receive) s n first (back (BroadReceive s n) e)),
    first.place,
  )

  pub own_code_same : AlikeBefore 6 P Q → ((c : ℕ) → c < 32 → has_bit t.own_mode c ≡ has_bit u.own_mode c) → AlikeBefore 7 P Q
  own_code_same before same = alike_to 6 7 P Q refl before (λ c _. through (OwnMode c) (own_alike t.own_mode u.own_mode same c))

  pub own_code_first : (code : ℕ) → IsNormal v → IsNormal w → AlikeBefore 6 P Q → IsFirstNumber 32 (has_bit t.own_mode) (has_bit u.own_mode) code → IsFirstDifference P Q (OwnCode code) × code < 32
  own_code_first code p q before first = (
    first_of_kind P Q (OwnCode code) before
        (λ c lower. through (OwnMode c) (codes_lower is_own t.own_mode u.own_mode code first c lower))
        (λ e. own_differ t.own_mode u.own_mode code (ap (λ (x : Tables). is_own_mask x.own_mode) ours ∙ p.own_mode) (ap (λ (x : Tables). is_own_mask x.own_mode) theirs ∙ q.own_mode) first (back (OwnMode code) e)),
    first.inside,
  )

  pub broadcast_code_same : AlikeBefore 7 P Q → ((c : ℕ) → c < 32 → has_bit t.broadcast_mode c ≡ has_bit u.broadcast_mode c) → AlikeBefore 8 P Q
  broadcast_code_same before same = alike_to 7 8 P Q refl before (λ c _. through (BroadMode c) (broadcast_alike t.broadcast_mode u.broadcast_mode same c))

  pub broadcast_code_first : (code : ℕ) → IsNormal v → IsNormal w → AlikeBefore 7 P Q → IsFirstNumber 32 (has_bit t.broadcast_mode) (has_bit u.broadcast_mode) code → IsFirstDifference P Q (BroadcastCode code) × code < 32
  broadcast_code_first code p q before first = (
    first_of_kind P Q (BroadcastCode code) before
        (λ c lower. through (BroadMode c) (codes_lower is_by_broadcast t.broadcast_mode u.broadcast_mode code first c lower))
        (λ e. broadcast_differ t.broadcast_mode u.broadcast_mode code (ap (λ (x : Tables). is_broadcast_mask x.broadcast_mode) ours ∙ p.broadcast_mode) (ap (λ (x : Tables). is_broadcast_mask x.broadcast_mode) theirs ∙ q.broadcast_mode) first (back (BroadMode code) e)),
    first.inside,
  )
