-- The script of the first difference tells apart, and `Normal`s that are alike are equal.
use Rattle.std.proofs.Common.{◌≡◌, ◌≢◌, ◌↔◌, ℕ, ◌+◌, ◌-◌, ◌<◌, ◌≤◌, Bool, IsTrue, true, ◌&&◌, List, get_or, ◌∙◌, ap, sym, inl, arith}
use Rattle.std.proofs.lemmas.Bool.Decides.{nat_tests}
use Rattle.bus_word.specs.Cell.{is_data_place}
use Rattle.bus_word.specs.Mask.{has_bit}
use Rattle.bus_word.specs.declared.cell.Cell.{Cell}
use Rattle.bus_word.specs.declared.cell.Cell.TheVariants.{OwnReceive, OwnTransmit, BroadReceive, OwnMode, BroadMode}
use Rattle.bus_legal.specs.Description.{Description}
use Rattle.bus_legal.specs.Parts.{Parts, description_in, AreMasks, IsNormal}
use Rattle.bus_legal.specs.Tables.{has_count}
use Rattle.bus_legal.proofs.Bits.{same_mask}
use Rattle.bus_legal.proofs.Descriptions.{same_description}
use Rattle.bus_legal.proofs.SameNormals.{same_normals}
use Rattle.terminal_rules.specs.Out.{outs}
use Rattle.terminal_exchanges.specs.Distinguish.{TellsApart, shown_subaddress}
use Rattle.terminal_exchanges.proofs.Distinguish.Reached.{IsReached, normal-reached, apart_by_address, apart_by_option, apart_by_own_receive, apart_by_own_transmit, apart_by_broadcast_receive, apart_by_own_code, apart_by_broadcast_code, apart_by_acceptance, apart_by_vector, apart_by_bit, apart_by_initial, apart_by_wraparound}
use Rattle.bus_canon.specs.declared.difference.Difference.{Difference}
use Rattle.bus_canon.specs.declared.difference.Difference.TheVariants.{Address, BroadcastOption, ReceiveCell, TransmitCell, BroadcastReceiveCell, OwnCode, BroadcastCode, Acceptance, VectorWord, BitWord, InitialWord, Wraparound}
use Rattle.bus_canon.specs.Difference.{rank, AreAlike, IsFirstDifference, NothingHides, script_for}
use Rattle.bus_canon.specs.inner.Search.{AlikeBefore}

earlier : (P Q : Description) (d c : Difference) → IsFirstDifference P Q d → rank c < rank d → AreAlike P Q c
earlier P Q d c first l = first.alike c (inl l)

apart_where_reached : (P Q : Description) (d : Difference) → IsReached P → IsReached Q → IsFirstDifference P Q d → TellsApart P Q (script_for P Q d)
apart_where_reached P Q Address p q first = apart_by_address P Q p q first.differ
apart_where_reached P Q BroadcastOption p q first = apart_by_option P Q p q (earlier P Q BroadcastOption Address first (omega arith)) first.differ
apart_where_reached P Q (ReceiveCell s n) p q first = apart_by_own_receive P Q s n p q (earlier P Q (ReceiveCell s n) Address first (omega arith)) first.differ
apart_where_reached P Q (TransmitCell s n) p q first = apart_by_own_transmit P Q s n p q (earlier P Q (TransmitCell s n) Address first (omega arith)) first.differ
apart_where_reached P Q (BroadcastReceiveCell s n) p q first =
    apart_by_broadcast_receive P Q s n p q
    (earlier P Q (BroadcastReceiveCell s n) Address first (omega arith)) (earlier P Q (BroadcastReceiveCell s n) BroadcastOption first (omega arith)) first.differ
apart_where_reached P Q (OwnCode code) p q first = apart_by_own_code P Q code p q (earlier P Q (OwnCode code) Address first (omega arith)) first.differ
apart_where_reached P Q (BroadcastCode code) p q first =
    apart_by_broadcast_code P Q code p q
    (earlier P Q (BroadcastCode code) Address first (omega arith)) (earlier P Q (BroadcastCode code) BroadcastOption first (omega arith)) first.differ
apart_where_reached P Q Acceptance p q first =
    apart_by_acceptance P Q p q (earlier P Q Acceptance Address first (omega arith)) (earlier P Q Acceptance (OwnCode 0) first (omega arith)) first.differ
apart_where_reached P Q VectorWord p q first =
    apart_by_vector P Q p q (earlier P Q VectorWord Address first (omega arith)) (earlier P Q VectorWord (OwnCode 16) first (omega arith)) first.differ
apart_where_reached P Q BitWord p q first =
    apart_by_bit P Q p q (earlier P Q BitWord Address first (omega arith)) (earlier P Q BitWord (OwnCode 19) first (omega arith)) first.differ
apart_where_reached P Q (InitialWord s i) p q first =
    apart_by_initial P Q s i p q
    (earlier P Q (InitialWord s i) Address first (omega arith)) (λ n. earlier P Q (InitialWord s i) (TransmitCell s n) first (omega arith)) first.differ
apart_where_reached P Q Wraparound p q first =
    apart_by_wraparound P Q p q (earlier P Q Wraparound Address first (omega arith))
    (record {
      broadcast = earlier P Q Wraparound BroadcastOption first (omega arith);
      own_receive = λ n. earlier P Q Wraparound (ReceiveCell (shown_subaddress P.wrap Q.wrap) n) first (omega arith);
      own_transmit = λ n. earlier P Q Wraparound (TransmitCell (shown_subaddress P.wrap Q.wrap) n) first (omega arith);
      broadcast_receive = λ n. earlier P Q Wraparound (BroadcastReceiveCell (shown_subaddress P.wrap Q.wrap) n) first (omega arith);
      initial = earlier P Q Wraparound (InitialWord (shown_subaddress P.wrap Q.wrap) 1) first (omega arith);
    })
    first.differ

pub apart_by_first : (v w : Parts) (d : Difference) → IsNormal v → IsNormal w → IsFirstDifference (description_in v) (description_in w) d →
    TellsApart (description_in v) (description_in w) (script_for (description_in v) (description_in w) d)
apart_by_first v w d p q first = apart_where_reached (description_in v) (description_in w) d (normal-reached v p) (normal-reached w q) first

-- what has a first difference isn't equal
pub apart_unequal : (v w : Parts) (d : Difference) → IsNormal v → IsNormal w → IsFirstDifference (description_in v) (description_in w) d → v ≢ w
apart_unequal v w d p q first same =
    let script = script_for (description_in v) (description_in w) d in
    (apart_by_first v w d p q first).differ (ap (λ x. outs (description_in x) script) same)

legal_alike : (P Q : Description) → AlikeBefore 13 P Q → (cell : Cell) → P.legal cell ≡ Q.legal cell
legal_alike P Q alike (OwnReceive s n) = alike (ReceiveCell s n) (omega arith)
legal_alike P Q alike (OwnTransmit s n) = alike (TransmitCell s n) (omega arith)
legal_alike P Q alike (BroadReceive s n) = alike (BroadcastReceiveCell s n) (omega arith)
legal_alike P Q alike (OwnMode c) = alike (OwnCode c) (omega arith)
legal_alike P Q alike (BroadMode c) = alike (BroadcastCode c) (omega arith)

pub equal_by_all : (v w : Parts) → IsNormal v → IsNormal w → AlikeBefore 13 (description_in v) (description_in w) → v ≡ w
equal_by_all v w p q alike =
    same_normals v w p q
    (same_description (description_in v) (description_in w)
    (alike Address (omega arith)) (alike BroadcastOption (omega arith)) (alike Wraparound (omega arith)) (alike Acceptance (omega arith))
    (alike VectorWord (omega arith)) (alike BitWord (omega arith))
    (λ s i. alike (InitialWord s i) (omega arith))
    (legal_alike (description_in v) (description_in w) alike))

-- the script of a difference that shows by itself tells apart
shown_alone : (P Q : Description) (d : Difference) → IsReached P → IsReached Q → (AreAlike P Q d → ⊥) → NothingHides P Q d → TellsApart P Q (script_for P Q d)
shown_alone P Q Address p q other a = apart_by_address P Q p q other
shown_alone P Q BroadcastOption p q other a = apart_by_option P Q p q a other
shown_alone P Q (ReceiveCell s n) p q other a = apart_by_own_receive P Q s n p q a other
shown_alone P Q (TransmitCell s n) p q other a = apart_by_own_transmit P Q s n p q a other
shown_alone P Q (BroadcastReceiveCell s n) p q other a = apart_by_broadcast_receive P Q s n p q a.0 a.1 other
shown_alone P Q (OwnCode code) p q other a = apart_by_own_code P Q code p q a other
shown_alone P Q (BroadcastCode code) p q other a = apart_by_broadcast_code P Q code p q a.0 a.1 other
shown_alone P Q Acceptance p q other a = apart_by_acceptance P Q p q a.0 a.1 other
shown_alone P Q VectorWord p q other a = apart_by_vector P Q p q a.0 a.1 other
shown_alone P Q BitWord p q other a = apart_by_bit P Q p q a.0 a.1 other
shown_alone P Q (InitialWord s i) p q other a = apart_by_initial P Q s i p q a.0 a.1 other
shown_alone P Q Wraparound p q other a =
    apart_by_wraparound P Q p q a.0
    (record {
      broadcast = a.1.broadcast;
      own_receive = a.1.own_receive;
      own_transmit = a.1.own_transmit;
      broadcast_receive = a.1.broadcast_receive;
      initial = a.1.initial;
    })
    other

pub apart_by_shown : (v w : Parts) (d : Difference) → IsNormal v → IsNormal w → (AreAlike (description_in v) (description_in w) d → ⊥) → NothingHides (description_in v) (description_in w) d
    → TellsApart (description_in v) (description_in w) (script_for (description_in v) (description_in w) d)
apart_by_shown v w d p q other a = shown_alone (description_in v) (description_in w) d (normal-reached v p) (normal-reached w q) other a

-- the mask of a subaddress is decided by what is said of its word counts, and decides it
pub same_at : (a b : List ℕ) (s : ℕ) → AreMasks a → AreMasks b → 1 ≤ s → s ≤ 30 → ((n : ℕ) → (is_data_place s n && has_count a s n) ≡ (is_data_place s n && has_count b s n)) → get_or a (s - 1) 0 ≡ get_or b (s - 1) 0
same_at a b s are be low high said = same_mask (get_or a (s - 1) 0) (get_or b (s - 1) 0) (are.fit (s - 1)) (be.fit (s - 1)) (λ i l. bit i l)
  where
    bit : (i : ℕ) → i < 32 → has_bit (get_or a (s - 1) 0) i ≡ has_bit (get_or b (s - 1) 0) i
    bit i l =
        let place : is_data_place s (i + 1) ≡ true = grind (arith, nat_tests) in
        let number : i + 1 - 1 ≡ i = omega arith in
        let at : (masks : List ℕ) → (is_data_place s (i + 1) && has_count masks s (i + 1)) ≡ has_bit (get_or masks (s - 1) 0) i =
        (λ masks. ap (λ t. t && has_count masks s (i + 1)) place ∙ ap (has_bit (get_or masks (s - 1) 0)) number) in
        sym (at a) ∙ (said (i + 1) ∙ at b)

said_at : (a b : List ℕ) (s : ℕ) → get_or a (s - 1) 0 ≡ get_or b (s - 1) 0 → (n : ℕ) → (is_data_place s n && has_count a s n) ≡ (is_data_place s n && has_count b s n)
said_at a b s same n = ap (λ m. is_data_place s n && has_bit m (n - 1)) same

-- what a comparison of masks tells of word counts
pub counts_at : (b : Bool) (ours theirs x y : List ℕ) (s : ℕ) → ours ≡ x → theirs ≡ y → AreMasks x → AreMasks y → 1 ≤ s → s ≤ 30
    → IsTrue b ↔ (get_or ours (s - 1) 0 ≡ get_or theirs (s - 1) 0)
    → IsTrue b ↔ ((n : ℕ) → (is_data_place s n && has_count x s n) ≡ (is_data_place s n && has_count y s n))
counts_at b ours theirs x y s first second are be low high told = (
  λ t. said_at x y s (ap (λ m. get_or m (s - 1) 0) (sym first) ∙ told.0 t ∙ ap (λ m. get_or m (s - 1) 0) second),
  λ said. told.1 (ap (λ m. get_or m (s - 1) 0) first ∙ same_at x y s are be low high said ∙ ap (λ m. get_or m (s - 1) 0) (sym second)),
)
