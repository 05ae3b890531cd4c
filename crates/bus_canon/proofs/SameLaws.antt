-- Terminals that are the same have the same in reach: what differs is told apart by a script.
use Rattle.std.proofs.Common.{◌≡◌, ◌≢◌, ℕ, Bool, true, false, List, refl}
use Rattle.bus_word.specs.declared.cell.Cell.{Cell}
use Rattle.bus_word.specs.declared.cell.Cell.TheVariants.{OwnReceive, OwnTransmit, BroadReceive, OwnMode, BroadMode}
use Rattle.bus_legal.specs.Description.{Description}
use Rattle.bus_legal.specs.Parts.{Parts, description_in, IsNormal}
use Rattle.bus_legal.proofs.Descriptions.{same_description}
use Rattle.bus_legal.proofs.SameNormals.{same_normals}
use Rattle.terminal_rules.specs.declared.event.Event.{Event}
use Rattle.terminal_rules.specs.Same.{Same}
use Rattle.terminal_exchanges.specs.Distinguish.{TellsApart, address_script, option_script, own_receive_script, own_transmit_script, broadcast_receive_script, own_code_script, broadcast_code_script, acceptance_script, vector_script, bit_script, initial_script, wraparound_script, shown_subaddress}
use Rattle.terminal_exchanges.proofs.Distinguish.Apart.{apart_not_same}
use Rattle.terminal_exchanges.proofs.Distinguish.Reached.{IsReached, normal-reached, same_number, apart_by_address, apart_by_option, apart_by_own_receive, apart_by_own_transmit, apart_by_broadcast_receive, apart_by_own_code, apart_by_broadcast_code, apart_by_acceptance, apart_by_vector, apart_by_bit, apart_by_initial, apart_by_wraparound}

-- truth values that can't differ are equal
same_truth : (a b : Bool) → (a ≢ b → ⊥) → a ≡ b
same_truth true true h = refl
same_truth true false h = absurd (h (λ e. cc))
same_truth false true h = absurd (h (λ e. cc))
same_truth false false h = refl

module _ (P Q : Description) (p : IsReached P) (q : IsReached Q) (same : Same P Q) where
  not_apart : (script : List Event) → TellsApart P Q script → ⊥
  not_apart script t = apart_not_same P Q script t same

  address : P.address ≡ Q.address
  address = same_number P.address Q.address (λ other. not_apart (address_script P.address) (apart_by_address P Q p q other))

  broadcast : P.broadcast ≡ Q.broadcast
  broadcast = same_truth P.broadcast Q.broadcast (λ other. not_apart (option_script P.address) (apart_by_option P Q p q address other))

  own_receive : (s n : ℕ) → P.legal (OwnReceive s n) ≡ Q.legal (OwnReceive s n)
  own_receive s n = same_truth _ _ (λ other. not_apart (own_receive_script P.address s n) (apart_by_own_receive P Q s n p q address other))

  own_transmit : (s n : ℕ) → P.legal (OwnTransmit s n) ≡ Q.legal (OwnTransmit s n)
  own_transmit s n = same_truth _ _ (λ other. not_apart (own_transmit_script P.address s n) (apart_by_own_transmit P Q s n p q address other))

  broadcast_receive : (s n : ℕ) → P.legal (BroadReceive s n) ≡ Q.legal (BroadReceive s n)
  broadcast_receive s n = same_truth _ _ (λ other. not_apart (broadcast_receive_script P.address s n) (apart_by_broadcast_receive P Q s n p q address broadcast other))

  own_code : (code : ℕ) → P.legal (OwnMode code) ≡ Q.legal (OwnMode code)
  own_code code = same_truth _ _ (λ other. not_apart (own_code_script P.address code) (apart_by_own_code P Q code p q address other))

  broadcast_code : (code : ℕ) → P.legal (BroadMode code) ≡ Q.legal (BroadMode code)
  broadcast_code code = same_truth _ _ (λ other. not_apart (broadcast_code_script P.address code) (apart_by_broadcast_code P Q code p q address broadcast other))

  legal : (cell : Cell) → P.legal cell ≡ Q.legal cell
  legal (OwnReceive s n) = own_receive s n
  legal (OwnTransmit s n) = own_transmit s n
  legal (BroadReceive s n) = broadcast_receive s n
  legal (OwnMode code) = own_code code
  legal (BroadMode code) = broadcast_code code

  acceptance : P.accept ≡ Q.accept
  acceptance = same_truth P.accept Q.accept (λ other. not_apart (acceptance_script P.address) (apart_by_acceptance P Q p q address (own_code 0) other))

  vector : P.vector ≡ Q.vector
  vector = same_number P.vector Q.vector (λ other. not_apart (vector_script P.address) (apart_by_vector P Q p q address (own_code 16) other))

  bit : P.bit ≡ Q.bit
  bit = same_number P.bit Q.bit (λ other. not_apart (bit_script P.address) (apart_by_bit P Q p q address (own_code 19) other))

  initial : (s i : ℕ) → P.initial s i ≡ Q.initial s i
  initial s i = same_number (P.initial s i) (Q.initial s i) (λ other. not_apart (initial_script P s) (apart_by_initial P Q s i p q address (λ n. own_transmit s n) other))

  wraparound : P.wrap ≡ Q.wrap
  wraparound =
      same_number P.wrap Q.wrap
      (λ other. not_apart (wraparound_script P (shown_subaddress P.wrap Q.wrap)) (apart_by_wraparound P Q p q address
      (record {
        broadcast = broadcast;
        own_receive = own_receive (shown_subaddress P.wrap Q.wrap);
        own_transmit = own_transmit (shown_subaddress P.wrap Q.wrap);
        broadcast_receive = broadcast_receive (shown_subaddress P.wrap Q.wrap);
        initial = initial (shown_subaddress P.wrap Q.wrap) 1;
      })
      other))

  pub same_in_all : P ≡ Q
  same_in_all = same_description P Q address broadcast wraparound acceptance vector bit initial legal

pub equal_where_same : (v w : Parts) → IsNormal v → IsNormal w → Same (description_in v) (description_in w) → v ≡ w
equal_where_same v w p q same = same_normals v w p q (same_in_all (description_in v) (description_in w) (normal-reached v p) (normal-reached w q) same)
