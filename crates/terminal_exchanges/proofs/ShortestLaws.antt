-- The shortest legal commands of a subaddress, by the masks of a `Normal`.
use Rattle.std.proofs.Common.{◌≡◌, ◌≢◌, ℕ, ◌+◌, ◌-◌, ◌≤◌, Bool, true, false, not, ◌&&◌, nat_le, cond, if◌then◌else◌, List, [], ◌∷◌, replicate, get_or, ap, sym, ◌∙◌, arith}
use Rattle.std.proofs.lemmas.Bool.{ne_eqb}
use Rattle.std.proofs.lemmas.Bool.Decides.{nat_tests}
use Rattle.bus_word.specs.Cell.{is_data_place}
use Rattle.bus_legal.specs.declared.tables.Tables.{Tables}
use Rattle.bus_legal.specs.Description.{Description, word_at}
use Rattle.bus_legal.specs.Reach.{any_count, transmits_at}
use Rattle.bus_legal.specs.Tables.{has_any}
use Rattle.bus_legal.specs.Parts.{Parts, description_in, IsNormal}
use Rattle.bus_legal.proofs.TablesReach.{any_count-said}
use Rattle.terminal_exchanges.specs.Exchanges.{Exchange}
use Rattle.terminal_exchanges.specs.Distinguish.{all_terminals, receive, transmit, least_count, receives_own, receives_broadcast, receive_complement, shortest_receive, shortest_transmit}
use Rattle.terminal_exchanges.specs.inner.Counts.{least_in}
use Rattle.terminal_exchanges.proofs.CountLaws.{least_count-said}

inside : (s : ℕ) → 1 ≤ s → s ≤ 30 → nat_le 1 s && nat_le s 30 ≡ true
inside s low high = grind (arith, nat_tests)

first_place : (s : ℕ) → 1 ≤ s → s ≤ 30 → is_data_place s 1 ≡ true
first_place s low high = grind (arith, nat_tests)

module _ (v : Parts) (normal : IsNormal v) (t : Tables) (block own s : ℕ) (tables : t ≡ v.tables) (at : block ≡ s - 1) (low : 1 ≤ s) (high : s ≤ 30) (address : own ≡ v.address) where
  abbrev P : Description
  P = description_in v

  abbrev receive_by : Bool → Exchange
  receive_by b = if b then receive_complement P s P.address (least_count (receives_own P s)) else receive_complement P s all_terminals (least_count (receives_broadcast P s))

  first : (words : List (List ℕ)) → words ≡ v.initial → 65535 - get_or (get_or words block []) 0 0 ≡ 65535 - P.initial s 1
  first words held =
      (λ j. 65535 - get_or (get_or (held j) (at j) []) 0 0)
      ∙ sym (ap (λ b. 65535 - cond b (word_at v.initial s 1) 0) (first_place s low high))

  own_mask : get_or t.own_receive block 0 ≡ get_or v.tables.own_receive (s - 1) 0
  own_mask = λ j. get_or ((tables j).own_receive) (at j) 0

  any_own : any_count (receives_own P s) ≡ has_any (get_or v.tables.own_receive (s - 1) 0)
  any_own = any_count-said v.tables.own_receive s (inside s low high) normal.own_receive

  pub own_shortest : (words : List (List ℕ)) (n : ℕ) (x : Exchange) → words ≡ v.initial → get_or t.own_receive block 0 ≢ 0 → n ≡ least_in (get_or t.own_receive block 0) →
      x ≡ receive own s n ((65535 - get_or (get_or words block []) 0 0) ∷ replicate (n - 1) 0) → x ≡ shortest_receive P s
  own_shortest words n x held some e f =
      let counted : n ≡ least_count (receives_own P s) = e ∙ (ap least_in own_mask ∙ sym (least_count-said v.tables.own_receive s low high)) in
      let any : any_count (receives_own P s) ≡ true = any_own ∙ ap not (ne_eqb (get_or v.tables.own_receive (s - 1) 0) 0 (λ none. some (own_mask ∙ none))) in
      f ∙ ((λ j. receive (address j) s (counted j) (first words held j ∷ replicate (counted j - 1) 0)) ∙ ap receive_by (sym any))

  pub broadcast_shortest : (words : List (List ℕ)) (n : ℕ) (x : Exchange) → words ≡ v.initial → get_or t.own_receive block 0 ≡ 0 → n ≡ least_in (get_or t.broadcast_receive block 0) →
      x ≡ receive all_terminals s n ((65535 - get_or (get_or words block []) 0 0) ∷ replicate (n - 1) 0) → x ≡ shortest_receive P s
  broadcast_shortest words n x held none e f =
      let counted : n ≡ least_count (receives_broadcast P s) =
      e ∙ ((λ j. least_in (get_or ((tables j).broadcast_receive) (at j) 0)) ∙ sym (least_count-said v.tables.broadcast_receive s low high)) in
      let any : any_count (receives_own P s) ≡ false = any_own ∙ ap has_any (sym own_mask ∙ none) in
      f ∙ ((λ j. receive all_terminals s (counted j) (first words held j ∷ replicate (counted j - 1) 0)) ∙ ap receive_by (sym any))

  pub transmit_shortest : (m : ℕ) (x : Exchange) → m ≡ least_in (get_or t.own_transmit block 0) → x ≡ transmit own s m (m + 1) → x ≡ shortest_transmit P s
  transmit_shortest m x e f =
      let counted : m ≡ least_count (transmits_at P s) =
      e ∙ ((λ j. least_in (get_or ((tables j).own_transmit) (at j) 0)) ∙ sym (least_count-said v.tables.own_transmit s low high)) in
      f ∙ (λ j. transmit (address j) s (counted j) (counted j + 1))
