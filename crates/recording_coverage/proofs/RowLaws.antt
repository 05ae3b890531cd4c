-- Rows of illegal messages, one command more at a time.
use Rattle.std.proofs.Common.{◌≡◌, ◌<◌, ◌+◌, ◌-◌, ℕ, suc, Bool, true, false, not, ◌&&◌, ◌==◌, cond, List, [], ◌∷◌, ◌++◌, map, filter, length, take, get_or, refl, ap, sym, ◌∙◌, append_assoc, append-nil, arith}
use Rattle.std.specs.List.{range_with_len}
use Rattle.std.proofs.lemmas.List.{take_more, map-append}
use Rattle.std.proofs.lemmas.List.Elements.{filter-append}
use Rattle.bus_word.specs.Cell.{cell_of}
use Rattle.bus_word.specs.Command.{subaddress_of}
use Rattle.bus_legal.specs.Description.{Description}
use Rattle.recording_coverage.specs.declared.outcome.MessageEnd.{MessageEnd}
use Rattle.recording_coverage.specs.declared.outcome.OutcomeCounts.{OutcomeCounts}
use Rattle.bus_word.specs.declared.cell.Cell.{Cell}
use Rattle.recording_coverage.specs.declared.rows.CoveredMessage.{CoveredMessage}
use Rattle.recording_coverage.specs.declared.rows.IllegalMessage.{IllegalMessage}
use Rattle.recording_coverage.specs.Endings.{counts_of}
use Rattle.recording_coverage.specs.Messages.{is_same_message}
use Rattle.recording_coverage.specs.Rows.{covered_in, has_legal_cell, are_none, command_at, commands_by_number, is_tried, tried_in, tried_of}

tried_one : (P : Description) (ends : List MessageEnd) (c : ℕ) (k : Bool) → is_tried P ends c ≡ k → tried_of P ends (c ∷ []) ≡ map (tried_in ends) (cond k (c ∷ []) [])
tried_one P ends c k e = ap (λ b. map (tried_in ends) (cond b (c ∷ []) [])) e

-- a command is told
pub adds_tried : (P : Description) (ends : List MessageEnd) (c : ℕ) (counts : OutcomeCounts) (old new : List IllegalMessage) → (subaddress_of c == 31) ≡ false → has_legal_cell P.legal (cell_of c) ≡ false
    → are_none counts ≡ false → counts ≡ counts_of (is_same_message c) ends → new ≡ old ++ record { command = c; counts = counts } ∷ [] → new ≡ old ++ tried_of P ends (c ∷ [])
adds_tried P ends c counts old new place legal some at added =
    let is : is_tried P ends c ≡ true = λ j. (not (place j) && not (legal j)) && not ((sym (ap are_none at) ∙ some) j) in
    added ∙ ((λ j. old ++ record { command = c; counts = at j } ∷ []) ∙ ap (λ xs. old ++ xs) (sym (tried_one P ends c true is)))

-- it has not come
pub adds_none : (P : Description) (ends : List MessageEnd) (c : ℕ) (counts : OutcomeCounts) (old : List IllegalMessage) → are_none counts ≡ true → counts ≡ counts_of (is_same_message c) ends → old ≡ old ++ tried_of P ends (c ∷ [])
adds_none P ends c counts old none at =
    let is : is_tried P ends c ≡ false = ap (λ b. (not (subaddress_of c == 31) && not (has_legal_cell P.legal (cell_of c))) && not b) (sym (ap are_none at) ∙ none) ∙ no_more (not (subaddress_of c == 31) && not (has_legal_cell P.legal (cell_of c))) in
    sym (ap (λ xs. old ++ xs) (tried_one P ends c false is) ∙ append-nil old)
  where
    no_more : (b : Bool) → (b && false) ≡ false
    no_more true = refl
    no_more false = refl

tried-append : (P : Description) (ends : List MessageEnd) (xs ys : List ℕ) → tried_of P ends (xs ++ ys) ≡ tried_of P ends xs ++ tried_of P ends ys
tried-append P ends xs ys = ap (map (tried_in ends)) (filter-append (is_tried P ends) xs ys) ∙ map-append (tried_in ends) (filter (is_tried P ends) xs) (filter (is_tried P ends) ys)

commands_next : (address stop n : ℕ) → n < stop → commands_by_number address n (stop - n) ≡ (command_at address n ∷ []) ++ commands_by_number address (n + 1) (stop - (n + 1))
unfolding commands_by_number
commands_next address stop n l = let e : stop - n ≡ suc (stop - (n + 1)) = omega arith in ap (λ k. map (command_at address) (range_with_len n k)) e

-- one command more
pub tried_next : (P : Description) (ends : List MessageEnd) (address stop n : ℕ) (new old all : List IllegalMessage) → n < stop → new ≡ old ++ tried_of P ends (command_at address n ∷ [])
    → old ++ tried_of P ends (commands_by_number address n (stop - n)) ≡ all → new ++ tried_of P ends (commands_by_number address (n + 1) (stop - (n + 1))) ≡ all
tried_next P ends address stop n new old all l added kept =
    let left : List ℕ = commands_by_number address (n + 1) (stop - (n + 1)) in
    ap (λ xs. xs ++ tried_of P ends left) added
    ∙ (append_assoc old (tried_of P ends (command_at address n ∷ [])) (tried_of P ends left)
    ∙ (ap (λ xs. old ++ xs) (sym (tried-append P ends (command_at address n ∷ []) left) ∙ ap (tried_of P ends) (sym (commands_next address stop n l))) ∙ kept))

pub tried_end : (P : Description) (ends : List MessageEnd) (address stop n : ℕ) (xs : List IllegalMessage) → stop - n ≡ 0 → xs ++ tried_of P ends (commands_by_number address n (stop - n)) ≡ xs
unfolding commands_by_number
tried_end P ends address stop n xs e = ap (λ m. xs ++ tried_of P ends (commands_by_number address n m)) e ∙ append-nil xs

-- one legal message more
pub covered_next : (ends : List MessageEnd) (cells : List Cell) (i : ℕ) (d : Cell) (old new : List CoveredMessage) (row : CoveredMessage) → i < length cells → row ≡ covered_in ends (get_or cells i d)
    → new ≡ old ++ row ∷ [] → old ≡ map (covered_in ends) (take i cells) → new ≡ map (covered_in ends) (take (i + 1) cells)
covered_next ends cells i d old new row l is added kept =
    added
    ∙ ((λ j. kept j ++ is j ∷ [])
    ∙ (sym (map-append (covered_in ends) (take i cells) (get_or cells i d ∷ []))
    ∙ ap (map (covered_in ends)) (sym (take_more cells i d l))))
