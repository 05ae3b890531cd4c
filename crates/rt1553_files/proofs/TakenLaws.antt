-- The bytes of a reader, read up to a limit.
use Rattle.std.proofs.Common.{ℕ, ◌≡◌, ◌<◌, List, [], length, take, Option, Some, None, IfSome, option_map, arith, ◌++◌, subst}
use Rattle.std.proofs.lemmas.Grind.{common_steps}

-- all was read where fewer bytes came than were asked for
pub all_taken : (n : ℕ) (bytes all : List ℕ) → bytes ≡ take n all → length bytes < n → bytes ≡ all
all_taken n bytes all is few = grind (arith, common_steps)

pub known_whole : (n : ℕ) (bytes : List ℕ) (left : Option (List ℕ)) → IfSome (option_map (take n) left) (λ xs. bytes ≡ xs) → length bytes < n
    → IfSome left (λ all. bytes ≡ all)
known_whole n bytes None known few = tt
known_whole n bytes (Some all) known few = all_taken n bytes all known few

-- the same, from what reading to the end of the first bytes of a reader gives
pub read_whole : (n limit : ℕ) (old bytes : List ℕ) (left inner : Option (List ℕ)) → old ≡ [] → limit ≡ n → inner ≡ left
    → IfSome (option_map (take limit) inner) (λ xs. bytes ≡ old ++ xs) → length bytes < n → IfSome left (λ all. bytes ≡ all)
read_whole n limit old bytes left inner none most same known few =
    let a : IfSome (option_map (take limit) inner) (λ xs. bytes ≡ xs) = subst (λ o. IfSome (option_map (take limit) inner) (λ xs. bytes ≡ o ++ xs)) none known in
    let b : IfSome (option_map (take n) inner) (λ xs. bytes ≡ xs) = subst (λ m. IfSome (option_map (take m) inner) (λ xs. bytes ≡ xs)) most a in
    known_whole n bytes left (subst (λ i. IfSome (option_map (take n) i) (λ xs. bytes ≡ xs)) same b) few
