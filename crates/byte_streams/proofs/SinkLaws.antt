-- Known bytes, over calls that are tried again and bytes that are buffered.
use Rattle.std.proofs.Common.{ℕ, ◌≡◌, ◌+◌, ◌-◌, List, [], ◌++◌, length, take, drop, Option, Result, Ok, Err, sym, ap, ◌∙◌, arith, subst, append-nil, take-append-drop}
use Rattle.std.proofs.lemmas.Grind.{common_steps}
use Rattle.std.proofs.Math.Seq.{take-add}
use Rattle.std.proofs.KnownBytes.{Appends-trans, Keeps-trans, append_known-kept, append_known-moved, append_known-passed}
use Rattle.std.specs.Io.KnownBytes.{Keeps, Appends, WriteAppends, append_known}

-- the value of `&bytes[at..]`
pub from_there : (at : ℕ) (bytes : List ℕ) → take (length bytes - at) (drop at bytes) ≡ drop at bytes
from_there at bytes = grind (arith, common_steps)

-- more of the bytes was taken
pub Appends-more : (a b c : Option (List ℕ)) (bytes : List ℕ) (at n : ℕ) → Appends a b (take at bytes) → Appends b c (take n (take (length bytes - at) (drop at bytes)))
    → Appends a c (take (at + n) bytes)
Appends-more a b c bytes at n p q =
    subst (Appends a c) (ap (λ xs. take at bytes ++ take n xs) (from_there at bytes) ∙ sym (take-add at n bytes))
    (Appends-trans a b c (take at bytes) (take n (take (length bytes - at) (drop at bytes))) p q)

-- the writer took n of the buffered bytes that it had not taken
pub buffered-taken : (a b : Option (List ℕ)) (slice buffered : List ℕ) (taken n : ℕ) → slice ≡ buffered → Appends a b (take n (take (length slice - taken) (drop taken slice)))
    → Keeps (append_known a (drop taken buffered)) (append_known b (drop (taken + n) buffered))
buffered-taken a b slice buffered taken n same p =
    let front : take n (take (length slice - taken) (drop taken slice)) ≡ take n (drop taken buffered) =
    ap (take n) (from_there taken slice ∙ ap (drop taken) same) in
    let rest : drop n (drop taken buffered) ≡ drop (taken + n) buffered = grind (arith, common_steps) in
    append_known-moved a b (take n (drop taken buffered)) (drop (taken + n) buffered) (drop taken buffered) (subst (Appends a b) front p)
    (sym (take-append-drop n (drop taken buffered)) ∙ ap (λ xs. take n (drop taken buffered) ++ xs) rest)

-- nothing was buffered, and the writer took what was written
pub buffered-passed : {E : Type 0} (a b c : Option (List ℕ)) (buffered bytes : List ℕ) (r : Result ℕ E) → Keeps a (append_known b buffered) → buffered ≡ [] → WriteAppends b c r bytes
    → WriteAppends a (append_known c buffered) r bytes
buffered-passed a b c buffered bytes (Ok n) p none q =
    subst (Appends a (append_known c buffered)) (append-nil (take n bytes)) (append_known-passed a b c buffered buffered (take n bytes) [] p none q (sym (append-nil buffered)))
buffered-passed a b c buffered bytes (Err e) p none q = Keeps-trans a (append_known b buffered) (append_known c buffered) p (append_known-kept b c buffered q)

pub drop-none : (n : ℕ) (xs : List ℕ) → xs ≡ [] → drop n xs ≡ []
drop-none n xs none = grind (arith, common_steps)
