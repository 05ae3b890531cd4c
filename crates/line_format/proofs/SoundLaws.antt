-- Laws of formats that are put together: each line may hold something, and a value has one text.
use Rattle.std.proofs.Common.{◌≡◌, ℕ, zero, suc, ◌^◌, ◌<◌, List, [], ◌∷◌, ◌++◌, Bool, true, refl, replicate, lit<, arith}
use Rattle.std.proofs.lemmas.Bool.Decides.{nat_tests}
use Rattle.line_format.specs.Format.{Field, Fit, Format, done, line, and_then, spell, Spells, IsSound, is_plain}
use Rattle.line_format.specs.Shapes.{number_line, bit_line, numbered_line, words_line, word}

pub sound_then : {A B : Type 0} (F : Format A) (g : A → Format B) → IsSound F → ((a : A) → IsSound (g a)) → IsSound (and_then F g)
unfolding and_then
sound_then (done a) g f h = h a
sound_then (line s next) g (plain, xs, allows, later) h = (plain, xs, allows, λ ys a. sound_then (next ys) g (later ys a) h)

-- the same, where what the first may mean decides
pub sound_after : {A B : Type 0} (F : Format A) (g : A → Format B) → IsSound F → ((a : A) (x : List ℕ) → Spells F a x → IsSound (g a)) → IsSound (and_then F g)
unfolding and_then
sound_after (done a) g f h = h a [] (refl, refl)
sound_after (line s next) g (plain, xs, allows, later) h =
    (plain, xs, allows, λ ys allowed. sound_after (next ys) g (later ys allowed) (λ a x t. h a (spell s ys ++ x) (ys, x, allowed, refl, t)))

-- a number that the line may hold shows that it may hold one
pub sound_number : (name : List ℕ) (f : Field) (allowed : ℕ → Bool) (n : ℕ) → is_plain name ≡ true → n < f.base ^ f.width → allowed n ≡ true → IsSound (number_line name f allowed)
unfolding number_line
sound_number name f allowed n e l ok = (e, n ∷ [], record { fit = (l, tt); allowed = ok }, λ ys a. tt)

pub sound_bit : (name : List ℕ) → is_plain name ≡ true → IsSound (bit_line name)
unfolding bit_line
sound_bit name e = (e, 0 ∷ [], record { fit = (lit< tt, tt); allowed = refl }, λ ys a. tt)

pub sound_numbered : (name : List ℕ) (s : ℕ) → s < 100 → is_plain name ≡ true → IsSound (numbered_line name s)
unfolding numbered_line
sound_numbered name s l e = (e, s ∷ 0 ∷ [], record { fit = (l, (lit< tt, tt)); allowed = grind (arith, nat_tests) }, λ ys a. tt)

zeros_fit : (count : ℕ) → Fit (replicate count word) (replicate count 0)
zeros_fit zero = tt
zeros_fit (suc count) = (lit< tt, zeros_fit count)

pub sound_words : (name : List ℕ) (s count : ℕ) → s < 100 → is_plain name ≡ true → IsSound (words_line name s count)
unfolding words_line
sound_words name s count l e = (e, s ∷ replicate count 0, record { fit = (l, zeros_fit count); allowed = grind (arith, nat_tests) }, λ ys a. tt)
