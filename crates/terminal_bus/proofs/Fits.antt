-- What two terminals on one bus may be at once.
use Rattle.std.proofs.Common.{◌≡◌, ◌≢◌, ℕ, Bool, true, ◌&&◌, inl, inr, List, [], ◌∷◌, sym, ◌∙◌, subst}
use Rattle.bus_word.specs.declared.word.Kind.{Kind}
use Rattle.bus_word.specs.declared.word.Kind.TheVariants.{Com, Dat}
use Rattle.bus_word.specs.declared.word.Raw.{Raw}
use Rattle.bus_word.specs.Word.{is_valid, is_command_sync, is_data_sync, valid_word}
use Rattle.terminal_rules.specs.Out.{Sending}
use Rattle.terminal_bus.proofs.Standing.{Standing, Clear, Ready, Asks, Awaits, CarriesOn, IsFor, ByWord, ByGap, Keeps}

-- one of them is clear, or one asks and the other would be answered
abbrev pub Fits : Standing → Standing → Type 0
Fits Clear t = Unit {0}
Fits Ready Clear = Unit {0}
Fits Ready Ready = ⊥
Fits Ready Asks = Unit {0}
Fits Ready (Awaits b) = ⊥
Fits Asks Clear = Unit {0}
Fits Asks Ready = Unit {0}
Fits Asks Asks = ⊥
Fits Asks (Awaits b) = ⊥
Fits (Awaits a) Clear = Unit {0}
Fits (Awaits a) Ready = ⊥
Fits (Awaits a) Asks = ⊥
Fits (Awaits a) (Awaits b) = ⊥

-- a word that one terminal takes for a command, and another for the status word for which it waits
abbrev pub Clash : ℕ → Raw → Standing → Type 0
Clash own w (Awaits a) = IsFor own w × IsFor a w
Clash own w _ = ⊥

fits_clear : (s : Standing) → Fits s Clear
fits_clear Clear = tt
fits_clear Ready = tt
fits_clear Asks = tt
fits_clear (Awaits a) = tt

not_both : (k : Kind) (v : Bool) → is_command_sync k && v ≡ true → is_data_sync k && v ≡ true → ⊥
not_both Com v c d = cc
not_both Dat v c d = cc

no_ready : (s t : Standing) (w : Raw) → Fits s t → CarriesOn w s → CarriesOn w t → ⊥
no_ready Clear t w f a b = a
no_ready Ready Clear w f a b = b
no_ready Ready Ready w f a b = f
no_ready Ready Asks w f a b = b
no_ready Ready (Awaits c) w f a b = f
no_ready Asks t w f a b = a
no_ready (Awaits c) Clear w f a b = b
no_ready (Awaits c) Ready w f a b = f
no_ready (Awaits c) Asks w f a b = b
no_ready (Awaits c) (Awaits d) w f a b = f

-- one starts, and the other carries on
start_apart : (own : ℕ) (w : Raw) (t : Standing) → (Clash own w t → ⊥) → IsFor own w → CarriesOn w t → ⊥
start_apart own w Clear n a b = b
start_apart own w Ready n a b = not_both w.kind (is_valid w) a.0 b
start_apart own w Asks n a b = b
start_apart own w (Awaits c) n a b = n (a, b)

asks_apart : (s t : Standing) → Fits s t → s ≡ Ready → t ≡ Ready → ⊥
asks_apart s t f p q = subst (λ (t : Standing). Fits Ready t) q (subst (λ (s : Standing). Fits s t) p f)

pub fits_word : (p q : ℕ) (w : Raw) (s t s' t' : Standing) → p ≢ q → (Clash p w t → ⊥) → (Clash q w s → ⊥) → Fits s t → ByWord p w s s' → ByWord q w t t' → Fits s' t'
fits_word p q w s t Clear t' apart m n f a b = tt
fits_word p q w s t Ready Clear apart m n f a b = tt
fits_word p q w s t Ready Ready apart m n f a b = elim a [
  | inl x ↦ elim b [ inl y ↦ apart (sym x.1 ∙ y.1) | inr y ↦ start_apart p w t m x y ]
  | inr x ↦ elim b [ inl y ↦ start_apart q w s n y x | inr y ↦ no_ready s t w f x y ]
]
fits_word p q w s t Ready Asks apart m n f a b = tt
fits_word p q w s t Ready (Awaits c) apart m n f a b = b
fits_word p q w s t Asks Clear apart m n f a b = tt
fits_word p q w s t Asks Ready apart m n f a b = tt
fits_word p q w s t Asks Asks apart m n f a b = asks_apart s t f a.0 b.0
fits_word p q w s t Asks (Awaits c) apart m n f a b = b
fits_word p q w s t (Awaits c) t' apart m n f a b = absurd a

awaits_apart : (s t : Standing) → Fits s t → s ≡ Asks → t ≡ Asks → ⊥
awaits_apart s t f p q = subst (λ (t : Standing). Fits Asks t) q (subst (λ (s : Standing). Fits s t) p f)

pub fits_gap : (s t s' t' : Standing) → Fits s t → ByGap s s' → ByGap t t' → Fits s' t'
fits_gap s t Clear t' f a b = tt
fits_gap s t Ready t' f a b = absurd a
fits_gap s t Asks t' f a b = absurd a
fits_gap s t (Awaits c) Clear f a b = tt
fits_gap s t (Awaits c) Ready f a b = b
fits_gap s t (Awaits c) Asks f a b = b
fits_gap s t (Awaits c) (Awaits d) f a b = awaits_apart s t f a b

pub fits_keeps : (s t s' t' : Standing) → Fits s t → Keeps s s' → Keeps t t' → Fits s' t'
fits_keeps s t s' t' f a b = elim a [
  | inl x ↦ subst (λ (s : Standing). Fits s t') (sym x) tt
  | inr x ↦ elim b [
    | inl y ↦ subst (λ (t : Standing). Fits s' t) (sym y) (fits_clear s')
    | inr y ↦ subst (λ (t : Standing). Fits s' t) (sym y) (subst (λ (s : Standing). Fits s t) (sym x) f)
  ]
]

-- what the words that are sent in one slot may make of it
abbrev pub BySent : ℕ → List Sending → Standing → Standing → Type 0
BySent own [] s t = Keeps s t
BySent own (x ∷ []) s t = ByWord own (valid_word x.kind x.bits) s t
BySent own (x ∷ y ∷ more) s t = Keeps s t

word_then : (own : ℕ) (w : Raw) (s t t' : Standing) → ByWord own w s t → Keeps t t' → ByWord own w s t'
word_then own w s t t' a k = elim k [
  | inl e ↦ subst (λ (t : Standing). ByWord own w s t) (sym e) tt
  | inr e ↦ subst (λ (t : Standing). ByWord own w s t) (sym e) a
]

from_clear : (own : ℕ) (w : Raw) (s t : Standing) → ByWord own w Clear t → ByWord own w s t
from_clear own w s Clear a = tt
from_clear own w s Ready a = elim a [ inl x ↦ inl x | inr x ↦ absurd x ]
from_clear own w s Asks a = let e : Clear ≡ Ready = a.0 in cc
from_clear own w s (Awaits c) a = a

then_word : (own : ℕ) (w : Raw) (s s' t : Standing) → Keeps s s' → ByWord own w s' t → ByWord own w s t
then_word own w s s' t k a = elim k [
  | inl e ↦ from_clear own w s t (subst (λ (s : Standing). ByWord own w s t) e a)
  | inr e ↦ subst (λ (s : Standing). ByWord own w s t) e a
]

keeps_then : (s t u : Standing) → Keeps s t → Keeps t u → Keeps s u
keeps_then s t u j k = elim k [
  | inl e ↦ inl e
  | inr e ↦ elim j [ inl f ↦ inl (e ∙ f) | inr f ↦ inr (e ∙ f) ]
]

pub sent_then : (own : ℕ) (xs : List Sending) (s t u : Standing) → BySent own xs s t → Keeps t u → BySent own xs s u
sent_then own [] s t u a k = keeps_then s t u a k
sent_then own (x ∷ []) s t u a k = word_then own (valid_word x.kind x.bits) s t u a k
sent_then own (x ∷ y ∷ more) s t u a k = keeps_then s t u a k

pub then_sent : (own : ℕ) (xs : List Sending) (s t u : Standing) → Keeps s t → BySent own xs t u → BySent own xs s u
then_sent own [] s t u k a = keeps_then s t u k a
then_sent own (x ∷ []) s t u k a = then_word own (valid_word x.kind x.bits) s t u k a
then_sent own (x ∷ y ∷ more) s t u k a = keeps_then s t u k a

-- no word that is sent alone clashes
abbrev pub NoClash : ℕ → List Sending → Standing → Type 0
NoClash own [] t = Unit {0}
NoClash own (x ∷ []) t = Clash own (valid_word x.kind x.bits) t → ⊥
NoClash own (x ∷ y ∷ more) t = Unit {0}

pub fits_sent : (p q : ℕ) (xs : List Sending) (s t s' t' : Standing) → p ≢ q → NoClash p xs t → NoClash q xs s → Fits s t → BySent p xs s s' → BySent q xs t t' → Fits s' t'
fits_sent p q [] s t s' t' apart m n f a b = fits_keeps s t s' t' f a b
fits_sent p q (x ∷ []) s t s' t' apart m n f a b = fits_word p q (valid_word x.kind x.bits) s t s' t' apart m n f a b
fits_sent p q (x ∷ y ∷ more) s t s' t' apart m n f a b = fits_keeps s t s' t' f a b

pub fits_left : (s t : Standing) → s ≡ Clear → Fits s t
fits_left s t e = subst (λ (s : Standing). Fits s t) (sym e) tt

pub fits_right : (s t : Standing) → t ≡ Clear → Fits s t
fits_right s t e = subst (λ (t : Standing). Fits s t) (sym e) (fits_clear s)
