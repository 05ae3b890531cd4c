-- Events that are put together to exchanges.
use Rattle.std.proofs.Common.{◌≡◌, ℕ, zero, suc, ◌+◌, List, [], ◌∷◌, ◌++◌, replicate, refl, sym, ap, ◌∙◌, arith, append_assoc}
use Rattle.bus_word.specs.declared.word.Bus.TheVariants.{A}
use Rattle.terminal_rules.specs.declared.event.Event.{Event}
use Rattle.terminal_rules.specs.declared.event.Event.TheVariants.{Gap, Slot}
use Rattle.terminal_exchanges.specs.Exchanges.{Exchange, command_event, data_event, words_then, slots_then, exchange_then}

-- words before events
pub words-append : (words : List ℕ) (xs es : List Event) → words_then words xs ++ es ≡ words_then words (xs ++ es)
words-append [] xs es = refl
words-append (d ∷ words) xs es = ap (λ rest. data_event d ∷ rest) (words-append words xs es)

-- slots before events
pub slots-append : (n : ℕ) (xs es : List Event) → slots_then n xs ++ es ≡ slots_then n (xs ++ es)
slots-append zero xs es = refl
slots-append (suc n) xs es = ap (λ rest. Slot ∷ rest) (slots-append n xs es)

slots-next : (n : ℕ) → slots_then n [] ++ Slot ∷ [] ≡ slots_then (suc n) []
slots-next zero = refl
slots-next (suc n) = ap (λ rest. Slot ∷ rest) (slots-next n)

-- one slot more
pub slots-more : (events : List Event) (k next : ℕ) → next ≡ k + 1 → (events ++ slots_then k []) ++ Slot ∷ [] ≡ events ++ slots_then next []
slots-more events k next is =
    let one : next ≡ suc k = omega arith in
    append_assoc events (slots_then k []) (Slot ∷ []) ∙ ap (λ rest. events ++ rest) (slots-next k ∙ ap (λ n. slots_then n []) (sym one))

-- an exchange before events
pub exchange-append : (x : Exchange) (es : List Event) → exchange_then x [] ++ es ≡ exchange_then x es
exchange-append x es = ap (λ rest. command_event x.command ∷ rest) (words-append x.words (Gap A ∷ slots_then x.slots []) es ∙ ap (λ rest. words_then x.words (Gap A ∷ rest)) (slots-append x.slots [] es))

zeros-more : (n : ℕ) → words_then (replicate n 0) [] ++ data_event 0 ∷ [] ≡ words_then (replicate (suc n) 0) []
zeros-more zero = refl
zeros-more (suc n) = ap (λ rest. data_event 0 ∷ rest) (zeros-more n)

-- one more word of 0
pub words-more : (events : List Event) (first k next : ℕ) → next ≡ k + 1 →
    (events ++ words_then (first ∷ replicate k 0) []) ++ data_event 0 ∷ [] ≡ events ++ words_then (first ∷ replicate next 0) []
words-more events first k next is =
    let one : next ≡ suc k = omega arith in
    append_assoc events (words_then (first ∷ replicate k 0) []) (data_event 0 ∷ [])
    ∙ ap (λ rest. events ++ data_event first ∷ rest) (zeros-more k ∙ ap (λ n. words_then (replicate n 0) []) (sym one))

-- the parts of an exchange, one after the other
pub exchange-parts : (old : List Event) (x : Exchange) (a b c d : List Event) → a ≡ old ++ command_event x.command ∷ [] → b ≡ a ++ words_then x.words [] → c ≡ b ++ Gap A ∷ [] → d ≡ c ++ slots_then x.slots [] → d ≡ old ++ exchange_then x []
exchange-parts old x a b c d ea eb ec ed =
    let words : List Event = words_then x.words [] in
    let slots : List Event = slots_then x.slots [] in
    ed
    ∙ (ap (λ es. es ++ slots) (ec ∙ ap (λ es. es ++ Gap A ∷ []) (eb ∙ ap (λ es. es ++ words) ea))
    ∙ (append_assoc ((old ++ command_event x.command ∷ []) ++ words) (Gap A ∷ []) slots
    ∙ (append_assoc (old ++ command_event x.command ∷ []) words (Gap A ∷ slots)
    ∙ (append_assoc old (command_event x.command ∷ []) (words ++ Gap A ∷ slots)
    ∙ ap (λ es. old ++ command_event x.command ∷ es) (words-append x.words [] (Gap A ∷ slots))))))
