-- Each command that begins a message or is not heard is the first of one message.
use Rattle.std.proofs.Common.{◌≡◌, ℕ, ◌+◌, Bool, true, false, not, ◌&&◌, ◌||◌, nat_le, if◌then◌else◌, Option, Some, None, List, [], ◌∷◌, ◌++◌, refl, ap, sym, ◌∙◌, arith, append_assoc, append-nil}
use Rattle.bus_word.specs.declared.word.Bus.{Bus}
use Rattle.bus_word.specs.declared.word.Bus.TheVariants.{A, B}
use Rattle.bus_legal.specs.Description.{Description}
use Rattle.terminal_rules.specs.declared.event.Event.{Event}
use Rattle.terminal_rules.specs.declared.event.Event.TheVariants.{Word, Noise, Gap, Write, Vector, Bit, Flag as FlagIs, Slot}
use Rattle.terminal_rules.specs.Open.{is_on}
use Rattle.terminal_rules.specs.Past.{past, history_after}
use Rattle.terminal_messages.specs.declared.part.MessagePart.TheVariants.{Plain, First, Second, Status, Within, Unheard}
use Rattle.terminal_messages.specs.declared.part.MessagePart.{MessagePart}
use Rattle.terminal_messages.specs.Told.{ToldEvent, is_first_command, is_unheard, begins_on, begins_elsewhere, closes, belongs_on, event_bus}
use Rattle.terminal_messages.specs.Message.{Message, message_on_bus}
use Rattle.terminal_messages.specs.Parts.{tell, told}
use Rattle.terminal_messages.specs.Messages.{listed, in_turn, closed_with, closed_on, alone, alone_on, closed_by, closed, still_open, messages_in}
use Rattle.terminal_messages.specs.Laws.{firsts_weigh, commands_weigh, FirstsLaw, LocalLaw}
use Rattle.terminal_messages.proofs.StepLaw.{after_by, after_told, message_law}

-- the weight of the first event of a message, if there is one
abbrev weight : (ToldEvent → ℕ) → Option Message → ℕ
weight f None = 0
weight f (Some m) = f m.first

weigh-append : (f : ToldEvent → ℕ) (ms ns : List Message) → firsts_weigh f (ms ++ ns) ≡ firsts_weigh f ms + firsts_weigh f ns
weigh-append f [] ns = omega arith
weigh-append f (m ∷ ms) ns = let e : firsts_weigh f (ms ++ ns) ≡ firsts_weigh f ms + firsts_weigh f ns = weigh-append f ms ns in omega arith

weigh-listed : (f : ToldEvent → ℕ) (m : Option Message) → firsts_weigh f (listed m) ≡ weight f m
weigh-listed f None = refl
weigh-listed f (Some m) = omega arith

weigh-in_turn : (f : ToldEvent → ℕ) (m n : Option Message) → firsts_weigh f (in_turn m n) ≡ weight f m + weight f n
weigh-in_turn f None n = let e : firsts_weigh f (listed n) ≡ weight f n = weigh-listed f n in omega arith
weigh-in_turn f (Some m) None = omega arith
weigh-in_turn f (Some m) (Some n) = by_test (nat_le m.first.index n.first.index)
  where
    by_test : (t : Bool) → firsts_weigh f (if t then m ∷ n ∷ [] else n ∷ m ∷ []) ≡ f m.first + f n.first
    by_test true = omega arith
    by_test false = omega arith

-- on a bus an event leaves or closes what there was, and adds what it begins
weight-step : (f : ToldEvent → ℕ) (b : Bus) (t : ToldEvent) (c k n : Bool) (m : Option Message) → (k ≡ true → c ≡ true) →
    weight f (if c then closed_with t m else None) + weight f (after_by b t c k n m) ≡ weight f m + (if k then f t else 0)
weight-step f b t true true n None i = omega arith
weight-step f b t true true n (Some m) i = refl
weight-step f b t true false n None i = refl
weight-step f b t true false n (Some m) i = refl
weight-step f b t false true n m i = let wrong : false ≡ true = i refl in cc
weight-step f b t false false true None i = refl
weight-step f b t false false true (Some m) i = omega arith
weight-step f b t false false false m i = omega arith

pub begins_closes : (b : Bus) (t : ToldEvent) → begins_on b t ≡ true → closes b t ≡ true
begins_closes b t e = ap (λ x. x || (begins_elsewhere b t && not (t.engaged b))) e

-- what an event begins, on either bus or alone
abbrev begun_weight : (ToldEvent → ℕ) → MessagePart → Option Bus → ToldEvent → ℕ
begun_weight f p o t = ((if is_first_command p && is_on A o then f t else 0) + (if is_first_command p && is_on B o then f t else 0)) + firsts_weigh f (if is_unheard p then alone_on o t else [])

begun_on : (f : ToldEvent → ℕ) (p : MessagePart) (c : Bus) (t : ToldEvent) → begun_weight f p (Some c) t ≡ (if is_first_command p || is_unheard p then f t else 0)
begun_on f Plain A t = refl
begun_on f Plain B t = refl
begun_on f First A t = omega arith
begun_on f First B t = omega arith
begun_on f Second A t = refl
begun_on f Second B t = refl
begun_on f Status A t = refl
begun_on f Status B t = refl
begun_on f Within A t = refl
begun_on f Within B t = refl
begun_on f Unheard A t = omega arith
begun_on f Unheard B t = omega arith

begun_by : (P : Description) (h : List Event) (f : ToldEvent → ℕ) (e : Event) → (let t : ToldEvent = told P (past P h) (tell P h) e in
    begun_weight f t.part (event_bus e) t ≡ (if is_first_command t.part || is_unheard t.part then f t else 0))
begun_by P h f (Word c w) = begun_on f (told P (past P h) (tell P h) (Word c w)).part c (told P (past P h) (tell P h) (Word c w))
begun_by P h f (Noise c) = refl
begun_by P h f (Gap c) = refl
begun_by P h f (Write q v) = refl
begun_by P h f (Vector v) = refl
begun_by P h f (Bit v) = refl
begun_by P h f (FlagIs g v) = refl
begun_by P h f Slot = refl

sums : (c ya yb za zb xa xb ka kb u s r : ℕ) → c + (xa + xb) ≡ s → ya + za ≡ xa + ka → yb + zb ≡ xb + kb → (ka + kb) + u ≡ r → (c + ((ya + yb) + u)) + (za + zb) ≡ r + s
sums c ya yb za zb xa xb ka kb u s r e a b k = omega arith

weigh-told : (P : Description) (f : ToldEvent → ℕ) (h : List Event) →
    firsts_weigh f (closed (tell P h)) + (weight f (message_on_bus (tell P h) A) + weight f (message_on_bus (tell P h) B)) ≡ commands_weigh f (tell P h)
weigh-told P f [] = refl
weigh-told P f (e ∷ h) =
    let t : ToldEvent = told P (past P h) (tell P h) e in
    let m : Bus → Option Message = message_on_bus (tell P h) in
    let x : Bus → Option Message = closed_on (tell P h) t in
    (λ j. (weigh-append f (closed (tell P h)) (closed_by (tell P h) t) ∙ ap (λ k. firsts_weigh f (closed (tell P h)) + k) (weigh-append f (in_turn (x A) (x B)) (alone t) ∙ ap (λ k. k + firsts_weigh f (alone t)) (weigh-in_turn f (x A) (x B)))) j
    + (weight f (message_law A t (tell P h) j) + weight f (message_law B t (tell P h) j)))
    ∙ sums (firsts_weigh f (closed (tell P h))) (weight f (x A)) (weight f (x B)) (weight f (after_told A t (m A))) (weight f (after_told B t (m B))) (weight f (m A)) (weight f (m B))
    (if begins_on A t then f t else 0) (if begins_on B t then f t else 0) (firsts_weigh f (alone t)) (commands_weigh f (tell P h)) (if is_first_command t.part || is_unheard t.part then f t else 0)
    (weigh-told P f h)
    (weight-step f A t (closes A t) (begins_on A t) (belongs_on A t) (m A) (begins_closes A t))
    (weight-step f B t (closes B t) (begins_on B t) (belongs_on B t) (m B) (begins_closes B t))
    (begun_by P h f e)

weigh-in : (P : Description) (f : ToldEvent → ℕ) (h : List Event) → firsts_weigh f (messages_in P h) ≡ commands_weigh f (tell P h)
weigh-in P f h =
    weigh-append f (closed (tell P h)) (still_open (tell P h))
    ∙ (ap (λ k. firsts_weigh f (closed (tell P h)) + k) (weigh-in_turn f (message_on_bus (tell P h) A) (message_on_bus (tell P h) B)) ∙ weigh-told P f h)

pub firsts_law : FirstsLaw
firsts_law P es f = weigh-in P f (history_after es [])

-- the messages that are over stay
history-append : (es more h : List Event) → history_after (es ++ more) h ≡ history_after more (history_after es h)
history-append [] more h = refl
history-append (e ∷ es) more h = history-append es more (e ∷ h)

closed-later : (P : Description) (more h : List Event) → (rest : List Message) × (closed (tell P (history_after more h)) ≡ closed (tell P h) ++ rest)
closed-later P [] h = ([], sym (append-nil (closed (tell P h))))
closed-later P (e ∷ more) h =
    let t : ToldEvent = told P (past P h) (tell P h) e in
    let r : (rest : List Message) × (closed (tell P (history_after more (e ∷ h))) ≡ closed (tell P (e ∷ h)) ++ rest) = closed-later P more (e ∷ h) in
    (closed_by (tell P h) t ++ r.0, r.1 ∙ append_assoc (closed (tell P h)) (closed_by (tell P h) t) r.0)

pub local_law : LocalLaw
local_law P es more =
    let h : List Event = history_after es [] in
    let r : (rest : List Message) × (closed (tell P (history_after more h)) ≡ closed (tell P h) ++ rest) = closed-later P more h in (
      r.0 ++ still_open (tell P (history_after more h)),
      ap (λ k. messages_in P k) (history-append es more [])
          ∙ (ap (λ l. l ++ still_open (tell P (history_after more h))) r.1 ∙ append_assoc (closed (tell P h)) r.0 (still_open (tell P (history_after more h)))),
    )
