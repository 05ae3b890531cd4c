-- What is told of results that a watch has seen.
use Rattle.std.proofs.Common.{◌≡◌, ◌∙◌, ℕ, suc, ◌+◌, ◌*◌, ◌/◌, ◌%◌, ◌==◌, Bool, true, false, IsTrue, is_some, ◌<◌, ◌≤◌, ◌^◌, ◌⊎◌, inl, inr, ◌↔◌, Option, Some, None, IfSome, List, [], ◌∷◌, ◌++◌, length, map, refl, sym, ap, subst, append_assoc, append-nil, arith}
use Rattle.std.proofs.lemmas.List.{map-append}
use Rattle.std.proofs.lemmas.Bool.Decides.{nat_tests}
use Rattle.bus_legal.specs.Description.{Description}
use Rattle.bus_legal.specs.Reach.{reach}
use Rattle.terminal_rules.specs.declared.event.Event.{Event}
use Rattle.terminal_rules.specs.Out.{Sending}
use Rattle.terminal_exchanges.specs.Exchanges.{Exchange}
use Rattle.bus_complete_test.specs.CompleteTest.{tried}
use Rattle.terminal_recordings.specs.Recordings.{Sighting, IsExplained}
use Rattle.terminal_recordings.proofs.Tests.{is_sighting}
use Rattle.recorded_terminal.specs.declared.watch.Marked.{Marked}
use Rattle.recorded_terminal.specs.declared.watch.Unexplained.{Unexplained}
use Rattle.recorded_terminal.specs.SentWords.{word_shown}
use Rattle.recorded_terminal.specs.Sightings.{shown_sighting}
use Rattle.recorded_terminal.specs.Marks.{plainly}
use Rattle.rt1553_results.specs.declared.explaining.UnexplainedReply.{UnexplainedReply}
use Rattle.rt1553_results.specs.declared.explaining.ResultsExplained.{ResultsExplained}
use Rattle.rt1553_results.specs.Recorded.{replied, exchange_seen, recorded_replies, seen_slot}
use Rattle.rt1553_acceptance.specs.Label.{label_of}
use Rattle.rt1553_results.specs.Rows.{rows_from, after_exchange}
use Rattle.rt1553_verify.specs.declared.replies.NumberRange.{NumberRange}
use Rattle.rt1553_results.specs.Compare.{missing_at, missing, numbers_in}
use Rattle.rt1553_results.proofs.CompareLaws.{none_missing, no_missing}
use Rattle.rt1553_results.specs.ExplainedResults.{IsFirstUnexplainedReply, ExplainsResults, TellsMissing}
use Rattle.rt1553_results.specs.inner.Placed.{PlacedSighting, placed_in, placed_from}
use Rattle.rt1553_results.specs.inner.Told.{TellsUnexplainedReply, TellsPlace}
use Rattle.rt1553_results.proofs.PlacedLaws.{seen_of, seen_marked, seen_from, IsQuiet, InReply, in_replies, explained_quiet, explained_reached, exchange_more}
use Rattle.rt1553_results.proofs.RepliedLaws.{replied_at}
use Rattle.rt1553_results.proofs.WholeLaws.{IsFirstWhole}

-- what a watch has seen is the recording of the results
seen_all : (ms : List Marked) (D : Description) (came : ℕ → Option (List ℕ)) → map placed_in ms ≡ placed_from 1 (replied D came) → plainly ms ≡ recorded_replies (replied D came)
seen_all ms D came all = seen_marked ms ∙ ap seen_of all ∙ seen_from 1 (replied D came)

-- what is told is the first reply that nothing explains
pub first_told : (D P : Description) (came : ℕ → Option (List ℕ)) (ms : List Marked) (it : Unexplained) (told : UnexplainedReply) → D.address ≤ 30 → D ≡ reach P → length (tried D) < 2 ^ 32
    → map placed_in ms ≡ placed_from 1 (replied D came) → IsFirstWhole D ms it → TellsPlace D came it told → IsFirstUnexplainedReply P (replied D came) told
first_told D P came ms it told small reached few all i tells =
    by_place (in_replies 1 (replied D came) (map placed_in i.before) (placed_in it.marked) (map placed_in i.later)
    (sym all ∙ ap (map placed_in) i.all ∙ map-append placed_in i.before (it.marked ∷ i.later)))
  where
    s : Sighting
    s = shown_sighting it.marked.sighting

    both : (xs : List Sighting) → IsExplained D xs ↔ IsExplained P xs
    both xs = explained_reached D P small reached xs

    by_place : IsQuiet (placed_in it.marked) ⊎ InReply 1 (replied D came) (map placed_in i.before) (placed_in it.marked) → IsFirstUnexplainedReply P (replied D came) told
    by_place (inl (silent, quiet)) =
        absurd (i.unexplained (explained_quiet D (plainly i.before) s (is_sighting s it.marked.sighting.seen it.marked.sighting.bits) silent quiet i.explained))
    by_place (inr f) = (
        let front : plainly i.before ≡ recorded_replies f.before ++ exchange_seen f.replied.exchange f.sent = seen_marked i.before ∙ f.front_is in
        let more : (o : Option Sending) → recorded_replies f.before ++ exchange_seen f.replied.exchange (f.sent ++ o ∷ []) ≡ plainly i.before ++ seen_slot o ∷ [] =
        (λ o. ap (λ xs. recorded_replies f.before ++ xs) (exchange_more f.replied.exchange f.sent o)
        ∙ sym (append_assoc (recorded_replies f.before) (exchange_seen f.replied.exchange f.sent) (seen_slot o ∷ []))
        ∙ ap (λ xs. xs ++ seen_slot o ∷ []) (sym front)) in
        let here : s ≡ seen_slot f.seen = ap (λ (p : PlacedSighting). p.sighting) f.is in
        let at = replied_at came 1 (tried D) f.before f.replied f.later f.all in
        let low : 1 + length f.before < 2 ^ 32 = omega (arith, at.1, few) in
        let place = tells.place (1 + length f.before) (length f.sent) (ap (λ (p : PlacedSighting). p.line) f.is) low in
        let number : 1 + length f.before ≡ suc (length f.before) = omega arith in
        record {
          before = f.before;
          replied = f.replied;
          later = f.later;
          all = f.all;
          number = place.0 ∙ number;
          command = tells.command f.replied.exchange.command (ap (λ (p : PlacedSighting). p.command) f.is);
          came = tells.reply f.replied.reply (ap came place.0 ∙ at.0);
          sent = f.sent;
          seen = f.seen;
          left = f.left;
          slots = f.slots;
          slot = place.1;
          explained = (both (recorded_replies f.before ++ exchange_seen f.replied.exchange f.sent)).0 (subst (IsExplained D) front i.explained);
          unexplained = λ x. i.unexplained
              (subst (IsExplained D) (more f.seen ∙ ap (λ x. plainly i.before ++ x ∷ []) (sym here))
              ((both (recorded_replies f.before ++ exchange_seen f.replied.exchange (f.sent ++ f.seen ∷ []))).1 x));
          possible = subst (λ o. IsExplained P (recorded_replies f.before ++ exchange_seen f.replied.exchange (f.sent ++ o ∷ []))) (ap word_shown (sym tells.possible))
              ((both (recorded_replies f.before ++ exchange_seen f.replied.exchange (f.sent ++ word_shown it.sent ∷ []))).0
              (subst (IsExplained D) (ap (λ (x : Sighting). plainly i.before ++ record { event = x.event; sent = word_shown it.sent } ∷ []) here ∙ sym (more (word_shown it.sent))) i.possible));
        })

none_first : (D : Description) (came : ℕ → Option (List ℕ)) (first : Option Unexplained) (told : Option UnexplainedReply) → TellsUnexplainedReply D came first told → told ≡ None → first ≡ None
none_first D came None None tells e = refl
none_first D came None (Some it) tells e = absurd tells
none_first D came (Some first) None tells e = absurd tells
none_first D came (Some first) (Some it) tells e = absurd (cc)

none_told : (D : Description) (came : ℕ → Option (List ℕ)) (first : Option Unexplained) (told : Option UnexplainedReply) → TellsUnexplainedReply D came first told → first ≡ None → told ≡ None
none_told D came None None tells e = refl
none_told D came None (Some it) tells e = absurd tells
none_told D came (Some first) None tells e = absurd tells
none_told D came (Some first) (Some it) tells e = absurd (cc)

some_told : (D P : Description) (came : ℕ → Option (List ℕ)) (ms : List Marked) (first : Option Unexplained) (told : Option UnexplainedReply) → D.address ≤ 30 → D ≡ reach P → length (tried D) < 2 ^ 32
    → map placed_in ms ≡ placed_from 1 (replied D came) → IfSome first (IsFirstWhole D ms) → TellsUnexplainedReply D came first told → IfSome told (IsFirstUnexplainedReply P (replied D came))
some_told D P came ms first None small reached few all i tells = tt
some_told D P came ms None (Some it) small reached few all i tells = absurd tells
some_told D P came ms (Some first) (Some it) small reached few all i tells = first_told D P came ms first it small reached few all i tells

-- what comes of a watch that has seen results
pub explains : (D P : Description) (came : ℕ → Option (List ℕ)) (ms : List Marked) (first : Option Unexplained) (it : ResultsExplained) → D.address ≤ 30 → D ≡ reach P → length (tried D) < 2 ^ 32
    → map placed_in ms ≡ placed_from 1 (replied D came) → (first ≡ None) ↔ IsExplained D (plainly ms) → IfSome first (IsFirstWhole D ms) → TellsUnexplainedReply D came first it.first
    → ExplainsResults D P came it
explains D P came ms first it small reached few all decided i tells =
    let reach_of = explained_reached D P small reached (recorded_replies (replied D came)) in
    record {
      explained = (
        λ e. reach_of.0 (subst (IsExplained D) (seen_all ms D came all) (decided.0 (none_first D came first it.first tells e))),
        λ x. none_told D came first it.first tells (decided.1 (subst (IsExplained D) (sym (seen_all ms D came all)) (reach_of.1 x))),
      );
      first = some_told D P came ms first it.first small reached few all i tells;
    }

label_told : (D : Description) (came : ℕ → Option (List ℕ)) (first : Option Unexplained) (told : Option UnexplainedReply) → TellsUnexplainedReply D came first told
    → IfSome told (λ reply. reply.label.bytes ≡ label_of D reply.command)
label_told D came first None tells = tt
label_told D came None (Some it) tells = absurd tells
label_told D came (Some first) (Some it) tells = tells.label

pub tells_missing : (D : Description) (came : ℕ → Option (List ℕ)) (first : Option Unexplained) (it : ResultsExplained) → it.total ≡ length (tried D) → numbers_in it.missing.items ≡ missing came 1 (tried D)
    → ((n : ℕ) → it.total < n → came n ≡ None) → TellsUnexplainedReply D came first it.first → TellsMissing D came it
tells_missing D came first it total miss within tells = record {
  total = total;
  miss = miss;
  within = λ n beyond. within n (subst (λ t. t < n) (sym total) beyond);
  label = label_told D came first it.first tells;
}

-- ---- exchanges without a result

-- there are as many rows as exchanges
pub rows_long : (P : Description) (h : List Event) (xs : List Exchange) → length (rows_from P h xs) ≡ length xs
unfolding rows_from
rows_long P h [] = refl
rows_long P h (x ∷ xs) = ap suc (rows_long P (after_exchange x h) xs)

-- the exchanges that were counted, and those that are left
pub record CountedSoFar (D : Description) (came : ℕ → Option (List ℕ)) (given : ℕ) (left : List Exchange) (ranges : List NumberRange) : Type 0 where
  pub total : given + length left ≡ length (tried D)
  pub miss : numbers_in ranges ++ missing came (given + 1) left ≡ missing came 1 (tried D)

pub counted_none : (D : Description) (came : ℕ → Option (List ℕ)) (given : ℕ) (left : List Exchange) (ranges : List NumberRange) → given ≡ 0 → left ≡ tried D → ranges ≡ [] → CountedSoFar D came given left ranges
counted_none D came given left ranges none all empty = record {
  total = (λ j. none j + length (all j)) ∙ zero-plus (length (tried D));
  miss = λ j. numbers_in (empty j) ++ missing came (none j + 1) (all j);
}
  where
    zero-plus : (n : ℕ) → 0 + n ≡ n
    zero-plus n = omega arith

pub counted_more : (D : Description) (came : ℕ → Option (List ℕ)) (given given' : ℕ) (x : Exchange) (left left' : List Exchange) (ranges ranges' : List NumberRange) → left ≡ x ∷ left' → given' ≡ given + 1
    → numbers_in ranges' ≡ numbers_in ranges ++ missing_at given' (came given') → CountedSoFar D came given left ranges → CountedSoFar D came given' left' ranges'
unfolding missing
counted_more D came given given' x left left' ranges ranges' split next more c = record {
  total =
      (let long : length left ≡ suc (length left') = ap length split in
      let before : given + length left ≡ length (tried D) = c.total in
      omega (arith, long, before, next));
  miss =
      ap (λ ns. ns ++ missing came (given' + 1) left') more
      ∙ append_assoc (numbers_in ranges) (missing_at given' (came given')) (missing came (given' + 1) left')
      ∙ ap (λ n. numbers_in ranges ++ missing came n (x ∷ left')) next
      ∙ ap (λ xs. numbers_in ranges ++ missing came (given + 1) xs) (sym split)
      ∙ c.miss;
}

pub counted_all : (D : Description) (came : ℕ → Option (List ℕ)) (given : ℕ) (left : List Exchange) (ranges : List NumberRange) → left ≡ [] → CountedSoFar D came given left ranges
    → (given ≡ length (tried D)) × (numbers_in ranges ≡ missing came 1 (tried D))
unfolding missing
counted_all D came given left ranges over c = (
  (let none : length left ≡ 0 = ap length over in
      let before : given + length left ≡ length (tried D) = c.total in
      omega (arith, none, before)),
  sym (append-nil (numbers_in ranges)) ∙ (ap (λ xs. numbers_in ranges ++ missing came (given + 1) xs) (sym over) ∙ c.miss),
)

-- whether results pass
pub explained_passes : (first : Option UnexplainedReply) (b : Bool) (ranges : List NumberRange) → is_some first ≡ false → b ≡ (length ranges == 0)
    → (IsTrue b → (first ≡ None) × (numbers_in ranges ≡ [])) × ((first ≡ None) × (numbers_in ranges ≡ []) → IsTrue b)
explained_passes None b ranges none is = (
  λ yes. (refl, no_missing ranges (let zero : (length ranges == 0) ≡ true = sym is ∙ yes in grind (arith, nat_tests))),
  λ both. is ∙ ap (λ n. n == 0) (none_missing ranges both.1),
)
explained_passes (Some reply) b ranges none is = absurd (cc)

-- the place that a line stands for
pub place_of_line : (line n slot : ℕ) → line ≡ slot * 4294967296 + n → n < 2 ^ 32 → (line % 4294967296 ≡ n) × (line / 4294967296 ≡ slot)
place_of_line line n slot is low = (omega (arith, is, low), omega (arith, is, low))
