use Rattle.std.proofs.Common.{◌≡◌, ℕ, ◌-◌, Bool, false, ◌&&◌, cond, nat_lt, get_or, refl, ap, ◌∙◌, rules, arith}
use Rattle.std.proofs.lemmas.Bool.Decides.{nat_tests}
use Rattle.bus_legal.specs.Initial.{initial_word}
use Rattle.bus_legal.specs.Meaning.{description_of}
use Rattle.bus_legal.specs.Tables.{largest_in}
use Rattle.bus_legal.proofs.InitialSteps.{initial_word-table}
use Rattle.bus_legal.proofs.PartsReach.{description_in-made}
use Rattle.bus_word.proofs.Places.{place_low, place_high}
use Rattle.bus_legal.proofs.Words.{AreWords-zeros}
use Rattle.bus_legal.proofs.normal.reached.normalise.Goals as goal

off_word : (t : Bool) (word : ℕ) → t ≡ false → cond t word 0 ≡ 0
off_word t word e = ap (λ b. cond b word 0) e

pub invariant_of-result : goal.invariant_of-result
invariant_of-result c =
    let p = c.args.profile.now in
    let tables = c.heard_tables-tables in
    let masks = tables.result in
    let words = c.keep_sent in
    record {
      address = p.own_address;
      vector = search rules;
      bit = search rules;
      words = words.ensures.blocks (c.put_initial.ensures.blocks AreWords-zeros);
      own_receive = record { thirty = search rules; fit = search rules };
      own_transmit = record { thirty = search rules; fit = search rules };
      broadcast_receive = record { thirty = search rules; fit = search rules };
      own_mode = tables.ensures.own_mode;
      broadcast_mode = tables.ensures.broadcast_mode;
      unheard_receive = tables.ensures.unheard_receive;
      unheard_mode = tables.ensures.unheard_mode;
      unasked_accept = λ e. c.accepts.ensures ∙ ap (λ b. b && p.accept) e;
      unasked_vector = λ e. c.reached_word.ensures ∙ off_word _ p.vector e;
      unasked_bit = λ e. c.reached_word-2.ensures ∙ off_word _ p.bit e;
      wrap = c.reached_wrap.ensures.small;
      unwrapped = c.reached_wrap.ensures.unwrapped;
      unsent = λ s i l k past. words.ensures.words s i l k ∙ off_word (nat_lt i (largest_in (get_or masks.own_transmit s 0))) _ (grind (arith, nat_tests, past));
    }

pub returns : goal.returns
returns c =
    let p = c.args.profile.now in
    let tables = c.heard_tables-tables in
    let masks = tables.result in
    let words = c.keep_sent in
    description_in-made (description_of p) _ (record {
      address = refl;
      broadcast = refl;
      own_receive = record { thirty = search rules; fit = search rules };
      own_transmit = record { thirty = search rules; fit = search rules };
      broadcast_receive = record { thirty = search rules; fit = search rules };
      legal = tables.ensures.legal;
      small = p.own_wrap;
      wrap = c.reached_wrap.ensures.wrap;
      accept = c.accepts.ensures;
      vector = c.reached_word.ensures;
      bit = c.reached_word-2.ensures;
      initial = λ s i place.
          words.ensures.words (s - 1) (i - 1) (place_low s i place) (place_high s i place)
          ∙ ap (λ w. cond (nat_lt (i - 1) (largest_in (get_or masks.own_transmit (s - 1) 0))) w 0)
          (initial_word-table c.as_slice.result.now c.put_initial.new.table c.put_initial.ensures.words s i place ∙ ap (λ entries. initial_word entries s i) c.as_slice.ensures);
    })
