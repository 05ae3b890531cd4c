-- Lines are played one after the other.
use Rattle.std.proofs.Common.{◌≡◌, ◌∙◌, ◌+◌, ◌==◌, ◌||◌, ℕ, Bool, Option, Some, None, Result, Ok, Err, List, [], ◌∷◌, ◌++◌, length, arith, map, true, false, is_some, refl, ap, sym, subst, append_assoc, append-nil}
use Rattle.std.proofs.lemmas.Bool.Decides.{nat_tests}
use Rattle.std.proofs.lemmas.List.{map-append}
use Rattle.std.proofs.lemmas.Option.{none-some}
use Rattle.bus_word.specs.declared.cell.Cell.{Cell}
use Rattle.terminal_rules.specs.LookBack.{some}
use Rattle.terminal_bus.specs.declared.event.BusEvent.{BusEvent}
use Rattle.terminal_bus.specs.declared.bus.TerminalBus.{TerminalBus}
use Rattle.terminal_bus.specs.Members.{Member, events_for, after_events, bus_after, play}
use Rattle.terminal_bus.specs.AtMembers.{BusStandsAt}
use Rattle.script_lines.specs.Text.{lines_of}
use Rattle.script_terminals.specs.declared.playing.BusTold.{BusTold}
use Rattle.script_terminals.specs.declared.playing.BusWarning.{BusWarning}
use Rattle.script_terminals.specs.declared.playing.BusScriptFault.{BusScriptFault}
use Rattle.script_terminals.specs.declared.playing.PlayedOnBus.{PlayedOnBus}
use Rattle.script_terminals.specs.BusTexts.{texts_told}
use Rattle.script_terminals.specs.BusReading.{is_on_bus, said_in, Said, BusReading, adds_said, then_says, bus_reading, said_events, breach_of, warned, warnings}
use Rattle.script_terminals.specs.Playing.{text_told, reading_of, PlaysScript}
use Rattle.script_terminals.specs.inner.Taken.{written_so_far, PlaysBusLine}

-- ---- one more happens

play_more : (members : List Member) (xs : List BusEvent) (x : BusEvent) → play members (xs ++ x ∷ []) ≡ bus_after (play members xs) x
play_more members [] x = refl
play_more members (y ∷ ys) x = play_more (bus_after members y) ys x

texts_more : (f : List Member → BusEvent → List ℕ) (members : List Member) (xs : List BusEvent) (x : BusEvent) → texts_told f members (xs ++ x ∷ []) ≡ texts_told f members xs ++ f (play members xs) x
unfolding texts_told
texts_more f members [] x = append-nil (f members x)
texts_more f members (y ∷ ys) x = ap (λ t. f members y ++ t) (texts_more f (bus_after members y) ys x) ∙ sym (append_assoc (f members y) (texts_told f (bus_after members y) ys) (f (play (bus_after members y) ys) x))

warnings_more : (members : List Member) (said : List Said) (s : Said) →
    warnings members (said ++ s ∷ []) ≡ warnings members said ++ warned s.line (breach_of (play members (said_events said)) s.event)
unfolding warnings
warnings_more members [] s = append-nil (warned s.line (breach_of members s.event))
warnings_more members (t ∷ said) s =
    ap (λ ws. warned t.line (breach_of members t.event) ++ ws) (warnings_more (bus_after members t.event) said s)
    ∙ sym (append_assoc (warned t.line (breach_of members t.event)) (warnings (bus_after members t.event) said) (warned s.line (breach_of (play (bus_after members t.event) (said_events said)) s.event)))

events_more : (said : List Said) (s : Said) → said_events (said ++ s ∷ []) ≡ said_events said ++ s.event ∷ []
events_more said s = map-append (λ (t : Said). t.event) said (s ∷ [])

-- ---- terminals keep their addresses

there_after : (f : Member → Member) → ((m : Member) → (f m).description ≡ m.description) → (members : List Member) (a : ℕ) → is_on_bus (map f members) a ≡ is_on_bus members a
there_after f same [] a = refl
there_after f same (m ∷ members) a = λ j. ((same m j).address == a) || there_after f same members a j

there_played : (members : List Member) (xs : List BusEvent) (a : ℕ) → is_on_bus (play members xs) a ≡ is_on_bus members a
there_played members [] a = refl
there_played members (x ∷ xs) a = there_played (bus_after members x) xs a ∙ there_after (λ m. after_events (events_for members x m) m) (λ m. refl) members a

pub none_left : (n : ℕ) (b : Bool) → b ≡ (n == 0) → b ≡ true → n ≡ 0
none_left n b is some = grind (arith, nat_tests, is, some)

pub not_some : {X : Type 0} (o : Option X) → is_some o ≡ false → o ≡ None
not_some None e = refl
not_some (Some x) e = cc e

pub some_of : {X : Type 0} (o : Option X) → is_some o ≡ true → (x : X) × (o ≡ Some x)
some_of None e = cc e
some_of (Some x) e = (x, refl)

-- ---- the loop

module _ {L : Type 0} (is_legal : L → Cell → Bool) (told : BusTold) (members : List Member) where
  -- this was said and played, and the lines from number n on are left
  pub record Playing (all : BusReading) (n : ℕ) (lines : List (List ℕ)) (text : List ℕ) (ws : List BusWarning) (bus : TerminalBus L) : Type 0 where
    pub said : List Said
    pub reads : all ≡ adds_said said (bus_reading (is_on_bus members) n lines)
    pub text_is : text ≡ texts_told (text_told told) members (said_events said)
    pub warns : ws ≡ warnings members said
    pub stands : BusStandsAt is_legal (play members (said_events said)) bus

  pub Playing_start : (lines : List (List ℕ)) (text : List ℕ) (ws : List BusWarning) (bus : TerminalBus L) → text ≡ [] → ws ≡ [] → BusStandsAt is_legal members bus →
      Playing (bus_reading (is_on_bus members) 1 lines) 1 lines text ws bus
  unfolding texts_told warnings
  Playing_start lines text ws bus t w stands = record { said = []; reads = refl; text_is = t; warns = w; stands = stands }

  -- what the next line says, wherever the bus stands by then
  line_there : (n : ℕ) (line : List ℕ) (xs : List BusEvent) → said_in (is_on_bus (play members xs)) n line ≡ said_in (is_on_bus members) n line
  line_there n line xs = λ j. said_in (λ a. there_played members xs a j) n line

  first_reads : (n : ℕ) (line : List ℕ) (lines : List (List ℕ)) → bus_reading (is_on_bus members) n (line ∷ lines) ≡ then_says n (said_in (is_on_bus members) n line) (bus_reading (is_on_bus members) (n + 1) lines)
  unfolding bus_reading
  first_reads n line lines = refl

  more_said : (said : List Said) (s : Said) (r : BusReading) → adds_said said (adds_said (s ∷ []) r) ≡ adds_said (said ++ s ∷ []) r
  more_said said s r = λ j. (let both : BusReading = record { said = sym (append_assoc said (s ∷ []) r.said) j; fault = r.fault } in both)

  took : (all : BusReading) (n : ℕ) (lines more : List (List ℕ)) (old new : List ℕ) (ows nws : List BusWarning) (a b : TerminalBus L) (s : Result (Option BusEvent) BusScriptFault) (fault : Option BusScriptFault) →
      fault ≡ None → (p : Playing all n lines old ows a) → bus_reading (is_on_bus members) n lines ≡ then_says n s (bus_reading (is_on_bus members) (n + 1) more) →
      PlaysBusLine is_legal told (play members (said_events p.said)) n s fault (written_so_far old ows) (written_so_far new nws) b → Playing all (n + 1) more new nws b
  took all n lines more old new ows nws a b (Ok (Some x)) fault none p next t =
      let one : Said = record { line = n; event = x } in
      record {
        said = p.said ++ one ∷ [];
        reads = p.reads ∙ (ap (λ r. adds_said p.said r) next ∙ more_said p.said one (bus_reading (is_on_bus members) (n + 1) more));
        text_is = t.1.text ∙ (ap (λ u. u ++ text_told told (play members (said_events p.said)) x) p.text_is
            ∙ (sym (texts_more (text_told told) members (said_events p.said) x) ∙ ap (λ xs. texts_told (text_told told) members xs) (sym (events_more p.said one))));
        warns = t.1.warnings ∙ (ap (λ ws. ws ++ warned n (breach_of (play members (said_events p.said)) x)) p.warns ∙ sym (warnings_more members p.said one));
        stands = subst (λ ms. BusStandsAt is_legal ms b) (sym (ap (λ xs. play members xs) (events_more p.said one) ∙ play_more members (said_events p.said) x)) t.1.stands;
      }
  took all n lines more old new ows nws a b (Ok None) fault none p next t = record {
    said = p.said;
    reads = p.reads ∙ ap (λ r. adds_said p.said r) next;
    text_is = t.1.text ∙ p.text_is;
    warns = t.1.warnings ∙ p.warns;
    stands = t.1.stands;
  }
  took all n lines more old new ows nws a b (Err f) fault none p next t = absurd (none-some f (sym none ∙ t.0))

  next_line : (n : ℕ) (rest line more : List ℕ) → lines_of rest ≡ line ∷ lines_of more →
      bus_reading (is_on_bus members) n (lines_of rest) ≡ then_says n (said_in (is_on_bus members) n line) (bus_reading (is_on_bus members) (n + 1) (lines_of more))
  next_line n rest line more first = ap (λ ls. bus_reading (is_on_bus members) n ls) first ∙ first_reads n line (lines_of more)

  abbrev pub TakesFrom : List Said → ℕ → List ℕ → Option BusScriptFault → List ℕ → List ℕ → List BusWarning → List BusWarning → TerminalBus L → Type 0
  TakesFrom said n line fault old new ows nws b =
      PlaysBusLine is_legal told (play members (said_events said)) n (said_in (is_on_bus (play members (said_events said))) n line) fault (written_so_far old ows) (written_so_far new nws) b

  here_says : (said : List Said) (n : ℕ) (line : List ℕ) (fault : Option BusScriptFault) (old new : List ℕ) (ows nws : List BusWarning) (b : TerminalBus L) → TakesFrom said n line fault old new ows nws b →
      PlaysBusLine is_legal told (play members (said_events said)) n (said_in (is_on_bus members) n line) fault (written_so_far old ows) (written_so_far new nws) b
  here_says said n line fault old new ows nws b t =
      subst (λ s. PlaysBusLine is_legal told (play members (said_events said)) n s fault (written_so_far old ows) (written_so_far new nws) b) (line_there n line (said_events said)) t

  pub Playing_on : (all : BusReading) (n : ℕ) (rest line more old new : List ℕ) (ows nws : List BusWarning) (a b : TerminalBus L) (fault : Option BusScriptFault) → fault ≡ None →
      lines_of rest ≡ line ∷ lines_of more → (p : Playing all n (lines_of rest) old ows a) → TakesFrom p.said n line fault old new ows nws b → Playing all (n + 1) (lines_of more) new nws b
  Playing_on all n rest line more old new ows nws a b fault none first p t =
      took all n (lines_of rest) (lines_of more) old new ows nws a b (said_in (is_on_bus members) n line) fault none p (next_line n rest line more first) (here_says p.said n line fault old new ows nws b t)

  -- what was said is all that is said
  ended : (script : List ℕ) (said : List Said) (fault : Option BusScriptFault) (text : List ℕ) (ws : List BusWarning) (bus : TerminalBus L) (played : PlayedOnBus) →
      reading_of members script ≡ record { said = said; fault = fault } → text ≡ texts_told (text_told told) members (said_events said) → ws ≡ warnings members said → BusStandsAt is_legal (play members (said_events said)) bus →
      played.text.items ≡ text → played.warnings.items ≡ ws → played.fault ≡ fault → PlaysScript is_legal told members script played bus
  ended script said fault text ws bus played is text_is warns stands t w f = record {
    text = t ∙ (text_is ∙ ap (λ (r : BusReading). texts_told (text_told told) members (said_events r.said)) (sym is));
    warnings = w ∙ (warns ∙ ap (λ (r : BusReading). warnings members r.said) (sym is));
    fault = f ∙ ap (λ (r : BusReading). r.fault) (sym is);
    stands = subst (λ (r : BusReading). BusStandsAt is_legal (play members (said_events r.said)) bus) (sym is) stands;
  }

  nothing_said : (n : ℕ) → bus_reading (is_on_bus members) n [] ≡ record { said = []; fault = None }
  unfolding bus_reading
  nothing_said n = refl

  no_lines : (rest : List ℕ) → length rest ≡ 0 → lines_of rest ≡ []
  unfolding lines_of
  no_lines [] none = refl
  no_lines (b ∷ rest) none = absurd (omega (arith, none))

  just_said : (said : List Said) (fault : Option BusScriptFault) → adds_said said (record { said = []; fault = fault }) ≡ record { said = said; fault = fault }
  just_said said fault = λ j. (let both : BusReading = record { said = append-nil said j; fault = fault } in both)

  pub Playing_end : (script : List ℕ) (n : ℕ) (rest text : List ℕ) (ws : List BusWarning) (bus : TerminalBus L) (played : PlayedOnBus) → length rest ≡ 0 → Playing (reading_of members script) n (lines_of rest) text ws bus →
      played.text.items ≡ text → played.warnings.items ≡ ws → played.fault ≡ None → PlaysScript is_legal told members script played bus
  Playing_end script n rest text ws bus played none p t w f =
      ended script p.said None text ws bus played
      (p.reads ∙ (ap (λ ls. adds_said p.said (bus_reading (is_on_bus members) n ls)) (no_lines rest none) ∙ (ap (λ r. adds_said p.said r) (nothing_said n) ∙ just_said p.said None)))
      p.text_is p.warns p.stands t w f

  stopped : (script : List ℕ) (n : ℕ) (lines more : List (List ℕ)) (old new : List ℕ) (ows nws : List BusWarning) (a b : TerminalBus L) (s : Result (Option BusEvent) BusScriptFault) (fault : Option BusScriptFault) (f : BusScriptFault) (played : PlayedOnBus) →
      fault ≡ Some f → (p : Playing (reading_of members script) n lines old ows a) → bus_reading (is_on_bus members) n lines ≡ then_says n s (bus_reading (is_on_bus members) (n + 1) more) →
      PlaysBusLine is_legal told (play members (said_events p.said)) n s fault (written_so_far old ows) (written_so_far new nws) b →
      played.text.items ≡ new → played.warnings.items ≡ nws → played.fault ≡ fault → PlaysScript is_legal told members script played b
  stopped script n lines more old new ows nws a b (Ok (Some x)) fault f played some p next k t w e = absurd (none-some f (sym k.0 ∙ some))
  stopped script n lines more old new ows nws a b (Ok None) fault f played some p next k t w e = absurd (none-some f (sym k.0 ∙ some))
  stopped script n lines more old new ows nws a b (Err g) fault f played some p next k t w e =
      ended script p.said (Some g) new nws b played (p.reads ∙ (ap (λ r. adds_said p.said r) next ∙ just_said p.said (Some g))) (k.1.text ∙ p.text_is) (k.1.warnings ∙ p.warns) k.1.stands t w (e ∙ k.0)

  pub Playing_stop : (script : List ℕ) (n : ℕ) (rest line more old new : List ℕ) (ows nws : List BusWarning) (a b : TerminalBus L) (fault : Option BusScriptFault) (f : BusScriptFault) (played : PlayedOnBus) → fault ≡ Some f →
      lines_of rest ≡ line ∷ lines_of more → (p : Playing (reading_of members script) n (lines_of rest) old ows a) → TakesFrom p.said n line fault old new ows nws b →
      played.text.items ≡ new → played.warnings.items ≡ nws → played.fault ≡ fault → PlaysScript is_legal told members script played b
  Playing_stop script n rest line more old new ows nws a b fault f played some first p k t w e =
      stopped script n (lines_of rest) (lines_of more) old new ows nws a b (said_in (is_on_bus members) n line) fault f played some p (next_line n rest line more first) (here_says p.said n line fault old new ows nws b k) t w e
