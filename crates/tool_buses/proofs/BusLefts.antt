-- Scripts are read and cut, and buses are put together, one step after the other.
use Rattle.std.proofs.Common.{◌≡◌, ◌≢◌, ◌∙◌, ◌<◌, ◌≤◌, ◌+◌, ◌==◌, ◌&&◌, ◌||◌, ℕ, suc, Bool, true, false, if◌then◌else◌, Option, Some, None, Result, Ok, Err, is_ok, is_some, not, OnOk, IfOk, IfNone, List, [], ◌∷◌, ◌++◌, length, take, map, flat_map, filter, get_or, arith, refl, ap, sym, subst, append_assoc, append-nil, eq-eqb}
use Rattle.std.proofs.lemmas.List.{map-append, take_more}
use Rattle.std.proofs.lemmas.Bool.{eqb-true}
use Rattle.std.proofs.lemmas.List.Concat.{flat_map-append}
use Rattle.bus_legal.specs.Description.{Description}
use Rattle.std.specs.Option.{option_map}
use Rattle.std.specs.Result.{result_err}
use Rattle.bus_legal.specs.declared.setup.Setup.{Setup}
use Rattle.bus_legal.specs.Description.{described}
use Rattle.bus_legal.specs.Tables.{tables_say}
use Rattle.bus_legal.specs.Parts.{Parts, parts_of, description_in}
use Rattle.bus_legal.proofs.NormalLaws.{set_up_normal}
use Rattle.terminal_bus.specs.declared.bus.NotAdded.{NotAdded}
use Rattle.terminal_rules.specs.LookBack.{some, keep}
use Rattle.tool_buses.specs.EndsWell.{message_put, reasons_alone, reasons_of_part}
use Rattle.terminal_bus.specs.declared.event.BusEvent.{BusEvent}
use Rattle.terminal_bus.specs.Members.{Member, member_of, powered_up}
use Rattle.std.proofs.lemmas.Option.{none-some}
use Rattle.terminal_bus.specs.declared.bus.TerminalBus.{TerminalBus}
use Rattle.terminal_bus.specs.declared.bus.NotAdded.TheVariants.{SameAddress, Full}
use Rattle.terminal_bus.specs.AtMembers.{not_added}
use Rattle.terminal_bus.specs.Discipline.{has_address}
use Rattle.terminal_bus.specs.Lists.{Each, EachTwo}
use Rattle.script_lines.specs.Text.{lines_of}
use Rattle.script_terminals.specs.declared.playing.BusScriptFault.{BusScriptFault}
use Rattle.script_terminals.specs.BusReading.{Said, BusReading, adds_said, then_says, bus_reading, said_in}
use Rattle.tool_buses.specs.declared.reading.SaidEvent.{SaidEvent}
use Rattle.tool_buses.specs.declared.parts.ScriptPart.{ScriptPart}
use Rattle.tool_buses.specs.Cut.{said_shown, said_on_line, said_for, said_in_file, said_in_part, NeighboursDiffer, part_left, IsCutScript, told_alone, JudgesOrder}
use Rattle.bus_reports.specs.declared.judged.PartLeft.{PartLeft}
use Rattle.bus_reports.specs.declared.load.PutMessage.{PutMessage}
use Rattle.bus_reports.specs.declared.judged.JudgedMessage.{JudgedMessage}
use Rattle.bus_reports.specs.declared.judged.Judgement.{Judgement}
use Rattle.bus_reports.specs.Outcomes.{has_trouble, told_among, leaves_something}
use Rattle.script_terminals.proofs.PlayLaws.{none_left}
use Rattle.terminal_schedules.specs.declared.left.LeftAt.{LeftAt}
use Rattle.terminal_schedules.specs.Left.{left_alone, IsClearBus}
use Rattle.terminal_schedules.proofs.Law.{power_same, power_clear}
use Rattle.terminal_schedules.proofs.OrderLaw.{every_order_law}
use Rattle.tool_buses.specs.Powered.{IsBusAt, IsPowered, described_at}

-- ---- a script is read

module _ (there : ℕ → Bool) where
  first_reads : (n : ℕ) (line : List ℕ) (lines : List (List ℕ)) → bus_reading there n (line ∷ lines) ≡ then_says n (said_in there n line) (bus_reading there (n + 1) lines)
  unfolding bus_reading
  first_reads n line lines = refl

  nothing_reads : (n : ℕ) → bus_reading there n [] ≡ record { said = []; fault = None }
  unfolding bus_reading
  nothing_reads n = refl

  next_line : (n : ℕ) (rest line more : List ℕ) → lines_of rest ≡ line ∷ lines_of more → bus_reading there n (lines_of rest) ≡ then_says n (said_in there n line) (bus_reading there (n + 1) (lines_of more))
  next_line n rest line more first = ap (λ ls. bus_reading there n ls) first ∙ first_reads n line (lines_of more)

  adds_more : (said more : List SaidEvent) (r : BusReading) → adds_said (map said_shown said) (adds_said (map said_shown more) r) ≡ adds_said (map said_shown (said ++ more)) r
  adds_more said more r = λ j. (let both : BusReading = record { said = (sym (append_assoc (map said_shown said) (map said_shown more) r.said) ∙ ap (λ l. l ++ r.said) (sym (map-append said_shown said more))) j; fault = r.fault } in both)

  then_more : (n : ℕ) (o : Option BusEvent) (r : BusReading) → then_says n (Ok o) r ≡ adds_said (map said_shown (said_on_line n o)) r
  then_more n None r = refl
  then_more n (Some x) r = refl

  -- what is read so far, and the rest of the script
  abbrev pub ReadSo : BusReading → List SaidEvent → ℕ → List ℕ → Type 0
  ReadSo all said n rest = all ≡ adds_said (map said_shown said) (bus_reading there n (lines_of rest))

  pub reads_line : (all : BusReading) (said more_said : List SaidEvent) (n : ℕ) (rest line more : List ℕ) (o : Option BusEvent) → lines_of rest ≡ line ∷ lines_of more → Ok o ≡ said_in there n line → more_said ≡ said ++ said_on_line n o →
      ReadSo all said n rest → ReadSo all more_said (n + 1) more
  reads_line all said more_said n rest line more o first says is before =
      let r : BusReading = bus_reading there (n + 1) (lines_of more) in
      before
      ∙ (ap (adds_said (map said_shown said)) (next_line n rest line more first ∙ ap (λ x. then_says n x r) (sym says) ∙ then_more n o r)
      ∙ (adds_more said (said_on_line n o) r ∙ ap (λ l. adds_said (map said_shown l) r) (sym is)))

  just_said : (said : List Said) (fault : Option BusScriptFault) → adds_said said (record { said = []; fault = fault }) ≡ record { said = said; fault = fault }
  just_said said fault = λ j. (let both : BusReading = record { said = append-nil said j; fault = fault } in both)

  pub reads_fault : (all : BusReading) (said : List SaidEvent) (n : ℕ) (rest line more : List ℕ) (fault : BusScriptFault) → lines_of rest ≡ line ∷ lines_of more → Err fault ≡ said_in there n line →
      ReadSo all said n rest → record { said = map said_shown said; fault = Some fault } ≡ all
  reads_fault all said n rest line more fault first says before =
      sym (before ∙ (ap (adds_said (map said_shown said)) (next_line n rest line more first ∙ ap (λ x. then_says n x (bus_reading there (n + 1) (lines_of more))) (sym says)) ∙ just_said (map said_shown said) (Some fault)))

  no_lines : (rest : List ℕ) → length rest ≡ 0 → lines_of rest ≡ []
  unfolding lines_of
  no_lines [] none = refl
  no_lines (b ∷ rest) none = absurd (omega (arith, none))

  pub reads_all : (all : BusReading) (said : List SaidEvent) (n : ℕ) (rest : List ℕ) → length rest ≡ 0 → ReadSo all said n rest → record { said = map said_shown said; fault = None } ≡ all
  reads_all all said n rest none before =
      sym (before ∙ (ap (λ ls. adds_said (map said_shown said) (bus_reading there n ls)) (no_lines rest none) ∙ (ap (adds_said (map said_shown said)) (nothing_reads n) ∙ just_said (map said_shown said) None)))

-- ---- a script is cut

differ_more : (xs : List ℕ) (a b : ℕ) → NeighboursDiffer (xs ++ a ∷ []) → a ≢ b → NeighboursDiffer ((xs ++ a ∷ []) ++ b ∷ [])
differ_more [] a b d ne = (ne, tt)
differ_more (x ∷ []) a b d ne = (d.0, (ne, tt))
differ_more (x ∷ y ∷ xs) a b d ne = (d.0, differ_more (y ∷ xs) a b d.1 ne)

each_more : {X : Type 0} (P : X → Type 0) (xs : List X) (x : X) → Each P xs → P x → Each P (xs ++ x ∷ [])
each_more P [] x e p = (p, tt)
each_more P (y ∷ xs) x e p = (e.0, each_more P xs x e.1 p)

abbrev line_of : ScriptPart → ℕ
line_of part = part.line

abbrev HasEvent : ScriptPart → Type 0
HasEvent part = part.events.items ≢ []

-- these parts, and the last one, which may go on
pub record CutSo (source : ℕ → ℕ) (said : List SaidEvent) (parts : List ScriptPart) (last : ScriptPart) : Type 0 where
  pub events : flat_map said_in_part parts ++ said_in_part last ≡ map (said_in_file source) said
  pub some : Each HasEvent parts
  pub last_some : HasEvent last
  pub lines : NeighboursDiffer (map line_of parts ++ last.line ∷ [])

not_nil : {X : Type 0} (xs : List X) (x : X) → (xs ++ x ∷ []) ≢ []
not_nil [] x e = cc
not_nil (y ∷ xs) x e = cc

one_there : (part : ScriptPart) (x : BusEvent) → part.events.items ≡ x ∷ [] → HasEvent part
one_there part x is = λ none. not_nil [] x (sym is ∙ none)

module _ (source : ℕ → ℕ) (said : List SaidEvent) (s : SaidEvent) (parts : List ScriptPart) (last : ScriptPart) where
  pub cut_goes_on : (next : ScriptPart) → CutSo source said parts last → source s.line ≡ last.line → next.line ≡ last.line → next.events.items ≡ last.events.items ++ s.event ∷ [] → CutSo source (said ++ s ∷ []) parts next
  cut_goes_on next c here line events = record {
    events =
        ap (λ l. flat_map said_in_part parts ++ l) ((λ j. map (said_for (line j)) (events j)) ∙ map-append (said_for last.line) last.events.items (s.event ∷ []))
        ∙ (sym (append_assoc (flat_map said_in_part parts) (said_in_part last) (said_for last.line s.event ∷ []))
        ∙ (ap (λ l. l ++ said_for last.line s.event ∷ []) c.events
        ∙ (ap (λ n. map (said_in_file source) said ++ said_for n s.event ∷ []) (sym here) ∙ sym (map-append (said_in_file source) said (s ∷ [])))));
    some = c.some;
    last_some = λ none. not_nil last.events.items s.event (sym events ∙ none);
    lines = subst (λ n. NeighboursDiffer (map line_of parts ++ n ∷ [])) (sym line) c.lines;
  }

  pub cut_again : (next : ScriptPart) → CutSo source said parts last → source s.line ≢ last.line → next.line ≡ source s.line → next.events.items ≡ s.event ∷ [] → CutSo source (said ++ s ∷ []) (parts ++ last ∷ []) next
  cut_again next c other line events = record {
    events =
        (λ j. (flat_map-append said_in_part parts (last ∷ []) ∙ ap (λ l. flat_map said_in_part parts ++ l) (append-nil (said_in_part last)) ∙ c.events) j ++ map (said_for (line j)) (events j))
        ∙ sym (map-append (said_in_file source) said (s ∷ []));
    some = each_more HasEvent parts last c.some c.last_some;
    last_some = one_there next s.event events;
    lines = subst (λ ls. NeighboursDiffer (ls ++ next.line ∷ [])) (sym (map-append line_of parts (last ∷ [])))
        (differ_more (map line_of parts) last.line next.line c.lines (λ same. other (sym line ∙ sym same)));
  }

-- ---- a bus is put together

powered_more : (Ps : List Description) (P : Description) → powered_up (Ps ++ P ∷ []) ≡ powered_up Ps ++ member_of P ∷ []
powered_more Ps P = map-append member_of Ps (P ∷ [])

differ_all : (Ps : List Description) (P : Description) → EachTwo (λ Q R. Q.address ≢ R.address) Ps → Each (λ Q. Q.address ≢ P.address) Ps → EachTwo (λ Q R. Q.address ≢ R.address) (Ps ++ P ∷ [])
differ_all [] P d e = (tt, tt)
differ_all (Q ∷ Ps) P d e = (each_more (λ R. Q.address ≢ R.address) Ps P d.0 e.0, differ_all Ps P d.1 e.1)

none_has : (Ps : List Description) (a : ℕ) → some (has_address a) (powered_up Ps) ≡ false → Each (λ Q. Q.address ≢ a) Ps
none_has [] a e = tt
none_has (Q ∷ Ps) a e = (λ same. true_false (sym (ap (λ b. b || some (has_address a) (powered_up Ps)) (eq-eqb Q.address a same)) ∙ e), none_has Ps a (rest_false (Q.address == a) (some (has_address a) (powered_up Ps)) e))
  where
    true_false : true ≡ false → ⊥
    true_false q = cc q

    rest_false : (x y : Bool) → x || y ≡ false → y ≡ false
    rest_false true y q = cc q
    rest_false false y q = q

not_has : (members : List Member) (a : ℕ) → None ≡ not_added members a → some (has_address a) members ≡ false
not_has members a e = by_test (some (has_address a) members) refl
  where
    by_test : (b : Bool) → some (has_address a) members ≡ b → b ≡ false
    by_test false is = refl
    by_test true is = absurd (none-some (SameAddress a) (e ∙ ap (λ c. if c then Some (SameAddress a) else if length members == 31 then Some Full else None) is))

pub joined : (Ps : List Description) (bus more : TerminalBus Parts) (P : Description) → IsPowered Ps bus → None ≡ not_added (powered_up Ps) P.address → P.address ≤ 30 →
    IsBusAt (powered_up Ps ++ member_of P ∷ []) more → IsPowered (Ps ++ P ∷ []) more
joined Ps bus more P p free low stands = record {
  stands = subst (λ ms. IsBusAt ms more) (sym (powered_more Ps P)) stands;
  differ = differ_all Ps P p.differ (none_has Ps P.address (not_has (powered_up Ps) P.address free));
  low = each_more (λ Q. Q.address ≤ 30) Ps P p.low low;
}

on_ok : {X E : Type 0} (r : Result X E) (Q : Type 0) → is_ok r ≡ true → OnOk r Q → Q
on_ok (Ok x) Q e q = q
on_ok (Err f) Q e q = cc e

no_err : {X E : Type 0} (r : Result X E) → is_ok r ≡ true → result_err r ≡ None
no_err (Ok x) e = refl
no_err (Err f) e = cc e

one_at : (a : ℕ) (v : Parts) → v.address ≡ a → described_at a (v ∷ []) ≡ description_in v ∷ []
one_at a v same = ap (λ b. map description_in (if b then v ∷ [] else [])) (eq-eqb v.address a same)

pub one_added : (v : Parts) (setup : Setup) (a : ℕ) (Ps : List Description) (bus more : TerminalBus Parts) (r : Result (Unit {0}) NotAdded) → parts_of setup v.tables ≡ v → v.address ≡ a → a ≤ 30 → is_ok r ≡ true →
    ((members : List Member) → IsBusAt members bus → result_err r ≡ not_added members setup.address) →
    OnOk r ((members : List Member) → IsBusAt members bus → IsBusAt (members ++ member_of (described setup (tables_say v.tables)) ∷ []) more) →
    IsPowered Ps bus → IsPowered (Ps ++ described_at a (v ∷ [])) more
one_added v setup a Ps bus more r same here low ok free added p =
    let stands : IsBusAt (powered_up Ps ++ member_of (described setup (tables_say v.tables)) ∷ []) more = on_ok r _ ok added (powered_up Ps) p.stands in
    subst (λ l. IsPowered (Ps ++ l) more) (sym (one_at a v here))
    (joined Ps bus more (description_in v) p
    (sym (no_err r ok) ∙ (free (powered_up Ps) p.stands ∙ ap (λ (w : Parts). not_added (powered_up Ps) w.address) same))
    (subst (λ n. n ≤ 30) (sym here) low)
    (subst (λ P. IsBusAt (powered_up Ps ++ member_of P ∷ []) more) (set_up_normal v setup same) stands))

-- a copy of it has clear terminals
abbrev pub IsClearOn : List Description → TerminalBus Parts → Type 0
IsClearOn Ps bus = IsClearBus (λ (normal : Parts). tables_say normal.tables) Ps bus

pub powered_clear : (Ps : List Description) (bus copy : TerminalBus Parts) → IsPowered Ps bus → ((members : List Member) → IsBusAt members bus → IsBusAt members copy) → IsClearOn Ps copy
powered_clear Ps bus copy p stands = record { members = powered_up Ps; stands = stands (powered_up Ps) p.stands; same = power_same Ps; clear = power_clear true Ps }

pub clear_on : (Ps : List Description) (left : Option LeftAt) (bus more : TerminalBus Parts) → is_some left ≡ false → IfNone left ((Qs : List Description) → IsClearOn Qs bus → IsClearOn Qs more) → IsClearOn Ps bus → IsClearOn Ps more
clear_on Ps None bus more e f c = f Ps c
clear_on Ps (Some x) bus more e f c = cc e

-- what one part more leaves behind
pub left_more : (Ps : List Description) (parts : List ScriptPart) (i : ℕ) (part : ScriptPart) (lefts more : List PartLeft) (left : Option LeftAt) → i < length parts → part ≡ get_or parts i part → left ≡ left_alone Ps part.events.items →
    more ≡ lefts ++ (let it : PartLeft = record { line = part.line; left = left } in it) ∷ [] → lefts ≡ map (part_left Ps) (take i parts) → more ≡ map (part_left Ps) (take (i + 1) parts)
left_more Ps parts i part lefts more left within at is grown before =
    grown
    ∙ ((λ j. before j ++ (let it : PartLeft = record { line = part.line; left = is j } in it) ∷ [])
    ∙ (sym (map-append (part_left Ps) (take i parts) (part ∷ [])) ∙ ap (map (part_left Ps)) (sym (take_more parts i part within ∙ ap (λ y. take i parts ++ y ∷ []) (sym at)))))

-- one event more, behind the first
pub rest_more : {X : Type 0} (xs more : List X) (x y d : X) (i : ℕ) → xs ≡ x ∷ more → i < length more → y ≡ get_or more i d → take (i + 1 + 1) xs ≡ take (i + 1) xs ++ y ∷ []
rest_more xs more x y d i is within at =
    let two : i + 1 + 1 ≡ suc (i + 1) = omega arith in
    let one : i + 1 ≡ suc i = omega arith in
    (λ j. take (two j) (is j)) ∙ (ap (λ l. x ∷ l) (take_more more i d within ∙ ap (λ z. take i more ++ z ∷ []) (sym at)) ∙ (λ j. take (sym one j) (sym is j) ++ y ∷ []))

-- ---- messages are judged alone

keep_some : {X Y : Type 0} (f : X → Option Y) (xs : List X) (x : X) (y : Y) → f x ≡ Some y → keep f (xs ++ x ∷ []) ≡ keep f xs ++ y ∷ []
keep_some f [] x y is = ap (λ o. elim o [ None ↦ [] | Some z ↦ z ∷ [] ]) is
keep_some {Y} f (z ∷ xs) x y is = by_case (f z) (keep_some f xs x y is)
  where
    by_case : (o : Option Y) → keep f (xs ++ x ∷ []) ≡ keep f xs ++ y ∷ [] →
        elim o [ None ↦ keep f (xs ++ x ∷ []) | Some w ↦ w ∷ keep f (xs ++ x ∷ []) ] ≡ elim o [ None ↦ keep f xs | Some w ↦ w ∷ keep f xs ] ++ y ∷ []
    by_case None e = e
    by_case (Some w) e = ap (λ l. w ∷ l) e

keep_none : {X Y : Type 0} (f : X → Option Y) (xs : List X) (x : X) → f x ≡ None → keep f (xs ++ x ∷ []) ≡ keep f xs
keep_none f [] x is = ap (λ o. elim o [ None ↦ [] | Some z ↦ z ∷ [] ]) is
keep_none {Y} f (z ∷ xs) x is = by_case (f z) (keep_none f xs x is)
  where
    by_case : (o : Option Y) → keep f (xs ++ x ∷ []) ≡ keep f xs →
        ◌≡◌ {A = List Y} (elim o [ None ↦ keep f (xs ++ x ∷ []) | Some w ↦ w ∷ keep f (xs ++ x ∷ []) ]) (elim o [ None ↦ keep f xs | Some w ↦ w ∷ keep f xs ])
    by_case None e = e
    by_case (Some w) e = ap (λ l. w ∷ l) e

module _ (vs : List Parts) (parts : List ScriptPart) (i : ℕ) (part : ScriptPart) (within : i < length parts) (at : part ≡ get_or parts i part) where
  one_part : take i parts ++ part ∷ [] ≡ take (i + 1) parts
  one_part = sym (take_more parts i part within ∙ ap (λ y. take i parts ++ y ∷ []) (sym at))

  -- a part that is a message
  pub told_one : (judged : List JudgedMessage) (it : JudgedMessage) (put : PutMessage) → message_put part.events.items ≡ Some put → told_alone it ≡ reasons_alone put vs part.events.items →
      map told_alone judged ≡ keep (reasons_of_part vs) (take i parts) → map told_alone (judged ++ it ∷ []) ≡ keep (reasons_of_part vs) (take (i + 1) parts)
  told_one judged it put is told before =
      map-append told_alone judged (it ∷ [])
      ∙ ((λ j. before j ++ told j ∷ [])
      ∙ (sym (keep_some (reasons_of_part vs) (take i parts) part (reasons_alone put vs part.events.items) (ap (option_map (λ put. reasons_alone put vs part.events.items)) is))
      ∙ ap (keep (reasons_of_part vs)) one_part))

  -- one that is none
  pub told_other : (judged : List JudgedMessage) → message_put part.events.items ≡ None → map told_alone judged ≡ keep (reasons_of_part vs) (take i parts) → map told_alone judged ≡ keep (reasons_of_part vs) (take (i + 1) parts)
  told_other judged is before =
      before
      ∙ (sym (keep_none (reasons_of_part vs) (take i parts) part (ap (option_map (λ put. reasons_alone put vs part.events.items)) is)) ∙ ap (keep (reasons_of_part vs)) one_part)

-- ---- every order

no_length : {X : Type 0} (x : X) (xs : List X) → length (x ∷ xs) == 0 ≡ true → ⊥
no_length x xs e = let none : length (x ∷ xs) ≡ 0 = none_left (length (x ∷ xs)) (length (x ∷ xs) == 0) refl e in omega (arith, none)

is_nothing : {X : Type 0} (o : Option X) (l : PartLeft) (rest : List PartLeft) → length (if is_some o then l ∷ rest else rest) == 0 ≡ true → o ≡ None
is_nothing None l rest e = refl
is_nothing (Some x) l rest e = absurd (no_length l rest e)

rest_nothing : {X : Type 0} (o : Option X) (l : PartLeft) (rest : List PartLeft) → length (if is_some o then l ∷ rest else rest) == 0 ≡ true → length rest == 0 ≡ true
rest_nothing None l rest e = e
rest_nothing (Some x) l rest e = absurd (no_length l rest e)

each_none : (Ps : List Description) (parts : List ScriptPart) → length (filter leaves_something (map (part_left Ps) parts)) == 0 ≡ true → Each (λ xs. left_alone Ps xs ≡ None) (map (λ part. part.events.items) parts)
each_none Ps [] e = tt
each_none Ps (part ∷ parts) e =
    let rest : List PartLeft = filter leaves_something (map (part_left Ps) parts) in
    (is_nothing (left_alone Ps part.events.items) (part_left Ps part) rest e, each_none Ps parts (rest_nothing (left_alone Ps part.events.items) (part_left Ps part) rest e))

all_none : (Ps : List Description) (parts : List ScriptPart) (lefts : List PartLeft) → lefts ≡ map (part_left Ps) parts → length (filter leaves_something lefts) == 0 ≡ true →
    Each (λ xs. left_alone Ps xs ≡ None) (map (λ part. part.events.items) parts)
all_none Ps parts lefts is none = each_none Ps parts (ap (λ l. length (filter leaves_something l) == 0) (sym is) ∙ none)

and_second : (a b : Bool) → a && b ≡ true → b ≡ true
and_second true b e = e
and_second false b e = cc e

and_first : (a b : Bool) → a && b ≡ true → a ≡ true
and_first true b e = refl
and_first false b e = cc e

-- no reason is told of messages of which none is told
no_trouble : (ms : List JudgedMessage) → length (filter has_trouble ms) == 0 ≡ true → Each (λ n. n ≡ 0) (map told_alone ms)
no_trouble [] e = tt
no_trouble (m ∷ ms) e = by_tests (length m.alone.items == 0) (length m.in_run.items == 0) refl (no_trouble ms) e
  where
    by_tests : (a b : Bool) → length m.alone.items == 0 ≡ a → (length (filter has_trouble ms) == 0 ≡ true → Each (λ n. n ≡ 0) (map told_alone ms)) →
        length (if not (a && b) then m ∷ filter has_trouble ms else filter has_trouble ms) == 0 ≡ true → (length m.alone.items ≡ 0) × Each (λ n. n ≡ 0) (map told_alone ms)
    by_tests true true is rest e = (eqb-true (length m.alone.items) 0 is, rest e)
    by_tests true false is rest e = absurd (no_length m (filter has_trouble ms) e)
    by_tests false b is rest e = absurd (no_length m (filter has_trouble ms) e)

pub judges_order : (vs : List Parts) (bus : TerminalBus Parts) (source : ℕ → ℕ) (script : List ℕ) (parts : List ScriptPart) (lefts : List PartLeft) (judged : Judgement) → judged.lefts.items ≡ lefts →
    IsPowered (map description_in vs) bus → IsCutScript (map description_in vs) source script parts lefts → map told_alone judged.messages.items ≡ keep (reasons_of_part vs) parts → JudgesOrder vs source script judged
judges_order vs bus source script parts lefts judged is p cut alone =
    let Ps : List Description = map description_in vs in
    let told : IsCutScript Ps source script parts judged.lefts.items = subst (IsCutScript Ps source script parts) (sym is) cut in
    record {
      parts = parts;
      told = told;
      alone = alone;
      well = λ every. subst (Each (λ n. n ≡ 0)) alone (no_trouble judged.messages.items (and_first (told_among judged == 0) (length (filter leaves_something judged.lefts.items) == 0) every));
      order = λ every. every_order_law Ps (map (λ part. part.events.items) parts) p.differ p.low
          (all_none Ps parts judged.lefts.items told.left (and_second (told_among judged == 0) (length (filter leaves_something judged.lefts.items) == 0) every));
    }

pub ok_weaker : {X E : Type 0} (r : Result X E) (P Q : X → Type 0) → ((x : X) → P x → Q x) → IfOk r P → IfOk r Q
ok_weaker (Ok x) P Q f p = f x p
ok_weaker (Err e) P Q f p = tt

pub if_none : {X : Type 0} (o : Option X) (Q : Type 0) → o ≡ None → IfNone o Q → Q
if_none None Q e q = q
if_none (Some x) Q e q = cc e
