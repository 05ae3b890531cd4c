-- Arguments that clap finds no fault with name a job.
use Rattle.std.proofs.Common.{◌≡◌, ℕ, Bool, true, false, List, [], ◌∷◌, Option, Some, None, true≢false, refl, sym, ap, is_some, cond, ◌&&◌, ◌||◌, not, codes, option_map, IfErr, IfNone, Result, subst}
use Rattle.std.specs.Prelude.{⊤, ok_or, if◌then◌else◌, fold, find}
use Rattle.std.specs.Option.{option_map_or}
use Rattle.std.specs.Borrow.{Bor}
use Rattle.std.specs.Str.{bytes_eq}
use Rattle.std.proofs.lemmas.Slice.Eq.{bytes_eq-Decides}
use Rattle.clap.specs.Lexer.{long_of, short_of}
use Rattle.clap.specs.Walk.{Held, Names, Outcome, Row, Rule, Step, Text, Waiting, Walk, after_flag, after_step, answers_to, arg_by_index, arg_by_long, arg_by_short, bundle, done, first_of, has_long, has_short, idle, long_met, long_or_other, next, nothing_held, option, plain, plain_word, positional, refused, rows_after, settled, short_or_plain, subcommand, subcommand_met, subcommand_or_other, to_positional, trailing, value, waits, walk, walk_from, walked, walked_from}
use Rattle.clap.specs.Simple.{App, Shape, argument_words, built, built_leaf, entered, inherited, label_of, marked_built, names_of, rows_at, subcommand_of, with_leaf_noted}
use Rattle.clap.specs.Kinds.{Kinds, check_kinds, or_else}
use Rattle.clap.specs.Faults.{check_fault, defaults_fault, entered_fault, fault_of, level_fault, other_fault, settle_fault, turn_fault, walk_fault}
use Rattle.clap.specs.declared.error.kind.ErrorKind.TheVariants as kind
use Rattle.clap.specs.Words.{HasMatchesOf, subcommand_rows_of}
use Rattle.clap.specs.declared.parser.matches.ArgMatches.{ArgMatches}
use Rattle.rt1553_args.specs.Jobs.{MeansNoJob}
use Rattle.rt1553_args.specs.declared.args.Job.{Job}
use Rattle.rt1553_args.specs.declared.args.ArgFault.{ArgFault}
use Rattle.rt1553_args.specs.declared.args.ArgFault.TheVariants.{Usage}
use Rattle.rt1553_args.specs.Program.{one_file_app, program, two_files_app}
use Rattle.rt1553_args.specs.declared.args.Job.TheVariants as job
use Rattle.rt1553_args.proofs.Values.{IsFlag, either, given_first}

parts : (a b : Kinds) → or_else a b ≡ [] → (a ≡ []) × (b ≡ [])
parts [] b e = (refl, e)
parts (k ∷ ks) b e = cc

-- ---- a walk without a fault doesn't stop at `help`

abbrev NotHelp : Option (Text × List Text) → Type 0
NotHelp None = ⊤
NotHelp (Some p) = p.0 ≡ codes "help" → ⊥

abbrev NoSubcommand : Step → Type 0
NoSubcommand (subcommand name) = ⊥
NoSubcommand (next waiting) = ⊤
NoSubcommand (trailing position) = ⊤
NoSubcommand value = ⊤

help_off : (b d : Bool) → b ≡ true → d ≡ false → (if b && not d then kind.DisplayHelp ∷ kind.InvalidSubcommand ∷ [] else []) ≡ [] → ⊥
help_off true false e k h = cc
help_off true true e k h = true≢false k
help_off false d e k h = true≢false (sym e)

module _ (c : List Rule) where
  plain_step : (waiting : Waiting) (word : Text) (h : Held) → NoSubcommand (plain_word c waiting word h).1
  plain_step idle word h = tt
  plain_step positional word h = tt
  plain_step (option id) word h = tt

  flag_step : (waiting : Waiting) (word : Text) (h : Held) (o : Outcome) → NoSubcommand (after_flag c waiting word h o).1
  flag_step waiting word h done = tt
  flag_step waiting word h (waits id) = tt
  flag_step waiting word h plain = plain_step waiting word h
  flag_step waiting word h refused = plain_step waiting word h

  short_step : (waiting : Waiting) (word : Text) (o : Option Text) (h : Held) → NoSubcommand (short_or_plain c waiting word o h).1
  short_step waiting word None h = plain_step waiting word h
  short_step waiting word (Some flags) h = flag_step waiting word (bundle c flags h).0 (bundle c flags h).1

  long_step : (waiting : Waiting) (word : Text) (o : Option (Text × Option Text)) (h : Held) → NoSubcommand (long_or_other c waiting word o h).1
  long_step waiting word (Some p) h = flag_step waiting word (long_met c (arg_by_long c p.0) p.1 h).0 (long_met c (arg_by_long c p.0) p.1 h).1
  long_step waiting word None h = short_step waiting word (short_of word) h

  to_stop : (o : Option Rule) (word : Text) (w : Walk) (h : Held) → NotHelp w.stopped → NotHelp (to_positional c o word w h).stopped
  to_stop None word w h k = k
  to_stop (Some a) word w h k = tt

  step_stop : (word : Text) (w : Walk) (h : Held) (s : Step) → NotHelp w.stopped → NoSubcommand s → NotHelp (after_step c word w h s).stopped
  step_stop word w h (next waiting) k n = k
  step_stop word w h (trailing position) k n = k
  step_stop word w h (subcommand name) k n = absurd n
  step_stop word w h value k n = to_stop (arg_by_index c w.position) word w h k

module _ (s : Shape) (names : Names) (helps : s.disable_help_subcommand ≡ false) where
  other_stop : (o : Option Text) (waiting : Waiting) (position : ℕ) (word : Text) (w : Walk) (h : Held) → NotHelp w.stopped → other_fault s o word h ≡ []
      → NotHelp (after_step s.rules word w (subcommand_or_other s.rules o waiting position word h).0 (subcommand_or_other s.rules o waiting position word h).1).stopped
  other_stop (Some name) waiting position word w h k e = λ is. help_off (bytes_eq name (codes "help")) s.disable_help_subcommand ((bytes_eq-Decides name (codes "help")).1 is) helps e
  other_stop None waiting position word w h k e =
      either (λ (r : Held × Step). NotHelp (after_step s.rules word w r.0 r.1).stopped) (bytes_eq word (45 ∷ 45 ∷ [])) (h, trailing position) (long_or_other s.rules waiting word (long_of word) h)
      k (step_stop s.rules word w _ _ k (long_step s.rules waiting word (long_of word) h))

  word_stop : (t : Bool) (o : Option Text) (waiting : Waiting) (position : ℕ) (word : Text) (w : Walk) (h : Held) → NotHelp w.stopped → (if t then [] else other_fault s o word h) ≡ []
      → NotHelp (after_step s.rules word w (if t then (h, value) else subcommand_or_other s.rules o waiting position word h).0 (if t then (h, value) else subcommand_or_other s.rules o waiting position word h).1).stopped
  word_stop true o waiting position word w h k e = to_stop s.rules (arg_by_index s.rules w.position) word w h k
  word_stop false o waiting position word w h k e = other_stop o waiting position word w h k e

  walked_stop : (w : Walk) (word : Text) → NotHelp w.stopped → turn_fault s names w word ≡ [] → NotHelp (walked s.rules names w word).stopped
  unfolding walked
  walked_stop w word k e = go w.stopped k e
    where
      go : (o : Option (Text × List Text)) → NotHelp o → turn_fault s names (record w { stopped = o }) word ≡ [] → NotHelp (walked_from s.rules names o w word).stopped
      go (Some p) n e = n
      go None n e = word_stop w.is_trailing (subcommand_met names w.waiting word) w.waiting w.position word w w.held k (parts _ _ e).0

  walk_stop : (w : Walk) (args : List Text) → NotHelp w.stopped → walk_fault s names w args ≡ [] → NotHelp (fold (walked s.rules names) w args).stopped
  unfolding walk_fault
  walk_stop w [] k e = k
  walk_stop w (x ∷ xs) k e =
      let both = parts (turn_fault s names w x) (walk_fault s names (walked s.rules names w x) xs) e in
      walk_stop (walked s.rules names w x) xs (walked_stop w x k both.0) both.1

-- ---- the subcommands

abbrev Each : {X : Type 0} → (X → Type 0) → List X → Type 0
Each P [] = ⊤
Each P (x ∷ xs) = P x × Each P xs

pick : {X : Type 0} (P : X → Type 0) (b : Bool) (x y : X) → (b ≡ true → P x) → P y → P (cond b x y)
pick P true x y h k = h refl
pick P false x y h k = k

find_holds : {X : Type 0} (P : Option X → Type 0) (test : X → Bool) (xs : List X) → Each (λ x. test x ≡ true → P (Some x)) xs → P None → P (find test xs)
find_holds P test [] h n = n
find_holds P test (x ∷ xs) h n = pick P (test x) (Some x) (find test xs) h.0 (find_holds P test xs h.1 n)

with_value : {X : Type 0} (o : Option X) (Q : Type 0) → is_some o ≡ true → ((v : X) → o ≡ Some v → Q) → Q
with_value None Q e k = absurd (true≢false (sym e))
with_value (Some v) Q e k = k v refl

one_given : (g : Bool) → check_kinds false false (not g || false) ≡ [] → g ≡ true
one_given true e = refl
one_given false e = cc

two_given : (g k : Bool) → check_kinds false false (not g || (not k || false)) ≡ [] → (g ≡ true) × (k ≡ true)
two_given true true e = (refl, refl)
two_given true false e = cc
two_given false k e = cc

-- a subcommand as building makes it
abbrev leaf : App → Shape
leaf a = built_leaf (inherited (with_leaf_noted (marked_built program.top)) a.top)

abbrev fault_at : Shape → List Text → Kinds
fault_at s args = level_fault s [] nothing_held args false []

abbrev rows_in : Shape → List Text → List Row
rows_in s args = rows_after s.rules [] args

checked_at : (s : Shape) (args : List Text) → fault_at s args ≡ [] → check_fault s (rows_in s args) false ≡ []
checked_at s args e =
    let end = (walk s.rules [] nothing_held args).held in
    let settles = settle_fault s.rules s.args_override_self end in
    let defaults = defaults_fault (settled s.rules end).rows s.rules in
    let checks = check_fault s (rows_in s args) false in
    let after_walk = (parts (walk_fault s [] (walk_from nothing_held) args) (or_else settles (or_else defaults checks)) e).1 in
    (parts defaults checks (parts settles (or_else defaults checks) after_walk).1).1

module _ (name : Text) where
  one_longs : (n : Text) → IsFlag (arg_by_long (leaf (one_file_app name)).rules n)
  one_longs n = find_holds IsFlag (λ a. not (is_some a.index) && has_long a n) (leaf (one_file_app name)).rules ((λ e. absurd (true≢false (sym e))), ((λ _. (refl, λ rows. refl)), tt)) tt

  one_shorts : (x : ℕ) → IsFlag (arg_by_short (leaf (one_file_app name)).rules x)
  one_shorts x = find_holds IsFlag (λ a. not (is_some a.index) && has_short a x) (leaf (one_file_app name)).rules ((λ e. absurd (true≢false (sym e))), ((λ _. (refl, λ rows. refl)), tt)) tt

  two_longs : (n : Text) → IsFlag (arg_by_long (leaf (two_files_app name)).rules n)
  two_longs n = find_holds IsFlag (λ a. not (is_some a.index) && has_long a n) (leaf (two_files_app name)).rules ((λ e. absurd (true≢false (sym e))), ((λ e. absurd (true≢false (sym e))), ((λ _. (refl, λ rows. refl)), tt))) tt

  two_shorts : (x : ℕ) → IsFlag (arg_by_short (leaf (two_files_app name)).rules x)
  two_shorts x = find_holds IsFlag (λ a. not (is_some a.index) && has_short a x) (leaf (two_files_app name)).rules ((λ e. absurd (true≢false (sym e))), ((λ e. absurd (true≢false (sym e))), ((λ _. (refl, λ rows. refl)), tt))) tt

  one_first : (args : List Text) → fault_at (leaf (one_file_app name)) args ≡ [] → is_some (first_of (codes "first") (rows_in (leaf (one_file_app name)) args)) ≡ true
  one_first args e = given_first (leaf (one_file_app name)).rules one_longs one_shorts [] args (codes "first") (one_given _ (checked_at (leaf (one_file_app name)) args e))

  two_first : (args : List Text) → fault_at (leaf (two_files_app name)) args ≡ []
      → (is_some (first_of (codes "first") (rows_in (leaf (two_files_app name)) args)) ≡ true) × (is_some (first_of (codes "second") (rows_in (leaf (two_files_app name)) args)) ≡ true)
  two_first args e =
      let given = two_given _ _ (checked_at (leaf (two_files_app name)) args e) in
      let s = leaf (two_files_app name) in
      (given_first s.rules two_longs two_shorts [] args (codes "first") given.0, given_first s.rules two_longs two_shorts [] args (codes "second") given.1)

abbrev text_at : Text → Bor Text
text_at t = record { ref_ptr = (0, 0); now = t }

-- the subcommand, met with these arguments, names a job
abbrev NamesJob : List Text → Option Shape → Type 0
NamesJob args o = option_map_or (λ s. fault_at s args) o [] ≡ [] → MeansNoJob (option_map (λ s. rows_at s args) o) → ⊥

check_job : (args : List Text) → NamesJob args (Some (leaf (one_file_app (codes "check"))))
check_job args e jobless = with_value _ ⊥ (one_first (codes "check") args e) (λ p is. jobless (job.Check (text_at p)) (refl, ap Some is))

canon_job : (args : List Text) → NamesJob args (Some (leaf (one_file_app (codes "canon"))))
canon_job args e jobless = with_value _ ⊥ (one_first (codes "canon") args e) (λ p is. jobless (job.Canon (text_at p)) (refl, ap Some is))

run_job : (args : List Text) → NamesJob args (Some (leaf (two_files_app (codes "run"))))
run_job args e jobless =
    let both = two_first (codes "run") args e in
    with_value _ ⊥ both.0 (λ p is. with_value _ ⊥ both.1 (λ q too. jobless (job.Run (text_at p) (text_at q)) (refl, ap Some is, ap Some too)))

compare_job : (args : List Text) → NamesJob args (Some (leaf (two_files_app (codes "compare"))))
compare_job args e jobless =
    let both = two_first (codes "compare") args e in
    with_value _ ⊥ both.0 (λ p is. with_value _ ⊥ both.1 (λ q too. jobless (job.Compare (text_at p) (text_at q)) (refl, ap Some is, ap Some too)))

or_false : (b : Bool) → (b || false) ≡ true → b ≡ true
or_false true e = refl
or_false false e = e

entered_job : (stop : Option (Text × List Text)) → NotHelp stop → entered_fault (built program) stop ≡ [] → MeansNoJob (entered (built program) stop) → ⊥
entered_job None n = λ e jobless. jobless job.Standard refl
entered_job (Some p) n =
    find_holds (NamesJob p.1) (λ s. answers_to p.0 (label_of s)) (built program).subs
    ((λ _. check_job p.1), ((λ _. canon_job p.1), ((λ _. run_job p.1), ((λ _. compare_job p.1), ((λ is. absurd (n (sym ((bytes_eq-Decides (codes "help") p.0).0 (or_false _ is))))), tt)))))
    (λ e jobless. jobless job.Standard refl)

pub names_job : (args : List Text) → fault_of program args ≡ [] → MeansNoJob (subcommand_of program args) → ⊥
names_job args e =
    let b = built program in
    let given = argument_words program args in
    let stop = (walk b.top.rules (names_of b) nothing_held given).stopped in
    let both = parts (walk_fault b.top (names_of b) (walk_from nothing_held) given) _ e in
    entered_job stop (walk_stop b.top (names_of b) refl (walk_from nothing_held) given tt both.0) (parts (entered_fault b stop) _ both.1).0

-- a refusal for want of a job, of arguments that were matched, comes only where there is a fault
pub refused_by : (a : App) (args : List Text) (m : ArgMatches) → a ≡ program → HasMatchesOf a args m
    → (o : Option Job) (e : ArgFault) (r : Result Job ArgFault) → IfNone o (MeansNoJob (subcommand_rows_of m)) → r ≡ ok_or o e
    → IfErr r (λ fault. fault ≡ Usage → fault_of program args ≡ [] → ⊥)
refused_by a args m is has None e r none same =
    let met = (subst (λ b. HasMatchesOf b args m) is has refl).1 in
    subst (λ x. IfErr x (λ fault. fault ≡ Usage → fault_of program args ≡ [] → ⊥)) (sym same) (λ _ faultless. names_job args faultless (subst MeansNoJob met none))
refused_by a args m is has (Some j) e r none same = subst (λ x. IfErr x (λ fault. fault ≡ Usage → fault_of program args ≡ [] → ⊥)) (sym same) tt
