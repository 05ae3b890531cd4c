-- Where each flag of a command answers with help, each row that its parse leaves has a value.
use Rattle.std.proofs.Common.{◌≡◌, ℕ, Bool, true, false, zero, suc, List, [], ◌∷◌, ◌++◌, Option, Some, None, true≢false, refl, sym, subst, is_some, cond, ◌&&◌}
use Rattle.std.specs.Prelude.{⊤, slice_get, if◌then◌else◌, fold, length, option_and_then, find}
use Rattle.std.specs.Option.{option_map_or}
use Rattle.std.specs.Str.{bytes_eq, chars}
use Rattle.clap.specs.Lexer.{long_of, short_of}
use Rattle.clap.specs.Facts.{explicit_source}
use Rattle.clap.specs.Takes.{is_given}
use Rattle.clap.specs.Walk.{Held, Names, Outcome, Row, Rule, Step, Text, Waiting, Walk, action_of, after_flag, after_step, arg_by_id, arg_by_index, arg_by_long, arg_by_short, at_row, bundle_met, bundle_step, default_rows, done, first_of, flag_met, has_row, idle, is_pending, long_met, long_or_other, more_values, next, nothing_held, option, option_word, plain, plain_word, positional, pushed, reacted, reading_by, refused, rows_after, settled, settled_rows, short_met, short_or_plain, started, subcommand, subcommand_met, subcommand_or_other, takes_several, takes_values, to_positional, trailing, used, used_as, used_by_id, value, waits, walk, walk_from, walked, walked_from, with_default, with_values, without, word_met}
use Rattle.clap.specs.declared.builder.action.ArgAction.{ArgAction}
use Rattle.clap.specs.declared.builder.action.ArgAction.TheVariants as action
use Rattle.clap.specs.declared.builder.value_parser.Reading.{Reading}
use Rattle.clap.specs.declared.parser.matches.ValueSource.{ValueSource}
use Rattle.clap.specs.declared.parser.matches.ValueSource.TheVariants.{DefaultValue}

pub either : {X : Type 0} (P : X → Type 0) (b : Bool) (x y : X) → P x → P y → P (if b then x else y)
either P true x y h k = h
either P false x y h k = k

past_if : {X : Type 0} (P : X → Type 0) (b : Bool) (x y : X) → b ≡ false → P y → P (if b then x else y)
past_if P true x y e k = absurd (true≢false e)
past_if P false x y e k = k

abbrev HasSome : List Text → Type 0
HasSome [] = ⊥
HasSome (x ∷ xs) = ⊤

abbrev Valued : List Row → Type 0
Valued [] = ⊤
Valued (r ∷ rs) = HasSome r.values × Valued rs

more : (xs ys : List Text) → HasSome xs → HasSome (xs ++ ys)
more [] ys h = absurd h
more (x ∷ xs) ys h = tt

one_more : (xs : List Text) (y : Text) → HasSome (xs ++ y ∷ [])
one_more [] y = tt
one_more (x ∷ xs) y = tt

joined : (xs ys : List Row) → Valued xs → Valued ys → Valued (xs ++ ys)
joined [] ys h k = k
joined (x ∷ xs) ys h k = (h.0, joined xs ys h.1 k)

at_valued : (id : Text) (change : Row → List Row) (missing : List Row) → ((r : Row) → HasSome r.values → Valued (change r)) → Valued missing
    → (rows : List Row) → Valued rows → Valued (at_row id change missing rows)
at_valued id change missing changes misses [] h = misses
at_valued id change missing changes misses (r ∷ rs) h =
    either Valued (bytes_eq r.id id) (change r ++ rs) (r ∷ at_row id change missing rs) (joined (change r) rs (changes r h.0) h.1) (h.0, at_valued id change missing changes misses rs h.1)

without_valued : (id : Text) (rows : List Row) → Valued rows → Valued (without id rows)
without_valued id = at_valued id (λ _. []) [] (λ r h. tt) tt

with_valued : (id : Text) (how : Reading) (s : ValueSource) (v : Text) (vs : List Text) (rows : List Row) → Valued rows → Valued (with_values id how s (v ∷ vs) rows)
with_valued id how s v vs rows h =
    let new : Row = record {
      id = id;
      values = v ∷ vs;
      count = None;
      source = Some s;
      reading = how;
    } in
    at_valued id (more_values s (v ∷ vs)) (new ∷ []) (λ r k. (more r.values (v ∷ vs) k, tt)) (tt, tt) rows h

used_as_valued : (x : ArgAction) (id : Text) (how : Reading) (v : Text) (vs : List Text) (rows : List Row) → Valued rows → Valued (used_as x id how (v ∷ vs) rows)
used_as_valued action.Set id how v vs rows h = with_valued id how _ v vs _ (without_valued id rows h)
used_as_valued action.SetTrue id how v vs rows h = with_valued id how _ v vs _ (without_valued id rows h)
used_as_valued action.SetFalse id how v vs rows h = with_valued id how _ v vs _ (without_valued id rows h)
used_as_valued action.Append id how v vs rows h = with_valued id how _ v vs rows h
used_as_valued action.Count id how v vs rows h = with_valued id how _ v vs _ (without_valued id rows h)
used_as_valued action.Help id how v vs rows h = h
used_as_valued action.HelpShort id how v vs rows h = h
used_as_valued action.HelpLong id how v vs rows h = h
used_as_valued action.Version id how v vs rows h = h

by_id_valued : (o : Option Rule) (vs : List Text) (rows : List Row) → HasSome vs → Valued rows → Valued (used_by_id o vs rows)
by_id_valued None vs rows s h = h
by_id_valued (Some a) [] rows s h = absurd s
by_id_valued (Some a) (v ∷ vs) rows s h = used_as_valued (action_of a) a.id (reading_by a) v vs rows h

abbrev IsPendingValued : Option (Text × List Text) → Type 0
IsPendingValued None = ⊤
IsPendingValued (Some p) = HasSome p.1

settled_valued : (c : List Rule) (p : Option (Text × List Text)) (rows : List Row) → IsPendingValued p → Valued rows → Valued (settled_rows c p rows)
settled_valued c None rows s h = h
settled_valued c (Some p) rows s h = by_id_valued (arg_by_id c p.0) p.1 rows s h

abbrev Holds : Held → Type 0
Holds h = Valued h.rows × IsPendingValued h.pending

settled_holds : (c : List Rule) (h : Held) → Holds h → Holds (settled c h)
settled_holds c h k = (settled_valued c h.pending h.rows k.1 k.0, tt)

pushed_holds : (id word : Text) (h : Held) → Holds h → Holds (pushed id word h)
pushed_holds id word h k = (k.0, one_more (started id h.pending).1 word)

-- a flag, whose use leaves no row
abbrev pub IsFlag : Option Rule → Type 0
IsFlag None = ⊤
IsFlag (Some a) = (takes_values a ≡ false) × ((rows : List Row) → used a [] rows ≡ rows)

module _ (c : List Rule) where
  reacted_holds : (a : Rule) (h : Held) → IsFlag (Some a) → Holds h → Holds (reacted c a [] h)
  reacted_holds a h f k = (subst Valued (sym (f.1 _)) (settled_valued c h.pending h.rows k.1 k.0), tt)

  flag_holds : (a : Rule) (v : Option Text) (h : Held) → IsFlag (Some a) → Holds h → Holds (flag_met c a v h).0
  flag_holds a (Some v) h f k = k
  flag_holds a None h f k = reacted_holds a h f k

  long_holds : (o : Option Rule) (v : Option Text) (h : Held) → IsFlag o → Holds h → Holds (long_met c o v h).0
  long_holds None v h f k = k
  long_holds (Some a) v h f k = past_if (λ (r : Held × Outcome). Holds r.0) (takes_values a) _ _ f.0 (flag_holds a v h f k)

  short_holds : (o : Option Rule) (rest : Text) (h : Held) (after : Held → Held × Outcome) → IsFlag o → ((g : Held) → Holds g → Holds (after g).0) → Holds h → Holds (short_met c o rest h after).0
  short_holds None rest h after f below k = k
  short_holds (Some a) rest h after f below k = past_if (λ (r : Held × Outcome). Holds r.0) (takes_values a) _ _ f.0 (below _ (reacted_holds a h f k))

  plain_holds : (waiting : Waiting) (word : Text) (h : Held) → Holds h → Holds (plain_word c waiting word h).0
  plain_holds idle word h k = k
  plain_holds positional word h k = k
  plain_holds (option id) word h k = go (arg_by_id c id)
    where
      go : (o : Option Rule) → Holds (option_word o id word h).0
      go None = k
      go (Some a) = pushed_holds id word h k

  after_flag_holds : (waiting : Waiting) (word : Text) (h : Held) (o : Outcome) → Holds h → Holds (after_flag c waiting word h o).0
  after_flag_holds waiting word h done k = k
  after_flag_holds waiting word h (waits id) k = k
  after_flag_holds waiting word h plain k = plain_holds waiting word h k
  after_flag_holds waiting word h refused k = plain_holds waiting word h k

  to_holds : (o : Option Rule) (word : Text) (w : Walk) (h : Held) → Holds h → Holds (to_positional c o word w h).held
  to_holds None word w h k = k
  to_holds (Some a) word w h k = pushed_holds a.id word (if is_pending a h.pending && takes_several a then h else settled c h) (either Holds (is_pending a h.pending && takes_several a) h (settled c h) k (settled_holds c h k))

  step_holds : (word : Text) (w : Walk) (h : Held) (s : Step) → Holds h → Holds (after_step c word w h s).held
  step_holds word w h (next waiting) k = k
  step_holds word w h (trailing position) k = k
  step_holds word w h (subcommand name) k = k
  step_holds word w h value k = to_holds (arg_by_index c w.position) word w h k

  default_holds : (rows : List Row) (a : Rule) → Valued rows → Valued (with_default rows a)
  default_holds rows a h = either Valued (has_row a.id rows) rows _ h (go a.defaults)
    where
      go : (vs : List Text) → Valued (default_rows a.id (reading_by a) vs rows)
      go [] = h
      go (v ∷ vs) = with_valued a.id (reading_by a) DefaultValue v vs rows h

defaults_hold : (rows : List Row) (c : List Rule) → Valued rows → Valued (fold with_default rows c)
defaults_hold rows [] h = h
defaults_hold rows (a ∷ rest) h = defaults_hold (with_default rows a) rest (default_holds [] rows a h)

module _ (c : List Rule) (longs : (name : Text) → IsFlag (arg_by_long c name)) (shorts : (x : ℕ) → IsFlag (arg_by_short c x)) where
  bundle_step_holds : (o : Option ℕ) (flags : Text) (skip : ℕ) (so_far : Outcome) (h : Held) (after : Text → ℕ → Outcome → Held → Held × Outcome)
      → ((t : Text) (n : ℕ) (s : Outcome) (g : Held) → Holds g → Holds (after t n s g).0) → Holds h → Holds (bundle_step c o flags skip so_far h after).0
  bundle_step_holds None flags skip so_far h after below k = k
  bundle_step_holds (Some x) flags zero so_far h after below k = short_holds c (arg_by_short c x) _ h _ (shorts x) (below _ 0 done) k
  bundle_step_holds (Some x) flags (suc skip) so_far h after below k = below _ skip so_far h k

  bundle_holds : (n : ℕ) (flags : Text) (skip : ℕ) (so_far : Outcome) (h : Held) → Holds h → Holds (bundle_met c n flags skip so_far h).0
  unfolding bundle_met
  bundle_holds zero flags skip so_far h k = k
  bundle_holds (suc n) flags skip so_far h k = bundle_step_holds (slice_get (chars flags) 0) flags skip so_far h (bundle_met c n) (bundle_holds n) k

  short_or_holds : (waiting : Waiting) (word : Text) (o : Option Text) (h : Held) → Holds h → Holds (short_or_plain c waiting word o h).0
  short_or_holds waiting word None h k = plain_holds c waiting word h k
  short_or_holds waiting word (Some flags) h k = after_flag_holds c waiting word _ _ (bundle_holds (length flags) flags h.skip plain (record h { skip = 0 }) k)

  long_or_holds : (waiting : Waiting) (word : Text) (o : Option (Text × Option Text)) (h : Held) → Holds h → Holds (long_or_other c waiting word o h).0
  long_or_holds waiting word (Some p) h k = after_flag_holds c waiting word _ _ (long_holds c (arg_by_long c p.0) p.1 h (longs p.0) k)
  long_or_holds waiting word None h k = short_or_holds waiting word (short_of word) h k

  other_holds : (o : Option Text) (waiting : Waiting) (position : ℕ) (word : Text) (h : Held) → Holds h → Holds (subcommand_or_other c o waiting position word h).0
  other_holds (Some name) waiting position word h k = k
  other_holds None waiting position word h k =
      either (λ (r : Held × Step). Holds r.0) (bytes_eq word (45 ∷ 45 ∷ [])) _ _ k (long_or_holds waiting word (long_of word) h k)

  word_holds : (names : Names) (is_trailing : Bool) (waiting : Waiting) (position : ℕ) (word : Text) (h : Held) → Holds h → Holds (word_met c names is_trailing waiting position word h).0
  word_holds names is_trailing waiting position word h k =
      either (λ (r : Held × Step). Holds r.0) is_trailing _ _ k (other_holds (subcommand_met names waiting word) waiting position word h k)

  walked_holds : (names : Names) (w : Walk) (word : Text) → Holds w.held → Holds (walked c names w word).held
  unfolding walked
  walked_holds names w word k = go w.stopped
    where
      go : (o : Option (Text × List Text)) → Holds (walked_from c names o w word).held
      go (Some p) = k
      go None = step_holds c word w _ _ (word_holds names w.is_trailing w.waiting w.position word w.held k)

  walk_holds : (names : Names) (w : Walk) (words : List Text) → Holds w.held → Holds (fold (walked c names) w words).held
  walk_holds names w [] k = k
  walk_holds names w (x ∷ xs) k = walk_holds names (walked c names w x) xs (walked_holds names w x k)

  rows_valued : (names : Names) (words : List Text) → Valued (rows_after c names words)
  rows_valued names words = defaults_hold _ c (settled_holds c (walk c names nothing_held words).held (walk_holds names (walk_from nothing_held) words (tt, tt))).0

  -- what was given has a first value
  pub given_first : (names : Names) (words : List Text) (id : Text) → is_given id (rows_after c names words) ≡ true → is_some (first_of id (rows_after c names words)) ≡ true
  given_first names words id = go (rows_after c names words) (rows_valued names words)
    where
      row : (r : Row) → HasSome r.values → is_some (slice_get r.values 0) ≡ true
      row r h = some r.values h
        where
          some : (vs : List Text) → HasSome vs → is_some (slice_get vs 0) ≡ true
          some [] h = absurd h
          some (v ∷ vs) h = refl

      here : (b : Bool) (r : Row) (rest : Option Row) → HasSome r.values
          → (option_map_or (λ x. explicit_source x.source) rest false ≡ true → is_some (option_and_then (λ x. slice_get x.values 0) rest) ≡ true)
          → option_map_or (λ x. explicit_source x.source) (cond b (Some r) rest) false ≡ true → is_some (option_and_then (λ x. slice_get x.values 0) (cond b (Some r) rest)) ≡ true
      here true r rest h below given = row r h
      here false r rest h below given = below given

      go : (rows : List Row) → Valued rows → is_given id rows ≡ true → is_some (first_of id rows) ≡ true
      go [] h given = absurd (true≢false (sym given))
      go (r ∷ rs) h given = here (bytes_eq r.id id) r (find (λ x. bytes_eq x.id id) rs) h.0 (go rs h.1) given
