-- Laws of a recording that is watched.
use Rattle.std.proofs.Common.{◌≡◌, ◌∙◌, ℕ, ◌+◌, ◌<◌, ◌^◌, arith, Bool, Option, Some, None, is_some, true, false, inl, List, [], ◌∷◌, ◌++◌, length, refl, sym, ap, subst, append_assoc, append-nil, length-append}
use Rattle.std.specs.List.{AllByRecursion}
use Rattle.bus_word.specs.declared.cell.Cell.{Cell}
use Rattle.bus_legal.specs.Description.{Description}
use Rattle.terminal_rules.specs.declared.event.Event.{Event}
use Rattle.terminal_recordings.specs.Recordings.{Sighting, IsRecording}
use Rattle.terminal_recordings.specs.Completion.{status_sent, next_status, flag_shown}
use Rattle.terminal_recordings.specs.MaybeGaps.{MaybeSighting, Seen, MaybeGap, IsExplainedSomehow, IsMaybeRecording, certainly}
use Rattle.terminal_recordings.proofs.MaybeLaw.{maybe_law}
use Rattle.recorded_terminal.specs.declared.watch.Marked.{Marked}
use Rattle.recorded_terminal.specs.declared.watch.Unexplained.{Unexplained}
use Rattle.recorded_terminal.specs.declared.watch.Watch.{Watch}
use Rattle.recorded_terminal.specs.declared.way.Way.{Way}
use Rattle.recorded_terminal.specs.Marks.{maybe, maybe_in, seen_in, HasManyWays}
use Rattle.recorded_terminal.specs.Ways.{AnyCanGoOn, AreWays, WayIsAt, Goes}
use Rattle.recorded_terminal.specs.declared.flag_ways.FlagWays.{FlagWays}
use Rattle.recorded_terminal.specs.Follows.{ShowTheSame}
use Rattle.recorded_terminal.specs.Watched.{instead_of, most_waiting, IsUnexplainedAt, IsDecidedAt, IsFollowing, LeadOn, LeadOnBy, LeadOnByFlags, WatchesBy}
use Rattle.recorded_terminal.specs.inner.Steps.{AreCopies, StepsTo, LeavesNone}
use Rattle.recorded_terminal.specs.inner.Followed.{AreBefore, AreFollowed, EndsAt, Followed, FollowedByFlags}
use Rattle.recorded_terminal.proofs.WayLaws.{maybe_append, certainly_append, one_recording, are_recording, certain_recording, way_explained}

-- ---- the next status word

next_over : (xs ys : List Sighting) → next_status xs ≡ None → next_status (xs ++ ys) ≡ next_status ys
next_over [] ys e = refl
next_over (x ∷ xs) ys e = by (status_sent x.sent) e (next_over xs ys)
  where
    by : (o : Option ℕ) → elim o as (λ o. Option ℕ) [ None ↦ next_status xs | Some bits ↦ Some bits ] ≡ None → (next_status xs ≡ None → next_status (xs ++ ys) ≡ next_status ys) →
        elim o as (λ o. Option ℕ) [ None ↦ next_status (xs ++ ys) | Some bits ↦ Some bits ] ≡ next_status ys
    by None e next = next e
    by (Some bits) e next = absurd (cc)

status_stays : (xs ys : List Sighting) (status : Option ℕ) → next_status xs ≡ status → is_some status ≡ true → next_status (xs ++ ys) ≡ status
status_stays [] ys status e some = let wrong : false ≡ true = ap is_some e ∙ some in absurd (cc)
status_stays (x ∷ xs) ys status e some = by (status_sent x.sent) e (λ f. status_stays xs ys status f some)
  where
    by : (o : Option ℕ) → elim o as (λ o. Option ℕ) [ None ↦ next_status xs | Some bits ↦ Some bits ] ≡ status → (next_status xs ≡ status → next_status (xs ++ ys) ≡ status) →
        elim o as (λ o. Option ℕ) [ None ↦ next_status (xs ++ ys) | Some bits ↦ Some bits ] ≡ status
    by None e next = next e
    by (Some bits) e next = e

later_none : (x : MaybeSighting) (xs : List MaybeSighting) → next_status (certainly (x ∷ xs)) ≡ None → next_status (certainly xs) ≡ None
later_none (MaybeGap b) xs e = e
later_none (Seen s) xs e = by (status_sent s.sighting.sent) e
  where
    by : (o : Option ℕ) → elim o as (λ o. Option ℕ) [ None ↦ next_status (certainly xs) | Some bits ↦ Some bits ] ≡ None → next_status (certainly xs) ≡ None
    by None e = e
    by (Some bits) e = absurd (cc)

pub seen_append : (ms ns : List Marked) → seen_in (ms ++ ns) ≡ seen_in ms ++ seen_in ns
seen_append ms ns = ap certainly (maybe_append ms ns) ∙ certainly_append (maybe_in ms) (maybe_in ns)

-- those that wait have as their next what comes behind them
pub before_later : (ws : List Marked) (status : Option ℕ) (later : List Sighting) → next_status (seen_in ws) ≡ None → ShowTheSame (next_status later) status → AreBefore status ws later
before_later [] status later none same = tt
before_later (w ∷ ws) status later none same = (λ f. ap (λ o. flag_shown o f) (next_over (seen_in (w ∷ ws)) later none) ∙ same f, before_later ws status later (later_none (maybe w) (maybe_in ws) none) same)

-- or a status word behind them
before_status : (ws : List Marked) (m : Marked) (status : Option ℕ) (later : List Sighting) → next_status (seen_in ws) ≡ None → ((later : List Sighting) → next_status (seen_in (m ∷ []) ++ later) ≡ status) → AreBefore status (ws ++ m ∷ []) later
before_status [] m status later none is = (λ f. ap (λ o. flag_shown o f) (is later), tt)
before_status (w ∷ ws) m status later none is = (
  λ f. ap (λ o. flag_shown o f)
      (ap next_status (ap (λ l. l ++ later) (seen_append (w ∷ ws) (m ∷ [])) ∙ append_assoc (seen_in (w ∷ ws)) (seen_in (m ∷ [])) later)
      ∙ (next_over (seen_in (w ∷ ws)) (seen_in (m ∷ []) ++ later) none ∙ is later)),
  before_status ws m status later (later_none (maybe w) (maybe_in ws) none) is,
)

none_more : (ws : List Marked) (m : Marked) → next_status (seen_in ws) ≡ None → next_status (seen_in (m ∷ [])) ≡ None → next_status (seen_in (ws ++ m ∷ [])) ≡ None
none_more ws m none is = ap next_status (seen_append ws (m ∷ [])) ∙ (next_over (seen_in ws) (seen_in (m ∷ [])) none ∙ is)

-- of a front, before the rest
before_front : (status : Option ℕ) (xs ys : List Marked) (later : List Sighting) → AreBefore status (xs ++ ys) later → AreBefore status xs (seen_in ys ++ later)
before_front status [] ys later b = tt
before_front status (x ∷ xs) ys later (e, b) = (
  λ f. ap (λ l. flag_shown (next_status l) f) (sym (append_assoc (seen_in (x ∷ xs)) (seen_in ys) later) ∙ ap (λ l. l ++ later) (sym (seen_append (x ∷ xs) ys))) ∙ e f,
  before_front status xs ys later b,
)

before_first : (status : Option ℕ) (xs : List Marked) (y : Marked) (ys : List Marked) (later : List Sighting) → AreBefore status (xs ++ y ∷ ys) later → ShowTheSame (next_status (seen_in (xs ++ y ∷ ys) ++ later)) status
before_first status [] y ys later b = b.0
before_first status (x ∷ xs) y ys later b = b.0

before_last : (status : Option ℕ) (xs : List Marked) (y : Marked) (ys : List Marked) (later : List Sighting) → AreBefore status (xs ++ y ∷ ys) later → ShowTheSame (next_status (seen_in (y ∷ ys) ++ later)) status
before_last status [] y ys later b = b.0
before_last status (x ∷ xs) y ys later b = before_last status xs y ys later b.1

-- ---- sightings that are followed

-- nothing was followed yet
pub none_followed : {L : Type 0} (is_legal : L → Cell → Bool) (P : Description) (h : List Event) (ms : List Marked) (status : Option ℕ) (ws : List (Way L)) → AreWays is_legal P h ms ws → AreFollowed is_legal P h ms status [] ws ws
none_followed is_legal P h ms status ws ways = record { ways = subst (λ l. AreWays is_legal P h l ws) (sym (append-nil ms)) ways; goes_on = λ more later is r b x. x }

-- and one sighting more
pub followed_more : {L : Type 0} (is_legal : L → Cell → Bool) (P : Description) (h : List Event) (ms : List Marked) (status : Option ℕ) (front : List Marked) (m : Marked) (ws mids news : List (Way L)) → AreFollowed is_legal P h ms status front ws mids →
    StepsTo is_legal P h (ms ++ front) m status mids news → AreFollowed is_legal P h ms status (front ++ m ∷ []) ws news
followed_more is_legal P h ms status front m ws mids news f s = record {
  ways = subst (λ l. AreWays is_legal P h l news) (append_assoc ms front (m ∷ [])) s.ways;
  goes_on = λ more later is r b x.
      let cut : maybe_in (front ++ m ∷ []) ++ more ≡ maybe_in front ++ maybe m ∷ more = ap (λ l. l ++ more) (maybe_append front (m ∷ [])) ∙ append_assoc (maybe_in front) (maybe m ∷ []) more in
      let here : certainly (maybe m ∷ more) ++ later ≡ seen_in (m ∷ []) ++ (certainly more ++ later) =
      ap (λ l. l ++ later) (certainly_append (maybe m ∷ []) more) ∙ append_assoc (seen_in (m ∷ [])) (certainly more) later in
      let before : AreBefore status front (certainly (maybe m ∷ more) ++ later) =
      subst (AreBefore status front) (sym here) (before_front status front (m ∷ []) (certainly more ++ later) b) in
      s.goes_on more later (record { are_more = is; are_later = r; next = λ f. ap (λ l. flag_shown (next_status l) f) here ∙ before_last status front m [] (certainly more ++ later) b f })
      (f.goes_on (maybe m ∷ more) later (one_recording m more is) r before (subst (λ l. AnyCanGoOn is_legal P l ws) cut x));
}

recording_join : (xs ys : List Sighting) → IsRecording xs → IsRecording ys → IsRecording (xs ++ ys)
recording_join [] ys r q = q
recording_join (x ∷ xs) ys (is, r) q = (is, recording_join xs ys r q)

pub ends_at : {L : Type 0} (is_legal : L → Cell → Bool) (P : Description) (h : List Event) (ms : List Marked) (n : ℕ) (status : Option ℕ) (waiting front : List Marked) (it : Unexplained) (rest : List Marked) (ws mids : List (Way L)) →
    AreFollowed is_legal P h ms status front ws mids → LeavesNone is_legal P h (ms ++ front) it.marked status mids it.sent → waiting ≡ front ++ it.marked ∷ rest → it.number ≡ n + length front → EndsAt is_legal P h ms n status waiting ws it
ends_at is_legal P h ms n status waiting front it rest ws mids f e all number = record {
  before = front;
  rest = rest;
  all = all;
  number = number;
  possible = e.possible;
  never = λ later r b x.
      let m : Marked = it.marked in
      let behind : List Sighting = seen_in rest ++ later in
      let b : AreBefore status (front ++ m ∷ rest) later = subst (λ l. AreBefore status l later) all b in
      let here : seen_in (m ∷ rest) ++ later ≡ seen_in (m ∷ []) ++ behind = ap (λ l. l ++ later) (seen_append (m ∷ []) rest) ∙ append_assoc (seen_in (m ∷ [])) (seen_in rest) later in
      let before : AreBefore status front (seen_in (m ∷ []) ++ behind) = subst (AreBefore status front) here (before_front status front (m ∷ rest) later b) in
      let is : IsRecording behind = recording_join (seen_in rest) later (certain_recording (maybe_in rest) (are_recording rest)) r in
      let cut : maybe_in (front ++ m ∷ []) ≡ maybe_in front ++ maybe m ∷ [] = maybe_append front (m ∷ []) in
      e.never [] behind (record { are_more = tt; are_later = is; next = λ f. ap (λ l. flag_shown (next_status l) f) (sym here) ∙ before_last status front m rest later b f })
      (f.goes_on (maybe m ∷ []) behind (one_recording m [] tt) is before (subst (λ l. AnyCanGoOn is_legal P l ws) cut x));
}

-- ---- ways that lead on

maybe_join : (ws : List Marked) (more : List MaybeSighting) → IsMaybeRecording more → IsMaybeRecording (maybe_in ws ++ more)
maybe_join [] more are = are
maybe_join (w ∷ ws) more are = one_recording w (maybe_in ws ++ more) (maybe_join ws more are)

maybe_cut : (ms ws : List Marked) (more : List MaybeSighting) → maybe_in (ms ++ ws) ++ more ≡ maybe_in ms ++ (maybe_in ws ++ more)
maybe_cut ms ws more = ap (λ l. l ++ more) (maybe_append ms ws) ∙ append_assoc (maybe_in ms) (maybe_in ws) more

certain_cut : (ws : List Marked) (more : List MaybeSighting) (later : List Sighting) → certainly (maybe_in ws ++ more) ++ later ≡ seen_in ws ++ (certainly more ++ later)
certain_cut ws more later = ap (λ l. l ++ later) (certainly_append (maybe_in ws) more) ∙ append_assoc (seen_in ws) (certainly more) later

-- with sightings more
leads_more : {L : Type 0} (is_legal : L → Cell → Bool) (P : Description) (h : List Event) (ms ws : List Marked) (status next : Option ℕ) (olds news : List (Way L)) → LeadOn is_legal P h ms status olds → AreFollowed is_legal P h ms status ws olds news →
    ((later : List Sighting) → ShowTheSame (next_status later) next → ShowTheSame (next_status (seen_in ws ++ later)) status × AreBefore status ws later) → LeadOn is_legal P h (ms ++ ws) next news
leads_more is_legal P h ms ws status next olds news i f before = record {
  ways = f.ways;
  goes_on = λ more later is r same x.
      let b = before (certainly more ++ later) same in
      f.goes_on more later is r b.1
      (i.goes_on (maybe_in ws ++ more) later (maybe_join ws more is) r (λ g. ap (λ l. flag_shown (next_status l) g) (certain_cut ws more later) ∙ b.0 g) (subst (IsExplainedSomehow P h) (maybe_cut ms ws more) x));
}

-- where none of those that wait shows a status word
pub leads_waiting : {L : Type 0} (is_legal : L → Cell → Bool) (P : Description) (h : List Event) (ms ws : List Marked) (status : Option ℕ) (olds news : List (Way L)) → LeadOn is_legal P h ms status olds → AreFollowed is_legal P h ms status ws olds news →
    next_status (seen_in ws) ≡ None → LeadOn is_legal P h (ms ++ ws) status news
leads_waiting is_legal P h ms ws status olds news i f none =
    leads_more is_legal P h ms ws status status olds news i f (λ later same. (λ g. ap (λ o. flag_shown o g) (next_over (seen_in ws) later none) ∙ same g, before_later ws status later none same))

-- another status word with the same flags
pub leads_same : {L : Type 0} (is_legal : L → Cell → Bool) (P : Description) (h : List Event) (ms : List Marked) (one other : Option ℕ) (ws : List (Way L)) → ShowTheSame one other → LeadOn is_legal P h ms other ws → LeadOn is_legal P h ms one ws
leads_same is_legal P h ms one other ws same i = record { ways = i.ways; goes_on = λ more later is r next x. i.goes_on more later is r (λ f. next f ∙ same f) x }

pub leads_copies : {L : Type 0} (is_legal : L → Cell → Bool) (P : Description) (h : List Event) (ms : List Marked) (status : Option ℕ) (olds news : List (Way L)) → AreCopies is_legal olds news → LeadOn is_legal P h ms status olds → LeadOn is_legal P h ms status news
leads_copies {L = L} is_legal P h ms status olds news c i = record {
  ways = record {
    goes = c.goes P h ms i.ways.goes;
    some = λ e. i.ways.some (none_long olds (sym c.long ∙ ap length e));
    few = omega (arith, c.long, i.ways.few);
    most = omega (arith, c.long, i.ways.most);
  };
  goes_on = λ more later is r same x. c.goes_on P more (i.goes_on more later is r same x);
}
  where
    none_long : (ws : List (Way L)) → length ws ≡ 0 → ws ≡ []
    none_long [] e = refl
    none_long (w ∷ ws) e = absurd (omega (arith, e))

-- ---- a watch

-- one that has seen nothing
pub begins_following : {L : Type 0} (is_legal : L → Cell → Bool) (P : Description) (h : List Event) (w : Watch L) (way : Way L) → w.ways.items ≡ way ∷ [] → WayIsAt is_legal P h way → w.by_flags.items ≡ [] → w.waiting.items ≡ [] → w.followed ≡ 0 → IsFollowing is_legal P h [] w
begins_following {L = L} is_legal P h w way one at whole empty none = record {
  followed = [];
  all = sym empty;
  leads = subst (LeadOnBy is_legal P h [] w.ways.items) (sym whole) leads;
  few = subst (λ l. length l < most_waiting) (sym empty) (omega arith);
  none = ap (λ l. next_status (seen_in l)) empty;
  counted = none;
  bound = subst (λ n. n + length w.waiting.items < 2 ^ 64) (sym none) (subst (λ l. 0 + length l < 2 ^ 64) (sym empty) (omega arith));
}
  where
    leads : (status : Option ℕ) → LeadOn is_legal P h [] status w.ways.items
    leads status = record {
      ways = record {
        goes = subst (AllByRecursion (Goes is_legal P h [])) (sym one) ((h, at, record { events = []; proper = tt; history = refl; reading = []; reads = refl; fits = tt }), tt);
        some = λ e. let wrong : way ∷ [] ≡ [] = sym one ∙ e in cc;
        few = omega (arith, ap length one);
        most = omega (arith, ap length one);
      };
      goes_on = λ more later is r same x. subst (λ l. AnyCanGoOn is_legal P more l) (sym one) (inl (h, at, x));
    }

-- what was found stays
found_more : (P : Description) (h : List Event) (ms : List Marked) (m : Marked) (it : Unexplained) → IsUnexplainedAt P h ms it → IsUnexplainedAt P h (ms ++ m ∷ []) it
found_more P h ms m it i = record {
  before = i.before;
  later = i.later ++ m ∷ [];
  all = ap (λ l. l ++ m ∷ []) i.all ∙ append_assoc i.before (it.marked ∷ i.later) (m ∷ []);
  number = i.number;
  explained = i.explained;
  unexplained = i.unexplained;
  possible = i.possible;
}

all_more : {L : Type 0} (is_legal : L → Cell → Bool) (P : Description) (h : List Event) (ms : List Marked) (m : Marked) (w : Watch L) (i : IsFollowing is_legal P h ms w) (ws : List Marked) → ws ≡ w.waiting.items ++ m ∷ [] → ms ++ m ∷ [] ≡ i.followed ++ ws
all_more is_legal P h ms m w i ws grown = ap (λ l. l ++ m ∷ []) i.all ∙ append_assoc i.followed w.waiting.items (m ∷ []) ∙ ap (λ l. i.followed ++ l) (sym grown)

-- one sighting more waits
waits_more : {L : Type 0} (is_legal : L → Cell → Bool) (P : Description) (h : List Event) (ms : List Marked) (m : Marked) (w v : Watch L) → IsFollowing is_legal P h ms w → v.ways ≡ w.ways → v.by_flags ≡ w.by_flags → v.followed ≡ w.followed →
    v.waiting.items ≡ w.waiting.items ++ m ∷ [] → length v.waiting.items < most_waiting → v.followed + length v.waiting.items < 2 ^ 64 → next_status (seen_in (m ∷ [])) ≡ None → IsFollowing is_legal P h (ms ++ m ∷ []) v
waits_more is_legal P h ms m w v i same parts still grown few bound none = record {
  followed = i.followed;
  all = all_more is_legal P h ms m w i v.waiting.items grown;
  leads = subst (λ ps. LeadOnBy is_legal P h i.followed v.ways.items ps.items) (sym parts) (subst (λ ws. LeadOnBy is_legal P h i.followed ws.items w.by_flags.items) (sym same) i.leads);
  few = few;
  none = ap (λ l. next_status (seen_in l)) grown ∙ none_more w.waiting.items m i.none none;
  counted = still ∙ i.counted;
  bound = bound;
}

-- those that wait are followed
follows_more : {L : Type 0} (is_legal : L → Cell → Bool) (P : Description) (h : List Event) (ms : List Marked) (m : Marked) (w v : Watch L) (ws : List Marked) (i : IsFollowing is_legal P h ms w) → ws ≡ w.waiting.items ++ m ∷ [] →
    v.waiting.items ≡ [] → v.followed ≡ w.followed + length ws → v.followed < 2 ^ 64 → LeadOnBy is_legal P h (i.followed ++ ws) v.ways.items v.by_flags.items → IsFollowing is_legal P h (ms ++ m ∷ []) v
follows_more is_legal P h ms m w v ws i grown empty seen bound leads =
    let all : ms ++ m ∷ [] ≡ i.followed ++ ws = all_more is_legal P h ms m w i ws grown in
    record {
      followed = ms ++ m ∷ [];
      all = sym (append-nil (ms ++ m ∷ [])) ∙ ap (λ l. (ms ++ m ∷ []) ++ l) (sym empty);
      leads = subst (λ l. LeadOnBy is_legal P h l v.ways.items v.by_flags.items) (sym all) leads;
      few = subst (λ l. length l < most_waiting) (sym empty) (omega arith);
      none = ap (λ l. next_status (seen_in l)) empty;
      counted = seen ∙ ap (λ n. n + length ws) i.counted ∙ sym (length-append i.followed ws) ∙ ap length (sym all);
      bound = subst (λ l. v.followed + length l < 2 ^ 64) (sym empty) (omega arith);
    }

-- or one of them is found
pub found_in : {L : Type 0} (is_legal : L → Cell → Bool) (P : Description) (h : List Event) (ms ws : List Marked) (n : ℕ) (status : Option ℕ) (later : List Sighting) (olds : List (Way L)) (it : Unexplained) → IsRecording later → AreBefore status ws later → n ≡ length ms →
    LeadOn is_legal P h ms status olds → EndsAt is_legal P h ms n status ws olds it → IsUnexplainedAt P h (ms ++ ws) it
found_in is_legal P h ms ws n status later olds it are before counted i e =
    let m : Marked = it.marked in
    let front : List Marked = ms ++ e.before in
    record {
      before = front;
      later = e.rest;
      all = ap (λ l. ms ++ l) e.all ∙ sym (append_assoc ms e.before (m ∷ e.rest));
      number = e.number ∙ (ap (λ i. i + length e.before) counted ∙ sym (length-append ms e.before));
      explained = maybe_law.fronts P h (maybe_in front) (instead_of it ∷ []) e.possible;
      unexplained = λ x.
          let here : List Marked = e.before ++ m ∷ [] in
          let cut : maybe_in (front ++ m ∷ []) ≡ maybe_in ms ++ maybe_in here = ap maybe_in (append_assoc ms e.before (m ∷ [])) ∙ maybe_append ms here in
          let behind : seen_in ws ++ later ≡ seen_in here ++ (seen_in e.rest ++ later) =
          ap (λ l. seen_in l ++ later) (e.all ∙ sym (append_assoc e.before (m ∷ []) e.rest)) ∙ (ap (λ l. l ++ later) (seen_append here e.rest) ∙ append_assoc (seen_in here) (seen_in e.rest) later) in
          let next : ShowTheSame (next_status (seen_in ws ++ later)) status =
          subst (λ l. ShowTheSame (next_status (seen_in l ++ later)) status) (sym e.all) (before_first status e.before m e.rest later (subst (λ l. AreBefore status l later) e.all before)) in
          e.never later are before
          (i.goes_on (maybe_in here) (seen_in e.rest ++ later) (are_recording here) (recording_join (seen_in e.rest) later (certain_recording (maybe_in e.rest) (are_recording e.rest)) are) (λ f. ap (λ l. flag_shown (next_status l) f) (sym behind) ∙ next f)
          (subst (IsExplainedSomehow P h) cut x));
      possible = e.possible;
    }

-- what is found is not explained
pub found_unexplained : (P : Description) (h : List Event) (ms : List Marked) (it : Unexplained) → IsUnexplainedAt P h ms it → IsExplainedSomehow P h (maybe_in ms) → ⊥
found_unexplained P h ms it i x =
    let here : List Marked = i.before ++ it.marked ∷ [] in
    let cut : maybe_in ms ≡ maybe_in here ++ maybe_in i.later = ap maybe_in (i.all ∙ sym (append_assoc i.before (it.marked ∷ []) i.later)) ∙ maybe_append here i.later in
    i.unexplained (maybe_law.fronts P h (maybe_in here) (maybe_in i.later) (subst (IsExplainedSomehow P h) cut x))

decided_by : (P : Description) (h : List Event) (ms : List Marked) (it : Unexplained) → IsUnexplainedAt P h ms it → IsDecidedAt P h ms (Some it)
decided_by P h ms it found = record { explained = (λ e. absurd (cc), λ x. absurd (found_unexplained P h ms it found x)); unexplained = found }

pub decided_first : {L : Type 0} (is_legal : L → Cell → Bool) (P : Description) (h : List Event) (ms : List Marked) (w : Watch L) (o : Option Unexplained) → is_some o ≡ true → WatchesBy is_legal P h ms w o → IsDecidedAt P h ms o
decided_first is_legal P h ms w None some watches = absurd (cc)
decided_first is_legal P h ms w (Some it) some watches = decided_by P h ms it watches

-- some way explains all
ways_explain : {L : Type 0} (is_legal : L → Cell → Bool) (P : Description) (h : List Event) (ms : List Marked) (ws : List (Way L)) → AreWays is_legal P h ms ws → IsExplainedSomehow P h (maybe_in ms)
ways_explain is_legal P h ms [] ways = absurd (ways.some refl)
ways_explain is_legal P h ms (w ∷ ws) ways = let g = ways.goes.0 in way_explained P h ms g.0 g.2

-- so is decided what was seen
pub ended : {L : Type 0} (is_legal : L → Cell → Bool) (P : Description) (h : List Event) (ms : List Marked) (w : Watch L) (olds news : List (Way L)) (result : Option Unexplained) → (i : IsFollowing is_legal P h ms w) → LeadOn is_legal P h i.followed None olds →
    (w.followed + length w.waiting.items < 2 ^ 64 → AreWays is_legal P h i.followed olds → Followed is_legal P h i.followed w.followed None w.waiting.items olds news result) → IsDecidedAt P h ms result
ended is_legal P h ms w olds news result i leads followed = by result (followed i.bound leads.ways)
  where
    by : (result : Option Unexplained) → Followed is_legal P h i.followed w.followed None w.waiting.items olds news result → IsDecidedAt P h ms result
    by None f = record {
      explained = (λ e. subst (λ l. IsExplainedSomehow P h (maybe_in l)) (sym i.all) (ways_explain is_legal P h (i.followed ++ w.waiting.items) news f.ways), λ x. refl);
      unexplained = tt;
    }
    by (Some it) f =
        decided_by P h ms it
        (subst (λ l. IsUnexplainedAt P h l it) (sym i.all) (found_in is_legal P h i.followed w.waiting.items w.followed None [] olds it tt (before_later w.waiting.items None [] i.none (λ f. refl)) i.counted leads f))

-- ---- one sighting more

pub found_stays : {L : Type 0} (is_legal : L → Cell → Bool) (P : Description) (h : List Event) (ms : List Marked) (m : Marked) (w v : Watch L) (o : Option Unexplained) → is_some o ≡ true → WatchesBy is_legal P h ms w o → WatchesBy is_legal P h (ms ++ m ∷ []) v o
found_stays is_legal P h ms m w v None some watches = absurd (cc)
found_stays is_legal P h ms m w v (Some it) some watches = found_more P h ms m it watches

pub follows_still : {L : Type 0} (is_legal : L → Cell → Bool) (P : Description) (h : List Event) (ms : List Marked) (w : Watch L) (o : Option Unexplained) → is_some o ≡ false → WatchesBy is_legal P h ms w o → IsFollowing is_legal P h ms w
follows_still is_legal P h ms w None none watches = watches
follows_still is_legal P h ms w (Some it) none watches = absurd (cc)

none_of : (o : Option Unexplained) → is_some o ≡ false → None ≡ o
none_of None none = refl
none_of (Some it) none = absurd (cc)

pub waits_on : {L : Type 0} (is_legal : L → Cell → Bool) (P : Description) (h : List Event) (ms : List Marked) (m : Marked) (w v : Watch L) (status : Option ℕ) → is_some w.first ≡ false → WatchesBy is_legal P h ms w w.first →
    status ≡ next_status (seen_in (m ∷ [])) → is_some status ≡ false → v.ways ≡ w.ways → v.by_flags ≡ w.by_flags → v.followed ≡ w.followed → v.waiting.items ≡ w.waiting.items ++ m ∷ [] → length v.waiting.items < most_waiting → v.followed + length v.waiting.items < 2 ^ 64 →
    WatchesBy is_legal P h (ms ++ m ∷ []) v w.first
waits_on is_legal P h ms m w v None none watches is silent same parts still grown few bound =
    subst (λ o. WatchesBy is_legal P h (ms ++ m ∷ []) v o) (none_of w.first none) (waits_more is_legal P h ms m w v (follows_still is_legal P h ms w w.first none watches) same parts still grown few bound (sym is))
waits_on is_legal P h ms m w v (Some bits) none watches is silent same parts still grown few bound = absurd (cc)

-- a status word is seen, and those that wait are followed to it on the ways for it
pub sees_status : {L : Type 0} (is_legal : L → Cell → Bool) (P : Description) (h : List Event) (ms : List Marked) (m : Marked) (w v : Watch L) (olds : List (Way L)) (ws : List Marked) (status : Option ℕ) → is_some w.first ≡ false → WatchesBy is_legal P h ms w w.first →
    status ≡ next_status (seen_in (m ∷ [])) → is_some status ≡ true → ws ≡ w.waiting.items ++ m ∷ [] → v.waiting.items ≡ [] → v.followed ≡ w.followed + length ws → v.followed < 2 ^ 64 → v.by_flags.items ≡ [] →
    ((front : List Marked) → LeadOnBy is_legal P h front w.ways.items w.by_flags.items → LeadOn is_legal P h front status olds) →
    ((front : List Marked) → AreWays is_legal P h front olds → Followed is_legal P h front w.followed status ws olds v.ways.items v.first) → WatchesBy is_legal P h (ms ++ m ∷ []) v v.first
sees_status is_legal P h ms m w v olds ws status none watches here some grown empty seen bound emptied leads followed =
    let i : IsFollowing is_legal P h ms w = follows_still is_legal P h ms w w.first none watches in
    let l : LeadOn is_legal P h i.followed status olds = leads i.followed i.leads in
    by i l v.first (followed i.followed l.ways)
  where
    is : (later : List Sighting) → next_status (seen_in (m ∷ []) ++ later) ≡ status
    is later = status_stays (seen_in (m ∷ [])) later status (sym here) some

    before : IsFollowing is_legal P h ms w → (later : List Sighting) → AreBefore status ws later
    before i later = subst (λ (l : List Marked). AreBefore status l later) (sym grown) (before_status w.waiting.items m status later i.none is)

    by : (i : IsFollowing is_legal P h ms w) → LeadOn is_legal P h i.followed status olds → (o : Option Unexplained) → Followed is_legal P h i.followed w.followed status ws olds v.ways.items o → WatchesBy is_legal P h (ms ++ m ∷ []) v o
    by i l None f =
        follows_more is_legal P h ms m w v ws i grown empty seen bound
        (subst (LeadOnBy is_legal P h (i.followed ++ ws) v.ways.items) (sym emptied) (λ next. leads_more is_legal P h i.followed ws status next olds v.ways.items l f (λ later same. (first i later, before i later))))
      where
        first : IsFollowing is_legal P h ms w → (later : List Sighting) → ShowTheSame (next_status (seen_in ws ++ later)) status
        first i later = subst (λ (l : List Marked). ShowTheSame (next_status (seen_in l ++ later)) status) (sym grown) (before_first status w.waiting.items m [] later (before_status w.waiting.items m status later i.none is))
    by i l (Some it) f =
        subst (λ l. IsUnexplainedAt P h l it) (sym (all_more is_legal P h ms m w i ws grown)) (found_in is_legal P h i.followed ws w.followed status [] olds it tt (before i []) i.counted l f)

-- many wait, and are followed for all flags
pub sees_many : {L : Type 0} (is_legal : L → Cell → Bool) (P : Description) (h : List Event) (ms : List Marked) (m : Marked) (w v : Watch L) (ws : List Marked) (status : Option ℕ) → is_some w.first ≡ false → WatchesBy is_legal P h ms w w.first →
    status ≡ next_status (seen_in (m ∷ [])) → is_some status ≡ false → ws ≡ w.waiting.items ++ m ∷ [] → v.waiting.items ≡ [] → v.followed ≡ w.followed + length ws → v.followed < 2 ^ 64 → v.ways ≡ w.ways →
    ((front : List Marked) → LeadOnBy is_legal P h front w.ways.items w.by_flags.items → w.followed ≡ length front → next_status (seen_in ws) ≡ None → FollowedByFlags is_legal P h (front ++ ws) v.by_flags.items v.first) → WatchesBy is_legal P h (ms ++ m ∷ []) v v.first
sees_many {L = L} is_legal P h ms m w v ws (Some bits) none watches here silent grown empty seen bound same followed = absurd (cc)
sees_many {L = L} is_legal P h ms m w v ws None none watches here silent grown empty seen bound same followed =
    let i : IsFollowing is_legal P h ms w = follows_still is_legal P h ms w w.first none watches in
    let rest : next_status (seen_in ws) ≡ None = ap (λ l. next_status (seen_in l)) grown ∙ none_more w.waiting.items m i.none (sym here) in
    by i v.first (followed i.followed i.leads i.counted rest)
  where
    of_parts : (ps : List (FlagWays L)) (front : List Marked) → LeadOnByFlags is_legal P h front ps → LeadOnBy is_legal P h front v.ways.items ps
    of_parts [] front x = absurd (x.every 0)
    of_parts (p ∷ ps) front x = x

    by : (i : IsFollowing is_legal P h ms w) (o : Option Unexplained) → FollowedByFlags is_legal P h (i.followed ++ ws) v.by_flags.items o → WatchesBy is_legal P h (ms ++ m ∷ []) v o
    by i None f = follows_more is_legal P h ms m w v ws i grown empty seen bound (of_parts v.by_flags.items (i.followed ++ ws) f)
    by i (Some it) f = subst (λ l. IsUnexplainedAt P h l it) (sym (all_more is_legal P h ms m w i ws grown)) f

-- ---- too many ways

-- with those that wait too many are open for all
pub many_waiting : {L : Type 0} (is_legal : L → Cell → Bool) (P : Description) (h : List Event) (ms : List Marked) (m : Marked) (w : Watch L) (i : IsFollowing is_legal P h ms w) (ws : List Marked) → ws ≡ w.waiting.items ++ m ∷ [] →
    HasManyWays (maybe_in (i.followed ++ ws)) → HasManyWays (maybe_in (ms ++ m ∷ []))
many_waiting is_legal P h ms m w i ws grown x = subst (λ l. HasManyWays (maybe_in l)) (sym (all_more is_legal P h ms m w i ws grown)) x
