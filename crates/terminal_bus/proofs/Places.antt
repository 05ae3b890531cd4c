-- Loops over the places of a bus.
use Rattle.std.proofs.Common.{◌≡◌, ◌≢◌, ◌<◌, ◌≤◌, ◌+◌, ℕ, zero, suc, Bool, false, ◌||◌, ◌==◌, if◌then◌else◌, inl, inr, Option, Some, None, List, [], ◌∷◌, ◌++◌, length, take, set, get_or, slice_get, arith, refl, ap, sym, subst, ◌∙◌, get_or-set_other, get_or-set_same}
use Rattle.std.proofs.lemmas.Bool.{cases_lt}
use Rattle.std.proofs.lemmas.List.{length-append, get_or_default, take_more}
use Rattle.std.specs.Option.{option_to_list}
use Rattle.std.specs.List.{refill}
use Rattle.arrayvec.proofs.ArrayVecLemmas.{items-with_items}
use Rattle.terminal_rules.specs.LookBack.{keep, some}
use Rattle.terminal_bus.specs.declared.seat.Seat.{Seat}
use Rattle.bus_word.specs.declared.cell.Cell.{Cell}
use Rattle.terminal_bus.specs.declared.bus.NotAdded.TheVariants.{SameAddress, Full}
use Rattle.terminal_bus.specs.Members.{Member}
use Rattle.terminal_bus.specs.Discipline.{has_address}
use Rattle.terminal_bus.specs.AtMembers.{seat_at, AtBoth, SeatStands, SeatsStandAt, not_added, AtSeat, EachSeat}
use Rattle.terminal_bus.specs.inner.Seats.{EachBelow, is_addressed}

module _ {L : Type 0} (R : Seat L → Seat L → Type 0) where
  pub below_next : (i : ℕ) (olds news : List (Option (Seat L))) (o s : Option (Seat L)) → i < length news → EachBelow R i olds news → AtSeat R (get_or news i o) s → EachBelow R (i + 1) olds (set news i s)
  below_next i olds news o s l b r =
      let was : seat_at olds i ≡ get_or news i o = sym (b.others i (omega arith)) ∙ get_or_default news i None o l in
      let here : AtSeat R (seat_at olds i) (seat_at (set news i s) i) =
      subst (λ p. AtSeat R p (seat_at (set news i s) i)) (sym was) (subst (λ p. AtSeat R (get_or news i o) p) (sym (get_or-set_same news i s None l)) r) in
      record {
        below = λ k h. elim (cases_lt k i) [
          | inl g ↦ (let ne : k ≢ i = omega (arith, g) in subst (λ p. AtSeat R (seat_at olds k) p) (sym (get_or-set_other news i k s None ne)) (b.below k g))
          | inr g ↦ (let same : i ≡ k = omega (arith, g, h) in subst (λ n. AtSeat R (seat_at olds n) (seat_at (set news i s) n)) same here)
        ];
        others = λ k h. (let ne : k ≢ i = omega (arith, h) in let le : i ≤ k = omega (arith, h) in get_or-set_other news i k s None ne ∙ b.others k le);
      }

-- one place more
pub each_append : {L : Type 0} (R : Seat L → Seat L → Type 0) (olds news : List (Option (Seat L))) (o s : Option (Seat L)) → length news ≡ length olds → EachSeat R olds news → AtSeat R o s →
    EachSeat R (olds ++ o ∷ []) (news ++ s ∷ [])
each_append R [] [] o s e p q zero = q
each_append R [] [] o s e p q (suc k) = tt
each_append R [] (n ∷ news) o s e p q k = cc
each_append R (x ∷ olds) [] o s e p q k = cc
each_append R (x ∷ olds) (n ∷ news) o s e p q zero = p 0
each_append R (x ∷ olds) (n ∷ news) o s e p q (suc k) = each_append R olds news o s (omega (arith, e)) (λ j. p (suc j)) q k

keep_append : {X Y : Type 0} (f : X → Option Y) (xs ys : List X) → keep f (xs ++ ys) ≡ keep f xs ++ keep f ys
keep_append f [] ys = refl
keep_append f (x ∷ xs) ys =
    elim (f x) as (λ o. (elim o [ None ↦ keep f (xs ++ ys) | Some y ↦ y ∷ keep f (xs ++ ys) ]) ≡ (elim o [ None ↦ keep f xs | Some y ↦ y ∷ keep f xs ]) ++ keep f ys) [
      | None ↦ keep_append f xs ys
      | Some y ↦ ap (λ l. y ∷ l) (keep_append f xs ys)
    ]

keep_one : {X Y : Type 0} (f : X → Option Y) (x : X) → keep f (x ∷ []) ≡ option_to_list (f x)
keep_one {X} {Y} f x = elim (f x) as (λ o. (let none : List Y = [] in (elim o [ None ↦ none | Some y ↦ y ∷ none ]) ≡ option_to_list o)) [ None ↦ refl | Some y ↦ refl ]

-- one more element
pub keep_next : {X Y : Type 0} (f : X → Option Y) (xs : List X) (i : ℕ) (d : X) → i < length xs → keep f (take (i + 1) xs) ≡ keep f (take i xs) ++ option_to_list (f (get_or xs i d))
keep_next f xs i d l = ap (keep f) (take_more xs i d l) ∙ keep_append f (take i xs) (get_or xs i d ∷ []) ∙ ap (λ ys. keep f (take i xs) ++ ys) (keep_one f (get_or xs i d))

-- the elements of a vector after a write of as many through its slice
pub refilled : {X : Type 0} (olds lent news : List X) → lent ≡ olds → length news ≡ length lent → refill (length olds) olds news ≡ news
refilled olds lent news e l = items-with_items (record { items = olds }) news (l ∙ ap length e)

-- whether one passes, of two lists that are alike at each place
abbrev pub whether : {Y : Type 0} → (Y → Bool) → Option Y → Bool
whether g None = false
whether g (Some y) = g y

pub some_alike : {X Y : Type 0} (f : Option X → Bool) (g : Y → Bool) (xs : List (Option X)) (ys : List Y) → length xs ≡ length ys →
    ((k : ℕ) → f (get_or xs k None) ≡ whether g (slice_get ys k)) → some f xs ≡ some g ys
some_alike f g [] [] e p = refl
some_alike f g [] (y ∷ ys) e p = cc
some_alike f g (x ∷ xs) [] e p = cc
some_alike f g (x ∷ xs) (y ∷ ys) e p = λ j. p 0 j || some_alike f g xs ys (omega (arith, e)) (λ k. p (suc k)) j

-- one terminal more
pub at_append : {L : Type 0} (Q : Seat L → Member → Type 0) (xs : List (Option (Seat L))) (ms : List Member) (s : Seat L) (m : Member) → length xs ≡ length ms →
    ((k : ℕ) → AtBoth Q (seat_at xs k) (slice_get ms k)) → Q s m → (k : ℕ) → AtBoth Q (seat_at (xs ++ Some s ∷ []) k) (slice_get (ms ++ m ∷ []) k)
at_append Q [] [] s m e p q zero = q
at_append Q [] [] s m e p q (suc k) = tt
at_append Q [] (n ∷ ms) s m e p q k = cc
at_append Q (x ∷ xs) [] s m e p q k = cc
at_append Q (x ∷ xs) (n ∷ ms) s m e p q zero = p 0
at_append Q (x ∷ xs) (n ∷ ms) s m e p q (suc k) = at_append Q xs ms s m (omega (arith, e)) (λ j. p (suc j)) q k

module _ {L : Type 0} (is_legal : L → Cell → Bool) (members : List Member) where
  addressed_law : (a : ℕ) (o : Option (Seat L)) (m : Option Member) → AtBoth (SeatStands is_legal) o m → is_addressed a o ≡ whether (has_address a) m
  addressed_law a None None q = refl
  addressed_law a None (Some m) q = absurd q
  addressed_law a (Some s) None q = absurd q
  addressed_law a (Some s) (Some m) q = ap (λ b. b == a) q.address

  pub some_addressed : (a : ℕ) (seats : List (Option (Seat L))) → SeatsStandAt is_legal members seats → some (is_addressed a) seats ≡ some (has_address a) members
  some_addressed a seats q = some_alike (is_addressed a) (has_address a) seats members q.count (λ k. addressed_law a (seat_at seats k) (slice_get members k) (q.each k))

  pub one_added : (seats : List (Option (Seat L))) (s : Seat L) (m : Member) → SeatsStandAt is_legal members seats → SeatStands is_legal s m → SeatsStandAt is_legal (members ++ m ∷ []) (seats ++ Some s ∷ [])
  one_added seats s m q t = record {
    count = length-append seats (Some s ∷ []) ∙ ap (λ n. n + 1) q.count ∙ sym (length-append members (m ∷ []));
    each = at_append (SeatStands is_legal) seats members s m q.count q.each t;
  }

  pub not_added_law : (a : ℕ) (seats lent : List (Option (Seat L))) (has full : Bool) → SeatsStandAt is_legal members seats → lent ≡ seats → has ≡ some (is_addressed a) lent → full ≡ (length seats == 31) →
      (if has then Some (SameAddress a) else if full then Some Full else None) ≡ not_added members a
  not_added_law a seats lent has full q v h f =
      let has_law : has ≡ some (has_address a) members = h ∙ ap (some (is_addressed a)) v ∙ some_addressed a seats q in
      let full_law : full ≡ (length members == 31) = f ∙ ap (λ n. n == 31) q.count in
      λ j. if has_law j then Some (SameAddress a) else if full_law j then Some Full else None
