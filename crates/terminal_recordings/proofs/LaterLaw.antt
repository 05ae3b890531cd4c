-- The laws of recordings that begin later.
use Rattle.std.proofs.Common.{◌≡◌, ℕ, zero, suc, take, drop, ◌≤◌, true, false, Option, Some, None, List, [], ◌∷◌, ◌++◌, refl, ap, sym, ◌∙◌, subst}
use Rattle.std.proofs.lemmas.List.{take-append-drop}
use Rattle.bus_word.specs.declared.cell.Cell.TheVariants.{OwnMode}
use Rattle.bus_legal.specs.Description.{Description}
use Rattle.terminal_rules.specs.declared.event.Event.{Event}
use Rattle.terminal_rules.specs.Past.{history_after}
use Rattle.terminal_recordings.specs.Recordings.{Sighting, IsRecording}
use Rattle.terminal_recordings.specs.Completion.{completion_from}
use Rattle.terminal_recordings.specs.Later.{IsQuiet, IsExplainedLater, command_for, first_command, asks_back, BeginsAfresh, ShutDown, shutting, shut_history, shown_later, LaterLaw}
use Rattle.terminal_recordings.proofs.Follows.{Follows}
use Rattle.terminal_recordings.proofs.Fresh.{AreFreshAlike, quiet_fresh}
use Rattle.terminal_recordings.proofs.FollowsLater.{follows_later}
use Rattle.terminal_recordings.proofs.Leaving.{Leaves, shutting_leaves, shutting_proper, shut_by, shut_by_is}
use Rattle.terminal_recordings.proofs.Law.{completion_proper, Front, front_of, shown_again, shown_first}

-- the beginning that leaves shut down what a history leaves so; its terminal flag is not inhibited
begun_alike : (P : Description) (h : List Event) → P.address ≤ 30 → P.legal (OwnMode 4) ≡ true → IsQuiet P h → AreFreshAlike P h (shut_history P (shut_by P h))
begun_alike P h low l q =
    let x : Leaves P (shut_history P (shut_by P h)) (shut_by P h) = shutting_leaves P (shut_by P h) low l in
    record {
      left = quiet_fresh P h q;
      right = quiet_fresh P (shut_history P (shut_by P h)) x.quiet;
      same = λ j. record {
        run = λ b. (q.run b ∙ sym (x.quiet.run b)) j;
        message = λ b. (q.message b ∙ sym (x.quiet.message b)) j;
        off = λ b. (shut_by_is P h b ∙ sym (x.off b)) j;
        last = 0;
      };
      inhibited = λ i. let wrong : false ≡ true = sym x.inhibited ∙ i in cc;
    }

-- what is shown of a front after one of the beginnings, where it is explained
pub explained_follows : (P : Description) (front later : List Sighting) → P.address ≤ 30 → P.legal (OwnMode 4) ≡ true → BeginsAfresh P front → IsExplainedLater P front →
    (shut : ShutDown) × Follows P (shut_history P shut) front later
explained_follows P front later low l afresh (earlier, a, q, (es, b, e)) =
    let h : List Event = history_after earlier [] in
    let shut : ShutDown = shut_by P h in (
      shut,
      subst (λ (f : List Sighting). Follows P (shut_history P shut) f later) e
          (follows_later P low es h (shut_history P shut) later (begun_alike P h low l q) (ap (λ r. asks_back P (first_command P r)) e ∙ afresh)),
    )

-- what is shown after a beginning is explained
told_explains : (P : Description) (shut : ShutDown) (recording shows : List Sighting) → P.address ≤ 30 → P.legal (OwnMode 4) ≡ true → IsRecording recording → shown_later P shut recording ≡ shows →
    IsExplainedLater P shows
told_explains P shut recording shows low l r e =
    (shutting P shut, shutting_proper P shut low, (shutting_leaves P shut low l).quiet, (completion_from P (shut_history P shut) recording, completion_proper P (shut_history P shut) recording r, e))

fronts : (P : Description) (front later : List Sighting) → IsExplainedLater P (front ++ later) → IsExplainedLater P front
fronts P front later (earlier, a, q, (es, b, e)) =
    let f : Front P (history_after earlier []) front = front_of P es (history_after earlier []) front later b e in
    (earlier, a, q, f)

-- a front of a recording that begins afresh does so
front_afresh : (P : Description) (n : ℕ) (recording : List Sighting) → BeginsAfresh P recording → BeginsAfresh P (take n recording)
front_afresh P zero recording a = refl
front_afresh P (suc n) [] a = a
front_afresh P (suc n) (s ∷ later) a = by_command (command_for P s.event) a (λ q. front_afresh P n later q)
  where
    first_of : Option ℕ → Option ℕ → Option ℕ
    first_of o rest = elim o as (λ o. Option ℕ) [ None ↦ rest | Some c ↦ Some c ]

    by_command : (o : Option ℕ) → asks_back P (first_of o (first_command P later)) ≡ false →
        (asks_back P (first_command P later) ≡ false → asks_back P (first_command P (take n later)) ≡ false) → asks_back P (first_of o (first_command P (take n later))) ≡ false
    by_command None q next = next q
    by_command (Some c) q next = q

pub later_law : LaterLaw
later_law = record {
  decided = λ P recording low l r afresh. (
    λ x. let f : (shut : ShutDown) × Follows P (shut_history P shut) recording [] = explained_follows P recording [] low l afresh x in (f.0, shown_again P (shut_history P f.0) recording f.1),
    λ x. told_explains P x.0 recording recording low l r x.1,
  );
  first = λ P recording n low l r afresh. (
    λ x.
        let f : (shut : ShutDown) × Follows P (shut_history P shut) (take n recording) (drop n recording) =
        explained_follows P (take n recording) (drop n recording) low l (front_afresh P n recording afresh) x in
        (f.0, shown_first P (shut_history P f.0) recording n f.1),
    λ x.
        fronts P (take n recording) (drop n (shown_later P x.0 recording))
        (told_explains P x.0 recording (take n recording ++ drop n (shown_later P x.0 recording)) low l r
        (sym (take-append-drop n (shown_later P x.0 recording)) ∙ ap (λ xs. xs ++ drop n (shown_later P x.0 recording)) x.1)),
  );
  fronts = fronts;
  at_once = λ P recording x. ([], tt, record { message = λ b. refl; run = λ b. refl; reply = refl }, x);
  any_time = λ P recording x. (x.0, x.1, x.3);
}
