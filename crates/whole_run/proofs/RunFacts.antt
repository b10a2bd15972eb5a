-- A root that took all its passes back, and then made the last loads, has seen a run.
use Rattle.std.proofs.Common.{◌≡◌, ◌≢◌, ℕ, ◌+◌, ◌<◌, ◌≤◌, List, [], ◌∷◌, ◌++◌, length, map, refl, ap, sym, ◌∙◌, subst, arith, append_assoc}
use Rattle.std.specs.List.{AllByRecursion}
use mathlib.Core.Logic.{dite}
use native.Mathlib.Decide.{ℕ_discrete}
use Rattle.op_table.specs.declared.call.Reply.{Reply}
use Rattle.place_core.specs.declared.entry.Entry.{Entry}
use Rattle.place_core.specs.declared.script.Line.{Line}
use Rattle.place_core.specs.declared.shape.Shape.{Shape}
use Rattle.place_core.specs.Histories.{Each, CallersWithin}
use Rattle.place_core.specs.Cells.{entries_by}
use Rattle.place_core.specs.Earned.{IsEarned, IsSpuriousEntry, AllEarned}
use Rattle.place_core.specs.Passes.{IsEnded}
use Rattle.place_core.specs.Runs.{made_of, asked_by, replies_by, replies_from, FollowScripts, loads_from, EndsWithLoads}
use Rattle.place_core.specs.Shapes.{cells_of_shape}
use Rattle.place_core.specs.ShapeRuns.{IsRun}
use Rattle.place_core.proofs.EntryLists.{Each-append, all_rest, made_by-append, made_by-nowhere, made_by-whole, CallersWithin-all, CallersWithin-append}
use Rattle.seat_views.specs.declared.view.Ended.{Ended}
use Rattle.seat_views.specs.declared.view.Item.{Item}
use Rattle.seat_views.specs.Places.{IsLegalIn}
use Rattle.seat_views.specs.Rule.{caller_of, number_of_ended, entries_of_ended}
use Rattle.seat_views.specs.Steps.{IsRootSound}
use Rattle.seat_views.specs.States.{ArenaState, PassState}
use Rattle.seat_views.specs.Makes.{entries_with, EarnsOwn, MakesCalls}
use Rattle.seat_views.specs.Paths.{ArePaths}
use Rattle.seat_views.proofs.Making.{none_made}
use Rattle.whole_run.specs.Stages.{IsBack, AreBack, HasBack}
use Rattle.whole_run.specs.WholeRuns.{EndedAs, RanWhole}
use Rattle.whole_run.proofs.Threads.{made_with, replies_with, only_zero, stands_in, Found, AreBack-later, AreBack-find}

-- ---- of each thread

module _ (S : Shape) (H : List Entry) (given : ℕ) where
  -- its entries in the history
  entries_are : (i : ℕ) (script : List Line) (r : List Reply) (d : Ended) → IsEnded caller_of number_of_ended entries_of_ended H given d → IsBack S H i script r d → entries_by H i ≡ entries_with i (asked_by script) r
  entries_are i script r d known b = ap (entries_by H) (sym b.number) ∙ (known.own ∙ b.entries)

  replies_are : (i : ℕ) (script : List Line) (r : List Reply) (d : Ended) → IsEnded caller_of number_of_ended entries_of_ended H given d → IsBack S H i script r d → replies_by H i ≡ r
  replies_are i script r d known b = ap (map (λ (x : Entry). x.reply)) (entries_are i script r d known b) ∙ replies_with i (asked_by script) r b.count

  pub follow : (i : ℕ) (scripts : List (List Line)) (rs : List (List Reply)) (ds : List Ended) → AllByRecursion (IsEnded caller_of number_of_ended entries_of_ended H given) ds → AreBack S H i scripts rs ds → FollowScripts H i scripts
  follow i [] rs ds known all = tt
  follow i (script ∷ scripts) [] ds known all = absurd all
  follow i (script ∷ scripts) (r ∷ rs) [] known all = absurd all
  follow i (script ∷ scripts) (r ∷ rs) (d ∷ ds) known all = (
    ap (map made_of) (entries_are i script r d known.0 all.0) ∙ made_with i (asked_by script) r all.0.count,
    follow (i + 1) scripts rs ds known.1 all.1,
  )

  pub replies : (i : ℕ) (scripts : List (List Line)) (rs : List (List Reply)) (ds : List Ended) → AllByRecursion (IsEnded caller_of number_of_ended entries_of_ended H given) ds → AreBack S H i scripts rs ds
      → rs ≡ replies_from H i scripts
  replies i [] [] ds known all = refl
  replies i [] (r ∷ rs) ds known all = absurd all
  replies i (script ∷ scripts) [] ds known all = absurd all
  replies i (script ∷ scripts) (r ∷ rs) [] known all = absurd all
  replies i (script ∷ scripts) (r ∷ rs) (d ∷ ds) known all =
      let head : replies_by H i ≡ r = replies_are i script r d known.0 all.0 in
      let rest : rs ≡ replies_from H (i + 1) scripts = replies (i + 1) scripts rs ds known.1 all.1 in
      cc (head, rest)

  pub ended_as : (i : ℕ) (scripts : List (List Line)) (rs : List (List Reply)) (ds : List Ended) → AllByRecursion (IsEnded caller_of number_of_ended entries_of_ended H given) ds → AreBack S H i scripts rs ds → EndedAs S H i scripts ds
  ended_as i [] [] [] known all = tt
  ended_as i [] [] (d ∷ ds) known all = absurd all
  ended_as i [] (r ∷ rs) ds known all = absurd all
  ended_as i (script ∷ scripts) [] ds known all = absurd all
  ended_as i (script ∷ scripts) (r ∷ rs) [] known all = absurd all
  ended_as i (script ∷ scripts) (r ∷ rs) (d ∷ ds) known all = (
    record {
      number = all.0.number;
      entries = sym known.0.own ∙ ap (entries_by H) all.0.number;
      paths = subst (λ (t : List Reply). ArePaths S (asked_by script) t d.trail) (sym (replies_are i script r d known.0 all.0)) all.0.paths;
      aside = all.0.aside;
    },
    ended_as (i + 1) scripts rs ds known.1 all.1,
  )

-- a thread's entries in two histories, of each of which the root knows that they are all of its number
same_entries : (S : Shape) (H K : List Entry) (given i c : ℕ) (scripts : List (List Line)) (rs : List (List Reply)) (ds : List Ended)
    → AllByRecursion (IsEnded caller_of number_of_ended entries_of_ended H given) ds → AllByRecursion (IsEnded caller_of number_of_ended entries_of_ended K given) ds
    → AreBack S H i scripts rs ds → i ≤ c → c < i + length scripts → entries_by H c ≡ entries_by K c
same_entries S H K given i c [] rs ds known too all from_i below = absurd (omega arith)
same_entries S H K given i c (script ∷ scripts) [] ds known too all from_i below = absurd all
same_entries S H K given i c (script ∷ scripts) (r ∷ rs) [] known too all from_i below = absurd all
same_entries S H K given i c (script ∷ scripts) (r ∷ rs) (d ∷ ds) known too all from_i below = dite (ℕ_discrete i c)
    (λ here. subst (λ n. entries_by H n ≡ entries_by K n) (all.0.number ∙ here) (known.0.own ∙ sym too.0.own))
    (λ later. same_entries S H K given (i + 1) c scripts rs ds known.1 too.1 all.1 (omega arith) (omega arith))

-- ---- the failures

caller : Entry → ℕ
caller x = x.caller

-- a thread's is, since it was earned where its own pass saw it, and before it lies the same
earned_of : (S : Shape) (H before : List Entry) (x : Entry) (rest : List Entry) → H ≡ before ++ x ∷ rest → Found S H x.caller → IsSpuriousEntry x → IsEarned S before x
unfolding Each
earned_of S H before x rest split f spurious =
    let front = stands_in f.back.seen H before x rest f.back.front split (f.back.own ∙ sym f.all) in
    f.back.earned before x front.0 (sym front.1 ∙ append_assoc before (x ∷ []) front.0) refl spurious

threads_earned : (S : Shape) (H : List Entry) (n : ℕ) → AllByRecursion (λ x. x.caller ≤ n) H → AllByRecursion (λ x. x.caller ≢ 0) H → ((c : ℕ) → 1 ≤ c → c ≤ n → Found S H c) → AllEarned S H
unfolding Each
threads_earned S H n within none found before x rest split spurious =
    let here : x.caller ≤ n = (all_rest (λ (y : Entry). y.caller ≤ n) before (x ∷ rest) (subst (AllByRecursion (λ (y : Entry). y.caller ≤ n)) split within)).0 in
    let other : x.caller ≢ 0 = (all_rest (λ (y : Entry). y.caller ≢ 0) before (x ∷ rest) (subst (AllByRecursion (λ (y : Entry). y.caller ≢ 0)) split none)).0 in
    earned_of S H before x rest split (found x.caller (omega arith) here) spurious

loads_earned : (S : Shape) (H more : List Entry) → EarnsOwn S 0 H more → AllByRecursion (λ x. x.caller ≡ 0) more → Each (λ G x. IsSpuriousEntry x → IsEarned S (H ++ G) x) more
unfolding Each
loads_earned S H more own all before x rest split spurious =
    own before x rest split ((all_rest (λ (y : Entry). y.caller ≡ 0) before (x ∷ rest) (subst (AllByRecursion (λ (y : Entry). y.caller ≡ 0)) split all)).0) spurious

-- ---- the whole run

module _ (S : Shape) (a : ArenaState) (scripts : List (List Line)) (rs : List (List Reply)) (p q : PassState) (loaded : List Reply)
    (shape : a.shape ≡ S) (first_stamp : a.first_stamp ≡ 0) (h : HasBack a (length scripts) scripts rs p) (m : MakesCalls S (loads_from 0 (cells_of_shape S)) p loaded q) where
  -- what was taken back
  back_p : AreBack S p.seen 1 scripts rs p.ended
  back_p = subst (λ Z. AreBack Z p.seen 1 scripts rs p.ended) shape h.back

  number_p : p.number ≡ 0
  number_p = ap (λ (r : PassState). r.number) h.now

  number_q : q.number ≡ 0
  number_q = ap (λ (r : PassState). r.number) m.made.rest ∙ number_p

  given_p : p.given ≡ length scripts
  given_p = ap (λ (r : PassState). r.given) h.now

  given_q : q.given ≡ length scripts
  given_q = ap (λ (r : PassState). r.given) m.made.rest ∙ given_p

  ended_q : q.ended ≡ p.ended
  ended_q = ap (λ (r : PassState). r.ended) m.made.rest

  shape_q : q.shape ≡ S
  shape_q = ap (λ (r : PassState). r.shape) m.made.rest ∙ (ap (λ (r : PassState). r.shape) h.now ∙ shape)

  -- what the root knows before and after the last loads
  sound_p : IsRootSound p.seen (length scripts) p.ended
  sound_p = subst (λ n. IsRootSound p.seen n p.ended) given_p (h.kept.root number_p)

  sound_q : IsRootSound q.seen (length scripts) p.ended
  sound_q = subst (λ (x : ℕ × List Ended). IsRootSound q.seen x.0 x.1) (λ i. (given_q i, ended_q i)) (m.made.kept.root number_q)

  seen_q : q.seen ≡ p.seen ++ m.made.more
  seen_q = m.made.seen

  back_q : AreBack S q.seen 1 scripts rs p.ended
  back_q = AreBack-later S p.seen q.seen 1 scripts rs p.ended (m.made.more, sym seen_q) back_p

  found : (H : List Entry) → IsRootSound H (length scripts) p.ended → AreBack S H 1 scripts rs p.ended → (c : ℕ) → 1 ≤ c → c ≤ length scripts → Found S H c
  found H sound back c from_one le = AreBack-find S H (length scripts) 1 c scripts rs p.ended sound.back back from_one (omega arith)

  -- before them the root had made no entry
  none_p : entries_by p.seen 0 ≡ []
  none_p = ap (entries_by p.seen) (sym number_p) ∙ (h.kept.own ∙ ap (λ (r : PassState). r.mine) h.now)

  -- and then nobody else made one
  others : (c : ℕ) → 1 ≤ c → c ≤ length scripts → AllByRecursion (λ x. x.caller ≢ c) m.made.more
  others c from_one le =
      let same = same_entries S p.seen q.seen (length scripts) 1 c scripts rs p.ended sound_p.back sound_q.back back_p from_one (omega arith) in
      made_by-nowhere caller_of m.made.more c (none_made p.seen m.made.more (entries_by p.seen c) c refl (ap (λ H. entries_by H c) (sym seen_q) ∙ sym same))

  zeroth : AllByRecursion (λ x. x.caller ≡ 0) m.made.more
  zeroth = only_zero (length scripts) m.made.more
      ((CallersWithin-all caller_of (length scripts) m.made.more).0 ((CallersWithin-append caller_of (length scripts) p.seen m.made.more).0 (subst (λ H. CallersWithin caller_of (length scripts) H) seen_q sound_q.callers)).1)
      others

  loads_are : entries_by q.seen 0 ≡ m.made.more
  loads_are = ap (λ H. entries_by H 0) seen_q ∙ (made_by-append caller_of p.seen m.made.more 0 ∙ (ap (λ l. l ++ entries_by m.made.more 0) none_p ∙ made_by-whole caller_of m.made.more 0 zeroth))

  -- the loads are the root's own entries
  loads_with : entries_by q.seen 0 ≡ entries_with 0 (loads_from 0 (cells_of_shape S)) loaded
  loads_with =
      ap (entries_by q.seen) (sym number_q)
      ∙ (m.made.kept.own
      ∙ (ap (λ (r : PassState). r.mine) m.made.rest
      ∙ ((λ i. (ap (λ (r : PassState). r.mine) h.now) i ++ entries_with (number_p i) (loads_from 0 (cells_of_shape S)) loaded))))

  seen_is : q.seen ≡ p.seen ++ entries_by q.seen 0
  seen_is = seen_q ∙ ap (λ l. p.seen ++ l) (sym loads_are)

  ends : EndsWithLoads (cells_of_shape S) q.seen
  ends = record {
    before = p.seen;
    split = seen_is;
    loads = ap (map made_of) loads_with ∙ made_with 0 (loads_from 0 (cells_of_shape S)) loaded m.made.count;
  }

  all_earned : AllEarned S q.seen
  all_earned =
      let first : AllEarned S p.seen = threads_earned S p.seen (length scripts)
      ((CallersWithin-all caller_of (length scripts) p.seen).0 sound_p.callers)
      (made_by-nowhere caller_of p.seen 0 none_p)
      (found p.seen sound_p back_p) in
      let later = loads_earned S p.seen m.made.more (subst (λ n. EarnsOwn S n p.seen m.made.more) number_p m.made.earned) zeroth in
      subst (AllEarned S) (sym seen_q) ((Each-append (λ G x. IsSpuriousEntry x → IsEarned S G x) p.seen m.made.more).1 (first, later))

  run_is : IsRun S scripts q.seen
  run_is = record {
    run = record {
      legal = subst (λ Z. IsLegalIn Z q.seen) shape_q m.made.kept.legal;
      callers = sound_q.callers;
      scripted = follow S q.seen (length scripts) 1 scripts rs p.ended sound_q.back back_q;
      ends = ends;
    };
    earned = all_earned;
  }

  -- the replies of the last loads
  pub last_replies : loaded ≡ replies_by q.seen 0
  last_replies = sym (ap (map (λ (x : Entry). x.reply)) loads_with ∙ replies_with 0 (loads_from 0 (cells_of_shape S)) loaded m.made.count)

  -- the replies of each thread
  pub thread_replies : rs ≡ replies_from q.seen 1 scripts
  thread_replies = replies S q.seen (length scripts) 1 scripts rs p.ended sound_q.back back_q

  pub ran_whole : RanWhole S scripts a q
  ran_whole = record {
    shape = shape;
    first_stamp = first_stamp;
    of_arena = (ap (λ (r : PassState). r.arena) (m.made.rest) ∙ ap (λ (r : PassState). r.arena) h.now, shape_q ∙ sym shape);
    number = number_q;
    rest = ap (λ (r : PassState). r.flight) m.made.rest;
    run = run_is;
    given = given_q;
    ended = subst (EndedAs S q.seen 1 scripts) (sym ended_q) (ended_as S q.seen (length scripts) 1 scripts rs p.ended sound_q.back back_q);
    loads =
        let trail_is : q.trail ≡ m.steps = ap (λ (r : PassState). r.trail) m.made.rest ∙ ap (λ (l : List Item). l ++ m.steps) (ap (λ (r : PassState). r.trail) h.now) in
        subst (λ (x : List Reply × List Item). ArePaths S (loads_from 0 (cells_of_shape S)) x.0 x.1) (λ i. (last_replies i, sym trail_is i)) m.paths;
    aside = ap (λ (r : PassState). r.aside) m.made.rest ∙ (ap (λ (r : PassState). r.aside) h.now ∙ omega arith);
    kept = m.made.kept;
  }
