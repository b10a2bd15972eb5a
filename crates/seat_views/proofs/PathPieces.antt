-- How the steps of a call are put together: piece by piece, and step by step.
use Rattle.std.proofs.Common.{◌≡◌, ◌≢◌, ◌⊎◌, inl, inr, ℕ, suc, ◌+◌, ◌==◌, Bool, true, false, if◌then◌else◌, List, [], ◌∷◌, ◌++◌, length, Option, Some, None, refl, ap, sym, ◌∙◌, subst, arith, append_assoc, eq-eqb, ne_eqb}
use Rattle.std.specs.Prelude.{◌&&◌, ◌||◌, not}
use Rattle.std.proofs.lemmas.List.{append-nil}
use Rattle.op_table.specs.declared.call.Call.{Call}
use Rattle.op_table.specs.declared.call.Call.TheVariants.{Load}
use Rattle.op_table.specs.declared.call.Reply.{Reply}
use Rattle.op_table.specs.CallTests.{expects_another, is_load}
use Rattle.place_core.specs.declared.places.Place.{Place}
use Rattle.place_core.specs.declared.places.Place.TheVariants.{Parts}
use Rattle.place_core.specs.declared.shape.Shape.{Shape}
use Rattle.place_core.specs.Shapes.{place_of, kind_of, data_word, lock_word}
use Rattle.place_core.specs.Operations.{path_at}
use Rattle.seat_views.specs.declared.view.StepKind.TheVariants as step
use Rattle.seat_views.specs.declared.view.Item.{Item}
use Rattle.seat_views.specs.Limits.{last_stamp}
use Rattle.seat_views.specs.LockSteps.{released}
use Rattle.seat_views.specs.Deciding.{look_settles}
use Rattle.seat_views.specs.Items.{number_in, is_numbered, number_at, count_of}
use Rattle.seat_views.specs.Paths.{and_then, eat_just, eat_run, is_last_try, eat_tries, eat_loop, count_if, eat_takes, eat_held, eat_locked, eat_match, eat_glance, eat_by, IsPath, IsGlanceAt, IsGlance}
use Rattle.seat_views.specs.StepCounts.{IsNoGlance, GlanceIsShort, MatchedGlanceIsPath, MissedGlanceGoesOn}
use Rattle.seat_views.proofs.PathEating.{run_stretches}
use Rattle.seat_views.proofs.PathFronts.{Rest, only, choice, then_parts, run_front, just_front, count_same, count_else, step_counts, number_after, stamp_told, stamp_fresh}

-- ---- what settles the call

pub look_settles_is : (call : Call) (v : ℕ) → is_load call ≡ false → look_settles call v ≡ expects_another call v
look_settles_is call v other = ap (λ (b : Bool). b || expects_another call v) other

-- ---- a look and tries, step by step

module _ (lane : ℕ → ℕ) (w : ℕ) (call : Call) (i : Item) (U : List Item) where
  -- a look that doesn't settle the call
  pub look_goes_on : is_numbered step.Look w i ≡ true → expects_another call (lane (number_in i.number)) ≡ false → eat_loop lane w call (i ∷ U) ≡ eat_tries lane w call (number_in i.number) U
  look_goes_on is goes = λ k. if is k then (if goes k then Some U else eat_tries lane w call (number_in i.number) U) else None

  -- a look that finds that the exchange fails
  pub look_ends : is_numbered step.Look w i ≡ true → expects_another call (lane (number_in i.number)) ≡ true → eat_loop lane w call (i ∷ U) ≡ Some U
  look_ends is stops = λ k. if is k then (if stops k then Some U else eat_tries lane w call (number_in i.number) U) else None

  -- a lost try
  pub try_goes_on : (n : ℕ) → is_numbered step.Try w i ≡ true → is_last_try lane call n (number_in i.number) ≡ false → eat_tries lane w call n (i ∷ U) ≡ eat_tries lane w call (number_in i.number) U
  try_goes_on n is goes = λ k. if is k then (if goes k then Some U else eat_tries lane w call (number_in i.number) U) else None

  -- the last try
  pub try_ends : (n : ℕ) → is_numbered step.Try w i ≡ true → is_last_try lane call n (number_in i.number) ≡ true → eat_tries lane w call n (i ∷ U) ≡ Some U
  try_ends n is stops = λ k. if is k then (if stops k then Some U else eat_tries lane w call (number_in i.number) U) else None

-- ---- under a lock, piece by piece

-- a take that found the lock held
pub take_goes_on : (lock : ℕ) (i : Item) (U : List Item) → is_numbered step.Take lock i ≡ true → number_in i.number ≡ 1 → eat_takes lock (i ∷ U) ≡ eat_takes lock U
take_goes_on lock i U is one = λ k. if is k then (if eq-eqb (number_in i.number) 1 one k then eat_takes lock U else Some (number_in i.number, U)) else None

-- a take that got it
pub take_ends : (lock : ℕ) (i : Item) (U : List Item) → is_numbered step.Take lock i ≡ true → number_in i.number ≢ 1 → eat_takes lock (i ∷ U) ≡ Some (number_in i.number, U)
take_ends lock i U is free = λ k. if is k then (if ne_eqb (number_in i.number) 1 free k then eat_takes lock U else Some (number_in i.number, U)) else None

-- under a lock that was got at this stamp: reads, stores and the release
pub held_joined : (lock first n : ℕ) (writes : Bool) (s : ℕ) (B C D : List Item) → eat_run step.Held first n B ≡ Some [] → eat_run step.Put first (count_if writes n) C ≡ Some []
    → eat_just step.Release lock (released writes s) D ≡ Some [] → eat_held lock first n writes (Some (s, (B ++ C) ++ D)) ≡ Some []
held_joined lock first n writes s B C D b c d =
    let puts : List Item → Rest = eat_run step.Put first (count_if writes n) in
    let ends : List Item → Rest = eat_just step.Release lock (released writes s) in
    ap (λ (l : List Item). eat_held lock first n writes (Some (s, l))) (append_assoc B C D)
    ∙ (ap (λ (z : Rest). and_then (and_then z puts) ends) (run_stretches step.Held first n B [] (C ++ D) b)
    ∙ (ap (λ (z : Rest). and_then z ends) (run_stretches step.Put first (count_if writes n) C [] D c)
    ∙ d))

-- there is no take among them
pub held_takes_none : (lock first n : ℕ) (writes : Bool) (s : ℕ) (T : List Item) → eat_held lock first n writes (Some (s, T)) ≡ Some [] → count_of step.Take T ≡ 0
held_takes_none lock first n writes s T e =
    let outer = then_parts (and_then (eat_run step.Held first n T) (eat_run step.Put first (count_if writes n))) (eat_just step.Release lock (released writes s)) [] e in
    let inner = then_parts (eat_run step.Held first n T) (eat_run step.Put first (count_if writes n)) outer.0 outer.1 in
    let held = run_front step.Held first n T inner.0 inner.1 in
    let put = run_front step.Put first (count_if writes n) inner.0 outer.0 inner.2 in
    let released = just_front step.Release lock (released writes s) outer.0 [] outer.2 in
    count_else step.Take step.Held first n T inner.0 held.0 refl
    ∙ (count_else step.Take step.Put first (count_if writes n) inner.0 outer.0 put.0 refl
    ∙ count_else step.Take step.Release lock 1 outer.0 [] released.0 refl)

-- ---- a glance, and what follows it

-- a trail is a glance: how long it is, what it doesn't have, and how eating goes on behind it
record Glanced (lock first n : ℕ) (T : List Item) : Type 0 where
  takes : count_of step.Take T ≡ 0
  puts : count_of step.Put T ≡ 0
  alone : IsNoGlance T → length T ≡ 1
  whole : (IsNoGlance T → ⊥) → length T ≡ n + 2
  missed_at : (missed : List Item → Rest) (U : List Item) → IsNoGlance T ⊎ (number_at (suc n) T ≢ number_at 0 T) → eat_glance lock first n missed (T ++ U) ≡ missed U
  hit : (missed : List Item → Rest) (U : List Item) → (IsNoGlance T → ⊥) → number_at (suc n) T ≡ number_at 0 T → eat_glance lock first n missed (T ++ U) ≡ Some U

abbrev all_rest : List Item → Rest
all_rest U = Some U

module _ (lock first n : ℕ) (i : Item) (stamps : is_numbered step.Stamp lock i ≡ true) where
  m : ℕ
  m = number_in i.number

  abbrev test : Bool
  test = (number_in i.number == 1) || (number_in i.number == last_stamp)

  goes : (missed : List Item → Rest) (V : List Item) → eat_glance lock first n missed (i ∷ V) ≡ (if test then missed V else and_then (eat_run step.Part first n V) (eat_match lock (number_in i.number) missed))
  goes missed V = ap (λ (c : Bool). if c then (if test then missed V else and_then (eat_run step.Part first n V) (eat_match lock (number_in i.number) missed)) else None) stamps

  -- the stamp alone
  stamp_alone : test ≡ true → Glanced lock first n (i ∷ [])
  stamp_alone told = record {
    takes = step_counts step.Take step.Stamp lock i [] stamps refl;
    puts = step_counts step.Put step.Stamp lock i [] stamps refl;
    alone = λ _. refl;
    whole = λ glances. absurd (glances (stamp_told (number_in i.number) told));
    missed_at = λ missed U _. goes missed U ∙ ap (λ (c : Bool). if c then missed U else and_then (eat_run step.Part first n U) (eat_match lock (number_in i.number) missed)) told;
    hit = λ missed U glances _. absurd (glances (stamp_told (number_in i.number) told));
  }

  module _ (fresh : test ≡ false) (T : List Item) (j : Item) (matches : is_numbered step.Match lock j ≡ true) (run : eat_run step.Part first n T ≡ Some (j ∷ [])) where
    behind : (missed : List Item → Rest) (U : List Item) → eat_glance lock first n missed ((i ∷ T) ++ U) ≡ (if number_in j.number == number_in i.number then Some U else missed U)
    behind missed U =
        goes missed (T ++ U)
        ∙ (ap (λ (c : Bool). if c then missed (T ++ U) else and_then (eat_run step.Part first n (T ++ U)) (eat_match lock (number_in i.number) missed)) fresh
        ∙ (ap (λ (z : Rest). and_then z (eat_match lock (number_in i.number) missed)) (run_stretches step.Part first n T (j ∷ []) U run)
        ∙ ap (λ (c : Bool). if c then (if number_in j.number == number_in i.number then Some U else missed U) else None) matches))

    last_is : number_at (suc n) (i ∷ T) ≡ number_in j.number
    last_is = let F = run_front step.Part first n T (j ∷ []) run in
        ap (number_at n) F.0.split ∙ (ap (λ (z : ℕ). number_at z (F.0.front ++ j ∷ [])) (sym F.1) ∙ number_after F.0.front j [])

    glances : IsNoGlance (i ∷ T) → ⊥
    glances = stamp_fresh (number_in i.number) fresh

    counted : (length T ≡ n + 1) × (count_of step.Take T ≡ 0) × (count_of step.Put T ≡ 0)
    counted =
        let F = run_front step.Part first n T (j ∷ []) run in let size = F.1 in
        let same = (count_same step.Part first n T (j ∷ []) F.0).1 in (
          omega arith,
          count_else step.Take step.Part first n T (j ∷ []) F.0 refl ∙ step_counts step.Take step.Match lock j [] matches refl,
          count_else step.Put step.Part first n T (j ∷ []) F.0 refl ∙ step_counts step.Put step.Match lock j [] matches refl,
        )

    whole_glance : Glanced lock first n (i ∷ T)
    whole_glance = let size = counted.0 in record {
      takes = step_counts step.Take step.Stamp lock i T stamps refl ∙ counted.1;
      puts = step_counts step.Put step.Stamp lock i T stamps refl ∙ counted.2;
      alone = λ told. absurd (glances told);
      whole = λ _. omega arith;
      missed_at = λ missed U why. behind missed U ∙ ap (λ (c : Bool). if c then Some U else missed U) (ne_eqb (number_in j.number) (number_in i.number) (λ e. differs why (last_is ∙ e)));
      hit = λ missed U _ same. behind missed U ∙ ap (λ (c : Bool). if c then Some U else missed U) (eq-eqb (number_in j.number) (number_in i.number) (sym last_is ∙ same));
    }
      where
        differs : IsNoGlance (i ∷ T) ⊎ (number_at (suc n) (i ∷ T) ≢ number_at 0 (i ∷ T)) → number_at (suc n) (i ∷ T) ≡ number_at 0 (i ∷ T) → ⊥
        differs (inl told) e = glances told
        differs (inr ne) e = ne e

match_whole : (lock s : ℕ) (M : List Item) → eat_match lock s all_rest M ≡ Some [] → (j : Item) × (M ≡ j ∷ []) × (is_numbered step.Match lock j ≡ true)
match_whole lock s [] e = absurd cc
match_whole lock s (j ∷ M) e =
    let t = only (is_numbered step.Match lock j) (if number_in j.number == s then Some M else Some M) [] e in
    (j, elim (choice (number_in j.number == s) (Some M) (Some M) [] t.1) [ inl a ↦ (let none : M ≡ [] = cc (a.1) in ap (λ (l : List Item). j ∷ l) none) | inr b ↦ (let none : M ≡ [] = cc (b.1) in ap (λ (l : List Item). j ∷ l) none) ], t.0)

glanced : (lock first n : ℕ) (T : List Item) → eat_glance lock first n all_rest T ≡ Some [] → Glanced lock first n T
glanced lock first n [] e = absurd cc
glanced lock first n (i ∷ T) e =
    let m : ℕ = number_in i.number in
    let more : Rest = and_then (eat_run step.Part first n T) (eat_match lock m all_rest) in
    let t = only (is_numbered step.Stamp lock i) (if (m == 1) || (m == last_stamp) then Some T else more) [] e in
    elim (choice ((m == 1) || (m == last_stamp)) (Some T) more [] t.1) [
      | inl held ↦ (let none : [] ≡ T = cc (held.1) in subst (λ (l : List Item). Glanced lock first n (i ∷ l)) none (stamp_alone lock first n i t.0 held.0))
      | inr read ↦ (
          let parts = then_parts (eat_run step.Part first n T) (eat_match lock m all_rest) [] read.1 in
          let end = match_whole lock m parts.0 parts.2 in
          whole_glance lock first n i t.0 read.0 T end.0 end.2 (parts.1 ∙ ap (λ (l : List Item). Some l) end.1))
    ]

glanced_at : (S : Shape) (o : ℕ) (T : List Item) (l f n b : ℕ) → place_of S o ≡ Some (Parts l f n b) → IsGlance S o T → Glanced (lock_word S l) (data_word f) n T
glanced_at S o T l f n b there glance = glanced (lock_word S l) (data_word f) n T (subst (λ (p : Option Place). IsGlanceAt S p T) there glance)

-- the path of a load that isn't in a section is a glance first
load_path : (S : Shape) (o : ℕ) (r : Reply) (T : List Item) (l f n b : ℕ) → place_of S o ≡ Some (Parts l f n b) → S.section ≡ false
    → eat_glance (lock_word S l) (data_word f) n (eat_locked (lock_word S l) (data_word f) n false) T ≡ Some [] → IsPath S o Load r T
load_path S o r T l f n b there elsewhere e =
    ap (λ (p : Option Place). eat_by S (path_at S (kind_of S o) Load p) p Load r T) there
    ∙ (ap (λ (c : Bool). if true && not c then eat_glance (lock_word S l) (data_word f) n (eat_locked (lock_word S l) (data_word f) n false) T else eat_locked (lock_word S l) (data_word f) n false T) elsewhere ∙ e)

pub glance_is_short : GlanceIsShort
glance_is_short S o T l f n b there glance = let g = glanced_at S o T l f n b there glance in (g.alone, g.whole, g.takes, g.puts)

pub matched_glance_is_path : MatchedGlanceIsPath
matched_glance_is_path S o r T l f n b there elsewhere glance glances same =
    let g = glanced_at S o T l f n b there glance in
    load_path S o r T l f n b there elsewhere (ap (eat_glance (lock_word S l) (data_word f) n (eat_locked (lock_word S l) (data_word f) n false)) (sym (append-nil T)) ∙ g.hit (eat_locked (lock_word S l) (data_word f) n false) [] glances same)

pub missed_glance_goes_on : MissedGlanceGoesOn
missed_glance_goes_on S o r T U l f n b there elsewhere glance why locked =
    let g = glanced_at S o T l f n b there glance in
    load_path S o r (T ++ U) l f n b there elsewhere (g.missed_at (eat_locked (lock_word S l) (data_word f) n false) U why ∙ locked)
