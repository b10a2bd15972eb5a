-- On which words the steps of a path are.
use Rattle.std.proofs.Common.{◌≡◌, inl, inr, ℕ, ◌+◌, ◌<◌, ◌≤◌, ◌==◌, Bool, true, false, if◌then◌else◌, List, [], ◌∷◌, Option, Some, refl, ap, sym, ◌∙◌, subst, arith}
use Rattle.std.specs.Prelude.{◌&&◌, ◌||◌, not}
use Rattle.std.specs.List.{AllByRecursion}
use Rattle.op_table.specs.declared.call.Call.{Call}
use Rattle.op_table.specs.declared.call.Reply.{Reply}
use Rattle.op_table.specs.CallTests.{expects_another, is_load, does_write}
use Rattle.place_core.specs.declared.places.Place.{Place}
use Rattle.place_core.specs.declared.places.Place.TheVariants.{Lane}
use Rattle.place_core.specs.declared.places.Path.{Path}
use Rattle.place_core.specs.declared.places.Path.TheVariants.{One, Loop, Locked}
use Rattle.place_core.specs.declared.shape.Shape.{Shape}
use Rattle.place_core.specs.Shapes.{data_word, lock_word}
use Rattle.place_core.specs.Operations.{plan_of}
use Rattle.place_core.proofs.EntryLists.{all_append, all_map}
use Rattle.seat_views.specs.declared.view.StepKind.{StepKind}
use Rattle.seat_views.specs.declared.view.StepKind.TheVariants as step
use Rattle.seat_views.specs.declared.view.Item.{Item}
use Rattle.seat_views.specs.Items.{kind_code, number_in, is_numbered}
use Rattle.seat_views.specs.Paths.{lane_in, is_last_try, eat_tries, eat_loop, count_if, eat_locked, eat_glance, eat_by}
use Rattle.seat_views.specs.PathLaws.{LaneStepsStay, is_on_lock, IsOwnStep, PartsStepsStay}
use Rattle.seat_views.proofs.PathFronts.{only, choice, numbered_at, Are, Front, one_front, LockedFront, locked_front, GlanceHeld, GlanceRead, glance_front}
use Rattle.seat_views.proofs.PathCounts.{on_parts}

-- ---- on a lane

abbrev Stay : ℕ → List Item → Type 0
Stay w T = AllByRecursion (λ (i : Item). i.word ≡ w) T

one_stays : (w : ℕ) (k : StepKind) (F : List Item) → Are k w 1 F → Stay w F
one_stays w k F are = all_map (λ (i : Item). (kind_code i.kind ≡ kind_code k) × (w ≤ i.word) × (i.word < w + 1)) (λ (i : Item). i.word ≡ w) F (λ i is. let low = is.1 in let high = is.2 in omega arith) are

tries_stay : (lane : ℕ → ℕ) (w : ℕ) (call : Call) (n : ℕ) (T : List Item) → eat_tries lane w call n T ≡ Some [] → Stay w T
tries_stay lane w call n [] e = absurd cc
tries_stay lane w call n (i ∷ T) e =
    let m : ℕ = number_in i.number in
    let t = only (is_numbered step.Try w i) (if is_last_try lane call n m then Some T else eat_tries lane w call m T) [] e in
    let here = (numbered_at step.Try w i t.0).1 in
    elim (choice (is_last_try lane call n m) (Some T) (eat_tries lane w call m T) [] t.1) [
      | inl ends ↦ (here, (let none : [] ≡ T = cc (ends.1) in subst (Stay w) none tt))
      | inr goes ↦ (here, tries_stay lane w call m T goes.1)
    ]

loop_stays : (lane : ℕ → ℕ) (w : ℕ) (call : Call) (T : List Item) → eat_loop lane w call T ≡ Some [] → Stay w T
loop_stays lane w call [] e = absurd cc
loop_stays lane w call (i ∷ T) e =
    let m : ℕ = number_in i.number in
    let t = only (is_numbered step.Look w i) (if expects_another call (lane m) then Some T else eat_tries lane w call m T) [] e in
    let here = (numbered_at step.Look w i t.0).1 in
    elim (choice (expects_another call (lane m)) (Some T) (eat_tries lane w call m T) [] t.1) [
      | inl ends ↦ (here, (let none : [] ≡ T = cc (ends.1) in subst (Stay w) none tt))
      | inr goes ↦ (here, tries_stay lane w call m T goes.1)
    ]

by_plan : (S : Shape) (plan : Path) (w s d : ℕ) (call : Call) (r : Reply) (T : List Item) → eat_by S plan (Some (Lane w s d)) call r T ≡ Some [] → Stay (data_word w) T
by_plan S (One done) w s d call r T e = let F = (one_front step.Op (data_word w) T [] e).0 in
    subst (Stay (data_word w)) (sym F.split) (all_append (λ (i : Item). i.word ≡ data_word w) F.front [] (one_stays (data_word w) step.Op F.front F.are) tt)
by_plan S Loop w s d call r T e = loop_stays (lane_in s d) (data_word w) call T e
by_plan S Locked w s d call r T e = absurd cc

pub lane_steps_stay : LaneStepsStay
lane_steps_stay S o call r T w s d there path = by_plan S (plan_of S o call) w s d call r T (sym (ap (λ (p : Option Place). eat_by S (plan_of S o call) p call r T) there) ∙ path)

-- ---- on parts

lock_code : ℕ → Bool
lock_code c = (c == 3) || (c == 6) || (c == 7) || (c == 9)

code_tells : (k : StepKind) → lock_code (kind_code k) ≡ is_on_lock k
unfolding lock_code
code_tells step.Op = refl
code_tells step.Look = refl
code_tells step.Try = refl
code_tells step.Take = refl
code_tells step.Held = refl
code_tells step.Put = refl
code_tells step.Release = refl
code_tells step.Stamp = refl
code_tells step.Part = refl
code_tells step.Match = refl

same_code : (j k : StepKind) → kind_code j ≡ kind_code k → is_on_lock j ≡ is_on_lock k
same_code j k e = sym (code_tells j) ∙ (ap lock_code e ∙ code_tells k)

module _ (S : Shape) (l f n : ℕ) where
  abbrev Own : List Item → Type 0
  Own T = AllByRecursion (IsOwnStep S l f n) T

  on_lock : (k : StepKind) (F : List Item) → is_on_lock k ≡ true → Are k (lock_word S l) 1 F → Own F
  on_lock k F lock are = all_map (λ (i : Item). (kind_code i.kind ≡ kind_code k) × (lock_word S l ≤ i.word) × (i.word < lock_word S l + 1)) (IsOwnStep S l f n) F
      (λ i is. let low = is.1 in let high = is.2 in inl (same_code i.kind k is.0 ∙ lock, omega arith)) are

  on_part : (k : StepKind) (c : ℕ) (F : List Item) → is_on_lock k ≡ false → c ≤ n → Are k (data_word f) c F → Own F
  on_part k c F part le are = all_map (λ (i : Item). (kind_code i.kind ≡ kind_code k) × (data_word f ≤ i.word) × (i.word < data_word f + c)) (IsOwnStep S l f n) F
      (λ i is. let low = is.1 in let high = is.2 in inr (same_code i.kind k is.0 ∙ part, low, omega arith)) are

  own_front : (k : StepKind) (w c : ℕ) (T R : List Item) (F : Front k w c T R) → Own F.front → Own R → Own T
  own_front k w c T R F first more = subst Own (sym F.split) (all_append (IsOwnStep S l f n) F.front R first more)

  own_numbered : (k : StepKind) (i : Item) → is_on_lock k ≡ true → is_numbered k (lock_word S l) i ≡ true → IsOwnStep S l f n i
  own_numbered k i lock is = let t = numbered_at k (lock_word S l) i is in inl (same_code i.kind k t.0 ∙ lock, t.1)

  count_within : (writes : Bool) → count_if writes n ≤ n
  count_within true = omega arith
  count_within false = omega arith

  own_locked : (writes : Bool) (T R : List Item) → LockedFront (lock_word S l) (data_word f) n writes T R → Own R → Own T
  own_locked writes T R L more =
      own_front step.Take (lock_word S l) 1 T L.after_takes L.takes (on_lock step.Take L.takes.front refl L.takes.are)
      (own_front step.Held (data_word f) n L.after_takes L.reads L.helds (on_part step.Held n L.helds.front refl (omega arith) L.helds.are)
      (own_front step.Put (data_word f) (count_if writes n) L.reads L.stores L.puts (on_part step.Put (count_if writes n) L.puts.front refl (count_within writes) L.puts.are)
      (own_front step.Release (lock_word S l) 1 L.stores R L.release (on_lock step.Release L.release.front refl L.release.are) more)))

  locked_is_own : (writes : Bool) (T : List Item) → eat_locked (lock_word S l) (data_word f) n writes T ≡ Some [] → Own T
  locked_is_own writes T e = own_locked writes T [] (locked_front (lock_word S l) (data_word f) n writes T [] e) tt

  abbrev missed : List Item → Option (List Item)
  missed U = eat_locked (lock_word S l) (data_word f) n false U

  glance_is_own : (T : List Item) → eat_glance (lock_word S l) (data_word f) n (eat_locked (lock_word S l) (data_word f) n false) T ≡ Some [] → Own T
  glance_is_own T e = elim (glance_front (lock_word S l) (data_word f) n missed T [] e) [ inl g ↦ held g | inr g ↦ read g ]
    where
      held : GlanceHeld (lock_word S l) missed T [] → Own T
      held g = subst Own (sym g.split) (own_numbered step.Stamp g.stamp refl g.stamps, locked_is_own false g.others g.goes_on)

      rest : (g : GlanceRead (lock_word S l) (data_word f) n missed T []) → Own g.rest
      rest g = elim g.ends [ inl e ↦ subst Own (sym e.1) tt | inr e ↦ locked_is_own false g.rest e.1 ]

      read : GlanceRead (lock_word S l) (data_word f) n missed T [] → Own T
      read g = subst Own (sym g.split) (
        own_numbered step.Stamp g.stamp refl g.stamps,
        own_front step.Part (data_word f) n g.others g.after_parts g.parts (on_part step.Part n g.parts.front refl (omega arith) g.parts.are)
            (subst Own (sym g.match_split) (own_numbered step.Match g.again refl g.matches, rest g)),
      )

pub parts_steps_stay : PartsStepsStay
parts_steps_stay S o call r T l f n b there path = go (is_load call && not S.section) (on_parts S o call r T l f n b there path)
  where
    go : (c : Bool) → (if c then eat_glance (lock_word S l) (data_word f) n (eat_locked (lock_word S l) (data_word f) n false) T else eat_locked (lock_word S l) (data_word f) n (does_write call r) T) ≡ Some []
        → AllByRecursion (IsOwnStep S l f n) T
    go true e = glance_is_own S l f n T e
    go false e = locked_is_own S l f n (does_write call r) T e
