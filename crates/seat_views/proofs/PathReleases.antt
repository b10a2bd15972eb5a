-- What the release at the end of a path stores.
use Rattle.std.proofs.Common.{◌≡◌, ◌⊎◌, inl, inr, ℕ, ◌≤◌, ◌==◌, Bool, true, false, if◌then◌else◌, List, [], ◌∷◌, ◌++◌, Option, Some, None, refl, ap, sym, ◌∙◌, arith, append_assoc, eq-eqb}
use Rattle.place_core.specs.declared.shape.Shape.{Shape}
use Rattle.place_core.specs.Shapes.{data_word, lock_word}
use Rattle.seat_views.specs.declared.view.StepKind.{StepKind}
use Rattle.seat_views.specs.declared.view.StepKind.TheVariants as step
use Rattle.seat_views.specs.declared.view.Item.{Item}
use Rattle.seat_views.specs.LockSteps.{released}
use Rattle.seat_views.specs.Items.{kind_code, number_in, is_step, is_numbered, is_just, count_of}
use Rattle.op_table.specs.CallTests.{does_write}
use Rattle.seat_views.specs.Paths.{and_then, eat_just, eat_run, count_if, eat_takes, eat_held, eat_locked, eat_glance}
use Rattle.seat_views.specs.PathLaws.{last_taken, ReleasesLast, CallReleasesLast, LoadReleasesLast}
use Rattle.seat_views.proofs.PathFronts.{only, numbered_at, just_at, Are, Front, run_front, takes_front, take_only, then_parts, GlanceHeld, GlanceRead, glance_front}
use Rattle.seat_views.proofs.PathCounts.{locked_call, section_load, glanced_load, Missed, read_counts}

-- ---- the last take

skipped : (m : ℕ) (i : Item) (T : List Item) → is_step step.Take i ≡ false → last_taken m (i ∷ T) ≡ last_taken m T
skipped m i T other = ap (λ (b : Bool). last_taken (if b then number_in i.number else m) T) other

other_step : (k : StepKind) (i : Item) → kind_code i.kind ≡ kind_code k → (kind_code k == 3) ≡ false → is_step step.Take i ≡ false
other_step k i same other = ap (λ (z : ℕ). z == 3) same ∙ other

-- steps of another kind are passed over
run_skipped : (k : StepKind) (w c m : ℕ) (F R : List Item) → (kind_code k == 3) ≡ false → Are k w c F → last_taken m (F ++ R) ≡ last_taken m R
run_skipped k w c m [] R other are = refl
run_skipped k w c m (i ∷ F) R other are = skipped m i (F ++ R) (other_step k i are.0.0 other) ∙ run_skipped k w c m F R other are.1

front_skipped : (k : StepKind) (w c m : ℕ) (T R : List Item) → (kind_code k == 3) ≡ false → Front k w c T R → last_taken m T ≡ last_taken m R
front_skipped k w c m T R other F = ap (last_taken m) F.split ∙ run_skipped k w c m F.front R other F.are

step_skipped : (k : StepKind) (w m : ℕ) (i : Item) (T : List Item) → is_numbered k w i ≡ true → (kind_code k == 3) ≡ false → last_taken m (i ∷ T) ≡ last_taken m T
step_skipped k w m i T is other = skipped m i T (other_step k i (numbered_at k w i is).0 other)

abbrev pair_in : ℕ × List Item → Option (ℕ × List Item) → ℕ × List Item
pair_in d None = d
pair_in d (Some p) = p

take_one : (b : Bool) (x : Option (ℕ × List Item)) (n : ℕ) (T : List Item) (s : ℕ) (R : List Item) → (if b then x else Some (n, T)) ≡ Some (s, R) → (x ≡ Some (s, R)) ⊎ (last_taken n T ≡ last_taken s R)
take_one true x n T s R e = inl e
take_one false x n T s R e = inr (λ k. let p : ℕ × List Item = pair_in (n, T) (e k) in last_taken p.0 p.1)

takes_last : (lock m : ℕ) (T : List Item) (s : ℕ) (R : List Item) → eat_takes lock T ≡ Some (s, R) → last_taken m T ≡ last_taken s R
takes_last lock m [] s R e = absurd cc
takes_last lock m (i ∷ T) s R e =
    let n : ℕ = number_in i.number in
    let t = take_only (is_numbered step.Take lock i) (if n == 1 then eat_takes lock T else Some (n, T)) (s, R) e in
    let take : is_step step.Take i ≡ true = eq-eqb (kind_code i.kind) 3 (numbered_at step.Take lock i t.0).0 in
    ap (λ (b : Bool). last_taken (if b then n else m) T) take ∙ elim (take_one (n == 1) (eat_takes lock T) n T s R t.1) [ inl again ↦ takes_last lock n T s R again | inr same ↦ same ]

-- ---- the release

just_last : (k : StepKind) (w n : ℕ) (T : List Item) → eat_just k w n T ≡ Some [] → (i : Item) × (T ≡ i ∷ []) × (is_just k w n i ≡ true)
just_last k w n [] e = absurd cc
just_last k w n (i ∷ T) e = let t = only (is_just k w n i) (Some T) [] e in (i, (let none : T ≡ [] = cc (t.1) in ap (λ (l : List Item). i ∷ l) none), t.0)

abbrev Ends : ℕ → Bool → ℕ → List Item → Type 0
Ends lock writes m T = (before : List Item) × (last : Item) × (T ≡ before ++ last ∷ []) × (is_just step.Release lock (released writes (last_taken m T)) last ≡ true)

ends_after : (lock : ℕ) (writes : Bool) (m : ℕ) (F T R : List Item) → T ≡ F ++ R → last_taken m T ≡ last_taken m R → Ends lock writes m R → Ends lock writes m T
ends_after lock writes m F T R split same e =
    (F ++ e.0, e.1, split ∙ (ap (λ (l : List Item). F ++ l) e.2 ∙ sym (append_assoc F e.0 (e.1 ∷ []))), ap (λ (z : ℕ). is_just step.Release lock (released writes z) e.1) same ∙ e.3)

locked_ends : (lock first n : ℕ) (writes : Bool) (m : ℕ) (T : List Item) → eat_locked lock first n writes T ≡ Some [] → Ends lock writes m T
locked_ends lock first n writes m T e = go (eat_takes lock T) refl e
  where
    go : (z : Option (ℕ × List Item)) → eat_takes lock T ≡ z → eat_held lock first n writes z ≡ Some [] → Ends lock writes m T
    go None is h = absurd cc
    go (Some p) is h =
        let outer = then_parts (and_then (eat_run step.Held first n p.1) (eat_run step.Put first (count_if writes n))) (eat_just step.Release lock (released writes p.0)) [] h in
        let inner = then_parts (eat_run step.Held first n p.1) (eat_run step.Put first (count_if writes n)) outer.0 outer.1 in
        let takes = (takes_front lock T p.0 p.1 is).0 in
        let helds = (run_front step.Held first n p.1 inner.0 inner.1).0 in
        let puts = (run_front step.Put first (count_if writes n) inner.0 outer.0 inner.2).0 in
        let last = just_last step.Release lock (released writes p.0) outer.0 outer.2 in
        let i : Item = last.0 in
        let end : last_taken p.0 outer.0 ≡ p.0 = ap (last_taken p.0) last.1 ∙ skipped p.0 i [] (other_step step.Release i (just_at step.Release lock (released writes p.0) i last.2).0 refl) in
        let found : last_taken m T ≡ p.0 = takes_last lock m T p.0 p.1 is ∙ (front_skipped step.Held first n p.0 p.1 inner.0 refl helds ∙ (front_skipped step.Put first (count_if writes n) p.0 inner.0 outer.0 refl puts ∙ end)) in
        let whole : T ≡ takes.front ++ (helds.front ++ (puts.front ++ i ∷ [])) = takes.split ∙ ap (λ (l : List Item). takes.front ++ l) (helds.split ∙ ap (λ (l : List Item). helds.front ++ l) (puts.split ∙ ap (λ (l : List Item). puts.front ++ l) last.1)) in (
          takes.front ++ (helds.front ++ puts.front),
          i,
          whole ∙ sym (append_assoc takes.front (helds.front ++ puts.front) (i ∷ []) ∙ ap (λ (l : List Item). takes.front ++ l) (append_assoc helds.front puts.front (i ∷ []))),
          ap (λ (z : ℕ). is_just step.Release lock (released writes z) i) found ∙ last.2,
        )

ends_as : (S : Shape) (l : ℕ) (writes : Bool) (T : List Item) → Ends (lock_word S l) writes 0 T → ReleasesLast S l writes T
ends_as S l writes T e = record { before = e.0; last = e.1; split = e.2; stores = e.3 }

pub call_releases_last : CallReleasesLast
call_releases_last S o call r T l f n b there other path =
    ends_as S l (does_write call r) T (locked_ends (lock_word S l) (data_word f) n (does_write call r) 0 T (locked_call S o r T l f n b there call other path))

module _ (lock first n : ℕ) (T : List Item) where
  held_ends : GlanceHeld lock (Missed lock first n) T [] → Ends lock false 0 T
  held_ends g = ends_after lock false 0 (g.stamp ∷ []) T g.others g.split (ap (last_taken 0) g.split ∙ step_skipped step.Stamp lock 0 g.stamp g.others g.stamps refl) (locked_ends lock first n false 0 g.others g.goes_on)

  read_ends : (g : GlanceRead lock first n (Missed lock first n) T []) → Missed lock first n g.rest ≡ Some [] → Ends lock false 0 T
  read_ends g e =
      let part : last_taken 0 g.others ≡ last_taken 0 g.after_parts = front_skipped step.Part first n 0 g.others g.after_parts refl g.parts in
      let again : last_taken 0 g.after_parts ≡ last_taken 0 g.rest = ap (last_taken 0) g.match_split ∙ step_skipped step.Match lock 0 g.again g.rest g.matches refl in
      ends_after lock false 0 (g.stamp ∷ []) T g.others g.split (ap (last_taken 0) g.split ∙ step_skipped step.Stamp lock 0 g.stamp g.others g.stamps refl)
      (ends_after lock false 0 g.parts.front g.others g.after_parts g.parts.split part
      (ends_after lock false 0 (g.again ∷ []) g.after_parts g.rest g.match_split again (locked_ends lock first n false 0 g.rest e)))

  none_taken : (g : GlanceRead lock first n (Missed lock first n) T []) → 1 ≤ count_of step.Take T → g.rest ≡ [] → ⊥
  none_taken g some none =
      let takes : count_of step.Take T ≡ count_of step.Take g.rest = (read_counts lock first n T g).takes in
      let nothing : count_of step.Take g.rest ≡ 0 = ap (count_of step.Take) none in omega arith

  glance_ends : 1 ≤ count_of step.Take T → eat_glance lock first n (Missed lock first n) T ≡ Some [] → Ends lock false 0 T
  glance_ends some e = elim (glance_front lock first n (Missed lock first n) T [] e) [
    | inl g ↦ held_ends g
    | inr g ↦ elim g.ends [ inl same ↦ absurd (none_taken g some same.1) | inr moved ↦ read_ends g moved.1 ]
  ]

pub load_releases_last : LoadReleasesLast
load_releases_last S o r T l f n b there path some = go S.section refl
  where
    go : (c : Bool) → S.section ≡ c → ReleasesLast S l false T
    go true is = ends_as S l false T (locked_ends (lock_word S l) (data_word f) n false 0 T (section_load S o r T l f n b there is path))
    go false is = ends_as S l false T (glance_ends (lock_word S l) (data_word f) n T some (glanced_load S o r T l f n b there is path))
