-- How many steps each path has, and on which words they are.
use Rattle.std.proofs.Common.{◌≡◌, ◌≢◌, ◌⊎◌, inl, inr, ℕ, suc, ◌+◌, ◌*◌, ◌≤◌, ◌==◌, Bool, true, false, if◌then◌else◌, List, [], ◌∷◌, ◌++◌, length, Option, Some, None, refl, ap, sym, ◌∙◌, subst, arith, length-append}
use Rattle.std.specs.Prelude.{◌&&◌, ◌||◌, not}
use Rattle.op_table.specs.declared.call.Call.{Call}
use Rattle.op_table.specs.declared.call.Call.TheVariants.{Load}
use Rattle.op_table.specs.declared.call.Reply.{Reply}
use Rattle.op_table.specs.CallTests.{expects_another, is_weak, is_load, has_failed, does_write}
use Rattle.place_core.specs.declared.places.Place.{Place}
use Rattle.place_core.specs.declared.places.Place.TheVariants.{Lane, Parts}
use Rattle.place_core.specs.declared.places.Path.{Path}
use Rattle.place_core.specs.declared.places.Path.TheVariants.{Loop}
use Rattle.place_core.specs.declared.shape.Shape.{Shape}
use Rattle.place_core.specs.Shapes.{place_of, kind_of, data_word, lock_word}
use Rattle.place_core.specs.Operations.{path_at, plan_of}
use Rattle.seat_views.specs.declared.view.StepKind.TheVariants as step
use Rattle.seat_views.specs.declared.view.Item.{Item}
use Rattle.seat_views.specs.Limits.{last_stamp}
use Rattle.seat_views.specs.Items.{number_in, is_numbered, number_at, count_of}
use Rattle.seat_views.specs.Deciding.{lost_try_settles}
use Rattle.seat_views.specs.Paths.{lane_in, is_last_try, eat_tries, eat_loop, count_if, eat_locked, eat_glance, eat_one_step, eat_parts, eat_by, IsPath}
use Rattle.seat_views.specs.StepCounts.{OneStepIsOneItem, RefusedLookIsOneItem, WeakPathIsTwoItems, AreLost, found_last, LookAndTries, LoopIsLookAndTries, TakesAnd, WideWriteStoresAll, WideFailureStoresNone, SectionLoadStoresNone, StampsFirst, WideLoadStampsFirst, IsNoGlance, MatchedGlanceIsWhole, HeldGlanceTakes, MovedGlanceTakes, TakeFollowsMissedLook, WideLoadStoresNone}
use Rattle.seat_views.proofs.PathFronts.{only, choice, not_same, count_same, count_else, one_front, LockedCounts, locked_front, locked_counts, GlanceHeld, GlanceRead, glance_front, number_after, step_counts}

abbrev Rest : Type 0
Rest = Option (List Item)

-- ---- on a lane

one_step : (p : Option Place) (T R : List Item) → eat_one_step p T ≡ Some R → length T ≡ 1 + length R
one_step None T R e = absurd cc
one_step (Some (Parts l f n b)) T R e = absurd cc
one_step (Some (Lane w s d)) T R e =
    let F = one_front step.Op (data_word w) T R e in let one = F.1 in
    let whole = (count_same step.Op (data_word w) 1 T R F.0).1 in omega arith

pub one_step_is_one_item : OneStepIsOneItem
one_step_is_one_item S o call r T done plan path =
    one_step (place_of S o) T [] (sym (ap (λ (z : Path). eat_by S z (place_of S o) call r T) plan) ∙ path)

-- the plan is Loop on a lane
on_lane : (S : Shape) (o : ℕ) (call : Call) (r : Reply) (T : List Item) (w s d : ℕ) → plan_of S o call ≡ Loop → place_of S o ≡ Some (Lane w s d) → IsPath S o call r T → eat_loop (lane_in s d) (data_word w) call T ≡ Some []
on_lane S o call r T w s d plan there path = sym (λ i. eat_by S (plan i) (there i) call r T) ∙ path

module _ (lane : ℕ → ℕ) (w : ℕ) (call : Call) where
  -- the first number settles the call
  refused_look : (T R : List Item) → expects_another call (lane (number_at 0 T)) ≡ true → eat_loop lane w call T ≡ Some R → length T ≡ 1 + length R
  refused_look [] R stops e = absurd cc
  refused_look (i ∷ T) R stops e =
      let t = only (is_numbered step.Look w i) (if expects_another call (lane (number_in i.number)) then Some T else eat_tries lane w call (number_in i.number) T) R e in
      let left : Some T ≡ Some R = sym (ap (λ (b : Bool). if b then Some T else eat_tries lane w call (number_in i.number) T) stops) ∙ t.1 in
      let same : T ≡ R = cc in ap suc (ap length same) ∙ omega arith

  -- tries: the lost ones, and the last
  record Tries (n : ℕ) (T R : List Item) : Type 0 where
    lost : List Item
    last : Item
    split : T ≡ lost ++ last ∷ R
    all_lost : AreLost lane w call n lost
    tried : is_numbered step.Try w last ≡ true
    decided : is_last_try lane call (found_last n lost) (number_in last.number) ≡ true

  not_found : (n m : ℕ) → is_last_try lane call n m ≡ false → m ≢ n
  not_found n m e = not_same m n (first_false (m == n) (lost_try_settles call (lane m)) e)
    where
      first_false : (a b : Bool) → (a || b) ≡ false → a ≡ false
      first_false true b e = cc
      first_false false b e = refl

  tries_of : (T : List Item) (n : ℕ) (R : List Item) → eat_tries lane w call n T ≡ Some R → Tries n T R
  tries_of [] n R e = absurd cc
  tries_of (i ∷ T) n R e =
      let m : ℕ = number_in i.number in
      let t = only (is_numbered step.Try w i) (if is_last_try lane call n m then Some T else eat_tries lane w call m T) R e in
      elim (choice (is_last_try lane call n m) (Some T) (eat_tries lane w call m T) R t.1) [
        | inl ends ↦ record { lost = []; last = i; split = (let same : T ≡ R = cc (ends.1) in ap (λ (l : List Item). i ∷ l) same); all_lost = tt; tried = t.0; decided = ends.0 }
        | inr goes ↦ (let more = tries_of T m R goes.1 in
            record { lost = i ∷ more.lost; last = more.last; split = ap (λ (l : List Item). i ∷ l) more.split; all_lost = (t.0, not_found n m goes.0, goes.0, more.all_lost); tried = more.tried; decided = more.decided })
      ]

  look_and_tries : (T : List Item) → expects_another call (lane (number_at 0 T)) ≡ false → eat_loop lane w call T ≡ Some [] → LookAndTries lane w call T
  look_and_tries [] goes e = absurd cc
  look_and_tries (i ∷ T) goes e =
      let m : ℕ = number_in i.number in
      let t = only (is_numbered step.Look w i) (if expects_another call (lane m) then Some T else eat_tries lane w call m T) [] e in
      let left : eat_tries lane w call m T ≡ Some [] = sym (ap (λ (b : Bool). if b then Some T else eat_tries lane w call m T) goes) ∙ t.1 in
      let more = tries_of T m [] left in
      let whole : length T ≡ length more.lost + 1 = ap length more.split ∙ length-append more.lost (more.last ∷ []) in
      record {
        look = i;
        lost = more.lost;
        last = more.last;
        split = ap (λ (l : List Item). i ∷ l) more.split;
        looked = t.0;
        all_lost = more.all_lost;
        tried = more.tried;
        decided = more.decided;
        count = omega arith;
      }

  -- of a weak exchange no try is lost
  weak_last : is_weak call ≡ true → (n m : ℕ) → is_last_try lane call n m ≡ true
  weak_last weak n m = any_true (m == n) (is_weak call) (expects_another call (lane m)) weak
    where
      any_true : (a b c : Bool) → b ≡ true → (a || (b || c)) ≡ true
      any_true true b c e = refl
      any_true false true c e = refl
      any_true false false c e = cc

  none_lost : is_weak call ≡ true → (n : ℕ) (lost : List Item) → AreLost lane w call n lost → length lost ≡ 0
  none_lost weak n [] all = refl
  none_lost weak n (i ∷ more) all = let bad : false ≡ true = sym all.2 ∙ weak_last weak n (number_in i.number) in absurd cc

pub refused_look_is_one_item : RefusedLookIsOneItem
refused_look_is_one_item S o call r T w s d plan there stops path = refused_look (lane_in s d) (data_word w) call T [] stops (on_lane S o call r T w s d plan there path)

pub loop_is_look_and_tries : LoopIsLookAndTries
loop_is_look_and_tries S o call r T w s d plan there goes path = look_and_tries (lane_in s d) (data_word w) call T goes (on_lane S o call r T w s d plan there path)

pub weak_path_is_two_items : WeakPathIsTwoItems
weak_path_is_two_items S o call r T w s d plan there weak goes path =
    let turns = loop_is_look_and_tries S o call r T w s d plan there goes path in
    let none = none_lost (lane_in s d) (data_word w) call weak (number_in turns.look.number) turns.lost turns.all_lost in
    let count = turns.count in omega arith

-- ---- on parts

pub on_parts : (S : Shape) (o : ℕ) (call : Call) (r : Reply) (T : List Item) (l f n b : ℕ) → place_of S o ≡ Some (Parts l f n b) → IsPath S o call r T → eat_parts S (Some (Parts l f n b)) call r T ≡ Some []
on_parts S o call r T l f n b there path = sym (ap (λ (p : Option Place). eat_by S (path_at S (kind_of S o) call p) p call r T) there) ∙ path

module _ (S : Shape) (o : ℕ) (r : Reply) (T : List Item) (l f n b : ℕ) (there : place_of S o ≡ Some (Parts l f n b)) where
  lock : ℕ
  lock = lock_word S l

  -- a call that isn't a load is the piece under the lock
  pub locked_call : (call : Call) → is_load call ≡ false → IsPath S o call r T → eat_locked (lock_word S l) (data_word f) n (does_write call r) T ≡ Some []
  locked_call call other path =
      sym (ap (λ (c : Bool). if c && not S.section then eat_glance (lock_word S l) (data_word f) n (eat_locked (lock_word S l) (data_word f) n false) T else eat_locked (lock_word S l) (data_word f) n (does_write call r) T) other) ∙ on_parts S o call r T l f n b there path

  -- in a section a load is, too
  pub section_load : S.section ≡ true → IsPath S o Load r T → eat_locked (lock_word S l) (data_word f) n false T ≡ Some []
  section_load section path =
      sym (ap (λ (c : Bool). if true && not c then eat_glance (lock_word S l) (data_word f) n (eat_locked (lock_word S l) (data_word f) n false) T else eat_locked (lock_word S l) (data_word f) n false T) section) ∙ on_parts S o Load r T l f n b there path

  -- elsewhere it glances first
  pub glanced_load : S.section ≡ false → IsPath S o Load r T → eat_glance (lock_word S l) (data_word f) n (eat_locked (lock_word S l) (data_word f) n false) T ≡ Some []
  glanced_load elsewhere path =
      sym (ap (λ (c : Bool). if true && not c then eat_glance (lock_word S l) (data_word f) n (eat_locked (lock_word S l) (data_word f) n false) T else eat_locked (lock_word S l) (data_word f) n false T) elsewhere) ∙ on_parts S o Load r T l f n b there path

counts_of : (lock first n : ℕ) (writes : Bool) (T R : List Item) → eat_locked lock first n writes T ≡ Some R → LockedCounts n writes T R
counts_of lock first n writes T R e = locked_counts lock first n writes T R (locked_front lock first n writes T R e)

-- where the piece under the lock is the whole path
whole_piece : (n others puts : ℕ) (writes : Bool) (T : List Item) → LockedCounts n writes T [] → count_if writes n ≡ puts → others ≡ n + puts + 1 → TakesAnd others T × (count_of step.Put T ≡ puts)
whole_piece n others puts writes T c stored sum =
    let some = c.some in let taken = c.taken in let put = c.put in let count = c.count in
    (record { taken = omega arith; count = omega arith }, omega arith)

writes_if : (call : Call) (r : Reply) → is_load call ≡ false → has_failed r ≡ false → does_write call r ≡ true
writes_if call r other done = λ i. not (other i) && not (done i)

writes_not : (call : Call) (r : Reply) → is_load call ≡ false → has_failed r ≡ true → does_write call r ≡ false
writes_not call r other failed = λ i. not (other i) && not (failed i)

pub wide_write_stores_all : WideWriteStoresAll
wide_write_stores_all S o call r T l f n b there other done path =
    whole_piece n (2 * n + 1) n (does_write call r) T (counts_of (lock_word S l) (data_word f) n (does_write call r) T [] (locked_call S o r T l f n b there call other path)) (ap (λ (c : Bool). count_if c n) (writes_if call r other done)) (omega arith)

pub wide_failure_stores_none : WideFailureStoresNone
wide_failure_stores_none S o call r T l f n b there other failed path =
    whole_piece n (n + 1) 0 (does_write call r) T (counts_of (lock_word S l) (data_word f) n (does_write call r) T [] (locked_call S o r T l f n b there call other path)) (ap (λ (c : Bool). count_if c n) (writes_not call r other failed)) (omega arith)

pub section_load_stores_none : SectionLoadStoresNone
section_load_stores_none S o r T l f n b there section path =
    whole_piece n (n + 1) 0 false T (counts_of (lock_word S l) (data_word f) n false T [] (section_load S o r T l f n b there section path)) refl (omega arith)

-- ---- a load that glances first

abbrev pub Missed : ℕ → ℕ → ℕ → List Item → Rest
Missed lock first n U = eat_locked lock first n false U

-- the counts of a glance that stopped at its stamp
held_counts : (lock first n : ℕ) (T : List Item) → GlanceHeld lock (Missed lock first n) T [] → IsNoGlance T × TakesAnd (1 + n + 1) T × (count_of step.Put T ≡ 0)
held_counts lock first n T g =
    let c = counts_of lock first n false g.others [] g.goes_on in
    let first_is : number_at 0 T ≡ number_in g.stamp.number = ap (number_at 0) g.split in
    let some = c.some in let taken = c.taken in let put = c.put in let count = c.count in
    let length_is : length T ≡ 1 + length g.others = ap length g.split ∙ omega arith in
    let takes_are : count_of step.Take T ≡ count_of step.Take g.others = ap (count_of step.Take) g.split ∙ step_counts step.Take step.Stamp lock g.stamp g.others g.stamps refl in
    let puts_are : count_of step.Put T ≡ count_of step.Put g.others = ap (count_of step.Put) g.split ∙ step_counts step.Put step.Stamp lock g.stamp g.others g.stamps refl in
    (subst (λ (z : ℕ). (z ≡ 1) ⊎ (z ≡ last_stamp)) (sym first_is) g.told, record { taken = omega arith; count = omega arith }, omega arith)

pub record ReadCounts (lock first n : ℕ) (T rest : List Item) : Type 0 where
  pub glances : IsNoGlance T → ⊥
  pub takes : count_of step.Take T ≡ count_of step.Take rest
  pub puts : count_of step.Put T ≡ count_of step.Put rest
  pub count : length T ≡ n + 2 + length rest
  pub ends : ((number_at (suc n) T ≡ number_at 0 T) × (rest ≡ [])) ⊎ ((number_at (suc n) T ≢ number_at 0 T) × (Missed lock first n rest ≡ Some []))

pub read_counts : (lock first n : ℕ) (T : List Item) (g : GlanceRead lock first n (Missed lock first n) T []) → ReadCounts lock first n T g.rest
read_counts lock first n T g =
    let first_is : number_at 0 T ≡ number_in g.stamp.number = ap (number_at 0) g.split in
    let others_are : g.others ≡ g.parts.front ++ g.again ∷ g.rest = g.parts.split ∙ ap (λ (l : List Item). g.parts.front ++ l) g.match_split in
    let last_is : number_at (suc n) T ≡ number_in g.again.number = ap (number_at (suc n)) g.split ∙ (ap (number_at n) others_are ∙ (ap (λ (z : ℕ). number_at z (g.parts.front ++ g.again ∷ g.rest)) (sym g.part_count) ∙ number_after g.parts.front g.again g.rest)) in
    let part_count = g.part_count in
    let parts = count_same step.Part first n g.others g.after_parts g.parts in
    let t0 = step_counts step.Take step.Stamp lock g.stamp g.others g.stamps refl in
    let t1 = count_else step.Take step.Part first n g.others g.after_parts g.parts refl in
    let t2 = step_counts step.Take step.Match lock g.again g.rest g.matches refl in
    let u0 = step_counts step.Put step.Stamp lock g.stamp g.others g.stamps refl in
    let u1 = count_else step.Put step.Part first n g.others g.after_parts g.parts refl in
    let u2 = step_counts step.Put step.Match lock g.again g.rest g.matches refl in
    record {
      glances = λ told. g.fresh (subst (λ (z : ℕ). (z ≡ 1) ⊎ (z ≡ last_stamp)) first_is told);
      takes = ap (count_of step.Take) g.split ∙ (t0 ∙ (t1 ∙ (ap (count_of step.Take) g.match_split ∙ t2)));
      puts = ap (count_of step.Put) g.split ∙ (u0 ∙ (u1 ∙ (ap (count_of step.Put) g.match_split ∙ u2)));
      count = (let a : length T ≡ 1 + length g.others = ap length g.split ∙ omega arith in let c = parts.1 in
          let d : length g.after_parts ≡ 1 + length g.rest = ap length g.match_split ∙ omega arith in omega arith);
      ends = elim g.ends [ inl same ↦ inl (last_is ∙ (same.0 ∙ sym first_is), same.1) | inr moved ↦ inr (λ e. moved.0 (sym last_is ∙ (e ∙ first_is)), moved.1) ];
    }

module _ (S : Shape) (o : ℕ) (r : Reply) (T : List Item) (l f n b : ℕ) (there : place_of S o ≡ Some (Parts l f n b)) (elsewhere : S.section ≡ false) (path : IsPath S o Load r T) where
  cases : GlanceHeld (lock_word S l) (Missed (lock_word S l) (data_word f) n) T [] ⊎ GlanceRead (lock_word S l) (data_word f) n (Missed (lock_word S l) (data_word f) n) T []
  cases = glance_front (lock_word S l) (data_word f) n (Missed (lock_word S l) (data_word f) n) T [] (glanced_load S o r T l f n b there elsewhere path)

  stamps_first : StampsFirst S l T
  stamps_first = elim cases [ inl g ↦ record { first = g.stamp; others = g.others; split = g.split; stamps = g.stamps } | inr g ↦ record { first = g.stamp; others = g.others; split = g.split; stamps = g.stamps } ]

  held : IsNoGlance T → TakesAnd (1 + n + 1) T
  held told = elim cases [ inl g ↦ (held_counts (lock_word S l) (data_word f) n T g).1 | inr g ↦ absurd ((read_counts (lock_word S l) (data_word f) n T g).glances told) ]

  matched : (IsNoGlance T → ⊥) → number_at (suc n) T ≡ number_at 0 T → (length T ≡ n + 2) × (count_of step.Take T ≡ 0)
  matched glances same = elim cases [ inl g ↦ absurd (glances (held_counts (lock_word S l) (data_word f) n T g).0) | inr g ↦ hit g.rest (read_counts (lock_word S l) (data_word f) n T g) ]
    where
      ended : (rest : List Item) (c : ReadCounts (lock_word S l) (data_word f) n T rest) → rest ≡ [] → (length T ≡ n + 2) × (count_of step.Take T ≡ 0)
      ended rest c none = (let count = c.count in let zero_left : length rest ≡ 0 = ap length none in omega arith, c.takes ∙ ap (count_of step.Take) none)

      hit : (rest : List Item) → ReadCounts (lock_word S l) (data_word f) n T rest → (length T ≡ n + 2) × (count_of step.Take T ≡ 0)
      hit rest c = elim c.ends [ inl e ↦ ended rest c e.1 | inr e ↦ absurd (e.0 same) ]

  moved : (IsNoGlance T → ⊥) → number_at (suc n) T ≢ number_at 0 T → TakesAnd (n + 2 + (n + 1)) T
  moved glances differs = elim cases [ inl g ↦ absurd (glances (held_counts (lock_word S l) (data_word f) n T g).0) | inr g ↦ miss g.rest (read_counts (lock_word S l) (data_word f) n T g) ]
    where
      locked : (rest : List Item) (c : ReadCounts (lock_word S l) (data_word f) n T rest) → LockedCounts n false rest [] → TakesAnd (n + 2 + (n + 1)) T
      locked rest c k = let some = k.some in let taken = k.taken in let size = k.count in let takes = c.takes in let count = c.count in record { taken = omega arith; count = omega arith }

      miss : (rest : List Item) → ReadCounts (lock_word S l) (data_word f) n T rest → TakesAnd (n + 2 + (n + 1)) T
      miss rest c = elim c.ends [ inl e ↦ absurd (differs e.0) | inr e ↦ locked rest c (counts_of (lock_word S l) (data_word f) n false rest [] e.1) ]

  taken_after : 1 ≤ count_of step.Take T → IsNoGlance T ⊎ (number_at (suc n) T ≢ number_at 0 T)
  taken_after some = elim cases [ inl g ↦ inl (held_counts (lock_word S l) (data_word f) n T g).0 | inr g ↦ inr (λ same. none_taken (matched (read_counts (lock_word S l) (data_word f) n T g).glances same)) ]
    where
      none_taken : (length T ≡ n + 2) × (count_of step.Take T ≡ 0) → ⊥
      none_taken t = let none = t.1 in omega arith

  none_stored : count_of step.Put T ≡ 0
  none_stored = elim cases [ inl g ↦ (held_counts (lock_word S l) (data_word f) n T g).2 | inr g ↦ stored g.rest (read_counts (lock_word S l) (data_word f) n T g) ]
    where
      of_locked : (U : List Item) → LockedCounts n false U [] → count_of step.Put U ≡ 0
      of_locked U k = let put = k.put in omega arith

      stored : (rest : List Item) → ReadCounts (lock_word S l) (data_word f) n T rest → count_of step.Put T ≡ 0
      stored rest c = elim c.ends [ inl e ↦ c.puts ∙ ap (count_of step.Put) e.1 | inr e ↦ c.puts ∙ of_locked rest (counts_of (lock_word S l) (data_word f) n false rest [] e.1) ]

pub wide_load_stamps_first : WideLoadStampsFirst
wide_load_stamps_first S o r T l f n b there elsewhere path = stamps_first S o r T l f n b there elsewhere path

pub matched_glance_is_whole : MatchedGlanceIsWhole
matched_glance_is_whole S o r T l f n b there elsewhere path glances same = matched S o r T l f n b there elsewhere path glances same

pub held_glance_takes : HeldGlanceTakes
held_glance_takes S o r T l f n b there elsewhere path told = held S o r T l f n b there elsewhere path told

pub moved_glance_takes : MovedGlanceTakes
moved_glance_takes S o r T l f n b there elsewhere path glances differs = moved S o r T l f n b there elsewhere path glances differs

pub take_follows_missed_look : TakeFollowsMissedLook
take_follows_missed_look S o r T l f n b there elsewhere path some = taken_after S o r T l f n b there elsewhere path some

pub wide_load_stores_none : WideLoadStoresNone
wide_load_stores_none S o r T l f n b there path = go S.section refl
  where
    go : (c : Bool) → S.section ≡ c → count_of step.Put T ≡ 0
    go true is = (section_load_stores_none S o r T l f n b there is path).1
    go false is = none_stored S o r T l f n b there is path
