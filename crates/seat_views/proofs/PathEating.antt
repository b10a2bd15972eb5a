-- Where the steps of a call are eaten of a trail, they are eaten of every longer one; so trails of consecutive calls are joined.
use Rattle.std.proofs.Common.{◌≡◌, ℕ, zero, suc, ◌+◌, ◌==◌, Bool, true, false, if◌then◌else◌, List, [], ◌∷◌, ◌++◌, Option, Some, None, refl, ap, sym, ◌∙◌, arith}
use Rattle.std.specs.Prelude.{◌&&◌, ◌||◌, not}
use Rattle.op_table.specs.declared.call.Call.{Call}
use Rattle.op_table.specs.declared.call.Reply.{Reply}
use Rattle.op_table.specs.CallTests.{expects_another, is_load, does_write}
use Rattle.place_core.specs.declared.places.Place.{Place}
use Rattle.place_core.specs.declared.places.Place.TheVariants.{Lane, Parts}
use Rattle.place_core.specs.declared.places.Path.{Path}
use Rattle.place_core.specs.declared.places.Path.TheVariants.{One, Loop, Locked}
use Rattle.place_core.specs.declared.shape.Shape.{Shape}
use Rattle.place_core.specs.Shapes.{place_of, data_word, lock_word}
use Rattle.place_core.specs.Operations.{plan_of}
use Rattle.seat_views.specs.declared.view.StepKind.{StepKind}
use Rattle.seat_views.specs.declared.view.StepKind.TheVariants as step
use Rattle.seat_views.specs.declared.view.Item.{Item}
use Rattle.seat_views.specs.Limits.{last_stamp}
use Rattle.seat_views.specs.LockSteps.{released}
use Rattle.seat_views.specs.Items.{number_in, is_item, is_numbered, is_just}
use Rattle.seat_views.specs.Paths.{and_then, eat_one, eat_just, eat_run, lane_in, is_last_try, eat_tries, eat_loop, count_if, eat_takes, eat_held, eat_locked, eat_match, eat_glance, eat_one_step, eat_turns, eat_parts, eat_by, eat_path, eat_paths}
use Rattle.seat_views.specs.PathLaws.{Stretches, PathStretches, PathsStretch, PathEnds, NoCallsNoSteps, OnePathIsPaths, PathsJoin, PathsWithOneMore}

abbrev Rest : Type 0
Rest = Option (List Item)

guarded : (b : Bool) (x y : Rest) (R U : List Item) → (x ≡ Some R → y ≡ Some (R ++ U)) → (if b then x else None) ≡ Some R → (if b then y else None) ≡ Some (R ++ U)
guarded true x y R U f e = f e
guarded false x y R U f e = absurd cc

chosen : (b : Bool) (x y x' y' : Rest) (R U : List Item) → (x ≡ Some R → x' ≡ Some (R ++ U)) → (y ≡ Some R → y' ≡ Some (R ++ U)) → (if b then x else y) ≡ Some R → (if b then x' else y') ≡ Some (R ++ U)
chosen true x y x' y' R U f g e = f e
chosen false x y x' y' R U f g e = g e

some_longer : (T R U : List Item) → Some T ≡ Some R → Some (T ++ U) ≡ Some (R ++ U)
some_longer T R U e = let same : T ≡ R = cc in ap (λ (l : List Item). Some (l ++ U)) same

-- ---- each piece

pub one_stretches : (k : StepKind) (w : ℕ) → Stretches (eat_one k w)
one_stretches k w [] R U e = absurd cc
one_stretches k w (i ∷ T) R U e = guarded (is_item k w i) (Some T) (Some (T ++ U)) R U (some_longer T R U) e

pub just_stretches : (k : StepKind) (w n : ℕ) → Stretches (eat_just k w n)
just_stretches k w n [] R U e = absurd cc
just_stretches k w n (i ∷ T) R U e = guarded (is_just k w n i) (Some T) (Some (T ++ U)) R U (some_longer T R U) e

pub run_stretches : (k : StepKind) (w c : ℕ) → Stretches (eat_run k w c)
run_stretches k w zero T R U e = some_longer T R U e
run_stretches k w (suc c) [] R U e = absurd cc
run_stretches k w (suc c) (i ∷ T) R U e = guarded (is_numbered k w i) (eat_run k (suc w) c T) (eat_run k (suc w) c (T ++ U)) R U (run_stretches k (suc w) c T R U) e

pub tries_stretch : (lane : ℕ → ℕ) (w : ℕ) (call : Call) (n : ℕ) → Stretches (eat_tries lane w call n)
tries_stretch lane w call n [] R U e = absurd cc
tries_stretch lane w call n (i ∷ T) R U e =
    let m : ℕ = number_in i.number in let b : Bool = is_last_try lane call n m in
    guarded (is_numbered step.Try w i) (if b then Some T else eat_tries lane w call m T) (if b then Some (T ++ U) else eat_tries lane w call m (T ++ U)) R U
    (chosen b (Some T) (eat_tries lane w call m T) (Some (T ++ U)) (eat_tries lane w call m (T ++ U)) R U (some_longer T R U) (tries_stretch lane w call m T R U)) e

pub loop_stretches : (lane : ℕ → ℕ) (w : ℕ) (call : Call) → Stretches (eat_loop lane w call)
loop_stretches lane w call [] R U e = absurd cc
loop_stretches lane w call (i ∷ T) R U e =
    let m : ℕ = number_in i.number in let b : Bool = expects_another call (lane m) in
    guarded (is_numbered step.Look w i) (if b then Some T else eat_tries lane w call m T) (if b then Some (T ++ U) else eat_tries lane w call m (T ++ U)) R U
    (chosen b (Some T) (eat_tries lane w call m T) (Some (T ++ U)) (eat_tries lane w call m (T ++ U)) R U (some_longer T R U) (tries_stretch lane w call m T R U)) e

-- takes answer a number besides
taken_guard : (b : Bool) (x y : Option (ℕ × List Item)) (s : ℕ) (R U : List Item) → (x ≡ Some (s, R) → y ≡ Some (s, R ++ U)) → (if b then x else None) ≡ Some (s, R) → (if b then y else None) ≡ Some (s, R ++ U)
taken_guard true x y s R U f e = f e
taken_guard false x y s R U f e = absurd cc

abbrev pair_in : ℕ × List Item → Option (ℕ × List Item) → ℕ × List Item
pair_in d None = d
pair_in d (Some p) = p

taken_choice : (b : Bool) (x x' : Option (ℕ × List Item)) (n : ℕ) (T : List Item) (s : ℕ) (R U : List Item) → (x ≡ Some (s, R) → x' ≡ Some (s, R ++ U))
    → (if b then x else Some (n, T)) ≡ Some (s, R) → (if b then x' else Some (n, T ++ U)) ≡ Some (s, R ++ U)
taken_choice true x x' n T s R U f e = f e
taken_choice false x x' n T s R U f e = λ k. let p : ℕ × List Item = pair_in (n, T) (e k) in Some (p.0, p.1 ++ U)

pub takes_stretch : (lock : ℕ) (T : List Item) (s : ℕ) (R U : List Item) → eat_takes lock T ≡ Some (s, R) → eat_takes lock (T ++ U) ≡ Some (s, R ++ U)
takes_stretch lock [] s R U e = absurd cc
takes_stretch lock (i ∷ T) s R U e =
    let m : ℕ = number_in i.number in let b : Bool = m == 1 in
    taken_guard (is_numbered step.Take lock i) (if b then eat_takes lock T else Some (m, T)) (if b then eat_takes lock (T ++ U) else Some (m, T ++ U)) s R U
    (taken_choice b (eat_takes lock T) (eat_takes lock (T ++ U)) m T s R U (takes_stretch lock T s R U)) e

-- one piece after another
pub then_stretches : (f g : List Item → Rest) → Stretches f → Stretches g → Stretches (λ T. and_then (f T) g)
then_stretches f g p q T R U e = go (f T) refl
  where
    go : (o : Rest) → f T ≡ o → and_then (f (T ++ U)) g ≡ Some (R ++ U)
    go None is = let bad : None ≡ Some R = ap (λ (z : Rest). and_then z g) (sym is) ∙ e in absurd cc
    go (Some M) is = ap (λ (z : Rest). and_then z g) (p T M U is) ∙ q M R U (ap (λ (z : Rest). and_then z g) (sym is) ∙ e)

-- ---- under a lock

pub held_stretches : (lock first count : ℕ) (writes : Bool) (s : ℕ)
    → Stretches (λ T. and_then (and_then (eat_run step.Held first count T) (eat_run step.Put first (count_if writes count))) (eat_just step.Release lock (released writes s)))
held_stretches lock first count writes s =
    then_stretches (λ T. and_then (eat_run step.Held first count T) (eat_run step.Put first (count_if writes count))) (eat_just step.Release lock (released writes s))
    (then_stretches (eat_run step.Held first count) (eat_run step.Put first (count_if writes count)) (run_stretches step.Held first count) (run_stretches step.Put first (count_if writes count)))
    (just_stretches step.Release lock (released writes s))

pub locked_stretches : (lock first count : ℕ) (writes : Bool) → Stretches (eat_locked lock first count writes)
locked_stretches lock first count writes T R U e = go (eat_takes lock T) refl
  where
    go : (o : Option (ℕ × List Item)) → eat_takes lock T ≡ o → eat_held lock first count writes (eat_takes lock (T ++ U)) ≡ Some (R ++ U)
    go None is = let bad : None ≡ Some R = ap (eat_held lock first count writes) (sym is) ∙ e in absurd cc
    go (Some r) is = ap (eat_held lock first count writes) (takes_stretch lock T r.0 r.1 U is)
        ∙ held_stretches lock first count writes r.0 r.1 R U (ap (eat_held lock first count writes) (sym is) ∙ e)

-- ---- a glance

pub match_stretches : (lock s : ℕ) (missed : List Item → Rest) → Stretches missed → Stretches (eat_match lock s missed)
match_stretches lock s missed p [] R U e = absurd cc
match_stretches lock s missed p (i ∷ T) R U e =
    let b : Bool = number_in i.number == s in
    guarded (is_numbered step.Match lock i) (if b then Some T else missed T) (if b then Some (T ++ U) else missed (T ++ U)) R U
    (chosen b (Some T) (missed T) (Some (T ++ U)) (missed (T ++ U)) R U (some_longer T R U) (p T R U)) e

pub glance_stretches : (lock first count : ℕ) (missed : List Item → Rest) → Stretches missed → Stretches (eat_glance lock first count missed)
glance_stretches lock first count missed p [] R U e = absurd cc
glance_stretches lock first count missed p (i ∷ T) R U e =
    let m : ℕ = number_in i.number in let b : Bool = (m == 1) || (m == last_stamp) in
    let more : List Item → Rest = λ V. and_then (eat_run step.Part first count V) (eat_match lock m missed) in
    guarded (is_numbered step.Stamp lock i) (if b then missed T else more T) (if b then missed (T ++ U) else more (T ++ U)) R U
    (chosen b (missed T) (more T) (missed (T ++ U)) (more (T ++ U)) R U (p T R U)
    (then_stretches (eat_run step.Part first count) (eat_match lock m missed) (run_stretches step.Part first count) (match_stretches lock m missed p) T R U)) e

-- ---- calls

one_step_stretches : (p : Option Place) → Stretches (eat_one_step p)
one_step_stretches None T R U e = absurd cc
one_step_stretches (Some (Lane w s d)) T R U e = one_stretches step.Op (data_word w) T R U e
one_step_stretches (Some (Parts l f n b)) T R U e = absurd cc

turns_stretch : (p : Option Place) (call : Call) → Stretches (eat_turns p call)
turns_stretch None call T R U e = absurd cc
turns_stretch (Some (Lane w s d)) call T R U e = loop_stretches (lane_in s d) (data_word w) call T R U e
turns_stretch (Some (Parts l f n b)) call T R U e = absurd cc

parts_stretch : (S : Shape) (p : Option Place) (call : Call) (r : Reply) → Stretches (eat_parts S p call r)
parts_stretch S None call r T R U e = absurd cc
parts_stretch S (Some (Lane w s d)) call r T R U e = absurd cc
parts_stretch S (Some (Parts l f n b)) call r T R U e =
    let lock : ℕ = lock_word S l in let first : ℕ = data_word f in
    let locked : Bool → List Item → Rest = eat_locked lock first n in
    let glance : List Item → Rest = eat_glance lock first n (locked false) in
    let w : Bool = does_write call r in
    chosen (is_load call && not S.section) (glance T) (locked w T) (glance (T ++ U)) (locked w (T ++ U)) R U
    (glance_stretches lock first n (locked false) (locked_stretches lock first n false) T R U)
    (locked_stretches lock first n w T R U) e

by_stretches : (S : Shape) (plan : Path) (p : Option Place) (call : Call) (r : Reply) → Stretches (eat_by S plan p call r)
by_stretches S (One done) p call r = one_step_stretches p
by_stretches S Loop p call r = turns_stretch p call
by_stretches S Locked p call r = parts_stretch S p call r

pub path_stretches : PathStretches
path_stretches S o call r = by_stretches S (plan_of S o call) (place_of S o) call r

pub paths_stretch : PathsStretch
paths_stretch S [] [] T R U e = some_longer T R U e
paths_stretch S [] (r ∷ rs) T R U e = absurd cc
paths_stretch S (c ∷ cs) [] T R U e = absurd cc
paths_stretch S (c ∷ cs) (r ∷ rs) T R U e = then_stretches (eat_path S c.0 c.1 r) (eat_paths S cs rs) (path_stretches S c.0 c.1 r) (paths_stretch S cs rs) T R U e

pub path_ends : PathEnds
path_ends S o call r T U e f = let both : Some U ≡ Some [] = sym (path_stretches S o call r T [] U e) ∙ f in cc

-- ---- calls one after another

pub no_calls_no_steps : NoCallsNoSteps
no_calls_no_steps S T e = cc

pub one_path_is_paths : OnePathIsPaths
one_path_is_paths S o call r T e = ap (λ (z : Rest). and_then z (eat_paths S [] [])) e

-- what is left after the first calls is eaten by the others
pub paths_go_on : (S : Shape) (cs ds : List (ℕ × Call)) (rs qs : List Reply) (T R V : List Item) → eat_paths S cs rs T ≡ Some R → eat_paths S ds qs R ≡ Some V → eat_paths S (cs ++ ds) (rs ++ qs) T ≡ Some V
paths_go_on S [] ds [] qs T R V e f = let same : T ≡ R = cc in ap (eat_paths S ds qs) same ∙ f
paths_go_on S [] ds (r ∷ rs) qs T R V e f = absurd cc
paths_go_on S (c ∷ cs) ds [] qs T R V e f = absurd cc
paths_go_on S (c ∷ cs) ds (r ∷ rs) qs T R V e f = split (eat_path S c.0 c.1 r T) refl (λ M here. paths_go_on S cs ds rs qs M R V here f)
  where
    split : (z : Rest) → eat_path S c.0 c.1 r T ≡ z → ((M : List Item) → eat_paths S cs rs M ≡ Some R → eat_paths S (cs ++ ds) (rs ++ qs) M ≡ Some V)
        → and_then (eat_path S c.0 c.1 r T) (eat_paths S (cs ++ ds) (rs ++ qs)) ≡ Some V
    split None is rec = let bad : None ≡ Some R = ap (λ (z : Rest). and_then z (eat_paths S cs rs)) (sym is) ∙ e in absurd cc
    split (Some M) is rec = ap (λ (z : Rest). and_then z (eat_paths S (cs ++ ds) (rs ++ qs))) is ∙ rec M (ap (λ (z : Rest). and_then z (eat_paths S cs rs)) (sym is) ∙ e)

pub paths_join : PathsJoin
paths_join S cs ds rs qs T U e f = paths_go_on S cs ds rs qs (T ++ U) U [] (paths_stretch S cs rs T [] U e) f

pub paths_with_one_more : PathsWithOneMore
paths_with_one_more S cs rs o call r T U e f = paths_join S cs ((o, call) ∷ []) rs (r ∷ []) T U e (one_path_is_paths S o call r U f)

-- ---- pieces put together, for calls that make them

-- one word more
run_step : (b : Bool) (x y : Rest) (more : List Item → Rest) → x ≡ and_then y more → (if b then x else None) ≡ and_then (if b then y else None) more
run_step true x y more e = e
run_step false x y more e = refl

pub run_more : (k : StepKind) (w c : ℕ) (T : List Item) → eat_run k w (suc c) T ≡ and_then (eat_run k w c T) (eat_run k (w + c) 1)
run_more k w zero T = ap (λ (z : ℕ). eat_run k z 1 T) (let e : w ≡ w + 0 = omega arith in e)
run_more k w (suc c) [] = refl
run_more k w (suc c) (i ∷ T) = run_step (is_numbered k w i) (eat_run k (suc w) (suc c) T) (eat_run k (suc w) c T) (eat_run k (w + suc c) 1)
    (run_more k (suc w) c T ∙ ap (λ (z : ℕ). and_then (eat_run k (suc w) c T) (eat_run k z 1)) (let e : suc w + c ≡ w + suc c = omega arith in e))

-- one step more on the next word
pub run_snoc : (k : StepKind) (w c : ℕ) (T : List Item) (i : Item) → eat_run k w c T ≡ Some [] → is_numbered k (w + c) i ≡ true → eat_run k w (suc c) (T ++ i ∷ []) ≡ Some []
run_snoc k w c T i e here = run_more k w c (T ++ i ∷ []) ∙ (ap (λ (z : Rest). and_then z (eat_run k (w + c) 1)) (run_stretches k w c T [] (i ∷ []) e) ∙ ap (λ (b : Bool). if b then Some [] else None) here)
