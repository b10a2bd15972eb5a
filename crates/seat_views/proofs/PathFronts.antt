-- What is eaten of a trail is its front: of which kind of steps, on which words, and how many.
use Rattle.std.proofs.Common.{◌≡◌, ◌≢◌, ◌⊎◌, inl, inr, ℕ, zero, suc, ◌+◌, ◌<◌, ◌≤◌, ◌==◌, Bool, true, false, if◌then◌else◌, List, [], ◌∷◌, ◌++◌, length, Option, Some, None, refl, ap, sym, ◌∙◌, arith, length-append, eq-eqb}
use Rattle.std.specs.Prelude.{◌&&◌, ◌||◌}
use Rattle.std.specs.List.{AllByRecursion}
use Rattle.std.proofs.lemmas.Bool.{eqb-true}
use Rattle.place_core.specs.WordSums.{one_if}
use Rattle.place_core.proofs.EntryLists.{all_map}
use Rattle.seat_views.specs.declared.view.StepKind.{StepKind}
use Rattle.seat_views.specs.declared.view.StepKind.TheVariants as step
use Rattle.seat_views.specs.declared.view.Item.{Item}
use Rattle.seat_views.specs.Limits.{last_stamp}
use Rattle.seat_views.specs.LockSteps.{released}
use Rattle.seat_views.specs.Items.{kind_code, has_number, number_in, is_step, is_item, is_numbered, is_just, number_at, count_of}
use Rattle.seat_views.specs.Paths.{and_then, eat_one, eat_just, eat_run, count_if, eat_takes, eat_held, eat_locked, eat_match, eat_glance}

abbrev pub Rest : Type 0
Rest = Option (List Item)

-- ---- tests taken apart

pub both : (a b : Bool) → (a && b) ≡ true → (a ≡ true) × (b ≡ true)
both true true e = (refl, refl)
both true false e = absurd cc
both false b e = absurd cc

pub only : (b : Bool) (x : Rest) (R : List Item) → (if b then x else None) ≡ Some R → (b ≡ true) × (x ≡ Some R)
only true x R e = (refl, e)
only false x R e = absurd cc

-- the kind and the word of an item that is one
abbrev pub At : StepKind → ℕ → Item → Type 0
At k w i = (kind_code i.kind ≡ kind_code k) × (i.word ≡ w)

pub item_at : (k : StepKind) (w : ℕ) (i : Item) → is_item k w i ≡ true → At k w i
item_at k w i e = let t = both (is_step k i) (i.word == w) e in (eqb-true (kind_code i.kind) (kind_code k) t.0, eqb-true i.word w t.1)

pub numbered_at : (k : StepKind) (w : ℕ) (i : Item) → is_numbered k w i ≡ true → At k w i
numbered_at k w i e = item_at k w i (both (is_item k w i) (has_number i.number) e).0

pub just_at : (k : StepKind) (w n : ℕ) (i : Item) → is_just k w n i ≡ true → At k w i
just_at k w n i e = numbered_at k w i (both (is_numbered k w i) (number_in i.number == n) e).0

-- ---- fronts

-- steps of one kind on c words from w up
abbrev pub Are : StepKind → ℕ → ℕ → List Item → Type 0
Are k w c F = AllByRecursion (λ (i : Item). (kind_code i.kind ≡ kind_code k) × (w ≤ i.word) × (i.word < w + c)) F

-- T begins with steps of one kind on c words from w up, and then comes R
pub record Front (k : StepKind) (w c : ℕ) (T R : List Item) : Type 0 where
  pub front : List Item
  pub split : T ≡ front ++ R
  pub are : Are k w c front

single : (k : StepKind) (w : ℕ) (i : Item) (T R : List Item) → At k w i → Some T ≡ Some R → (F : Front k w 1 (i ∷ T) R) × (length F.front ≡ 1)
single k w i T R here e =
    let kind = here.0 in let word = here.1 in
    (record { front = i ∷ []; split = (let same : T ≡ R = cc in ap (λ (l : List Item). i ∷ l) same); are = ((kind, omega arith, omega arith), tt) }, refl)

pub one_front : (k : StepKind) (w : ℕ) (T R : List Item) → eat_one k w T ≡ Some R → (F : Front k w 1 T R) × (length F.front ≡ 1)
one_front k w [] R e = absurd cc
one_front k w (i ∷ T) R e = let t = only (is_item k w i) (Some T) R e in single k w i T R (item_at k w i t.0) t.1

pub just_front : (k : StepKind) (w n : ℕ) (T R : List Item) → eat_just k w n T ≡ Some R → (F : Front k w 1 T R) × (length F.front ≡ 1)
just_front k w n [] R e = absurd cc
just_front k w n (i ∷ T) R e = let t = only (is_just k w n i) (Some T) R e in single k w i T R (just_at k w n i t.0) t.1

pub run_front : (k : StepKind) (w c : ℕ) (T R : List Item) → eat_run k w c T ≡ Some R → (F : Front k w c T R) × (length F.front ≡ c)
run_front k w zero T R e = (record { front = []; split = cc; are = tt }, refl)
run_front k w (suc c) [] R e = absurd cc
run_front k w (suc c) (i ∷ T) R e =
    let t = only (is_numbered k w i) (eat_run k (suc w) c T) R e in
    let here = numbered_at k w i t.0 in let kind = here.0 in let word = here.1 in
    let more = run_front k (suc w) c T R t.1 in (
      record {
        front = i ∷ more.0.front;
        split = ap (λ (l : List Item). i ∷ l) more.0.split;
        are = (
          (kind, omega arith, omega arith),
          all_map (λ (j : Item). (kind_code j.kind ≡ kind_code k) × (suc w ≤ j.word) × (j.word < suc w + c)) (λ (j : Item). (kind_code j.kind ≡ kind_code k) × (w ≤ j.word) × (j.word < w + suc c)) more.0.front
              (λ j is. let low = is.1 in let high = is.2 in (is.0, omega arith, omega arith)) more.0.are,
        );
      },
      ap suc more.1,
    )

-- takes: one at least
take_more : (b : Bool) (x : Option (ℕ × List Item)) (n : ℕ) (T : List Item) (s : ℕ) (R : List Item) → (if b then x else Some (n, T)) ≡ Some (s, R) → (x ≡ Some (s, R)) ⊎ (T ≡ R)
take_more true x n T s R e = inl e
take_more false x n T s R e = inr (λ k. pair_in (n, T) (e k))
  where
    pair_in : ℕ × List Item → Option (ℕ × List Item) → List Item
    pair_in d None = d.1
    pair_in d (Some p) = p.1

pub take_only : (b : Bool) (x : Option (ℕ × List Item)) (p : ℕ × List Item) → (if b then x else None) ≡ Some p → (b ≡ true) × (x ≡ Some p)
take_only true x p e = (refl, e)
take_only false x p e = absurd cc

pub takes_front : (lock : ℕ) (T : List Item) (s : ℕ) (R : List Item) → eat_takes lock T ≡ Some (s, R) → (F : Front step.Take lock 1 T R) × (1 ≤ length F.front)
takes_front lock [] s R e = absurd cc
takes_front lock (i ∷ T) s R e =
    let m : ℕ = number_in i.number in
    let t = take_only (is_numbered step.Take lock i) (if m == 1 then eat_takes lock T else Some (m, T)) (s, R) e in
    let here = numbered_at step.Take lock i t.0 in let kind = here.0 in let word = here.1 in
    elim (take_more (m == 1) (eat_takes lock T) m T s R t.1) [
      | inl again ↦ (let more = takes_front lock T s R again in
          (record { front = i ∷ more.0.front; split = ap (λ (l : List Item). i ∷ l) more.0.split; are = ((kind, omega arith, omega arith), more.0.are) }, omega arith))
      | inr same ↦ (record { front = i ∷ []; split = ap (λ (l : List Item). i ∷ l) same; are = ((kind, omega arith, omega arith), tt) }, omega arith)
    ]

-- ---- the piece under a lock

pub record LockedFront (lock first n : ℕ) (writes : Bool) (T R : List Item) : Type 0 where
  pub stores : List Item
  pub reads : List Item
  pub after_takes : List Item
  pub takes : Front step.Take lock 1 T after_takes
  pub some : 1 ≤ length takes.front
  pub helds : Front step.Held first n after_takes reads
  pub held_count : length helds.front ≡ n
  pub puts : Front step.Put first (count_if writes n) reads stores
  pub put_count : length puts.front ≡ count_if writes n
  pub release : Front step.Release lock 1 stores R
  pub one : length release.front ≡ 1

pub then_parts : (x : Rest) (more : List Item → Rest) (R : List Item) → and_then x more ≡ Some R → (M : List Item) × (x ≡ Some M) × (more M ≡ Some R)
then_parts None more R e = absurd cc
then_parts (Some M) more R e = (M, refl, e)

pub locked_front : (lock first n : ℕ) (writes : Bool) (T R : List Item) → eat_locked lock first n writes T ≡ Some R → LockedFront lock first n writes T R
locked_front lock first n writes T R e = go (eat_takes lock T) refl e
  where
    go : (z : Option (ℕ × List Item)) → eat_takes lock T ≡ z → eat_held lock first n writes z ≡ Some R → LockedFront lock first n writes T R
    go None is h = absurd cc
    go (Some p) is h =
        let taken = takes_front lock T p.0 p.1 is in
        let outer = then_parts (and_then (eat_run step.Held first n p.1) (eat_run step.Put first (count_if writes n))) (eat_just step.Release lock (released writes p.0)) R h in
        let inner = then_parts (eat_run step.Held first n p.1) (eat_run step.Put first (count_if writes n)) outer.0 outer.1 in
        let held = run_front step.Held first n p.1 inner.0 inner.1 in
        let put = run_front step.Put first (count_if writes n) inner.0 outer.0 inner.2 in
        let released = just_front step.Release lock (released writes p.0) outer.0 R outer.2 in
        record {
          stores = outer.0;
          reads = inner.0;
          after_takes = p.1;
          takes = taken.0;
          some = taken.1;
          helds = held.0;
          held_count = held.1;
          puts = put.0;
          put_count = put.1;
          release = released.0;
          one = released.1;
        }

-- ---- counts

pub count_append : (k : StepKind) (F G : List Item) → count_of k (F ++ G) ≡ count_of k F + count_of k G
count_append k [] G = omega arith
count_append k (i ∷ F) G = let rest = count_append k F G in omega arith

pub count_all : (k : StepKind) (w c : ℕ) (F : List Item) → Are k w c F → count_of k F ≡ length F
count_all k w c [] are = refl
count_all k w c (i ∷ F) are =
    let one : one_if (is_step k i) ≡ 1 = ap one_if (ap (λ (z : ℕ). z == kind_code k) are.0.0 ∙ eq-eqb (kind_code k) (kind_code k) refl) in
    let rest = count_all k w c F are.1 in omega arith

pub count_others : (k j : StepKind) (w c : ℕ) (F : List Item) → (kind_code j == kind_code k) ≡ false → Are j w c F → count_of k F ≡ 0
count_others k j w c [] other are = refl
count_others k j w c (i ∷ F) other are =
    let none : one_if (is_step k i) ≡ 0 = ap one_if (ap (λ (z : ℕ). z == kind_code k) are.0.0 ∙ other) in
    let rest = count_others k j w c F other are.1 in omega arith

pub count_same : (k : StepKind) (w c : ℕ) (T R : List Item) (F : Front k w c T R) → (count_of k T ≡ length F.front + count_of k R) × (length T ≡ length F.front + length R)
count_same k w c T R F =
    let all = count_all k w c F.front F.are in
    (ap (count_of k) F.split ∙ (count_append k F.front R ∙ ap (λ (z : ℕ). z + count_of k R) all), ap length F.split ∙ length-append F.front R)

pub count_else : (k j : StepKind) (w c : ℕ) (T R : List Item) (F : Front j w c T R) → (kind_code j == kind_code k) ≡ false → count_of k T ≡ count_of k R
count_else k j w c T R F other =
    ap (count_of k) F.split ∙ (count_append k F.front R ∙ (ap (λ (z : ℕ). z + count_of k R) (count_others k j w c F.front other F.are) ∙ omega arith))

-- one step of another kind in front
pub step_counts : (k j : StepKind) (w : ℕ) (i : Item) (T : List Item) → is_numbered j w i ≡ true → (kind_code j == kind_code k) ≡ false → count_of k (i ∷ T) ≡ count_of k T
step_counts k j w i T is other =
    let none : one_if (is_step k i) ≡ 0 = ap one_if (ap (λ (z : ℕ). z == kind_code k) (numbered_at j w i is).0 ∙ other) in omega arith

-- the counts of the piece under a lock
pub record LockedCounts (n : ℕ) (writes : Bool) (T R : List Item) : Type 0 where
  pub takes : ℕ
  pub some : 1 ≤ takes
  pub taken : count_of step.Take T ≡ takes + count_of step.Take R
  pub put : count_of step.Put T ≡ count_if writes n + count_of step.Put R
  pub count : length T ≡ takes + (n + count_if writes n + 1) + length R

pub locked_counts : (lock first n : ℕ) (writes : Bool) (T R : List Item) → LockedFront lock first n writes T R → LockedCounts n writes T R
locked_counts lock first n writes T R L =
    let p : ℕ = count_if writes n in
    let takes = count_same step.Take lock 1 T L.after_takes L.takes in
    let helds = count_same step.Held first n L.after_takes L.reads L.helds in
    let puts = count_same step.Put first p L.reads L.stores L.puts in
    let release = count_same step.Release lock 1 L.stores R L.release in
    let t1 = count_else step.Take step.Held first n L.after_takes L.reads L.helds refl in
    let t2 = count_else step.Take step.Put first p L.reads L.stores L.puts refl in
    let t3 = count_else step.Take step.Release lock 1 L.stores R L.release refl in
    let u1 = count_else step.Put step.Take lock 1 T L.after_takes L.takes refl in
    let u2 = count_else step.Put step.Held first n L.after_takes L.reads L.helds refl in
    let u3 = count_else step.Put step.Release lock 1 L.stores R L.release refl in
    let held_count = L.held_count in let put_count = L.put_count in let one = L.one in
    record {
      takes = length L.takes.front;
      some = L.some;
      taken = takes.0 ∙ ap (λ (z : ℕ). length L.takes.front + z) (t1 ∙ (t2 ∙ t3));
      put = u1 ∙ (u2 ∙ (puts.0 ∙ λ i. put_count i + u3 i));
      count = (let a = takes.1 in let b = helds.1 in let c = puts.1 in let d = release.1 in omega arith);
    }

-- ---- a glance

-- the item after a front has the number at the front's length
pub number_after : (F : List Item) (i : Item) (more : List Item) → number_at (length F) (F ++ i ∷ more) ≡ number_in i.number
number_after [] i more = refl
number_after (j ∷ F) i more = number_after F i more

-- the stamp told that no glance may be begun
pub record GlanceHeld (lock : ℕ) (missed : List Item → Rest) (T R : List Item) : Type 0 where
  pub stamp : Item
  pub others : List Item
  pub split : T ≡ stamp ∷ others
  pub stamps : is_numbered step.Stamp lock stamp ≡ true
  pub told : (number_in stamp.number ≡ 1) ⊎ (number_in stamp.number ≡ last_stamp)
  pub goes_on : missed others ≡ Some R

-- each part was read, and the stamp again
pub record GlanceRead (lock first n : ℕ) (missed : List Item → Rest) (T R : List Item) : Type 0 where
  pub stamp : Item
  pub others : List Item
  pub split : T ≡ stamp ∷ others
  pub stamps : is_numbered step.Stamp lock stamp ≡ true
  pub fresh : (number_in stamp.number ≡ 1) ⊎ (number_in stamp.number ≡ last_stamp) → ⊥
  pub after_parts : List Item
  pub parts : Front step.Part first n others after_parts
  pub part_count : length parts.front ≡ n
  pub again : Item
  pub rest : List Item
  pub match_split : after_parts ≡ again ∷ rest
  pub matches : is_numbered step.Match lock again ≡ true
  pub ends : ((number_in again.number ≡ number_in stamp.number) × (rest ≡ R)) ⊎ ((number_in again.number ≢ number_in stamp.number) × (missed rest ≡ Some R))

either_one : (a b : Bool) → (a || b) ≡ true → (a ≡ true) ⊎ (b ≡ true)
either_one true b e = inl refl
either_one false b e = inr e

neither_one : (a b : Bool) → (a || b) ≡ false → (a ≡ true) ⊎ (b ≡ true) → ⊥
neither_one false false e (inl f) = cc
neither_one false false e (inr f) = cc
neither_one true b e f = cc
neither_one false true e f = cc

pub choice : (b : Bool) (x y : Rest) (R : List Item) → (if b then x else y) ≡ Some R → ((b ≡ true) × (x ≡ Some R)) ⊎ ((b ≡ false) × (y ≡ Some R))
choice true x y R e = inl (refl, e)
choice false x y R e = inr (refl, e)

MatchEnd : (lock s : ℕ) (missed : List Item → Rest) (U R : List Item) → Type 0
MatchEnd lock s missed U R = (again : Item) × (rest : List Item) × (U ≡ again ∷ rest) × (is_numbered step.Match lock again ≡ true)
    × (((number_in again.number ≡ s) × (rest ≡ R)) ⊎ ((number_in again.number ≢ s) × (missed rest ≡ Some R)))

pub not_same : (m s : ℕ) → (m == s) ≡ false → m ≢ s
not_same m s e same = let bad : false ≡ true = sym e ∙ eq-eqb m s same in cc

match_end : (lock s : ℕ) (missed : List Item → Rest) (U R : List Item) → eat_match lock s missed U ≡ Some R → MatchEnd lock s missed U R
unfolding MatchEnd
match_end lock s missed [] R e = absurd cc
match_end lock s missed (i ∷ U) R e =
    let t = only (is_numbered step.Match lock i) (if number_in i.number == s then Some U else missed U) R e in
    (i, U, refl, t.0, elim (choice (number_in i.number == s) (Some U) (missed U) R t.1) [ inl same ↦ inl (eqb-true (number_in i.number) s same.0, cc (same.1)) | inr moved ↦ inr (not_same (number_in i.number) s moved.0, moved.1) ])

pub stamp_told : (m : ℕ) → ((m == 1) || (m == last_stamp)) ≡ true → (m ≡ 1) ⊎ (m ≡ last_stamp)
stamp_told m e = elim (either_one (m == 1) (m == last_stamp) e) [ inl a ↦ inl (eqb-true m 1 a) | inr b ↦ inr (eqb-true m last_stamp b) ]

pub stamp_fresh : (m : ℕ) → ((m == 1) || (m == last_stamp)) ≡ false → (m ≡ 1) ⊎ (m ≡ last_stamp) → ⊥
stamp_fresh m e (inl a) = neither_one (m == 1) (m == last_stamp) e (inl (eq-eqb m 1 a))
stamp_fresh m e (inr b) = neither_one (m == 1) (m == last_stamp) e (inr (eq-eqb m last_stamp b))

pub glance_front : (lock first n : ℕ) (missed : List Item → Rest) (T R : List Item) → eat_glance lock first n missed T ≡ Some R → GlanceHeld lock missed T R ⊎ GlanceRead lock first n missed T R
unfolding MatchEnd
glance_front lock first n missed [] R e = absurd cc
glance_front lock first n missed (i ∷ T) R e =
    let m : ℕ = number_in i.number in
    let more : Rest = and_then (eat_run step.Part first n T) (eat_match lock m missed) in
    let t = only (is_numbered step.Stamp lock i) (if (m == 1) || (m == last_stamp) then missed T else more) R e in
    elim (choice ((m == 1) || (m == last_stamp)) (missed T) more R t.1) [
      | inl held ↦ inl record { stamp = i; others = T; split = refl; stamps = t.0; told = stamp_told m held.0; goes_on = held.1 }
      | inr read ↦ (
          let parts = then_parts (eat_run step.Part first n T) (eat_match lock m missed) R read.1 in
          let front = run_front step.Part first n T parts.0 parts.1 in
          let end = match_end lock m missed parts.0 R parts.2 in
          inr record {
            stamp = i;
            others = T;
            split = refl;
            stamps = t.0;
            fresh = stamp_fresh m read.0;
            after_parts = parts.0;
            parts = front.0;
            part_count = front.1;
            again = end.0;
            rest = end.1;
            match_split = end.2;
            matches = end.3;
            ends = end.4;
          })
    ]
