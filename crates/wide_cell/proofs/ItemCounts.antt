-- How many items calls on two parts add, for the tests.
use Rattle.std.proofs.Common.{◌≡◌, inr, ℕ, ◌+◌, ◌*◌, List, [], ◌∷◌, ◌++◌, length, refl, ap, sym, ◌∙◌, subst, arith, length-append}
use Rattle.std.specs.Prelude.{Option, Some, None, IfSome, IfNone}
use Rattle.op_table.specs.declared.call.Call.TheVariants.{Load, Store}
use Rattle.op_table.specs.declared.call.Reply.{Reply}
use Rattle.op_table.specs.declared.call.Reply.TheVariants.{Unit}
use Rattle.place_core.specs.declared.shape.Shape.{Shape}
use Rattle.seat_views.specs.declared.view.Item.{Item}
use Rattle.seat_views.specs.declared.view.StepKind.TheVariants as step
use Rattle.seat_views.specs.Limits.{last_stamp}
use Rattle.seat_views.specs.Places.{word_of_lock}
use Rattle.seat_views.specs.Items.{number_at}
use Rattle.seat_views.specs.Steps.{item}
use Rattle.seat_views.specs.StepCounts.{TakesAnd}
use Rattle.seat_views.specs.States.{PassState}
use Rattle.seat_views.specs.Makes.{MakesCall}
use Rattle.seat_views.proofs.PathCounts.{held_glance_takes, wide_write_stores_all}
use Rattle.seq_lock.specs.declared.glances.Missed.{Missed}
use Rattle.seq_lock.specs.declared.glances.Missed.TheVariants.{Held, Moved, Last}
use Rattle.seq_lock.proofs.LockedPaths.{count_at}
use Rattle.wide_cell.specs.Looks.{MissedBy}
use Rattle.wide_cell.specs.Once.{MakesOnce, GivesUp}
use Rattle.wide_cell.specs.Trials.{IsWideOfTwo, BeginsWith, Adds, AddsTakesAnd}

-- what holds of each answer
pub if_some : (P Q : Reply → Type 0) (x : Option Reply) → ((r : Reply) → P r → Q r) → IfSome x P → IfSome x Q
if_some P Q None f h = tt
if_some P Q (Some r) f h = f r h

pub if_none : (P Q : Type 0) (x : Option Reply) → (P → Q) → IfNone x P → IfNone x Q
if_none P Q None f h = f h
if_none P Q (Some r) f h = tt

-- the first number behind a front
number_from : (F T : List Item) → number_at (length F) (F ++ T) ≡ number_at 0 T
number_from [] T = refl
number_from (i ∷ F) T = number_from F T

module _ (p q : PassState) (T : List Item) (trail : q.trail ≡ p.trail ++ T) where
  first_is : (n : ℕ) → BeginsWith n p q → number_at 0 T ≡ n
  first_is n e = sym (number_from p.trail T) ∙ (ap (number_at (length p.trail)) (sym trail) ∙ e)

  adds : (n : ℕ) → length T ≡ n → Adds n p q
  adds n e = ap (λ (l : List Item). length l) trail ∙ (length-append p.trail T ∙ ap (λ (z : ℕ). length p.trail + z) e)

module _ (S : Shape) (o : ℕ) (two : IsWideOfTwo S o) where
  module _ (p q : PassState) (r : Reply) where
    load_takes : (m : MakesCall S o Load p r q) → BeginsWith last_stamp p q → TakesAnd 4 m.steps
    load_takes m begins = let w = two.wide in let has = w.parts in let e = m.made in
        let count : has.count ≡ 2 = sym (count_at S o has) ∙ two.two in
        let trail : q.trail ≡ p.trail ++ m.steps = ap (λ (x : PassState). x.trail) e.rest in
        subst (λ (z : ℕ). TakesAnd (1 + z + 1) m.steps) count
        (held_glance_takes S o r m.steps has.lock has.first has.count has.bits has.place w.apart m.path (inr (first_is p q m.steps trail last_stamp begins)))

    pub load_items : MakesCall S o Load p r q → BeginsWith last_stamp p q → AddsTakesAnd 4 p q
    load_items m begins = let e = m.made in record { steps = m.steps; trail = ap (λ (x : PassState). x.trail) e.rest; count = load_takes m begins }

    pub load_once_items : MakesOnce S o Load p r q → BeginsWith last_stamp p q → Adds 5 p q
    load_once_items k begins = let m = k.made in let e = m.made in let t = load_takes m begins in
        let some = t.taken in let count = t.count in let once = k.once in
        adds p q m.steps (ap (λ (x : PassState). x.trail) e.rest) 5 (omega arith)

  module _ (v : ℕ) (p q : PassState) where
    store_takes : (m : MakesCall S o (Store v) p Unit q) → TakesAnd 5 m.steps
    store_takes m = let w = two.wide in let has = w.parts in
        let count : has.count ≡ 2 = sym (count_at S o has) ∙ two.two in
        subst (λ (z : ℕ). TakesAnd (2 * z + 1) m.steps) count
        (wide_write_stores_all S o (Store v) Unit m.steps has.lock has.first has.count has.bits has.place refl refl m.path).0

    pub store_items : (r : Reply) → MakesCall S o (Store v) p r q → r ≡ Unit → AddsTakesAnd 5 p q
    store_items r m is = go (subst (λ (x : Reply). MakesCall S o (Store v) p x q) is m)
      where
        go : MakesCall S o (Store v) p Unit q → AddsTakesAnd 5 p q
        go m = let e = m.made in record { steps = m.steps; trail = ap (λ (x : PassState). x.trail) e.rest; count = store_takes m }

    pub store_once_items : (r : Reply) → MakesOnce S o (Store v) p r q → r ≡ Unit → Adds 6 p q
    store_once_items r k is = go (subst (λ (x : Reply). MakesOnce S o (Store v) p x q) is k)
      where
        go : MakesOnce S o (Store v) p Unit q → Adds 6 p q
        go k = let m = k.made in let e = m.made in let t = store_takes m in
            let some = t.taken in let count = t.count in let once = k.once in
            adds p q m.steps (ap (λ (x : PassState). x.trail) e.rest) 6 (omega arith)

    pub store_none_items : GivesUp S o (Store v) p q → Adds 1 p q
    store_none_items g = adds p q (g.before ++ item (word_of_lock S o) step.Take 1 ∷ []) (ap (λ (x : PassState). x.trail) g.state) 1
        (ap (λ (l : List Item). length (l ++ item (word_of_lock S o) step.Take 1 ∷ [])) g.looked)

  -- a glance that missed at a lock with the number 1 is one item
  held_alone : (m : Missed) (T U : List Item) → MissedBy S o m T → number_at 0 (T ++ U) ≡ 1 → length T ≡ 1
  held_alone Held T U h e = ap (λ (l : List Item). length l) h
  held_alone Last T U h e = ap (λ (l : List Item). length l) h
  held_alone (Moved x y) T U h e = let w = h.0 in absurd (w.free (ap (λ (l : List Item). number_at 0 (l ++ U)) (sym w.split) ∙ e))

  pub load_none_items : (p q : PassState) → GivesUp S o Load p q → BeginsWith 1 p q → Adds 2 p q
  load_none_items p q g begins = let k = g.looked in
      let last : List Item = item (word_of_lock S o) step.Take 1 ∷ [] in
      let trail : q.trail ≡ p.trail ++ (g.before ++ last) = ap (λ (x : PassState). x.trail) g.state in
      let one : length g.before ≡ 1 = held_alone k.why g.before last k.missed (first_is p q (g.before ++ last) trail 1 begins) in
      adds p q (g.before ++ last) trail 2 (length-append g.before last ∙ ap (λ (z : ℕ). z + 1) one)
