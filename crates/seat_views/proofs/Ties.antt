-- The steps, as the code asks for them: over the arena's fields, its state and a seat of it.
use Rattle.std.proofs.Common.{◌==◌, ◌≡◌, ℕ, ◌<◌, ◌+◌, ◌/◌, ◌%◌, ◌^◌, refl, ap, sym, ◌∙◌, subst, arith, Some}
use prog.Atomic.{either}
use Rattle.atomic_table.specs.Seated.{TableId}
use Rattle.atomic_table.specs.Table.{Me, Allows}
use Rattle.op_table.specs.declared.kind.Kind.{Kind}
use Rattle.op_table.specs.declared.call.Call.{Call}
use Rattle.op_table.specs.Call.{after_of, CallFits}
use Rattle.place_core.specs.declared.places.WordOp.{WordOp}
use Rattle.place_core.specs.declared.places.WordOp.TheVariants as op
use Rattle.place_core.specs.declared.places.Place.TheVariants.{Lane}
use Rattle.place_core.specs.declared.shape.Shape.{Shape}
use Rattle.place_core.specs.Shapes.{place_of, kind_of, is_sole, data_word, IsShape}
use Rattle.place_core.specs.Operations.{op_for, word_after, Replaces}
use Rattle.seat_views.specs.declared.view.Opening.{Opening}
use Rattle.seat_views.specs.declared.view.Role.TheVariants as role
use Rattle.seat_views.specs.declared.view.Flight.TheVariants.{Idle}
use Rattle.seat_views.specs.declared.view.View.{View}
use Rattle.seat_views.specs.Rule.{ArenaHolds}
use Rattle.seat_views.specs.States.{ArenaState}
use Rattle.seat_views.specs.Steps.{Asked, asked, op_tells, look_tells, try_tells}
use Rattle.seat_views.proofs.ShapePlaces.{lane_within}
use Rattle.seat_views.proofs.LaneSteps.{OnLane, TellsReply, stored, op_keeps, look_keeps, try_keeps}

-- the arena's key is what it was opened with, and the seat is one of its table
pub record Tied (id : TableId) (key k : Opening) (now : ArenaState) (z : TableId) : Type 0 where
  pub key_is : key ≡ k
  pub now_is : now.shape ≡ k.shape
  pub first_is : now.first_stamp ≡ k.first_stamp
  pub words : id.words ≡ 1 + k.shape.words + k.shape.locks
  pub ok : IsShape k.shape
  pub mine : z ≡ id

pub tie : (id : TableId) (key k : Opening) (now : ArenaState) (z : TableId) → record { id = id; shape = k.shape; first_stamp = k.first_stamp } ≡ now → key ≡ k → id.words ≡ 1 + k.shape.words + k.shape.locks → IsShape k.shape
    → z ≡ now.id → Tied id key k now z
tie id key k now z view key_is words ok mine = record {
  key_is = key_is;
  now_is = sym (ap (λ (r : ArenaState). r.shape) view);
  first_is = sym (ap (λ (r : ArenaState). r.first_stamp) view);
  words = words;
  ok = ok;
  mine = mine ∙ sym (ap (λ (r : ArenaState). r.id) view);
}

-- what a step of the seat asks: its table, a word in range, and the rule
abbrev pub Asks : TableId → Opening → TableId → ℕ → ℕ → Me (Unit {0}) View → ℕ → (ℕ → ℕ) → (ℕ → Me (Unit {0}) View → Type 0) → Type 0
Asks id key z slots seat m word f told = (z ≡ id) × (word < id.words) × Allows (ArenaHolds key) slots seat m word f told

module _ (id : TableId) (key k : Opening) (now : ArenaState) (z : TableId) (t : Tied id key k now z) (slots seat : ℕ) (m : Me (Unit {0}) View) where
  -- a step on a word in range
  pub asks : (word : ℕ) (f : ℕ → ℕ) (told : ℕ → Me (Unit {0}) View → Type 0) → word < 1 + k.shape.words + k.shape.locks → Allows (ArenaHolds k) slots seat m word f told → Asks id key z slots seat m word f told
  asks word f told lt allows = (t.mine, subst (λ (n : ℕ). word < n) (sym t.words) lt, subst (λ (K : Opening). Allows (ArenaHolds K) slots seat m word f told) (sym t.key_is) allows)

  on_lane : (a : Asked) (o spot : ℕ) → a.object ≡ o → place_of now.shape o ≡ Some (Lane spot a.shift a.width) → kind_of now.shape o ≡ a.kind → CallFits a.kind a.call → OnLane k.shape a spot
  on_lane a o spot ask place kind_is fits = record {
    place = subst (λ (x : Shape × ℕ). place_of x.0 x.1 ≡ Some (Lane spot a.shift a.width)) (λ i. (t.now_is i, sym ask i)) place;
    kind = subst (λ (x : Shape × ℕ). kind_of x.0 x.1 ≡ a.kind) (λ i. (t.now_is i, sym ask i)) kind_is;
    fits = fits;
  }

  within : (a : Asked) (spot : ℕ) → OnLane k.shape a spot → data_word spot < 1 + k.shape.words + k.shape.locks
  within a spot on = let w : spot < k.shape.words = lane_within k.shape t.ok a.object spot a.shift a.width on.place in omega arith

  op_asks : (a : Asked) (o spot : ℕ) → a.object ≡ o → place_of now.shape o ≡ Some (Lane spot a.shift a.width) → kind_of now.shape o ≡ a.kind → CallFits a.kind a.call → (m.0.role ≡ role.Pass) × (m.0.flight ≡ Idle)
      → op_for a.kind a.shift a.width (is_sole now.shape spot) a.call ≡ Some a.done → (f g : ℕ → ℕ) → ((n : ℕ) → word_after a.done n ≡ f n) → TellsReply a g
      → Asks id key z slots seat m (data_word spot) f (λ n. op_tells a (data_word spot) m (g n))
  op_asks a o spot ask place kind_is fits is serves f g made told = let on = on_lane a o spot ask place kind_is fits in
      asks (data_word spot) f (λ n. op_tells a (data_word spot) m (g n)) (within a spot on)
      (subst (λ (h : ℕ → ℕ). Allows (ArenaHolds k) slots seat m (data_word spot) h (λ n. op_tells a (data_word spot) m (g n))) (λ i n. made n i)
      (op_keeps k t.ok a spot on (subst (λ (S : Shape). op_for a.kind a.shift a.width (is_sole S spot) a.call ≡ Some a.done) t.now_is serves) slots seat m g is.0 is.1 told))

  -- a call by an operation that tells what it found, and by a store
  pub op_given : (a : Asked) (kd : Kind) (s d o : ℕ) (call : Call) (done made : WordOp) → a ≡ asked kd s d o call done → done ≡ made → (spot : ℕ) → place_of now.shape o ≡ Some (Lane spot s d) → (kind_of now.shape o ≡ kd) × CallFits kd call
      → op_for kd s d (is_sole now.shape spot) call ≡ Some done → (m.0.role ≡ role.Pass) × (m.0.flight ≡ Idle) → Asks id key z slots seat m (data_word spot) (word_after made) (op_tells a (data_word spot) m)
  op_given a kd s d o call done made ask same spot place fits serves is = subst (λ (x : Asked). Asks id key z slots seat m (data_word spot) (word_after made) (op_tells x (data_word spot) m)) (sym ask)
      (op_asks (asked kd s d o call done) o spot refl place fits.0 fits.1 is serves (word_after made) (λ n. n) (λ n. ap (λ (x : WordOp). word_after x n) same) (λ n. refl))

  pub store_given : (a : Asked) (kd : Kind) (s d o : ℕ) (call : Call) (done : WordOp) (x : ℕ) → a ≡ asked kd s d o call done → done ≡ op.Store x → (spot : ℕ) → place_of now.shape o ≡ Some (Lane spot s d) → (kind_of now.shape o ≡ kd) × CallFits kd call
      → op_for kd s d (is_sole now.shape spot) call ≡ Some done → (m.0.role ≡ role.Pass) × (m.0.flight ≡ Idle) → Asks id key z slots seat m (data_word spot) (λ _. x) (λ _. op_tells a (data_word spot) m x)
  store_given a kd s d o call done x ask same spot place fits serves is = subst (λ (y : Asked). Asks id key z slots seat m (data_word spot) (λ _. x) (λ _. op_tells y (data_word spot) m x)) (sym ask)
      (op_asks (asked kd s d o call done) o spot refl place fits.0 fits.1 is serves (λ _. x) (λ _. x) (λ n. ap (λ (y : WordOp). word_after y n) same)
      (λ n. stored kd s d (is_sole now.shape spot) call x (serves ∙ ap (λ (y : WordOp). Some y) same) (x / 2 ^ s % 2 ^ d) (n / 2 ^ s % 2 ^ d)))

  pub look_given : (a : Asked) (kd : Kind) (s d o : ℕ) (call : Call) → a ≡ asked kd s d o call op.Load → (spot : ℕ) → place_of now.shape o ≡ Some (Lane spot s d) → (kind_of now.shape o ≡ kd) × CallFits kd call → (m.0.role ≡ role.Pass) × (m.0.flight ≡ Idle)
      → Asks id key z slots seat m (data_word spot) (λ n. n) (look_tells a (data_word spot) m)
  look_given a kd s d o call ask spot place fits is = subst (λ (x : Asked). Asks id key z slots seat m (data_word spot) (λ n. n) (look_tells x (data_word spot) m)) (sym ask)
      (let y : Asked = asked kd s d o call op.Load in let on = on_lane y o spot refl place fits.0 fits.1 in asks (data_word spot) (λ n. n) (look_tells y (data_word spot) m) (within y spot on) (look_keeps k t.ok y spot on slots seat m is.0 is.1))

  pub try_given : (a : Asked) (kd : Kind) (s d o : ℕ) (call : Call) (found next : ℕ) → a ≡ asked kd s d o call op.Load → (spot : ℕ) → place_of now.shape o ≡ Some (Lane spot s d) → (kind_of now.shape o ≡ kd) × CallFits kd call
      → (m.0.role ≡ role.Pass) × (m.0.flight ≡ Idle) → Replaces s (found / 2 ^ s % 2 ^ d) (after_of kd call (found / 2 ^ s % 2 ^ d)) found next → Asks id key z slots seat m (data_word spot) (λ n. either (n == found) next n) (try_tells a (data_word spot) found m)
  try_given a kd s d o call found next ask spot place fits is made = subst (λ (x : Asked). Asks id key z slots seat m (data_word spot) (λ n. either (n == found) next n) (try_tells x (data_word spot) found m)) (sym ask)
      (let y : Asked = asked kd s d o call op.Load in let on = on_lane y o spot refl place fits.0 fits.1 in
      asks (data_word spot) (λ n. either (n == found) next n) (try_tells y (data_word spot) found m) (within y spot on) (try_keeps k t.ok y spot on slots seat m found next is.0 is.1 made))
