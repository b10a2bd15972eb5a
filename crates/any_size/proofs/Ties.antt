-- The steps, as the code asks for them: over the fields of the blocks, their state and a seat of them.
use Rattle.std.proofs.Common.{◌≡◌, ℕ, ◌+◌, ◌≤◌, ◌<◌, List, [], ◌∷◌, length, refl, ap, sym, ◌∙◌, subst, arith}
use Rattle.atomic_table.specs.Seated.{TableId}
use Rattle.atomic_table.specs.Table.{Me, Allows}
use Rattle.any_size.specs.declared.call.BlockCall.{BlockCall}
use Rattle.any_size.specs.declared.spot.Spot.{Spot}
use Rattle.any_size.specs.declared.view.BlockOpening.{BlockOpening}
use Rattle.any_size.specs.declared.view.BlockRole.TheVariants as role
use Rattle.any_size.specs.declared.view.BlockStep.TheVariants as kind
use Rattle.any_size.specs.declared.view.Hold.{Hold}
use Rattle.any_size.specs.declared.view.Hold.TheVariants.{Idle, Held}
use Rattle.any_size.specs.declared.view.BlockView.{BlockView}
use Rattle.any_size.specs.Bytes.{Spells}
use Rattle.any_size.specs.Operations.{block_after, OperandsFit}
use Rattle.any_size.specs.Histories.{size_of}
use Rattle.any_size.specs.Layout.{count_of, lock_of, lock_word, first_word, table_size}
use Rattle.any_size.specs.Rule.{held_now, BlocksHold, rule_of}
use Rattle.any_size.specs.Steps.{Asked, asked_object, asked_value, item, moved, read_more, TellsValue, take_tells, held_tells, put_tells, release_tells, HoldsClean, HoldsRead, MayRelease}
use Rattle.any_size.specs.Keeping.{IsSpot}
use Rattle.any_size.specs.States.{BlocksState, blocks_of}
use Rattle.any_size.proofs.Layouts.{lies_within, lock_within}
use Rattle.any_size.proofs.HoldSteps.{take_keeps, held_keeps, put_keeps, release_keeps}

-- what a step of the seat asks: its table, a word in range, and the rule
abbrev pub Asks : TableId → BlockOpening → TableId → ℕ → ℕ → Me (Unit {0}) BlockView → ℕ → (ℕ → ℕ) → (ℕ → Me (Unit {0}) BlockView → Type 0) → Type 0
Asks id key z slots seat m word f told = (z ≡ id) × (word < id.words) × Allows (rule_of key) slots seat m word f told

-- the hold of an object, with its words
pub record Holding (o : ℕ) (f : Hold) : Type 0 where
  pub read : List ℕ
  pub put : List ℕ
  pub is : f ≡ Held o read put

pub held_clean : (o i : ℕ) (f : Hold) → HoldsClean o i f → (read : List ℕ) × (length read ≡ i) × (f ≡ Held o read [])
held_clean o i Idle h = absurd h
held_clean o i (Held p read put) h = (read, h.1, λ t. Held (h.0 t) read (h.2 t))

pub held_read : (o n i : ℕ) (f : Hold) → HoldsRead o n i f → (read : List ℕ) × (put : List ℕ) × (length read ≡ n) × (length put ≡ i) × (f ≡ Held o read put)
held_read o n i Idle h = absurd h
held_read o n i (Held p read put) h = (read, put, h.1, h.2, λ t. Held (h.0 t) read put)

pub held_whole : (o n size : ℕ) (call : BlockCall) (v : List ℕ) (f : Hold) → MayRelease o n size call v f
    → (read : List ℕ) × (put : List ℕ) × (length read ≡ n) × Spells size read v × Spells size (held_now read put) (block_after call v) × (f ≡ Held o read put)
held_whole o n size call v Idle h = absurd h
held_whole o n size call v (Held p read put) h = (read, put, h.1, h.2, h.3, λ t. Held (h.0 t) read put)

module _ (id : TableId) (key : BlockOpening) (sized : id.words ≡ table_size key.starts.items key.locks) (some_lock : 1 ≤ key.locks) (z : TableId) (slots seat : ℕ) (m : Me (Unit {0}) BlockView) where
  -- the steps on an object, where the blocks are as their fields say
  module _ (o : ℕ) (x : Spot) (mine : z ≡ id) (spot : IsSpot key.starts.items key.locks o x) where
    lock_in : x.lock < id.words
    lock_in = let l = lock_within key.starts.items key.locks o some_lock in let e = spot.lock in let w = sized in omega arith

    word_in : (i : ℕ) → i < count_of key.starts.items o → x.first + i < id.words
    word_in i lt = let t = lies_within key.starts.items key.locks o spot.inside in let e = spot.first in let w = sized in let top = t.1 in omega arith

    take_here : (a : Asked) → a.object ≡ o → m.0.hold ≡ Idle → Asks id key z slots seat m x.lock (λ _. 1) (take_tells a x.lock m)
    take_here a ask rest = (
      mine,
      lock_in,
      subst (λ (t : ℕ × ℕ). Allows (rule_of key) slots seat m t.0 (λ _. 1) (take_tells (record a { object = t.1 }) t.0 m)) (λ i. (sym spot.lock i, sym ask i))
          (take_keeps key.starts.items key.locks some_lock o spot.inside slots seat m rest),
    )

    held_here : (i : ℕ) → i < count_of key.starts.items o → HoldsClean o i m.0.hold → m.0.starts ≡ key.starts.items → Asks id key z slots seat m (x.first + i) (λ n. n) (held_tells (x.first + i) m)
    held_here i lt held carried = let h = held_clean o i m.0.hold held in (
      mine,
      word_in i lt,
      subst (λ (t : ℕ). Allows (rule_of key) slots seat m t (λ n. n) (held_tells t m)) (λ j. sym spot.first j + h.1 j)
          (subst (λ (S : List (List ℕ)). Allows (rule_of key) slots seat m (first_word key.starts.items key.locks o + length h.0) (λ n. n) (λ n w. (w.1 ≡ m.1) × (w.0 ≡ moved m.0 (item (first_word key.starts.items key.locks o + length h.0) kind.Held n) (read_more m.0.hold (n ∷ []))) × TellsValue S (read_more m.0.hold (n ∷ [])))) (sym carried)
          (held_keeps key.starts.items key.locks some_lock o spot.inside h.0 (subst (λ (k : ℕ). k < count_of key.starts.items o) (sym h.1) lt) slots seat m h.2)),
    )

    put_here : (i n : ℕ) → i < count_of key.starts.items o → HoldsRead o (count_of key.starts.items o) i m.0.hold → Asks id key z slots seat m (x.first + i) (λ _. n) (λ _. put_tells (x.first + i) m n)
    put_here i n lt held = let h = held_read o (count_of key.starts.items o) i m.0.hold held in (
      mine,
      word_in i lt,
      subst (λ (t : ℕ). Allows (rule_of key) slots seat m t (λ _. n) (λ _. put_tells t m n)) (λ j. sym spot.first j + h.3 j)
          (put_keeps key.starts.items key.locks some_lock o spot.inside h.0 h.1 h.2 (subst (λ (k : ℕ). k < count_of key.starts.items o) (sym h.3) lt) n slots seat m h.4),
    )

    release_here : (call : BlockCall) (v : List ℕ) (a : Asked) → a ≡ asked_value o call v → m.0.role ≡ role.Pass → OperandsFit (size_of key.starts.items o) call → MayRelease o (count_of key.starts.items o) (size_of key.starts.items o) call v m.0.hold
        → Asks id key z slots seat m x.lock (λ _. 0) (λ _ w. release_tells a x.lock m w)
    release_here call v a ask pass fits may = let h = held_whole o (count_of key.starts.items o) (size_of key.starts.items o) call v m.0.hold may in (
      mine,
      lock_in,
      subst (λ (t : ℕ × Asked). Allows (rule_of key) slots seat m t.0 (λ _. 0) (λ _ w. release_tells t.1 t.0 m w)) (λ i. (sym spot.lock i, sym ask i))
          (release_keeps key.starts.items key.locks some_lock o spot.inside call v h.0 h.1 fits h.2 h.3 h.4 slots seat m pass h.5),
    )

-- the same, where the state of the blocks is given
module _ (id : TableId) (key : BlockOpening) (sized : id.words ≡ table_size key.starts.items key.locks) (some_lock : 1 ≤ key.locks) (z : TableId) (slots seat : ℕ) (m : Me (Unit {0}) BlockView) (now : BlocksState) (view : blocks_of id key ≡ now) (o : ℕ) (x : Spot)
    (mine : z ≡ now.id) (spot : IsSpot now.starts now.locks o x) where
  here : (z ≡ id) × IsSpot key.starts.items key.locks o x
  here = subst (λ (b : BlocksState). (z ≡ b.id) × IsSpot b.starts b.locks o x) (sym view) (mine, spot)

  starts_are : now.starts ≡ key.starts.items
  starts_are = ap (λ (b : BlocksState). b.starts) (sym view)

  pub take_given : (a : Asked) → a ≡ asked_object o → m.0.hold ≡ Idle → Asks id key z slots seat m x.lock (λ _. 1) (take_tells a x.lock m)
  take_given a ask rest = take_here id key sized some_lock z slots seat m o x here.0 here.1 a (ap (λ (b : Asked). b.object) ask) rest

  pub held_given : (i : ℕ) → i < count_of now.starts o → HoldsClean o i m.0.hold → m.0.starts ≡ now.starts → Asks id key z slots seat m (x.first + i) (λ n. n) (held_tells (x.first + i) m)
  held_given i lt held carried = held_here id key sized some_lock z slots seat m o x here.0 here.1 i (subst (λ (S : List (List ℕ)). i < count_of S o) starts_are lt) held (carried ∙ starts_are)

  pub put_given : (i n : ℕ) → i < count_of now.starts o → HoldsRead o (count_of now.starts o) i m.0.hold → Asks id key z slots seat m (x.first + i) (λ _. n) (λ _. put_tells (x.first + i) m n)
  put_given i n lt held = put_here id key sized some_lock z slots seat m o x here.0 here.1 i n (subst (λ (S : List (List ℕ)). i < count_of S o) starts_are lt) (subst (λ (S : List (List ℕ)). HoldsRead o (count_of S o) i m.0.hold) starts_are held)

  pub release_given : (call : BlockCall) (v : List ℕ) (a : Asked) → a ≡ asked_value o call v → m.0.role ≡ role.Pass → OperandsFit (size_of now.starts o) call → MayRelease o (count_of now.starts o) (size_of now.starts o) call v m.0.hold
      → Asks id key z slots seat m x.lock (λ _. 0) (λ _ w. release_tells a x.lock m w)
  release_given call v a ask pass fits may = release_here id key sized some_lock z slots seat m o x here.0 here.1 call v a ask pass (subst (λ (S : List (List ℕ)). OperandsFit (size_of S o) call) starts_are fits)
      (subst (λ (S : List (List ℕ)). MayRelease o (count_of S o) (size_of S o) call v m.0.hold) starts_are may)
