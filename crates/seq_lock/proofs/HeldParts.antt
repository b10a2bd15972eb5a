-- Parts that are read one after another under the lock.
use Rattle.std.proofs.Common.{◌≡◌, ◌≢◌, ℕ, suc, ◌+◌, ◌*◌, ◌^◌, ◌<◌, ◌≤◌, Bool, List, [], ◌∷◌, ◌++◌, refl, ap, sym, ◌∙◌, subst, arith, if◌then◌else◌, eq-eqb, ne_eqb, Some}
use mathlib.Core.Logic.{dite}
use native.Mathlib.Decide.{ℕ_discrete}
use Rattle.op_table.specs.Kind.{values_of}
use Rattle.place_core.specs.declared.shape.Shape.{Shape}
use Rattle.place_core.specs.Shapes.{kind_of, IsShape}
use Rattle.place_core.proofs.PartSums.{equal_parts_join_equally, joined_fits}
use Rattle.seat_views.specs.declared.view.Item.{Item}
use Rattle.seat_views.specs.declared.view.Flight.{Flight}
use Rattle.seat_views.specs.declared.view.Flight.TheVariants.{Idle, Hold, Glance}
use Rattle.seat_views.specs.declared.view.StepKind.TheVariants as step
use Rattle.seat_views.specs.Places.{HasParts, parts_of, word_of_part}
use Rattle.seat_views.specs.PartLists.{look_up, or_zero, got}
use Rattle.seat_views.specs.Steps.{item}
use Rattle.seat_views.specs.LockSteps.{read_more, read_in, HoldsClean}
use Rattle.seat_views.specs.Paths.{eat_run}
use Rattle.seat_views.specs.States.{ArenaState, PassState, IsOf}
use Rattle.seat_views.specs.LockStates.{ReadsHeld}
use Rattle.seat_views.proofs.Joining.{join_none, join_more}
use Rattle.seat_views.proofs.LockUses.{known_more}
use Rattle.seat_views.proofs.PathEating.{run_snoc}
use Rattle.seq_lock.specs.Holds.{first_word, with_read, Reading, ReadsAll}
use Rattle.seq_lock.proofs.Counts.{joined_value}
use Rattle.seq_lock.proofs.Trails.{numbered, no_steps, step_more, steps_of, steps_flight}

-- ---- one part more in a list

pub got_here : (i n : ℕ) (parts : List (ℕ × ℕ)) → got ((i, n) ∷ parts) i ≡ n
got_here i n parts = ap (λ (b : Bool). or_zero (if b then Some n else look_up i parts)) (eq-eqb i i refl)

pub got_else : (i j n : ℕ) (parts : List (ℕ × ℕ)) → j ≢ i → got ((i, n) ∷ parts) j ≡ got parts j
got_else i j n parts ne = ap (λ (b : Bool). or_zero (if b then Some n else look_up j parts)) (ne_eqb j i ne)

-- what holds of each of the first i parts and of the next
pub each_more : (P : ℕ → ℕ → Type 0) (i n : ℕ) (parts : List (ℕ × ℕ)) → ((j : ℕ) → j < i → P j (got parts j)) → P i n → (j : ℕ) → j < i + 1 → P j (got ((i, n) ∷ parts) j)
each_more P i n parts each here j lt = dite (ℕ_discrete j i)
    (λ e. subst (λ (z : ℕ). P z (got ((i, n) ∷ parts) z)) (sym e) (subst (P i) (sym (got_here i n parts)) here))
    (λ ne. subst (P j) (sym (got_else i j n parts ne)) (each j (omega arith)))

read_with : (f : Flight) (parts : List (ℕ × ℕ)) (i n : ℕ) → read_more (with_read f parts) i n ≡ with_read f ((i, n) ∷ parts)
read_with Idle parts i n = refl
read_with (Glance o stamp read) parts i n = refl
read_with (Hold o stamp read wrote now) parts i n = refl

read_same : (o : ℕ) (f : Flight) → HoldsClean o f → with_read f (read_in f) ≡ f
read_same o Idle h = absurd h
read_same o (Glance p stamp read) h = absurd h
read_same o (Hold p stamp read wrote now) h = refl

read_clean : (o : ℕ) (f : Flight) (parts : List (ℕ × ℕ)) → HoldsClean o f → HoldsClean o (with_read f parts)
read_clean o Idle parts h = absurd h
read_clean o (Glance p stamp read) parts h = absurd h
read_clean o (Hold p stamp read wrote now) parts h = h

module _ (S : Shape) (o : ℕ) (p : PassState) where
  pub reading_none : HoldsClean o p.flight → Reading S o p 0 0 p
  reading_none clean = record {
    steps = [];
    read = read_in p.flight;
    known = λ j lt. absurd (omega arith);
    small = λ j lt. absurd (omega arith);
    of_kind = λ j lt. absurd (omega arith);
    value_is = join_none S.word_bits (got (read_in p.flight));
    eaten = refl;
    state = no_steps p (with_read p.flight (read_in p.flight)) (read_same o p.flight clean);
    kept = λ some. absurd (omega arith);
  }

  module _ (i v : ℕ) (q : PassState) (t : Reading S o p i v q) where
    pub reading_of : (a : ArenaState) → IsOf a p → IsOf a q
    reading_of a of = steps_of a p q t.steps (with_read p.flight t.read) of t.state

    pub reading_clean : HoldsClean o p.flight → HoldsClean o q.flight
    reading_clean clean = subst (HoldsClean o) (sym (steps_flight p q t.steps (with_read p.flight t.read) t.state)) (read_clean o p.flight t.read clean)

    pub reading_low : v < 2 ^ (S.word_bits * i)
    reading_low = subst (λ (z : ℕ). z < 2 ^ (S.word_bits * i)) (sym t.value_is) (joined_fits S.word_bits i (got t.read) t.small)

    pub reading_more : (r : PassState) (n w : ℕ) → ReadsHeld S o i q n r → w ≡ v + n * 2 ^ (S.word_bits * i) → Reading S o p (i + 1) w r
    reading_more r n w h is =
        let it : Item = item (word_of_part S o i) step.Held n in
        let parts : List (ℕ × ℕ) = (i, n) ∷ t.read in
        let up : suc i ≡ i + 1 = omega arith in
        let m = h.moved in record {
          steps = t.steps ++ it ∷ [];
          read = parts;
          known = known_more i n t.read t.known;
          small = each_more (λ _ z. z < 2 ^ S.word_bits) i n t.read t.small h.small;
          of_kind = each_more (λ _ z. z < values_of (kind_of S o)) i n t.read t.of_kind h.of_kind;
          value_is = join_more S.word_bits (got parts) i v w
              (t.value_is ∙ equal_parts_join_equally S.word_bits i (got t.read) (got parts) (λ j lt. sym (got_else i j n t.read (omega arith))))
              (is ∙ ap (λ (z : ℕ). v + z * 2 ^ (S.word_bits * i)) (sym (got_here i n t.read)));
          eaten = subst (λ (z : ℕ). eat_run step.Held (first_word S o) z (t.steps ++ it ∷ []) ≡ Some []) up
              (run_snoc step.Held (first_word S o) i t.steps it t.eaten (numbered step.Held (word_of_part S o i) (first_word S o + i) n (omega arith)));
          state = step_more p q r t.steps (with_read p.flight t.read) (read_more q.flight i n) it (with_read p.flight parts) t.state h.moved
              (ap (λ (f : Flight). read_more f i n) (steps_flight p q t.steps (with_read p.flight t.read) t.state) ∙ read_with p.flight t.read i n);
          kept = λ _. m.kept;
        }

  pub reading_all : (n v : ℕ) (q : PassState) → IsShape S → HasParts S o → n ≡ parts_of S o → 1 ≤ n → Reading S o p n v q → ReadsAll S o p v q
  reading_all n v q ok has count some r = go (subst (λ (z : ℕ). Reading S o p z v q) count r) (subst (λ (z : ℕ). 1 ≤ z) count some)
    where
      go : Reading S o p (parts_of S o) v q → 1 ≤ parts_of S o → ReadsAll S o p v q
      go t some = record {
        steps = t.steps;
        read = t.read;
        known = t.known;
        small = t.small;
        value_is = t.value_is;
        fits = subst (λ (z : ℕ). z < values_of (kind_of S o)) (sym t.value_is) (joined_value S ok o has (got t.read) some t.small t.of_kind);
        eaten = t.eaten;
        state = t.state;
        kept = t.kept some;
      }
