-- The outcome at the state of a whole part is that of its runs.
use Rattle.std.proofs.Common.{◌≡◌, ℕ, zero, suc, ◌+◌, ◌-◌, ◌*◌, ◌%◌, ◌<◌, ◌≤◌, nat_lt, Bool, true, false, if◌then◌else◌, List, length, map, refl, sym, ap, ◌∙◌, subst, arith}
use Rattle.std.specs.Prelude.{slice_get, slice_index}
use Rattle.std.specs.List.{range_with_len}
use borrow.Author.Tests.{ltb-true}
use Rattle.place_core.specs.declared.entry.Entry.{Entry}
use Rattle.place_core.specs.declared.script.Line.{Line}
use Rattle.place_core.specs.declared.shape.Shape.{Shape}
use Rattle.place_core.specs.Cells.{value_of}
use Rattle.place_core.specs.Runs.{replies_by}
use Rattle.place_core.specs.Shapes.{cells_of_shape}
use Rattle.run_steps.specs.Laws.{IsOfPart}
use Rattle.run_steps.specs.Standing.{reply_number, told_thread, told_place, state_of}
use Rattle.run_steps.proofs.CellSteps.{count_at, value_at, told_at}
use Rattle.run_ends.specs.Ends.{IsEnd, TellsSame}
use Rattle.run_ends.proofs.Ends.{runs_have_ends, ends_are_of_runs}
use Rattle.run_outcomes.specs.Outcomes.{longest, told_count, outcome_cell, outcome_of, IsOutcome, EndsAll, cell_at, outcome_at}

map_same : (f g : ℕ → ℕ) (count a : ℕ) → ((i : ℕ) → a ≤ i → i < a + count → f i ≡ g i) → map f (range_with_len a count) ≡ map g (range_with_len a count)
map_same f g zero a h = refl
map_same f g (suc count) a h =
    let first : f a ≡ g a = h a (omega arith) (omega arith) in
    let rest : map f (range_with_len (a + 1) count) ≡ map g (range_with_len (a + 1) count) = map_same f g count (a + 1) (λ i low within. h i (omega arith) (omega arith)) in
    cc (first, rest)

not_less : (i n : ℕ) → nat_lt i n ≡ false → n ≤ i
not_less i n h = search (arith, h)

-- one of two numbers, by a test, twice
by_test : (b : Bool) (x y z w : ℕ) → (b ≡ true → x ≡ z) → (b ≡ false → y ≡ w) → (if b then x else y) ≡ (if b then z else w)
by_test true x y z w f g = f refl
by_test false x y z w f g = g refl

-- a number of a reply is of a thread
told_thread_within : (n most i : ℕ) → i < 2 * (n * most) → told_thread n i < n
told_thread_within zero most i within = absurd (omega arith)
told_thread_within (suc n) most i within = omega arith

module _ (S : Shape) (scripts : List (List Line)) where
  -- histories that tell the same have one outcome
  pub outcome_same : (H G : List Entry) → TellsSame S scripts H G → outcome_of S scripts H ≡ outcome_of S scripts G
  outcome_same H G same = map_same (outcome_cell S scripts H) (outcome_cell S scripts G) (told_count scripts + length S.objects) 0 (λ i low within.
      by_test (nat_lt i (told_count scripts))
      (reply_number (i % 2) (slice_get (replies_by H (told_thread (length scripts) i + 1)) (told_place (length scripts) i)))
      (value_of (cells_of_shape S) H (i - told_count scripts))
      (reply_number (i % 2) (slice_get (replies_by G (told_thread (length scripts) i + 1)) (told_place (length scripts) i)))
      (value_of (cells_of_shape S) G (i - told_count scripts))
      (λ less. ap (λ rs. reply_number (i % 2) (slice_get rs (told_place (length scripts) i)))
      (same.replies (told_thread (length scripts) i) (told_thread_within (length scripts) (longest scripts) i (ltb-true i (told_count scripts) less))))
      (λ more. same.values (i - told_count scripts)))

  -- the outcome at the state after a history is the history's
  pub outcome_there : (G : List Entry) → outcome_at S scripts (state_of S scripts (longest scripts) G) ≡ outcome_of S scripts G
  outcome_there G = map_same (cell_at S scripts (state_of S scripts (longest scripts) G)) (outcome_cell S scripts G) (told_count scripts + length S.objects) 0 (λ i low within.
      by_test (nat_lt i (told_count scripts))
      (slice_index (state_of S scripts (longest scripts) G) (length scripts + length scripts + length S.objects + i))
      (slice_index (state_of S scripts (longest scripts) G) (length scripts + length scripts + (i - told_count scripts)))
      (reply_number (i % 2) (slice_get (replies_by G (told_thread (length scripts) i + 1)) (told_place (length scripts) i)))
      (value_of (cells_of_shape S) G (i - told_count scripts))
      (λ less. let below : i < told_count scripts = ltb-true i (told_count scripts) less in told_at S scripts (longest scripts) G i (omega arith))
      (λ more. let past : told_count scripts ≤ i = not_less i (told_count scripts) more in value_at S scripts (longest scripts) G (i - told_count scripts) (omega arith)))

  ends_there : (G : List Entry) → IsEnd scripts G → EndsAll scripts (state_of S scripts (longest scripts) G)
  ends_there G end t within = count_at S scripts (longest scripts) G t within ∙ end t within

  end_of : (G : List Entry) → EndsAll scripts (state_of S scripts (longest scripts) G) → IsEnd scripts G
  end_of G all t within = sym (count_at S scripts (longest scripts) G t within) ∙ all t within

  -- an outcome is that at a state of a beginning of a run in which each thread made all its calls
  pub outcome_has_state : (q : List ℕ) → IsOutcome S scripts q → (s : List ℕ) × IsOfPart S scripts (longest scripts) s × EndsAll scripts s × (q ≡ outcome_at S scripts s)
  outcome_has_state q out =
      let whole = runs_have_ends S scripts out.history out.run in
      let G : List Entry = whole.0 in (
        state_of S scripts (longest scripts) G,
        record { history = G; part = whole.1.part; same = refl },
        ends_there G whole.1.end,
        out.same ∙ outcome_same out.history G whole.2 ∙ sym (outcome_there G),
      )

  pub state_has_outcome : (s : List ℕ) → IsOfPart S scripts (longest scripts) s → EndsAll scripts s → IsOutcome S scripts (outcome_at S scripts s)
  state_has_outcome s of all =
      let G : List Entry = of.history in
      let end : IsEnd scripts G = end_of G (subst (EndsAll scripts) of.same all) in
      let run = ends_are_of_runs S scripts G (record { part = of.part; end = end }) in
      record {
        history = run.0;
        run = run.1;
        same = ap (outcome_at S scripts) of.same ∙ outcome_there G ∙ sym (outcome_same run.0 G run.2);
      }
