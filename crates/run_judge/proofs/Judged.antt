-- A report can be exactly where a state of an agreeing beginning shows it.
use Rattle.std.proofs.Common.{◌≡◌, ◌≢◌, ◌*◌, true, false, cond, slice_index_or, Result, Ok, Err, IfOk, ◌⊎◌, ⊎_elim, inl, inr, ℕ, zero, suc, ◌+◌, ◌<◌, ◌≤◌, List, [], ◌∷◌, length, map, Some, refl, ap, sym, ◌∙◌, subst, arith}
use Rattle.std.specs.Prelude.{slice_get, slice_index}
use mathlib.Core.List.{IsPrefix}
use Rattle.op_table.specs.declared.call.Reply.{Reply}
use Rattle.op_table.specs.declared.call.Reply.TheVariants as reply
use Rattle.place_core.specs.declared.entry.Entry.{Entry}
use Rattle.place_core.specs.declared.script.Line.{Line}
use Rattle.place_core.specs.declared.shape.Shape.{Shape}
use Rattle.place_core.specs.declared.places.Object.{Object}
use Rattle.place_core.specs.Cells.{Cell, value_of, entries_by}
use Rattle.place_core.specs.Runs.{replies_by, replies_from}
use Rattle.place_core.specs.Shapes.{cells_of_shape, IsShape}
use Rattle.place_core.proofs.EntryLists.{all_map, made_by-absent}
use Rattle.place_core.proofs.Prefixes.{prefix_self, prefix_whole}
use Rattle.run_steps.specs.Parts.{IsPart, IsOfThread}
use Rattle.run_steps.specs.Standing.{state_of}
use Rattle.run_steps.proofs.Lists.{length-map', prefix_nil, at_within}
use Rattle.run_steps.proofs.CellSteps.{count_at, value_at}
use Rattle.run_ends.specs.Ends.{IsEnd, TellsSame}
use Rattle.run_ends.specs.Laws.{last_from}
use Rattle.run_ends.proofs.Ends.{runs_have_ends, ends_are_of_runs, last_loads_tell_values}
use Rattle.run_judge.specs.Reports.{CanBe}
use Rattle.run_judge.specs.Agreeing.{replies_at, Agrees, IsOfAgreeing}
use Rattle.run_judge.specs.Judging.{HasReplies, Shows}
use Rattle.run_judge.proofs.SameReplies.{same_lists}
use Rattle.run_judge.proofs.AgreeingSteps.{agreeing_reached}
use Rattle.std.specs.List.{list_any}
use Rattle.std.specs.Ordering.{is_eq, nat_cmp}
use Rattle.std.specs.Cmp.Lexicographic.{slice_cmp}
use Rattle.std.specs.declared.cmp.Ordering.{Ordering}
use Rattle.std.specs.declared.cmp.Ordering.TheVariants.{Less, Equal, Greater}
use Rattle.std.specs.BTreeMap.{is_at}
use Rattle.std.specs.BTreeSet.{BTreeSet, btree_set_len, contains, Updates, IsEmpty}
use Rattle.std.proofs.lemmas.Map.Lookups.{exact_bytes}
use Rattle.std.proofs.lemmas.List.FromFn.{length-map-range_with_len}
use Rattle.place_core.specs.RepliesState.{RepliesState}
use Rattle.place_core.specs.declared.script.Piece.{Piece}
use Rattle.place_core.specs.Pieces.{script_lines}
use Rattle.place_core.specs.Runs.{ScriptsFit}
use Rattle.outcomes.specs.Reached.{Reached, HasReached, ReachesMore}
use Rattle.run_steps.specs.Machines.{IsAt}
use Rattle.run_steps.proofs.MachineFacts.{IsAt-none}
use Rattle.run_steps.specs.Standing.{cell_of, cell_count}
use Rattle.run_steps.proofs.Lists.{true_or_false}
use Rattle.run_judge.specs.Reports.{items_of}
use Rattle.run_judge.specs.Agreeing.{agreeing_step}
use Rattle.run_judge.specs.Judging.{HasEveryAgreeing, IsLooking}

-- ---- the threads

replies_count : (H : List Entry) (i : ℕ) (scripts : List (List Line)) → length (replies_from H i scripts) ≡ length scripts
replies_count H i [] = refl
replies_count H i (script ∷ scripts) = let rest = replies_count H (i + 1) scripts in omega (arith, rest)

replies_thread : (H : List Entry) (i : ℕ) (scripts : List (List Line)) (t : ℕ) → t < length scripts → replies_at (replies_from H i scripts) t ≡ replies_by H (i + t)
replies_thread H i [] t within = absurd (omega arith)
replies_thread H i (script ∷ scripts) zero within = ap (replies_by H) (omega arith)
replies_thread H i (script ∷ scripts) (suc t) within = replies_thread H (i + 1) scripts t (omega arith) ∙ ap (replies_by H) (omega arith)

same_threads : (H : List Entry) (i : ℕ) (scripts : List (List Line)) (wanted : List (List Reply)) → length wanted ≡ length scripts → ((t : ℕ) → t < length scripts → replies_by H (i + t) ≡ replies_at wanted t) → replies_from H i scripts ≡ wanted
same_threads H i [] [] size each = refl
same_threads H i [] (w ∷ wanted) size each = absurd (omega arith)
same_threads H i (script ∷ scripts) [] size each = absurd (omega arith)
same_threads H i (script ∷ scripts) (w ∷ wanted) size each =
    let head : replies_by H i ≡ w = ap (replies_by H) (omega arith) ∙ each 0 (omega arith) in
    let rest : replies_from H (i + 1) scripts ≡ wanted = same_threads H (i + 1) scripts wanted (omega arith) (λ t within. ap (replies_by H) (omega arith) ∙ each (suc t) (omega arith)) in
    cc (head, rest)

-- ---- the last loads

module _ (cells : List Cell) (H : List Entry) where
  last_count : (o : ℕ) (rest : List Cell) → length (last_from cells H o rest) ≡ length rest
  last_count o [] = refl
  last_count o (cell ∷ rest) = let more = last_count (o + 1) rest in omega (arith, more)

  last_at : (o : ℕ) (rest : List Cell) (i : ℕ) → i < length rest → slice_get (last_from cells H o rest) i ≡ Some (reply.Value (value_of cells H (o + i)))
  last_at o [] i within = absurd (omega arith)
  last_at o (cell ∷ rest) zero within = ap (λ (p : ℕ). Some (reply.Value (value_of cells H p))) (omega arith)
  last_at o (cell ∷ rest) (suc i) within = last_at (o + 1) rest i (omega arith) ∙ ap (λ (p : ℕ). Some (reply.Value (value_of cells H p))) (omega arith)

module _ (S : Shape) (scripts : List (List Line)) (wanted : List (List Reply)) (last : List Reply) where
  object_count : length (cells_of_shape S) ≡ length S.objects
  object_count = length-map' (λ (a : Object). let c : Cell = record { kind = a.kind; start = a.start } in c) S.objects

  agrees_whole : (H G : List Entry) → TellsSame S scripts H G → IsPart S scripts G → replies_from H 1 scripts ≡ wanted → Agrees wanted G
  agrees_whole H G same part told t = ⊎_elim
      (λ (less : t < length scripts). subst (λ l. IsPrefix l (replies_at wanted t))
      (ap (λ w. replies_at w t) (sym told) ∙ replies_thread H 1 scripts t less ∙ ap (replies_by H) (omega arith) ∙ same.replies t less)
      (prefix_self (replies_at wanted t)))
      (λ (le : length scripts ≤ t). subst (λ (l : List Entry). IsPrefix (map (λ (y : Entry). y.reply) l) (replies_at wanted t))
      (sym (made_by-absent (λ (x : Entry). x.caller) G (t + 1) (all_map (IsOfThread (length scripts)) (λ (x : Entry). x.caller ≢ t + 1) G (λ x of own. absurd (omega (arith, of.1, own))) part.threads)))
      (prefix_nil (replies_at wanted t)))
      (less_or_le t (length scripts))
    where
      less_or_le : (m n : ℕ) → (m < n) ⊎ (n ≤ m)
      less_or_le m n = search arith

  pub state_of_report : CanBe S scripts wanted last → (s : List ℕ) × IsOfAgreeing S scripts 0 wanted s × Shows S scripts last s
  state_of_report can =
      let H : List Entry = can.history in
      let whole = runs_have_ends S scripts H can.run in
      let G : List Entry = whole.0 in
      let loads : last_from (cells_of_shape S) H 0 (cells_of_shape S) ≡ last = sym (last_loads_tell_values S scripts H can.run) ∙ can.loads in (
        state_of S scripts 0 G,
        record { history = G; part = whole.1.part; agrees = agrees_whole H G whole.2 whole.1.part can.replies; same = refl },
        record {
          ends = λ t within. count_at S scripts 0 G t within ∙ whole.1.end t within;
          shown = record {
            count = ap (λ (l : List Reply). length l) (sym loads) ∙ last_count (cells_of_shape S) H 0 (cells_of_shape S) ∙ object_count;
            values = λ o within.
                ap (λ (l : List Reply). slice_get l o) (sym loads)
                ∙ last_at (cells_of_shape S) H 0 (cells_of_shape S) o (omega (arith, within, object_count))
                ∙ ap (λ (v : ℕ). Some (reply.Value v)) (ap (value_of (cells_of_shape S) H) (omega arith) ∙ whole.2.values o ∙ sym (value_at S scripts 0 G o within));
          };
        },
      )

  pub report_of_state : HasReplies scripts wanted → (s : List ℕ) → IsOfAgreeing S scripts 0 wanted s → Shows S scripts last s → CanBe S scripts wanted last
  report_of_state has s of shows =
      let G : List Entry = of.history in
      let end : IsEnd scripts G = λ t within. sym (count_at S scripts 0 G t within) ∙ ap (λ (l : List ℕ). slice_index l t) (sym of.same) ∙ shows.ends t within in
      let run = ends_are_of_runs S scripts G (record { part = of.part; end = end }) in
      let H : List Entry = run.0 in
      let whole : (t : ℕ) → t < length scripts → replies_by G (t + 1) ≡ replies_at wanted t = λ t within.
      let size : length (replies_by G (t + 1)) ≡ length (replies_at wanted t) = length-map' (λ (y : Entry). y.reply) (entries_by G (t + 1)) ∙ end t within ∙ sym (has.lines t within) in
      prefix_whole (replies_by G (t + 1)) (replies_at wanted t) (of.agrees t) (omega (arith, size)) in
      let loads = last_loads_tell_values S scripts H run.1 in
      record {
        history = H;
        run = run.1;
        replies = same_threads H 1 scripts wanted has.threads (λ t within. ap (replies_by H) (omega arith) ∙ run.2.replies t within ∙ whole t within);
        loads = loads ∙ sym (same_lists last (last_from (cells_of_shape S) H 0 (cells_of_shape S))
            (shows.shown.count ∙ sym (last_count (cells_of_shape S) H 0 (cells_of_shape S) ∙ object_count))
            (λ o r e.
            let within : o < length S.objects = omega (arith, at_within last o r e, shows.shown.count) in
            let value : slice_index s (length scripts + length scripts + o) ≡ value_of (cells_of_shape S) H o = ap (λ (l : List ℕ). slice_index l (length scripts + length scripts + o)) of.same ∙ value_at S scripts 0 G o within ∙ sym (run.2.values o) in
            last_at (cells_of_shape S) H 0 (cells_of_shape S) o (omega (arith, within, object_count))
            ∙ ap (λ (v : ℕ). Some (reply.Value v)) (ap (value_of (cells_of_shape S) H) (omega arith) ∙ sym value)
            ∙ sym (shows.shown.values o within) ∙ e));
      }

-- how many replies are kept of a thread, where those at t are d itself
pub reply_count : (replies : List RepliesState) (t : ℕ) (d : RepliesState) → t < length replies → d ≡ slice_index_or replies t d → length d.items ≡ length (replies_at (items_of replies) t)
reply_count replies t d within is = ap (λ (r : RepliesState). length r.items) is ∙ there replies t d within
  where
    there : (replies : List RepliesState) (t : ℕ) (d : RepliesState) → t < length replies → length (slice_index_or replies t d).items ≡ length (replies_at (items_of replies) t)
    there [] t d within = absurd (omega arith)
    there (r ∷ replies) zero d within = refl
    there (r ∷ replies) (suc t) d within = there replies t d (omega arith)

-- what was found for the machine was found for the scripts
pub found_moved : (Z S : Shape) (rest scripts : List (List Piece)) (kept : ℕ) (told wanted : List RepliesState) (start : List ℕ) (limit : ℕ) (found : BTreeSet (List ℕ)) → Z ≡ S → rest ≡ scripts → kept ≡ 0 → told ≡ wanted
    → ScriptsFit (cells_of_shape S) (map script_lines scripts) → start ≡ state_of S (map script_lines scripts) 0 []
    → HasReached (slice_cmp nat_cmp) (2 * length rest) (agreeing_step Z (map script_lines rest) kept (items_of told)) start limit found → HasEveryAgreeing S (map script_lines scripts) 0 (items_of wanted) found
found_moved Z S rest scripts kept told wanted start limit found e f g h fits is reached s =
    let law = agreeing_reached S (map script_lines scripts) 0 (items_of wanted) fits s in
    let there : Reached (2 * length rest) (agreeing_step Z (map script_lines rest) kept (items_of told)) start s ≡ Reached (2 * length (map script_lines scripts)) (agreeing_step S (map script_lines scripts) 0 (items_of wanted)) (state_of S (map script_lines scripts) 0 []) s =
    (λ i. Reached (2 * length (f i)) (agreeing_step (e i) (map script_lines (f i)) (g i) (items_of (h i))) (is i) s)
    ∙ (λ i. Reached (2 * sym (length-map' script_lines scripts) i) (agreeing_step S (map script_lines scripts) 0 (items_of wanted)) (state_of S (map script_lines scripts) 0 []) s) in
    let P : Type 0 → Type 0 = λ A. A in
    (λ has. law.0 (subst P there ((reached.exact s).0 has)), λ of. (reached.exact s).1 (subst P (sym there) (law.1 of)))

pub IfOk-weaken : {T E : Type 0} (P Q : T → Type 0) (r : Result T E) → ((x : T) → P x → Q x) → IfOk r P → IfOk r Q
IfOk-weaken P Q (Ok x) f h = f x h
IfOk-weaken P Q (Err e) f h = tt

-- ---- from one state to the next

at_equal : (o : Ordering) → is_eq o ≡ true → o ≡ Equal
at_equal Less e = cc
at_equal Equal e = refl
at_equal Greater e = cc

pub length_there : (S : Shape) (scripts : List (List Line)) (kept : ℕ) (wanted : List (List Reply)) (s : List ℕ) → IsOfAgreeing S scripts kept wanted s → length s ≡ cell_count S scripts kept
length_there S scripts kept wanted s of = ap (λ (l : List ℕ). length l) of.same ∙ length-map-range_with_len (cell_of S scripts of.history) 0 (cell_count S scripts kept)

module _ (S : Shape) (scripts : List (List Line)) (wanted : List (List Reply)) (last : List Reply) where
  pub IsLooking-begins : (found : BTreeSet (List ℕ)) → HasEveryAgreeing S scripts 0 wanted found → IsLooking S scripts 0 wanted last found
  IsLooking-begins found every = record { states = λ s has. (every s).0 has; each = λ s of shows. (every s).1 of }

  pub IsLooking-more : (left rest : BTreeSet (List ℕ)) (s : List ℕ) → IsLooking S scripts 0 wanted last left → Updates (slice_cmp nat_cmp) left rest s false → (Shows S scripts last s → ⊥) → IsLooking S scripts 0 wanted last rest
  IsLooking-more left rest s looking taken not' = record {
    states = λ q has. looking.states q (elim (true_or_false (is_at (slice_cmp nat_cmp s) q)) [
      | inl e ↦ let clash : false ≡ true = sym (taken.0 q ∙ ap (λ b. cond b false (contains (slice_cmp nat_cmp) left q)) e) ∙ has in absurd cc
      | inr e ↦ sym (taken.2 q e) ∙ has
    ]);
    each = λ q of shows. elim (true_or_false (is_at (slice_cmp nat_cmp s) q)) [
      | inl e ↦ absurd (not' (subst (Shows S scripts last) (sym (exact_bytes s q (at_equal (slice_cmp nat_cmp s q) e))) shows))
      | inr e ↦ taken.2 q e ∙ looking.each q of shows
    ];
  }

  pub IsLooking-ends : (left : BTreeSet (List ℕ)) → IsLooking S scripts 0 wanted last left → IsEmpty left → CanBe S scripts wanted last → ⊥
  IsLooking-ends left looking none can =
      let there = state_of_report S scripts wanted last can in
      let has = looking.each there.0 there.1 there.2 in
      let clash : false ≡ true = subst (λ ks. list_any (is_at (slice_cmp nat_cmp there.0)) ks ≡ true) none has in cc

-- a report that can be has a reply for each line
pub has_of_can : (S : Shape) (scripts : List (List Line)) (wanted : List (List Reply)) (last : List Reply) → CanBe S scripts wanted last → HasReplies scripts wanted
has_of_can S scripts wanted last can = record {
  threads = ap (λ (l : List (List Reply)). length l) (sym can.replies) ∙ replies_count can.history 1 scripts;
  lines = λ t within.
      let whole = runs_have_ends S scripts can.history can.run in
      ap (λ (l : List (List Reply)). length (replies_at l t)) (sym can.replies)
      ∙ ap (λ (l : List Reply). length l) (replies_thread can.history 1 scripts t within ∙ ap (replies_by can.history) (omega arith) ∙ whole.2.replies t within)
      ∙ length-map' (λ (y : Entry). y.reply) (entries_by whole.0 (t + 1)) ∙ whole.1.end t within;
}

pub empty_where_none : (set : BTreeSet (List ℕ)) → (0 < btree_set_len set → false ≡ true) → IsEmpty set
empty_where_none set none = no_key set.keys none
  where
    no_key : {S : Type 0} (ks : List S) → (0 < length ks → false ≡ true) → ks ≡ []
    no_key [] h = refl
    no_key (k ∷ ks) h = let clash : false ≡ true = h (omega arith) in absurd cc

-- ---- the machine's own shape and scripts

pub at_start : (Z S : Shape) (rest scripts : List (List Piece)) (kept : ℕ) (start : List ℕ) → Z ≡ S → rest ≡ scripts → IsShape S → ScriptsFit (cells_of_shape S) (map script_lines scripts)
    → start ≡ state_of Z (map script_lines rest) kept [] → IsAt Z (map script_lines rest) kept start
at_start Z S rest scripts kept start e f valid fits is =
    let P : Type 0 → Type 0 = λ A. A in
    subst (IsAt Z (map script_lines rest) kept) (sym is)
    (IsAt-none Z (map script_lines rest) kept (subst IsShape (sym e) valid) (subst P (λ i. ScriptsFit (cells_of_shape (sym e i)) (map script_lines (sym f i))) fits))

pub start_moved : (Z S : Shape) (rest scripts : List (List Piece)) (kept : ℕ) (start : List ℕ) → Z ≡ S → rest ≡ scripts → kept ≡ 0 → start ≡ state_of Z (map script_lines rest) kept [] → start ≡ state_of S (map script_lines scripts) 0 []
start_moved Z S rest scripts kept start e f g is = is ∙ (λ i. state_of (e i) (map script_lines (f i)) (g i) [])

pub more_moved : (Z S : Shape) (rest scripts : List (List Piece)) (kept : ℕ) (told wanted : List RepliesState) (start : List ℕ) (limit : ℕ) → Z ≡ S → rest ≡ scripts → kept ≡ 0 → told ≡ wanted → start ≡ state_of S (map script_lines scripts) 0 []
    → ReachesMore (slice_cmp nat_cmp) (2 * length rest) (agreeing_step Z (map script_lines rest) kept (items_of told)) start limit
    → ReachesMore (slice_cmp nat_cmp) (2 * length scripts) (agreeing_step S (map script_lines scripts) 0 (items_of wanted)) (state_of S (map script_lines scripts) 0 []) limit
more_moved Z S rest scripts kept told wanted start limit e f g h is more =
    let P : Type 0 → Type 0 = λ A. A in
    subst P (λ i. ReachesMore (slice_cmp nat_cmp) (2 * length (f i)) (agreeing_step (e i) (map script_lines (f i)) (g i) (items_of (h i))) (is i) limit) more
