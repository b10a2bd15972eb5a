-- The moves that are choices at the state of a beginning of a run are those of its next entries.
use Rattle.std.proofs.Common.{◌≡◌, inl, inr, ℕ, zero, suc, ◌+◌, ◌*◌, ◌/◌, ◌%◌, ◌<◌, ◌==◌, Bool, true, false, ◌&&◌, if◌then◌else◌, List, [], ◌∷◌, ◌++◌, length, Option, Some, None, refl, ap, sym, ◌∙◌, subst, arith}
use Rattle.std.specs.Prelude.{slice_get, slice_index, map}
use borrow.Author.Tests.{eqb-true, eq-eqb}
use Rattle.op_table.specs.declared.kind.Kind.{Kind}
use Rattle.op_table.specs.declared.call.Call.{Call}
use Rattle.op_table.specs.declared.call.Call.TheVariants.{Load, Store, Swap, Cas, CasWeak, Add, Sub, And, Nand, Or, Xor, Max, Min, Not, Neg, BitSet, BitClear, BitToggle, AddFetch, SubFetch, AndFetch, NandFetch, OrFetch, XorFetch}
use Rattle.op_table.specs.declared.call.Reply.{Reply}
use Rattle.op_table.specs.declared.call.Reply.TheVariants as reply
use Rattle.op_table.specs.Call.{after_of, answer_of, CallFits, Permits, IsSpurious}
use Rattle.place_core.specs.declared.entry.Entry.{Entry}
use Rattle.place_core.specs.declared.places.Object.{Object}
use Rattle.place_core.specs.declared.places.Place.{Place}
use Rattle.place_core.specs.declared.places.Place.TheVariants.{Lane, Parts}
use Rattle.place_core.specs.declared.script.Line.{Line}
use Rattle.place_core.specs.declared.shape.Shape.{Shape}
use Rattle.place_core.specs.Cells.{Cell, left_by, value_of, IsLawful}
use Rattle.place_core.specs.Runs.{ScriptsFit}
use Rattle.place_core.specs.Shapes.{place_of, kind_of, kind_in, is_sole, cells_of_shape}
use Rattle.place_core.specs.Earned.{IsEarned, IsSpuriousEntry}
use Rattle.place_core.specs.WordSums.{one_if}
use Rattle.place_core.proofs.CellValues.{value_of-own, effect_of-answer_of}
use Rattle.place_core.proofs.Earning.{table_reply_is_not_spurious}
use Rattle.run_steps.specs.Parts.{IsPart}
use Rattle.run_steps.specs.Standing.{shared_word, only_weak, weak_word, changed_in, made_count, line_at, may_fail, state_of}
use Rattle.run_steps.specs.declared.moves.Move.{Move}
use Rattle.run_steps.specs.Steps.{expects, move_at, move_of}
use Rattle.run_steps.proofs.Lists.{true_or_false, some_and, is_some_and, at_within, length-map'}
use Rattle.run_steps.proofs.ChangedSince.{Cut-from_changed, changed-from_Cut}
use Rattle.run_steps.proofs.NextEntries.{MakesLine, IsPart-more, last_line, last_lawful, last_earned, line_fits}
use Rattle.run_steps.proofs.CellSteps.{count_at, failure_at, value_at, move_for}

-- ---- which failures are earned

-- the word of a lane that shares it
shared_is : (S : Shape) (p : Option Place) (w : ℕ) → shared_word S p ≡ Some w → (s : ℕ) × (d : ℕ) × (p ≡ Some (Lane w s d)) × (is_sole S w ≡ false)
shared_is S None w e = absurd cc
shared_is S (Some (Parts l f n b)) w e = absurd cc
shared_is S (Some (Lane v s d)) w e = go (is_sole S v) refl e
  where
    go : (sole : Bool) → is_sole S v ≡ sole → (if sole then None else Some v) ≡ Some w → (t : ℕ) × (c : ℕ) × (Some (Lane v s d) ≡ Some (Lane w t c)) × (is_sole S w ≡ false)
    go true is e = let clash : None ≡ Some w = e in absurd cc
    go false is e = let one : v ≡ w = cc (e) in (s, d, ap (λ z. Some (Lane z s d)) one, subst (λ z. is_sole S z ≡ false) one is)

shared_of : (S : Shape) (p : Option Place) (w s d : ℕ) → p ≡ Some (Lane w s d) → is_sole S w ≡ false → shared_word S p ≡ Some w
shared_of S p w s d e shared = ap (shared_word S) e ∙ ap (λ z. if z then None else Some w) shared

module _ (S : Shape) (G : List Entry) (x : Entry) where
  -- an earned failure of an entry that makes a weak exchange
  earned_from : (W : Option ℕ) → shared_word S (place_of S x.object) ≡ W → changed_in S W x.caller G ≡ true → IsEarned S G x
  earned_from None is changed = let clash : false ≡ true = changed in absurd cc
  earned_from (Some w) is changed =
      let lane = shared_is S (place_of S x.object) w is in
      let cut = Cut-from_changed S w x.caller false [] G changed in
      record {
        word = w;
        shift = lane.0;
        width = lane.1;
        lane = lane.2;
        shared = lane.3;
        before = cut.front;
        since = cut.since;
        split = cut.split;
        quiet = cut.quiet;
        changed = elim cut.cause [ inl some ↦ some | inr (clash, none) ↦ let bad : false ≡ true = clash in absurd cc ];
      }

  changed_from : IsEarned S G x → changed_in S (shared_word S (place_of S x.object)) x.caller G ≡ true
  changed_from earned = ap (λ W. changed_in S W x.caller G) (shared_of S (place_of S x.object) earned.word earned.shift earned.width earned.lane earned.shared)
      ∙ changed-from_Cut S earned.word x.caller false [] G earned.before earned.since earned.split earned.quiet (inl earned.changed)

-- a weak exchange that expects the value
expects_is : (call : Call) (v : ℕ) → expects call v ≡ true → (m : ℕ) × (call ≡ CasWeak v m)
expects_is (CasWeak e m) v h = (m, ap (λ z. CasWeak z m) (eqb-true e v h))
expects_is Load v h = let clash : false ≡ true = h in absurd cc
expects_is (Store a) v h = let clash : false ≡ true = h in absurd cc
expects_is (Swap a) v h = let clash : false ≡ true = h in absurd cc
expects_is (Cas e m) v h = let clash : false ≡ true = h in absurd cc
expects_is (Add a q) v h = let clash : false ≡ true = h in absurd cc
expects_is (Sub a q) v h = let clash : false ≡ true = h in absurd cc
expects_is (And a q) v h = let clash : false ≡ true = h in absurd cc
expects_is (Nand a) v h = let clash : false ≡ true = h in absurd cc
expects_is (Or a q) v h = let clash : false ≡ true = h in absurd cc
expects_is (Xor a q) v h = let clash : false ≡ true = h in absurd cc
expects_is (Max a) v h = let clash : false ≡ true = h in absurd cc
expects_is (Min a) v h = let clash : false ≡ true = h in absurd cc
expects_is (Not q) v h = let clash : false ≡ true = h in absurd cc
expects_is (Neg q) v h = let clash : false ≡ true = h in absurd cc
expects_is (BitSet p) v h = let clash : false ≡ true = h in absurd cc
expects_is (BitClear p) v h = let clash : false ≡ true = h in absurd cc
expects_is (BitToggle p) v h = let clash : false ≡ true = h in absurd cc
expects_is (AddFetch a) v h = let clash : false ≡ true = h in absurd cc
expects_is (SubFetch a) v h = let clash : false ≡ true = h in absurd cc
expects_is (AndFetch a) v h = let clash : false ≡ true = h in absurd cc
expects_is (NandFetch a) v h = let clash : false ≡ true = h in absurd cc
expects_is (OrFetch a) v h = let clash : false ≡ true = h in absurd cc
expects_is (XorFetch a) v h = let clash : false ≡ true = h in absurd cc

-- a call that may fail spuriously is such an exchange
spurious_is : (call : Call) (v : ℕ) (r : Reply) (w : ℕ) → IsSpurious call v r w → (m : ℕ) × (call ≡ CasWeak v m) × (r ≡ reply.Failed v) × (w ≡ v)
spurious_is (CasWeak e m) v r w h = (m, ap (λ z. CasWeak z m) (sym h.0), h.1, h.2)
spurious_is Load v r w h = absurd h
spurious_is (Store a) v r w h = absurd h
spurious_is (Swap a) v r w h = absurd h
spurious_is (Cas e m) v r w h = absurd h
spurious_is (Add a q) v r w h = absurd h
spurious_is (Sub a q) v r w h = absurd h
spurious_is (And a q) v r w h = absurd h
spurious_is (Nand a) v r w h = absurd h
spurious_is (Or a q) v r w h = absurd h
spurious_is (Xor a q) v r w h = absurd h
spurious_is (Max a) v r w h = absurd h
spurious_is (Min a) v r w h = absurd h
spurious_is (Not q) v r w h = absurd h
spurious_is (Neg q) v r w h = absurd h
spurious_is (BitSet p) v r w h = absurd h
spurious_is (BitClear p) v r w h = absurd h
spurious_is (BitToggle p) v r w h = absurd h
spurious_is (AddFetch a) v r w h = absurd h
spurious_is (SubFetch a) v r w h = absurd h
spurious_is (AndFetch a) v r w h = absurd h
spurious_is (NandFetch a) v r w h = absurd h
spurious_is (OrFetch a) v r w h = absurd h
spurious_is (XorFetch a) v r w h = absurd h

-- ---- moves

-- the move where the object has the value v, and a failure is earned where `fails` is 1
abbrev move_with : Shape → ℕ → ℕ → ℕ → ℕ → ℕ → Line → Option Move
move_with S v fails t p sort line =
    if sort == 0
    then Some (record { thread = t; place = p; object = line.object; value = v; told = answer_of (kind_of S line.object) line.call v; left = after_of (kind_of S line.object) line.call v })
    else (if expects line.call v && (fails == 1) then Some (record { thread = t; place = p; object = line.object; value = v; told = reply.Failed v; left = v }) else None)

-- an object of a cell
pub kind_there : (xs : List Object) (o : ℕ) (cell : Cell) → slice_get (map (λ (a : Object). record { kind = a.kind; start = a.start }) xs) o ≡ Some cell → kind_in (slice_get xs o) ≡ cell.kind
kind_there [] o cell e = absurd cc
kind_there (a ∷ xs) zero cell e = let f : Option Cell → Kind = kind_or a.kind in ap f e
  where
    kind_or : Kind → Option Cell → Kind
    kind_or k None = k
    kind_or k (Some c) = c.kind
kind_there (a ∷ xs) (suc o) cell e = kind_there xs o cell e

pub object_within : (S : Shape) (o : ℕ) (cell : Cell) → slice_get (cells_of_shape S) o ≡ Some cell → o < length S.objects
object_within S o cell e = let below = at_within (cells_of_shape S) o cell e in let same = length-map' (λ (a : Object). let c : Cell = record { kind = a.kind; start = a.start } in c) S.objects in omega (arith, below, same)

is_one : (b : Bool) → (one_if b == 1) ≡ true → b ≡ true
is_one true h = refl
is_one false h = let clash : false ≡ true = h in absurd cc

both_true : (a b : Bool) → (a && b) ≡ true → (a ≡ true) × (b ≡ true)
both_true true b h = (refl, h)
both_true false b h = let clash : false ≡ true = h in absurd cc

module _ (S : Shape) (scripts : List (List Line)) (kept : ℕ) (G : List Entry) where
  -- the move of a choice, by what the state says of the history
  moves_line : (k : ℕ) (line : Line) → k / 2 < length scripts → line_at scripts (k / 2) (made_count G (k / 2)) ≡ Some line → line.object < length S.objects
      → move_of S scripts (state_of S scripts kept G) k ≡ move_with S (value_of (cells_of_shape S) G line.object) (one_if (may_fail S scripts G (k / 2))) (k / 2) (made_count G (k / 2)) (k % 2) line
  moves_line k line within next there =
      ap (λ p. move_at S (state_of S scripts kept G) (length scripts) (k / 2) p (k % 2) (line_at scripts (k / 2) p)) (count_at S scripts kept G (k / 2) within)
      ∙ ap (λ l. move_at S (state_of S scripts kept G) (length scripts) (k / 2) (made_count G (k / 2)) (k % 2) l) next
      ∙ ap (λ v. move_with S v (slice_index (state_of S scripts kept G) (length scripts + k / 2)) (k / 2) (made_count G (k / 2)) (k % 2) line) (value_at S scripts kept G line.object there)
      ∙ ap (λ f. move_with S (value_of (cells_of_shape S) G line.object) f (k / 2) (made_count G (k / 2)) (k % 2) line) (failure_at S scripts kept G (k / 2) within)

  moves_none : (k : ℕ) → k / 2 < length scripts → line_at scripts (k / 2) (made_count G (k / 2)) ≡ None → move_of S scripts (state_of S scripts kept G) k ≡ None
  moves_none k within none =
      ap (λ p. move_at S (state_of S scripts kept G) (length scripts) (k / 2) p (k % 2) (line_at scripts (k / 2) p)) (count_at S scripts kept G (k / 2) within)
      ∙ ap (λ l. move_at S (state_of S scripts kept G) (length scripts) (k / 2) (made_count G (k / 2)) (k % 2) l) none

  -- what a next entry leaves
  left_of : (x : Entry) (cell : Cell) → slice_get (cells_of_shape S) x.object ≡ Some cell → value_of (cells_of_shape S) (G ++ x ∷ []) x.object ≡ left_by cell.kind x (value_of (cells_of_shape S) G x.object)
  left_of x cell at = value_of-own (cells_of_shape S) G x x.object cell at refl

  -- a choice that leads on is the move of a next entry
  by_table : IsPart S scripts G → (k : ℕ) (line : Line) (move : Move) → k / 2 < length scripts → line_at scripts (k / 2) (made_count G (k / 2)) ≡ Some line
      → (cell : Cell) → slice_get (cells_of_shape S) line.object ≡ Some cell → CallFits cell.kind line.call
      → Some (record {
        thread = k / 2;
        place = made_count G (k / 2);
        object = line.object;
        value = value_of (cells_of_shape S) G line.object;
        told = answer_of (kind_of S line.object) line.call (value_of (cells_of_shape S) G line.object);
        left = after_of (kind_of S line.object) line.call (value_of (cells_of_shape S) G line.object);
      }) ≡ Some move
      → (x : Entry) × (x.caller ≡ k / 2 + 1) × IsPart S scripts (G ++ x ∷ []) × (move ≡ move_for S G x (k / 2))
  by_table part k line move within next cell at fits is =
      let t : ℕ = k / 2 in
      let v : ℕ = value_of (cells_of_shape S) G line.object in
      let x : Entry = record { caller = t + 1; object = line.object; call = line.call; reply = answer_of (kind_of S line.object) line.call v } in
      let kind : kind_of S line.object ≡ cell.kind = kind_there S.objects line.object cell at in
      let effect : left_by cell.kind x v ≡ after_of cell.kind line.call v =
      subst (λ q. left_by q (record { caller = t + 1; object = line.object; call = line.call; reply = answer_of q line.call v }) v ≡ after_of q line.call v → left_by cell.kind x v ≡ after_of cell.kind line.call v) (sym kind)
      (λ e. subst (λ q. left_by cell.kind (record { caller = t + 1; object = line.object; call = line.call; reply = answer_of q line.call v }) v ≡ after_of cell.kind line.call v) (sym kind) (effect_of-answer_of cell.kind line.call v))
      (effect_of-answer_of (kind_of S line.object) line.call v) in
      let lawful : IsLawful (cells_of_shape S) G x =
      is_some_and (λ (c : Cell). CallFits c.kind line.call × Permits c.kind line.call v x.reply (left_by c.kind x v)) (slice_get (cells_of_shape S) line.object) cell at
      (fits, inl (ap (λ q. answer_of q line.call v) kind, effect)) in
      let none : IsSpuriousEntry x → IsEarned S G x = λ h. absurd (table_reply_is_not_spurious S x v refl h) in
      let more = IsPart-more S scripts G part x t line within (record { caller = refl; next = next; object = refl; call = refl }) lawful none in
      let left : value_of (cells_of_shape S) (G ++ x ∷ []) line.object ≡ after_of (kind_of S line.object) line.call v = left_of x cell at ∙ effect ∙ ap (λ q. after_of q line.call v) (sym kind) in
      let same : record { thread = t; place = made_count G t; object = line.object; value = v; told = x.reply; left = after_of (kind_of S line.object) line.call v } ≡ move = cc (is) in
      (x, refl, more, sym same ∙ ap (λ l. record { thread = t; place = made_count G t; object = line.object; value = v; told = x.reply; left = l }) (sym left))

  by_failure : IsPart S scripts G → (k : ℕ) (line : Line) (move : Move) → k / 2 < length scripts → line_at scripts (k / 2) (made_count G (k / 2)) ≡ Some line
      → (cell : Cell) → slice_get (cells_of_shape S) line.object ≡ Some cell → CallFits cell.kind line.call
      → expects line.call (value_of (cells_of_shape S) G line.object) ≡ true → may_fail S scripts G (k / 2) ≡ true
      → Some (record {
        thread = k / 2;
        place = made_count G (k / 2);
        object = line.object;
        value = value_of (cells_of_shape S) G line.object;
        told = reply.Failed (value_of (cells_of_shape S) G line.object);
        left = value_of (cells_of_shape S) G line.object;
      }) ≡ Some move
      → (x : Entry) × (x.caller ≡ k / 2 + 1) × IsPart S scripts (G ++ x ∷ []) × (move ≡ move_for S G x (k / 2))
  by_failure part k line move within next cell at fits expected fails is =
      let t : ℕ = k / 2 in
      let v : ℕ = value_of (cells_of_shape S) G line.object in
      let x : Entry = record { caller = t + 1; object = line.object; call = line.call; reply = reply.Failed v } in
      let weak = expects_is line.call v expected in
      let permits : Permits cell.kind line.call v (reply.Failed v) v = inr (subst (λ c. IsSpurious c v (reply.Failed v) v) (sym weak.1) (refl, refl, refl)) in
      let lawful : IsLawful (cells_of_shape S) G x =
      is_some_and (λ (c : Cell). CallFits c.kind line.call × Permits c.kind line.call v x.reply (left_by c.kind x v)) (slice_get (cells_of_shape S) line.object) cell at (fits, permits) in
      let word : weak_word S (line_at scripts t (made_count G t)) ≡ shared_word S (place_of S line.object) = ap (weak_word S) next ∙ ap (λ c. only_weak c (shared_word S (place_of S line.object))) weak.1 in
      let earned : IsEarned S G x = earned_from S G x (shared_word S (place_of S line.object)) refl (ap (λ W. changed_in S W (t + 1) G) (sym word) ∙ fails) in
      let more = IsPart-more S scripts G part x t line within (record { caller = refl; next = next; object = refl; call = refl }) lawful (λ h. earned) in
      let left : value_of (cells_of_shape S) (G ++ x ∷ []) line.object ≡ v = left_of x cell at in
      let same : record { thread = t; place = made_count G t; object = line.object; value = v; told = x.reply; left = v } ≡ move = cc (is) in
      (x, refl, more, sym same ∙ ap (λ l. record { thread = t; place = made_count G t; object = line.object; value = v; told = x.reply; left = l }) (sym left))

  pub entry_of_choice : ScriptsFit (cells_of_shape S) scripts → IsPart S scripts G → (k : ℕ) (move : Move) → k < 2 * length scripts → move_of S scripts (state_of S scripts kept G) k ≡ Some move
      → (x : Entry) × (x.caller ≡ k / 2 + 1) × IsPart S scripts (G ++ x ∷ []) × (move ≡ move_for S G x (k / 2))
  entry_of_choice fits part k move below leads = go (line_at scripts (k / 2) (made_count G (k / 2))) refl
    where
      within : k / 2 < length scripts
      within = omega arith

      go : (o : Option Line) → line_at scripts (k / 2) (made_count G (k / 2)) ≡ o → (x : Entry) × (x.caller ≡ k / 2 + 1) × IsPart S scripts (G ++ x ∷ []) × (move ≡ move_for S G x (k / 2))
      go None next = let clash : None ≡ Some move = sym (moves_none k within next) ∙ leads in absurd cc
      go (Some line) next =
          let cell = line_fits S scripts G fits (k / 2) (made_count G (k / 2)) line next in
          let there = object_within S line.object cell.0 cell.1 in
          let move' = sym (moves_line k line within next there) ∙ leads in
          elim (true_or_false (k % 2 == 0)) [
            | inl h ↦ by_table part k line move within next cell.0 cell.1 cell.2
                (sym (ap (λ z. if z
                then Some (record {
                  thread = k / 2;
                  place = made_count G (k / 2);
                  object = line.object;
                  value = value_of (cells_of_shape S) G line.object;
                  told = answer_of (kind_of S line.object) line.call (value_of (cells_of_shape S) G line.object);
                  left = after_of (kind_of S line.object) line.call (value_of (cells_of_shape S) G line.object);
                })
                else (if expects line.call (value_of (cells_of_shape S) G line.object) && (one_if (may_fail S scripts G (k / 2)) == 1)
                then Some (record {
                  thread = k / 2;
                  place = made_count G (k / 2);
                  object = line.object;
                  value = value_of (cells_of_shape S) G line.object;
                  told = reply.Failed (value_of (cells_of_shape S) G line.object);
                  left = value_of (cells_of_shape S) G line.object;
                })
                else None)) h) ∙ move')
            | inr h ↦
                let second = sym (ap (λ z. if z
                then Some (record {
                  thread = k / 2;
                  place = made_count G (k / 2);
                  object = line.object;
                  value = value_of (cells_of_shape S) G line.object;
                  told = answer_of (kind_of S line.object) line.call (value_of (cells_of_shape S) G line.object);
                  left = after_of (kind_of S line.object) line.call (value_of (cells_of_shape S) G line.object);
                })
                else (if expects line.call (value_of (cells_of_shape S) G line.object) && (one_if (may_fail S scripts G (k / 2)) == 1)
                then Some (record {
                  thread = k / 2;
                  place = made_count G (k / 2);
                  object = line.object;
                  value = value_of (cells_of_shape S) G line.object;
                  told = reply.Failed (value_of (cells_of_shape S) G line.object);
                  left = value_of (cells_of_shape S) G line.object;
                })
                else None)) h) ∙ move' in
                elim (true_or_false (expects line.call (value_of (cells_of_shape S) G line.object) && (one_if (may_fail S scripts G (k / 2)) == 1))) [
                  | inl may ↦
                      let both = both_true (expects line.call (value_of (cells_of_shape S) G line.object)) (one_if (may_fail S scripts G (k / 2)) == 1) may in
                      by_failure part k line move within next cell.0 cell.1 cell.2 both.0 (is_one (may_fail S scripts G (k / 2)) both.1)
                      (sym (ap (λ z. if z
                      then Some (record {
                        thread = k / 2;
                        place = made_count G (k / 2);
                        object = line.object;
                        value = value_of (cells_of_shape S) G line.object;
                        told = reply.Failed (value_of (cells_of_shape S) G line.object);
                        left = value_of (cells_of_shape S) G line.object;
                      })
                      else None) may) ∙ second)
                  | inr not_may ↦
                      let clash : None ≡ Some move = sym (ap (λ z. if z
                      then Some (record {
                        thread = k / 2;
                        place = made_count G (k / 2);
                        object = line.object;
                        value = value_of (cells_of_shape S) G line.object;
                        told = reply.Failed (value_of (cells_of_shape S) G line.object);
                        left = value_of (cells_of_shape S) G line.object;
                      })
                      else None) not_may) ∙ second in absurd cc
                ]
          ]

  -- the move of a next entry is a choice
  moves_as : (k t : ℕ) (line : Line) (sort : ℕ) → k / 2 ≡ t → k % 2 ≡ sort → t < length scripts → line_at scripts t (made_count G t) ≡ Some line → line.object < length S.objects
      → move_of S scripts (state_of S scripts kept G) k ≡ move_with S (value_of (cells_of_shape S) G line.object) (one_if (may_fail S scripts G t)) t (made_count G t) sort line
  moves_as k t line sort half odd within next there =
      moves_line k line (omega (arith, half)) (subst (λ q. line_at scripts q (made_count G q) ≡ Some line) (sym half) next) there
      ∙ ap (λ q. move_with S (value_of (cells_of_shape S) G line.object) (one_if (may_fail S scripts G q)) q (made_count G q) (k % 2) line) half
      ∙ ap (λ q. move_with S (value_of (cells_of_shape S) G line.object) (one_if (may_fail S scripts G t)) t (made_count G t) q line) odd

  pub choice_of_entry : ScriptsFit (cells_of_shape S) scripts → (x : Entry) → IsPart S scripts (G ++ x ∷ [])
      → (k : ℕ) × (t : ℕ) × (k < 2 * length scripts) × (x.caller ≡ t + 1) × (move_of S scripts (state_of S scripts kept G) k ≡ Some (move_for S G x t))
  choice_of_entry fits x part = go (last_line S scripts G x part)
    where
      V : ℕ
      V = value_of (cells_of_shape S) G x.object

      go : (t : ℕ) × (t < length scripts) × ((line : Line) × MakesLine scripts G x t line)
          → (k : ℕ) × (t : ℕ) × (k < 2 * length scripts) × (x.caller ≡ t + 1) × (move_of S scripts (state_of S scripts kept G) k ≡ Some (move_for S G x t))
      go (t, within, (line, makes)) =
          let here = some_and (λ (c : Cell). CallFits c.kind x.call × Permits c.kind x.call (value_of (cells_of_shape S) G x.object) x.reply (left_by c.kind x (value_of (cells_of_shape S) G x.object))) (slice_get (cells_of_shape S) x.object) (last_lawful S scripts G x part) in
          let cell : Cell = here.0 in
          let kind : kind_of S x.object ≡ cell.kind = kind_there S.objects x.object cell here.1 in
          let there : line.object < length S.objects = subst (λ o. o < length S.objects) makes.object (object_within S x.object cell here.1) in
          let left = left_of x cell here.1 in
          elim here.2.1 [
            | inl (told, after) ↦
                let k : ℕ = 2 * t in
                let told' : answer_of (kind_of S line.object) line.call (value_of (cells_of_shape S) G line.object) ≡ x.reply =
                (λ i. answer_of (kind_of S (sym makes.object i)) (sym makes.call i) (value_of (cells_of_shape S) G (sym makes.object i))) ∙ ap (λ q. answer_of q x.call (value_of (cells_of_shape S) G x.object)) kind ∙ sym told in
                let left' : after_of (kind_of S line.object) line.call (value_of (cells_of_shape S) G line.object) ≡ value_of (cells_of_shape S) (G ++ x ∷ []) x.object =
                (λ i. after_of (kind_of S (sym makes.object i)) (sym makes.call i) (value_of (cells_of_shape S) G (sym makes.object i))) ∙ ap (λ q. after_of q x.call (value_of (cells_of_shape S) G x.object)) kind ∙ sym after ∙ sym left in (
                  k,
                  t,
                  omega arith,
                  makes.caller,
                  moves_as k t line 0 (omega arith) (omega arith) within makes.next there
                      ∙ (λ i. Some (record { thread = t; place = made_count G t; object = sym makes.object i; value = value_of (cells_of_shape S) G (sym makes.object i); told = told' i; left = left' i })),
                )
            | inr spurious ↦
                let k : ℕ = 2 * t + 1 in
                let v : ℕ = value_of (cells_of_shape S) G x.object in
                let weak = spurious_is x.call v x.reply (left_by cell.kind x v) spurious in
                let earned : IsEarned S G x = last_earned S scripts G x part (v, weak.0, weak.1, weak.2) in
                let call' : line.call ≡ CasWeak v weak.0 = sym makes.call ∙ weak.1 in
                let word : weak_word S (line_at scripts t (made_count G t)) ≡ shared_word S (place_of S x.object) =
                ap (weak_word S) makes.next ∙ ap (λ c. only_weak c (shared_word S (place_of S line.object))) call' ∙ ap (λ o. shared_word S (place_of S o)) (sym makes.object) in
                let fails : may_fail S scripts G t ≡ true = ap (λ W. changed_in S W (t + 1) G) word ∙ ap (λ c. changed_in S (shared_word S (place_of S x.object)) c G) (sym makes.caller) ∙ changed_from S G x earned in
                let value' : value_of (cells_of_shape S) G line.object ≡ v = ap (λ o. value_of (cells_of_shape S) G o) (sym makes.object) in
                let expected : expects line.call (value_of (cells_of_shape S) G line.object) ≡ true = (λ i. expects (call' i) (value' i)) ∙ eq-eqb v v refl in
                let left' : value_of (cells_of_shape S) G line.object ≡ value_of (cells_of_shape S) (G ++ x ∷ []) x.object = value' ∙ sym weak.3 ∙ sym left in
                let told' : reply.Failed (value_of (cells_of_shape S) G line.object) ≡ x.reply = ap reply.Failed value' ∙ sym weak.2 in (
                  k,
                  t,
                  omega arith,
                  makes.caller,
                  moves_as k t line 1 (omega arith) (omega arith) within makes.next there
                      ∙ ap (λ z. if z
                      then Some (record {
                        thread = t;
                        place = made_count G t;
                        object = line.object;
                        value = value_of (cells_of_shape S) G line.object;
                        told = reply.Failed (value_of (cells_of_shape S) G line.object);
                        left = value_of (cells_of_shape S) G line.object;
                      })
                      else None) ((λ i. expected i && (one_if (fails i) == 1)))
                      ∙ (λ i. Some (record { thread = t; place = made_count G t; object = sym makes.object i; value = value_of (cells_of_shape S) G (sym makes.object i); told = told' i; left = left' i })),
                )
          ]
