-- What an object's values are where it only moves as a rule allows.
use Rattle.std.proofs.Common.{◌≡◌, ◌≢◌, ℕ, zero, suc, ◌+◌, ◌<◌, ◌≤◌, ◌==◌, Bool, true, false, if◌then◌else◌, List, [], ◌∷◌, ◌++◌, length, Option, Some, None, Result, Ok, Err, refl, ap, sym, ◌∙◌, subst, arith, append_assoc, inl, inr, eq-eqb, ne_eqb, slice_get}
use Rattle.std.specs.Prelude.{◌⊎◌, IsSomeAnd, nat_lt}
use Rattle.std.proofs.lemmas.List.{append-nil}
use mathlib.Core.Logic.{dite}
use mathlib.Core.List.{IsPrefix}
use native.Mathlib.Decide.{ℕ_discrete}
use Rattle.op_table.specs.declared.call.Call.{Call}
use Rattle.op_table.specs.declared.call.Call.TheVariants.{Load, Cas, CasWeak}
use Rattle.op_table.specs.declared.call.Reply.{Reply}
use Rattle.op_table.specs.declared.call.Reply.TheVariants as reply
use Rattle.op_table.specs.CallTests.{has_failed}
use Rattle.op_table.specs.Call.{after_of, exchange_reply, Permits}
use Rattle.place_core.specs.declared.entry.Entry.{Entry}
use Rattle.place_core.specs.declared.shape.Shape.{Shape}
use Rattle.place_core.specs.Histories.{Each}
use Rattle.place_core.specs.Cells.{effect_of, value_of, IsLegal}
use Rattle.place_core.specs.Shapes.{cells_of_shape, kind_of, start_of}
use Rattle.place_core.proofs.CellValues.{value_of-other}
use Rattle.place_core.proofs.EntryLists.{Each-append_left, Each-append, Each-at, Each-prefix}
use Rattle.place_core.proofs.LegalValues.{value_start}
use Rattle.update_table.specs.declared.update.Stop.{Stop}
use Rattle.update_table.specs.declared.update.Stop.TheVariants.{Refused, Outside}
use Rattle.update_table.specs.Rules.{InRange, raised, cycled}
use Rattle.update_table.specs.Updates.{Updates}
use Rattle.update_table.specs.Moves.{IsMove, AllMove, StaysInRange, ValuesStayInRange, RaisedNeverFalls, IsDone, CycleTakesNext, IsFoundLast, RefusedIsExact}
use Rattle.update_table.proofs.CallFacts.{Told, told_by, exchanged_as}
use Rattle.std.proofs.lemmas.List.{length-map}
use Rattle.place_core.specs.declared.places.Object.{Object}
use Rattle.place_core.specs.Cells.{Cell, IsLawful}

-- ---- one entry

some_below : {A : Type 0} (P : A → Type 0) (xs : List A) (i : ℕ) → IsSomeAnd (slice_get xs i) P → i < length xs
some_below P [] i h = absurd h
some_below P (x ∷ xs) zero h = omega arith
some_below P (x ∷ xs) (suc i) h = let below = some_below P xs i h in omega arith

lawful_below : (S : Shape) (G : List Entry) (x : Entry) → IsLawful (cells_of_shape S) G x → x.object < length S.objects
lawful_below S G x law = subst (λ (n : ℕ). x.object < n) (length-map S.objects (λ (a : Object). record { kind = a.kind; start = a.start })) (some_below _ (cells_of_shape S) x.object law)

failed_or_not : (r : Reply) → (has_failed r ≡ true) ⊎ (has_failed r ≡ false)
failed_or_not (reply.Failed v) = inl refl
failed_or_not _ = inr refl

failed_stays : (r : Reply) (next v : ℕ) → has_failed r ≡ true → effect_of r next v ≡ v
failed_stays (reply.Failed w) next v is = refl
failed_stays reply.Unit next v is = absurd cc
failed_stays (reply.Value w) next v is = absurd cc
failed_stays (reply.Bit b) next v is = absurd cc
failed_stays (reply.Done w) next v is = absurd cc

other_moves : (r : Reply) (next v : ℕ) → has_failed r ≡ false → effect_of r next v ≡ next
other_moves (reply.Failed w) next v is = absurd cc
other_moves reply.Unit next v is = refl
other_moves (reply.Value w) next v is = refl
other_moves (reply.Bit b) next v is = refl
other_moves (reply.Done w) next v is = refl

module _ (moves : ℕ → ℕ → Type 0) where
  by_exchange : (e n v w : ℕ) → moves e n → w ≡ (if v == e then n else v) → (w ≡ v) ⊎ moves v w
  by_exchange e n v w move is = dite (ℕ_discrete v e)
      (λ same. let now : w ≡ n = is ∙ ap (λ (b : Bool). if b then n else v) (eq-eqb v e same) in inr (subst (λ (z : ℕ × ℕ). moves z.0 z.1) (λ i. (sym same i, sym now i)) move))
      (λ other. inl (is ∙ ap (λ (b : Bool). if b then n else v) (ne_eqb v e other)))

  by_call : (S : Shape) (o : ℕ) (call : Call) (v w : ℕ) → IsMove moves call → w ≡ after_of (kind_of S o) call v → (w ≡ v) ⊎ moves v w
  by_call S o Load v w move is = inl is
  by_call S o (Cas e n) v w move is = by_exchange e n v w move is
  by_call S o (CasWeak e n) v w move is = by_exchange e n v w move is
  by_call S o _ v w move is = absurd move

  told_moves : (S : Shape) (o : ℕ) (call : Call) (r : Reply) (v w : ℕ) → Told S o call r v w → (has_failed r ≡ false → IsMove moves call) → (w ≡ v) ⊎ moves v w
  told_moves S o call r v w t move = elim (failed_or_not r) [
    | inl failed ↦ inl (t.left ∙ failed_stays r (after_of (kind_of S o) call v) v failed)
    | inr done ↦ by_call S o call v w (move done) (t.left ∙ other_moves r (after_of (kind_of S o) call v) v done)
  ]

  -- the value stays, or moves
  entry_moves : (S : Shape) (o : ℕ) (G : List Entry) (x : Entry) → IsLegal (cells_of_shape S) (G ++ x ∷ []) → (x.object ≡ o → has_failed x.reply ≡ false → IsMove moves x.call)
      → (value_of (cells_of_shape S) (G ++ x ∷ []) o ≡ value_of (cells_of_shape S) G o) ⊎ moves (value_of (cells_of_shape S) G o) (value_of (cells_of_shape S) (G ++ x ∷ []) o)
  entry_moves S o G x legal move = dite (ℕ_discrete x.object o)
      (λ same. subst (λ (k : ℕ). (value_of (cells_of_shape S) (G ++ x ∷ []) k ≡ value_of (cells_of_shape S) G k) ⊎ moves (value_of (cells_of_shape S) G k) (value_of (cells_of_shape S) (G ++ x ∷ []) k)) same
      (told_moves S x.object x.call x.reply _ _ (told_by S G x (lawful_below S G x (Each-at _ G x [] legal)) legal) (move same)))
      (λ other. inl (value_of-other (cells_of_shape S) G x o other))

  -- what holds of a value, and of all that it moves to, stays
  kept_along : (S : Shape) (o : ℕ) (P : ℕ → Type 0) → ((e n : ℕ) → P e → moves e n → P n) → (G M : List Entry) → IsLegal (cells_of_shape S) (G ++ M) → AllMove moves o M
      → P (value_of (cells_of_shape S) G o) → P (value_of (cells_of_shape S) (G ++ M) o)
  kept_along S o P stays G [] legal all here = subst (λ (H : List Entry). P (value_of (cells_of_shape S) H o)) (sym (append-nil G)) here
  kept_along S o P stays G (x ∷ xs) legal all here =
      let along : (G ++ x ∷ []) ++ xs ≡ G ++ x ∷ xs = append_assoc G (x ∷ []) xs in
      let longer : IsLegal (cells_of_shape S) ((G ++ x ∷ []) ++ xs) = subst (IsLegal (cells_of_shape S)) (sym along) legal in
      let front : IsLegal (cells_of_shape S) (G ++ x ∷ []) = Each-append_left _ (G ++ x ∷ []) xs longer in
      let cut = (Each-append (λ H y. y.object ≡ o → has_failed y.reply ≡ false → IsMove moves y.call) (x ∷ []) xs).0 all in
      let next : P (value_of (cells_of_shape S) (G ++ x ∷ []) o) = elim (entry_moves S o G x front (Each-at _ [] x xs all)) [
        | inl same ↦ subst P (sym same) here
        | inr move ↦ stays _ _ here move
      ] in
      subst (λ (H : List Entry). P (value_of (cells_of_shape S) H o)) along (kept_along S o P stays (G ++ x ∷ []) xs longer cut.1 next)

-- ---- the laws

pub values_stay_in_range : ValuesStayInRange
values_stay_in_range S lo hi o H legal stays G front =
    kept_along (λ e n. InRange lo hi n) S o (InRange lo hi) (λ e n was move. move) [] G (Each-prefix _ G H front legal) (Each-prefix _ G H front stays.1)
    (subst (InRange lo hi) (sym (value_start S o)) stays.0)

raised_up : (b : Bool) (e by n : ℕ) → Some n ≡ (if b then None else Some (e + by)) → e ≤ n
raised_up true e by n is = absurd cc
raised_up false e by n is = let now : n ≡ e + by = cc is in omega arith

pub raised_never_falls : RaisedNeverFalls
raised_never_falls S hi by o H legal all F G first front =
    let M : List Entry = first.0 in
    let whole : F ++ M ≡ G = first.1 in
    let legal_there : IsLegal (cells_of_shape S) (F ++ M) = subst (IsLegal (cells_of_shape S)) (sym whole) (Each-prefix _ G H front legal) in
    let moves_there : AllMove (λ e n. Some n ≡ raised hi by e) o (F ++ M) = subst (AllMove (λ e n. Some n ≡ raised hi by e) o) (sym whole) (Each-prefix _ G H front all) in
    let P : ℕ → Type 0 = λ v. value_of (cells_of_shape S) F o ≤ v in
    subst (λ (K : List Entry). P (value_of (cells_of_shape S) K o)) whole
    (kept_along (λ e n. Some n ≡ raised hi by e) S o P (λ e n was move. (let up : e ≤ n = raised_up (nat_lt hi (e + by)) e by n move in omega arith)) F M legal_there
    ((Each-append (λ K y. y.object ≡ o → has_failed y.reply ≡ false → IsMove (λ e n. Some n ≡ raised hi by e) y.call) F M).0 moves_there).1 (omega arith))

exchanged_value : (e n v w : ℕ) (r : Reply) → has_failed r ≡ false → r ≡ exchange_reply e v → w ≡ effect_of r (if v == e then n else v) v → (v ≡ e) × (w ≡ n)
exchanged_value e n v w r done is left = elim (exchanged_as e v r is) [
  | inl h ↦ (h.0, left ∙ (other_moves r (if v == e then n else v) v done ∙ ap (λ (b : Bool). if b then n else v) (eq-eqb v e h.0)))
  | inr h ↦ (let clash : true ≡ false = ap has_failed (sym h.1) ∙ done in absurd cc)
]

told_exchange : (S : Shape) (o : ℕ) (call : Call) (r : Reply) (e n v w : ℕ) → (call ≡ Cas e n) ⊎ (call ≡ CasWeak e n) → has_failed r ≡ false → Told S o call r v w → (v ≡ e) × (w ≡ n)
told_exchange S o call r e n v w which done told = elim which [
  | inl strong ↦ (let t : Told S o (Cas e n) r v w = subst (λ (c : Call). Told S o c r v w) strong told in
      exchanged_value e n v w r done (elim t.permitted [ inl h ↦ h.0 | inr h ↦ absurd h ]) t.left)
  | inr weak ↦ (let t : Told S o (CasWeak e n) r v w = subst (λ (c : Call). Told S o c r v w) weak told in
      exchanged_value e n v w r done (elim t.permitted [ inl h ↦ h.0 | inr h ↦ (let clash : true ≡ false = ap has_failed (sym h.1) ∙ done in absurd cc) ]) t.left)
]

-- a done exchange expected the value before it, and left the new one
done_value : (S : Shape) (o e n : ℕ) (G : List Entry) (x : Entry) → IsLegal (cells_of_shape S) (G ++ x ∷ []) → IsDone x o e n → (value_of (cells_of_shape S) G o ≡ e) × (value_of (cells_of_shape S) (G ++ x ∷ []) o ≡ n)
done_value S o e n G x legal d =
    subst (λ (k : ℕ). (value_of (cells_of_shape S) G k ≡ e) × (value_of (cells_of_shape S) (G ++ x ∷ []) k ≡ n)) d.object
    (told_exchange S x.object x.call x.reply e n _ _ d.call d.done (told_by S G x (lawful_below S G x (Each-at _ G x [] legal)) legal))

moves_by : (moves : ℕ → ℕ → Type 0) (f m : ℕ) (call : Call) → (call ≡ Cas f m) ⊎ (call ≡ CasWeak f m) → IsMove moves call → moves f m
moves_by moves f m call which move = elim which [
  | inl strong ↦ (let there : IsMove moves (Cas f m) = subst (IsMove moves) strong move in there)
  | inr weak ↦ (let there : IsMove moves (CasWeak f m) = subst (IsMove moves) weak move in there)
]

pub cycle_takes_next : CycleTakesNext
cycle_takes_next S lo hi o e n f m G between more x y legal all first none second =
    let K : List Entry = G ++ x ∷ [] in
    let L : List Entry = K ++ between in
    let all_there : G ++ x ∷ (between ++ y ∷ more) ≡ (L ++ y ∷ []) ++ more =
    sym (append_assoc L (y ∷ []) more ∙ (append_assoc K between (y ∷ more) ∙ append_assoc G (x ∷ []) (between ++ y ∷ more))) in
    let whole : IsLegal (cells_of_shape S) ((L ++ y ∷ []) ++ more) = subst (IsLegal (cells_of_shape S)) all_there legal in
    let to_y : IsLegal (cells_of_shape S) (L ++ y ∷ []) = Each-append_left _ (L ++ y ∷ []) more whole in
    let to_between : IsLegal (cells_of_shape S) L = Each-append_left _ L (y ∷ []) to_y in
    let to_x : IsLegal (cells_of_shape S) K = Each-append_left _ K between to_between in
    let stored : value_of (cells_of_shape S) K o ≡ n = (done_value S o e n G x to_x first).1 in
    let stays : value_of (cells_of_shape S) L o ≡ n = kept_along (λ v w. ⊥) S o (λ v. v ≡ n) (λ v w was move. absurd move) K between to_between none stored in
    let same : f ≡ n = sym (done_value S o f m L y to_y second).0 ∙ stays in
    let moves_there : AllMove (λ v w. w ≡ cycled lo hi v) o ((L ++ y ∷ []) ++ more) = subst (AllMove (λ v w. w ≡ cycled lo hi v) o) all_there all in
    let moved : IsMove (λ v w. w ≡ cycled lo hi v) y.call = Each-at _ L y [] (Each-append_left _ (L ++ y ∷ []) more moves_there) second.object second.done in
    (same, moves_by (λ v w. w ≡ cycled lo hi v) f m y.call second.call moved ∙ ap (cycled lo hi) same)

pub refused_is_exact : RefusedIsExact
refused_is_exact S o lo hi v next p (Ok w) q u last within none =
    let there : next w ≡ None = ap next (sym last) ∙ none in
    let led = u.1 in
    let clash : Some u.0 ≡ None = led.leads ∙ there in absurd cc
refused_is_exact S o lo hi v next p (Err (Refused w)) q u last within none = ap (λ (z : ℕ). Err (Refused z)) (sym last)
refused_is_exact S o lo hi v next p (Err (Outside w)) q u last within none = absurd (u.0 (subst (InRange lo hi) last within))
