-- One more object in an index.
use Rattle.std.proofs.Common.{◌≡◌, ℕ, ◌+◌, ◌<◌, ltb, eqb, ◌≤◌, Bool, true, false, not, List, [], ◌∷◌, ◌++◌, length, Some, None, refl, sym, ap, subst, ◌∙◌, arith, inl, inr}
use Rattle.std.specs.Global.{Vec}
use Rattle.std.specs.Str.{bytes_eq}
use Rattle.std.specs.List.{position_or_len, position}
use Rattle.std.proofs.lemmas.List.Sums.{prefix_len-le-length}
use Rattle.std.specs.BTreeMap.{BTreeMap, get_by, UpdatesBy}
use Rattle.std.specs.Ordering.{is_eq, nat_cmp}
use Rattle.std.specs.Map.{lookup, IsKeyTest, AreApart, KeepsOthers}
use Rattle.std.specs.Cmp.Lexicographic.{slice_cmp, nat_list_eq_equiv, bytes_decides}
use Rattle.std.proofs.lemmas.Map.Text.{is_eq-slice_cmp}
use Rattle.std.proofs.lemmas.Bool.{cases_Bool, lt-ltb, le-ltb, eqb-true, eqb-false}
use Rattle.std.proofs.lemmas.List.{length-append}
use Rattle.std.proofs.lemmas.List.Folds.{position_or_len_push}
use Rattle.place_core.specs.declared.name.Declared.{Declared}
use Rattle.work_lang.specs.Workload.{object_of}
use Rattle.work_lang.specs.Index.{IsIndex}
use Rattle.work_lang.proofs.Names.{here}

other_entries : {K X : Type 0} (eq : K → K → Bool) (test : K → Bool) (old new : List (K × X)) → KeepsOthers eq test old new → (other : K → Bool) → IsKeyTest eq other → AreApart test other → lookup other new ≡ lookup other old
unfolding KeepsOthers
other_entries eq test old new h = h

apart : (bs cs ks : List ℕ) → bytes_eq bs cs ≡ false → is_eq (slice_cmp nat_cmp bs ks) ≡ true → is_eq (slice_cmp nat_cmp cs ks) ≡ false
apart bs cs ks n y = is_eq-slice_cmp cs ks ∙ nat_list_eq_equiv.symm cs ks ∙ sym (nat_list_eq_equiv.congr bs ks cs (sym (is_eq-slice_cmp bs ks) ∙ y)) ∙ n

-- a query for a name finds the keys that are equal to it
key_test : (w x y : List ℕ) → is_eq (slice_cmp nat_cmp w x) ≡ true → is_eq (slice_cmp nat_cmp w y) ≡ is_eq (slice_cmp nat_cmp x y)
key_test w x y e = is_eq-slice_cmp w y ∙ nat_list_eq_equiv.congr w x y (sym (is_eq-slice_cmp w x) ∙ e) ∙ sym (is_eq-slice_cmp x y)

none_at : (p : Declared → Bool) (xs : List Declared) → ltb (position_or_len p xs) (length xs) ≡ false → position p xs ≡ None
none_at p xs e = rw e refl

some_at : (p : Declared → Bool) (xs : List Declared) → ltb (position_or_len p xs) (length xs) ≡ true → position p xs ≡ Some (position_or_len p xs)
some_at p xs e = rw e refl

-- a name that isn't the new one
not_last : (objects : List Declared) (d : Declared) (w : List ℕ) → bytes_eq d.name w ≡ false → object_of (objects ++ d ∷ []) w ≡ object_of objects w
not_last objects d w ne = at (eqb n (length objects)) refl
  where
    p : Declared → Bool
    p x = bytes_eq x.name w

    n : ℕ
    n = position_or_len p objects

    within : n ≤ length objects
    within = prefix_len-le-length (λ x. not (p x)) objects

    long : length (objects ++ d ∷ []) ≡ length objects + 1
    long = length-append objects (d ∷ [])

    at : (b : Bool) → eqb n (length objects) ≡ b → object_of (objects ++ d ∷ []) w ≡ object_of objects w
    at true e =
        let all : n ≡ length objects = eqb-true _ _ e in
        let m-is : position_or_len p (objects ++ d ∷ []) ≡ length objects + 1 = position_or_len_push p objects d ∙ rw (e, ne) refl in
        let past : ltb (position_or_len p (objects ++ d ∷ [])) (length (objects ++ d ∷ [])) ≡ false = le-ltb _ _ (omega (arith, m-is, long)) in
        let past_old : ltb n (length objects) ≡ false = le-ltb _ _ (omega (arith, all)) in
        none_at p (objects ++ d ∷ []) past ∙ sym (none_at p objects past_old)
    at false e =
        let some = eqb-false _ _ e in
        let m-is : position_or_len p (objects ++ d ∷ []) ≡ n = position_or_len_push p objects d ∙ rw e refl in
        let lt : n < length objects = omega (arith, within, some) in
        some_at p (objects ++ d ∷ []) (lt-ltb _ _ (omega (arith, m-is, long))) ∙ ap (λ (k : ℕ). Some k) m-is ∙ sym (some_at p objects (lt-ltb _ _ lt))

pub index_more : (m n : BTreeMap (Vec ℕ) ℕ) (objects : List Declared) (d : Declared) (key : Vec ℕ) (number : ℕ) → number ≡ length objects → key.items ≡ d.name → UpdatesBy (λ (x y : Vec ℕ). slice_cmp nat_cmp x.items y.items) (λ k. slice_cmp nat_cmp key.items k.items) m n (Some number) → object_of objects d.name ≡ None → IsIndex m objects → IsIndex n (objects ++ d ∷ [])
index_more m n objects d key number number-is name-is h new old w =
    elim (cases_Bool (bytes_eq key.items w)) [
      | inl y ↦
          let w-is : w ≡ d.name = sym ((bytes_decides key.items w).0 y) ∙ name-is in
          let Found : List ℕ → List ℕ → Type 0 = λ v u. get_by (λ k. slice_cmp nat_cmp v k.items) n ≡ object_of (objects ++ d ∷ []) u in
          subst (λ v. Found v v) (sym w-is) (subst (λ v. Found v d.name) name-is (h.1 ∙ ap (λ (k : ℕ). Some k) number-is ∙ sym (here objects [] d new)))
      | inr ne ↦ other_entries _ _ _ _ h.3 _ (λ x y. key_test w x.items y.items) (λ k. apart key.items w k.items ne) ∙ old w ∙ sym (not_last objects d w (subst (λ (v : List ℕ). bytes_eq v w ≡ false) name-is ne))
    ]
