-- An object is found by its name.
use Rattle.std.proofs.Common.{◌≡◌, ℕ, zero, suc, ◌+◌, ◌<◌, ltb, Bool, true, false, not, ◌&&◌, List, [], ◌∷◌, ◌++◌, length, Some, None, refl, sym, ap, subst, ◌∙◌, arith, append_assoc, inl, inr}
use Rattle.std.specs.Prelude.{slice_get, codes}
use Rattle.std.specs.List.{position_or_len, list_all}
use Rattle.std.specs.Str.{bytes_eq}
use Rattle.std.proofs.lemmas.Slice.Eq.{bytes_eq-Decides}
use Rattle.std.proofs.lemmas.Bool.{cases_Bool, lt-ltb, and_parts, not-true}
use Rattle.std.proofs.lemmas.List.{length-append}
use Rattle.place_core.specs.declared.name.Declared.{Declared}
use Rattle.place_core.specs.Name.{is_lower, is_name_byte, is_name}
use Rattle.work_lang.specs.Workload.{object_of, AreDeclared}

none_passes : (p : Declared → Bool) (before after : List Declared) (x : Declared) → (position_or_len p before < length before → ⊥) → p x ≡ true → position_or_len p (before ++ x ∷ after) ≡ length before
none_passes p [] after x never e = rw e refl
none_passes p (y ∷ ys) after x never e = at (p y) refl (none_passes p ys after x)
  where
    at : (b : Bool) → p y ≡ b → ((position_or_len p ys < length ys → ⊥) → p x ≡ true → position_or_len p (ys ++ x ∷ after) ≡ length ys) → position_or_len p ((y ∷ ys) ++ x ∷ after) ≡ length (y ∷ ys)
    at true h again =
        let z : position_or_len p (y ∷ ys) ≡ 0 = rw h refl in
        absurd (never (omega (arith, z)))
    at false h again =
        let z : position_or_len p (y ∷ ys) ≡ suc (position_or_len p ys) = rw h (omega arith) in
        let rest = again (λ lt. never (omega (arith, z))) e in
        let v : position_or_len p ((y ∷ ys) ++ x ∷ after) ≡ suc (position_or_len p (ys ++ x ∷ after)) = rw h (omega arith) in
        omega (arith, rest, v)

not_there : (objects : List Declared) (w : List ℕ) → object_of objects w ≡ None → position_or_len (λ d. bytes_eq d.name w) objects < length objects → ⊥
not_there objects w e lt = some_none (sym (by_test (lt-ltb _ _ lt)) ∙ e)
  where
    by_test : ltb (position_or_len (λ d. bytes_eq d.name w) objects) (length objects) ≡ true → object_of objects w ≡ Some (position_or_len (λ d. bytes_eq d.name w) objects)
    by_test h = rw h refl

    some_none : {x : ℕ} → Some x ≡ None → ⊥
    some_none h = cc

pub here : (before after : List Declared) (x : Declared) → object_of before x.name ≡ None → object_of (before ++ x ∷ after) x.name ≡ Some (length before)
here before after x none =
    let at = none_passes (λ d. bytes_eq d.name x.name) before after x (not_there before x.name none) ((bytes_eq-Decides x.name x.name).1 refl) in
    let lt : ltb (length before) (length (before ++ x ∷ after)) ≡ true = lt-ltb _ _ (omega (arith, length-append before (x ∷ after))) in
    rw (at, lt) refl

pub named_again : (before objects : List Declared) → AreDeclared before objects → (k : ℕ) (d : Declared) → slice_get objects k ≡ Some d → object_of (before ++ objects) d.name ≡ Some (length before + k)
named_again before [] all k d e = absurd cc
named_again before (x ∷ xs) all zero d e =
    let d-is : x ≡ d = cc in
    subst (λ (y : Declared). object_of (before ++ x ∷ xs) y.name ≡ Some (length before + 0)) d-is (here before xs x all.1 ∙ ap (λ (n : ℕ). Some n) (omega arith))
named_again before (x ∷ xs) all (suc k) d e =
    let rest = named_again (before ++ x ∷ []) xs all.2 k d e in
    let lists : (before ++ x ∷ []) ++ xs ≡ before ++ x ∷ xs = append_assoc before (x ∷ []) xs in
    let n-is : length (before ++ x ∷ []) + k ≡ length before + suc k = omega (arith, length-append before (x ∷ [])) in
    subst (λ (objects : List Declared). object_of objects d.name ≡ Some (length before + suc k)) lists (rest ∙ ap (λ (n : ℕ). Some n) n-is)

pub declared_is_name : (before objects : List Declared) → AreDeclared before objects → (k : ℕ) (d : Declared) → slice_get objects k ≡ Some d → is_name d.name ≡ true
declared_is_name before [] all k d e = absurd cc
declared_is_name before (x ∷ xs) all zero d e =
    let d-is : x ≡ d = cc in
    subst (λ (y : Declared). is_name y.name ≡ true) d-is all.0
declared_is_name before (x ∷ xs) all (suc k) d e = declared_is_name (before ++ x ∷ []) xs all.2 k d e

pub name_is_not_end : (w : List ℕ) → is_name w ≡ true → bytes_eq w (codes "end") ≡ false
name_is_not_end [] h = absurd cc
name_is_not_end (b ∷ bs) h =
    let parts = and_parts (is_lower b && list_all is_name_byte bs && ltb (length bs) 16) (not (bytes_eq (b ∷ bs) (codes "end"))) h in
    not-true (bytes_eq (b ∷ bs) (codes "end")) parts.1

some_word : (w : List ℕ) → bytes_eq w (codes "repeat:") ≡ true → is_name w ≡ false
some_word w e = ap is_name ((bytes_eq-Decides w (codes "repeat:")).0 e)

-- a name has no colon
pub name_is_not_repeat : (w : List ℕ) → is_name w ≡ true → bytes_eq w (codes "repeat:") ≡ false
name_is_not_repeat w h =
    elim (cases_Bool (bytes_eq w (codes "repeat:"))) [
      | inl e ↦ absurd (true_false (sym h ∙ some_word w e))
      | inr e ↦ e
    ]
  where
    true_false : true ≡ false → ⊥
    true_false e = cc
