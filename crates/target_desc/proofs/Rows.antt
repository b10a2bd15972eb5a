-- Rows of the table of built-in targets, and the names of targets. Each fact of all rows is a test that the table passes.
use Rattle.std.proofs.Common.{◌≡◌, ◌⊎◌, Bool, true, false, not, ◌&&◌, ◌||◌, cond, leb, eqb, ℕ, ◌+◌, ◌<◌, List, [], ◌∷◌, length, map, drop, get_or, Option, Some, None, refl, sym, ap, ◌∙◌, inl, inr}
use Rattle.std.proofs.Math.Bool.{beq}
use Rattle.std.specs.Str.{bytes_eq}
use Rattle.std.specs.List.{list_all, AllByRecursion}
use Rattle.std.proofs.lemmas.Bool.{and_parts, eqb-true, leb-true}
use Rattle.std.proofs.lemmas.List.{at_drop_more}
use Rattle.std.proofs.lemmas.Slice.Eq.{bytes_eq-Decides}
use Rattle.op_table.specs.declared.order.StepSet.{StepSet}
use Rattle.op_table.specs.Words.{among}
use Rattle.op_table.specs.Limits.{most_locks}
use Rattle.target_desc.specs.declared.target.Target.{Target}
use Rattle.target_desc.specs.Target.{no_steps, IsSection, IsTarget, same_bool, same_steps, same_target, suits_section, builtins, builtin_of, name_among, name_of}
use Rattle.target_desc.specs.Spelling.{HasRow, IsName}
use Rattle.target_desc.specs.Laws.{BuiltinIsName, NamedIsTarget, NamedIsOfVersion}

-- ---- equal targets

same_bools : (a b : Bool) → same_bool a b ≡ true → a ≡ b
same_bools true true e = refl
same_bools true false e = sym e
same_bools false true e = e
same_bools false false e = refl

pub steps_are_same : (a b : StepSet) → same_steps a b ≡ true → a ≡ b
steps_are_same a b e =
    let swap = and_parts (same_bool a.swap b.swap) _ e in
    let add = and_parts (same_bool a.add b.add) _ swap.1 in
    let bits = and_parts (same_bool a.bits b.bits) (same_bool a.order b.order) add.1 in
    let swap-is = same_bools a.swap b.swap swap.0 in
    let add-is = same_bools a.add b.add add.0 in
    let bits-is = same_bools a.bits b.bits bits.0 in
    let order-is = same_bools a.order b.order bits.1 in
    λ i. record { swap = swap-is i; add = add-is i; bits = bits-is i; order = order-is i }

targets_are_same : (s t : Target) → same_target s t ≡ true → s ≡ t
targets_are_same s t e =
    let bits = and_parts (eqb s.word_bits t.word_bits) _ e in
    let packed = and_parts (same_bool s.packed t.packed) _ bits.1 in
    let steps = and_parts (same_steps s.steps t.steps) _ packed.1 in
    let locks = and_parts (eqb s.locks t.locks) _ steps.1 in
    let section = and_parts (same_bool s.section t.section) (same_bool s.big t.big) locks.1 in
    let bits-is = eqb-true s.word_bits t.word_bits bits.0 in
    let packed-is = same_bools s.packed t.packed packed.0 in
    let steps-is = steps_are_same s.steps t.steps steps.0 in
    let locks-is = eqb-true s.locks t.locks locks.0 in
    let section-is = same_bools s.section t.section section.0 in
    let big-is = same_bools s.big t.big section.1 in
    λ i. record { word_bits = bits-is i; packed = packed-is i; steps = steps-is i; locks = locks-is i; section = section-is i; big = big-is i }

-- Rust's own test of two flags
flags : (a b : Bool) → beq a b ≡ same_bool a b
flags true true = refl
flags true false = refl
flags false true = refl
flags false false = refl

-- Rust's own test of two targets
pub tests_same : (s t : Target) → eqb s.word_bits t.word_bits && (beq s.packed t.packed && ((beq s.steps.swap t.steps.swap && (beq s.steps.add t.steps.add && (beq s.steps.bits t.steps.bits && beq s.steps.order t.steps.order))) && (eqb s.locks t.locks && (beq s.section t.section && beq s.big t.big)))) ≡ same_target s t
tests_same s t = rw (flags s.packed t.packed, flags s.steps.swap t.steps.swap, flags s.steps.add t.steps.add, flags s.steps.bits t.steps.bits, flags s.steps.order t.steps.order, flags s.section t.section, flags s.big t.big) refl

-- ---- names

inside : {A : Type 0} (x y : A) → Some x ≡ Some y → x ≡ y
inside x y e = cc

row_of_word : {A : Type 0} (rows : List (List ℕ × A)) (w : List ℕ) (x : A) → among rows w ≡ Some x → HasRow rows w x
row_of_word [] w x e = absurd cc
row_of_word (row ∷ rows) w x e = by_test (bytes_eq w row.0) refl e (row_of_word rows w x)
  where
    by_test : (b : Bool) → bytes_eq w row.0 ≡ b → cond b (Some row.1) (among rows w) ≡ Some x → (among rows w ≡ Some x → HasRow rows w x) → HasRow (row ∷ rows) w x
    by_test true same e later = inl ((bytes_eq-Decides w row.0).0 same, sym (inside _ _ e))
    by_test false other e later = inr (later e)

row_of_name : (rows : List (List ℕ × Target)) (t : Target) (name : List ℕ) → name_among rows t ≡ Some name → HasRow rows name t
row_of_name [] t name e = absurd cc
row_of_name (row ∷ rows) t name e = by_test (same_target t row.1) refl e (row_of_name rows t name)
  where
    by_test : (b : Bool) → same_target t row.1 ≡ b → cond b (Some row.0) (name_among rows t) ≡ Some name → (name_among rows t ≡ Some name → HasRow rows name t) → HasRow (row ∷ rows) name t
    by_test true same e later = inl (sym (inside _ _ e), targets_are_same t row.1 same)
    by_test false other e later = inr (later e)

-- what a test says of each row of the table
pub row_passes : (test : List ℕ × Target → Bool) (rows : List (List ℕ × Target)) → list_all test rows ≡ true → (name : List ℕ) (t : Target) → HasRow rows name t → test (name, t) ≡ true
row_passes test [] all name t none = absurd none
row_passes test (row ∷ rows) all name t (inl is) = (λ i. test (is.0 i, is.1 i)) ∙ (and_parts (test row) (list_all test rows) all).0
row_passes test (row ∷ rows) all name t (inr later) = row_passes test rows (and_parts (test row) (list_all test rows) all).1 name t later

-- what holds of each name and its target holds of each row
pub all_rows : (P : List ℕ × Target → Type 0) (rows : List (List ℕ × Target)) → ((name : List ℕ) (t : Target) → HasRow rows name t → P (name, t)) → AllByRecursion P rows
all_rows P [] each = tt
all_rows P (row ∷ rows) each = (each row.0 row.1 (inl (refl, refl)), all_rows P rows (λ name t is. each name t (inr is)))

abbrev gives : {A : Type 0} → (A → A → Bool) → Option A → A → Bool
gives same None x = false
gives same (Some y) x = same y x

gives_it : {A : Type 0} (same : A → A → Bool) (are : (y x : A) → same y x ≡ true → y ≡ x) (o : Option A) (x : A) → gives same o x ≡ true → o ≡ Some x
gives_it same are None x e = absurd cc
gives_it same are (Some y) x e = ap Some (are y x e)

pub builtin_named : (name : List ℕ) (t : Target) → IsName name t → builtin_of name ≡ Some t
builtin_named name t is = gives_it same_target targets_are_same (builtin_of name) t (row_passes (λ row. gives same_target (builtin_of row.0) row.1) builtins refl name t is)

pub name_named : (name : List ℕ) (t : Target) → IsName name t → name_of t ≡ Some name
name_named name t is = gives_it bytes_eq (λ v w. (bytes_eq-Decides v w).0) (name_of t) name (row_passes (λ row. gives bytes_eq (name_of row.1) row.0) builtins refl name t is)

pub builtin_is_name : BuiltinIsName
builtin_is_name name t = (row_of_word builtins name t, builtin_named name t)

pub name_is_name : (name : List ℕ) (t : Target) → name_of t ≡ Some name → IsName name t
name_is_name name t e = row_of_name builtins t name e

-- ---- they are targets

not_true : (b : Bool) → not b ≡ true → b ≡ false
not_true true e = sym e
not_true false e = refl

pub suits_is : (t : Target) → suits_section t.packed t.steps t.locks ≡ true → IsSection t
suits_is t e =
    let locks = and_parts (not t.packed && same_steps t.steps no_steps) (eqb t.locks 1) e in
    let packed = and_parts (not t.packed) (same_steps t.steps no_steps) locks.0 in
    record { apart = not_true t.packed packed.0; steps = steps_are_same t.steps no_steps packed.1; locks = eqb-true t.locks 1 locks.1 }

abbrev suits : Bool → Target → Bool
suits true t = suits_section t.packed t.steps t.locks
suits false t = true

abbrev is_target : Target → Bool
is_target t = (eqb t.word_bits 32 || eqb t.word_bits 64) && (leb 1 t.locks && (leb t.locks most_locks && (suits t.section t && not t.big)))

passed_is : (t : Target) → is_target t ≡ true → IsTarget t
passed_is t e =
    let bits = and_parts (eqb t.word_bits 32 || eqb t.word_bits 64) (leb 1 t.locks && (leb t.locks most_locks && (suits t.section t && not t.big))) e in
    let some = and_parts (leb 1 t.locks) (leb t.locks most_locks && (suits t.section t && not t.big)) bits.1 in
    let most = and_parts (leb t.locks most_locks) (suits t.section t && not t.big) some.1 in
    let section = and_parts (suits t.section t) (not t.big) most.1 in
    record {
      bits = widths (eqb t.word_bits 32) refl bits.0;
      some = leb-true 1 t.locks some.0;
      most = leb-true t.locks most_locks most.0;
      section = λ is. suits_is t (ap (λ (b : Bool). suits b t) (sym is) ∙ section.0);
      big = λ is. let no = not_true t.big section.1 in absurd cc;
    }
  where
    widths : (b : Bool) → eqb t.word_bits 32 ≡ b → (b || eqb t.word_bits 64) ≡ true → (t.word_bits ≡ 32) ⊎ (t.word_bits ≡ 64)
    widths true is e = inl (eqb-true t.word_bits 32 is)
    widths false is e = inr (eqb-true t.word_bits 64 e)

pub named_is_target : NamedIsTarget
named_is_target name t is = passed_is t (row_passes (λ row. is_target row.1) builtins refl name t is)

pub named_is_of_version : NamedIsOfVersion
named_is_of_version version name t is big = let no = not_true t.big (row_passes (λ row. not row.1.big) builtins refl name t is) in absurd cc

-- ---- searching the table, row by row

-- the row at index i is the one that is looked for, or the search goes on behind it
module _ {R : Type 0} (row_of : R → List ℕ × Target) (rows : List R) (i : ℕ) (default : R) (within : i < length rows) where
  abbrev row : List ℕ × Target
  row = row_of (get_or rows i default)

  pub named_at : (name word : List ℕ) (same : Bool) → word ≡ row.0 → same ≡ bytes_eq name word
      → among (map row_of (drop i rows)) name ≡ cond same (Some row.1) (among (map row_of (drop (i + 1) rows)) name)
  named_at name word same is test =
      at_drop_more (λ l. among (map row_of l) name) rows i default within
      ∙ ap (λ (b : Bool). cond b (Some row.1) (among (map row_of (drop (i + 1) rows)) name)) (ap (bytes_eq name) (sym is) ∙ sym test)

  pub name_at : (t : Target) (same : Bool) → same ≡ same_target t row.1
      → name_among (map row_of (drop i rows)) t ≡ cond same (Some row.0) (name_among (map row_of (drop (i + 1) rows)) t)
  name_at t same test =
      at_drop_more (λ l. name_among (map row_of l) t) rows i default within
      ∙ ap (λ (b : Bool). cond b (Some row.0) (name_among (map row_of (drop (i + 1) rows)) t)) (sym test)
