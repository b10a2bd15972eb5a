-- The words of a description are read as what they were printed of, and as nothing else.
use Rattle.std.proofs.Common.{◌≡◌, ◌⊎◌, Bool, true, false, ◌&&◌, cond, leb, ℕ, ◌≤◌, ◌^◌, List, [], ◌∷◌, Option, Some, None, Result, Ok, Err, codes, refl, sym, ap, ◌∙◌, inl, inr, arith}
use Rattle.std.specs.Str.{bytes_eq}
use Rattle.std.specs.Fmt.{decimal}
use Rattle.std.proofs.lemmas.Bool.{and_parts, and_from, leb-true, le-leb, lt-ltb}
use Rattle.std.proofs.lemmas.Slice.Eq.{bytes_eq-Decides}
use Rattle.op_table.specs.declared.order.StepSet.{StepSet}
use Rattle.op_table.specs.declared.kind.Width.TheVariants.{W32}
use Rattle.op_table.specs.declared.value.ValueFault.{ValueFault}
use Rattle.op_table.specs.Words.{among, integer}
use Rattle.op_table.specs.Value.{parsed_value, value_text}
use Rattle.op_table.proofs.Tables.{among_rows_by}
use Rattle.op_table.proofs.Digits.{chosen}
use Rattle.op_table.proofs.ValueTexts.{printed_is_read, value_has_one_text}
use Rattle.target_desc.specs.declared.target.Target.{Target}
use Rattle.target_desc.specs.Target.{IsSection, suits_section}
use Rattle.target_desc.specs.Fields.{packed_word, steps_word, section_word, bits_of, packed_of, step_sets, steps_of, locks_in, locks_of, section_of}

some_is : {A : Type 0} (x y : A) → Some x ≡ Some y → x ≡ y
some_is x y e = cc

none_some : {A : Type 0} {x : A} → ◌≡◌ {A = Option A} None (Some x) → ⊥
none_some e = cc

is_word : (xs ys : List ℕ) → bytes_eq xs ys ≡ true → xs ≡ ys
is_word xs ys h = (bytes_eq-Decides xs ys).0 h

-- ---- numbers

pub number_text : (n : ℕ) → n ≤ 67 → value_text (integer false W32) n ≡ decimal n
unfolding value_text
number_text n small = rw (lt-ltb n (2 ^ 32) (omega arith)) refl

thirty_two : codes "32" ≡ decimal 32
unfolding parsed_value
thirty_two = value_has_one_text (integer false W32) (codes "32") 32 (λ e. cc) refl ∙ number_text 32 (omega arith)

sixty_four : codes "64" ≡ decimal 64
unfolding parsed_value
sixty_four = value_has_one_text (integer false W32) (codes "64") 64 (λ e. cc) refl ∙ number_text 64 (omega arith)

-- ---- bits of a word

pub bits_word : (w : List ℕ) (n : ℕ) → bits_of w ≡ Some n → ((n ≡ 32) ⊎ (n ≡ 64)) × (w ≡ decimal n)
bits_word w n e = elim (chosen (bytes_eq w (codes "32")) (Some 32) (among ((codes "64", 64) ∷ []) w) (Some n) e) [
  | inl t ↦ let n-is : n ≡ 32 = sym (some_is 32 n t.1) in (inl n-is, is_word w (codes "32") t.0 ∙ thirty_two ∙ ap decimal (sym n-is))
  | inr f ↦ elim (chosen (bytes_eq w (codes "64")) (Some 64) None (Some n) f.1) [
    | inl t ↦ let n-is : n ≡ 64 = sym (some_is 64 n t.1) in (inr n-is, is_word w (codes "64") t.0 ∙ sixty_four ∙ ap decimal (sym n-is))
    | inr g ↦ absurd (none_some g.1)
  ]
]

pub bits_back : (n : ℕ) → (n ≡ 32) ⊎ (n ≡ 64) → bits_of (decimal n) ≡ Some n
bits_back n (inl e) = ap (λ (k : ℕ). bits_of (decimal k)) e ∙ ap bits_of (sym thirty_two) ∙ ap Some (sym e)
bits_back n (inr e) = ap (λ (k : ℕ). bits_of (decimal k)) e ∙ ap bits_of (sym sixty_four) ∙ ap Some (sym e)

-- ---- packed

pub packed_is : (w : List ℕ) (packed : Bool) → packed_of w ≡ Some packed → w ≡ packed_word packed
packed_is w packed e = among_rows_by packed_word (true ∷ false ∷ []) w packed e

pub packed_back : (packed : Bool) → packed_of (packed_word packed) ≡ Some packed
packed_back true = refl
packed_back false = refl

-- ---- steps

pub steps_is : (w : List ℕ) (steps : StepSet) → steps_of w ≡ Some steps → w ≡ steps_word steps
unfolding steps_of
steps_is w steps e = among_rows_by steps_word step_sets w steps e

steps_again : (swap add bits order : Bool) → steps_of (steps_word (record { swap = swap; add = add; bits = bits; order = order })) ≡ Some (record { swap = swap; add = add; bits = bits; order = order })
unfolding steps_of
steps_again false false false false = refl
steps_again false false false true = refl
steps_again false false true false = refl
steps_again false false true true = refl
steps_again false true false false = refl
steps_again false true false true = refl
steps_again false true true false = refl
steps_again false true true true = refl
steps_again true false false false = refl
steps_again true false false true = refl
steps_again true false true false = refl
steps_again true false true true = refl
steps_again true true false false = refl
steps_again true true false true = refl
steps_again true true true false = refl
steps_again true true true true = refl

pub steps_back : (steps : StepSet) → steps_of (steps_word steps) ≡ Some steps
steps_back steps = steps_again steps.swap steps.add steps.bits steps.order

-- ---- locks

pub locks_is : (w : List ℕ) (n : ℕ) → locks_of w ≡ Some n → (1 ≤ n) × (n ≤ 67) × (w ≡ decimal n)
locks_is w n e = by_value (parsed_value (integer false W32) w) refl e
  where
    by_value : (r : Result ℕ ValueFault) → parsed_value (integer false W32) w ≡ r → locks_in r ≡ Some n → (1 ≤ n) × (n ≤ 67) × (w ≡ decimal n)
    by_value (Err fault) is e = absurd cc
    by_value (Ok m) is e = elim (chosen (leb 1 m && leb m 67) (Some m) None (Some n) e) [
      | inl t ↦
          let m-is : m ≡ n = some_is m n t.1 in
          let parts = and_parts (leb 1 m) (leb m 67) t.0 in
          let some : 1 ≤ m = leb-true 1 m parts.0 in
          let most : m ≤ 67 = leb-true m 67 parts.1 in
          (omega (arith, m-is), omega (arith, m-is), value_has_one_text (integer false W32) w m (λ e. cc) is ∙ number_text m most ∙ ap decimal m-is)
      | inr f ↦ absurd (none_some f.1)
    ]

pub locks_back : (n : ℕ) → 1 ≤ n → n ≤ 67 → locks_of (decimal n) ≡ Some n
locks_back n some most =
    ap locks_of (sym (number_text n most))
    ∙ ap locks_in (printed_is_read (integer false W32) n (λ e. cc) (omega arith))
    ∙ ap (λ (b : Bool). cond b (Some n) None) (and_from _ _ (le-leb 1 n some) (le-leb n 67 most))

-- ---- section

pub suits_back : (t : Target) → IsSection t → suits_section t.packed t.steps t.locks ≡ true
suits_back t is = λ i. suits_section (is.apart i) (is.steps i) (is.locks i)

pub section_is : (packed : Bool) (steps : StepSet) (locks : ℕ) (w : List ℕ) (section : Bool) → section_of packed steps locks w ≡ Some section
    → (w ≡ section_word section) × (section ≡ true → suits_section packed steps locks ≡ true)
section_is packed steps locks w section e = elim (chosen (bytes_eq w (codes "locks")) (Some false) (cond (bytes_eq w (codes "section") && suits_section packed steps locks) (Some true) None) (Some section) e) [
  | inl t ↦ let is : false ≡ section = some_is false section t.1 in (is_word w (codes "locks") t.0 ∙ ap section_word is, λ yes. absurd (false_true (is ∙ yes)))
  | inr f ↦ elim (chosen (bytes_eq w (codes "section") && suits_section packed steps locks) (Some true) None (Some section) f.1) [
    | inl t ↦ let parts = and_parts (bytes_eq w (codes "section")) (suits_section packed steps locks) t.0 in (is_word w (codes "section") parts.0 ∙ ap section_word (some_is true section t.1), λ yes. parts.1)
    | inr g ↦ absurd (none_some g.1)
  ]
]
  where
    false_true : false ≡ true → ⊥
    false_true e = cc

pub section_back : (packed : Bool) (steps : StepSet) (locks : ℕ) (section : Bool) → (section ≡ true → suits_section packed steps locks ≡ true) → section_of packed steps locks (section_word section) ≡ Some section
section_back packed steps locks false suits = refl
section_back packed steps locks true suits = rw (suits refl) refl
