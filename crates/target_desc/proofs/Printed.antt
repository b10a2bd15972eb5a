-- The text of a target: its words, how long it is, and that it is read again.
use Rattle.std.proofs.Common.{◌≡◌, ◌⊎◌, Bool, true, false, ◌&&◌, ltb, leb, eqb, ℕ, ◌+◌, ◌≤◌, ◌<◌, List, [], ◌∷◌, ◌++◌, length, codes, Option, Some, None, refl, ap, subst, ◌∙◌, inl, inr, arith, length-append}
use Rattle.std.specs.Prelude.{filter}
use Rattle.std.specs.List.{list_all, slice_split, join_with_byte, AllByRecursion}
use Rattle.std.specs.Fmt.{decimal}
use Rattle.std.proofs.lemmas.Bool.{and_parts, ltb-true, leb-true, lt-ltb, le-leb, and_from, ne_eqb}
use Rattle.std.proofs.lemmas.List.Elements.{All-from_recursion}
use Rattle.std.proofs.lemmas.List.Splits.{slice_split_none, slice_split_at}
use Rattle.std.proofs.lemmas.Fmt.{length-decimal-le}
use Rattle.line_words.specs.Text.{is_some_word, words_of}
use Rattle.op_table.specs.declared.kind.Width.TheVariants.{W32}
use Rattle.op_table.specs.declared.order.StepSet.{StepSet}
use Rattle.op_table.specs.Words.{integer}
use Rattle.op_table.specs.Laws.{is_word_byte, IsWordUpTo}
use Rattle.op_table.proofs.ValueTexts.{value_text_is_short}
use Rattle.target_desc.specs.declared.target.Target.{Target}
use Rattle.target_desc.specs.Target.{IsTarget, IsOfVersion, builtins, name_of}
use Rattle.target_desc.specs.Fields.{packed_word, steps_word, section_word, big_words}
use Rattle.target_desc.specs.Reading.{target_at, reading_of_target}
use Rattle.target_desc.specs.Text.{description_words, description_text, words_by, target_words}
use Rattle.target_desc.specs.Spelling.{IsName, IsTargetText}
use Rattle.target_desc.specs.Laws.{is_printable, PrintedIsRead, NameIsPrinted, DescriptionIsPrinted, TextIsShort, TextIsPrintable, WordsArePlain, TextHasWords}
use Rattle.target_desc.proofs.Rows.{row_passes, name_named, name_is_name}
use Rattle.target_desc.proofs.Described.{number_text}
use Rattle.target_desc.proofs.Readings.{reading_is_spelling}

-- ---- plain words

abbrev is_word_up_to : ℕ → List ℕ → Bool
is_word_up_to most text = ltb 0 (length text) && (leb (length text) most && list_all is_word_byte text)

tested : (most : ℕ) (text : List ℕ) → is_word_up_to most text ≡ true → IsWordUpTo most text
tested most text is =
    let outer = and_parts _ _ is in
    let inner = and_parts _ _ outer.1 in
    record { some = ltb-true _ _ outer.0; short = leb-true _ _ inner.0; plain = inner.1 }

pub longer : (low high : ℕ) (text : List ℕ) → low ≤ high → IsWordUpTo low text → IsWordUpTo high text
longer low high text more is = record { some = is.some; short = omega (arith, is.short); plain = is.plain }

packed_plain : (packed : Bool) → IsWordUpTo 6 (packed_word packed)
packed_plain true = tested 6 _ refl
packed_plain false = tested 6 _ refl

steps_test : (swap add bits order : Bool) → is_word_up_to 19 (steps_word (record { swap = swap; add = add; bits = bits; order = order })) ≡ true
steps_test false false false false = refl
steps_test false false false true = refl
steps_test false false true false = refl
steps_test false false true true = refl
steps_test false true false false = refl
steps_test false true false true = refl
steps_test false true true false = refl
steps_test false true true true = refl
steps_test true false false false = refl
steps_test true false false true = refl
steps_test true false true false = refl
steps_test true false true true = refl
steps_test true true false false = refl
steps_test true true false true = refl
steps_test true true true false = refl
steps_test true true true true = refl

steps_plain : (steps : StepSet) → IsWordUpTo 19 (steps_word steps)
steps_plain steps = tested 19 _ (steps_test steps.swap steps.add steps.bits steps.order)

section_plain : (section : Bool) → IsWordUpTo 7 (section_word section)
section_plain true = tested 7 _ refl
section_plain false = tested 7 _ refl

big_plain : (big : Bool) → AllByRecursion (IsWordUpTo 19) (big_words big)
big_plain true = (tested 19 _ refl, tt)
big_plain false = tt

number_plain : (n : ℕ) → n ≤ 67 → IsWordUpTo 2 (decimal n)
number_plain n most =
    let is = subst (IsWordUpTo 40) (number_text n most) (value_text_is_short (integer false W32) n (λ e. cc) (omega arith)) in
    record { some = is.some; short = length-decimal-le 2 n (omega arith) (omega arith) (omega arith); plain = is.plain }

bits_small : (n : ℕ) → (n ≡ 32) ⊎ (n ≡ 64) → n ≤ 67
bits_small n (inl e) = omega arith
bits_small n (inr e) = omega arith

pub name_plain : (name : List ℕ) (t : Target) → IsName name t → IsWordUpTo 9 name
name_plain name t is = tested 9 name (row_passes (λ row. is_word_up_to 9 row.0) builtins refl name t is)

-- ---- words of a text

pub no_spaces : (w : List ℕ) → list_all is_word_byte w ≡ true → AllByRecursion (λ b. eqb b 32 ≡ false) w
no_spaces [] plain = tt
no_spaces (b ∷ bs) plain =
    let parts = and_parts (is_word_byte b) (list_all is_word_byte bs) plain in
    let above = and_parts (ltb 32 b) (ltb b 127) parts.0 in
    (ne_eqb b 32 (λ e. omega (arith, ltb-true _ _ above.0)), no_spaces bs parts.1)

pub kept : (w : List ℕ) (ws : List (List ℕ)) → 0 < length w → filter is_some_word (w ∷ ws) ≡ w ∷ filter is_some_word ws
kept w ws some = rw (lt-ltb 0 (length w) some) refl

pub words_of_joined : (most : ℕ) (ws : List (List ℕ)) → AllByRecursion (IsWordUpTo most) ws → words_of (join_with_byte 32 ws) ≡ ws
unfolding words_of
words_of_joined most [] all = refl
words_of_joined most (w ∷ []) all =
    ap (filter is_some_word) (slice_split_none (λ b. eqb b 32) w (All-from_recursion _ w (no_spaces w all.0.plain))) ∙ kept w [] all.0.some
words_of_joined most (w ∷ v ∷ ws) all =
    ap (filter is_some_word) (slice_split_at (λ b. eqb b 32) w 32 (join_with_byte 32 (v ∷ ws)) (All-from_recursion _ w (no_spaces w all.0.plain)) refl)
    ∙ kept w (slice_split (λ b. eqb b 32) (join_with_byte 32 (v ∷ ws))) all.0.some
    ∙ ap (λ (x : List (List ℕ)). w ∷ x) (words_of_joined most (v ∷ ws) all.1)

pub word_prints : (w : List ℕ) → list_all is_word_byte w ≡ true → list_all is_printable w ≡ true
word_prints [] plain = refl
word_prints (b ∷ bs) plain =
    let parts = and_parts (is_word_byte b) (list_all is_word_byte bs) plain in
    let byte = and_parts (ltb 32 b) (ltb b 127) parts.0 in
    let low : 32 < b = ltb-true 32 b byte.0 in
    let high : b < 127 = ltb-true b 127 byte.1 in
    and_from _ _ (and_from _ _ (le-leb 32 b (omega arith)) (le-leb b 126 (omega arith))) (word_prints bs parts.1)

pub both_print : (xs ys : List ℕ) → list_all is_printable xs ≡ true → list_all is_printable ys ≡ true → list_all is_printable (xs ++ ys) ≡ true
both_print [] ys x y = y
both_print (b ∷ bs) ys x y =
    let parts = and_parts (is_printable b) (list_all is_printable bs) x in
    and_from _ _ parts.0 (both_print bs ys parts.1 y)

pub joined_prints : (most : ℕ) (ws : List (List ℕ)) → AllByRecursion (IsWordUpTo most) ws → list_all is_printable (join_with_byte 32 ws) ≡ true
joined_prints most [] all = refl
joined_prints most (w ∷ []) all = word_prints w all.0.plain
joined_prints most (w ∷ v ∷ ws) all = both_print w (32 ∷ join_with_byte 32 (v ∷ ws)) (word_prints w all.0.plain) (joined_prints most (v ∷ ws) all.1)

-- ---- the text of a target

-- what is printed, by whether there is a name
by_name : (t : Target) (P : List (List ℕ) → Type 0) → ((name : List ℕ) → IsName name t → P (name ∷ [])) → P (description_words t) → P (target_words t)
by_name t P named described = at (name_of t) refl
  where
    at : (o : Option (List ℕ)) → name_of t ≡ o → P (words_by o t)
    at None is = described
    at (Some name) is = named name (name_is_name name t is)

described_plain : (t : Target) → IsTarget t → AllByRecursion (IsWordUpTo 19) (description_words t)
described_plain t is = (
  longer 2 19 _ (omega arith) (number_plain t.word_bits (bits_small t.word_bits is.bits)),
  (longer 6 19 _ (omega arith) (packed_plain t.packed), (steps_plain t.steps, (longer 2 19 _ (omega arith) (number_plain t.locks is.most), (longer 7 19 _ (omega arith) (section_plain t.section), big_plain t.big)))),
)

pub words_are_plain : WordsArePlain
words_are_plain t is = by_name t (AllByRecursion (IsWordUpTo 19)) (λ name n. (longer 9 19 name (omega arith) (name_plain name t n), tt)) (described_plain t is)

pub text_has_words : TextHasWords
text_has_words t is = words_of_joined 19 (target_words t) (words_are_plain t is)

pub text_is_printable : TextIsPrintable
text_is_printable t is = joined_prints 19 (target_words t) (words_are_plain t is)

joined_five : (a b c d e : List ℕ) → length (join_with_byte 32 (a ∷ b ∷ c ∷ d ∷ e ∷ [])) ≡ length a + length b + length c + length d + length e + 4
joined_five a b c d e =
    omega (arith, length-append a (32 ∷ join_with_byte 32 (b ∷ c ∷ d ∷ e ∷ [])), length-append b (32 ∷ join_with_byte 32 (c ∷ d ∷ e ∷ [])), length-append c (32 ∷ join_with_byte 32 (d ∷ e ∷ [])), length-append d (32 ∷ e))

pub joined_six : (a b c d e f : List ℕ) → length (join_with_byte 32 (a ∷ b ∷ c ∷ d ∷ e ∷ f ∷ [])) ≡ length a + length b + length c + length d + length e + length f + 5
joined_six a b c d e f =
    omega (arith, joined_five b c d e f, length-append a (32 ∷ join_with_byte 32 (b ∷ c ∷ d ∷ e ∷ f ∷ [])))

joined_short : (a b c d e : List ℕ) (big : Bool) → length (join_with_byte 32 (a ∷ b ∷ c ∷ d ∷ e ∷ big_words big)) ≤ length a + length b + length c + length d + length e + 8
joined_short a b c d e true = omega (arith, joined_six a b c d e (codes "big"))
joined_short a b c d e false = omega (arith, joined_five a b c d e)

-- where `big` is printed
pub big_described : (t : Target) → t.big ≡ true
    → length (description_text t) ≡ length (decimal t.word_bits) + length (packed_word t.packed) + length (steps_word t.steps) + length (decimal t.locks) + length (section_word t.section) + 8
big_described t is =
    ap (λ (big : Bool). length (join_with_byte 32 (decimal t.word_bits ∷ packed_word t.packed ∷ steps_word t.steps ∷ decimal t.locks ∷ section_word t.section ∷ big_words big))) is
    ∙ omega (arith, joined_six (decimal t.word_bits) (packed_word t.packed) (steps_word t.steps) (decimal t.locks) (section_word t.section) (codes "big"))

pub described_short : (t : Target) → IsTarget t → length (description_text t) ≤ 44
described_short t is =
    omega (
      arith,
      joined_short (decimal t.word_bits) (packed_word t.packed) (steps_word t.steps) (decimal t.locks) (section_word t.section) t.big,
      (number_plain t.word_bits (bits_small t.word_bits is.bits)).short,
      (packed_plain t.packed).short,
      (steps_plain t.steps).short,
      (number_plain t.locks is.most).short,
      (section_plain t.section).short,
    )

pub text_is_short : TextIsShort
text_is_short t is = by_name t (λ ws. length (join_with_byte 32 ws) ≤ 44) (λ name n. omega (arith, (name_plain name t n).short)) (described_short t is)

pub says_itself : (version : ℕ) (t : Target) → IsTarget t → IsOfVersion version t → IsTargetText version (target_words t) t
says_itself version t is of = by_name t (λ ws. IsTargetText version ws t) (λ name n. inl (name, refl, n)) (inr (is, of, refl))

pub printed_is_read : PrintedIsRead
unfolding reading_of_target
printed_is_read version t is of =
    ap (λ (ws : List (List ℕ)). target_at version (record { taken = 1; left = ws })) (text_has_words t is)
    ∙ (reading_is_spelling version (record { taken = 1; left = target_words t }) t).1 (says_itself version t is of)

pub name_is_printed : NameIsPrinted
name_is_printed name t n = ap (λ (o : Option (List ℕ)). join_with_byte 32 (words_by o t)) (name_named name t n)

pub description_is_printed : DescriptionIsPrinted
description_is_printed t other = by_name t (λ ws. join_with_byte 32 ws ≡ description_text t) (λ name n. absurd (other name n)) refl
