-- Words are read as a target exactly where they say it.
use Rattle.std.proofs.Common.{◌≡◌, Bool, true, false, eqb, ℕ, ◌+◌, List, [], ◌∷◌, length, Result, Ok, Err, refl, sym, ap, subst, ◌∙◌, inl, inr}
use Rattle.std.specs.Prelude.{IfOk}
use Rattle.std.specs.Fmt.{decimal}
use Rattle.std.proofs.lemmas.Bool.{eqb-true}
use Rattle.std.proofs.lemmas.List.{nil_from_length}
use Rattle.line_words.specs.Cursor.{Cursor, at_end}
use Rattle.line_words.specs.Steps.{Gives}
use Rattle.op_table.proofs.Digits.{chosen}
use Rattle.target_desc.specs.declared.target.Target.{Target}
use Rattle.target_desc.specs.declared.reading.TargetFault.{TargetFault}
use Rattle.target_desc.specs.Target.{IsTarget, IsOfVersion, builtin_of}
use Rattle.target_desc.specs.Fields.{bits_of, packed_of, steps_of, locks_of, section_of, packed_word, steps_word, section_word, big_words}
use Rattle.target_desc.specs.Reading.{word_at, some_or, need_at, description_at, target_at}
use Rattle.target_desc.specs.Text.{description_words}
use Rattle.target_desc.specs.Spelling.{IsName, IsTargetText}
use Rattle.target_desc.specs.Laws.{ReadingIsSpelling, ReadIsTarget, SpellsOne}
use Rattle.target_desc.proofs.Steps.{word_then, need_then, need_is, big_then, big_back}
use Rattle.target_desc.proofs.Rows.{builtin_is_name, builtin_named, suits_is, named_is_target, named_is_of_version}
use Rattle.target_desc.proofs.Described.{bits_word, bits_back, packed_is, packed_back, steps_is, steps_back, locks_is, locks_back, suits_back, section_is, section_back}

ok_is : (s t : Target) → ◌≡◌ {A = Result Target TargetFault} (Ok s) (Ok t) → s ≡ t
ok_is s t e = cc

described : (version : ℕ) (first : List ℕ) (c : Cursor) (t : Target) → description_at version first c ≡ Ok t → IsTarget t × IsOfVersion version t × (first ∷ c.left ≡ description_words t)
unfolding description_at
described version first c t e =
    let bits = need_then c (bits_of first) _ t e in
    let p = word_then c _ t bits.2 in
    let packed = need_then _ (packed_of p.0) _ t p.3 in
    let s = word_then _ _ t packed.2 in
    let steps = need_then _ (steps_of s.0) _ t s.3 in
    let l = word_then _ _ t steps.2 in
    let locks = need_then _ (locks_of l.0) _ t l.3 in
    let k = word_then _ _ t locks.2 in
    let section = need_then _ (section_of packed.0 steps.0 locks.0 k.0) _ t k.3 in
    let big = big_then version packed.0 _ k.1 _ t section.2 in
    let made : Target = record { word_bits = bits.0; packed = packed.0; steps = steps.0; locks = locks.0; section = section.0; big = big.0 } in
    let bits-is = bits_word first bits.0 bits.1 in
    let packed-is = packed_is p.0 packed.0 packed.1 in
    let steps-is = steps_is s.0 steps.0 steps.1 in
    let locks-is = locks_is l.0 locks.0 locks.1 in
    let section-is = section_is packed.0 steps.0 locks.0 k.0 section.0 section.1 in
    let left-is : c.left ≡ p.0 ∷ s.0 ∷ l.0 ∷ k.0 ∷ big_words big.0 = p.2 ∙ ap (λ (ws : List (List ℕ)). p.0 ∷ ws) (s.2 ∙ ap (λ (ws : List (List ℕ)). s.0 ∷ ws) (l.2 ∙ ap (λ (ws : List (List ℕ)). l.0 ∷ ws) (k.2 ∙ ap (λ (ws : List (List ℕ)). k.0 ∷ ws) big.1))) in
    let is : IsTarget made = record { bits = bits-is.0; some = locks-is.0; most = locks-is.1; section = λ yes. suits_is made (section-is.1 yes); big = big.2 } in
    let words : first ∷ c.left ≡ description_words made = (λ i. bits-is.1 i ∷ left-is i) ∙ (λ i. decimal bits.0 ∷ packed-is i ∷ steps-is i ∷ locks-is.2 i ∷ section-is.0 i ∷ big_words big.0) in
    subst (λ (u : Target). IsTarget u × IsOfVersion version u × (first ∷ c.left ≡ description_words u)) (ok_is made t big.4) (is, big.3, words)

read_says : (version : ℕ) (c : Cursor) (t : Target) → target_at version c ≡ Ok t → IsTargetText version c.left t
unfolding target_at
read_says version c t e =
    let first = word_then c _ t e in
    elim (chosen (eqb (length first.1) 0) (need_at (record { taken = c.taken + 1; left = first.1 }) (builtin_of first.0)) (description_at version first.0 (record { taken = c.taken + 1; left = first.1 })) (Ok t) first.3) [
      | inl one ↦ inl (first.0, first.2 ∙ ap (λ (ws : List (List ℕ)). first.0 ∷ ws) (nil_from_length first.1 (eqb-true _ _ one.0)), (builtin_is_name first.0 t).0 (need_is (record { taken = c.taken + 1; left = first.1 }) (builtin_of first.0) t one.1))
      | inr more ↦ let d = described version first.0 (record { taken = c.taken + 1; left = first.1 }) t more.1 in inr (d.0, d.1, first.2 ∙ d.2)
    ]

name_again : (version k : ℕ) (name : List ℕ) (t : Target) → IsName name t → target_at version (record { taken = k; left = name ∷ [] }) ≡ Ok t
unfolding target_at word_at need_at
name_again version k name t is = ap (some_or (k + 1)) (builtin_named name t is)

more_words : (k : ℕ) (a b c d : List ℕ) (big : Bool) → at_end (record { taken = k; left = a ∷ b ∷ c ∷ d ∷ big_words big }) ≡ false
more_words k a b c d true = refl
more_words k a b c d false = refl

description_again : (version k : ℕ) (t : Target) → IsTarget t → IsOfVersion version t → target_at version (record { taken = k; left = description_words t }) ≡ Ok t
unfolding target_at description_at word_at need_at
description_again version k t is of =
    rw (more_words (k + 1) (packed_word t.packed) (steps_word t.steps) (decimal t.locks) (section_word t.section) t.big, bits_back t.word_bits is.bits, packed_back t.packed, steps_back t.steps, locks_back t.locks is.some is.most, section_back t.packed t.steps t.locks t.section (λ yes. suits_back t (is.section yes)), big_back version t.packed t.big (k + 1 + 1 + 1 + 1 + 1) is.big of) refl

says_read : (version : ℕ) (c : Cursor) (t : Target) → IsTargetText version c.left t → target_at version c ≡ Ok t
says_read version c t (inl n) = ap (λ (ws : List (List ℕ)). target_at version (record { taken = c.taken; left = ws })) n.1 ∙ name_again version c.taken n.0 t n.2
says_read version c t (inr d) = ap (λ (ws : List (List ℕ)). target_at version (record { taken = c.taken; left = ws })) d.2 ∙ description_again version c.taken t d.0 d.1

pub reading_is_spelling : ReadingIsSpelling
reading_is_spelling version c t = (read_says version c t, says_read version c t)

says_target : (version : ℕ) (words : List (List ℕ)) (t : Target) → IsTargetText version words t → IsTarget t × IsOfVersion version t
says_target version words t (inl n) = (named_is_target n.0 t n.2, named_is_of_version version n.0 t n.2)
says_target version words t (inr d) = (d.0, d.1)

pub read_is_target : ReadIsTarget
read_is_target version c t e = says_target version c.left t (read_says version c t e)

-- what a function gives is a target of the version
pub given_is_target : (version : ℕ) (c : Cursor) (r : Result Target TargetFault) → Gives (λ x. x) r (target_at version c) → IfOk r (λ t. IsTarget t × IsOfVersion version t)
given_is_target version c (Ok t) e = read_is_target version c t e
given_is_target version c (Err fault) e = tt

-- version 2 says what any version says
in_second : (version : ℕ) (words : List (List ℕ)) (t : Target) → IsTargetText version words t → IsTargetText 2 words t
in_second version words t (inl n) = inl n
in_second version words t (inr d) = inr (d.0, (λ is. refl), d.2)

pub spells_one : SpellsOne
spells_one v w words s t a b =
    let c : Cursor = record { taken = 1; left = words } in
    ok_is s t (sym (says_read 2 c s (in_second v words s a)) ∙ says_read 2 c t (in_second w words t b))
