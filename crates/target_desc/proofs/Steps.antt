-- What each step of reading took, where the target was read.
use Rattle.std.proofs.Common.{◌≡◌, Bool, true, false, ◌&&◌, cond, eqb, ℕ, ◌+◌, List, [], ◌∷◌, Option, Some, None, Result, Ok, codes, refl}
use Rattle.std.specs.Str.{bytes_eq}
use Rattle.std.proofs.lemmas.Bool.{and_parts, eqb-true}
use Rattle.std.proofs.lemmas.Slice.Eq.{bytes_eq-Decides}
use Rattle.line_words.specs.Cursor.{Cursor}
use Rattle.line_words.specs.Steps.{◌>>=◌}
use Rattle.target_desc.specs.declared.reading.TargetFault.{TargetFault}
use Rattle.target_desc.specs.Reading.{take_word, word_at, some_or, need_at, no_word, end_at, big_word_at, no_big_at, big_at}
use Rattle.target_desc.specs.Fields.{big_words}

word_then_by : {B : Type 0} (k : ℕ) (ws : List (List ℕ)) (f : List ℕ × Cursor → Result B TargetFault) (y : B) → (take_word k ws >>= f) ≡ Ok y
    → (w : List ℕ) × (rest : List (List ℕ)) × (ws ≡ w ∷ rest) × (f (w, record { taken = k + 1; left = rest }) ≡ Ok y)
word_then_by k [] f y e = absurd cc
word_then_by k (w ∷ ws) f y e = (w, ws, refl, e)

pub word_then : {B : Type 0} (c : Cursor) (f : List ℕ × Cursor → Result B TargetFault) (y : B) → (word_at c >>= f) ≡ Ok y
    → (w : List ℕ) × (rest : List (List ℕ)) × (c.left ≡ w ∷ rest) × (f (w, record { taken = c.taken + 1; left = rest }) ≡ Ok y)
unfolding word_at
word_then c f y e = word_then_by c.taken c.left f y e

end_then_by : {B : Type 0} (k : ℕ) (ws : List (List ℕ)) (f : Unit {0} → Result B TargetFault) (y : B) → (no_word k ws >>= f) ≡ Ok y → (ws ≡ []) × (f tt ≡ Ok y)
end_then_by k [] f y e = (refl, e)
end_then_by k (w ∷ ws) f y e = absurd cc

pub end_then : {B : Type 0} (c : Cursor) (f : Unit {0} → Result B TargetFault) (y : B) → (end_at c >>= f) ≡ Ok y → (c.left ≡ []) × (f tt ≡ Ok y)
unfolding end_at
end_then c f y e = end_then_by c.taken c.left f y e

need_then_by : {A B : Type 0} (k : ℕ) (o : Option A) (f : A → Result B TargetFault) (y : B) → (some_or k o >>= f) ≡ Ok y → (x : A) × (o ≡ Some x) × (f x ≡ Ok y)
need_then_by k None f y e = absurd cc
need_then_by k (Some x) f y e = (x, refl, e)

pub need_then : {A B : Type 0} (c : Cursor) (o : Option A) (f : A → Result B TargetFault) (y : B) → (need_at c o >>= f) ≡ Ok y → (x : A) × (o ≡ Some x) × (f x ≡ Ok y)
unfolding need_at
need_then c o f y e = need_then_by c.taken o f y e

need_is_by : {A : Type 0} (k : ℕ) (o : Option A) (y : A) → some_or k o ≡ Ok y → o ≡ Some y
need_is_by k None y e = absurd cc
need_is_by k (Some x) y e = cc

pub need_is : {A : Type 0} (c : Cursor) (o : Option A) (y : A) → need_at c o ≡ Ok y → o ≡ Some y
unfolding need_at
need_is c o y e = need_is_by c.taken o y e

-- ---- the word `big`

big_said : {B : Type 0} (packed : Bool) (k : ℕ) (w : List ℕ) (ws : List (List ℕ)) (f : Bool → Result B TargetFault) (y : B) → (big_word_at packed (record { taken = k; left = w ∷ ws }) >>= f) ≡ Ok y
    → (packed ≡ true) × (ws ≡ []) × (f true ≡ Ok y)
unfolding big_word_at word_at need_at end_at
big_said true k w [] f y e = (refl, refl, e)
big_said true k w (v ∷ vs) f y e = absurd cc
big_said false k w ws f y e = absurd cc

pub big_then : {B : Type 0} (version : ℕ) (packed : Bool) (k : ℕ) (ws : List (List ℕ)) (f : Bool → Result B TargetFault) (y : B) → (big_at version packed (record { taken = k; left = ws }) >>= f) ≡ Ok y
    → (big : Bool) × (ws ≡ big_words big) × (big ≡ true → packed ≡ true) × (big ≡ true → version ≡ 2) × (f big ≡ Ok y)
unfolding big_at no_big_at end_at
big_then version packed k [] f y e = (false, refl, λ is. absurd cc, λ is. absurd cc, e)
big_then version packed k (w ∷ ws) f y e = at (eqb version 2 && bytes_eq w (codes "big")) refl e
  where
    at : (b : Bool) → (eqb version 2 && bytes_eq w (codes "big")) ≡ b → (cond b (big_word_at packed (record { taken = k; left = w ∷ ws })) (no_big_at (record { taken = k; left = w ∷ ws })) >>= f) ≡ Ok y
        → (big : Bool) × (w ∷ ws ≡ big_words big) × (big ≡ true → packed ≡ true) × (big ≡ true → version ≡ 2) × (f big ≡ Ok y)
    at true is e =
        let parts = and_parts (eqb version 2) (bytes_eq w (codes "big")) is in
        let said = big_said packed k w ws f y e in
        let word : w ≡ codes "big" = (bytes_eq-Decides w (codes "big")).0 parts.1 in
        (true, (λ i. word i ∷ said.1 i), (λ yes. said.0), (λ yes. eqb-true version 2 parts.0), said.2)
    at false is e = absurd cc

pub big_back : (version : ℕ) (packed big : Bool) (k : ℕ) → (big ≡ true → packed ≡ true) → (big ≡ true → version ≡ 2) → big_at version packed (record { taken = k; left = big_words big }) ≡ Ok big
unfolding big_at big_word_at no_big_at word_at need_at end_at
big_back version packed false k suits of = refl
big_back version packed true k suits of = rw (suits refl, of refl) refl
