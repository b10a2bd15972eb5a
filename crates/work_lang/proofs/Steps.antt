-- What each step of a line took, where the line was read.
use Rattle.std.proofs.Common.{◌≡◌, ℕ, ◌+◌, Bool, true, false, cond, List, [], ◌∷◌, length, Option, Some, None, Result, Ok, Err, refl, ◌⊎◌, inl, inr, eqb}
use Rattle.std.specs.Str.{bytes_eq}
use Rattle.std.proofs.lemmas.Bool.{eqb-true}
use Rattle.std.proofs.lemmas.List.{nil_from_length}
use Rattle.std.proofs.lemmas.Slice.Eq.{bytes_eq-Decides}
use Rattle.work_lang.specs.declared.fault.Cause.{Cause}
use Rattle.work_lang.specs.declared.fault.Slip.{Slip}
use Rattle.op_table.specs.declared.value.ValueFault.{ValueFault}
use Rattle.op_table.specs.declared.value.ValueFault.TheVariants.{BadNumber, OutOfRange}
use Rattle.line_words.specs.Cursor.{Cursor}
use Rattle.line_words.specs.Steps.{◌>>=◌}
use Rattle.work_lang.specs.Slips.{slip, take_word, no_word, word_at, end_at, need_at, check_at, value_at, some_or, value_or}

check_then_by : {B : Type 0} (k : ℕ) (cause : Cause) (b : Bool) (f : Unit {0} → Result B Slip) (y : B) → (cond b (Ok tt) (slip k cause) >>= f) ≡ Ok y → (b ≡ true) × (f tt ≡ Ok y)
check_then_by k cause true f y e = (refl, e)
check_then_by k cause false f y e = absurd cc

pub check_then : {B : Type 0} (c : Cursor) (cause : Cause) (b : Bool) (f : Unit {0} → Result B Slip) (y : B) → (check_at c cause b >>= f) ≡ Ok y → (b ≡ true) × (f tt ≡ Ok y)
unfolding check_at
check_then c cause b f y e = check_then_by c.taken cause b f y e

word_then_by : {B : Type 0} (k : ℕ) (ws : List (List ℕ)) (f : List ℕ × Cursor → Result B Slip) (y : B) → (take_word k ws >>= f) ≡ Ok y → (w : List ℕ) × (rest : List (List ℕ)) × (ws ≡ w ∷ rest) × (f (w, record { taken = k + 1; left = rest }) ≡ Ok y)
word_then_by k [] f y e = absurd cc
word_then_by k (w ∷ ws) f y e = (w, ws, refl, e)

pub word_then : {B : Type 0} (c : Cursor) (f : List ℕ × Cursor → Result B Slip) (y : B) → (word_at c >>= f) ≡ Ok y → (w : List ℕ) × (rest : List (List ℕ)) × (c.left ≡ w ∷ rest) × (f (w, record { taken = c.taken + 1; left = rest }) ≡ Ok y)
unfolding word_at
word_then c f y e = word_then_by c.taken c.left f y e

end_then_by : {B : Type 0} (k : ℕ) (ws : List (List ℕ)) (f : Unit {0} → Result B Slip) (y : B) → (no_word k ws >>= f) ≡ Ok y → (ws ≡ []) × (f tt ≡ Ok y)
end_then_by k [] f y e = (refl, e)
end_then_by k (w ∷ ws) f y e = absurd cc

pub end_then : {B : Type 0} (c : Cursor) (f : Unit {0} → Result B Slip) (y : B) → (end_at c >>= f) ≡ Ok y → (c.left ≡ []) × (f tt ≡ Ok y)
unfolding end_at
end_then c f y e = end_then_by c.taken c.left f y e

need_then_by : {A B : Type 0} (k : ℕ) (cause : Cause) (o : Option A) (f : A → Result B Slip) (y : B) → (some_or k cause o >>= f) ≡ Ok y → (x : A) × (o ≡ Some x) × (f x ≡ Ok y)
need_then_by k cause None f y e = absurd cc
need_then_by k cause (Some x) f y e = (x, refl, e)

pub need_then : {A B : Type 0} (c : Cursor) (cause : Cause) (o : Option A) (f : A → Result B Slip) (y : B) → (need_at c cause o >>= f) ≡ Ok y → (x : A) × (o ≡ Some x) × (f x ≡ Ok y)
unfolding need_at
need_then c cause o f y e = need_then_by c.taken cause o f y e

value_then_by : {A B : Type 0} (k : ℕ) (r : Result A ValueFault) (f : A → Result B Slip) (y : B) → (value_or k r >>= f) ≡ Ok y → (x : A) × (r ≡ Ok x) × (f x ≡ Ok y)
value_then_by k (Ok x) f y e = (x, refl, e)
value_then_by k (Err BadNumber) f y e = absurd cc
value_then_by k (Err OutOfRange) f y e = absurd cc

pub value_then : {A B : Type 0} (c : Cursor) (r : Result A ValueFault) (f : A → Result B Slip) (y : B) → (value_at c r >>= f) ≡ Ok y → (x : A) × (r ≡ Ok x) × (f x ≡ Ok y)
unfolding value_at
value_then c r f y e = value_then_by c.taken r f y e

pub bind_then : {A B : Type 0} (r : Result A Slip) (f : A → Result B Slip) (y : B) → (r >>= f) ≡ Ok y → (x : A) × (r ≡ Ok x) × (f x ≡ Ok y)
bind_then (Ok x) f y e = (x, refl, e)
bind_then (Err d) f y e = absurd cc

pub chosen : {A : Type 0} (b : Bool) (x y z : A) → cond b x y ≡ z → ((b ≡ true) × (x ≡ z)) ⊎ ((b ≡ false) × (y ≡ z))
chosen true x y z e = inl (refl, e)
chosen false x y z e = inr (refl, e)

-- ---- facts of words and answers

abbrev pub good : {A : Type 0} → A → Result A Slip
good x = Ok x

pub ok_is : {A : Type 0} (x y : A) → good x ≡ good y → x ≡ y
ok_is x y e = cc

pub err_ok : {A : Type 0} {x : Slip} {y : A} → Err x ≡ good y → ⊥
err_ok e = cc

abbrev pub there : {A : Type 0} → A → Option A
there x = Some x

pub some_is : {A : Type 0} (x y : A) → there x ≡ there y → x ≡ y
some_is x y e = cc

pub none_some : {A : Type 0} {x : A} → None ≡ there x → ⊥
none_some e = cc

pub is_word : (xs ys : List ℕ) → bytes_eq xs ys ≡ true → xs ≡ ys
is_word xs ys h = (bytes_eq-Decides xs ys).0 h

pub no_words : (ws : List (List ℕ)) → eqb (length ws) 0 ≡ true → ws ≡ []
no_words ws e = nil_from_length ws (eqb-true _ _ e)
