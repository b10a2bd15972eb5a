-- Words of a table, in a row.
use Rattle.std.proofs.Common.{◌≡◌, ◌≢◌, ◌⊎◌, inl, inr, ⊎_elim, ℕ, zero, suc, ◌+◌, ◌-◌, ◌*◌, ◌≤◌, ◌<◌, List, [], ◌∷◌, ◌++◌, length, take, drop, set, get_or, length-drop, Some, refl, ap, sym, ◌∙◌, subst, arith}
use Rattle.std.specs.Prelude.{replicate}
use Rattle.std.proofs.Math.Seq.{drop-length}
use Rattle.std.proofs.lemmas.List.{length-take-le, length-append, take_at, get_or-take, get_or-drop, append-nil}
use Rattle.std.proofs.Math.Seq.{drop-set-lt, drop-set-add, take-set-lt, take-set-le}
use Rattle.any_size.specs.Bytes.{bytes_of, Spells}
use Rattle.any_size.specs.Layout.{words_at}
use Rattle.any_size.specs.Rule.{held_now, written_of, IsWritten}

-- ---- words in a row where one word is set

pub words_else : (words : List ℕ) (f n j x : ℕ) → (j < f) ⊎ (f + n ≤ j) → words_at (set words j x) f n ≡ words_at words f n
words_else words f n j x far = ⊎_elim
    (λ (lt : j < f). ap (take n) (drop-set-lt f words j x lt))
    (λ (le : f + n ≤ j). let at : f + (j - f) ≡ j = omega arith in
    ap (λ (z : ℕ). take n (drop f (set words z x))) (sym at) ∙ (ap (take n) (drop-set-add f words (j - f) x) ∙ take-set-le n (drop f words) (j - f) x (omega arith)))
    far

pub words_own : (words : List ℕ) (f n i x : ℕ) → i < n → words_at (set words (f + i) x) f n ≡ set (words_at words f n) i x
words_own words f n i x lt = ap (take n) (drop-set-add f words i x) ∙ take-set-lt n (drop f words) i x lt

pub words_length : (words : List ℕ) (f n : ℕ) → f + n ≤ length words → length (words_at words f n) ≡ n
words_length words f n le = length-take-le n (drop f words) (let e = length-drop f words in omega arith)

pub words_get : (words : List ℕ) (f n i : ℕ) → i < n → get_or (words_at words f n) i 0 ≡ get_or words (f + i) 0
words_get words f n i lt = get_or-take n (drop f words) i 0 lt ∙ get_or-drop f words i 0

-- ---- words that were read and written

pub held_length : (read put : List ℕ) → length put ≤ length read → length (held_now read put) ≡ length read
held_length read put le = let e = length-append put (drop (length put) read) in let d = length-drop (length put) read in omega arith

pub put_next : (read put : List ℕ) (x : ℕ) → length put < length read → held_now read (put ++ x ∷ []) ≡ set (held_now read put) (length put) x
put_next [] put x lt = absurd (omega arith)
put_next (r ∷ rs) [] x lt = refl
put_next (r ∷ rs) (p ∷ ps) x lt = ap (λ (l : List ℕ). p ∷ l) (put_next rs ps x (omega arith))

pub put_written : (o : ℕ) (put : List ℕ) (x : ℕ) → written_of o (put ++ x ∷ []) ≡ Some o
put_written o [] x = refl
put_written o (p ∷ ps) x = refl

pub put_all : (read put : List ℕ) → length put ≡ length read → held_now read put ≡ put
put_all read put e = ap (λ (z : ℕ). put ++ drop z read) e ∙ (ap (λ (l : List ℕ). put ++ l) (drop-length read) ∙ append-nil put)

-- ---- what words spell

-- words spell one value
pub spells_one : (n : ℕ) (words v w : List ℕ) → Spells n words v → Spells n words w → v ≡ w
spells_one n words v w a b = sym (take_at v _ n a.count) ∙ (ap (take n) (sym a.bytes ∙ b.bytes) ∙ take_at w _ n b.count)
