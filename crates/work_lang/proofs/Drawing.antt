-- Words drawn one after another, and the lines that they give.
use Rattle.std.proofs.Common.{◌≡◌, ◌∙◌, ℕ, zero, suc, ◌-◌, ◌<◌, ◌≤◌, List, [], ◌∷◌, ◌++◌, refl, sym, ap, ap₂, arith, append_assoc, append-nil}
use Rattle.rand_core.specs.Steps.{first_words}
use Rattle.rand_pcg.specs.Lcg.{Lcg, state_after}
use Rattle.rand_pcg.specs.Pcg.{pcg64}
use Rattle.place_core.specs.declared.script.Piece.{Piece}
use Rattle.place_core.specs.declared.script.Piece.TheVariants.{One}
use Rattle.work_lang.specs.Generated.{drawn_line, after_words, script_from, scripts_from}

-- the generator after a word
abbrev pub next_of : Lcg → Lcg
next_of g = (pcg64 g).1

script_from-suc : (k : ℕ) (g : Lcg) → script_from (suc k) g ≡ One (drawn_line (pcg64 g).0) ∷ script_from k (next_of g)
unfolding first_words
script_from-suc k g = refl

after_words-suc : (k : ℕ) (g : Lcg) → after_words (suc k) g ≡ after_words k (next_of g)
unfolding state_after
after_words-suc k g = refl

-- one word of those that are left
pub script_from-more : (k : ℕ) (g h : Lcg) (word : ℕ) → 0 < k → (word, h) ≡ pcg64 g → script_from k g ≡ One (drawn_line word) ∷ script_from (k - 1) h
script_from-more zero g h word some drawn = absurd (omega arith)
script_from-more (suc k) g h word some drawn =
    let one_less : k ≡ suc k - 1 = omega arith in
    script_from-suc k g ∙ ap (λ (step : ℕ × Lcg). One (drawn_line step.0) ∷ script_from k step.1) (sym drawn) ∙ ap (λ (n : ℕ). One (drawn_line word) ∷ script_from n h) one_less

pub after_words-more : (k : ℕ) (g h : Lcg) (word : ℕ) → 0 < k → (word, h) ≡ pcg64 g → after_words k g ≡ after_words (k - 1) h
after_words-more zero g h word some drawn = absurd (omega arith)
after_words-more (suc k) g h word some drawn =
    let one_less : k ≡ suc k - 1 = omega arith in
    after_words-suc k g ∙ ap (λ (step : ℕ × Lcg). after_words k step.1) (sym drawn) ∙ ap (λ (n : ℕ). after_words n h) one_less

pub script_from-none : (k : ℕ) (g : Lcg) → k ≤ 0 → script_from k g ≡ []
unfolding first_words
script_from-none zero g none = refl
script_from-none (suc k) g none = absurd (omega arith)

pub after_words-none : (k : ℕ) (g : Lcg) → k ≤ 0 → after_words k g ≡ g
unfolding state_after
after_words-none zero g none = refl
after_words-none (suc k) g none = absurd (omega arith)

-- a script with what is still to be drawn
pub script_drawn : (all made made' : List Piece) (k : ℕ) (g h : Lcg) (word : ℕ) → 0 < k → (word, h) ≡ pcg64 g → made' ≡ made ++ One (drawn_line word) ∷ []
    → made ++ script_from k g ≡ all → made' ++ script_from (k - 1) h ≡ all
script_drawn all made made' k g h word some drawn more so_far =
    ap (λ (l : List Piece). l ++ script_from (k - 1) h) more
    ∙ append_assoc made (One (drawn_line word) ∷ []) (script_from (k - 1) h)
    ∙ ap (λ (l : List Piece). made ++ l) (sym (script_from-more k g h word some drawn))
    ∙ so_far

pub script_done : (all made : List Piece) (k : ℕ) (g : Lcg) → k ≤ 0 → made ++ script_from k g ≡ all → made ≡ all
script_done all made k g none so_far = sym (append-nil made) ∙ ap (λ (l : List Piece). made ++ l) (sym (script_from-none k g none)) ∙ so_far

-- ---- threads

scripts_from-more : (k calls : ℕ) (g : Lcg) → 0 < k → scripts_from k calls g ≡ script_from calls g ∷ scripts_from (k - 1) calls (after_words calls g)
scripts_from-more zero calls g some = absurd (omega arith)
scripts_from-more (suc k) calls g some =
    let one_less : k ≡ suc k - 1 = omega arith in
    ap (λ (n : ℕ). script_from calls g ∷ scripts_from n calls (after_words calls g)) one_less

scripts_from-none : (k calls : ℕ) (g : Lcg) → k ≤ 0 → scripts_from k calls g ≡ []
scripts_from-none zero calls g none = refl
scripts_from-none (suc k) calls g none = absurd (omega arith)

pub scripts_drawn : (all made made' : List (List Piece)) (script : List Piece) (k calls : ℕ) (g h : Lcg) → 0 < k → script ≡ script_from calls g → h ≡ after_words calls g
    → made' ≡ made ++ script ∷ [] → made ++ scripts_from k calls g ≡ all → made' ++ scripts_from (k - 1) calls h ≡ all
scripts_drawn all made made' script k calls g h some is after more so_far =
    ap (λ (l : List (List Piece)). l ++ scripts_from (k - 1) calls h) more
    ∙ append_assoc made (script ∷ []) (scripts_from (k - 1) calls h)
    ∙ ap (λ (l : List (List Piece)). made ++ l) (ap₂ (λ (s : List Piece) (f : Lcg). s ∷ scripts_from (k - 1) calls f) is after ∙ sym (scripts_from-more k calls g some))
    ∙ so_far

pub scripts_done : (all made : List (List Piece)) (k calls : ℕ) (g : Lcg) → k ≤ 0 → made ++ scripts_from k calls g ≡ all → made ≡ all
scripts_done all made k calls g none so_far = sym (append-nil made) ∙ ap (λ (l : List (List Piece)). made ++ l) (sym (scripts_from-none k calls g none)) ∙ so_far
