-- Laws of a word in which several lanes lie.
use Rattle.std.proofs.Common.{◌≡◌, ◌≢◌, ◌⊎◌, inl, inr, ⊎_elim, ℕ, zero, suc, ◌≤◌, ◌<◌, ◌+◌, ◌-◌, ◌*◌, ◌/◌, ◌%◌, ◌^◌, ◌==◌, Bool, if◌then◌else◌, List, [], ◌∷◌, length, refl, ap, sym, ◌∙◌, subst, arith, Option, Some, None, slice_get, eq-eqb, ne_eqb}
use mathlib.Core.Logic.{dite}
use native.Mathlib.Decide.{ℕ_discrete, dec_le}
use Rattle.std.proofs.Math.Nat.{mul-le-mul_right, pow-le-pow_right}
use Rattle.std.proofs.lemmas.Nat.{pow-add, pow_pos, div-mul-add, mod-mul-add}
use Rattle.place_core.specs.WordSums.{Strip, piece, word_sum}

-- lane i of the list is s, in word w
abbrev pub Lies : List (Option Strip) → ℕ → Strip → ℕ → Type 0
Lies l i s w = (slice_get l i ≡ Some (Some s)) × (s.word ≡ w)

-- two lanes of word w are apart, and none is empty
pub record IsLaid (l : List (Option Strip)) (w : ℕ) : Type 0 where
  pub apart : (i j : ℕ) (s t : Strip) → Lies l i s w → Lies l j t w → i ≢ j → (s.shift + s.width ≤ t.shift) ⊎ (t.shift + t.width ≤ s.shift)
  pub wide : (i : ℕ) (s : Strip) → Lies l i s w → 0 < s.width

piece_else : (a : Option Strip) (w v v' : ℕ) → ((s : Strip) → a ≡ Some s → s.word ≡ w → v ≡ v') → piece a w v ≡ piece a w v'
piece_else None w v v' e = refl
piece_else (Some s) w v v' e = dite (ℕ_discrete s.word w)
    (λ is. ap (piece (Some s) w) (e s refl is))
    (λ ne. ap (λ (b : Bool). if b then v * 2 ^ s.shift else 0) (ne_eqb s.word w ne) ∙ sym (ap (λ (b : Bool). if b then v' * 2 ^ s.shift else 0) (ne_eqb s.word w ne)))

piece_here : (s : Strip) (w v : ℕ) → s.word ≡ w → piece (Some s) w v ≡ v * 2 ^ s.shift
piece_here s w v e = ap (λ (b : Bool). if b then v * 2 ^ s.shift else 0) (eq-eqb s.word w e)

-- it reads the values of its own lanes alone
pub sum_same : (l : List (Option Strip)) (k : ℕ) (g h : ℕ → ℕ) (w : ℕ) → ((i : ℕ) (s : Strip) → Lies l i s w → g (k + i) ≡ h (k + i)) → word_sum l k g w ≡ word_sum l k h w
unfolding word_sum
sum_same [] k g h w e = refl
sum_same (a ∷ more) k g h w e =
    let first : piece a w (g k) ≡ piece a w (h k) = piece_else a w (g k) (h k) (λ s is here. let zero_is : k + 0 ≡ k = omega arith in subst (λ (z : ℕ). g z ≡ h z) zero_is (e 0 s (ap Some is, here))) in
    let rest : word_sum more (suc k) g w ≡ word_sum more (suc k) h w = sum_same more (suc k) g h w (λ i s lies. let shift : k + suc i ≡ suc k + i = omega arith in subst (λ (z : ℕ). g z ≡ h z) shift (e (suc i) s lies)) in
    (λ i. first i + rest i)

-- one lane's value is replaced
pub sum_change : (l : List (Option Strip)) (k o : ℕ) (s : Strip) (g h : ℕ → ℕ) (w : ℕ) → Lies l o s w → ((i : ℕ) → i ≢ k + o → h i ≡ g i) → word_sum l k h w + g (k + o) * 2 ^ s.shift ≡ word_sum l k g w + h (k + o) * 2 ^ s.shift
unfolding word_sum
sum_change [] k o s g h w lies same = absurd (let e = lies.0 in cc)
sum_change (a ∷ more) k zero s g h w lies same =
    let e : a ≡ Some s = (let f : Some a ≡ Some (Some s) = lies.0 in cc) in
    let at : k + 0 ≡ k = omega arith in
    let pg : piece a w (g k) ≡ g k * 2 ^ s.shift = ap (λ (z : Option Strip). piece z w (g k)) e ∙ piece_here s w (g k) lies.1 in
    let ph : piece a w (h k) ≡ h k * 2 ^ s.shift = ap (λ (z : Option Strip). piece z w (h k)) e ∙ piece_here s w (h k) lies.1 in
    let rest : word_sum more (suc k) h w ≡ word_sum more (suc k) g w = sum_same more (suc k) h g w (λ i t lies. same (suc k + i) (λ e. omega arith)) in
    let gk : g (k + 0) ≡ g k = ap g at in let hk : h (k + 0) ≡ h k = ap h at in
    rw (pg, ph, gk, hk, rest) (omega arith)
sum_change (a ∷ more) k (suc o) s g h w lies same =
    let first : piece a w (h k) ≡ piece a w (g k) = ap (piece a w) (same k (λ e. omega arith)) in
    let at : k + suc o ≡ suc k + o = omega arith in
    let rest : word_sum more (suc k) h w + g (suc k + o) * 2 ^ s.shift ≡ word_sum more (suc k) g w + h (suc k + o) * 2 ^ s.shift = sum_change more (suc k) o s g h w lies (λ i ne. same i (λ e. ne (omega arith))) in
    rw (ap g at, ap h at, first) (omega arith)

pub sum_none : (l : List (Option Strip)) (k : ℕ) (w : ℕ) → word_sum l k (λ _. 0) w ≡ 0
unfolding word_sum
sum_none [] k w = refl
sum_none (None ∷ more) k w = let rest = sum_none more (suc k) w in omega (arith, rest)
sum_none (Some s ∷ more) k w = let rest = sum_none more (suc k) w in
    dite (ℕ_discrete s.word w)
    (λ is. let p : piece (Some s) w 0 ≡ 0 * 2 ^ s.shift = piece_here s w 0 is in omega (arith, p, rest))
    (λ ne. let p : piece (Some s) w 0 ≡ 0 = ap (λ (b : Bool). if b then 0 * 2 ^ s.shift else 0) (ne_eqb s.word w ne) in omega (arith, p, rest))

-- a lane with a value, which ends at p
abbrev Ends : List (Option Strip) → (ℕ → ℕ) → ℕ → ℕ → ℕ → Type 0
Ends l g w p i = (s : Strip) × Lies l i s w × (g i ≢ 0) × (s.shift + s.width ≡ p)

ends_at : (l : List (Option Strip)) (g : ℕ → ℕ) (w p i : ℕ) → Ends l g w p i ⊎ ((s : Strip) → Lies l i s w → g i ≢ 0 → s.shift + s.width ≢ p)
ends_at l g w p i = go (slice_get l i) refl
  where
    go : (a : Option (Option Strip)) → slice_get l i ≡ a → Ends l g w p i ⊎ ((s : Strip) → Lies l i s w → g i ≢ 0 → s.shift + s.width ≢ p)
    go None e = inr (λ s lies _ _. let bad : None ≡ Some (Some s) = sym e ∙ lies.0 in cc)
    go (Some None) e = inr (λ s lies _ _. let bad : Some None ≡ Some (Some s) = sym e ∙ lies.0 in cc)
    go (Some (Some t)) e = dite (ℕ_discrete t.word w)
        (λ here. dite (ℕ_discrete (g i) 0)
        (λ z. inr (λ s lies some _. some z))
        (λ some. dite (ℕ_discrete (t.shift + t.width) p)
        (λ ends. inl (t, (e, here), some, ends))
        (λ ne. inr (λ s lies _ is. let same : Some (Some t) ≡ Some (Some s) = sym e ∙ lies.0 in let one : t ≡ s = cc (same) in ne (ap (λ (z : Strip). z.shift + z.width) one ∙ is)))))
        (λ ne. inr (λ s lies _ _. let same : Some (Some t) ≡ Some (Some s) = sym e ∙ lies.0 in let one : t ≡ s = cc (same) in ne (ap (λ (z : Strip). z.word) one ∙ lies.1)))

ends_below : (l : List (Option Strip)) (g : ℕ → ℕ) (w p n : ℕ) → ((i : ℕ) × Ends l g w p i) ⊎ ((i : ℕ) → i < n → (s : Strip) → Lies l i s w → g i ≢ 0 → s.shift + s.width ≢ p)
ends_below l g w p zero = inr (λ i lt. absurd (omega arith))
ends_below l g w p (suc n) = ⊎_elim (λ f. inl f)
    (λ none. ⊎_elim (λ (h : Ends l g w p n). inl (n, h))
    (λ (h : (s : Strip) → Lies l n s w → g n ≢ 0 → s.shift + s.width ≢ p). inr (λ i lt s lies some. dite (ℕ_discrete i n)
    (λ e. h s (subst (λ (z : ℕ). Lies l z s w) e lies) (λ z. some (ap g e ∙ z)))
    (λ ne. none i (omega arith) s lies some)))
    (ends_at l g w p n))
    (ends_below l g w p n)

get_inside : {A : Type 0} (l : List A) (i : ℕ) (a : A) → slice_get l i ≡ Some a → i < length l
get_inside [] i a e = absurd cc
get_inside (x ∷ xs) zero a e = omega arith
get_inside (x ∷ xs) (suc i) a e = let h = get_inside xs i a e in omega arith

pub change_at : (l : List (Option Strip)) (o : ℕ) (s : Strip) (g h : ℕ → ℕ) (w : ℕ) → Lies l o s w → ((i : ℕ) → i ≢ o → h i ≡ g i) → word_sum l 0 h w + g o * 2 ^ s.shift ≡ word_sum l 0 g w + h o * 2 ^ s.shift
change_at l o s g h w lies same = let at : 0 + o ≡ o = omega arith in
    subst (λ (z : ℕ). word_sum l 0 h w + g z * 2 ^ s.shift ≡ word_sum l 0 g w + h z * 2 ^ s.shift) at (sum_change l 0 o s g h w lies (λ i ne. same i (λ e. ne (omega arith))))

no_lane : (l : List (Option Strip)) (g : ℕ → ℕ) (w : ℕ) → IsLaid l w → ((i : ℕ) (s : Strip) → Lies l i s w → g i ≢ 0 → s.shift + s.width ≤ 0) → word_sum l 0 g w ≡ 0
no_lane l g w laid within = sum_same l 0 g (λ _. 0) w (λ i s lies. dite (ℕ_discrete (g i) 0)
    (λ z. let at : 0 + i ≡ i = omega arith in ap g at ∙ z)
    (λ some. let a = within i s lies some in let b = laid.wide i s lies in absurd (omega arith))) ∙ sum_none l 0 w

-- lanes that end by p leave the word below 2 ^ p
pub sum_below : (n p : ℕ) → p ≤ n → (l : List (Option Strip)) (g : ℕ → ℕ) (w : ℕ) → IsLaid l w → ((i : ℕ) (s : Strip) → Lies l i s w → g i < 2 ^ s.width)
    → ((i : ℕ) (s : Strip) → Lies l i s w → g i ≢ 0 → s.shift + s.width ≤ p) → word_sum l 0 g w < 2 ^ p
sum_below n zero le l g w laid small within = let z = no_lane l g w laid within in let pos = pow_pos 0 in omega arith
sum_below zero (suc q) le l g w laid small within = absurd (omega arith)
sum_below (suc n) (suc q) le l g w laid small within = ⊎_elim
    (λ (f : (i : ℕ) × Ends l g w (suc q) i).
    let i : ℕ = f.0 in let s : Strip = f.1.0 in let lies : Lies l i s w = f.1.1 in let ends : s.shift + s.width ≡ suc q = f.1.3 in
    let h : ℕ → ℕ = λ k. if k == i then 0 else g k in
    let gone : h i ≡ 0 = ap (λ (b : Bool). if b then 0 else g i) (eq-eqb i i refl) in
    let stay : (k : ℕ) → k ≢ i → h k ≡ g k = λ k ne. ap (λ (b : Bool). if b then 0 else g k) (ne_eqb k i ne) in
    let wide = laid.wide i s lies in
    let change : word_sum l 0 h w + g i * 2 ^ s.shift ≡ word_sum l 0 g w + h i * 2 ^ s.shift = change_at l i s g h w lies stay in
    let nothing : h i * 2 ^ s.shift ≡ 0 = ap (λ (z : ℕ). z * 2 ^ s.shift) gone ∙ omega arith in
    let low : word_sum l 0 h w < 2 ^ s.shift = sum_below n s.shift (omega arith) l h w laid
    (λ k t there. dite (ℕ_discrete k i) (λ e. let z : h k ≡ 0 = ap h e ∙ gone in let pos = pow_pos t.width in omega arith) (λ ne. let z = stay k ne in let b = small k t there in omega arith))
    (λ k t there some. dite (ℕ_discrete k i) (λ e. absurd (some (ap h e ∙ gone)))
    (λ ne. let b = within k t there (λ z. some (stay k ne ∙ z)) in let wide_t = laid.wide k t there in ⊎_elim (λ (a : t.shift + t.width ≤ s.shift). a) (λ (a : s.shift + s.width ≤ t.shift). absurd (omega arith)) (laid.apart k i t s there lies ne))) in
    let fits : g i < 2 ^ s.width = small i s lies in
    let top : suc (g i) * 2 ^ s.shift ≤ 2 ^ s.width * 2 ^ s.shift = mul-le-mul_right (2 ^ s.shift) (omega arith) in
    let all : 2 ^ suc q ≡ 2 ^ s.width * 2 ^ s.shift = ap (λ (z : ℕ). 2 ^ z) (let e : suc q ≡ s.width + s.shift = omega arith in e) ∙ pow-add 2 s.width s.shift in
    let one : suc (g i) * 2 ^ s.shift ≡ g i * 2 ^ s.shift + 2 ^ s.shift = omega arith in
    omega arith)
    (λ (none : (i : ℕ) → i < length l → (s : Strip) → Lies l i s w → g i ≢ 0 → s.shift + s.width ≢ suc q).
    let low : word_sum l 0 g w < 2 ^ q = sum_below n q (omega arith) l g w laid small
    (λ i s lies some. let a = within i s lies some in let b = none i (get_inside l i (Some s) lies.0) s lies some in omega arith) in
    let up : 2 ^ q ≤ 2 ^ suc q = pow-le-pow_right {n = 2} (omega arith) {i = q} {j = suc q} (omega arith) in omega arith)
    (ends_below l g w (suc q) (length l))

-- where lanes that were left out begin at d or above, what is left out is a multiple of 2 ^ d
split_at : (l : List (Option Strip)) (k : ℕ) (h f : ℕ → ℕ) (w d : ℕ) → ((i : ℕ) (s : Strip) → Lies l i s w → (h (k + i) ≡ f (k + i)) ⊎ ((f (k + i) ≡ 0) × (d ≤ s.shift)))
    → (q : ℕ) × (word_sum l k h w ≡ word_sum l k f w + q * 2 ^ d)
unfolding word_sum
split_at [] k h f w d parts = (0, omega arith)
split_at (None ∷ more) k h f w d parts =
    let r = split_at more (suc k) h f w d (λ i s lies. let e : k + suc i ≡ suc k + i = omega arith in subst (λ (z : ℕ). (h z ≡ f z) ⊎ ((f z ≡ 0) × (d ≤ s.shift))) e (parts (suc i) s lies)) in
    let e = r.1 in (r.0, omega arith)
split_at (Some s ∷ more) k h f w d parts =
    let r = split_at more (suc k) h f w d (λ i s lies. let e : k + suc i ≡ suc k + i = omega arith in subst (λ (z : ℕ). (h z ≡ f z) ⊎ ((f z ≡ 0) × (d ≤ s.shift))) e (parts (suc i) s lies)) in
    let e = r.1 in let at : k + 0 ≡ k = omega arith in
    dite (ℕ_discrete s.word w)
    (λ here. let ph : piece (Some s) w (h k) ≡ h k * 2 ^ s.shift = piece_here s w (h k) here in let pf : piece (Some s) w (f k) ≡ f k * 2 ^ s.shift = piece_here s w (f k) here in
    ⊎_elim
    (λ (same : h (k + 0) ≡ f (k + 0)). let same' : h k ≡ f k = subst (λ (z : ℕ). h z ≡ f z) at same in let both : h k * 2 ^ s.shift ≡ f k * 2 ^ s.shift = ap (λ (z : ℕ). z * 2 ^ s.shift) same' in (r.0, omega arith))
    (λ (gone : (f (k + 0) ≡ 0) × (d ≤ s.shift)).
    let none : f k ≡ 0 = subst (λ (z : ℕ). f z ≡ 0) at gone.0 in
    let nothing : f k * 2 ^ s.shift ≡ 0 = ap (λ (z : ℕ). z * 2 ^ s.shift) none ∙ omega arith in
    let le : d ≤ s.shift = gone.1 in
    let m : ℕ = s.shift - d in
    let shift_is : s.shift ≡ m + d = omega arith in
    let pow_is : 2 ^ s.shift ≡ 2 ^ m * 2 ^ d = ap (λ (z : ℕ). 2 ^ z) shift_is ∙ pow-add 2 m d in
    let q : ℕ = h k * 2 ^ m in
    let big : h k * 2 ^ s.shift ≡ q * 2 ^ d = ap (λ (z : ℕ). h k * z) pow_is ∙ omega arith in
    let total : (q + r.0) * 2 ^ d ≡ q * 2 ^ d + r.0 * 2 ^ d = omega arith in
    (q + r.0, omega arith))
    (parts 0 s (refl, here)))
    (λ ne. let ph : piece (Some s) w (h k) ≡ 0 = ap (λ (b : Bool). if b then h k * 2 ^ s.shift else 0) (ne_eqb s.word w ne) in let pf : piece (Some s) w (f k) ≡ 0 = ap (λ (b : Bool). if b then f k * 2 ^ s.shift else 0) (ne_eqb s.word w ne) in
    (r.0, omega arith))

abbrev low_part : Option (Option Strip) → ℕ → ℕ → ℕ
low_part None c v = 0
low_part (Some None) c v = 0
low_part (Some (Some s)) c v = elim (dec_le (s.shift + s.width) c) [ yes _ ↦ v | no _ ↦ 0 ]

low_cases : (a : Option (Option Strip)) (t : Strip) (c v : ℕ) → a ≡ Some (Some t) → ((low_part a c v ≡ v) × (t.shift + t.width ≤ c)) ⊎ ((low_part a c v ≡ 0) × (¬ (t.shift + t.width ≤ c)))
low_cases a t c v e = subst (λ (z : Option (Option Strip)). ((low_part z c v ≡ v) × (t.shift + t.width ≤ c)) ⊎ ((low_part z c v ≡ 0) × (¬ (t.shift + t.width ≤ c)))) (sym e) (go (dec_le (t.shift + t.width) c))
  where
    go : (d : Dec (t.shift + t.width ≤ c)) → (((elim d as (λ _. ℕ) [ yes _ ↦ v | no _ ↦ 0 ]) ≡ v) × (t.shift + t.width ≤ c)) ⊎ (((elim d as (λ _. ℕ) [ yes _ ↦ v | no _ ↦ 0 ]) ≡ 0) × (¬ (t.shift + t.width ≤ c)))
    go (yes p) = inl (refl, p)
    go (no p) = inr (refl, p)

-- the bits of a lane are its value
pub lane_value : (l : List (Option Strip)) (g : ℕ → ℕ) (w o : ℕ) (s : Strip) → IsLaid l w → ((i : ℕ) (t : Strip) → Lies l i t w → g i < 2 ^ t.width) → Lies l o s w
    → word_sum l 0 g w / 2 ^ s.shift % 2 ^ s.width ≡ g o
lane_value l g w o s laid small lies =
    let c : ℕ = s.shift in
    let h : ℕ → ℕ = λ k. if k == o then 0 else g k in
    let gone : h o ≡ 0 = ap (λ (b : Bool). if b then 0 else g o) (eq-eqb o o refl) in
    let stay : (k : ℕ) → k ≢ o → h k ≡ g k = λ k ne. ap (λ (b : Bool). if b then 0 else g k) (ne_eqb k o ne) in
    let f : ℕ → ℕ = λ k. low_part (slice_get l k) c (h k) in
    let cases : (i : ℕ) (t : Strip) → Lies l i t w → (((f i ≡ h i) × (t.shift + t.width ≤ c)) ⊎ ((f i ≡ 0) × (¬ (t.shift + t.width ≤ c)))) = λ i t there. low_cases (slice_get l i) t c (h i) there.0 in
    let r = split_at l 0 h f w (s.shift + s.width) (λ i t there. let at : 0 + i ≡ i = omega arith in subst (λ (z : ℕ). (h z ≡ f z) ⊎ ((f z ≡ 0) × (s.shift + s.width ≤ t.shift))) (sym at)
    (⊎_elim (λ (x : (f i ≡ h i) × (t.shift + t.width ≤ c)). inl (sym x.0))
    (λ (x : (f i ≡ 0) × (¬ (t.shift + t.width ≤ c))). dite (ℕ_discrete i o)
    (λ e. inl (ap h e ∙ (gone ∙ sym x.0)))
    (λ ne. ⊎_elim (λ (a : s.shift + s.width ≤ t.shift). inr (x.0, a)) (λ (a : t.shift + t.width ≤ s.shift). absurd (x.1 a)) (laid.apart o i s t lies there (λ e. ne (sym e)))))
    (cases i t there))) in
    let low : word_sum l 0 f w < 2 ^ c = sum_below c c (omega arith) l f w laid
    (λ i t there. ⊎_elim (λ (x : (f i ≡ h i) × (t.shift + t.width ≤ c)). dite (ℕ_discrete i o)
    (λ e. let z : f i ≡ 0 = x.0 ∙ (ap h e ∙ gone) in let pos = pow_pos t.width in omega arith)
    (λ ne. let z : f i ≡ g i = x.0 ∙ stay i ne in let b = small i t there in omega arith))
    (λ (x : (f i ≡ 0) × (¬ (t.shift + t.width ≤ c))). let z = x.0 in let pos = pow_pos t.width in omega arith) (cases i t there))
    (λ i t there some. ⊎_elim (λ (x : (f i ≡ h i) × (t.shift + t.width ≤ c)). x.1) (λ (x : (f i ≡ 0) × (¬ (t.shift + t.width ≤ c))). absurd (some x.0)) (cases i t there)) in
    let change : word_sum l 0 h w + g o * 2 ^ c ≡ word_sum l 0 g w + h o * 2 ^ c = change_at l o s g h w lies stay in
    let nothing : h o * 2 ^ c ≡ 0 = ap (λ (z : ℕ). z * 2 ^ c) gone ∙ omega arith in
    let parts = r.1 in
    let q : ℕ = r.0 in
    let pow_is : 2 ^ (s.shift + s.width) ≡ 2 ^ s.width * 2 ^ c = ap (λ (z : ℕ). 2 ^ z) (let e : s.shift + s.width ≡ s.width + c = omega arith in e) ∙ pow-add 2 s.width c in
    let high : q * 2 ^ (s.shift + s.width) ≡ (q * 2 ^ s.width) * 2 ^ c = ap (λ (z : ℕ). q * z) pow_is ∙ omega arith in
    let whole : word_sum l 0 g w ≡ (q * 2 ^ s.width + g o) * 2 ^ c + word_sum l 0 f w = omega arith in
    ap (λ (z : ℕ). z / 2 ^ c % 2 ^ s.width) whole ∙ (ap (λ (z : ℕ). z % 2 ^ s.width) (div-mul-add (q * 2 ^ s.width + g o) (2 ^ c) (word_sum l 0 f w) low) ∙ mod-mul-add q (2 ^ s.width) (g o) (small o s lies))
