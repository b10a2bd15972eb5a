-- Lists of entries of any type: what holds of each, the entries of a caller, and values.
use Rattle.std.proofs.Common.{◌≡◌, ◌≢◌, ◌↔◌, ⊎_elim, ℕ, suc, ◌≤◌, ◌==◌, Bool, true, false, if◌then◌else◌, List, [], ◌∷◌, ◌++◌, length, refl, ap, sym, ◌∙◌, subst, arith, append_assoc, eq-eqb, ne_eqb}
use Rattle.std.specs.List.{AllByRecursion}
use Rattle.std.proofs.lemmas.List.{append-nil}
use mathlib.Core.List.{IsPrefix}
use mathlib.Core.Logic.{dite}
use native.Mathlib.Decide.{ℕ_discrete}
use Rattle.place_core.specs.Histories.{Each, made_by, CallersWithin, value_from}
use Rattle.place_core.proofs.Prefixes.{prefix_whole, prefix_length, snoc_split}

-- ---- a fact of each element

module _ {X : Type 0} where
  pub all_append : (P : X → Type 0) (xs ys : List X) → AllByRecursion P xs → AllByRecursion P ys → AllByRecursion P (xs ++ ys)
  all_append P [] ys first later = later
  all_append P (x ∷ xs) ys first later = (first.0, all_append P xs ys first.1 later)

  pub all_front : (P : X → Type 0) (xs ys : List X) → AllByRecursion P (xs ++ ys) → AllByRecursion P xs
  all_front P [] ys all = tt
  all_front P (x ∷ xs) ys all = (all.0, all_front P xs ys all.1)

  pub all_rest : (P : X → Type 0) (xs ys : List X) → AllByRecursion P (xs ++ ys) → AllByRecursion P ys
  all_rest P [] ys all = all
  all_rest P (x ∷ xs) ys all = all_rest P xs ys all.1

  pub all_map : (P Q : X → Type 0) (xs : List X) → ((x : X) → P x → Q x) → AllByRecursion P xs → AllByRecursion Q xs
  all_map P Q [] f all = tt
  all_map P Q (x ∷ xs) f all = (f x all.0, all_map P Q xs f all.1)

  pub all_both : (P Q R : X → Type 0) (xs : List X) → ((x : X) → P x → Q x → R x) → AllByRecursion P xs → AllByRecursion Q xs → AllByRecursion R xs
  all_both P Q R [] f all other = tt
  all_both P Q R (x ∷ xs) f all other = (f x all.0 other.0, all_both P Q R xs f all.1 other.1)

-- ---- each entry at the entries before it

module _ {E : Type 0} where
  pub Each-none : (P : List E → E → Type 0) → Each P []
  unfolding Each
  Each-none P [] x rest e = absurd cc
  Each-none P (y ∷ before) x rest e = absurd cc

  Each-snoc : (P : List E → E → Type 0) (H : List E) (x : E) → Each P H → P H x → Each P (H ++ x ∷ [])
  unfolding Each
  Each-snoc P H x each last before y rest e = ⊎_elim
      (λ (t : (before ≡ H) × (y ≡ x)). let back : P before y = subst (λ (z : List E × E). P z.0 z.1) (λ i. (sym t.0 i, sym t.1 i)) last in back)
      (λ (t : (more : List E) × (H ≡ before ++ y ∷ more)). each before y t.0 t.1)
      (snoc_split H x before y rest e)

  Each-last : (P : List E → E → Type 0) (H : List E) (x : E) → Each P (H ++ x ∷ []) → P H x
  unfolding Each
  Each-last P H x each = each H x [] refl

  pub Each-append_left : (P : List E → E → Type 0) (H K : List E) → Each P (H ++ K) → Each P H
  unfolding Each
  Each-append_left P H K each before x rest e = each before x (rest ++ K) (ap (λ (l : List E). l ++ K) e ∙ append_assoc before (x ∷ rest) K)

  -- one more entry
  pub Each-more : (P : List E → E → Type 0) (H : List E) (x : E) → Each P (H ++ x ∷ []) ↔ (Each P H × P H x)
  Each-more P H x = (λ each. (Each-append_left P H (x ∷ []) each, Each-last P H x each), λ both. Each-snoc P H x both.0 both.1)

  pub Each-prefix : (P : List E → E → Type 0) (H K : List E) → IsPrefix H K → Each P K → Each P H
  Each-prefix P H K front each = Each-append_left P H front.0 (subst (Each P) (sym front.1) each)

  -- the entry that stands after a front
  pub Each-at : (P : List E → E → Type 0) (H : List E) (x : E) (K : List E) → Each P (H ++ x ∷ K) → P H x
  unfolding Each
  Each-at P H x K each = each H x K refl

  -- one entry in front
  Each-first : (P : List E → E → Type 0) (x : E) (H : List E) → Each P (x ∷ H) → Each (λ G. P (x ∷ G)) H
  unfolding Each
  Each-first P x H each before y rest e = each (x ∷ before) y rest (ap (λ (l : List E). x ∷ l) e)

  Each-cons : (P : List E → E → Type 0) (x : E) (H : List E) → P [] x → Each (λ G. P (x ∷ G)) H → Each P (x ∷ H)
  unfolding Each
  Each-cons P x H here each [] y rest e = let same : x ≡ y = cc in subst (P []) same here
  Each-cons P x H here each (z ∷ before) y rest e =
      let same : x ≡ z = cc in let tail : H ≡ before ++ y ∷ rest = cc in
      subst (λ w. P (w ∷ before) y) same (each before y rest tail)

  -- two histories, one after the other
  pub Each-append : (P : List E → E → Type 0) (H K : List E) → Each P (H ++ K) ↔ (Each P H × Each (λ G. P (H ++ G)) K)
  Each-append P [] K = (λ each. (Each-none P, each), λ both. both.1)
  Each-append P (x ∷ H) K =
      let more = Each-append (λ G. P (x ∷ G)) H K in (
        λ each.
            let rest = more.0 (Each-first P x (H ++ K) each) in
            (Each-cons P x H (Each-at P [] x (H ++ K) each) rest.0, rest.1),
        λ both. Each-cons P x (H ++ K) (Each-at P [] x H both.0) (more.1 (Each-first P x H both.0, both.1)),
      )

  pub Each-weaken : (P Q : List E → E → Type 0) (H : List E) → ((G : List E) (x : E) → P G x → Q G x) → Each P H → Each Q H
  unfolding Each
  Each-weaken P Q H f each before x rest e = f before x (each before x rest e)

  pub Each-both : (P Q : List E → E → Type 0) (H : List E) → Each P H → Each Q H → Each (λ G x. P G x × Q G x) H
  unfolding Each
  Each-both P Q H each other before x rest e = (each before x rest e, other before x rest e)

-- ---- the entries of a caller

module _ {E : Type 0} where
  pub made_by-none : (caller : E → ℕ) (c : ℕ) → made_by caller [] c ≡ []
  unfolding made_by
  made_by-none caller c = refl

  chosen : (b : Bool) (y : E) (all first rest : List E) → all ≡ first ++ rest → (if b then y ∷ all else all) ≡ (if b then y ∷ first else first) ++ rest
  chosen true y all first rest e = ap (λ (l : List E). y ∷ l) e
  chosen false y all first rest e = e

  pub made_by-append : (caller : E → ℕ) (H K : List E) (c : ℕ) → made_by caller (H ++ K) c ≡ made_by caller H c ++ made_by caller K c
  unfolding made_by
  made_by-append caller [] K c = refl
  made_by-append caller (x ∷ H) K c = chosen (caller x == c) x (made_by caller (H ++ K) c) (made_by caller H c) (made_by caller K c) (made_by-append caller H K c)

  -- an own entry comes first
  pub made_by-own_first : (caller : E → ℕ) (x : E) (H : List E) (c : ℕ) → caller x ≡ c → made_by caller (x ∷ H) c ≡ x ∷ made_by caller H c
  unfolding made_by
  made_by-own_first caller x H c own = ap (λ (b : Bool). if b then x ∷ made_by caller H c else made_by caller H c) (eq-eqb (caller x) c own)

  pub made_by-other_first : (caller : E → ℕ) (x : E) (H : List E) (c : ℕ) → caller x ≢ c → made_by caller (x ∷ H) c ≡ made_by caller H c
  unfolding made_by
  made_by-other_first caller x H c other = ap (λ (b : Bool). if b then x ∷ made_by caller H c else made_by caller H c) (ne_eqb (caller x) c other)

  -- an own entry comes last
  pub made_by-own : (caller : E → ℕ) (H : List E) (x : E) (c : ℕ) → caller x ≡ c → made_by caller (H ++ x ∷ []) c ≡ made_by caller H c ++ x ∷ []
  made_by-own caller H x c own =
      made_by-append caller H (x ∷ []) c
      ∙ ap (λ (l : List E). made_by caller H c ++ l) (made_by-own_first caller x [] c own ∙ ap (λ (l : List E). x ∷ l) (made_by-none caller c))

  -- another's entry changes nothing
  pub made_by-other : (caller : E → ℕ) (H : List E) (x : E) (c : ℕ) → caller x ≢ c → made_by caller (H ++ x ∷ []) c ≡ made_by caller H c
  made_by-other caller H x c other =
      made_by-append caller H (x ∷ []) c
      ∙ ap (λ (l : List E). made_by caller H c ++ l) (made_by-other_first caller x [] c other ∙ made_by-none caller c)
      ∙ append-nil (made_by caller H c)

  pub made_by-prefix : (caller : E → ℕ) (H K : List E) (c : ℕ) → IsPrefix H K → IsPrefix (made_by caller H c) (made_by caller K c)
  made_by-prefix caller H K c front = (made_by caller front.0 c, sym (made_by-append caller H front.0 c) ∙ ap (λ (l : List E). made_by caller l c) front.1)

  -- between two histories with the same entries of a caller lies no other
  pub made_by-between : (caller : E → ℕ) (F G H es : List E) (c : ℕ) → IsPrefix F G → IsPrefix G H → made_by caller F c ≡ es → made_by caller H c ≡ es → made_by caller G c ≡ es
  made_by-between caller F G H es c first later in_first in_last = let two : made_by caller F c ≡ made_by caller H c = in_first ∙ sym in_last in
      let le : length (made_by caller G c) ≤ length (made_by caller F c) = omega (arith, prefix_length (made_by caller G c) (made_by caller H c) (made_by-prefix caller G H c later), ap length two) in
      sym (prefix_whole (made_by caller F c) (made_by caller G c) (made_by-prefix caller F G c first) le) ∙ in_first

  -- each entry of a caller is its own
  pub made_by-all : (caller : E → ℕ) (H : List E) (c : ℕ) → AllByRecursion (λ x. caller x ≡ c) (made_by caller H c)
  made_by-all caller [] c = subst (AllByRecursion (λ x. caller x ≡ c)) (sym (made_by-none caller c)) tt
  made_by-all caller (x ∷ H) c = dite (ℕ_discrete (caller x) c)
      (λ own. subst (AllByRecursion (λ y. caller y ≡ c)) (sym (made_by-own_first caller x H c own)) (own, made_by-all caller H c))
      (λ other. subst (AllByRecursion (λ y. caller y ≡ c)) (sym (made_by-other_first caller x H c other)) (made_by-all caller H c))

  -- where all entries are a caller's, they are its entries
  pub made_by-whole : (caller : E → ℕ) (H : List E) (c : ℕ) → AllByRecursion (λ x. caller x ≡ c) H → made_by caller H c ≡ H
  made_by-whole caller [] c all = made_by-none caller c
  made_by-whole caller (x ∷ H) c all = made_by-own_first caller x H c all.0 ∙ ap (λ (l : List E). x ∷ l) (made_by-whole caller H c all.1)

  -- where no entry is a caller's, it has none
  pub made_by-absent : (caller : E → ℕ) (H : List E) (c : ℕ) → AllByRecursion (λ x. caller x ≢ c) H → made_by caller H c ≡ []
  made_by-absent caller [] c all = made_by-none caller c
  made_by-absent caller (x ∷ H) c all = made_by-other_first caller x H c all.0 ∙ made_by-absent caller H c all.1

  pub made_by-nowhere : (caller : E → ℕ) (H : List E) (c : ℕ) → made_by caller H c ≡ [] → AllByRecursion (λ x. caller x ≢ c) H
  made_by-nowhere caller [] c none = tt
  made_by-nowhere caller (x ∷ H) c none =
      let other : caller x ≢ c = λ own. let bad : x ∷ made_by caller H c ≡ [] = sym (made_by-own_first caller x H c own) ∙ none in cc in
      (other, made_by-nowhere caller H c (sym (made_by-other_first caller x H c other) ∙ none))

-- ---- callers within a bound

module _ {E : Type 0} where
  pub CallersWithin-all : (caller : E → ℕ) (n : ℕ) (H : List E) → CallersWithin caller n H ↔ AllByRecursion (λ x. caller x ≤ n) H
  unfolding CallersWithin
  CallersWithin-all caller n H = (λ within. within, λ all. all)

  pub CallersWithin-none : (caller : E → ℕ) (n : ℕ) → CallersWithin caller n []
  CallersWithin-none caller n = (CallersWithin-all caller n []).1 tt

  pub CallersWithin-append : (caller : E → ℕ) (n : ℕ) (H K : List E) → CallersWithin caller n (H ++ K) ↔ (CallersWithin caller n H × CallersWithin caller n K)
  unfolding CallersWithin
  CallersWithin-append caller n H K = (
    λ within. (all_front (λ x. caller x ≤ n) H K within, all_rest (λ x. caller x ≤ n) H K within),
    λ both. all_append (λ x. caller x ≤ n) H K both.0 both.1,
  )

  -- one more entry
  pub CallersWithin-more : (caller : E → ℕ) (n : ℕ) (H : List E) (x : E) → CallersWithin caller n (H ++ x ∷ []) ↔ (CallersWithin caller n H × (caller x ≤ n))
  unfolding CallersWithin
  CallersWithin-more caller n H x = (
    λ within. (all_front (λ y. caller y ≤ n) H (x ∷ []) within, (all_rest (λ y. caller y ≤ n) H (x ∷ []) within).0),
    λ both. all_append (λ y. caller y ≤ n) H (x ∷ []) both.0 (both.1, tt),
  )

  pub CallersWithin-weaken : (caller : E → ℕ) (n m : ℕ) (H : List E) → n ≤ m → CallersWithin caller n H → CallersWithin caller m H
  unfolding CallersWithin
  CallersWithin-weaken caller n m H le within = all_map (λ x. caller x ≤ n) (λ x. caller x ≤ m) H (λ x below. omega arith) within

  pub CallersWithin-prefix : (caller : E → ℕ) (n : ℕ) (H K : List E) → IsPrefix H K → CallersWithin caller n K → CallersWithin caller n H
  CallersWithin-prefix caller n H K front within = ((CallersWithin-append caller n H front.0).0 (subst (CallersWithin caller n) (sym front.1) within)).0

  -- a number above all callers has no entry
  pub made_by-new : (caller : E → ℕ) (n c : ℕ) (H : List E) → CallersWithin caller n H → suc n ≤ c → made_by caller H c ≡ []
  made_by-new caller n c H within above =
      made_by-absent caller H c (all_map (λ x. caller x ≤ n) (λ x. caller x ≢ c) H (λ x below same. omega arith) ((CallersWithin-all caller n H).0 within))

-- ---- values

module _ {E V : Type 0} where
  pub value_from-none : (object : E → ℕ) (left : E → V → V) (o : ℕ) (v : V) → value_from object left o v [] ≡ v
  unfolding value_from
  value_from-none object left o v = refl

  pub value_from-append : (object : E → ℕ) (left : E → V → V) (o : ℕ) (v : V) (H K : List E) → value_from object left o v (H ++ K) ≡ value_from object left o (value_from object left o v H) K
  unfolding value_from
  value_from-append object left o v [] K = refl
  value_from-append object left o v (x ∷ H) K = value_from-append object left o (if object x == o then left x v else v) H K

  value_from-one : (object : E → ℕ) (left : E → V → V) (o : ℕ) (v : V) (x : E) → value_from object left o v (x ∷ []) ≡ (if object x == o then left x v else v)
  unfolding value_from
  value_from-one object left o v x = refl

  -- an entry on the object leaves what it leaves
  pub value_from-own : (object : E → ℕ) (left : E → V → V) (o : ℕ) (v : V) (H : List E) (x : E) → object x ≡ o → value_from object left o v (H ++ x ∷ []) ≡ left x (value_from object left o v H)
  value_from-own object left o v H x own = let w = value_from object left o v H in
      value_from-append object left o v H (x ∷ []) ∙ value_from-one object left o w x ∙ ap (λ (b : Bool). if b then left x w else w) (eq-eqb (object x) o own)

  -- an entry on another object changes nothing
  pub value_from-other : (object : E → ℕ) (left : E → V → V) (o : ℕ) (v : V) (H : List E) (x : E) → object x ≢ o → value_from object left o v (H ++ x ∷ []) ≡ value_from object left o v H
  value_from-other object left o v H x other = let w = value_from object left o v H in
      value_from-append object left o v H (x ∷ []) ∙ value_from-one object left o w x ∙ ap (λ (b : Bool). if b then left x w else w) (ne_eqb (object x) o other)

  -- entries on other objects change nothing
  pub value_from-untouched : (object : E → ℕ) (left : E → V → V) (o : ℕ) (v : V) (H : List E) → AllByRecursion (λ x. object x ≢ o) H → value_from object left o v H ≡ v
  value_from-untouched object left o v [] all = value_from-none object left o v
  value_from-untouched object left o v (x ∷ H) all =
      value_from-append object left o v (x ∷ []) H
      ∙ ap (λ w. value_from object left o w H) (value_from-other object left o v [] x all.0 ∙ value_from-none object left o v)
      ∙ value_from-untouched object left o v H all.1
