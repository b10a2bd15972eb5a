-- Whether another has changed a word since a caller's last entry, told entry by entry, and what `IsEarned` asks.
use Rattle.std.proofs.Common.{◌≡◌, ◌⊎◌, inl, inr, ℕ, ◌≤◌, ◌==◌, Bool, true, false, not, ◌||◌, if◌then◌else◌, List, [], ◌∷◌, ◌++◌, refl, ap, sym, ◌∙◌, subst, arith, append_assoc}
use Rattle.std.proofs.lemmas.List.{append-nil}
use Rattle.place_core.specs.declared.entry.Entry.{Entry}
use Rattle.place_core.specs.declared.shape.Shape.{Shape}
use Rattle.place_core.specs.Histories.{made_by}
use Rattle.place_core.specs.Cells.{entries_by}
use Rattle.place_core.specs.Shapes.{word_of}
use Rattle.place_core.specs.Changes.{changes_from, change_by_other}
use Rattle.place_core.specs.Earned.{changes_by_others}
use Rattle.place_core.proofs.EntryLists.{made_by-none}
use Rattle.run_steps.specs.Standing.{changes_word, changed_since}

pub was_or_is : (own was changes : Bool) → (if own then false else (was || changes)) ≡ true → (own ≡ false) × ((was ≡ true) ⊎ (changes ≡ true))
was_or_is true was changes e = let clash : false ≡ true = e in absurd cc
was_or_is false true changes e = (refl, inl refl)
was_or_is false false changes e = (refl, inr e)

then_is : (own was changes : Bool) → own ≡ false → (was ≡ true) ⊎ (changes ≡ true) → (if own then false else (was || changes)) ≡ true
then_is true was changes e h = let clash : true ≡ false = e in absurd cc
then_is false true changes e h = refl
then_is false false changes e (inl h) = let clash : false ≡ true = h in absurd cc
then_is false false changes e (inr h) = h

-- one entry counts where it is another's and changes the word
counts : (own same : Bool) → own ≡ false → not same ≡ true → (let n : ℕ = if own then 0 else (if same then 0 else 1) in 1 ≤ n)
counts true same e h = let clash : true ≡ false = e in absurd cc
counts false true e h = let clash : false ≡ true = h in absurd cc
counts false false e h = omega arith

counts_not : (own same : Bool) → not same ≡ false → (let n : ℕ = if own then 0 else (if same then 0 else 1) in n ≡ 0)
counts_not true same h = refl
counts_not false true h = refl
counts_not false false h = let clash : true ≡ false = h in absurd cc

quiet_rest : (own : Bool) (x : Entry) (rest : List Entry) → (if own then x ∷ rest else rest) ≡ [] → (own ≡ false) × (rest ≡ [])
quiet_rest true x rest e = absurd cc
quiet_rest false x rest e = (refl, e)

quiet_here : (own : Bool) (x : Entry) (rest : List Entry) → own ≡ false → rest ≡ [] → (if own then x ∷ rest else rest) ≡ []
quiet_here true x rest e h = let clash : true ≡ false = e in absurd cc
quiet_here false x rest e h = h

true_or_false : (b : Bool) → (b ≡ true) ⊎ (b ≡ false)
true_or_false true = inl refl
true_or_false false = inr refl

-- entries that come after `before`, cut where the last entry of caller c stands or earlier: another changed the word behind the cut, or had changed it
-- before, where the cut is in front of all
pub record Cut (S : Shape) (w c : ℕ) (was : Bool) (before xs : List Entry) : Type 0 where
  pub front : List Entry
  pub since : List Entry
  pub split : xs ≡ front ++ since
  pub quiet : entries_by since c ≡ []
  pub cause : (1 ≤ changes_by_others S w c (before ++ front) since) ⊎ ((was ≡ true) × (front ≡ []))

module _ (S : Shape) (w c : ℕ) where
  quiet_cons : (x : Entry) (xs : List Entry) → entries_by (x ∷ xs) c ≡ [] → ((x.caller == c) ≡ false) × (entries_by xs c ≡ [])
  unfolding made_by
  quiet_cons x xs e = quiet_rest (x.caller == c) x (entries_by xs c) e

  cons_quiet : (x : Entry) (xs : List Entry) → (x.caller == c) ≡ false → entries_by xs c ≡ [] → entries_by (x ∷ xs) c ≡ []
  unfolding made_by
  cons_quiet x xs other quiet = quiet_here (x.caller == c) x (entries_by xs c) other quiet

  count_here : (before : List Entry) (x : Entry) (xs : List Entry) → (x.caller == c) ≡ false → changes_word S w before x ≡ true → 1 ≤ changes_by_others S w c before (x ∷ xs)
  unfolding changes_from
  count_here before x xs other changes =
      let here = counts (x.caller == c) (word_of S (before ++ x ∷ []) w == word_of S before w) other changes in
      let one : 1 ≤ change_by_other (λ (y : Entry). y.caller) (λ H. word_of S H w) c before x = here in omega arith

  count_rest : (before : List Entry) (x : Entry) (xs : List Entry) → changes_word S w before x ≡ false → 1 ≤ changes_by_others S w c before (x ∷ xs) → 1 ≤ changes_by_others S w c (before ++ x ∷ []) xs
  unfolding changes_from
  count_rest before x xs kept some =
      let none : change_by_other (λ (y : Entry). y.caller) (λ H. word_of S H w) c before x ≡ 0 = counts_not (x.caller == c) (word_of S (before ++ x ∷ []) w == word_of S before w) kept in omega arith

  count_none : (before : List Entry) → 1 ≤ changes_by_others S w c before [] → ⊥
  unfolding changes_from
  count_none before some = omega arith

  pub Cut-from_changed : (was : Bool) (before xs : List Entry) → changed_since S w c was before xs ≡ true → Cut S w c was before xs
  unfolding changed_since
  Cut-from_changed was before [] e = record { front = []; since = []; split = refl; quiet = made_by-none (λ (y : Entry). y.caller) c; cause = inr (e, refl) }
  Cut-from_changed was before (x ∷ xs) e =
      let rest = Cut-from_changed (if x.caller == c then false else (was || changes_word S w before x)) (before ++ x ∷ []) xs e in
      elim rest.cause [
        | inl some ↦ record {
          front = x ∷ rest.front;
          since = rest.since;
          split = ap (λ l. x ∷ l) rest.split;
          quiet = rest.quiet;
          cause = inl (subst (λ l. 1 ≤ changes_by_others S w c l rest.since) (append_assoc before (x ∷ []) rest.front) some);
        }
        | inr (now, none) ↦
            let facts = was_or_is (x.caller == c) was (changes_word S w before x) now in
            let all : xs ≡ rest.since = rest.split ∙ ap (λ l. l ++ rest.since) none in
            record {
              front = [];
              since = x ∷ xs;
              split = refl;
              quiet = cons_quiet x xs facts.0 (ap (λ l. entries_by l c) all ∙ rest.quiet);
              cause = elim facts.1 [
                | inl h ↦ inr (h, refl)
                | inr h ↦ inl (subst (λ l. 1 ≤ changes_by_others S w c l (x ∷ xs)) (sym (append-nil before)) (count_here before x xs facts.0 h))
              ];
            }
      ]

  pub changed-from_Cut : (was : Bool) (before xs front since : List Entry) → xs ≡ front ++ since → entries_by since c ≡ [] → (1 ≤ changes_by_others S w c (before ++ front) since) ⊎ ((was ≡ true) × (front ≡ []))
      → changed_since S w c was before xs ≡ true
  unfolding changed_since
  changed-from_Cut was before [] [] since split quiet (inl some) = let none : since ≡ [] = sym split in absurd (count_none (before ++ []) (subst (λ l. 1 ≤ changes_by_others S w c (before ++ []) l) none some))
  changed-from_Cut was before [] [] since split quiet (inr h) = h.0
  changed-from_Cut was before [] (y ∷ front) since split quiet cause = absurd cc
  changed-from_Cut was before (x ∷ xs) (y ∷ front) since split quiet (inl some) =
      let one : x ≡ y = cc in
      let rest : xs ≡ front ++ since = cc in
      changed-from_Cut (if x.caller == c then false else (was || changes_word S w before x)) (before ++ x ∷ []) xs front since rest quiet
      (inl (subst (λ l. 1 ≤ changes_by_others S w c l since) (ap (λ z. before ++ z ∷ front) (sym one) ∙ sym (append_assoc before (x ∷ []) front)) some))
  changed-from_Cut was before (x ∷ xs) (y ∷ front) since split quiet (inr h) = absurd (cc (h.1))
  changed-from_Cut was before (x ∷ xs) [] since split quiet cause =
      let facts = quiet_cons x xs (ap (λ l. entries_by l c) split ∙ quiet) in
      elim (true_or_false (was || changes_word S w before x)) [
        | inl h ↦ changed-from_Cut (if x.caller == c then false else (was || changes_word S w before x)) (before ++ x ∷ []) xs [] xs refl facts.1
            (inr (then_is (x.caller == c) was (changes_word S w before x) facts.0 (either_of was (changes_word S w before x) h), refl))
        | inr h ↦ changed-from_Cut (if x.caller == c then false else (was || changes_word S w before x)) (before ++ x ∷ []) xs [] xs refl facts.1
            (inl (subst (λ l. 1 ≤ changes_by_others S w c l xs) (sym (append-nil (before ++ x ∷ [])))
            (count_rest before x xs (second_false was (changes_word S w before x) h)
            (elim cause [
              | inl some ↦ subst (λ l. 1 ≤ changes_by_others S w c l (x ∷ xs)) (append-nil before) (subst (λ l. 1 ≤ changes_by_others S w c (before ++ []) l) (sym split) some)
              | inr g ↦ absurd (first_not was (changes_word S w before x) h g.0)
            ]))))
      ]
    where
      either_of : (a b : Bool) → (a || b) ≡ true → (a ≡ true) ⊎ (b ≡ true)
      either_of true b h = inl refl
      either_of false b h = inr h

      second_false : (a b : Bool) → (a || b) ≡ false → b ≡ false
      second_false true b h = let clash : true ≡ false = h in absurd cc
      second_false false b h = h

      first_not : (a b : Bool) → (a || b) ≡ false → a ≡ true → ⊥
      first_not true b h e = let clash : true ≡ false = h in cc
      first_not false b h e = cc

  -- one more entry
  pub changed_since-snoc : (was : Bool) (before xs : List Entry) (x : Entry) → changed_since S w c was before (xs ++ x ∷ []) ≡ (if x.caller == c then false else (changed_since S w c was before xs || changes_word S w (before ++ xs) x))
  unfolding changed_since
  changed_since-snoc was before [] x = ap (λ l. if x.caller == c then false else (was || changes_word S w l x)) (sym (append-nil before))
  changed_since-snoc was before (y ∷ ys) x =
      changed_since-snoc (if y.caller == c then false else (was || changes_word S w before y)) (before ++ y ∷ []) ys x
      ∙ ap (λ l. if x.caller == c then false else (changed_since S w c (if y.caller == c then false else (was || changes_word S w before y)) (before ++ y ∷ []) ys || changes_word S w l x)) (append_assoc before (y ∷ []) ys)
