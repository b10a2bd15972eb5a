-- What a name is read as.
use Rattle.std.proofs.Common.{◌≡◌, inl, inr, ◌↔◌, ℕ, ◌-◌, Bool, true, false, cond, List, [], ◌∷◌, ◌++◌, length, take, drop, codes, Option, Some, None, refl, ap, sym, ◌∙◌, subst}
use Rattle.std.specs.List.{AllByRecursion}
use Rattle.std.specs.Str.{bytes_eq}
use Rattle.std.proofs.lemmas.Bool.{cases_Bool}
use Rattle.std.proofs.lemmas.List.{take-append-drop}
use Rattle.std.proofs.lemmas.Slice.Eq.{bytes_eq-Decides}
use Rattle.op_table.proofs.Tables.{among_rows_by}
use Rattle.sized_calls.specs.declared.operation.SizedOp.{SizedOp}
use Rattle.sized_calls.specs.declared.operation.SizedOp.TheVariants.{Load, Store, Exchange, CompareExchange, FetchAdd, FetchSub, FetchAnd, FetchOr, FetchXor, FetchNand, AddFetch, SubFetch, AndFetch, OrFetch, XorFetch, NandFetch}
use Rattle.sized_calls.specs.Sizes.{is_size, sizes, size_digits}
use Rattle.sized_calls.specs.Names.{operation_words, name_of, IsSizedName, operations, operation_of_words, split_by, split_size, sized, operation_and_size, reading_of}
use Rattle.sized_calls.proofs.Sizes.{each_size}

-- ---- the size at the end

abbrev pub ending : ℕ → List ℕ
ending size = codes "_" ++ size_digits size

abbrev pub before : List ℕ → ℕ → ℕ
before text size = length text - length (ending size)

-- the text ends with the first of the sizes
pub ends : (size : ℕ) (more text words : List ℕ) → bytes_eq (drop (before text size) text) (ending size) ≡ true → words ≡ take (before text size) text → split_by (size ∷ more) text ≡ Some (words, size)
ends size more text words e is =
    ap (λ (b : Bool). cond b (Some (take (before text size) text, size)) (split_by more text)) e ∙ ap (λ (w : List ℕ). Some (w, size)) (sym is)

-- it doesn't
pub goes_on : (size : ℕ) (more text : List ℕ) → bytes_eq (drop (before text size) text) (ending size) ≡ false → split_by (size ∷ more) text ≡ split_by more text
goes_on size more text e = ap (λ (b : Bool). cond b (Some (take (before text size) text, size)) (split_by more text)) e

inside : {A : Type 0} (x y : A) → Some x ≡ Some y → x ≡ y
inside x y e = cc

-- what stands before the size, and the size, are the text
abbrev IsSplit : List ℕ → List ℕ → ℕ → Type 0
IsSplit text words size = text ≡ words ++ ending size

split_is : (all : List ℕ) (P : ℕ → Type 0) → AllByRecursion P all → (text words : List ℕ) (size : ℕ) → split_by all text ≡ Some (words, size) → P size × IsSplit text words size
split_is [] P each text words size e = absurd cc
split_is (n ∷ more) P each text words size e = elim (cases_Bool (bytes_eq (drop (before text n) text) (ending n))) [
  | inl same ↦
      let found : Some (take (before text n) text, n) ≡ Some (words, size) = sym (ends n more text (take (before text n) text) same refl) ∙ e in
      let pair : (take (before text n) text, n) ≡ (words, size) = inside _ _ found in
      let is_size : n ≡ size = ap (λ (p : List ℕ × ℕ). p.1) pair in
      let is_words : take (before text n) text ≡ words = ap (λ (p : List ℕ × ℕ). p.0) pair in
      (subst P is_size each.0, sym (take-append-drop (before text n) text) ∙ (ap (λ (w : List ℕ). w ++ drop (before text n) text) is_words ∙ ap (λ (w : List ℕ). words ++ w) ((bytes_eq-Decides _ _).0 same ∙ ap ending is_size)))
  | inr other ↦ split_is more P each.1 text words size (sym (goes_on n more text other) ∙ e)
]

pub split_size_is : (text words : List ℕ) (size : ℕ) → split_size text ≡ Some (words, size) → (is_size size ≡ true) × IsSplit text words size
unfolding split_size
split_size_is text words size e = split_is sizes (λ n. is_size n ≡ true) (refl, (refl, (refl, (refl, (refl, tt))))) text words size e

-- ---- the words before it

words_are : (words : List ℕ) (op : SizedOp) → operation_of_words words ≡ Some op → words ≡ operation_words op
unfolding operation_of_words
words_are words op e = among_rows_by operation_words operations words op e

-- ---- both ways

name_reads : (op : SizedOp) (size : ℕ) → is_size size ≡ true → reading_of (name_of op size) ≡ Some (op, size)
unfolding operation_of_words split_size
name_reads Load = each_size (λ n. reading_of (name_of Load n) ≡ Some (Load, n)) refl refl refl refl refl
name_reads Store = each_size (λ n. reading_of (name_of Store n) ≡ Some (Store, n)) refl refl refl refl refl
name_reads Exchange = each_size (λ n. reading_of (name_of Exchange n) ≡ Some (Exchange, n)) refl refl refl refl refl
name_reads CompareExchange = each_size (λ n. reading_of (name_of CompareExchange n) ≡ Some (CompareExchange, n)) refl refl refl refl refl
name_reads FetchAdd = each_size (λ n. reading_of (name_of FetchAdd n) ≡ Some (FetchAdd, n)) refl refl refl refl refl
name_reads FetchSub = each_size (λ n. reading_of (name_of FetchSub n) ≡ Some (FetchSub, n)) refl refl refl refl refl
name_reads FetchAnd = each_size (λ n. reading_of (name_of FetchAnd n) ≡ Some (FetchAnd, n)) refl refl refl refl refl
name_reads FetchOr = each_size (λ n. reading_of (name_of FetchOr n) ≡ Some (FetchOr, n)) refl refl refl refl refl
name_reads FetchXor = each_size (λ n. reading_of (name_of FetchXor n) ≡ Some (FetchXor, n)) refl refl refl refl refl
name_reads FetchNand = each_size (λ n. reading_of (name_of FetchNand n) ≡ Some (FetchNand, n)) refl refl refl refl refl
name_reads AddFetch = each_size (λ n. reading_of (name_of AddFetch n) ≡ Some (AddFetch, n)) refl refl refl refl refl
name_reads SubFetch = each_size (λ n. reading_of (name_of SubFetch n) ≡ Some (SubFetch, n)) refl refl refl refl refl
name_reads AndFetch = each_size (λ n. reading_of (name_of AndFetch n) ≡ Some (AndFetch, n)) refl refl refl refl refl
name_reads OrFetch = each_size (λ n. reading_of (name_of OrFetch n) ≡ Some (OrFetch, n)) refl refl refl refl refl
name_reads XorFetch = each_size (λ n. reading_of (name_of XorFetch n) ≡ Some (XorFetch, n)) refl refl refl refl refl
name_reads NandFetch = each_size (λ n. reading_of (name_of NandFetch n) ≡ Some (NandFetch, n)) refl refl refl refl refl

sized_is : (found : Option SizedOp) (n : ℕ) (op : SizedOp) (size : ℕ) → sized n found ≡ Some (op, size) → (found ≡ Some op) × (n ≡ size)
sized_is None n op size e = absurd cc
sized_is (Some o) n op size e =
    let pair : (o, n) ≡ (op, size) = inside _ _ e in
    (ap (λ (p : SizedOp × ℕ). Some p.0) pair, ap (λ (p : SizedOp × ℕ). p.1) pair)

split_reads : (text : List ℕ) (found : Option (List ℕ × ℕ)) (op : SizedOp) (size : ℕ) → split_size text ≡ found → operation_and_size found ≡ Some (op, size) → (is_size size ≡ true) × (text ≡ operation_words op ++ ending size)
split_reads text None op size is e = absurd cc
split_reads text (Some (words, n)) op size is e =
    let s = sized_is (operation_of_words words) n op size e in
    let cut = split_size_is text words n is in
    (subst (λ (k : ℕ). is_size k ≡ true) s.1 cut.0, cut.1 ∙ (ap (λ (w : List ℕ). w ++ ending n) (words_are words op s.0) ∙ ap (λ (k : ℕ). operation_words op ++ ending k) s.1))

name_is : (text : List ℕ) (op : SizedOp) (size : ℕ) → reading_of text ≡ Some (op, size) → IsSizedName text op size
name_is text op size e = elim (cases_Bool (bytes_eq (take 9 text) (codes "__atomic_"))) [
  | inl same ↦
      let rest : operation_and_size (split_size (drop 9 text)) ≡ Some (op, size) = sym (ap (λ (b : Bool). cond b (operation_and_size (split_size (drop 9 text))) None) same) ∙ e in
      let s = split_reads (drop 9 text) (split_size (drop 9 text)) op size refl rest in
      (s.0, sym (take-append-drop 9 text) ∙ (ap (λ (w : List ℕ). w ++ drop 9 text) ((bytes_eq-Decides _ _).0 same) ∙ ap (λ (w : List ℕ). codes "__atomic_" ++ w) s.1))
  | inr other ↦
      let none : ◌≡◌ {A = Option (SizedOp × ℕ)} None (Some (op, size)) = sym (ap (λ (b : Bool). cond b (operation_and_size (split_size (drop 9 text))) None) other) ∙ e in
      absurd cc
]

-- a name, and nothing else, is read
pub exactly : (text : List ℕ) (r : Option (SizedOp × ℕ)) → r ≡ reading_of text → (op : SizedOp) (size : ℕ) → (r ≡ Some (op, size)) ↔ IsSizedName text op size
exactly text r e op size = (
  λ is. name_is text op size (sym e ∙ is),
  λ name. e ∙ (ap reading_of name.1 ∙ name_reads op size name.0),
)
