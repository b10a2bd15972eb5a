-- The words of kinds, operations and orders are read as what they were printed of.
use Rattle.std.proofs.Common.{◌≡◌, ◌⊎◌, Bool, true, false, ℕ, List, [], ◌∷◌, ◌++◌, Option, Some, None, codes, inl, inr, refl, sym, subst}
use Rattle.std.specs.List.{AllByRecursion}
use Rattle.std.specs.Str.{bytes_eq}
use Rattle.std.proofs.lemmas.Slice.Eq.{bytes_eq-Decides}
use Rattle.op_table.specs.declared.kind.Width.{Width}
use Rattle.op_table.specs.declared.kind.Width.TheVariants.{W1, W8, W16, W32, W64, W128}
use Rattle.op_table.specs.declared.kind.Class.{Class}
use Rattle.op_table.specs.declared.kind.Class.TheVariants as class
use Rattle.op_table.specs.declared.kind.Kind.{Kind}
use Rattle.op_table.specs.declared.order.Order.TheVariants.{Relaxed, Acquire, Release, AcqRel, SeqCst}
use Rattle.op_table.specs.declared.words.Operation.TheVariants.{Load, FetchByteAdd, FetchByteSub}
use Rattle.op_table.specs.Kind.{IsKind, IsOfClass}
use Rattle.op_table.specs.Words.{among, rows_by, integer, kind_word, kinds, kind_of_word, operation_word, operations_of, operation_of_word}
use Rattle.op_table.specs.Orders.{order_word, orders, order_of_word}
use Rattle.op_table.specs.Laws.{OperationWordIsRead, OperationHasOneWord, OrderWordIsRead, OrderHasOneWord, KindWordIsRead, KindHasItsWords}
use Rattle.op_table.proofs.Tables.{among_rows_by, among_append, among_all}
use Rattle.op_table.proofs.Digits.{chosen}

-- ---- operations

pub operation_word_is_read : OperationWordIsRead
unfolding operation_of_word
operation_word_is_read Load = refl
operation_word_is_read _ = refl

pub operation_has_one_word : OperationHasOneWord
unfolding operation_of_word
operation_has_one_word w op e = among_rows_by operation_word (operations_of class.Int ++ (FetchByteAdd ∷ FetchByteSub ∷ [])) w op e

-- ---- orders

pub order_word_is_read : OrderWordIsRead
unfolding order_of_word
order_word_is_read Relaxed = refl
order_word_is_read Acquire = refl
order_word_is_read Release = refl
order_word_is_read AcqRel = refl
order_word_is_read SeqCst = refl

pub order_has_one_word : OrderHasOneWord
unfolding order_of_word
order_has_one_word w order e = among_rows_by order_word orders w order e

-- ---- kinds

kind_read : (c : Class) (signed : Bool) (width : Width) → IsOfClass c (record { width = width; signed = signed; class = c })
    → kind_of_word (kind_word (record { width = width; signed = signed; class = c })) ≡ Some (record { width = width; signed = signed; class = c })
unfolding kind_of_word
kind_read class.Int signed W1 is = absurd (is refl)
kind_read class.Int true W8 is = refl
kind_read class.Int true W16 is = refl
kind_read class.Int true W32 is = refl
kind_read class.Int true W64 is = refl
kind_read class.Int true W128 is = refl
kind_read class.Int false W8 is = refl
kind_read class.Int false W16 is = refl
kind_read class.Int false W32 is = refl
kind_read class.Int false W64 is = refl
kind_read class.Int false W128 is = refl
kind_read class.Bool signed width is = λ i. Some (record { width = sym is.0 i; signed = sym is.1 i; class = class.Bool })
kind_read class.Ptr signed width is = λ i. Some (record { width = sym is.0 i; signed = sym is.1 i; class = class.Ptr })

pub kind_word_is_read : KindWordIsRead
kind_word_is_read kind is = kind_read kind.class kind.signed kind.width is

kinds_are_kinds : AllByRecursion IsKind kinds
kinds_are_kinds = ((refl, refl), ((λ e. cc), ((λ e. cc), ((λ e. cc), ((λ e. cc), ((λ e. cc), ((λ e. cc), ((λ e. cc), ((λ e. cc), ((λ e. cc), ((λ e. cc), ((refl, refl), tt))))))))))))

other_words : (w : List ℕ) (kind : Kind) → among ((codes "isize", integer true W64) ∷ (codes "usize", integer false W64) ∷ []) w ≡ Some kind
    → ((w ≡ codes "isize") × (kind ≡ integer true W64)) ⊎ ((w ≡ codes "usize") × (kind ≡ integer false W64))
other_words w kind e = elim (chosen (bytes_eq w (codes "isize")) (Some (integer true W64)) _ (Some kind) e) [
  | inl t ↦ inl ((bytes_eq-Decides w (codes "isize")).0 t.0, sym (inside _ _ t.1))
  | inr f ↦ elim (chosen (bytes_eq w (codes "usize")) (Some (integer false W64)) None (Some kind) f.1) [
    | inl t ↦ inr ((bytes_eq-Decides w (codes "usize")).0 t.0, sym (inside _ _ t.1))
    | inr g ↦ absurd (none_some g.1)
  ]
]
  where
    inside : (x y : Kind) → Some x ≡ Some y → x ≡ y
    inside x y e = cc

    none_some : ◌≡◌ {A = Option Kind} None (Some kind) → ⊥
    none_some e = cc

pub kind_has_its_words : KindHasItsWords
unfolding kind_of_word
kind_has_its_words w kind e = elim (among_append (rows_by kind_word kinds) ((codes "isize", integer true W64) ∷ (codes "usize", integer false W64) ∷ []) w kind e) [
  | inl own ↦ (among_all IsKind kind_word kinds w kind kinds_are_kinds own, inl (among_rows_by kind_word kinds w kind own))
  | inr other ↦ elim (other_words w kind other) [
    | inl i ↦ (subst IsKind (sym i.1) (λ e. cc), inr (inl i))
    | inr u ↦ (subst IsKind (sym u.1) (λ e. cc), inr (inr u))
  ]
]
