-- Operands that are read are spelled, and operands that are spelled are read.
use Rattle.std.proofs.Common.{◌≡◌, ℕ, ◌+◌, List, [], ◌∷◌, ◌++◌, Ok, refl, sym, ap, subst, ◌∙◌}
use Rattle.line_words.specs.Cursor.{Cursor}
use Rattle.op_table.specs.declared.kind.Kind.{Kind}
use Rattle.op_table.specs.declared.call.Call.{Call}
use Rattle.op_table.specs.declared.words.Operation.{Operation}
use Rattle.op_table.specs.Kind.{IsKind}
use Rattle.op_table.specs.Call.{CallFits}
use Rattle.op_table.specs.Value.{parsed_value}
use Rattle.op_table.specs.Words.{operation_of}
use Rattle.op_table.proofs.ValueTexts.{read_is_value}
use Rattle.work_lang.specs.Operands.{Form, Alone, WithValue, WithPosition, WithValues, position_kind, Operand, operand, operands_of, HasPosition}
use Rattle.work_lang.specs.Slips.{word_at, value_at}
use Rattle.work_lang.specs.Reading.{number_at, one_operand_at, two_operands_at, operands_at}
use Rattle.work_lang.specs.Spelling.{Pairs}
use Rattle.work_lang.proofs.Steps.{word_then, value_then, bind_then, ok_is}
use Rattle.work_lang.proofs.OperandForms.{Makes, FormMakes, FormGives}

pub position_is_kind : IsKind position_kind
position_is_kind e = cc

-- the text spells the operand
abbrev pub Spelled : Operand → List ℕ → Type 0
Spelled o text = parsed_value o.kind text ≡ Ok o.value

-- ---- reading

number_takes : (kind : Kind) (c : Cursor) (x : ℕ × Cursor) → number_at kind c ≡ Ok x → (text : List ℕ) × (c.left ≡ text ∷ x.1.left) × (parsed_value kind text ≡ Ok x.0)
unfolding number_at
number_takes kind c x e =
    let w = word_then c _ x e in
    let v = value_then _ (parsed_value kind w.0) _ x w.3 in
    subst (λ (y : ℕ × Cursor). (text : List ℕ) × (c.left ≡ text ∷ y.1.left) × (parsed_value kind text ≡ Ok y.0)) (ok_is _ _ v.2) (w.0, w.2, v.1)

pub record TakesOperands (kind : Kind) (op : Operation) (x : Call) (ws rest : List (List ℕ)) : Type 0 where
  pub named : operation_of kind x ≡ op
  pub fits : CallFits kind x
  pub position : HasPosition x
  pub texts : List (List ℕ)
  pub spelled : Pairs Spelled (operands_of kind x) texts
  pub all : ws ≡ texts ++ rest

taken : (kind : Kind) (op : Operation) (x : Call) (operands : List Operand) (texts ws rest : List (List ℕ)) → Makes kind op x operands → Pairs Spelled operands texts → ws ≡ texts ++ rest → TakesOperands kind op x ws rest
taken kind op x operands texts ws rest makes spelled all = record { named = makes.0; fits = makes.1; position = makes.2; texts = texts; spelled = subst (λ (os : List Operand). Pairs Spelled os texts) (sym makes.3) spelled; all = all }

one_takes : (kind own : Kind) (op : Operation) (f : ℕ → Call) (c : Cursor) (x : Call × Cursor) → ((text : List ℕ) (a : ℕ) → parsed_value own text ≡ Ok a → Makes kind op (f a) (operand own a ∷ [])) → one_operand_at own f c ≡ Ok x → TakesOperands kind op x.0 c.left x.1.left
unfolding one_operand_at
one_takes kind own op f c x makes e =
    let a = bind_then (number_at own c) _ x e in
    let t = number_takes own c a.0 a.1 in
    subst (λ (y : Call × Cursor). TakesOperands kind op y.0 c.left y.1.left) (ok_is _ _ a.2) (taken kind op (f a.0.0) (operand own a.0.0 ∷ []) (t.0 ∷ []) c.left a.0.1.left (makes t.0 a.0.0 t.2) (t.2, tt) t.1)

two_takes : (kind : Kind) (op : Operation) (f : ℕ → ℕ → Call) (c : Cursor) (x : Call × Cursor) → IsKind kind → FormMakes kind op (WithValues f) → two_operands_at kind f c ≡ Ok x → TakesOperands kind op x.0 c.left x.1.left
unfolding two_operands_at
two_takes kind op f c x is makes e =
    let a = bind_then (number_at kind c) _ x e in
    let s = number_takes kind c a.0 a.1 in
    let b = bind_then (number_at kind a.0.1) _ x a.2 in
    let t = number_takes kind a.0.1 b.0 b.1 in
    let words : c.left ≡ s.0 ∷ t.0 ∷ b.0.1.left = s.1 ∙ ap (λ (ws : List (List ℕ)). s.0 ∷ ws) t.1 in
    let made = makes a.0.0 b.0.0 (read_is_value kind s.0 a.0.0 is s.2) (read_is_value kind t.0 b.0.0 is t.2) in
    subst (λ (y : Call × Cursor). TakesOperands kind op y.0 c.left y.1.left) (ok_is _ _ b.2) (taken kind op (f a.0.0 b.0.0) (operand kind a.0.0 ∷ operand kind b.0.0 ∷ []) (s.0 ∷ t.0 ∷ []) c.left b.0.1.left made (s.2, (t.2, tt)) words)

pub operands_takes : (kind : Kind) (op : Operation) (f : Form) (c : Cursor) (x : Call × Cursor) → IsKind kind → FormMakes kind op f → operands_at kind f c ≡ Ok x → TakesOperands kind op x.0 c.left x.1.left
unfolding operands_at
operands_takes kind op (Alone y) c x is makes e = subst (λ (z : Call × Cursor). TakesOperands kind op z.0 c.left z.1.left) (ok_is _ _ e) (taken kind op y [] [] c.left c.left makes tt refl)
operands_takes kind op (WithValue f) c x is makes e = one_takes kind kind op f c x (λ text a read. makes a (read_is_value kind text a is read)) e
operands_takes kind op (WithPosition f) c x is makes e = one_takes kind position_kind op f c x (λ text p read. makes p (read_is_value position_kind text p position_is_kind read)) e
operands_takes kind op (WithValues f) c x is makes e = two_takes kind op f c x is makes e

-- ---- and back

none_left : (ts : List (List ℕ)) → Pairs Spelled [] ts → ts ≡ []
none_left [] pairs = refl
none_left (t ∷ ts) pairs = absurd pairs

one_left : (o : Operand) (os : List Operand) (ts : List (List ℕ)) → Pairs Spelled (o ∷ os) ts → (t : List ℕ) × (more : List (List ℕ)) × Spelled o t × Pairs Spelled os more × (ts ≡ t ∷ more)
one_left o os [] pairs = absurd pairs
one_left o os (t ∷ ts) pairs = (t, ts, pairs.0, pairs.1, refl)

number_again : (kind : Kind) (v k : ℕ) (text : List ℕ) (rest : List (List ℕ)) → parsed_value kind text ≡ Ok v → number_at kind (record { taken = k; left = text ∷ rest }) ≡ Ok (v, record { taken = k + 1; left = rest })
unfolding number_at word_at value_at
number_again kind v k text rest e = rw e refl

abbrev pub at_words : ℕ → List (List ℕ) → Cursor
at_words k ws = record { taken = k; left = ws }

one_again : (own : Kind) (f : ℕ → Call) (x : Call) (a k : ℕ) (texts rest : List (List ℕ)) → f a ≡ x → Pairs Spelled (operand own a ∷ []) texts → one_operand_at own f (at_words k (texts ++ rest)) ≡ Ok (x, at_words (k + 1) rest)
unfolding one_operand_at
one_again own f x a k texts rest made spelled =
    let t = one_left (operand own a) [] texts spelled in
    let texts-is : texts ++ rest ≡ t.0 ∷ rest = ap (λ (ts : List (List ℕ)). ts ++ rest) (t.4 ∙ ap (λ (ts : List (List ℕ)). t.0 ∷ ts) (none_left t.1 t.3)) in
    rw (texts-is, number_again own a k t.0 rest t.2, made) refl

two_again : (kind : Kind) (f : ℕ → ℕ → Call) (x : Call) (e n k : ℕ) (texts rest : List (List ℕ)) → f e n ≡ x → Pairs Spelled (operand kind e ∷ operand kind n ∷ []) texts → two_operands_at kind f (at_words k (texts ++ rest)) ≡ Ok (x, at_words (k + 1 + 1) rest)
unfolding two_operands_at
two_again kind f x e n k texts rest made spelled =
    let s = one_left (operand kind e) (operand kind n ∷ []) texts spelled in
    let t = one_left (operand kind n) [] s.1 s.3 in
    let texts-is : texts ++ rest ≡ s.0 ∷ t.0 ∷ rest = ap (λ (ts : List (List ℕ)). ts ++ rest) (s.4 ∙ ap (λ (ts : List (List ℕ)). s.0 ∷ ts) (t.4 ∙ ap (λ (ts : List (List ℕ)). t.0 ∷ ts) (none_left t.1 t.3))) in
    rw (texts-is, number_again kind e k s.0 (t.0 ∷ rest) s.2, number_again kind n (k + 1) t.0 rest t.2, made) refl

pub operands_again : (kind : Kind) (f : Form) (x : Call) (os : List Operand) (k : ℕ) (texts rest : List (List ℕ)) → FormGives kind f x os → Pairs Spelled os texts → (j : ℕ) × (operands_at kind f (at_words k (texts ++ rest)) ≡ Ok (x, at_words j rest))
unfolding operands_at
operands_again kind (Alone y) x os k texts rest gives spelled =
    let texts-is : texts ≡ [] = none_left texts (subst (λ (l : List Operand). Pairs Spelled l texts) gives.1 spelled) in
    (k, rw (texts-is, gives.0) refl)
operands_again kind (WithValue f) x os k texts rest gives spelled = (k + 1, one_again kind f x gives.0 k texts rest gives.1 (subst (λ (l : List Operand). Pairs Spelled l texts) gives.2 spelled))
operands_again kind (WithPosition f) x os k texts rest gives spelled = (k + 1, one_again position_kind f x gives.0 k texts rest gives.1 (subst (λ (l : List Operand). Pairs Spelled l texts) gives.2 spelled))
operands_again kind (WithValues f) x os k texts rest gives spelled = (k + 1 + 1, two_again kind f x gives.0 gives.1 k texts rest gives.2 (subst (λ (l : List Operand). Pairs Spelled l texts) gives.3 spelled))
