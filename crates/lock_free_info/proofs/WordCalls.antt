-- The calls by which a plan table asks for the paths of words.
use Rattle.std.proofs.Common.{◌≡◌, ◌^◌, ◌<◌, true, List, [], ◌∷◌, refl, arith}
use Rattle.std.specs.List.{list_all, AllByRecursion}
use Rattle.std.proofs.lemmas.Bool.{and_parts}
use Rattle.op_table.specs.declared.kind.Kind.{Kind}
use Rattle.op_table.specs.declared.kind.Width.{Width}
use Rattle.op_table.specs.declared.kind.Width.TheVariants.{W1, W8, W16, W32, W64, W128}
use Rattle.op_table.specs.declared.kind.Class.{Class}
use Rattle.op_table.specs.declared.kind.Class.TheVariants as class
use Rattle.op_table.specs.declared.words.Operation.{Operation}
use Rattle.op_table.specs.Kind.{bits_of}
use Rattle.op_table.specs.Call.{CallFits}
use Rattle.op_table.specs.Words.{has_operation, operation_of, operations_of}
use Rattle.work_lang.specs.Operands.{Form, Alone, WithValue, WithPosition, WithValues, form_of, zero_in}
use Rattle.work_lang.proofs.OperandForms.{FormMakes, form_makes}
use Rattle.lock_free_info.specs.Laws.{IsCallOf, WordsHaveCalls}

some_values : (w : Width) → 0 < 2 ^ bits_of w
some_values W1 = omega arith
some_values W8 = omega arith
some_values W16 = omega arith
some_values W32 = omega arith
some_values W64 = omega arith
some_values W128 = omega arith

-- 0 is a value of each kind, and a position
zero_makes : (kind : Kind) (op : Operation) (f : Form) → FormMakes kind op f → CallFits kind (zero_in f) × (operation_of kind (zero_in f) ≡ op)
zero_makes kind op (Alone x) makes = (makes.1, makes.0)
zero_makes kind op (WithValue f) makes = let made = makes 0 (some_values kind.width) in (made.1, made.0)
zero_makes kind op (WithPosition f) makes = let made = makes 0 (omega arith) in (made.1, made.0)
zero_makes kind op (WithValues f) makes = let made = makes 0 0 (some_values kind.width) (some_values kind.width) in (made.1, made.0)

each_have : (kind : Kind) (ops : List Operation) → list_all (has_operation kind.class) ops ≡ true → AllByRecursion (IsCallOf kind) ops
each_have kind [] all = tt
each_have kind (op ∷ ops) all =
    let parts = and_parts (has_operation kind.class op) (list_all (has_operation kind.class) ops) all in
    (zero_makes kind op (form_of op) (form_makes kind op parts.0), each_have kind ops parts.1)

-- a class has each operation of its list
has_all : (c : Class) → list_all (has_operation c) (operations_of c) ≡ true
has_all class.Int = refl
has_all class.Bool = refl
has_all class.Ptr = refl

pub words_have_calls : WordsHaveCalls
words_have_calls kind = each_have kind (operations_of kind.class) (has_all kind.class)
