-- The plan table, as a list of lines, each with its end: for each object where it lies, and how each of its words is
-- served there.
use Rattle.std.specs.Prelude.{ℕ, ◌+◌, List, [], ◌∷◌, ◌++◌, map, codes}
use Rattle.std.specs.Fmt.{decimal}
use Rattle.op_table.specs.declared.words.Operation.{Operation}
use Rattle.op_table.specs.Words.{kind_word, operation_word, operations_of}
use Rattle.target_desc.specs.declared.target.Target.{Target}
use Rattle.place_core.specs.declared.name.Declared.{Declared}
use Rattle.place_core.specs.declared.places.Place.{Place}
use Rattle.place_core.specs.declared.places.Place.TheVariants.{Lane, Parts}
use Rattle.place_core.specs.declared.shape.Shape.{Shape}
use Rattle.layout_plan.specs.Layout.{next_address, place_after, place_at, shape_of}
use Rattle.work_lang.specs.Streams.{text_of}
use Rattle.work_lang.specs.Canonical.{target_line}
use Rattle.lock_free_info.specs.declared.classes.PathClass.{PathClass}
use Rattle.lock_free_info.specs.declared.classes.PathClass.TheVariants as path_class
use Rattle.lock_free_info.specs.Classes.{class_of}
use Rattle.work_lang.specs.Operands.{zero_call}

abbrev pub class_word : PathClass → List ℕ
class_word path_class.One = codes "one"
class_word path_class.Loop = codes "loop"
class_word path_class.Locked = codes "locked"

-- a word of an object, and the class of its path
abbrev pub word_line : Declared → Operation → PathClass → List ℕ
word_line x op class = x.name ++ 32 ∷ (operation_word op ++ 32 ∷ (class_word class ++ 10 ∷ []))

-- a number behind what it is
abbrev pub field : List ℕ → ℕ → List ℕ
field label n = label ++ decimal n

-- where an object lies
abbrev pub place_text : Place → List ℕ
place_text (Lane w s d) = field (codes " word ") w ++ field (codes " shift ") s ++ codes " lock_free true"
place_text (Parts l f n b) = field (codes " parts ") n ++ field (codes " first ") f ++ field (codes " lock ") l ++ codes " lock_free false"

-- an object at its address in bytes
abbrev pub object_line : Declared → ℕ → Place → List ℕ
object_line x a place = x.name ++ 32 ∷ (kind_word x.kind ++ field (codes " address ") a ++ place_text place ++ 10 ∷ [])

-- the words of object o of a shape, and the classes of their paths
abbrev pub word_lines : Shape → ℕ → Declared → List Operation → List (List ℕ)
word_lines S o x ops = map (λ (op : Operation). word_line x op (class_of S o (zero_call op))) ops

-- an object, and then each word of its class, in the order of the table of words
abbrev pub object_lines : Target → Shape → ℕ → Declared → ℕ → List (List ℕ)
object_lines t S o x a = object_line x a (place_at t x.kind a) ∷ word_lines S o x (operations_of x.kind.class)

-- the objects from number o on, where `after` is the place after those before
abbrev pub lines_from : Target → Shape → ℕ → ℕ → List Declared → List (List ℕ)
lines_from t S o after [] = []
lines_from t S o after (x ∷ xs) = object_lines t S o x (next_address t after x.kind) ++ lines_from t S (o + 1) (place_after t after x.kind) xs

-- the plan table of objects on a target
abbrev pub plan_lines : Target → List Declared → List (List ℕ)
plan_lines t xs = target_line t ∷ lines_from t (shape_of t xs) 0 0 xs

-- its text
unfoldable pub plan_table : Target → List Declared → List ℕ
plan_table t xs = text_of (plan_lines t xs)
