-- The lines of a plan table are short.
use Rattle.std.proofs.Common.{ℕ, ◌+◌, ◌*◌, ◌^◌, ◌<◌, ◌≤◌, List, [], ◌∷◌, ◌++◌, length, codes, arith, length-append}
use Rattle.std.specs.List.{AllByRecursion}
use Rattle.std.specs.Fmt.{decimal}
use Rattle.std.proofs.lemmas.Fmt.{length-decimal-le}
use Rattle.op_table.specs.declared.kind.Kind.{Kind}
use Rattle.op_table.specs.declared.words.Operation.{Operation}
use Rattle.op_table.specs.Kind.{bytes_of, IsKind}
use Rattle.op_table.specs.Words.{operations_of, kind_word}
use Rattle.op_table.proofs.ShortWords.{kind_word_is_short, operation_word_is_short}
use Rattle.target_desc.specs.declared.target.Target.{Target}
use Rattle.target_desc.specs.Target.{IsTarget}
use Rattle.target_desc.specs.Text.{target_text}
use Rattle.target_desc.proofs.Printed.{text_is_short}
use Rattle.place_core.specs.declared.name.Declared.{Declared}
use Rattle.place_core.specs.declared.places.Place.{Place}
use Rattle.place_core.specs.declared.places.Place.TheVariants.{Lane, Parts}
use Rattle.place_core.specs.declared.shape.Shape.{Shape}
use Rattle.place_core.specs.Shapes.{IsPlaced}
use Rattle.place_core.proofs.EntryLists.{all_append}
use Rattle.layout_plan.specs.Layout.{AreDeclared, next_address, place_after, place_at, shape_of}
use Rattle.layout_plan.proofs.Seating.{shape_with, next_at, few_bytes, few_words, is_placed}
use Rattle.work_lang.specs.Canonical.{target_line}
use Rattle.lock_free_info.specs.declared.classes.PathClass.{PathClass}
use Rattle.lock_free_info.specs.declared.classes.PathClass.TheVariants as path_class
use Rattle.lock_free_info.specs.Classes.{class_of}
use Rattle.work_lang.specs.Operands.{zero_call}
use Rattle.lock_free_info.specs.PlanTable.{class_word, field, word_line, word_lines, place_text, object_line, object_lines, lines_from}
use Rattle.lock_free_info.specs.Laws.{IsShortLine, HasShortName, PlanLinesAreShort}

-- ---- pieces of lines

joined : (xs ys : List ℕ) (m n most : ℕ) → length xs ≤ m → length ys ≤ n → m + n ≤ most → length (xs ++ ys) ≤ most
joined xs ys m n most first second le = omega (arith, first, second, le, length-append xs ys)

-- a number of 32 bits has 10 digits at most
field_is_short : (label : List ℕ) (n most : ℕ) → n < 2 ^ 32 → length label + 10 ≤ most → length (field label n) ≤ most
field_is_short label n most small le =
    let digits : length (decimal n) ≤ 10 = length-decimal-le 10 n (omega arith) (omega arith) (omega arith) in
    joined label (decimal n) (length label) 10 most (omega arith) digits le

class_is_short : (c : PathClass) → length (class_word c) ≤ 6
class_is_short path_class.One = omega arith
class_is_short path_class.Loop = omega arith
class_is_short path_class.Locked = omega arith

lane_is_short : (w s : ℕ) → w < 2 ^ 32 → s < 2 ^ 32 → length (field (codes " word ") w ++ field (codes " shift ") s ++ codes " lock_free true") ≤ 66
lane_is_short w s word shift =
    joined (field (codes " word ") w ++ field (codes " shift ") s) (codes " lock_free true") 33 15 66
    (joined (field (codes " word ") w) (field (codes " shift ") s) 16 17 33 (field_is_short (codes " word ") w 16 word (omega arith)) (field_is_short (codes " shift ") s 17 shift (omega arith)) (omega arith))
    (omega arith) (omega arith)

parts_are_short : (n f l : ℕ) → n < 2 ^ 32 → f < 2 ^ 32 → l < 2 ^ 32 → length (field (codes " parts ") n ++ field (codes " first ") f ++ field (codes " lock ") l ++ codes " lock_free false") ≤ 66
parts_are_short n f l parts first lock =
    joined (field (codes " parts ") n ++ field (codes " first ") f ++ field (codes " lock ") l) (codes " lock_free false") 50 16 66
    (joined (field (codes " parts ") n ++ field (codes " first ") f) (field (codes " lock ") l) 34 16 50
    (joined (field (codes " parts ") n) (field (codes " first ") f) 17 17 34 (field_is_short (codes " parts ") n 17 parts (omega arith)) (field_is_short (codes " first ") f 17 first (omega arith)) (omega arith))
    (field_is_short (codes " lock ") l 16 lock (omega arith)) (omega arith))
    (omega arith) (omega arith)

place_is_short : (S : Shape) (k : Kind) (p : Place) → S.words ≤ 2 ^ 24 → S.locks ≤ 67 → IsPlaced S k p → length (place_text p) ≤ 66
place_is_short S k (Lane w s d) words locks placed =
    let within = placed.within in let ends = placed.ends in
    lane_is_short w s (omega (arith, within, words)) (omega (arith, ends))
place_is_short S k (Parts l f n b) words locks placed =
    let within = placed.within in let below = placed.lock in
    parts_are_short n f l (omega (arith, within, words)) (omega (arith, within, words)) (omega (arith, below, locks))

-- ---- lines

word_is_short : (x : Declared) (op : Operation) (c : PathClass) → HasShortName x → IsShortLine (word_line x op c)
word_is_short x op c named =
    let word = (operation_word_is_short op).short in let class = class_is_short c in
    omega (arith, named, word, class, length-append {A = ℕ})

words_are_short : (S : Shape) (o : ℕ) (x : Declared) (ops : List Operation) → HasShortName x → AllByRecursion IsShortLine (word_lines S o x ops)
words_are_short S o x [] named = tt
words_are_short S o x (op ∷ ops) named = (word_is_short x op (class_of S o (zero_call op)) named, words_are_short S o x ops named)

object_is_short : (x : Declared) (a : ℕ) (p : Place) → HasShortName x → IsKind x.kind → a < 2 ^ 32 → length (place_text p) ≤ 66 → IsShortLine (object_line x a p)
object_is_short x a p named kind small placed =
    let word = (kind_word_is_short x.kind kind).short in
    let address = joined (kind_word x.kind) (field (codes " address ") a) 4 19 23 word (field_is_short (codes " address ") a 19 small (omega arith)) (omega arith) in
    let place = joined (kind_word x.kind ++ field (codes " address ") a) (place_text p) 23 66 89 address placed (omega arith) in
    let end = joined (kind_word x.kind ++ field (codes " address ") a ++ place_text p) (10 ∷ []) 89 1 90 place (omega arith) (omega arith) in
    joined x.name (32 ∷ (kind_word x.kind ++ field (codes " address ") a ++ place_text p ++ 10 ∷ [])) 16 91 107 named (omega (arith, end)) (omega arith)

module _ (t : Target) (ok : IsTarget t) (S : Shape) where
  -- objects whose place ends before the bytes that are enough for all
  lines_are_short : (o after : ℕ) (xs : List Declared) → AreDeclared xs → AllByRecursion HasShortName xs → after + 32 * length xs ≤ 2097152 → AllByRecursion IsShortLine (lines_from t S o after xs)
  lines_are_short o after [] declared named room = tt
  lines_are_short o after (x ∷ xs) declared named room =
      let few : next_address t after x.kind + bytes_of x.kind ≤ after + 32 = few_bytes t ok after x.kind in
      let placed = is_placed t ok x.kind (next_address t after x.kind) 4194304 [] (next_at t ok after x.kind).aligned (omega (arith, few, room)) in
      let words = few_words t ok 4194304 (omega arith) in
      let place = place_is_short (shape_with t 4194304 []) x.kind (place_at t x.kind (next_address t after x.kind)) (omega (arith, words)) ok.most placed in
      all_append IsShortLine (object_lines t S o x (next_address t after x.kind)) (lines_from t S (o + 1) (place_after t after x.kind) xs) (
        object_is_short x (next_address t after x.kind) (place_at t x.kind (next_address t after x.kind)) named.0 declared.0.0 (omega (arith, few, room)) place,
        words_are_short S o x (operations_of x.kind.class) named.0,
      )
      (lines_are_short (o + 1) (place_after t after x.kind) xs declared.1 named.1 (omega (arith, few, room)))

pub plan_lines_are_short : PlanLinesAreShort
unfolding target_line
plan_lines_are_short t xs ok declared most named = (
  (let text = text_is_short t ok in omega (arith, text, length-append (target_text t) (10 ∷ []))),
  lines_are_short t ok (shape_of t xs) 0 0 xs declared named (omega (arith, most)),
)
