-- What a text spells: a relation between its lines and a workload, which follows no reader.
use Rattle.std.specs.Prelude.{ℕ, ◌≡◌, ◌≤◌, ◌⊎◌, Bool, true, false, not, List, [], ◌∷◌, ◌++◌, length, map, filter, slice_get, Some, Ok, codes}
use Rattle.std.specs.List.{flat_map, list_all, AllByRecursion}
use Rattle.line_words.specs.Text.{words_of, lines_of}
use Rattle.op_table.specs.declared.kind.Kind.{Kind}
use Rattle.op_table.specs.declared.call.Call.{Call}
use Rattle.op_table.specs.declared.order.Order.{Order}
use Rattle.op_table.specs.Value.{parsed_value}
use Rattle.op_table.specs.Words.{kind_of_word, call_word}
use Rattle.op_table.specs.Orders.{order_word}
use Rattle.target_desc.specs.Spelling.{IsTargetText}
use Rattle.place_core.specs.declared.name.Declared.{Declared}
use Rattle.place_core.specs.declared.script.Piece.{Piece}
use Rattle.place_core.specs.declared.script.Piece.TheVariants.{One, Block}
use Rattle.work_lang.specs.declared.item.Item.{Item}
use Rattle.work_lang.specs.declared.item.Item.TheVariants as items
use Rattle.work_lang.specs.Operands.{Operand, operands_of, position_kind}
use Rattle.work_lang.specs.CallOrders.{orders_of, are_seq_cst}
use Rattle.work_lang.specs.Limits.{most_bytes}
use Rattle.work_lang.specs.Workload.{Workload, IsWork}
use Rattle.work_lang.specs.Reading.{is_comment, is_printable, version_of_word}

-- the lists are equally long, and the relation holds of each pair
abbrev pub Pairs : {A B : Type 0} → (A → B → Type 0) → List A → List B → Type 0
Pairs R [] [] = Unit {0}
Pairs R [] (y ∷ ys) = ⊥
Pairs R (x ∷ xs) [] = ⊥
Pairs R (x ∷ xs) (y ∷ ys) = R x y × Pairs R xs ys

-- ---- lines

-- the words of a call: its word, and texts of its operands
abbrev pub IsOperation : Kind → Call → List (List ℕ) → Type 0
IsOperation kind call ws = (texts : List (List ℕ)) × Pairs (λ (o : Operand) text. parsed_value o.kind text ≡ Ok o.value) (operands_of kind call) texts × (ws ≡ call_word kind call ∷ texts)

-- the words of the orders: all of them, or none where all are sequentially consistent
abbrev pub AreOrders : List Order → List (List ℕ) → Type 0
AreOrders orders ws = (ws ≡ map order_word orders) ⊎ ((are_seq_cst orders ≡ true) × (ws ≡ []))

-- the words of a line that says an item, where these objects stand. A target's are those of version 2, which says them
-- all: which ones a version has is a matter of the workload, as which calls and blocks it has.
abbrev pub IsSaid : List Declared → Item → List (List ℕ) → Type 0
IsSaid objects (items.Version version) ws = (word : List ℕ) × (version_of_word word ≡ Some version) × (ws ≡ codes "work" ∷ word ∷ [])
IsSaid objects (items.Target t) ws = (words : List (List ℕ)) × IsTargetText 2 words t × (ws ≡ codes "target" ∷ words)
IsSaid objects (items.Object d) ws = (kind value : List ℕ) × (kind_of_word kind ≡ Some d.kind) × (parsed_value d.kind value ≡ Ok d.start) × (ws ≡ codes "object" ∷ d.name ∷ kind ∷ value ∷ [])
IsSaid objects items.Thread ws = ws ≡ codes "thread" ∷ []
IsSaid objects (items.Call l) ws = (d : Declared) × (slice_get objects l.object ≡ Some d) × (call orders : List (List ℕ)) × IsOperation d.kind l.call call × AreOrders (orders_of l) orders × (ws ≡ d.name ∷ (call ++ orders))
IsSaid objects (items.Repeat times) ws = (text : List ℕ) × (parsed_value position_kind text ≡ Ok times) × (ws ≡ codes "repeat:" ∷ text ∷ [])
IsSaid objects items.End ws = ws ≡ codes "end" ∷ []

-- whether a line with these words is not passed over
abbrev pub speaks : List (List ℕ) → Bool
speaks [] = false
speaks (w ∷ ws) = not (is_comment w)

-- ---- workloads

-- what the lines of a piece say: a line alone says its call, and a block has a line before its calls and one after
abbrev pub piece_items : Piece → List Item
piece_items (One line) = items.Call line ∷ []
piece_items (Block times lines) = items.Repeat times ∷ (map items.Call lines ++ items.End ∷ [])

abbrev pub thread_items : List Piece → List Item
thread_items script = items.Thread ∷ (flat_map piece_items script ++ items.End ∷ [])

-- what the lines of a workload say, in order
abbrev pub items_of : Workload → List Item
items_of w = items.Version w.version ∷ items.Target w.target ∷ (map items.Object w.objects ++ flat_map thread_items w.scripts)

-- the bytes spell the workload: they are printable, and the lines that are not passed over say its items, in order
pub record Spells (text : List ℕ) (w : Workload) : Type 0 where
  pub short : length text ≤ most_bytes
  pub printable : AllByRecursion (λ line. list_all is_printable line ≡ true) (lines_of text)
  pub work : IsWork w
  pub lines : Pairs (IsSaid w.objects) (items_of w) (filter speaks (map words_of (lines_of text)))
