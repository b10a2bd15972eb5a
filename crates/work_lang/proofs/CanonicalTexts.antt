-- The canonical text spells its workload.
use Rattle.std.proofs.Common.{◌≡◌, ℕ, zero, suc, ◌<◌, ◌≤◌, ◌^◌, ltb, leb, eqb, Bool, true, false, not, ◌&&◌, ◌||◌, List, [], ◌∷◌, ◌++◌, length, map, Option, Some, Ok, refl, sym, ap, subst, ◌∙◌, arith, inl, inr, append_assoc}
use Rattle.std.specs.Prelude.{filter, codes, slice_get, IsSomeAnd}
use Rattle.std.specs.Str.{bytes_eq}
use Rattle.std.specs.List.{slice_split, join_with_byte, flat_map, list_all, AllByRecursion}
use Rattle.std.proofs.lemmas.Bool.{lt-ltb, ltb-true, leb-true, and_parts, and_from, ne_eqb, eqb-true, or_cases}
use Rattle.std.proofs.lemmas.List.Elements.{All-from_recursion}
use Rattle.std.proofs.lemmas.List.Splits.{slice_split_at}
use Rattle.std.proofs.lemmas.List.Concat.{flat_map-cons}
use Rattle.line_words.specs.Text.{without_last_empty, is_some_word, lines_of, words_of}
use Rattle.line_words.proofs.Splits.{split_first}
use Rattle.op_table.specs.declared.kind.Kind.{Kind}
use Rattle.op_table.specs.declared.call.Call.{Call}
use Rattle.op_table.specs.declared.call.Call.TheVariants as call
use Rattle.op_table.specs.declared.order.Order.{Order}
use Rattle.op_table.specs.Kind.{IsKind, values_of}
use Rattle.op_table.specs.Call.{CallFits}
use Rattle.op_table.specs.Value.{value_text, parsed_value}
use Rattle.op_table.specs.Words.{kind_word, call_word, operation_of}
use Rattle.op_table.specs.Orders.{order_word}
use Rattle.op_table.specs.Laws.{is_word_byte, IsWordUpTo}
use Rattle.op_table.proofs.ValueTexts.{printed_is_read, value_text_is_short}
use Rattle.op_table.proofs.WordTables.{kind_word_is_read}
use Rattle.op_table.proofs.ShortWords.{kind_word_is_short, operation_word_is_short, order_word_is_short}
use Rattle.target_desc.specs.declared.target.Target.{Target}
use Rattle.target_desc.specs.Target.{IsTarget, IsVersion}
use Rattle.target_desc.specs.Text.{target_words, target_text}
use Rattle.target_desc.proofs.Printed.{kept, no_spaces, words_of_joined, both_print, joined_prints, longer, text_has_words, text_is_printable, says_itself}
use Rattle.place_core.specs.declared.name.Declared.{Declared}
use Rattle.place_core.specs.declared.script.Line.{Line}
use Rattle.place_core.specs.declared.script.Piece.{Piece}
use Rattle.place_core.specs.declared.script.Piece.TheVariants.{One, Block}
use Rattle.place_core.specs.Name.{is_lower, is_name_byte, is_name}
use Rattle.work_lang.specs.declared.item.Item.{Item}
use Rattle.work_lang.specs.declared.item.Item.TheVariants as items
use Rattle.work_lang.specs.Streams.{text_of}
use Rattle.work_lang.specs.Limits.{most_bytes}
use Rattle.work_lang.specs.Operands.{Operand, operand, operands_of, position_kind, HasPosition}
use Rattle.work_lang.specs.CallOrders.{orders_of, are_seq_cst}
use Rattle.place_core.specs.DeclaredObjects.{IsDeclared}
use Rattle.work_lang.specs.Workload.{Workload, AreDeclared, HasLine, LineStands, PieceStands, IsWork}
use Rattle.work_lang.specs.Reading.{is_printable}
use Rattle.work_lang.specs.Spelling.{Pairs, AreOrders, IsSaid, speaks, piece_items, thread_items, items_of, Spells}
use Rattle.work_lang.specs.Print.{operand_text, operand_words, order_words, words_with, words_on, call_line}
use Rattle.work_lang.specs.Canonical.{version_line, target_line, object_line, ended_call_line, repeat_line, piece_texts, thread_lines, canonical_lines, canonical_text}
use Rattle.work_lang.proofs.Names.{declared_is_name}
use Rattle.work_lang.proofs.OperandTexts.{position_is_kind}

-- ---- a line that says an item

-- the line with its end: its bytes are printable, and its words say the item
pub record IsLine (objects : List Declared) (i : Item) (ended : List ℕ) : Type 0 where
  pub line : List ℕ
  pub end : ended ≡ line ++ 10 ∷ []
  pub printable : list_all is_printable line ≡ true
  pub said : IsSaid objects i (words_of line)
  pub speaks : speaks (words_of line) ≡ true

-- a line of plain words with one space between
line_from : (objects : List Declared) (i : Item) (ws : List (List ℕ)) (ended : List ℕ) → AllByRecursion (IsWordUpTo 40) ws → ended ≡ join_with_byte 32 ws ++ 10 ∷ [] → IsSaid objects i ws → speaks ws ≡ true → IsLine objects i ended
line_from objects i ws ended plain end said speaking =
    let words : words_of (join_with_byte 32 ws) ≡ ws = words_of_joined 40 ws plain in
    record {
      line = join_with_byte 32 ws;
      end = end;
      printable = joined_prints 40 ws plain;
      said = subst (λ (vs : List (List ℕ)). IsSaid objects i vs) (sym words) said;
      speaks = ap speaks words ∙ speaking;
    }

plain_word : (w : List ℕ) → ltb 0 (length w) ≡ true → leb (length w) 40 ≡ true → list_all is_word_byte w ≡ true → IsWordUpTo 40 w
plain_word w some short plain = record { some = ltb-true _ _ some; short = leb-true _ _ short; plain = plain }

pub version_is_line : (objects : List Declared) (version : ℕ) → IsVersion version → IsLine objects (items.Version version) (version_line version)
version_is_line objects version (inl first) = rw first (line_from objects (items.Version 1) (codes "work" ∷ codes "1" ∷ []) _ (plain_word _ refl refl refl, (plain_word _ refl refl refl, tt)) refl (codes "1", refl, refl) refl)
version_is_line objects version (inr second) = rw second (line_from objects (items.Version 2) (codes "work" ∷ codes "2" ∷ []) _ (plain_word _ refl refl refl, (plain_word _ refl refl refl, tt)) refl (codes "2", refl, refl) refl)

thread_line : (objects : List Declared) → IsLine objects items.Thread (codes "thread\n")
thread_line objects = line_from objects items.Thread (codes "thread" ∷ []) _ (plain_word _ refl refl refl, tt) refl refl refl

pub end_line : (objects : List Declared) → IsLine objects items.End (codes "end\n")
end_line objects = line_from objects items.End (codes "end" ∷ []) _ (plain_word _ refl refl refl, tt) refl refl refl

-- ---- targets

-- a word in front of a line
word_in_front : (w line : List ℕ) → IsWordUpTo 40 w → words_of (w ++ 32 ∷ line) ≡ w ∷ words_of line
unfolding words_of
word_in_front w line is =
    ap (filter is_some_word) (slice_split_at (λ b. eqb b 32) w 32 line (All-from_recursion _ w (no_spaces w is.plain)) refl) ∙ kept w (slice_split (λ b. eqb b 32) line) is.some

target_word : IsWordUpTo 40 (codes "target")
target_word = plain_word _ refl refl refl

pub target_is_line : (objects : List Declared) (t : Target) → IsTarget t → IsLine objects (items.Target t) (target_line t)
unfolding target_line
target_is_line objects t is =
    let words : words_of (codes "target" ++ 32 ∷ target_text t) ≡ codes "target" ∷ target_words t = word_in_front (codes "target") (target_text t) target_word ∙ ap (λ (ws : List (List ℕ)). codes "target" ∷ ws) (text_has_words t is) in
    record {
      line = codes "target " ++ target_text t;
      end = sym (append_assoc (codes "target ") (target_text t) (10 ∷ []));
      printable = both_print (codes "target ") (target_text t) refl (text_is_printable t is);
      said = subst (λ (ws : List (List ℕ)). IsSaid objects (items.Target t) ws) (sym words) (target_words t, says_itself 2 t is (λ big. refl), refl);
      speaks = ap speaks words;
    }

-- ---- names

between : (low high b : ℕ) → 33 ≤ low → high ≤ 126 → (leb low b && leb b high) ≡ true → is_word_byte b ≡ true
between low high b f g e =
    let parts = and_parts (leb low b) (leb b high) e in
    and_from (ltb 32 b) (ltb b 127) (lt-ltb 32 b (omega (arith, leb-true _ _ parts.0))) (lt-ltb b 127 (omega (arith, leb-true _ _ parts.1)))

name_byte_plain : (b : ℕ) → is_name_byte b ≡ true → is_word_byte b ≡ true
name_byte_plain b e =
    elim (or_cases (is_lower b || (leb 48 b && leb b 57)) (eqb b 95) e) [
      | inl p ↦ elim (or_cases (is_lower b) (leb 48 b && leb b 57) p) [
        | inl q ↦ between 97 122 b (omega arith) (omega arith) q
        | inr q ↦ between 48 57 b (omega arith) (omega arith) q
      ]
      | inr p ↦ let b-is : b ≡ 95 = eqb-true _ _ p in subst (λ (x : ℕ). is_word_byte x ≡ true) (sym b-is) refl
    ]

bytes_plain : (bs : List ℕ) → list_all is_name_byte bs ≡ true → list_all is_word_byte bs ≡ true
bytes_plain [] e = refl
bytes_plain (b ∷ bs) e =
    let parts = and_parts (is_name_byte b) (list_all is_name_byte bs) e in
    and_from _ _ (name_byte_plain b parts.0) (bytes_plain bs parts.1)

pub name_is_word : (name : List ℕ) → is_name name ≡ true → IsWordUpTo 40 name
name_is_word [] h = absurd cc
name_is_word (b ∷ bs) h =
    let a = and_parts (is_lower b && list_all is_name_byte bs && ltb (length bs) 16) (not (bytes_eq (b ∷ bs) (codes "end"))) h in
    let c = and_parts (is_lower b && list_all is_name_byte bs) (ltb (length bs) 16) a.0 in
    let d = and_parts (is_lower b) (list_all is_name_byte bs) c.0 in
    record { some = omega arith; short = omega (arith, ltb-true _ _ c.1); plain = and_from (is_word_byte b) (list_all is_word_byte bs) (between 97 122 b (omega arith) (omega arith) d.0) (bytes_plain bs d.1) }

name_speaks : (name : List ℕ) (ws : List (List ℕ)) → is_name name ≡ true → speaks (name ∷ ws) ≡ true
name_speaks [] ws h = absurd cc
name_speaks (b ∷ bs) ws h =
    let a = and_parts (is_lower b && list_all is_name_byte bs && ltb (length bs) 16) (not (bytes_eq (b ∷ bs) (codes "end"))) h in
    let c = and_parts (is_lower b && list_all is_name_byte bs) (ltb (length bs) 16) a.0 in
    let d = and_parts (is_lower b) (list_all is_name_byte bs) c.0 in
    let e = and_parts (leb 97 b) (leb b 122) d.0 in
    ap not (ne_eqb b 35 (λ x. omega (arith, leb-true _ _ e.0)))

-- ---- objects

object_is_line : (objects : List Declared) (d : Declared) → is_name d.name ≡ true → IsDeclared d → IsLine objects (items.Object d) (object_line d)
unfolding object_line
object_is_line objects d named is =
    let kind = longer 4 40 (kind_word d.kind) (omega arith) (kind_word_is_short d.kind is.0) in
    let value = value_text_is_short d.kind d.start is.0 is.1 in
    line_from objects (items.Object d) (codes "object" ∷ d.name ∷ kind_word d.kind ∷ value_text d.kind d.start ∷ []) _ (plain_word _ refl refl refl, (name_is_word d.name named, (kind, (value, tt)))) (simp (append_assoc))
    (kind_word d.kind, value_text d.kind d.start, kind_word_is_read d.kind is.0, printed_is_read d.kind d.start is.0 is.1, refl) refl

-- ---- calls

pub record IsOperand (o : Operand) : Type 0 where
  pub kind : IsKind o.kind
  pub value : o.value < values_of o.kind

value_operand : (kind : Kind) (a : ℕ) → IsKind kind → a < values_of kind → IsOperand (operand kind a)
value_operand kind a is small = record { kind = is; value = small }

position_operand : (p : ℕ) → p < values_of position_kind → IsOperand (operand position_kind p)
position_operand p small = record { kind = position_is_kind; value = small }

operands_are : (kind : Kind) (x : Call) → IsKind kind → CallFits kind x → HasPosition x → AllByRecursion IsOperand (operands_of kind x)
operands_are kind call.Load is fits has = tt
operands_are kind (call.Store a) is fits has = (value_operand kind a is fits, tt)
operands_are kind (call.Swap a) is fits has = (value_operand kind a is fits, tt)
operands_are kind (call.Cas e n) is fits has = (value_operand kind e is fits.0, (value_operand kind n is fits.1, tt))
operands_are kind (call.CasWeak e n) is fits has = (value_operand kind e is fits.0, (value_operand kind n is fits.1, tt))
operands_are kind (call.Not q) is fits has = tt
operands_are kind (call.Neg q) is fits has = tt
operands_are kind (call.BitSet p) is fits has = (position_operand p has, tt)
operands_are kind (call.BitClear p) is fits has = (position_operand p has, tt)
operands_are kind (call.BitToggle p) is fits has = (position_operand p has, tt)
operands_are kind _ is fits has = (value_operand kind _ is fits.0, tt)

operands_read : (os : List Operand) → AllByRecursion IsOperand os → Pairs (λ (o : Operand) text. parsed_value o.kind text ≡ Ok o.value) os (map operand_text os)
operands_read [] all = tt
operands_read (o ∷ os) all = (printed_is_read o.kind o.value all.0.kind all.0.value, operands_read os all.1)

operands_plain : (os : List Operand) → AllByRecursion IsOperand os → AllByRecursion (IsWordUpTo 40) (map operand_text os)
operands_plain [] all = tt
operands_plain (o ∷ os) all = (value_text_is_short o.kind o.value all.0.kind all.0.value, operands_plain os all.1)

orders_said : (os : List Order) (b : Bool) → are_seq_cst os ≡ b → AreOrders os (order_words os)
orders_said os true e = inr (e, rw e refl)
orders_said os false e = inl (rw e refl)

orders_plain : (os : List Order) → AllByRecursion (IsWordUpTo 40) (map order_word os)
orders_plain [] = tt
orders_plain (o ∷ os) = (longer 7 40 (order_word o) (omega arith) (order_word_is_short o), orders_plain os)

order_words_plain : (os : List Order) (b : Bool) → are_seq_cst os ≡ b → AllByRecursion (IsWordUpTo 40) (order_words os)
order_words_plain os true e = rw e tt
order_words_plain os false e = rw e (orders_plain os)

both : {A : Type 0} (P : A → Type 0) (xs ys : List A) → AllByRecursion P xs → AllByRecursion P ys → AllByRecursion P (xs ++ ys)
both P [] ys a b = b
both P (x ∷ xs) ys a b = (a.0, both P xs ys a.1 b)

call_is_line : (objects : List Declared) (l : Line) (d : Declared) → slice_get objects l.object ≡ Some d → is_name d.name ≡ true → IsKind d.kind → HasLine l d → IsLine objects (items.Call l) (ended_call_line objects l)
unfolding call_line
call_is_line objects l d at named is has =
    let os = operands_are d.kind l.call is has.0 has.1 in
    let word = longer 21 40 (call_word d.kind l.call) (omega arith) (operation_word_is_short (operation_of d.kind l.call)) in
    line_from objects (items.Call l) (d.name ∷ words_with d.kind l) _
    (name_is_word d.name named, (word, both (IsWordUpTo 40) (operand_words d.kind l.call) (order_words (orders_of l)) (operands_plain (operands_of d.kind l.call) os) (order_words_plain (orders_of l) (are_seq_cst (orders_of l)) refl)))
    (ap (λ (o : Option Declared). join_with_byte 32 (words_on o l) ++ 10 ∷ []) at)
    (d, at, call_word d.kind l.call ∷ operand_words d.kind l.call, order_words (orders_of l), (operand_words d.kind l.call, operands_read (operands_of d.kind l.call) os, refl), orders_said (orders_of l) (are_seq_cst (orders_of l)) refl, refl)
    (name_speaks d.name (words_with d.kind l) named)

-- ---- all lines

pairs_both : {A B : Type 0} (R : A → B → Type 0) (xs xs' : List A) (ys ys' : List B) → Pairs R xs ys → Pairs R xs' ys' → Pairs R (xs ++ xs') (ys ++ ys')
pairs_both R [] xs' [] ys' p q = q
pairs_both R [] xs' (y ∷ ys) ys' p q = absurd p
pairs_both R (x ∷ xs) xs' [] ys' p q = absurd p
pairs_both R (x ∷ xs) xs' (y ∷ ys) ys' p q = (p.0, pairs_both R xs xs' ys ys' p.1 q)

objects_are_lines : (all before objects : List Declared) → AreDeclared before objects → AllByRecursion IsDeclared objects → Pairs (IsLine all) (map items.Object objects) (map object_line objects)
objects_are_lines all before [] ok are = tt
objects_are_lines all before (d ∷ ds) ok are = (object_is_line all d ok.0 are.0, objects_are_lines all (before ++ d ∷ []) ds ok.2 are.1)

object_at : (objects : List Declared) (o : ℕ) (P : Declared → Type 0) → AllByRecursion IsDeclared objects → IsSomeAnd (slice_get objects o) P → (d : Declared) × (slice_get objects o ≡ Some d) × IsDeclared d × P d
object_at [] o P all has = absurd has
object_at (x ∷ xs) zero P all has = (x, refl, all.0, has)
object_at (x ∷ xs) (suc o) P all has = object_at xs o P all.1 has

a_call_is_line : (version : ℕ) (objects : List Declared) (l : Line) → AreDeclared [] objects → AllByRecursion IsDeclared objects → LineStands version objects l → IsLine objects (items.Call l) (ended_call_line objects l)
a_call_is_line version objects l ok are stands =
    let d = object_at objects l.object (HasLine l) are stands.0 in
    call_is_line objects l d.0 d.1 (declared_is_name [] objects ok l.object d.0 d.1) d.2.0 d.3

calls_are_lines : (version : ℕ) (objects : List Declared) (lines : List Line) → AreDeclared [] objects → AllByRecursion IsDeclared objects → AllByRecursion (LineStands version objects) lines → Pairs (IsLine objects) (map items.Call lines) (map (ended_call_line objects) lines)
calls_are_lines version objects [] ok are stand = tt
calls_are_lines version objects (l ∷ ls) ok are stand = (a_call_is_line version objects l ok are stand.0, calls_are_lines version objects ls ok are stand.1)

repeat_is_line : (objects : List Declared) (times : ℕ) → times < 2 ^ 32 → IsLine objects (items.Repeat times) (repeat_line times)
unfolding repeat_line
repeat_is_line objects times few =
    line_from objects (items.Repeat times) (codes "repeat:" ∷ value_text position_kind times ∷ []) _ (plain_word _ refl refl refl, (value_text_is_short position_kind times position_is_kind few, tt)) refl
    (value_text position_kind times, printed_is_read position_kind times position_is_kind few, refl) refl

piece_is_lines : (version : ℕ) (objects : List Declared) (p : Piece) → AreDeclared [] objects → AllByRecursion IsDeclared objects → PieceStands version objects p → Pairs (IsLine objects) (piece_items p) (piece_texts objects p)
piece_is_lines version objects (One l) ok are stands = (a_call_is_line version objects l ok are stands, tt)
piece_is_lines version objects (Block times lines) ok are stands =
    (repeat_is_line objects times stands.2, pairs_both (IsLine objects) (map items.Call lines) (items.End ∷ []) (map (ended_call_line objects) lines) (codes "end\n" ∷ []) (calls_are_lines version objects lines ok are stands.3) (end_line objects, tt))

-- what holds of each item's part holds of the whole
pairs_flat : {X A B : Type 0} (R : A → B → Type 0) (P : X → Type 0) (f : X → List A) (g : X → List B) (xs : List X) → ((x : X) → P x → Pairs R (f x) (g x)) → AllByRecursion P xs → Pairs R (flat_map f xs) (flat_map g xs)
pairs_flat R P f g [] each all = tt
pairs_flat {A = A} {B = B} R P f g (x ∷ xs) each all =
    subst (λ (us : List A). Pairs R us (flat_map g (x ∷ xs))) (sym (flat_map-cons f x xs))
    (subst (λ (vs : List B). Pairs R (f x ++ flat_map f xs) vs) (sym (flat_map-cons g x xs))
    (pairs_both R (f x) (flat_map f xs) (g x) (flat_map g xs) (each x all.0) (pairs_flat R P f g xs each all.1)))

thread_is_lines : (version : ℕ) (objects : List Declared) (script : List Piece) → AreDeclared [] objects → AllByRecursion IsDeclared objects → AllByRecursion (PieceStands version objects) script → Pairs (IsLine objects) (thread_items script) (thread_lines objects script)
thread_is_lines version objects script ok are stand = (
  thread_line objects,
  pairs_both (IsLine objects) (flat_map piece_items script) (items.End ∷ []) (flat_map (piece_texts objects) script) (codes "end\n" ∷ [])
      (pairs_flat (IsLine objects) (PieceStands version objects) piece_items (piece_texts objects) script (λ p stands. piece_is_lines version objects p ok are stands) stand) (end_line objects, tt),
)

threads_are_lines : (version : ℕ) (objects : List Declared) (scripts : List (List Piece)) → AreDeclared [] objects → AllByRecursion IsDeclared objects → AllByRecursion (λ (script : List Piece). AllByRecursion (PieceStands version objects) script) scripts → Pairs (IsLine objects) (flat_map thread_items scripts) (flat_map (thread_lines objects) scripts)
threads_are_lines version objects scripts ok are stand = pairs_flat (IsLine objects) (λ (script : List Piece). AllByRecursion (PieceStands version objects) script) thread_items (thread_lines objects) scripts (λ script stands. thread_is_lines version objects script ok are stands) stand

pub work_is_lines : (w : Workload) → IsWork w → Pairs (IsLine w.objects) (items_of w) (canonical_lines w)
work_is_lines w ok =
    (version_is_line w.objects w.version ok.version, (target_is_line w.objects w.target ok.target, pairs_both (IsLine w.objects) (map items.Object w.objects) (flat_map thread_items w.scripts) (map object_line w.objects) (flat_map (thread_lines w.objects) w.scripts) (objects_are_lines w.objects [] w.objects ok.names ok.objects) (threads_are_lines w.version w.objects w.scripts ok.names ok.objects ok.pieces)))

-- ---- lines of a text

no_feed : (line : List ℕ) → list_all is_printable line ≡ true → AllByRecursion (λ b. eqb b 10 ≡ false) line
no_feed [] h = tt
no_feed (b ∷ bs) h =
    let parts = and_parts (is_printable b) (list_all is_printable bs) h in
    let byte = and_parts (leb 32 b) (leb b 126) parts.0 in
    (ne_eqb b 10 (λ e. omega (arith, leb-true _ _ byte.0)), no_feed bs parts.1)

-- a printable line in front of a text
pub line_in_front : (line text : List ℕ) → list_all is_printable line ≡ true → lines_of ((line ++ 10 ∷ []) ++ text) ≡ line ∷ lines_of text
unfolding lines_of
line_in_front line text printable =
    ap lines_of (append_assoc line (10 ∷ []) text) ∙ ap without_last_empty (slice_split_at (λ b. eqb b 10) line 10 text (All-from_recursion _ line (no_feed line printable)) refl) ∙ first_stays
  where
    first_stays : without_last_empty (line ∷ slice_split (λ b. eqb b 10) text) ≡ line ∷ without_last_empty (slice_split (λ b. eqb b 10) text)
    first_stays = rw (split_first (λ b. eqb b 10) text) refl

pub record AreSaid (objects : List Declared) (is : List Item) (lines : List (List ℕ)) : Type 0 where
  pub printable : AllByRecursion (λ line. list_all is_printable line ≡ true) lines
  pub said : Pairs (IsSaid objects) is (filter speaks (map words_of lines))

pub no_lines : lines_of [] ≡ []
unfolding lines_of
no_lines = refl

pub lines_are_said : (objects : List Declared) (is : List Item) (ends : List (List ℕ)) → Pairs (IsLine objects) is ends → AreSaid objects is (lines_of (text_of ends))
lines_are_said objects [] [] pairs = rw no_lines (record { printable = tt; said = tt })
lines_are_said objects [] (e ∷ es) pairs = absurd pairs
lines_are_said objects (i ∷ is) [] pairs = absurd pairs
lines_are_said objects (i ∷ is) (e ∷ es) pairs =
    let first = pairs.0 in
    let rest = lines_are_said objects is es pairs.1 in
    let lines : lines_of (e ++ text_of es) ≡ first.line ∷ lines_of (text_of es) = ap (λ (x : List ℕ). lines_of (x ++ text_of es)) first.end ∙ line_in_front first.line (text_of es) first.printable in
    subst (AreSaid objects (i ∷ is)) (sym lines) (record { printable = (first.printable, rest.printable); said = rw first.speaks (first.said, rest.said) })

-- ---- the whole text

pub canonical_spells : (w : Workload) → IsWork w → length (canonical_text w) ≤ most_bytes → Spells (canonical_text w) w
unfolding canonical_text
canonical_spells w ok short =
    let all = lines_are_said w.objects (items_of w) (canonical_lines w) (work_is_lines w ok) in
    record { short = short; printable = all.printable; work = ok; lines = all.said }
