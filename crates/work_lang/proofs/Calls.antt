-- A line that is read as a call says it, and a line that says a call is read as it.
use Rattle.std.proofs.Common.{◌≡◌, ℕ, suc, ◌+◌, ◌<◌, ltb, eqb, Bool, true, false, not, ◌||◌, List, [], ◌∷◌, ◌++◌, length, Option, Some, None, Ok, refl, sym, ap, subst, ◌∙◌, arith, inl, inr}
use Rattle.std.specs.Prelude.{slice_get, IsSomeAnd}
use Rattle.std.specs.Str.{bytes_eq}
use Rattle.std.specs.List.{AllByRecursion, position_or_len}
use Rattle.std.proofs.lemmas.Bool.{ltb-true, eqb-true}
use Rattle.line_words.specs.Cursor.{Cursor}
use Rattle.op_table.specs.declared.kind.Kind.{Kind}
use Rattle.op_table.specs.declared.call.Call.{Call}
use Rattle.op_table.specs.declared.call.Call.TheVariants as call
use Rattle.op_table.specs.declared.kind.Class.{Class}
use Rattle.op_table.specs.declared.kind.Class.TheVariants as class
use Rattle.op_table.specs.declared.words.Operation.{Operation}
use Rattle.op_table.specs.declared.words.Operation.TheVariants.{FetchAdd, Add, FetchSub, Sub, FetchAnd, And, FetchOr, Or, FetchXor, Xor, FetchNot, Not, FetchNeg, Neg, FetchByteAdd, FetchByteSub}
use Rattle.op_table.specs.declared.order.Order.{Order}
use Rattle.op_table.specs.Kind.{IsKind}
use Rattle.op_table.specs.Call.{CallFits}
use Rattle.op_table.specs.CallTests.{is_newer}
use Rattle.op_table.specs.Words.{operation_word, operation_of_word, has_operation, loud_or_quiet, sum_operation, operation_of, call_word}
use Rattle.op_table.proofs.Rows.{call_has_operation}
use Rattle.op_table.proofs.WordTables.{operation_word_is_read, operation_has_one_word}
use Rattle.place_core.specs.declared.name.Declared.{Declared}
use Rattle.place_core.specs.declared.script.Line.{Line}
use Rattle.work_lang.specs.declared.fault.Cause.TheVariants as causes
use Rattle.work_lang.specs.declared.item.Item.{Item}
use Rattle.work_lang.specs.declared.item.Item.TheVariants as items
use Rattle.work_lang.specs.declared.orders.Orders.{Orders}
use Rattle.work_lang.specs.Operands.{form_of, is_later, operands_of, HasPosition}
use Rattle.work_lang.specs.CallOrders.{orders_of}
use Rattle.work_lang.specs.Slips.{word_at, need_at, check_at}
use Rattle.place_core.specs.DeclaredObjects.{IsDeclared}
use Rattle.work_lang.specs.Workload.{object_of, HasLine, LineFits, IsCallOf, LineStands}
use Rattle.work_lang.specs.Reading.{State, has_room, orders_at, is_operation_of, if_of_version, operation_in, operation_at, kind_at, kind_in, call_at}
use Rattle.work_lang.specs.Spelling.{IsSaid, AreOrders, IsOperation}
use Rattle.work_lang.proofs.Steps.{check_then, word_then, need_then, bind_then, chosen, ok_is, some_is, none_some, is_word}
use Rattle.work_lang.proofs.Lists.{all_at}
use Rattle.work_lang.proofs.OperandForms.{form_makes, call_gives}
use Rattle.work_lang.proofs.OperandTexts.{at_words, operands_takes, operands_again}
use Rattle.work_lang.proofs.OrderTexts.{orders_takes, orders_again}

object_found : (p : Declared → Bool) (objects : List Declared) → position_or_len p objects < length objects → (d : Declared) × (slice_get objects (position_or_len p objects) ≡ Some d) × (p d ≡ true)
object_found p [] h = absurd (omega arith)
object_found p (x ∷ xs) h = at (p x) refl (object_found p xs)
  where
    at : (b : Bool) → p x ≡ b → (position_or_len p xs < length xs → (d : Declared) × (slice_get xs (position_or_len p xs) ≡ Some d) × (p d ≡ true)) → (d : Declared) × (slice_get (x ∷ xs) (position_or_len p (x ∷ xs)) ≡ Some d) × (p d ≡ true)
    at true e again = (x, rw e refl, e)
    at false e again =
        let n-is : position_or_len p (x ∷ xs) ≡ suc (position_or_len p xs) = rw e (omega arith) in
        let found = again (omega (arith, n-is)) in
        (found.0, subst (λ (k : ℕ). slice_get (x ∷ xs) k ≡ Some found.0) (sym n-is) found.1, found.2)

-- the object of a name has it
named : (objects : List Declared) (w : List ℕ) (o : ℕ) → object_of objects w ≡ Some o → (d : Declared) × (slice_get objects o ≡ Some d) × (d.name ≡ w)
named objects w o e =
    let p : Declared → Bool = λ d. bytes_eq d.name w in
    elim (chosen (ltb (position_or_len p objects) (length objects)) (Some (position_or_len p objects)) None (Some o) e) [
      | inl q ↦
          let found = object_found p objects (ltb-true _ _ q.0) in
          let o-is : position_or_len p objects ≡ o = some_is _ _ q.1 in
          (found.0, subst (λ (k : ℕ). slice_get objects k ≡ Some found.0) o-is found.1, is_word _ _ found.2)
      | inr q ↦ absurd (none_some q.1)
    ]

-- ---- calls that answer the new value

loud_is_old : (q : Bool) (replying silent : Operation) → is_later replying ≡ false → is_later silent ≡ false → is_later (loud_or_quiet q replying silent) ≡ false
loud_is_old true replying silent e f = f
loud_is_old false replying silent e f = e

sum_is_old : (c : Class) (q : Bool) (replying silent bytewise : Operation) → is_later replying ≡ false → is_later silent ≡ false → is_later bytewise ≡ false → is_later (sum_operation c q replying silent bytewise) ≡ false
sum_is_old class.Int q replying silent bytewise e f g = loud_is_old q replying silent e f
sum_is_old class.Bool q replying silent bytewise e f g = loud_is_old q replying silent e f
sum_is_old class.Ptr q replying silent bytewise e f g = g

-- the later operations are those of the calls that answer the new value
later_is_newer : (kind : Kind) (x : Call) → is_later (operation_of kind x) ≡ is_newer x
later_is_newer kind (call.Add a q) = sum_is_old kind.class q FetchAdd Add FetchByteAdd refl refl refl
later_is_newer kind (call.Sub a q) = sum_is_old kind.class q FetchSub Sub FetchByteSub refl refl refl
later_is_newer kind (call.And a q) = loud_is_old q FetchAnd And refl refl
later_is_newer kind (call.Or a q) = loud_is_old q FetchOr Or refl refl
later_is_newer kind (call.Xor a q) = loud_is_old q FetchXor Xor refl refl
later_is_newer kind (call.Not q) = loud_is_old q FetchNot Not refl refl
later_is_newer kind (call.Neg q) = loud_is_old q FetchNeg Neg refl refl
later_is_newer kind call.Load = refl
later_is_newer kind (call.Store a) = refl
later_is_newer kind (call.Swap a) = refl
later_is_newer kind (call.Cas e n) = refl
later_is_newer kind (call.CasWeak e n) = refl
later_is_newer kind (call.Nand a) = refl
later_is_newer kind (call.Max a) = refl
later_is_newer kind (call.Min a) = refl
later_is_newer kind (call.BitSet p) = refl
later_is_newer kind (call.BitClear p) = refl
later_is_newer kind (call.BitToggle p) = refl
later_is_newer kind (call.AddFetch a) = refl
later_is_newer kind (call.SubFetch a) = refl
later_is_newer kind (call.AndFetch a) = refl
later_is_newer kind (call.NandFetch a) = refl
later_is_newer kind (call.OrFetch a) = refl
later_is_newer kind (call.XorFetch a) = refl

not_or : (later : Bool) (v : ℕ) → (not later || eqb v 2) ≡ true → later ≡ true → v ≡ 2
not_or true v e f = eqb-true v 2 e
not_or false v e f = absurd cc

not_or_again : (later : Bool) (v : ℕ) → (later ≡ true → v ≡ 2) → (not later || eqb v 2) ≡ true
not_or_again true v h = rw (h refl) refl
not_or_again false v h = refl

-- an operation of a version makes calls of that version
operation_is_of : (version : ℕ) (kind : Kind) (x : Call) (op : Operation) → operation_of kind x ≡ op → is_operation_of version op ≡ true → IsCallOf version x
operation_is_of version kind x op named of newer = not_or (is_later op) version of (sym (ap is_later named) ∙ later_is_newer kind x ∙ newer)

call_is_of : (version : ℕ) (kind : Kind) (x : Call) → IsCallOf version x → is_operation_of version (operation_of kind x) ≡ true
call_is_of version kind x of = not_or_again (is_later (operation_of kind x)) version (λ later. of (sym (later_is_newer kind x) ∙ later))

of_version_takes : (version : ℕ) (found : Option Operation) (op : Operation) → if_of_version version found ≡ Some op → (found ≡ Some op) × (is_operation_of version op ≡ true)
of_version_takes version None op e = absurd (none_some e)
of_version_takes version (Some x) op e =
    elim (chosen (is_operation_of version x) (Some x) None (Some op) e) [
      | inl p ↦ (p.1, subst (λ (y : Operation). is_operation_of version y ≡ true) (some_is x op p.1) p.0)
      | inr p ↦ absurd (none_some p.1)
    ]

of_version_again : (version : ℕ) (op : Operation) → is_operation_of version op ≡ true → if_of_version version (Some op) ≡ Some op
of_version_again version op e = rw e refl

-- ---- calls with their operands

pub record TakesOperation (version : ℕ) (kind : Kind) (x : Call) (ws rest : List (List ℕ)) : Type 0 where
  pub fits : CallFits kind x
  pub position : HasPosition x
  pub of_version : IsCallOf version x
  pub words : List (List ℕ)
  pub said : IsOperation kind x words
  pub all : ws ≡ words ++ rest

named_words : (w v : List ℕ) (ws rest : List (List ℕ)) → w ≡ v → ws ≡ rest → w ∷ ws ≡ v ∷ rest
named_words w v ws rest e f = cc

operation_takes : (version : ℕ) (kind : Kind) (w : List ℕ) (c : Cursor) (x : Call × Cursor) → IsKind kind → operation_at version kind w c ≡ Ok x → TakesOperation version kind x.0 (w ∷ c.left) x.1.left
unfolding operation_at operation_in
operation_takes version kind w c x is e =
    let op = need_then c causes.UnknownWord (if_of_version version (operation_of_word w)) _ x e in
    let known = of_version_takes version (operation_of_word w) op.0 op.1 in
    let has = check_then c causes.NotForKind (has_operation kind.class op.0) _ x op.2 in
    let t = operands_takes kind op.0 (form_of op.0) c x is (form_makes kind op.0 has.0) has.1 in
    let word : w ≡ call_word kind x.0 = operation_has_one_word w op.0 known.0 ∙ ap operation_word (sym t.named) in
    record { fits = t.fits; position = t.position; of_version = operation_is_of version kind x.0 op.0 t.named known.1; words = call_word kind x.0 ∷ t.texts; said = (t.texts, t.spelled, refl); all = named_words w (call_word kind x.0) c.left (t.texts ++ x.1.left) word t.all }

operation_again : (version : ℕ) (kind : Kind) (x : Call) (k : ℕ) (w : List ℕ) (ws orders all : List (List ℕ)) → IsKind kind → CallFits kind x → IsCallOf version x → IsOperation kind x ws → w ∷ all ≡ ws ++ orders → (j : ℕ) × (operation_at version kind w (at_words k all) ≡ Ok (x, at_words j orders))
unfolding operation_at operation_in need_at check_at
operation_again version kind x k w ws orders all is fits of h e =
    let words : w ∷ all ≡ call_word kind x ∷ (h.0 ++ orders) = e ∙ ap (λ (v : List (List ℕ)). v ++ orders) h.2 in
    let w-is : w ≡ call_word kind x = cc in
    let all-is : all ≡ h.0 ++ orders = cc in
    let op = operation_of kind x in
    let known : if_of_version version (operation_of_word (operation_word op)) ≡ Some op = ap (if_of_version version) (operation_word_is_read op) ∙ of_version_again version op (call_is_of version kind x of) in
    let rest = operands_again kind (form_of op) x (operands_of kind x) k h.0 orders (call_gives kind x fits) h.1 in
    (rest.0, rw (w-is, known, call_has_operation kind x is fits, all-is) rest.1)

-- ---- call lines

joined : (w name v : List ℕ) (ws rest all : List (List ℕ)) → name ≡ w → ws ≡ v ∷ rest → v ∷ rest ≡ all → w ∷ ws ≡ name ∷ all
joined w name v ws rest all e f g = cc

pub record TakesCall (s : State) (l : Line) (ws : List (List ℕ)) : Type 0 where
  pub room : has_room s ≡ true
  pub stands : LineStands s.version s.objects l
  pub said : IsSaid s.objects (items.Call l) ws

line_fits : (objects : List Declared) (l : Line) (d : Declared) → slice_get objects l.object ≡ Some d → HasLine l d → LineFits objects l
line_fits objects l d e h = subst (λ (o : Option Declared). IsSomeAnd o (HasLine l)) (sym e) h

abbrev line : ℕ → Call → Order → Option Order → Line
line object call success failure = record { object = object; call = call; success = success; failure = failure }

-- a call line, once its parts are found
takes_parts : (s : State) (object k : ℕ) (w v : List ℕ) (ws rest : List (List ℕ)) (call : Call × Cursor) (o : Orders) → AllByRecursion IsDeclared s.objects → object_of s.objects w ≡ Some object → has_room s ≡ true → ws ≡ v ∷ rest
    → operation_at s.version (kind_at s.objects object) v (record { taken = k; left = rest }) ≡ Ok call → orders_at call.0 call.1 ≡ Ok o → TakesCall s (line object call.0 o.success o.failure) (w ∷ ws)
takes_parts s object k w v ws rest call o known found room ws-is op-is order-is =
    let d = named s.objects w object found in
    let is : IsKind d.0.kind = (all_at IsDeclared s.objects object d.0 known d.1).0 in
    let kind-is : kind_at s.objects object ≡ d.0.kind = ap kind_in d.1 in
    let ops = operation_takes s.version d.0.kind v (record { taken = k; left = rest }) call is (subst (λ (kind : Kind). operation_at s.version kind v (record { taken = k; left = rest }) ≡ Ok call) kind-is op-is) in
    let ord = orders_takes call.0 call.1 o order-is in
    record {
      room = room;
      stands = (line_fits s.objects (line object call.0 o.success o.failure) d.0 d.1 (ops.fits, ops.position, ord.fits), ops.of_version);
      said = (d.0, d.1, ops.words, call.1.left, ops.said, ord.said, joined w d.0.name v ws rest (ops.words ++ call.1.left) d.2 ws-is ops.all);
    }

pub call_takes : (s : State) (w : List ℕ) (c : Cursor) (i : Item) → AllByRecursion IsDeclared s.objects → call_at s w c ≡ Ok i → (l : Line) × (items.Call l ≡ i) × TakesCall s l (w ∷ c.left)
unfolding call_at
call_takes s w c i known e =
    let o = need_then c causes.UnknownName (object_of s.objects w) _ i e in
    let a = check_then c causes.Limit (has_room s) _ i o.2 in
    let v = word_then c _ i a.1 in
    let call = bind_then (operation_at s.version (kind_at s.objects o.0) v.0 (record { taken = c.taken + 1; left = v.1 })) _ i v.3 in
    let orders = bind_then (orders_at call.0.0 call.0.1) _ i call.2 in
    let l = line o.0 call.0.0 orders.0.success orders.0.failure in
    (l, ok_is (items.Call l) i orders.2, takes_parts s o.0 (c.taken + 1) w v.0 c.left v.1 call.0 orders.0 known o.1 a.0 v.2 call.1 orders.1)

pub call_again : (s : State) (l : Line) (d : Declared) (k : ℕ) (w : List ℕ) (ws : List (List ℕ)) → has_room s ≡ true → IsKind d.kind → HasLine l d → IsCallOf s.version l.call → slice_get s.objects l.object ≡ Some d → object_of s.objects d.name ≡ Some l.object
    → (call orders : List (List ℕ)) → IsOperation d.kind l.call call → AreOrders (orders_of l) orders → w ∷ ws ≡ d.name ∷ (call ++ orders) → call_at s w (record { taken = k; left = ws }) ≡ Ok (items.Call l)
unfolding call_at need_at check_at word_at
call_again s l d k w ws room is has of there found call orders is_call is_order e =
    let w-is : w ≡ d.name = cc in
    let ws-is : ws ≡ call ++ orders = cc in
    let word = call_word d.kind l.call in
    let rest = is_call.0 ++ orders in
    let ws-at : ws ≡ word ∷ rest = ws-is ∙ ap (λ (v : List (List ℕ)). v ++ orders) is_call.2 in
    let op = operation_again s.version d.kind l.call (k + 1) word call orders rest is has.0 of is_call (sym ws-at ∙ ws-is) in
    rw (w-is, found, room, ws-at, there, op.1, orders_again l.call op.0 l.success l.failure orders has.2 is_order) refl
