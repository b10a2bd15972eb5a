-- Orders that are read are spelled, and orders that are spelled are read.
use Rattle.std.proofs.Common.{◌≡◌, ℕ, Bool, true, false, cond, List, [], ◌∷◌, Option, Some, None, is_some, is_none, Ok, refl, ap, subst, ◌∙◌, inl, inr}
use Rattle.std.proofs.lemmas.Bool.{and_parts}
use Rattle.line_words.specs.Cursor.{Cursor, at_end}
use Rattle.op_table.specs.declared.call.Call.{Call}
use Rattle.op_table.specs.declared.call.Call.TheVariants.{Load, Store, Cas, CasWeak}
use Rattle.op_table.specs.declared.order.Order.{Order}
use Rattle.op_table.specs.declared.order.Order.TheVariants.{Relaxed, Acquire, Release, AcqRel, SeqCst}
use Rattle.op_table.specs.CallTests.{is_exchange}
use Rattle.op_table.specs.Orders.{order_word, order_of_word, is_failure_order, order_fits}
use Rattle.op_table.proofs.WordTables.{order_word_is_read, order_has_one_word}
use Rattle.work_lang.specs.declared.fault.Cause.TheVariants as causes
use Rattle.work_lang.specs.declared.orders.Orders.{Orders}
use Rattle.work_lang.specs.Slips.{word_at, end_at, need_at, check_at}
use Rattle.work_lang.specs.CallOrders.{left_out, and_failure, is_seq_cst, are_seq_cst}
use Rattle.work_lang.specs.Reading.{order_at, one_order_at, two_orders_at, orders_at}
use Rattle.work_lang.specs.Spelling.{AreOrders}
use Rattle.work_lang.proofs.Steps.{check_then, word_then, end_then, need_then, bind_then, chosen, ok_is, no_words}

abbrev pub both : Order → Option Order → Orders
both success failure = record { success = success; failure = failure }

-- ---- which calls have a failure order

none_is : (f : Option Order) → is_none f ≡ true → false ≡ is_some f
none_is None e = refl
none_is (Some x) e = absurd cc

some_is : (f : Option Order) → is_failure_order f ≡ true → true ≡ is_some f
some_is None e = absurd cc
some_is (Some x) e = refl

exchange_is : (x : Call) (s : Order) (f : Option Order) → order_fits x s f ≡ true → is_exchange x ≡ is_some f
exchange_is Load s f e = none_is f (and_parts _ _ e).1
exchange_is (Store a) s f e = none_is f (and_parts _ _ e).1
exchange_is (Cas a b) s f e = some_is f e
exchange_is (CasWeak a b) s f e = some_is f e
exchange_is _ s f e = none_is f e

-- every call accepts sequential consistency
left_out_fits : (x : Call) → order_fits x (left_out x).success (left_out x).failure ≡ true
left_out_fits Load = refl
left_out_fits _ = refl

left_out_seq_cst : (exchange : Bool) → are_seq_cst (SeqCst ∷ and_failure (cond exchange (Some SeqCst) None)) ≡ true
left_out_seq_cst true = refl
left_out_seq_cst false = refl

-- ---- reading

order_takes : (c : Cursor) (x : Order × Cursor) → order_at c ≡ Ok x → c.left ≡ order_word x.0 ∷ x.1.left
unfolding order_at
order_takes c x e =
    let w = word_then c _ x e in
    let o = need_then _ causes.Extra (order_of_word w.0) _ x w.3 in
    subst (λ (y : Order × Cursor). c.left ≡ order_word y.0 ∷ y.1.left) (ok_is _ _ o.2) (w.2 ∙ ap (λ (v : List ℕ). v ∷ w.1) (order_has_one_word w.0 o.0 o.1))

-- the orders are accepted, and spelled
pub record TakesOrders (x : Call) (ws : List (List ℕ)) (o : Orders) : Type 0 where
  pub fits : order_fits x o.success o.failure ≡ true
  pub said : AreOrders (o.success ∷ and_failure o.failure) ws

one_takes : (x : Call) (c : Cursor) (o : Orders) → one_order_at x c ≡ Ok o → TakesOrders x c.left o
unfolding one_order_at
one_takes x c o e =
    let s = bind_then (order_at c) _ o e in
    let b = check_then _ causes.BadOrder (order_fits x s.0.0 None) _ o s.2 in
    let f = end_then _ _ o b.1 in
    let words : c.left ≡ order_word s.0.0 ∷ [] = order_takes c s.0 s.1 ∙ ap (λ (ws : List (List ℕ)). order_word s.0.0 ∷ ws) f.0 in
    subst (TakesOrders x c.left) (ok_is (both s.0.0 None) o f.1) (record { fits = b.0; said = inl words })

two_takes : (x : Call) (c : Cursor) (o : Orders) → two_orders_at x c ≡ Ok o → TakesOrders x c.left o
unfolding two_orders_at
two_takes x c o e =
    let s = bind_then (order_at c) _ o e in
    let t = bind_then (order_at s.0.1) _ o s.2 in
    let b = check_then _ causes.BadOrder (order_fits x s.0.0 (Some t.0.0)) _ o t.2 in
    let f = end_then _ _ o b.1 in
    let words : c.left ≡ order_word s.0.0 ∷ order_word t.0.0 ∷ [] = order_takes c s.0 s.1 ∙ ap (λ (ws : List (List ℕ)). order_word s.0.0 ∷ ws) (order_takes s.0.1 t.0 t.1 ∙ ap (λ (ws : List (List ℕ)). order_word t.0.0 ∷ ws) f.0) in
    subst (TakesOrders x c.left) (ok_is (both s.0.0 (Some t.0.0)) o f.1) (record { fits = b.0; said = inl words })

pub orders_takes : (x : Call) (c : Cursor) (o : Orders) → orders_at x c ≡ Ok o → TakesOrders x c.left o
unfolding orders_at
orders_takes x c o e =
    elim (chosen (at_end c) _ _ (Ok o) e) [
      | inl p ↦ subst (TakesOrders x c.left) (ok_is (left_out x) o p.1) (record { fits = left_out_fits x; said = inr (left_out_seq_cst (is_exchange x), no_words c.left p.0) })
      | inr p ↦ elim (chosen (is_exchange x) _ _ (Ok o) p.1) [
        | inl q ↦ two_takes x c o q.1
        | inr q ↦ one_takes x c o q.1
      ]
    ]

-- ---- and back

seq_cst_is : (o : Order) → is_seq_cst o ≡ true → o ≡ SeqCst
seq_cst_is Relaxed e = absurd cc
seq_cst_is Acquire e = absurd cc
seq_cst_is Release e = absurd cc
seq_cst_is AcqRel e = absurd cc
seq_cst_is SeqCst e = refl

pub orders_again : (x : Call) (k : ℕ) (s : Order) (f : Option Order) (ws : List (List ℕ)) → order_fits x s f ≡ true → AreOrders (s ∷ and_failure f) ws → orders_at x (record { taken = k; left = ws }) ≡ Ok (both s f)
unfolding orders_at one_order_at two_orders_at order_at word_at end_at need_at check_at
orders_again x k s None ws fits (inl e) = rw (e, exchange_is x s None fits, order_word_is_read s, fits) refl
orders_again x k s (Some f) ws fits (inl e) = rw (e, exchange_is x s (Some f) fits, order_word_is_read s, order_word_is_read f, fits) refl
orders_again x k s None ws fits (inr e) =
    let s-is : s ≡ SeqCst = seq_cst_is s (and_parts _ _ e.0).0 in
    rw (e.1, exchange_is x s None fits, s-is) refl
orders_again x k s (Some f) ws fits (inr e) =
    let parts = and_parts _ _ e.0 in
    let s-is : s ≡ SeqCst = seq_cst_is s parts.0 in
    let f-is : f ≡ SeqCst = seq_cst_is f (and_parts _ _ parts.1).0 in
    rw (e.1, exchange_is x s (Some f) fits, s-is, f-is) refl
