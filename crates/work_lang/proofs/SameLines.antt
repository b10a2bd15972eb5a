-- Lines that the test `==` takes for equal are one.
use Rattle.std.proofs.Common.{◌≡◌, ℕ, true, false, Bool, ◌&&◌, Option, Some, None, eqb, refl, sym, ap, ◌∙◌, subst, eq-eqb}
use Rattle.std.proofs.Math.Bool.{beq}
use Rattle.std.proofs.lemmas.Bool.{and_parts, and_from, eqb-true}
use denote.Enum.Bare.{same_true, true_same}
use Rattle.op_table.specs.declared.call.Call.{Call}
use Rattle.op_table.specs.declared.call.Call.TheVariants.{Load, Store, Swap, Nand, Max, Min, BitSet, BitClear, BitToggle, AddFetch, SubFetch, AndFetch, NandFetch, OrFetch, XorFetch, Cas, CasWeak, Add, Sub, And, Or, Xor, Not, Neg}
use Rattle.op_table.specs.declared.order.Order.{Order}
use Rattle.op_table.specs.contracts.call.CallPartialEq.TheImpl as calls
use Rattle.op_table.specs.contracts.order.OrderPartialEq.TheImpl as orders
use Rattle.op_table.specs.contracts.order.Order as order
use Rattle.place_core.specs.declared.script.Line.{Line}
use Rattle.place_core.specs.contracts.script.LinePartialEq.TheImpl as lines

abbrev calls_equal : Call → Call → Bool
calls_equal = (calls.ghosts).eq

abbrev orders_equal : Order → Order → Bool
orders_equal = (orders.ghosts).eq

abbrev pub lines_equal : Line → Line → Bool
lines_equal = (lines.ghosts).eq

-- ---- parts

same_flag : (p q : Bool) → beq p q ≡ true → p ≡ q
same_flag true true e = refl
same_flag true false e = sym e
same_flag false true e = e
same_flag false false e = refl

flag_itself : (p : Bool) → beq p p ≡ true
flag_itself true = refl
flag_itself false = refl

same_order : (x y : Order) → orders_equal x y ≡ true → x ≡ y
same_order x y e = same_true order.the_type tt x y e

order_itself : (x : Order) → orders_equal x x ≡ true
order_itself x = true_same order.the_type x x refl

number : (f : ℕ → Call) (a b : ℕ) → eqb a b ≡ true → f a ≡ f b
number f a b e = ap f (eqb-true a b e)

number_and_flag : (f : ℕ → Bool → Call) (a b : ℕ) (p q : Bool) → eqb a b && beq p q ≡ true → f a p ≡ f b q
number_and_flag f a b p q e =
    let parts = and_parts (eqb a b) (beq p q) e in
    ap (λ (n : ℕ). f n p) (eqb-true a b parts.0) ∙ ap (f b) (same_flag p q parts.1)

numbers : (f : ℕ → ℕ → Call) (a b c d : ℕ) → eqb a c && eqb b d ≡ true → f a b ≡ f c d
numbers f a b c d e =
    let parts = and_parts (eqb a c) (eqb b d) e in
    ap (λ (n : ℕ). f n b) (eqb-true a c parts.0) ∙ ap (f c) (eqb-true b d parts.1)

itself : (a : ℕ) → eqb a a ≡ true
itself a = eq-eqb a a refl

apart : {A : Type 0} → false ≡ true → A
apart e = absurd cc

-- ---- calls

same_call : (x y : Call) → calls_equal x y ≡ true → x ≡ y
same_call Load Load e = refl
same_call (Store a) (Store b) e = number Store a b e
same_call (Swap a) (Swap b) e = number Swap a b e
same_call (Nand a) (Nand b) e = number Nand a b e
same_call (Max a) (Max b) e = number Max a b e
same_call (Min a) (Min b) e = number Min a b e
same_call (BitSet a) (BitSet b) e = number BitSet a b e
same_call (BitClear a) (BitClear b) e = number BitClear a b e
same_call (BitToggle a) (BitToggle b) e = number BitToggle a b e
same_call (AddFetch a) (AddFetch b) e = number AddFetch a b e
same_call (SubFetch a) (SubFetch b) e = number SubFetch a b e
same_call (AndFetch a) (AndFetch b) e = number AndFetch a b e
same_call (NandFetch a) (NandFetch b) e = number NandFetch a b e
same_call (OrFetch a) (OrFetch b) e = number OrFetch a b e
same_call (XorFetch a) (XorFetch b) e = number XorFetch a b e
same_call (Cas a b) (Cas c d) e = numbers Cas a b c d e
same_call (CasWeak a b) (CasWeak c d) e = numbers CasWeak a b c d e
same_call (Add a p) (Add b q) e = number_and_flag Add a b p q e
same_call (Sub a p) (Sub b q) e = number_and_flag Sub a b p q e
same_call (And a p) (And b q) e = number_and_flag And a b p q e
same_call (Or a p) (Or b q) e = number_and_flag Or a b p q e
same_call (Xor a p) (Xor b q) e = number_and_flag Xor a b p q e
same_call (Not p) (Not q) e = ap Not (same_flag p q e)
same_call (Neg p) (Neg q) e = ap Neg (same_flag p q e)
same_call _ _ e = apart e

call_itself : (x : Call) → calls_equal x x ≡ true
call_itself Load = refl
call_itself (Store a) = itself a
call_itself (Swap a) = itself a
call_itself (Nand a) = itself a
call_itself (Max a) = itself a
call_itself (Min a) = itself a
call_itself (BitSet a) = itself a
call_itself (BitClear a) = itself a
call_itself (BitToggle a) = itself a
call_itself (AddFetch a) = itself a
call_itself (SubFetch a) = itself a
call_itself (AndFetch a) = itself a
call_itself (NandFetch a) = itself a
call_itself (OrFetch a) = itself a
call_itself (XorFetch a) = itself a
call_itself (Cas a b) = and_from (eqb a a) (eqb b b) (itself a) (itself b)
call_itself (CasWeak a b) = and_from (eqb a a) (eqb b b) (itself a) (itself b)
call_itself (Add a p) = and_from (eqb a a) (beq p p) (itself a) (flag_itself p)
call_itself (Sub a p) = and_from (eqb a a) (beq p p) (itself a) (flag_itself p)
call_itself (And a p) = and_from (eqb a a) (beq p p) (itself a) (flag_itself p)
call_itself (Or a p) = and_from (eqb a a) (beq p p) (itself a) (flag_itself p)
call_itself (Xor a p) = and_from (eqb a a) (beq p p) (itself a) (flag_itself p)
call_itself (Not p) = flag_itself p
call_itself (Neg p) = flag_itself p

-- ---- lines

abbrev line_of : Call → ℕ → Order → Option Order → Line
line_of call object success failure = record { call = call; object = object; success = success; failure = failure }

-- the parts of a line but for its failure order, and what is told of that
same_parts : (c d : Call) (o p : ℕ) (s t : Order) (f g : Option Order) (last : Bool) → (last ≡ true → f ≡ g) → calls_equal c d && (eqb o p && (orders_equal s t && last)) ≡ true → line_of c o s f ≡ line_of d p t g
same_parts c d o p s t f g last told e =
    let one = and_parts (calls_equal c d) (eqb o p && (orders_equal s t && last)) e in
    let two = and_parts (eqb o p) (orders_equal s t && last) one.1 in
    let three = and_parts (orders_equal s t) last two.1 in
    let call-is = same_call c d one.0 in
    let object-is = eqb-true o p two.0 in
    let success-is = same_order s t three.0 in
    let failure-is = told three.1 in
    λ i. line_of (call-is i) (object-is i) (success-is i) (failure-is i)

parts_themselves : (c : Call) (o : ℕ) (s : Order) (last : Bool) → last ≡ true → calls_equal c c && (eqb o o && (orders_equal s s && last)) ≡ true
parts_themselves c o s last e = and_from (calls_equal c c) _ (call_itself c) (and_from (eqb o o) _ (itself o) (and_from (orders_equal s s) last (order_itself s) e))

same_by_failure : (c d : Call) (o p : ℕ) (s t : Order) (f g : Option Order) → lines_equal (line_of c o s f) (line_of d p t g) ≡ true → line_of c o s f ≡ line_of d p t g
same_by_failure c d o p s t None None e = same_parts c d o p s t None None true (λ _. refl) e
same_by_failure c d o p s t None (Some b) e = same_parts c d o p s t None (Some b) false (λ h. apart h) e
same_by_failure c d o p s t (Some a) None e = same_parts c d o p s t (Some a) None false (λ h. apart h) e
same_by_failure c d o p s t (Some a) (Some b) e = same_parts c d o p s t (Some a) (Some b) (orders_equal a b) (λ h. ap Some (same_order a b h)) e

itself_by_failure : (c : Call) (o : ℕ) (s : Order) (f : Option Order) → lines_equal (line_of c o s f) (line_of c o s f) ≡ true
itself_by_failure c o s None = parts_themselves c o s true refl
itself_by_failure c o s (Some a) = parts_themselves c o s (orders_equal a a) (order_itself a)

-- two lines are equal where `==` says it, and nowhere else
pub equal_is_same : (x y : Line) (b : Bool) → b ≡ lines_equal x y → (b ≡ true → x ≡ y) × (x ≡ y → b ≡ true)
equal_is_same x y b is = (
  λ e. same_by_failure x.call y.call x.object y.object x.success y.success x.failure y.failure (sym is ∙ e),
  λ e. is ∙ (subst (λ (z : Line). lines_equal x z ≡ true) e (itself_by_failure x.call x.object x.success x.failure)),
)
