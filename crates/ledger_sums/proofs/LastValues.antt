-- In every run an object with a fixed value ends with it.
use Rattle.std.proofs.Common.{◌≡◌, ◌⊎◌, inl, inr, ⊎_elim, ℕ, zero, suc, ◌+◌, ◌<◌, ◌≤◌, Bool, true, false, List, [], ◌∷◌, ◌++◌, length, map, refl, ap, sym, ◌∙◌, subst, arith, eq-eqb, ne_eqb}
use Rattle.std.specs.Prelude.{if◌then◌else◌, ◌&&◌, ◌||◌, Some, None, slice_get, IsSomeAnd}
use Rattle.std.specs.declared.option.Option.{Option}
use Rattle.std.specs.List.{AllByRecursion}
use Rattle.std.proofs.lemmas.List.{map-append}
use mathlib.Core.Logic.{dite}
use native.Mathlib.Decide.{ℕ_discrete}
use Rattle.op_table.specs.declared.kind.Kind.{Kind}
use Rattle.op_table.specs.declared.call.Call.{Call}
use Rattle.op_table.specs.Kind.{values_of, IsKind}
use Rattle.op_table.specs.Call.{after_of, Permits, CallFits}
use Rattle.place_core.specs.declared.entry.Entry.{Entry}
use Rattle.place_core.specs.declared.places.Object.{Object}
use Rattle.place_core.specs.declared.script.Line.{Line}
use Rattle.place_core.specs.declared.shape.Shape.{Shape}
use Rattle.place_core.specs.Histories.{Each, value_from}
use Rattle.place_core.specs.Cells.{Cell, entries_by, left_by, value_of, IsLawful}
use Rattle.place_core.specs.Runs.{made_of, asked_of, FollowScripts, loads_from, IsCellRun}
use Rattle.place_core.specs.Shapes.{IsShape, cells_of_shape, kind_in, start_in}
use Rattle.place_core.proofs.CellValues.{value_of-there}
use Rattle.place_core.proofs.EntryLists.{all_front, all_rest, all_map, all_both, Each-append, Each-at, CallersWithin-all, made_by-own_first, made_by-other_first}
use Rattle.ledger_sums.specs.declared.families.Family.{Family}
use Rattle.ledger_sums.specs.declared.families.Family.TheVariants.{Sums, Flips, Sets, Clears, Maxima, Minima}
use Rattle.ledger_sums.specs.Families.{mix_of, suits, all_suit, are_of_one_family}
use Rattle.ledger_sums.specs.Fixed.{calls_on, lines_of, after_calls, fixed_by}
use Rattle.ledger_sums.specs.Laws.{IsSoundCell, EitherOrder, FixedIsLast, FixedIsLastOfShape}
use Rattle.ledger_sums.proofs.Members.{IsMember, either_order, leaves_after}
use Rattle.ledger_sums.proofs.Rearranged.{steps, by_callers, steps-lines, steps-loads, by_callers-scripts, steps-by_callers}

-- ---- the family

either_true : (a b : Bool) → (a || b) ≡ true → (a ≡ true) ⊎ (b ≡ true)
either_true true b is = inl refl
either_true false b is = inr is

pub both_true : (a b : Bool) → (a && b) ≡ true → (a ≡ true) × (b ≡ true)
both_true true b is = (refl, is)
both_true false b is = absurd cc

pub the_family : (calls : List Call) → are_of_one_family calls ≡ true → (f : Family) × (all_suit f calls ≡ true)
the_family calls is = ⊎_elim
    (λ a. (Sums, a))
    (λ rest. ⊎_elim
    (λ a. (Flips, a))
    (λ rest. ⊎_elim
    (λ a. (Sets, a))
    (λ rest. ⊎_elim
    (λ a. (Clears, a))
    (λ rest. ⊎_elim (λ a. (Maxima, a)) (λ a. (Minima, a)) (either_true (all_suit Maxima calls) (all_suit Minima calls) rest))
    (either_true (all_suit Clears calls) (all_suit Maxima calls || all_suit Minima calls) rest))
    (either_true (all_suit Sets calls) (all_suit Clears calls || (all_suit Maxima calls || all_suit Minima calls)) rest))
    (either_true (all_suit Flips calls) (all_suit Sets calls || (all_suit Clears calls || (all_suit Maxima calls || all_suit Minima calls))) rest))
    (either_true (all_suit Sums calls) (all_suit Flips calls || (all_suit Sets calls || (all_suit Clears calls || (all_suit Maxima calls || all_suit Minima calls)))) is)

pub either_order_of_two : EitherOrder
either_order_of_two kind c d v valid fits fits_too small one =
    let family = the_family (c ∷ d ∷ []) one in
    let f = family.0 in
    let first = both_true (suits f (mix_of c)) (all_suit f (d ∷ [])) family.1 in
    let second = both_true (suits f (mix_of d)) (all_suit f []) first.1 in
    either_order kind f c d v valid (record { suited = first.0; fits = fits }) (record { suited = second.0; fits = fits_too }) small

-- ---- each entry on the object is of the family

-- a call on object o suits the family
abbrev Suited : Family → ℕ → ℕ × Call → Type 0
Suited f o a = a.0 ≡ o → suits f (mix_of a.1) ≡ true

lines_suited : (f : Family) (o : ℕ) (lines : List Line) → all_suit f (calls_on o lines) ≡ true → AllByRecursion (Suited f o) (map asked_of lines)
lines_suited f o [] all = tt
lines_suited f o (line ∷ lines) all = dite (ℕ_discrete line.object o)
    (λ own.
    let calls : all_suit f (line.call ∷ calls_on o lines) ≡ true = ap (λ (b : Bool). all_suit f (if b then line.call ∷ calls_on o lines else calls_on o lines)) (sym (eq-eqb line.object o own)) ∙ all in
    let both = both_true (suits f (mix_of line.call)) (all_suit f (calls_on o lines)) calls in
    (λ same. both.0, lines_suited f o lines both.1))
    (λ other.
    let calls : all_suit f (calls_on o lines) ≡ true = ap (λ (b : Bool). all_suit f (if b then line.call ∷ calls_on o lines else calls_on o lines)) (sym (ne_eqb line.object o other)) ∙ all in
    (λ same. absurd (other same), lines_suited f o lines calls))

loads_suited : (f : Family) (o j : ℕ) (cells : List Cell) → AllByRecursion (Suited f o) (loads_from j cells)
loads_suited f o j [] = tt
loads_suited f o j (cell ∷ cells) = (λ same. refl, loads_suited f o (j + 1) cells)

pub all_item : {X : Type 0} (P : X → Type 0) (xs : List X) (o : ℕ) (x : X) → AllByRecursion P xs → slice_get xs o ≡ Some x → P x
all_item P [] o x all at = absurd cc
all_item P (y ∷ xs) zero x all at = let same : y ≡ x = cc in subst P same all.0
all_item P (y ∷ xs) (suc o) x all at = all_item P xs o x all.1 at

from_made : (Q : ℕ × Call → Type 0) (H : List Entry) → AllByRecursion Q (map made_of H) → AllByRecursion (λ x. Q (made_of x)) H
from_made Q [] all = tt
from_made Q (x ∷ H) all = (all.0, from_made Q H all.1)

-- the entries of the scripts' callers
caller_suited : (Q : ℕ × Call → Type 0) (H : List Entry) (i : ℕ) (scripts : List (List Line)) → FollowScripts H i scripts → AllByRecursion Q (map asked_of (lines_of scripts)) → (c : ℕ) → i ≤ c → c < i + length scripts
    → AllByRecursion (λ x. Q (made_of x)) (entries_by H c)
caller_suited Q H i [] follow all c least below = absurd (omega arith)
caller_suited Q H i (script ∷ scripts) follow all c least below =
    let parts : AllByRecursion Q (map asked_of script ++ map asked_of (lines_of scripts)) = subst (AllByRecursion Q) (map-append asked_of script (lines_of scripts)) all in
    dite (ℕ_discrete i c)
    (λ same. subst (λ (n : ℕ). AllByRecursion (λ x. Q (made_of x)) (entries_by H n)) same
    (from_made Q (entries_by H i) (subst (AllByRecursion Q) (sym follow.0) (all_front Q (map asked_of script) (map asked_of (lines_of scripts)) parts))))
    (λ other. caller_suited Q H (i + 1) scripts follow.1 (all_rest Q (map asked_of script) (map asked_of (lines_of scripts)) parts) c (omega (arith, other)) (omega arith))

-- what holds of the entries of each caller holds of all
from_callers : (P : Entry → Type 0) (H : List Entry) (n : ℕ) → AllByRecursion (λ x. x.caller ≤ n) H → ((c : ℕ) → c ≤ n → AllByRecursion P (entries_by H c)) → AllByRecursion P H
from_callers P [] n within each = tt
from_callers P (x ∷ H) n within each = (
  (subst (AllByRecursion P) (made_by-own_first (λ (y : Entry). y.caller) x H x.caller refl) (each x.caller within.0)).0,
  from_callers P H n within.1 (λ c below. dite (ℕ_discrete x.caller c)
      (λ own. (subst (AllByRecursion P) (made_by-own_first (λ (y : Entry). y.caller) x H c own) (each c below)).1)
      (λ other. subst (AllByRecursion P) (made_by-other_first (λ (y : Entry). y.caller) x H c other) (each c below))),
)

run_suited : (cells : List Cell) (scripts : List (List Line)) (H : List Entry) (f : Family) (o : ℕ) → IsCellRun cells scripts H → all_suit f (calls_on o (lines_of scripts)) ≡ true → AllByRecursion (λ x. Suited f o (made_of x)) H
run_suited cells scripts H f o run all =
    from_callers (λ x. Suited f o (made_of x)) H (length scripts) ((CallersWithin-all (λ (x : Entry). x.caller) (length scripts) H).0 run.callers)
    (λ c below. dite (ℕ_discrete 0 c)
    (λ zeroth. subst (λ (n : ℕ). AllByRecursion (λ x. Suited f o (made_of x)) (entries_by H n)) zeroth
    (from_made (Suited f o) (entries_by H 0) (subst (AllByRecursion (Suited f o)) (sym run.ends.loads) (loads_suited f o 0 cells))))
    (λ later. caller_suited (Suited f o) H 1 scripts run.scripted (lines_suited f o (lines_of scripts) all) c (omega (arith, later)) (omega arith)))

-- ---- each entry on the object leaves the table's value

each_all : (P : List Entry → Entry → Type 0) (Q : Entry → Type 0) (H : List Entry) → ((G : List Entry) (x : Entry) → P G x → Q x) → Each P H → AllByRecursion Q H
each_all P Q [] f each = tt
each_all P Q (x ∷ H) f each = (
  f [] x (Each-at P [] x H each),
  each_all (λ G. P (x ∷ G)) Q H (λ G. f (x ∷ G)) ((Each-append P (x ∷ []) H).0 each).1,
)

-- the entry's call fits, and its reply is permitted at some value
pub record IsPermitted (k : Kind) (x : Entry) : Type 0 where
  pub fits : CallFits k x.call
  pub value : ℕ
  pub left : ℕ
  pub permitted : Permits k x.call value x.reply left

lawful_here : (cells : List Cell) (o : ℕ) (cell : Cell) → slice_get cells o ≡ Some cell → (G : List Entry) (x : Entry) → IsLawful cells G x → x.object ≡ o → IsPermitted cell.kind x
lawful_here cells o cell at G x lawful own =
    let here : IsSomeAnd (Some cell) (λ (c : Cell). let v = value_of cells G x.object in CallFits c.kind x.call × Permits c.kind x.call v x.reply (left_by c.kind x v)) =
    subst (λ (z : Option Cell). IsSomeAnd z (λ (c : Cell). let v = value_of cells G x.object in CallFits c.kind x.call × Permits c.kind x.call v x.reply (left_by c.kind x v))) (ap (slice_get cells) own ∙ at) lawful in
    record { fits = here.0; value = value_of cells G x.object; left = left_by cell.kind x (value_of cells G x.object); permitted = here.1 }

-- what is known of each entry
abbrev IsEntryOf : Kind → Family → ℕ → Entry → Type 0
IsEntryOf k f o x = x.object ≡ o → IsMember k f x.call × ((w : ℕ) → left_by k x w ≡ after_of k x.call w)

run_entries : (cells : List Cell) (scripts : List (List Line)) (H : List Entry) (f : Family) (o : ℕ) (cell : Cell) → slice_get cells o ≡ Some cell → IsCellRun cells scripts H → all_suit f (calls_on o (lines_of scripts)) ≡ true
    → AllByRecursion (IsEntryOf cell.kind f o) H
run_entries cells scripts H f o cell at run all =
    all_both (λ x. Suited f o (made_of x)) (λ x. x.object ≡ o → IsPermitted cell.kind x) (IsEntryOf cell.kind f o) H
    (λ x suited permitted own.
    let is = permitted own in
    (record { suited = suited own; fits = is.fits }, leaves_after cell.kind f x.call is.value is.left x.reply (suited own) is.permitted))
    (run_suited cells scripts H f o run all)
    (each_all (IsLawful cells) (λ x. x.object ≡ o → IsPermitted cell.kind x) H (lawful_here cells o cell at) run.legal)

value_from-steps : (k : Kind) (f : Family) (o v : ℕ) (H : List Entry) → AllByRecursion (IsEntryOf k f o) H → value_from (λ (x : Entry). x.object) (left_by k) o v H ≡ steps k o v (map made_of H)
unfolding value_from
value_from-steps k f o v [] all = refl
value_from-steps k f o v (x ∷ H) all = dite (ℕ_discrete x.object o)
    (λ own.
    ap (λ (b : Bool). value_from (λ (y : Entry). y.object) (left_by k) o (if b then left_by k x v else v) H) (eq-eqb x.object o own)
    ∙ ap (λ w. value_from (λ (y : Entry). y.object) (left_by k) o w H) ((all.0 own).1 v)
    ∙ value_from-steps k f o (after_of k x.call v) H all.1
    ∙ ap (λ (b : Bool). steps k o (if b then after_of k x.call v else v) (map made_of H)) (sym (eq-eqb x.object o own)))
    (λ other.
    ap (λ (b : Bool). value_from (λ (y : Entry). y.object) (left_by k) o (if b then left_by k x v else v) H) (ne_eqb x.object o other)
    ∙ value_from-steps k f o v H all.1
    ∙ ap (λ (b : Bool). steps k o (if b then after_of k x.call v else v) (map made_of H)) (sym (ne_eqb x.object o other)))

-- ---- the last value

pub last_value : (cells : List Cell) (scripts : List (List Line)) (H : List Entry) (f : Family) (o : ℕ) (cell : Cell) → slice_get cells o ≡ Some cell → IsSoundCell cell → IsCellRun cells scripts H → all_suit f (calls_on o (lines_of scripts)) ≡ true
    → value_of cells H o ≡ after_calls cell.kind cell.start (calls_on o (lines_of scripts))
last_value cells scripts H f o cell at sound run all =
    let k = cell.kind in
    let v = cell.start in
    let n = length scripts in
    let entries = run_entries cells scripts H f o cell at run all in
    let within = all_map (λ x. x.caller ≤ n) (λ x. (0 ≤ x.caller) × (x.caller < 0 + suc n)) H (λ x below. (omega arith, omega arith)) ((CallersWithin-all (λ (x : Entry). x.caller) n H).0 run.callers) in
    let joins = all_map (IsEntryOf k f o) (λ x. x.object ≡ o → IsMember k f x.call) H (λ x is own. (is own).0) entries in
    value_of-there cells H o cell at
    ∙ value_from-steps k f o v H entries
    ∙ steps-by_callers k sound.0 f o v H 0 (suc n) within joins sound.1
    ∙ ap (λ (l : List (ℕ × Call)). by_callers k o (steps k o v l) H 1 n) run.ends.loads
    ∙ ap (λ w. by_callers k o w H 1 n) (steps-loads k o v 0 cells)
    ∙ by_callers-scripts k o v H 1 scripts run.scripted
    ∙ steps-lines k o v (lines_of scripts)

told_family : (b : Bool) (x v : ℕ) → (if b then Some x else None) ≡ Some v → (b ≡ true) × (x ≡ v)
told_family true x v is = let same : x ≡ v = cc in (refl, same)
told_family false x v is = absurd cc

fixed_last : (cells : List Cell) (scripts : List (List Line)) (H : List Entry) (o v : ℕ) (z : Option Cell) → slice_get cells o ≡ z → ((cell : Cell) → z ≡ Some cell → IsSoundCell cell) → IsCellRun cells scripts H → fixed_by z (calls_on o (lines_of scripts)) ≡ Some v → value_of cells H o ≡ v
fixed_last cells scripts H o v None at sound run is = absurd cc
fixed_last cells scripts H o v (Some cell) at sound run is =
    let calls = calls_on o (lines_of scripts) in
    let told = told_family (are_of_one_family calls) (after_calls cell.kind cell.start calls) v is in
    let family = the_family calls told.0 in
    last_value cells scripts H family.0 o cell at (sound cell refl) run family.1 ∙ told.1

pub fixed_is_last : FixedIsLast
fixed_is_last cells scripts H o v sound run is =
    fixed_last cells scripts H o v (slice_get cells o) refl (λ cell at. all_item IsSoundCell cells o cell sound at) run is

-- ---- the objects of a shape

cell_sound : (S : Shape) → IsShape S → AllByRecursion IsSoundCell (cells_of_shape S)
cell_sound S shape = from_objects S.objects (λ o a at. (subst IsKind (ap kind_in at) (shape.kinds o), subst (λ (z : Option Object). start_in z < values_of (kind_in z)) at (shape.starts o)))
  where
    from_objects : (xs : List Object) → ((o : ℕ) (a : Object) → slice_get xs o ≡ Some a → IsKind a.kind × (a.start < values_of a.kind)) → AllByRecursion IsSoundCell (map (λ (a : Object). record { kind = a.kind; start = a.start }) xs)
    from_objects [] each = tt
    from_objects (a ∷ xs) each = (each 0 a refl, from_objects xs (λ o b at. each (suc o) b at))

pub fixed_is_last_of_shape : FixedIsLastOfShape
fixed_is_last_of_shape S scripts H o v shape run is = fixed_is_last (cells_of_shape S) scripts H o v (cell_sound S shape) run is
