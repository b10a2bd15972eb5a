-- The text of a call line, as it is printed piece by piece.
use Rattle.std.proofs.Common.{◌≡◌, ℕ, zero, suc, List, [], ◌∷◌, ◌++◌, get_or, refl, sym, ap, subst, ◌∙◌, append_assoc}
use Rattle.std.specs.Prelude.{Option, Some, None, slice_get, IsSomeAnd}
use Rattle.std.specs.List.{flat_map, join_with_byte}
use Rattle.std.proofs.lemmas.List.{append-nil}
use Rattle.std.proofs.lemmas.List.Concat.{flat_map-cons, flat_map-append}
use Rattle.place_core.specs.declared.name.Declared.{Declared}
use Rattle.place_core.specs.declared.script.Line.{Line}
use Rattle.op_table.specs.declared.kind.Kind.{Kind}
use Rattle.op_table.specs.Words.{call_word}
use Rattle.work_lang.specs.CallOrders.{orders_of}
use Rattle.work_lang.specs.Print.{operand_words, order_words, words_with, words_on, call_line}

-- what is read at an index is the item that is there
pub item_read : {X : Type 0} (P : X → Type 0) (xs : List X) (i : ℕ) (d : X) → IsSomeAnd (slice_get xs i) P → d ≡ get_or xs i d → slice_get xs i ≡ Some d
item_read P [] i d has is = absurd has
item_read P (x ∷ xs) zero d has is = ap Some (sym is)
item_read P (x ∷ xs) (suc i) d has is = item_read P xs i d has is

-- a fact of the item that is there
pub item_fact : {X : Type 0} (P : X → Type 0) (o : Option X) (d : X) → IsSomeAnd o P → o ≡ Some d → P d
item_fact P None d has is = absurd has
item_fact P (Some x) d has is = let same : x ≡ d = cc in subst P same has

pub join_with_byte-cons : (w : List ℕ) (ws : List (List ℕ)) → join_with_byte 32 (w ∷ ws) ≡ w ++ flat_map (λ v. 32 ∷ v) ws
join_with_byte-cons w [] = sym (append-nil w)
join_with_byte-cons w (v ∷ ws) = ap (λ (x : List ℕ). w ++ 32 ∷ x) (join_with_byte-cons v ws) ∙ ap (λ (x : List ℕ). w ++ x) (sym (flat_map-cons (λ v. 32 ∷ v) v ws))

abbrev spaced : List (List ℕ) → List ℕ
spaced ws = flat_map (λ v. 32 ∷ v) ws

-- the words of a call line after the name, each with a space before it
spaced_words : (kind : Kind) (l : Line) → spaced (words_with kind l) ≡ (32 ∷ call_word kind l.call) ++ (spaced (operand_words kind l.call) ++ spaced (order_words (orders_of l)))
spaced_words kind l =
    flat_map-cons (λ v. 32 ∷ v) (call_word kind l.call) (operand_words kind l.call ++ order_words (orders_of l))
    ∙ ap (λ (x : List ℕ). (32 ∷ call_word kind l.call) ++ x) (flat_map-append (λ v. 32 ∷ v) (operand_words kind l.call) (order_words (orders_of l)))

-- the name, the word, the operands and the orders, one after another
pub call_line-made : (objects : List Declared) (l : Line) (d : Declared) (old named worded filled said : List ℕ) → slice_get objects l.object ≡ Some d → named ≡ old ++ d.name → worded ≡ named ++ 32 ∷ call_word d.kind l.call → filled ≡ worded ++ spaced (operand_words d.kind l.call) → said ≡ filled ++ spaced (order_words (orders_of l)) → said ≡ old ++ call_line objects l
unfolding call_line
call_line-made objects l d old named worded filled said found named_is worded_is filled_is said_is =
    let word = 32 ∷ call_word d.kind l.call in
    let operands = spaced (operand_words d.kind l.call) in
    let orders = spaced (order_words (orders_of l)) in
    let line : call_line objects l ≡ d.name ++ (word ++ (operands ++ orders)) = ap (λ o. join_with_byte 32 (words_on o l)) found ∙ join_with_byte-cons d.name (words_with d.kind l) ∙ ap (λ (x : List ℕ). d.name ++ x) (spaced_words d.kind l) in
    let pieces : said ≡ ((((old ++ d.name) ++ word) ++ operands) ++ orders) = rw (said_is, filled_is, worded_is, named_is) refl in
    pieces ∙ append_assoc ((old ++ d.name) ++ word) operands orders ∙ append_assoc (old ++ d.name) word (operands ++ orders) ∙ append_assoc old d.name (word ++ (operands ++ orders)) ∙ ap (λ (x : List ℕ). old ++ x) (sym line)
