-- A fault is told at the first line at which no workload's text goes on as the text does.
use Rattle.std.proofs.Common.{◌≡◌, ℕ, zero, suc, ◌+◌, ◌<◌, ◌≤◌, ltb, true, List, [], ◌∷◌, ◌++◌, length, map, take, Some, None, Result, Ok, Err, refl, sym, ap, subst, ◌∙◌, ◌⊎◌, inl, inr, arith, append_assoc, length-append, add-zero}
use Rattle.std.specs.Prelude.{codes}
use Rattle.std.specs.List.{list_all, AllByRecursion}
use Rattle.std.proofs.lemmas.Fmt.{length-decimal-le}
use Rattle.line_words.specs.Text.{lines_of}
use Rattle.work_lang.specs.declared.fault.Cause.TheVariants as causes
use Rattle.work_lang.specs.declared.fault.Slip.{Slip}
use Rattle.work_lang.specs.declared.item.OpenBlock.{OpenBlock}
use Rattle.work_lang.specs.declared.item.Item.{Item}
use Rattle.work_lang.specs.declared.item.Item.TheVariants as items
use Rattle.work_lang.specs.declared.item.Awaits.{Awaits}
use Rattle.work_lang.specs.declared.item.Awaits.TheVariants as awaits
use Rattle.work_lang.specs.Limits.{most_bytes}
use Rattle.work_lang.specs.Streams.{text_of}
use Rattle.work_lang.specs.Workload.{Workload}
use Rattle.work_lang.specs.Reading.{State, Fault, start, next, closed, after_line, work_of, ended, run, reading_of, is_printable, unread_target}
use Rattle.work_lang.specs.Spelling.{IsSaid, Pairs, Spells}
use Rattle.work_lang.specs.Kept.{IsKept}
use Rattle.work_lang.specs.Canonical.{version_line, target_line}
use Rattle.work_lang.specs.CutLaws.{IsOfNoLine, first_lines, first_bytes, closing_bytes, FaultIsOfItsLines}
use Rattle.work_lang.proofs.Steps.{chosen}
use Rattle.work_lang.proofs.Keeping.{block_is, unread_is_target, start_kept, objects_kept, thread_closed, block_closed}
use Rattle.work_lang.proofs.Items.{line_takes, line_kept}
use Rattle.work_lang.proofs.Walks.{Walk, said_in, run_again}
use Rattle.work_lang.proofs.Spelled.{reading_found, reading_only}
use Rattle.work_lang.proofs.CanonicalTexts.{IsLine, lines_are_said, line_in_front, version_is_line, target_is_line, end_line}
use Rattle.work_lang.proofs.Cuts.{short_reading}

-- ---- a fault in a line

abbrev read : Workload → Result Workload Fault
read w = Ok w

abbrev refused : Fault → Result Workload Fault
refused f = Err f

fault_is : (f g : Fault) → refused f ≡ refused g → f ≡ g
fault_is f g e = cc

no_fault : (w : Workload) (f : Fault) → read w ≡ refused f → ⊥
no_fault w f e = cc

abbrev IsInLine : Fault → Type 0
IsInLine f = IsOfNoLine f → ⊥

none_missing : (n : ℕ) → IsInLine (record { line = n; word = 0; cause = causes.Missing }) → ⊥
none_missing n is = is (refl, inr (inl refl))

none_unclosed : (n : ℕ) → IsInLine (record { line = n; word = 0; cause = causes.Unclosed }) → ⊥
none_unclosed n is = is (refl, inr (inr refl))

none_too_long : (n : ℕ) → IsInLine (record { line = n; word = 0; cause = causes.TooLong }) → ⊥
none_too_long n is = is (refl, inl refl)

-- the end of a text has no fault in a line
not_at_end : (a : Awaits) (s : State) (n : ℕ) (f : Fault) → ended a s n ≡ Err f → IsInLine f → ⊥
not_at_end awaits.Version s n f e is = none_missing n (subst IsInLine (sym (fault_is _ f e)) is)
not_at_end awaits.Target s n f e is = none_missing n (subst IsInLine (sym (fault_is _ f e)) is)
not_at_end awaits.Object s n f e is = no_fault (work_of s) f e
not_at_end awaits.Thread s n f e is = no_fault (work_of s) f e
not_at_end awaits.Call s n f e is = none_unclosed n (subst IsInLine (sym (fault_is _ f e)) is)

-- nor has the length of a text
in_lines : (text : List ℕ) (f : Fault) → reading_of text ≡ Err f → IsInLine f → run start 0 (lines_of text) ≡ Err f
unfolding reading_of
in_lines text f e is =
    elim (chosen (ltb most_bytes (length text)) _ (run start 0 (lines_of text)) (Err f) e) [
      | inl p ↦ absurd (none_too_long 0 (subst IsInLine (sym (fault_is _ f p.1)) is))
      | inr p ↦ p.1
    ]

-- what a line made of a state
data Made (s : State) (line : List ℕ) : Type 0 where
  Goes : (t : State) → after_line s line ≡ Ok t → Made s line
  Stops : (x : Slip) → after_line s line ≡ Err x → Made s line

made : (s : State) (line : List ℕ) → Made s line
made s line = by (after_line s line) refl
  where
    by : (r : Result State Slip) → after_line s line ≡ r → Made s line
    by (Ok t) e = Goes t e
    by (Err x) e = Stops x e

abbrev slip_in : ℕ → Slip → Fault
slip_in n x = record { line = n; word = x.word; cause = x.cause }

one_goes : (s t : State) (n : ℕ) (line : List ℕ) (lines : List (List ℕ)) → after_line s line ≡ Ok t → run s n (line ∷ lines) ≡ run t (n + 1) lines
unfolding run
one_goes s t n line lines e = rw e refl

one_stops : (s : State) (n : ℕ) (line : List ℕ) (lines : List (List ℕ)) (x : Slip) → after_line s line ≡ Err x → run s n (line ∷ lines) ≡ Err (slip_in (n + 1) x)
unfolding run
one_stops s n line lines x e = rw e refl

at_end : (s : State) (n : ℕ) → run s n [] ≡ ended s.awaits s n
unfolding run
at_end s n = refl

stops_there : (s : State) (n : ℕ) (line : List ℕ) (lines : List (List ℕ)) (x : Slip) (f : Fault) → after_line s line ≡ Err x → run s n (line ∷ lines) ≡ Err f → f.line ≡ n + 1
stops_there s n line lines x f at e = ap (λ (g : Fault). g.line) (fault_is f (slip_in (n + 1) x) (sym e ∙ one_stops s n line lines x at))

-- the fault's line comes after those that were read
comes_after : (s : State) (n : ℕ) (lines : List (List ℕ)) (f : Fault) → run s n lines ≡ Err f → IsInLine f → n < f.line
comes_after s n [] f e is = absurd (not_at_end s.awaits s n f (sym (at_end s n) ∙ e) is)
comes_after s n (line ∷ lines) f e is =
    elim (made s line) [
      | Goes t at ↦ let later = comes_after t (n + 1) lines f (sym (one_goes s t n line lines at) ∙ e) is in omega arith
      | Stops x at ↦ let there = stops_there s n line lines x f at e in omega arith
    ]

-- ---- it is final

same_first : {A : Type 0} (x y : A) (xs ys : List A) → x ∷ xs ≡ y ∷ ys → (x ≡ y) × (xs ≡ ys)
same_first x y xs ys e = (cc, cc)

stays : (s : State) (n j : ℕ) (lines others : List (List ℕ)) (f : Fault) → run s n lines ≡ Err f → IsInLine f → n + j ≡ f.line → take j others ≡ take j lines → run s n others ≡ Err f
stays s n j [] others f e is count same = absurd (not_at_end s.awaits s n f (sym (at_end s n) ∙ e) is)
stays s n zero (line ∷ lines) others f e is count same = absurd (omega (arith, comes_after s n (line ∷ lines) f e is))
stays s n (suc j) (line ∷ lines) [] f e is count same = absurd cc
stays s n (suc j) (line ∷ lines) (other ∷ others) f e is count same =
    let parts = same_first other line (take j others) (take j lines) same in
    let here : run s n (other ∷ others) ≡ run s n (line ∷ others) = ap (λ (x : List ℕ). run s n (x ∷ others)) parts.0 in
    elim (made s line) [
      | Goes t at ↦ here ∙ one_goes s t n line others at ∙ stays t (n + 1) j lines others f (sym (one_goes s t n line lines at) ∙ e) is (omega arith) parts.1
      | Stops x at ↦ here ∙ one_stops s n line others x at ∙ sym (one_stops s n line lines x at) ∙ e
    ]

is_final : (text : List ℕ) (f : Fault) → reading_of text ≡ Err f → IsInLine f → (other : List ℕ) (w : Workload) → first_lines f.line other ≡ first_lines f.line text → Spells other w → ⊥
is_final text f e is other w same spells =
    no_fault w f (sym (sym (short_reading other spells.short) ∙ reading_only other w spells) ∙ stays start 0 f.line (lines_of text) (lines_of other) f (in_lines text f e is) is (omega arith) same)

-- ---- its line is the least

-- the state after m lines, which lead to it whatever follows
record Reaches (s : State) (n m : ℕ) (lines : List (List ℕ)) : Type 0 where
  state : State
  is_kept : IsKept state
  prints : AllByRecursion (λ line. list_all is_printable line ≡ true) (take m lines)
  leads : (rest : List (List ℕ)) → run s n (take m lines ++ rest) ≡ run state (n + m) rest
  within : m ≤ length lines

one_more : (s t : State) (n m : ℕ) (line : List ℕ) (lines : List (List ℕ)) → list_all is_printable line ≡ true → after_line s line ≡ Ok t → Reaches t (n + 1) m lines → Reaches s n (suc m) (line ∷ lines)
one_more s t n m line lines prints at rest = record {
  state = rest.state;
  is_kept = rest.is_kept;
  prints = (prints, rest.prints);
  leads = λ more. one_goes s t n line (take m lines ++ more) at ∙ rest.leads more ∙ ap (λ (i : ℕ). run rest.state i more) (omega arith);
  within = omega (arith, rest.within);
}

reaches : (s : State) (n m : ℕ) (lines : List (List ℕ)) (f : Fault) → IsKept s → run s n lines ≡ Err f → IsInLine f → n + m < f.line → Reaches s n m lines
reaches s n zero lines f k e is before = record { state = s; is_kept = k; prints = tt; leads = λ rest. ap (λ (i : ℕ). run s i rest) (sym (add-zero n)); within = omega arith }
reaches s n (suc m) [] f k e is before = absurd (not_at_end s.awaits s n f (sym (at_end s n) ∙ e) is)
reaches s n (suc m) (line ∷ lines) f k e is before =
    elim (made s line) [
      | Goes t at ↦ one_more s t n m line lines (line_takes s line t k at).printable at (reaches t (n + 1) m lines f (line_kept s line t k at) (sym (one_goes s t n line lines at) ∙ e) is (omega arith))
      | Stops x at ↦ absurd (let there = stops_there s n line lines x f at e in omega arith)
    ]

-- lines that close what is open in a state, and lead to a workload
record Closes (t : State) : Type 0 where
  is : List Item
  ends : List (List ℕ)
  pairs : Pairs (IsLine t.objects) is ends
  few : length (text_of ends) ≤ closing_bytes
  last : State
  walk : (wss : List (List (List ℕ))) → Pairs (IsSaid t.objects) is wss → Walk t is wss last
  done : (n : ℕ) → ended last.awaits last n ≡ Ok (work_of last)

target_few : length (target_line unread_target) ≤ 50
unfolding target_line
target_few = simp length-append (omega (arith, length-decimal-le 2 64 (omega arith) (omega arith) (omega arith), length-decimal-le 2 1 (omega arith) (omega arith) (omega arith)))

closes_object : (t : State) → ((t.awaits ≡ awaits.Object) ⊎ (t.awaits ≡ awaits.Thread)) → Closes t
closes_object t a = record { is = []; ends = []; pairs = tt; few = omega arith; last = t; walk = walk; done = λ n. by n a }
  where
    walk : (wss : List (List (List ℕ))) → Pairs (IsSaid t.objects) [] wss → Walk t [] wss t
    walk [] pairs = refl
    walk (ws ∷ wss) pairs = absurd pairs

    by : (n : ℕ) → ((t.awaits ≡ awaits.Object) ⊎ (t.awaits ≡ awaits.Thread)) → ended t.awaits t n ≡ Ok (work_of t)
    by n (inl e) = ap (λ (x : Awaits). ended x t n) e
    by n (inr e) = ap (λ (x : Awaits). ended x t n) e

closes_target : (t : State) → t.awaits ≡ awaits.Target → Closes t
closes_target t a = record { is = items.Target unread_target ∷ []; ends = target_line unread_target ∷ []; pairs = (target_is_line t.objects unread_target unread_is_target, tt); few = omega (arith, target_few, length-append (target_line unread_target) []); last = next t (items.Target unread_target); walk = walk; done = λ n. refl }
  where
    walk : (wss : List (List (List ℕ))) → Pairs (IsSaid t.objects) (items.Target unread_target ∷ []) wss → Walk t (items.Target unread_target ∷ []) wss (next t (items.Target unread_target))
    walk [] pairs = absurd pairs
    walk (ws ∷ []) pairs = (record { allowed = (a, unread_is_target, λ big. absurd cc); said = pairs.0 }, refl)
    walk (ws ∷ vs ∷ wss) pairs = absurd pairs.1

closes_version : (t : State) → t.awaits ≡ awaits.Version → Closes t
closes_version t a = record { is = items.Version 1 ∷ items.Target unread_target ∷ []; ends = version_line 1 ∷ target_line unread_target ∷ []; pairs = (version_is_line t.objects 1 (inl refl), (target_is_line t.objects unread_target unread_is_target, tt)); few = omega (arith, target_few, length-append (target_line unread_target) [], length-append (version_line 1) (target_line unread_target ++ [])); last = last; walk = walk; done = λ n. refl }
  where
    last : State
    last = next (next t (items.Version 1)) (items.Target unread_target)

    walk : (wss : List (List (List ℕ))) → Pairs (IsSaid t.objects) (items.Version 1 ∷ items.Target unread_target ∷ []) wss → Walk t (items.Version 1 ∷ items.Target unread_target ∷ []) wss last
    walk [] pairs = absurd pairs
    walk (ws ∷ []) pairs = absurd pairs.1
    walk (ws ∷ vs ∷ []) pairs = (record { allowed = (a, inl refl); said = pairs.0 }, (record { allowed = (refl, unread_is_target, λ big. absurd cc); said = pairs.1.0 }, refl))
    walk (ws ∷ vs ∷ us ∷ wss) pairs = absurd pairs.1.1

-- after an `end` where no block is open
done_thread : (t : State) (n : ℕ) → t.block ≡ None → ended (closed t t.block).awaits (closed t t.block) n ≡ Ok (work_of (closed t t.block))
done_thread t n none = subst (λ (x : State). ended x.awaits x n ≡ Ok (work_of x)) (sym (thread_closed t none)) refl

closes_thread : (t : State) → t.awaits ≡ awaits.Call → t.block ≡ None → Closes t
closes_thread t a none = record { is = items.End ∷ []; ends = codes "end\n" ∷ []; pairs = (end_line t.objects, tt); few = omega arith; last = next t items.End; walk = walk; done = λ n. done_thread t n none }
  where
    walk : (wss : List (List (List ℕ))) → Pairs (IsSaid t.objects) (items.End ∷ []) wss → Walk t (items.End ∷ []) wss (next t items.End)
    walk [] pairs = absurd pairs
    walk (ws ∷ []) pairs = (record { allowed = a; said = pairs.0 }, refl)
    walk (ws ∷ vs ∷ wss) pairs = absurd pairs.1

closes_block : (t : State) (b : OpenBlock) → t.awaits ≡ awaits.Call → t.block ≡ Some b → Closes t
closes_block t b a open-is = record { is = items.End ∷ items.End ∷ []; ends = codes "end\n" ∷ codes "end\n" ∷ []; pairs = (end_line t.objects, (end_line t.objects, tt)); few = omega arith; last = next mid items.End; walk = walk; done = λ n. done_thread mid n none }
  where
    mid : State
    mid = next t items.End

    none : mid.block ≡ None
    none = ap (λ (x : State). x.block) (block_closed t b open-is)

    waits : mid.awaits ≡ awaits.Call
    waits = ap (λ (x : State). x.awaits) (block_closed t b open-is) ∙ a

    walk : (wss : List (List (List ℕ))) → Pairs (IsSaid t.objects) (items.End ∷ items.End ∷ []) wss → Walk t (items.End ∷ items.End ∷ []) wss (next mid items.End)
    walk [] pairs = absurd pairs
    walk (ws ∷ []) pairs = absurd pairs.1
    walk (ws ∷ vs ∷ []) pairs = (record { allowed = a; said = pairs.0 }, (record { allowed = waits; said = pairs.1.0 }, refl))
    walk (ws ∷ vs ∷ us ∷ wss) pairs = absurd pairs.1.1

closes : (t : State) → Closes t
closes t = by t.awaits refl
  where
    by_block : t.awaits ≡ awaits.Call → (t.block ≡ None) ⊎ ((b : OpenBlock) × (t.block ≡ Some b)) → Closes t
    by_block a (inl none) = closes_thread t a none
    by_block a (inr b) = closes_block t b.0 a b.1

    by : (a : Awaits) → t.awaits ≡ a → Closes t
    by awaits.Version a = closes_version t a
    by awaits.Target a = closes_target t a
    by awaits.Object a = closes_object t (inl a)
    by awaits.Thread a = closes_object t (inr a)
    by awaits.Call a = by_block a (block_is t.block)

-- printable lines with their ends, in front of a text
lines_in_front : (lines : List (List ℕ)) (text : List ℕ) → AllByRecursion (λ line. list_all is_printable line ≡ true) lines → lines_of (text_of (map (λ (line : List ℕ). line ++ 10 ∷ []) lines) ++ text) ≡ lines ++ lines_of text
lines_in_front [] text prints = refl
lines_in_front (line ∷ lines) text prints =
    ap lines_of (append_assoc (line ++ 10 ∷ []) (text_of (map (λ (line : List ℕ). line ++ 10 ∷ []) lines)) text)
    ∙ line_in_front line (text_of (map (λ (line : List ℕ). line ++ 10 ∷ []) lines) ++ text) prints.0
    ∙ ap (λ (ls : List (List ℕ)). line ∷ ls) (lines_in_front lines text prints.1)

front_again : {A : Type 0} (n : ℕ) (xs ys : List A) → n ≤ length xs → take n (take n xs ++ ys) ≡ take n xs
front_again zero xs ys few = refl
front_again (suc n) [] ys few = absurd (omega arith)
front_again (suc n) (x ∷ xs) ys few = ap (λ zs. x ∷ zs) (front_again n xs ys (omega arith))

abbrev GoesOn : List ℕ → ℕ → Type 0
GoesOn text n = (other : List ℕ) × (w : Workload) × (first_lines n other ≡ first_lines n text) × Spells other w

goes_on : (text : List ℕ) (n : ℕ) → Reaches start 0 n (lines_of text) → length (first_bytes n text) + closing_bytes ≤ most_bytes → GoesOn text n
goes_on text n r room =
    let c = closes r.state in
    let other : List ℕ = first_bytes n text ++ text_of c.ends in
    let lines : lines_of other ≡ first_lines n text ++ lines_of (text_of c.ends) = lines_in_front (first_lines n text) (text_of c.ends) r.prints in
    let said = lines_are_said r.state.objects c.is c.ends c.pairs in
    let walk = c.walk (said_in (lines_of (text_of c.ends))) said.said in
    let few = c.few in
    let short : length other ≤ most_bytes = omega (arith, length-append (first_bytes n text) (text_of c.ends)) in
    let reads : reading_of other ≡ Ok (work_of c.last) =
    short_reading other short
    ∙ ap (run start 0) lines
    ∙ r.leads (lines_of (text_of c.ends))
    ∙ run_again r.state (0 + n) (lines_of (text_of c.ends)) c.is c.last (objects_kept r.state r.is_kept) said.printable walk
    ∙ c.done _ in
    (other, work_of c.last, ap (take n) lines ∙ front_again n (lines_of text) (lines_of (text_of c.ends)) r.within, reading_found other (work_of c.last) reads)

pub fault_is_of_its_lines : FaultIsOfItsLines
fault_is_of_its_lines text f e is = record {
  final = is_final text f e is;
  least = λ n before room. goes_on text n (reaches start 0 n (lines_of text) f start_kept (in_lines text f e is) is (omega arith)) room;
}
