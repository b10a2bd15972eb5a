-- Texts that end after some lines of a canonical text.
use Rattle.std.proofs.Common.{◌≡◌, ℕ, zero, suc, ◌+◌, ◌-◌, ◌≤◌, List, [], ◌∷◌, ◌++◌, length, take, Option, Some, None, Ok, Err, refl, sym, ap, subst, ◌∙◌, ◌⊎◌, inl, inr, arith, add-one}
use Rattle.std.specs.Prelude.{slice_get, ◌↔◌}
use Rattle.std.proofs.lemmas.Bool.{le-ltb}
use Rattle.line_words.specs.Text.{lines_of, words_of}
use Rattle.place_core.specs.declared.script.Line.{Line}
use Rattle.work_lang.specs.declared.fault.Cause.TheVariants as causes
use Rattle.work_lang.specs.declared.item.OpenBlock.{OpenBlock}
use Rattle.work_lang.specs.declared.item.Item.{Item}
use Rattle.work_lang.specs.declared.item.Item.TheVariants as items
use Rattle.work_lang.specs.declared.item.Awaits.{Awaits}
use Rattle.work_lang.specs.declared.item.Awaits.TheVariants as awaits
use Rattle.place_core.specs.declared.name.Declared.{Declared}
use Rattle.work_lang.specs.Limits.{most_bytes}
use Rattle.work_lang.specs.Streams.{text_of}
use Rattle.work_lang.specs.Workload.{Workload, IsWork}
use Rattle.work_lang.specs.Reading.{State, start, next, with_line, closed, work_of, ended, run, reading_of}
use Rattle.work_lang.specs.Spelling.{Pairs, items_of}
use Rattle.work_lang.specs.Kept.{Allowed, IsKept}
use Rattle.work_lang.specs.Canonical.{canonical_lines}
use Rattle.work_lang.specs.CutLaws.{open_from, open_after, LeavesOpen, OpenByLastLine, cut_text, CutTextIsRead}
use Rattle.work_lang.proofs.Keeping.{at_awaits, step_kept, start_kept, objects_kept}
use Rattle.work_lang.proofs.Walks.{Walk, said_in, run_again}
use Rattle.work_lang.proofs.Back.{state_of, work_walk}
use Rattle.work_lang.proofs.Found.{said_by_then, walk_kept}
use Rattle.work_lang.proofs.CanonicalTexts.{IsLine, work_is_lines, lines_are_said, line_in_front, no_lines}

-- ---- what is open in a state

abbrev open_block : Option OpenBlock → ℕ
open_block None = 1
open_block (Some block) = 2

abbrev open_awaiting : Awaits → Option OpenBlock → ℕ
open_awaiting awaits.Version b = 0
open_awaiting awaits.Target b = 0
open_awaiting awaits.Object b = 0
open_awaiting awaits.Thread b = 0
open_awaiting awaits.Call b = open_block b

-- how many threads and blocks are open in a state
abbrev pub open_in : State → ℕ
open_in s = open_awaiting s.awaits s.block

open_line : (s : State) (l : Line) (b : Option OpenBlock) → s.block ≡ b → open_in (with_line s l b) ≡ open_awaiting s.awaits b
open_line s l None e = ap (open_awaiting s.awaits) e
open_line s l (Some b) e = by s.awaits
  where
    by : (a : Awaits) → open_awaiting a (Some (record b { lines = b.lines ++ l ∷ [] })) ≡ open_awaiting a (Some b)
    by awaits.Version = refl
    by awaits.Target = refl
    by awaits.Object = refl
    by awaits.Thread = refl
    by awaits.Call = refl

open_end : (s : State) (b : Option OpenBlock) → s.block ≡ b → s.awaits ≡ awaits.Call → open_in (closed s b) ≡ open_block b - 1
open_end s None e a = omega arith
open_end s (Some b) e a = ap (λ (x : Awaits). open_awaiting x None) a ∙ omega arith

-- an item's step does to what is open what the item says
step_open : (s : State) (i : Item) (is : List Item) → IsKept s → Allowed s i → open_from (open_in s) (i ∷ is) ≡ open_from (open_in (next s i)) is
step_open s (items.Version version) is k a = rw a.0 refl
step_open s (items.Target t) is k a = rw a.0 refl
step_open s (items.Object d) is k a = refl
step_open s items.Thread is k a = by a.0
  where
    by : ((s.awaits ≡ awaits.Object) ⊎ (s.awaits ≡ awaits.Thread)) → open_from (open_in s + 1) is ≡ open_from (open_awaiting awaits.Call s.block) is
    by (inl e) = rw (e, (at_awaits s awaits.Object e k).1.1) refl
    by (inr e) = rw (e, (at_awaits s awaits.Thread e k).1) refl
step_open s (items.Repeat times) is k a = rw (a.0, a.2) refl
step_open s (items.Call l) is k a = ap (λ (n : ℕ). open_from n is) (sym (open_line s l s.block refl))
step_open s items.End is k a =
    ap (λ (n : ℕ). open_from n is) (ap (λ (x : Awaits). open_awaiting x s.block - 1) a ∙ sym (open_end s s.block refl a))

walk_open : (s : State) (is : List Item) (wss : List (List (List ℕ))) (t : State) → IsKept s → Walk s is wss t → open_from (open_in s) is ≡ open_in t
walk_open s [] [] t k walk = ap open_in walk
walk_open s [] (ws ∷ wss) t k walk = absurd walk
walk_open s (i ∷ is) [] t k walk = absurd walk
walk_open s (i ∷ is) (ws ∷ wss) t k walk = step_open s i is k walk.0.allowed ∙ walk_open (next s i) is wss t (step_kept s i k walk.0.allowed) walk.1

-- ---- some items of a walk

abbrev WalksTo : State → List Item → List (List (List ℕ)) → Type 0
WalksTo s is wss = (t : State) × Walk s is wss t

walk_front : (k : ℕ) (s : State) (is : List Item) (wss : List (List (List ℕ))) (t : State) → Walk s is wss t → WalksTo s (take k is) (take k wss)
walk_front zero s is wss t walk = (s, refl)
walk_front (suc k) s [] [] t walk = (s, refl)
walk_front (suc k) s [] (ws ∷ wss) t walk = absurd walk
walk_front (suc k) s (i ∷ is) [] t walk = absurd walk
walk_front (suc k) s (i ∷ is) (ws ∷ wss) t walk = let rest = walk_front k (next s i) is wss t walk.1 in (rest.0, (walk.0, rest.1))

-- ---- some lines of a text

pairs_front : {A B : Type 0} (R : A → B → Type 0) (k : ℕ) (xs : List A) (ys : List B) → Pairs R xs ys → Pairs R (take k xs) (take k ys)
pairs_front R zero xs ys pairs = tt
pairs_front R (suc k) [] [] pairs = tt
pairs_front R (suc k) [] (y ∷ ys) pairs = absurd pairs
pairs_front R (suc k) (x ∷ xs) [] pairs = absurd pairs
pairs_front R (suc k) (x ∷ xs) (y ∷ ys) pairs = (pairs.0, pairs_front R k xs ys pairs.1)

pairs_length : {A B : Type 0} (R : A → B → Type 0) (xs : List A) (ys : List B) → Pairs R xs ys → length xs ≡ length ys
pairs_length R [] [] pairs = refl
pairs_length R [] (y ∷ ys) pairs = absurd pairs
pairs_length R (x ∷ xs) [] pairs = absurd pairs
pairs_length R (x ∷ xs) (y ∷ ys) pairs = omega (arith, pairs_length R xs ys pairs.1)

pub text_lines : (objects : List Declared) (i : Item) (e : List ℕ) (es : List (List ℕ)) → (first : IsLine objects i e) → lines_of (text_of (e ∷ es)) ≡ first.line ∷ lines_of (text_of es)
text_lines objects i e es first = ap (λ (x : List ℕ). lines_of (x ++ text_of es)) first.end ∙ line_in_front first.line (text_of es) first.printable

-- as many lines as are written
pub text_length : (objects : List Declared) (is : List Item) (es : List (List ℕ)) → Pairs (IsLine objects) is es → length (lines_of (text_of es)) ≡ length es
text_length objects [] [] pairs = ap length no_lines
text_length objects [] (e ∷ es) pairs = absurd pairs
text_length objects (i ∷ is) [] pairs = absurd pairs
text_length objects (i ∷ is) (e ∷ es) pairs = omega (arith, ap length (text_lines objects i e es pairs.0), text_length objects is es pairs.1)

said_front : (objects : List Declared) (k : ℕ) (is : List Item) (es : List (List ℕ)) → Pairs (IsLine objects) is es → said_in (lines_of (text_of (take k es))) ≡ take k (said_in (lines_of (text_of es)))
said_front objects zero is es pairs = ap said_in no_lines
said_front objects (suc k) [] [] pairs = ap said_in no_lines ∙ sym (ap (λ (ls : List (List ℕ)). take (suc k) (said_in ls)) no_lines)
said_front objects (suc k) [] (e ∷ es) pairs = absurd pairs
said_front objects (suc k) (i ∷ is) [] pairs = absurd pairs
said_front objects (suc k) (i ∷ is) (e ∷ es) pairs =
    ap said_in (text_lines objects i e (take k es) pairs.0)
    ∙ one (take k es)
    ∙ ap (λ (wss : List (List (List ℕ))). words_of pairs.0.line ∷ wss) (said_front objects k is es pairs.1)
    ∙ sym (ap (λ (ls : List (List ℕ)). take (suc k) (said_in ls)) (text_lines objects i e es pairs.0) ∙ ap (take (suc k)) (one es))
  where
    one : (es : List (List ℕ)) → said_in (pairs.0.line ∷ lines_of (text_of es)) ≡ words_of pairs.0.line ∷ said_in (lines_of (text_of es))
    one es = rw pairs.0.speaks refl

-- ---- the state after some canonical lines

pub record AfterLines (w : Workload) (k : ℕ) : Type 0 where
  pub state : State
  pub is_kept : IsKept state
  pub said : said_by_then state.awaits state ≡ take k (items_of w)
  pub open_is : open_after (take k (items_of w)) ≡ open_in state
  pub run_is : run start 0 (lines_of (cut_text w k)) ≡ ended state.awaits state k

front_length : {A : Type 0} (k : ℕ) (xs : List A) → k ≤ length xs → length (take k xs) ≡ k
front_length zero xs few = refl
front_length (suc k) [] few = absurd (omega arith)
front_length (suc k) (x ∷ xs) few = omega (arith, front_length k xs (omega arith))

after_lines : (w : Workload) (k : ℕ) → IsWork w → k ≤ length (canonical_lines w) → AfterLines w k
after_lines w k ok few =
    let all = work_is_lines w ok in
    let said = lines_are_said w.objects (items_of w) (canonical_lines w) all in
    let walk = work_walk w (said_in (lines_of (text_of (canonical_lines w)))) ok said.said in
    let front = walk_front k start (items_of w) (said_in (lines_of (text_of (canonical_lines w)))) (state_of w) walk in
    let pairs = pairs_front (IsLine w.objects) k (items_of w) (canonical_lines w) all in
    let cut = lines_are_said w.objects (take k (items_of w)) (take k (canonical_lines w)) pairs in
    let walk_cut : Walk start (take k (items_of w)) (said_in (lines_of (cut_text w k))) front.0 = subst (λ (wss : List (List (List ℕ))). Walk start (take k (items_of w)) wss front.0) (sym (said_front w.objects k (items_of w) (canonical_lines w) all)) front.1 in
    let kept = walk_kept start (take k (items_of w)) (said_in (lines_of (cut_text w k))) front.0 start_kept walk_cut in
    let count : 0 + length (lines_of (cut_text w k)) ≡ k = omega (arith, text_length w.objects (take k (items_of w)) (take k (canonical_lines w)) pairs, front_length k (canonical_lines w) few) in
    record {
      state = front.0;
      is_kept = kept.0;
      said = kept.1;
      open_is = walk_open start (take k (items_of w)) (said_in (lines_of (cut_text w k))) front.0 start_kept walk_cut;
      run_is = run_again start 0 (lines_of (cut_text w k)) (take k (items_of w)) front.0 (objects_kept start start_kept) cut.printable walk_cut ∙ ap (λ (n : ℕ). ended front.0.awaits front.0 n) count;
    }

items_long : (w : Workload) (k : ℕ) → 2 ≤ k → 2 ≤ length (take k (items_of w))
items_long w zero h = absurd (omega arith)
items_long w (suc zero) h = absurd (omega arith)
items_long w (suc (suc k)) h = omega arith

end_early : (w : Workload) (k : ℕ) (s : State) → k ≤ 1 → said_by_then s.awaits s ≡ take k (items_of w) → ended s.awaits s k ≡ Err (record { line = k; word = 0; cause = causes.Missing })
end_early w k s early said = by s.awaits (ap length said)
  where
    few : (n : ℕ) → n ≤ 1 → length (take n (items_of w)) ≤ 1
    few zero h = omega arith
    few (suc zero) h = omega arith
    few (suc (suc n)) h = absurd (omega arith)

    by : (a : Awaits) → length (said_by_then a s) ≡ length (take k (items_of w)) → ended a s k ≡ Err (record { line = k; word = 0; cause = causes.Missing })
    by awaits.Version e = refl
    by awaits.Target e = refl
    by awaits.Object e = absurd (omega (arith, few k early))
    by awaits.Thread e = absurd (omega (arith, few k early))
    by awaits.Call e = absurd (omega (arith, few k early))

end_open : (w : Workload) (k : ℕ) (s : State) → 1 ≤ open_in s → ended s.awaits s k ≡ Err (record { line = k; word = 0; cause = causes.Unclosed })
end_open w k s some = by s.awaits some
  where
    by : (a : Awaits) → 1 ≤ open_awaiting a s.block → ended a s k ≡ Err (record { line = k; word = 0; cause = causes.Unclosed })
    by awaits.Version h = absurd (omega arith)
    by awaits.Target h = absurd (omega arith)
    by awaits.Object h = absurd (omega arith)
    by awaits.Thread h = absurd (omega arith)
    by awaits.Call h = refl

some_open : (b : Option OpenBlock) → open_block b ≡ 0 → ⊥
some_open None e = omega arith
some_open (Some b) e = omega arith

end_whole : (w : Workload) (k : ℕ) (s : State) → 2 ≤ k → open_in s ≡ 0 → said_by_then s.awaits s ≡ take k (items_of w) → (ended s.awaits s k ≡ Ok (work_of s)) × (items_of (work_of s) ≡ take k (items_of w))
end_whole w k s late none said = by s.awaits none said
  where
    by : (a : Awaits) → open_awaiting a s.block ≡ 0 → said_by_then a s ≡ take k (items_of w) → (ended a s k ≡ Ok (work_of s)) × (items_of (work_of s) ≡ take k (items_of w))
    by awaits.Version h e = absurd (omega (arith, ap length e, items_long w k late))
    by awaits.Target h e = absurd (omega (arith, ap length e, items_long w k late))
    by awaits.Object h e = (refl, e)
    by awaits.Thread h e = (refl, e)
    by awaits.Call h e = absurd (some_open s.block h)

pub short_reading : (text : List ℕ) → length text ≤ most_bytes → reading_of text ≡ run start 0 (lines_of text)
unfolding reading_of
short_reading text short = rw (le-ltb most_bytes (length text) short) refl

pub cut_is_read : CutTextIsRead
cut_is_read w k ok few short =
    let after = after_lines w k ok few in
    let reads = short_reading (cut_text w k) short ∙ after.run_is in
    record {
      no_target = λ early. reads ∙ end_early w k after.state early after.said;
      left_open = λ late some. reads ∙ end_open w k after.state (omega (arith, some, after.open_is));
      whole = λ late none. let e = end_whole w k after.state late (sym after.open_is ∙ none) after.said in (work_of after.state, e.1, reads ∙ e.0);
    }

-- ---- what the last line tells

-- the state before an item of a walk
record Before (s : State) (k : ℕ) (is : List Item) (i : Item) : Type 0 where
  state : State
  is_kept : IsKept state
  may : Allowed state i
  open_is : open_from (open_in s) (take k is) ≡ open_in state
  more : take (suc k) is ≡ take k is ++ i ∷ []

walk_before : (k : ℕ) (s : State) (is : List Item) (wss : List (List (List ℕ))) (t : State) (i : Item) → IsKept s → Walk s is wss t → slice_get is k ≡ Some i → Before s k is i
walk_before k s [] wss t i kept walk at = absurd cc
walk_before k s (j ∷ is) [] t i kept walk at = absurd walk
walk_before zero s (j ∷ is) (ws ∷ wss) t i kept walk at =
    let here : j ≡ i = cc in
    record { state = s; is_kept = kept; may = subst (Allowed s) here walk.0.allowed; open_is = refl; more = ap (λ (x : Item). x ∷ []) here }
walk_before (suc k) s (j ∷ is) (ws ∷ wss) t i kept walk at =
    let rest = walk_before k (next s j) is wss t i (step_kept s j kept walk.0.allowed) walk.1 at in
    record {
      state = rest.state;
      is_kept = rest.is_kept;
      may = rest.may;
      open_is = step_open s j (take k is) kept walk.0.allowed ∙ rest.open_is;
      more = ap (λ (x : List Item). j ∷ x) rest.more;
    }

open_more : (n : ℕ) (is js : List Item) → open_from n (is ++ js) ≡ open_from (open_from n is) js
open_more n [] js = refl
open_more n (items.Version version ∷ is) js = open_more n is js
open_more n (items.Target t ∷ is) js = open_more n is js
open_more n (items.Object d ∷ is) js = open_more n is js
open_more n (items.Thread ∷ is) js = open_more (n + 1) is js
open_more n (items.Repeat times ∷ is) js = open_more (n + 1) is js
open_more n (items.Call l ∷ is) js = open_more n is js
open_more n (items.End ∷ is) js = open_more (n - 1) is js

none_opens : (n : ℕ) → n ≡ 0 → 1 ≤ n → ⊥
none_opens n e h = omega arith

end_tells : (b : Option OpenBlock) → (1 ≤ open_block b - 1) ↔ (open_block b ≡ 2)
end_tells None = (λ h. absurd (omega arith), λ h. absurd (omega arith))
end_tells (Some b) = (λ h. refl, λ h. omega arith)

call_opens : (b : Option OpenBlock) → 1 ≤ open_block b
call_opens None = omega arith
call_opens (Some b) = omega arith

item_tells : (s : State) (i : Item) → IsKept s → Allowed s i → (1 ≤ open_from (open_in s) (i ∷ [])) ↔ LeavesOpen (open_in s) i
item_tells s (items.Version version) k a = (λ h. none_opens (open_in s) (ap (λ (x : Awaits). open_awaiting x s.block) a.0) h, λ h. absurd h)
item_tells s (items.Target t) k a = (λ h. none_opens (open_in s) (ap (λ (x : Awaits). open_awaiting x s.block) a.0) h, λ h. absurd h)
item_tells s (items.Object d) k a = (λ h. none_opens (open_in s) (ap (λ (x : Awaits). open_awaiting x s.block) a.0) h, λ h. absurd h)
item_tells s items.Thread k a = (λ h. tt, λ h. omega arith)
item_tells s (items.Repeat times) k a = (λ h. tt, λ h. omega arith)
item_tells s (items.Call l) k a = (λ h. tt, λ h. subst (λ (x : Awaits). 1 ≤ open_awaiting x s.block) (sym a.0) (call_opens s.block))
item_tells s items.End k a = subst (λ (x : Awaits). (1 ≤ open_awaiting x s.block - 1) ↔ (open_awaiting x s.block ≡ 2)) (sym a) (end_tells s.block)

pub open_by_last : OpenByLastLine
open_by_last w k i ok at =
    let lines = lines_of (text_of (canonical_lines w)) in
    let said = lines_are_said w.objects (items_of w) (canonical_lines w) (work_is_lines w ok) in
    let walk = work_walk w (said_in lines) ok said.said in
    let before = walk_before k start (items_of w) (said_in lines) (state_of w) i start_kept walk at in
    let after : open_after (take (k + 1) (items_of w)) ≡ open_from (open_in before.state) (i ∷ []) =
    ap (λ (n : ℕ). open_after (take n (items_of w))) (add-one k) ∙ ap open_after before.more ∙ open_more 0 (take k (items_of w)) (i ∷ []) ∙ ap (λ (n : ℕ). open_from n (i ∷ [])) before.open_is in
    let tells = item_tells before.state i before.is_kept before.may in
    (λ h. subst (λ (n : ℕ). LeavesOpen n i) (sym before.open_is) (tells.0 (subst (λ (n : ℕ). 1 ≤ n) after h)), λ h. subst (λ (n : ℕ). 1 ≤ n) (sym after) (tells.1 (subst (λ (n : ℕ). LeavesOpen n i) before.open_is h)))
