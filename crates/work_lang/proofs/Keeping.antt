-- What is kept from item to item.
use Rattle.std.proofs.Common.{◌≡◌, ℕ, ◌+◌, ◌≤◌, true, List, [], ◌∷◌, ◌++◌, length, Option, None, Some, refl, sym, ap, subst, ◌∙◌, arith, ◌⊎◌, inl, inr, append_assoc, ◌<◌, ◌^◌, mul-zero}
use Rattle.std.specs.List.{sum_by, AllByRecursion}
use Rattle.std.proofs.lemmas.List.{append-nil, length-append}
use Rattle.std.proofs.lemmas.List.Sums.{sum_by_push}
use Rattle.target_desc.specs.Target.{IsTarget, IsVersion, IsOfVersion}
use Rattle.place_core.specs.declared.name.Declared.{Declared}
use Rattle.place_core.specs.declared.script.Line.{Line}
use Rattle.place_core.specs.declared.script.Piece.{Piece}
use Rattle.place_core.specs.declared.script.Piece.TheVariants.{One, Block}
use Rattle.place_core.specs.Name.{is_name}
use Rattle.work_lang.specs.declared.item.Item.{Item}
use Rattle.work_lang.specs.declared.item.Item.TheVariants as items
use Rattle.work_lang.specs.declared.item.OpenBlock.{OpenBlock}
use Rattle.work_lang.specs.declared.item.Awaits.{Awaits}
use Rattle.work_lang.specs.declared.item.Awaits.TheVariants as awaits
use Rattle.place_core.specs.DeclaredObjects.{IsDeclared}
use Rattle.work_lang.specs.Limits.{most_threads, limits_of}
use Rattle.work_lang.specs.Workload.{object_of, AreDeclared, PieceStands, lines_written, calls_made, IsWork}
use Rattle.work_lang.specs.Reading.{State, unread_target, start, script_so_far, with_line, closed, next, work_of}
use Rattle.work_lang.specs.Kept.{Allowed, IsBetween, IsEmptyYet, IsKept}
use Rattle.work_lang.proofs.Lists.{all_push}
use Rattle.work_lang.proofs.Scripts.{written_more, made_more, made_by_block, room_within, so_far, pieces_with, block_with, written_with, made_with, stand_with}

pub declared_push : (before objects : List Declared) (d : Declared) → AreDeclared before objects → is_name d.name ≡ true → object_of (before ++ objects) d.name ≡ None → AreDeclared before (objects ++ d ∷ [])
declared_push before [] d all named new = (named, subst (λ (objects : List Declared). object_of objects d.name ≡ None) (append-nil before) new, tt)
declared_push before (x ∷ xs) d all named new =
    (all.0, all.1, declared_push (before ++ x ∷ []) xs d all.2 named (subst (λ (objects : List Declared). object_of objects d.name ≡ None) (sym (append_assoc before (x ∷ []) xs)) new))

-- the names of objects differ, and each object is one
pub record AreObjects (objects : List Declared) : Type 0 where
  pub names : AreDeclared [] objects
  pub each : AllByRecursion IsDeclared objects

-- ---- states after a call line, and after the end of a block or a thread

pub line_state : (s : State) (l : Line) (b : Option OpenBlock) → s.block ≡ b → with_line s l b ≡ record s { pieces = pieces_with s.pieces l b; block = block_with l b }
line_state s l None e = ap (λ (x : Option OpenBlock). record s { pieces = pieces_with s.pieces l None; block = x }) e
line_state s l (Some b) e = refl

pub thread_closed : (s : State) → s.block ≡ None → closed s s.block ≡ record s { awaits = awaits.Thread; scripts = s.scripts ++ s.pieces ∷ []; pieces = []; block = None }
thread_closed s e = ap (closed s) e ∙ ap (λ (x : Option OpenBlock). record s { awaits = awaits.Thread; scripts = s.scripts ++ s.pieces ∷ []; pieces = []; block = x }) e

pub block_closed : (s : State) (b : OpenBlock) → s.block ≡ Some b → closed s s.block ≡ record s { pieces = s.pieces ++ Block b.times b.lines ∷ []; block = None }
block_closed s b e = ap (closed s) e

-- where a block is open, and where none is
pub block_is : (b : Option OpenBlock) → (b ≡ None) ⊎ ((x : OpenBlock) × (b ≡ Some x))
block_is None = inl refl
block_is (Some x) = inr (x, refl)

line_objects : (s : State) (l : Line) (b : Option OpenBlock) → (with_line s l b).objects ≡ s.objects
line_objects s l None = refl
line_objects s l (Some b) = refl

closed_objects : (s : State) (b : Option OpenBlock) → (closed s b).objects ≡ s.objects
closed_objects s None = refl
closed_objects s (Some b) = refl

pub next_objects : (s : State) (i : Item) → AreObjects s.objects → Allowed s i → AreObjects (next s i).objects
next_objects s (items.Version version) ok a = ok
next_objects s (items.Target t) ok a = ok
next_objects s (items.Object d) ok a = record { names = declared_push [] s.objects d ok.names a.2 a.3; each = all_push IsDeclared s.objects d ok.each a.4 }
next_objects s items.Thread ok a = ok
next_objects s (items.Repeat times) ok a = ok
next_objects s (items.Call l) ok a = subst AreObjects (sym (line_objects s l s.block)) ok
next_objects s items.End ok a = subst AreObjects (sym (closed_objects s s.block)) ok

-- ---- the scripts

-- the closed scripts, and the open one so far, have pieces that stand and pass no limit
pub record HasScripts (version : ℕ) (objects : List Declared) (scripts : List (List Piece)) (script : List Piece) : Type 0 where
  pub few_lines : AllByRecursion (λ script. lines_written script ≤ (limits_of version).lines) scripts
  pub few_calls : AllByRecursion (λ script. calls_made script ≤ (limits_of version).calls) scripts
  pub pieces : AllByRecursion (λ script. AllByRecursion (PieceStands version objects) script) scripts
  pub few_lines_open : lines_written script ≤ (limits_of version).lines
  pub few_calls_open : calls_made script ≤ (limits_of version).calls
  pub pieces_open : AllByRecursion (PieceStands version objects) script
  pub few_lines_in_all : sum_by lines_written scripts + lines_written script ≤ (limits_of version).lines_in_all
  pub few_calls_in_all : sum_by calls_made scripts + calls_made script ≤ (limits_of version).calls_in_all

pub scripts_kept : (s : State) → IsKept s → HasScripts s.version s.objects s.scripts (script_so_far s)
scripts_kept s k = record { few_lines = k.few_lines; few_calls = k.few_calls; pieces = k.pieces; few_lines_open = k.few_lines_open; few_calls_open = k.few_calls_open; pieces_open = k.pieces_open; few_lines_in_all = k.few_lines_in_all; few_calls_in_all = k.few_calls_in_all }

no_scripts : (version : ℕ) (objects : List Declared) → HasScripts version objects [] []
no_scripts version objects = record { few_lines = tt; few_calls = tt; pieces = tt; few_lines_open = omega arith; few_calls_open = omega arith; pieces_open = tt; few_lines_in_all = omega arith; few_calls_in_all = omega arith }

closed_scripts : (version : ℕ) (objects : List Declared) (scripts : List (List Piece)) (script : List Piece) → HasScripts version objects scripts script → HasScripts version objects (scripts ++ script ∷ []) []
closed_scripts version objects scripts script k = record {
  few_lines = all_push _ scripts script k.few_lines k.few_lines_open;
  few_calls = all_push _ scripts script k.few_calls k.few_calls_open;
  pieces = all_push _ scripts script k.pieces k.pieces_open;
  few_lines_open = omega arith;
  few_calls_open = omega arith;
  pieces_open = tt;
  few_lines_in_all = omega (arith, k.few_lines_in_all, sum_by_push lines_written scripts script);
  few_calls_in_all = omega (arith, k.few_calls_in_all, sum_by_push calls_made scripts script);
}

-- the open script has another form, with room for it
other_script : (version : ℕ) (objects : List Declared) (scripts : List (List Piece)) (script new : List Piece) (lines calls : ℕ) → HasScripts version objects scripts script → lines_written new ≡ lines → calls_made new ≡ calls → AllByRecursion (PieceStands version objects) new
    → lines ≤ (limits_of version).lines → calls ≤ (limits_of version).calls → sum_by lines_written scripts + lines ≤ (limits_of version).lines_in_all → sum_by calls_made scripts + calls ≤ (limits_of version).calls_in_all → HasScripts version objects scripts new
other_script version objects scripts script new lines calls k written made stand few_lines few_calls lines_in_all calls_in_all = record {
  few_lines = k.few_lines;
  few_calls = k.few_calls;
  pieces = k.pieces;
  few_lines_open = omega (arith, written, few_lines);
  few_calls_open = omega (arith, made, few_calls);
  pieces_open = stand;
  few_lines_in_all = omega (arith, written, lines_in_all);
  few_calls_in_all = omega (arith, made, calls_in_all);
}

-- ---- what is kept

kept_from : (s : State) → IsVersion s.version → IsTarget s.target → IsOfVersion s.version s.target → IsEmptyYet s.awaits s → AreObjects s.objects → length s.objects ≤ (limits_of s.version).objects → length s.scripts ≤ most_threads → HasScripts s.version s.objects s.scripts (script_so_far s) → IsKept s
kept_from s version target of empty are few_objects few_threads k = record {
  version = version;
  target = target;
  of_version = of;
  empty = empty;
  names = are.names;
  objects = are.each;
  few_objects = few_objects;
  few_threads = few_threads;
  few_lines = k.few_lines;
  few_calls = k.few_calls;
  pieces = k.pieces;
  few_lines_open = k.few_lines_open;
  few_calls_open = k.few_calls_open;
  pieces_open = k.pieces_open;
  few_lines_in_all = k.few_lines_in_all;
  few_calls_in_all = k.few_calls_in_all;
}

pub objects_kept : (s : State) → IsKept s → AreObjects s.objects
objects_kept s k = record { names = k.names; each = k.objects }

pub at_awaits : (s : State) (a : Awaits) → s.awaits ≡ a → IsKept s → IsEmptyYet a s
at_awaits s a e k = subst (λ (x : Awaits). IsEmptyYet x s) e k.empty

none_so_far : (version : ℕ) (objects : List Declared) (s : State) → s.scripts ≡ [] → IsBetween s → HasScripts version objects s.scripts (script_so_far s)
none_so_far version objects s scripts between = rw (scripts, between.0, between.1) (no_scripts version objects)

open_block : (s : State) (times : ℕ) → s.block ≡ None → HasScripts s.version s.objects s.scripts (script_so_far s) → s.version ≡ 2 → 1 ≤ times → times < 2 ^ 32 → HasScripts s.version s.objects s.scripts (s.pieces ++ Block times [] ∷ [])
open_block s times none k second some few =
    let same : script_so_far s ≡ s.pieces = ap (so_far s.pieces) none ∙ append-nil s.pieces in
    let old = subst (HasScripts s.version s.objects s.scripts) same k in
    other_script s.version s.objects s.scripts s.pieces (s.pieces ++ Block times [] ∷ []) (lines_written s.pieces) (calls_made s.pieces) old (omega (arith, written_more s.pieces (Block times []))) (omega (arith, made_more s.pieces (Block times []), made_by_block times [], mul-zero times)) (all_push _ s.pieces (Block times []) old.pieces_open (second, some, few, tt))
    old.few_lines_open old.few_calls_open old.few_lines_in_all old.few_calls_in_all

line_kept_so_far : (s : State) (l : Line) → IsKept s → Allowed s (items.Call l) → HasScripts s.version s.objects s.scripts (so_far (pieces_with s.pieces l s.block) (block_with l s.block))
line_kept_so_far s l k a =
    let is = room_within s a.1 in
    other_script s.version s.objects s.scripts (script_so_far s) _ _ _ (scripts_kept s k) (written_with s.pieces l s.block) (made_with s.pieces l s.block) (stand_with s.version s.objects s.pieces l s.block k.pieces_open a.2) is.lines is.calls is.lines_in_all is.calls_in_all

end_kept : (s : State) → (s.block ≡ None) ⊎ ((b : OpenBlock) × (s.block ≡ Some b)) → IsKept s → s.awaits ≡ awaits.Call → IsKept (closed s s.block)
end_kept s (inl none) k a =
    let same : script_so_far s ≡ s.pieces = ap (so_far s.pieces) none ∙ append-nil s.pieces in
    subst IsKept (sym (thread_closed s none)) (kept_from _ k.version k.target k.of_version (refl, refl) (objects_kept s k) k.few_objects (omega (arith, at_awaits s awaits.Call a k, length-append s.scripts (s.pieces ∷ []))) (closed_scripts s.version s.objects s.scripts s.pieces (subst (HasScripts s.version s.objects s.scripts) same (scripts_kept s k))))
end_kept s (inr b) k a =
    let same : script_so_far s ≡ so_far (s.pieces ++ Block b.0.times b.0.lines ∷ []) None = ap (so_far s.pieces) b.1 ∙ sym (append-nil (s.pieces ++ Block b.0.times b.0.lines ∷ [])) in
    let new : State = record s { pieces = s.pieces ++ Block b.0.times b.0.lines ∷ []; block = None } in
    subst IsKept (sym (block_closed s b.0 b.1)) (kept_from new k.version k.target k.of_version (subst (λ (x : Awaits). IsEmptyYet x new) (sym a) (at_awaits s awaits.Call a k)) (objects_kept s k) k.few_objects k.few_threads (subst (HasScripts s.version s.objects s.scripts) same (scripts_kept s k)))

pub step_kept : (s : State) (i : Item) → IsKept s → Allowed s i → IsKept (next s i)
step_kept s (items.Version version) k a =
    let h = at_awaits s awaits.Version a.0 k in
    kept_from (next s (items.Version version)) a.1 k.target (λ big. absurd (omega (arith, h.0, k.of_version big))) (h.1, h.2, h.3) (objects_kept s k) (rw h.1 (omega arith)) k.few_threads (none_so_far version s.objects s h.2 h.3)
step_kept s (items.Target t) k a =
    let h = at_awaits s awaits.Target a.0 k in
    kept_from (next s (items.Target t)) k.version a.1 a.2 (h.1, h.2) (objects_kept s k) k.few_objects k.few_threads (scripts_kept s k)
step_kept s (items.Object d) k a =
    let h = at_awaits s awaits.Object a.0 k in
    kept_from (next s (items.Object d)) k.version k.target k.of_version (subst (λ (x : Awaits). IsEmptyYet x (next s (items.Object d))) (sym a.0) h) (next_objects s (items.Object d) (objects_kept s k) a) (omega (arith, a.1, length-append s.objects (d ∷ []))) k.few_threads (none_so_far s.version (s.objects ++ d ∷ []) s h.0 h.1)
step_kept s items.Thread k a = kept_from (next s items.Thread) k.version k.target k.of_version a.1 (objects_kept s k) k.few_objects k.few_threads (scripts_kept s k)
step_kept s (items.Repeat times) k a =
    let new : State = next s (items.Repeat times) in
    kept_from new k.version k.target k.of_version (subst (λ (x : Awaits). IsEmptyYet x new) (sym a.0) (at_awaits s awaits.Call a.0 k)) (objects_kept s k) k.few_objects k.few_threads (open_block s times a.2 (scripts_kept s k) a.1 a.3 a.4)
step_kept s (items.Call l) k a =
    let new : State = record s { pieces = pieces_with s.pieces l s.block; block = block_with l s.block } in
    subst IsKept (sym (line_state s l s.block refl)) (kept_from new k.version k.target k.of_version (subst (λ (x : Awaits). IsEmptyYet x new) (sym a.0) (at_awaits s awaits.Call a.0 k)) (objects_kept s k) k.few_objects k.few_threads (line_kept_so_far s l k a))
step_kept s items.End k a = end_kept s (block_is s.block) k a

pub unread_is_target : IsTarget unread_target
unread_is_target = record { bits = inr refl; some = omega arith; most = omega arith; section = λ e. absurd cc; big = λ e. absurd cc }

pub start_kept : IsKept start
start_kept = kept_from start (inl refl) unread_is_target (λ e. absurd cc) (refl, refl, refl, (refl, refl)) (record { names = tt; each = tt }) (omega arith) (omega arith) (no_scripts 1 [])

pub work_kept : (s : State) → IsKept s → IsWork (work_of s)
work_kept s k = record { version = k.version; target = k.target; of_version = k.of_version; names = k.names; objects = k.objects; pieces = k.pieces; few_objects = k.few_objects; few_threads = k.few_threads; few_lines = k.few_lines; few_lines_in_all = omega (arith, k.few_lines_in_all); few_calls = k.few_calls; few_calls_in_all = omega (arith, k.few_calls_in_all) }

-- ---- how many pieces there are

line_pieces : (pieces : List Piece) (l : Line) (b : Option OpenBlock) → length (pieces_with pieces l b) ≤ length pieces + 1
line_pieces pieces l None = omega (arith, length-append pieces (One l ∷ []))
line_pieces pieces l (Some b) = omega arith

end_pieces : (s : State) → (s.block ≡ None) ⊎ ((b : OpenBlock) × (s.block ≡ Some b)) → length (closed s s.block).pieces ≤ length s.pieces + 1
end_pieces s (inl none) = rw (thread_closed s none) (omega arith)
end_pieces s (inr b) = rw (block_closed s b.0 b.1) (omega (arith, length-append s.pieces (Block b.0.times b.0.lines ∷ [])))

-- an item adds one at most
pub next_pieces : (s : State) (i : Item) → length (next s i).pieces ≤ length s.pieces + 1
next_pieces s (items.Version version) = omega arith
next_pieces s (items.Target t) = omega arith
next_pieces s (items.Object d) = omega arith
next_pieces s items.Thread = omega arith
next_pieces s (items.Repeat times) = omega arith
next_pieces s (items.Call l) = rw (line_state s l s.block refl) (line_pieces s.pieces l s.block)
next_pieces s items.End = end_pieces s (block_is s.block)
