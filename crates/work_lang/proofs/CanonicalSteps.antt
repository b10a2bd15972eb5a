-- One more line of a canonical text.
use Rattle.std.proofs.Common.{◌≡◌, ℕ, zero, suc, ◌+◌, ◌≤◌, ◌<◌, List, [], ◌∷◌, ◌++◌, length, map, drop, get_or, refl, sym, ap, subst, ◌∙◌, arith}
use Rattle.std.specs.Prelude.{Some, slice_get, IsSomeAnd}
use Rattle.std.specs.List.{flat_map, AllByRecursion}
use Rattle.std.proofs.lemmas.List.{drop_all}
use Rattle.std.proofs.lemmas.List.Concat.{flat_map-cons}
use Rattle.op_table.specs.Kind.{IsKind}
use Rattle.target_desc.specs.declared.target.Target.{Target}
use Rattle.place_core.specs.declared.name.Declared.{Declared}
use Rattle.place_core.specs.declared.script.Line.{Line}
use Rattle.place_core.specs.declared.script.Piece.{Piece}
use Rattle.place_core.specs.declared.script.Piece.TheVariants.{One, Block}
use Rattle.place_core.specs.Pieces.{piece_lines, script_lines}
use Rattle.place_core.proofs.EntryLists.{all_append}
use Rattle.place_core.proofs.ScriptLists.{all_times_over}
use Rattle.place_core.proofs.Prefixes.{drop-next}
use Rattle.place_core.specs.DeclaredObjects.{IsDeclared}
use Rattle.work_lang.specs.Workload.{Workload, threads_of, HasLine, LineFits, LineStands, PieceStands, IsWork}
use Rattle.work_lang.specs.Canonical.{version_line, target_line, object_line, ended_call_line, piece_texts, thread_lines, canonical_lines}
use Rattle.work_lang.proofs.Firsts.{others, first_others, item_others}

pub get_at : {X : Type 0} (xs : List X) (i : ℕ) (d : X) → i < length xs → d ≡ get_or xs i d → slice_get xs i ≡ Some d
get_at [] i d inside is = absurd (omega arith)
get_at (x ∷ xs) zero d inside is = ap Some (sym is)
get_at (x ∷ xs) (suc i) d inside is = get_at xs i d (omega arith) is

pub mapped_at : {X Y : Type 0} (f : X → Y) (xs : List X) (i : ℕ) (x : X) → slice_get xs i ≡ Some x → map f (drop i xs) ≡ (f x ∷ []) ++ map f (drop (i + 1) xs)
mapped_at f xs i x at = ap (map f) (drop-next xs i x at)

pub mapped_end : {X Y : Type 0} (f : X → Y) (xs : List X) (i : ℕ) → length xs ≤ i → map f (drop i xs) ≡ []
mapped_end f xs i past = ap (map f) (drop_all i xs past)

-- the object of a line that fits has a kind
pub line_said : (objects : List Declared) (line : Line) → AllByRecursion IsDeclared objects → LineFits objects line → IsSomeAnd (slice_get objects line.object) (λ d. IsKind d.kind × HasLine line d)
line_said objects line sound fits = said objects line.object sound fits
  where
    said : (xs : List Declared) (o : ℕ) → AllByRecursion IsDeclared xs → IsSomeAnd (slice_get xs o) (HasLine line) → IsSomeAnd (slice_get xs o) (λ d. IsKind d.kind × HasLine line d)
    said [] o sound fits = absurd fits
    said (x ∷ xs) zero sound fits = (sound.0.0, fits)
    said (x ∷ xs) (suc o) sound fits = said xs o sound.1 fits

pub line_first : (objects : List Declared) (lines : List Line) (default : Line) → 1 ≤ length lines → map (ended_call_line objects) lines ≡ (ended_call_line objects (get_or lines 0 default) ∷ []) ++ map (ended_call_line objects) (others lines)
line_first objects lines default some = ap (map (ended_call_line objects)) (first_others lines default some)

pub thread_first : (objects : List Declared) (scripts : List (List Piece)) (script : List Piece) → 1 ≤ length scripts → script ≡ get_or scripts 0 script → flat_map (thread_lines objects) scripts ≡ thread_lines objects script ++ flat_map (thread_lines objects) (others scripts)
thread_first objects scripts script some is = ap (flat_map (thread_lines objects)) (item_others scripts script some is) ∙ flat_map-cons (thread_lines objects) script (others scripts)

-- one piece more
pub piece_at : (objects : List Declared) (script : List Piece) (k : ℕ) (p : Piece) → slice_get script k ≡ Some p → flat_map (piece_texts objects) (drop k script) ≡ piece_texts objects p ++ flat_map (piece_texts objects) (drop (k + 1) script)
piece_at objects script k p at = ap (flat_map (piece_texts objects)) (drop-next script k p at) ∙ flat_map-cons (piece_texts objects) p (drop (k + 1) script)

pub pieces_end : (objects : List Declared) (script : List Piece) (k : ℕ) → length script ≤ k → flat_map (piece_texts objects) (drop k script) ≡ []
pieces_end objects script k past = ap (flat_map (piece_texts objects)) (drop_all k script past)

-- the parts of a canonical text, of the target, the objects and the threads of its workload
pub lines_made : (w : Workload) (v : ℕ) (t : Target) (os : List Declared) (ts : List (List Piece)) → v ≡ w.version → t ≡ w.target → os ≡ w.objects → ts ≡ w.scripts → (version_line v ∷ []) ++ ((target_line t ∷ []) ++ (map object_line os ++ flat_map (thread_lines os) ts)) ≡ canonical_lines w
lines_made w v t os ts version target objects threads =
    ap (λ x. version_line x ∷ target_line t ∷ (map object_line os ++ flat_map (thread_lines os) ts)) version
    ∙ ap (λ x. version_line w.version ∷ target_line x ∷ (map object_line os ++ flat_map (thread_lines os) ts)) target
    ∙ ap (λ x. version_line w.version ∷ target_line w.target ∷ (map object_line x ++ flat_map (thread_lines x) ts)) objects
    ∙ ap (λ x. version_line w.version ∷ target_line w.target ∷ (map object_line w.objects ++ flat_map (thread_lines w.objects) x)) threads

-- ---- pieces of both versions

-- what stands in version 1 stands in version 2
line_stands_later : (version : ℕ) (objects : List Declared) (l : Line) → LineStands version objects l → LineStands 2 objects l
line_stands_later version objects l stands = (stands.0, λ newer. refl)

lines_stand_later : (version : ℕ) (objects : List Declared) (lines : List Line) → AllByRecursion (LineStands version objects) lines → AllByRecursion (LineStands 2 objects) lines
lines_stand_later version objects [] stand = tt
lines_stand_later version objects (l ∷ ls) stand = (line_stands_later version objects l stand.0, lines_stand_later version objects ls stand.1)

piece_stands_later : (version : ℕ) (objects : List Declared) (p : Piece) → PieceStands version objects p → PieceStands 2 objects p
piece_stands_later version objects (One l) stands = line_stands_later version objects l stands
piece_stands_later version objects (Block times lines) stands = (refl, stands.1, stands.2, lines_stand_later version objects lines stands.3)

script_stands_later : (version : ℕ) (objects : List Declared) (script : List Piece) → AllByRecursion (PieceStands version objects) script → AllByRecursion (PieceStands 2 objects) script
script_stands_later version objects [] stand = tt
script_stands_later version objects (p ∷ ps) stand = (piece_stands_later version objects p stand.0, script_stands_later version objects ps stand.1)

pub scripts_stand_later : (version : ℕ) (objects : List Declared) (scripts : List (List Piece)) → AllByRecursion (λ script. AllByRecursion (PieceStands version objects) script) scripts → AllByRecursion (λ script. AllByRecursion (PieceStands 2 objects) script) scripts
scripts_stand_later version objects [] stand = tt
scripts_stand_later version objects (script ∷ scripts) stand = (script_stands_later version objects script stand.0, scripts_stand_later version objects scripts stand.1)

pub lines_fit : (version : ℕ) (objects : List Declared) (lines : List Line) → AllByRecursion (LineStands version objects) lines → AllByRecursion (LineFits objects) lines
lines_fit version objects [] stand = tt
lines_fit version objects (l ∷ ls) stand = (stand.0.0, lines_fit version objects ls stand.1)

pub script_lines_fit : (version : ℕ) (objects : List Declared) (script : List Piece) → AllByRecursion (PieceStands version objects) script → AllByRecursion (LineFits objects) (script_lines script)
script_lines_fit version objects [] stand = tt
script_lines_fit version objects (p ∷ ps) stand =
    subst (AllByRecursion (LineFits objects)) (sym (flat_map-cons piece_lines p ps)) (all_append (LineFits objects) (piece_lines p) (script_lines ps) (piece_fits p stand.0) (script_lines_fit version objects ps stand.1))
  where
    piece_fits : (p : Piece) → PieceStands version objects p → AllByRecursion (LineFits objects) (piece_lines p)
    piece_fits (One l) stands = (stands.0, tt)
    piece_fits (Block times lines) stands = all_times_over (LineFits objects) times lines (lines_fit version objects lines stands.3)

all_scripts_fit : (version : ℕ) (objects : List Declared) (scripts : List (List Piece)) → AllByRecursion (λ script. AllByRecursion (PieceStands version objects) script) scripts → AllByRecursion (AllByRecursion (LineFits objects)) (map script_lines scripts)
all_scripts_fit version objects [] stand = tt
all_scripts_fit version objects (script ∷ scripts) stand = (script_lines_fit version objects script stand.0, all_scripts_fit version objects scripts stand.1)

-- the lines of a workload's threads have objects that have their calls
pub threads_fit : (w : Workload) → IsWork w → AllByRecursion (AllByRecursion (LineFits w.objects)) (threads_of w)
threads_fit w is = all_scripts_fit w.version w.objects w.scripts is.pieces
