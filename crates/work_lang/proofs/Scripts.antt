-- Scripts that grow: the lines that they are written with, and the calls that they make.
use Rattle.std.proofs.Common.{◌≡◌, ℕ, ◌+◌, ◌*◌, ◌≤◌, ltb, leb, true, ◌&&◌, List, [], ◌∷◌, ◌++◌, length, Option, Some, None, sym, ap, subst, ◌∙◌, arith, mul-zero, mul-suc, mul-add}
use Rattle.std.specs.List.{sum_by, AllByRecursion}
use Rattle.std.proofs.lemmas.Bool.{ltb-true, lt-ltb, leb-true, le-leb, and_parts, and_from}
use Rattle.std.proofs.lemmas.List.{append-nil, length-append}
use Rattle.std.proofs.lemmas.List.Sums.{sum_by_push, sum_by-append}
use Rattle.std.proofs.lemmas.List.Concat.{flat_map-append}
use Rattle.place_core.specs.declared.name.Declared.{Declared}
use Rattle.place_core.specs.declared.script.Line.{Line}
use Rattle.place_core.specs.declared.script.Piece.{Piece}
use Rattle.place_core.specs.declared.script.Piece.TheVariants.{One, Block}
use Rattle.place_core.specs.Pieces.{piece_lines, script_lines}
use Rattle.place_core.proofs.ScriptLists.{length-script_lines, length-times_over}
use Rattle.work_lang.specs.declared.item.OpenBlock.{OpenBlock}
use Rattle.work_lang.specs.Limits.{limits_of}
use Rattle.work_lang.specs.Workload.{PieceStands, LineStands, written_lines, lines_written, calls_made}
use Rattle.work_lang.specs.Reading.{State, times_in, closed_block, script_so_far, has_room}
use Rattle.work_lang.proofs.Lists.{all_push}

-- ---- a piece more

pub written_more : (pieces : List Piece) (p : Piece) → lines_written (pieces ++ p ∷ []) ≡ lines_written pieces + written_lines p
written_more pieces p = sum_by_push written_lines pieces p

pub made_more : (pieces : List Piece) (p : Piece) → calls_made (pieces ++ p ∷ []) ≡ calls_made pieces + length (piece_lines p)
made_more pieces p = length-script_lines pieces p

pub made_by_block : (times : ℕ) (lines : List Line) → length (piece_lines (Block times lines)) ≡ times * length lines
made_by_block times lines = length-times_over times lines

pub written_both : (xs ys : List Piece) → lines_written (xs ++ ys) ≡ lines_written xs + lines_written ys
written_both xs ys = sum_by-append written_lines xs ys

pub made_both : (xs ys : List Piece) → calls_made (xs ++ ys) ≡ calls_made xs + calls_made ys
made_both xs ys = ap length (flat_map-append piece_lines xs ys) ∙ length-append (script_lines xs) (script_lines ys)

-- a line more in a block makes as many calls as the block is made times
pub times_more : (times : ℕ) (lines : List Line) (l : Line) → times * length (lines ++ l ∷ []) ≡ times * length lines + times
times_more times lines l = ap (λ (n : ℕ). times * n) (length-append lines (l ∷ [])) ∙ mul-add times (length lines) 1 ∙ omega (arith, mul-suc times 0, mul-zero times)

-- ---- the limits

-- where these scripts are closed, a script with so many lines and calls passes no limit
pub record IsWithin (version : ℕ) (scripts : List (List Piece)) (written made : ℕ) : Type 0 where
  pub lines : written ≤ (limits_of version).lines
  pub calls : made ≤ (limits_of version).calls
  pub lines_in_all : sum_by lines_written scripts + written ≤ (limits_of version).lines_in_all
  pub calls_in_all : sum_by calls_made scripts + made ≤ (limits_of version).calls_in_all

pub within_less : (version : ℕ) (scripts : List (List Piece)) (lines calls fewer less : ℕ) → fewer ≤ lines → less ≤ calls → IsWithin version scripts lines calls → IsWithin version scripts fewer less
within_less version scripts lines calls fewer less f l is = record { lines = omega (arith, f, is.lines); calls = omega (arith, l, is.calls); lines_in_all = omega (arith, f, is.lines_in_all); calls_in_all = omega (arith, l, is.calls_in_all) }

-- room for a line more
pub room_within : (s : State) → has_room s ≡ true → IsWithin s.version s.scripts (lines_written (script_so_far s) + 1) (calls_made (script_so_far s) + times_in s.block)
room_within s e =
    let most = limits_of s.version in
    let lines : ℕ = lines_written (script_so_far s) in
    let calls : ℕ = calls_made (script_so_far s) in
    let times : ℕ = times_in s.block in
    let both = and_parts (ltb lines most.lines && ltb (sum_by lines_written s.scripts + lines) most.lines_in_all) (leb (calls + times) most.calls && leb (sum_by calls_made s.scripts + calls + times) most.calls_in_all) e in
    let a = and_parts (ltb lines most.lines) (ltb (sum_by lines_written s.scripts + lines) most.lines_in_all) both.0 in
    let b = and_parts (leb (calls + times) most.calls) (leb (sum_by calls_made s.scripts + calls + times) most.calls_in_all) both.1 in
    record {
      lines = omega (arith, ltb-true _ _ a.0);
      calls = leb-true _ _ b.0;
      lines_in_all = omega (arith, ltb-true _ _ a.1);
      calls_in_all = omega (arith, leb-true _ _ b.1);
    }

pub within_room : (s : State) → IsWithin s.version s.scripts (lines_written (script_so_far s) + 1) (calls_made (script_so_far s) + times_in s.block) → has_room s ≡ true
within_room s is =
    let most = limits_of s.version in
    let lines : ℕ = lines_written (script_so_far s) in
    let calls : ℕ = calls_made (script_so_far s) in
    let times : ℕ = times_in s.block in
    let a = lt-ltb lines most.lines (omega (arith, is.lines)) in
    let b = lt-ltb (sum_by lines_written s.scripts + lines) most.lines_in_all (omega (arith, is.lines_in_all)) in
    let c = le-leb (calls + times) most.calls is.calls in
    let d = le-leb (sum_by calls_made s.scripts + calls + times) most.calls_in_all (omega (arith, is.calls_in_all)) in
    and_from (ltb lines most.lines && ltb (sum_by lines_written s.scripts + lines) most.lines_in_all) (leb (calls + times) most.calls && leb (sum_by calls_made s.scripts + calls + times) most.calls_in_all) (and_from (ltb lines most.lines) _ a b) (and_from (leb (calls + times) most.calls) _ c d)

-- ---- the script so far

abbrev pub so_far : List Piece → Option OpenBlock → List Piece
so_far pieces block = pieces ++ closed_block block

-- the pieces and the block with a line more
abbrev pub pieces_with : List Piece → Line → Option OpenBlock → List Piece
pieces_with pieces l None = pieces ++ One l ∷ []
pieces_with pieces l (Some block) = pieces

abbrev pub block_with : Line → Option OpenBlock → Option OpenBlock
block_with l None = None
block_with l (Some block) = Some (record { times = block.times; lines = block.lines ++ l ∷ [] })

abbrev pub script_with : List Piece → Line → Option OpenBlock → List Piece
script_with pieces l block = so_far (pieces_with pieces l block) (block_with l block)

pub written_with : (pieces : List Piece) (l : Line) (block : Option OpenBlock) → lines_written (script_with pieces l block) ≡ lines_written (so_far pieces block) + 1
written_with pieces l None = ap lines_written (append-nil (pieces ++ One l ∷ [])) ∙ written_more pieces (One l) ∙ ap (λ (ps : List Piece). lines_written ps + 1) (sym (append-nil pieces))
written_with pieces l (Some block) = omega (arith, written_more pieces (Block block.times (block.lines ++ l ∷ [])), written_more pieces (Block block.times block.lines), length-append block.lines (l ∷ []))

pub made_with : (pieces : List Piece) (l : Line) (block : Option OpenBlock) → calls_made (script_with pieces l block) ≡ calls_made (so_far pieces block) + times_in block
made_with pieces l None = ap calls_made (append-nil (pieces ++ One l ∷ [])) ∙ made_more pieces (One l) ∙ ap (λ (ps : List Piece). calls_made ps + 1) (sym (append-nil pieces))
made_with pieces l (Some block) =
    omega (arith, made_more pieces (Block block.times (block.lines ++ l ∷ [])), made_by_block block.times (block.lines ++ l ∷ []), times_more block.times block.lines l, made_more pieces (Block block.times block.lines), made_by_block block.times block.lines)

-- ---- the pieces stand

abbrev pub Stand : ℕ → List Declared → List Piece → Type 0
Stand version objects pieces = AllByRecursion (PieceStands version objects) pieces

pub all_front : {A : Type 0} (P : A → Type 0) (xs ys : List A) → AllByRecursion P (xs ++ ys) → AllByRecursion P xs
all_front P [] ys all = tt
all_front P (x ∷ xs) ys all = (all.0, all_front P xs ys all.1)

pub all_behind : {A : Type 0} (P : A → Type 0) (xs ys : List A) → AllByRecursion P (xs ++ ys) → AllByRecursion P ys
all_behind P [] ys all = all
all_behind P (x ∷ xs) ys all = all_behind P xs ys all.1

pub stand_with : (version : ℕ) (objects : List Declared) (pieces : List Piece) (l : Line) (block : Option OpenBlock) → Stand version objects (so_far pieces block) → LineStands version objects l → Stand version objects (script_with pieces l block)
stand_with version objects pieces l None all stands =
    subst (Stand version objects) (sym (append-nil (pieces ++ One l ∷ []))) (all_push (PieceStands version objects) pieces (One l) (subst (Stand version objects) (append-nil pieces) all) stands)
stand_with version objects pieces l (Some block) all stands =
    let old = all_behind (PieceStands version objects) pieces (Block block.times block.lines ∷ []) all in
    all_push (PieceStands version objects) pieces (Block block.times (block.lines ++ l ∷ [])) (all_front (PieceStands version objects) pieces (Block block.times block.lines ∷ []) all) (old.0.0, old.0.1, old.0.2, all_push (LineStands version objects) block.lines l old.0.3 stands)
