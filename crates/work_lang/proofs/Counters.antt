-- The reader's counters of lines and calls.
use Rattle.std.proofs.Common.{◌≡◌, ℕ, ◌+◌, ◌*◌, ◌<◌, ◌^◌, eqb, List, [], length, Option, Some, None, ap, subst, arith, inl, inr, mul-zero}
use Rattle.std.proofs.lemmas.Bool.{cases_Bool}
use Rattle.std.proofs.lemmas.List.{append-nil}
use Rattle.place_core.specs.declared.script.Line.{Line}
use Rattle.place_core.specs.declared.script.Piece.{Piece}
use Rattle.place_core.specs.declared.script.Piece.TheVariants.{Block}
use Rattle.place_core.specs.Pieces.{script_lines}
use Rattle.work_lang.specs.declared.item.OpenBlock.{OpenBlock}
use Rattle.work_lang.specs.declared.reader.Counts.{Counts}
use Rattle.work_lang.specs.Limits.{limits_of}
use Rattle.work_lang.specs.Workload.{lines_written, calls_made}
use Rattle.work_lang.specs.Reading.{State, times_in, script_so_far}
use Rattle.work_lang.specs.Kept.{AreCounts, IsKept}
use Rattle.work_lang.proofs.Scripts.{written_more, made_more, made_by_block, so_far, pieces_with, block_with, written_with, made_with}

-- a line more
pub counts_with : (pieces : List Piece) (l : Line) (block : Option OpenBlock) (scripts : List (List Piece)) (in_thread in_all : Counts) → AreCounts in_thread in_all scripts pieces block
    → AreCounts (record { lines = in_thread.lines + 1; calls = in_thread.calls + times_in block }) (record { lines = in_all.lines + 1; calls = in_all.calls + times_in block }) scripts (pieces_with pieces l block) (block_with l block)
counts_with pieces l block scripts in_thread in_all are = ((omega (arith, are.0.0, written_with pieces l block), omega (arith, are.0.1, made_with pieces l block)), omega (arith, are.1), omega (arith, are.2))

-- a block without lines
pub counts_open : (pieces : List Piece) (times : ℕ) (lines : List Line) (block : Option OpenBlock) (scripts : List (List Piece)) (in_thread in_all : Counts) → block ≡ None → lines ≡ [] → AreCounts in_thread in_all scripts pieces block
    → AreCounts in_thread in_all scripts pieces (Some (record { times = times; lines = lines }))
counts_open pieces times lines block scripts in_thread in_all closed none are =
    let old = subst (AreCounts in_thread in_all scripts pieces) closed are in
    rw none (
      (omega (arith, old.0.0, ap lines_written (append-nil pieces), written_more pieces (Block times [])), omega (arith, old.0.1, ap calls_made (append-nil pieces), made_more pieces (Block times []), made_by_block times [], mul-zero times)),
      old.1,
      old.2,
    )

few_calls : (version : ℕ) → (limits_of version).calls < 2 ^ 32
few_calls version = elim (cases_Bool (eqb version 1)) [
  | inl e ↦ rw e (omega arith)
  | inr e ↦ rw e (omega arith)
]

-- a script takes the open block
pub block_fits : (s : State) (b : OpenBlock) → s.block ≡ Some b → IsKept s → length (script_lines s.pieces) + b.times * length b.lines < 2 ^ 32
block_fits s b is k =
    let same : calls_made (script_so_far s) ≡ calls_made (so_far s.pieces (Some b)) = ap (λ (x : Option OpenBlock). calls_made (so_far s.pieces x)) is in
    omega (arith, same, k.few_calls_open, few_calls s.version, made_more s.pieces (Block b.times b.lines), made_by_block b.times b.lines)
