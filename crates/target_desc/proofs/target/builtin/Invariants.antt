use Rattle.std.proofs.Common.{◌≡◌, map, drop}
use Rattle.op_table.specs.Words.{among}
use Rattle.target_desc.specs.Target.{builtin_of}
use Rattle.target_desc.proofs.target.builtin.Given as goal

-- the rows before this one have other names
abbrev pub invariant-loop-row : goal.invariant-loop-row
invariant-loop-row l = among (map (λ row. (row.0.now, row.1)) (drop l.row-index l.row-items)) l.name ≡ builtin_of l.name
