use Rattle.std.proofs.Common.{◌≡◌, map, drop}
use Rattle.target_desc.specs.Target.{name_among, name_of}
use Rattle.target_desc.proofs.target.name_of.Given as goal

-- the rows before this one have other targets
abbrev pub invariant-loop-row : goal.invariant-loop-row
invariant-loop-row l = name_among (map (λ row. (row.0.now, row.1)) (drop l.row-index l.row-items)) l.target ≡ name_of l.target
