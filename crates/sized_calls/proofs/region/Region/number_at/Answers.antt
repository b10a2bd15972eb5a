use Rattle.std.proofs.Common.{rules, ap}
use Rattle.std.proofs.lemmas.List.Sorted.{answers_always}
use Rattle.sized_calls.specs.declared.cells.Cell.{Cell}
use Rattle.sized_calls.specs.Regions.{RegionState}
use Rattle.sized_calls.proofs.Finding.{searched_in}
use Rattle.sized_calls.proofs.region.Region.number_at.Goals as goal

-- the closure gives a cell's address, and the slice has the region's cells
pub returns : goal.returns
returns c =
    let facts = c.binary_search_by_key.ensures in
    let by_key = facts.position (λ (cell : Cell). cell.address) (answers_always _ _ _ (λ f a r g called. search rules)) in
    searched_in c.self.inside.target c.self.inside.cells.items c.self.invariant.none c.args.address c.deref.result.now c.args.self.now.cells c.binary_search_by_key.result c.ok.result c.deref.ensures.value (ap (λ (s : RegionState). s.cells) c.self.view_is) c.ok.ensures.value facts.bound by_key
