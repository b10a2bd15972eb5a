use Rattle.std.proofs.Common.{◌≡◌, ◌+◌, ◌≤◌, length, map}
use Rattle.place_core.specs.WordSums.{lanes_in}
use Rattle.place_core.specs.Shapes.{strip_of}
use Rattle.place_core.proofs.serving.lanes_in.Given as goal

-- what was counted, and the lanes of the objects that are left, are all
abbrev pub invariant-objects : goal.invariant-objects
invariant-objects l = record {
  whole : l.count + lanes_in (map (λ a. strip_of a.place) l.rest) l.word ≡ lanes_in (map (λ a. strip_of a.place) l.objects) l.word;
  short : l.count + length l.rest ≤ length l.objects;
}

abbrev pub decreases-objects : goal.decreases-objects
decreases-objects l = length l.rest
