use Rattle.std.proofs.Common.{rules, sym, subst, List, ℕ}
use Rattle.seat_views.specs.Starts.{Begins}
use Rattle.seat_views.proofs.Filling.{whole_slice}
use Rattle.seat_views.proofs.starts.starts.Goals as goal

pub returns : goal.returns
returns c = subst (λ (l : List ℕ). Begins record { shape = c.args.shape.now; first_stamp = c.args.stamp } l) (sym (whole_slice c.in_ok-words.words.len c.fill.new.words c.in_ok-words.words.items (search rules))) c.fill.ensures.begins
