use Rattle.std.proofs.Common.{ap, refl}
use Rattle.atomic_table.specs.Table.{Me}
use Rattle.any_size.specs.declared.view.BlockView.{BlockView}
use Rattle.any_size.proofs.Landing.{opened}
use Rattle.any_size.proofs.Openings.{opens, first_sound}
use Rattle.any_size.proofs.blocks.Blocks.of.Goals as goal

pub of_words-requires : goal.of_words-requires
of_words-requires c = opens c.args.opening.now _ c.requires.words

pub of-requires-clause-sound : goal.of-requires-clause-sound
of-requires-clause-sound c = rw c.in_ok-table.ensures.4 (first_sound c.args.opening.now)
