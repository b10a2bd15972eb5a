use Rattle.std.proofs.Common.{rules, refl, ◌∙◌, ◌+◌, ◌/◌, []}
use Rattle.any_size.proofs.Openings.{laid_next, at_any}
use Rattle.any_size.proofs.starts.add_words.Goals as goal

pub returns : goal.returns
returns c = laid_next c.args.starts.now c.args.locks c.args.words.now.items c.extend_from_slice.new.self.items c.words-spelled.result c.index-starts-index.result c.args.index ((c.count.result + 7) / 8) c.count.result c.requires.index c.requires.so_far
    (c.index-starts-index.is ∙ at_any c.args.starts.now c.args.index _ [] c.requires.index) c.count.ensures.value c.count.ensures.few (search rules) c.words-spelled.ensures refl (search rules)
