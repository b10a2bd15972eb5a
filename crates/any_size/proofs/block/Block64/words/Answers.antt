use Rattle.std.proofs.Common.{rules, ◌≡◌, ◌∙◌, ◌<◌, ap, sym, subst, List, ℕ, arith, length-set}
use Rattle.std.specs.Prelude.{replicate, ◌++◌, length, ◌-◌}
use Rattle.any_size.specs.Bytes.{bytes_of}
use Rattle.any_size.specs.Padding.{chunk_more, words_spell}
use Rattle.any_size.proofs.block.Block64.words.Goals as goal

pub loop-i-preserved : goal.loop-i-preserved
loop-i-preserved c = let before = c.loop-i.invariant in let eight = before.0 in let here : c.loop-i.i < length c.loop-i.words = omega arith in (
  length-set c.loop-i.words c.loop-i.i c.word_of.result ∙ before.0,
  chunk_more c.loop-i.words c.as_chunks.result.0.now c.loop-i.i c.word_of.result here (search rules)
      c.word_of.ensures before.1,
)

pub returns : goal.returns
returns c = let before = c.loop-i.invariant in subst (λ (v : List ℕ). bytes_of c.loop-i.words ≡ v ++ replicate (64 - length v) 0) c.self.view_is
    (words_spell c.loop-i.words c.as_chunks.result.0.now c.self.inside.bytes c.self.inside.len c.loop-i.i c.self.invariant (omega arith) before.0 (search rules) (search rules) before.1)
