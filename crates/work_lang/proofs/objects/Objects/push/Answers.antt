use Rattle.std.proofs.Common.{◌∙◌, [], arith}
use Rattle.place_core.specs.DeclaredObjects.{IsDeclared}
use Rattle.work_lang.proofs.Indexes.{index_more}
use Rattle.work_lang.proofs.Keeping.{declared_push}
use Rattle.work_lang.proofs.Lists.{all_push}
use Rattle.work_lang.proofs.objects.Objects.push.Goals as goal

-- the new name leads to the new object, and the others stay
pub invariant_of-self-in-Ok-insert : goal.invariant_of-self-in-Ok-insert
invariant_of-self-in-Ok-insert c =
    rw c.in-Ok-push.ensures.items (
      index_more c.self.inside.index c.insert.new.self c.self.inside.items.items c.args.object c.in-Ok.name c.len-number.result (omega (arith, c.len-number.ensures, c.self.inside.items.ok.0)) (c.in-Ok.ensures.items ∙ c.bytes.ensures.value) c.in-Ok-insert.ensures.updates (rw c.self.view_is c.requires.new) c.self.invariant.0,
      all_push IsDeclared c.self.inside.items.items c.args.object c.self.invariant.1 c.requires.object,
      declared_push [] c.self.inside.items.items c.args.object c.self.invariant.2 c.bytes.ensures.named (rw c.self.view_is c.requires.new),
    )
