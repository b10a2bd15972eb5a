use Rattle.std.proofs.Common.{◌≡◌, ◌∙◌, ℕ, List, [], subst, sym, ap, arith}
use Rattle.std.specs.Prelude.{Some, slice_get}
use Rattle.std.specs.Cmp.Lexicographic.{bytes_decides}
use Rattle.place_core.specs.declared.name.Declared.{Declared}
use Rattle.work_lang.specs.Workload.{object_of}
use Rattle.work_lang.proofs.CanonicalSteps.{get_at}
use Rattle.work_lang.proofs.Names.{named_again}
use Rattle.work_lang.proofs.objects.Objects.guess.Goals as goal

-- no other object has the name
pub returns-then-eq : goal.returns-then-eq
returns-then-eq c =
    let found = c.in_ok-object.ensures {u = tt} in
    let there = get_at c.deref-2.result.now c.in_ok-number.field-0.now c.in_ok-object.object.now found.lookup.3.0 found.lookup.1 in
    let own : slice_get c.self.inside.items.items c.in_ok-number.field-0.now ≡ Some c.in_ok-object.object.now = subst (λ (objects : List Declared). slice_get objects c.in_ok-number.field-0.now ≡ Some c.in_ok-object.object.now) c.deref-2.ensures.value there in
    let named = named_again [] c.self.inside.items.items c.self.invariant.2 c.in_ok-number.field-0.now c.in_ok-object.object.now own ∙ ap (λ (n : ℕ). Some n) (omega arith) in
    let name : c.in_ok-object.object.now.name ≡ c.args.word.now = sym c.bytes.ensures.value ∙ (bytes_decides c.bytes.result.now c.args.word.now).0 (sym c.eq.ensures ∙ c.if-eq.true) in
    rw (← c.self.view_is) (subst (λ (w : List ℕ). object_of c.self.inside.items.items w ≡ Some c.in_ok-number.field-0.now) name named)
