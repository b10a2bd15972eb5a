use Rattle.std.proofs.Common.{◌≡◌, ℕ, ◌+◌, ◌-◌, List, ◌++◌, take, drop, length, refl, sym, ap, ◌∙◌, arith, length-drop}
use Rattle.std.proofs.lemmas.List.{take_all, take-append-drop, drop-drop, drop_all}
use Rattle.work_lang.proofs.memory.MemSourceSource.read.Goals as goal

-- the bytes left are those that were copied and those behind them; none are left where none were copied into some room
pub returns-clause-bytes : goal.returns-clause-bytes
returns-clause-bytes c =
    let n : ℕ = c.min-count.result in
    let at : ℕ = c.self.inside.at in
    let bytes : List ℕ = c.self.inside.bytes.items in
    let lent : List ℕ = c.deref-2.result.now in
    let rest : take (length lent - at) (drop at lent) ≡ drop at bytes = take_all (length lent - at) (drop at lent) (omega (arith, length-drop at lent)) ∙ ap (drop at) c.deref-2.ensures.value in (
      sym (ap (λ t. t.left) c.self.view_is) ∙ sym (take-append-drop n (drop at bytes)) ∙ ap (λ (l : List ℕ). l ++ drop n (drop at bytes)) (ap (take n) (sym rest) ∙ sym c.copy_front.ensures) ∙ ap (λ (l : List ℕ). take n c.copy_front.new.to ++ l) (drop-drop n at bytes),
      λ none some. drop_all (at + n) bytes (omega arith),
    )
