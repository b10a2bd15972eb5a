-- Steps that make no entry, one after another.
use Rattle.std.proofs.Common.{◌≡◌, ℕ, List, [], ◌∷◌, ◌++◌, refl, ap, sym, ◌∙◌, append_assoc, true, eq-eqb}
use Rattle.std.specs.Prelude.{◌&&◌}
use Rattle.std.proofs.lemmas.List.{append-nil}
use Rattle.seat_views.specs.declared.view.StepKind.{StepKind}
use Rattle.seat_views.specs.declared.view.Item.{Item}
use Rattle.seat_views.specs.declared.view.Flight.{Flight}
use Rattle.seat_views.specs.Items.{kind_code, is_numbered}
use Rattle.seat_views.specs.Steps.{item}
use Rattle.seat_views.specs.States.{ArenaState, PassState, IsOf, Moved}
use Rattle.seq_lock.specs.Holds.{Steps}

pub numbered : (k : StepKind) (w v n : ℕ) → w ≡ v → is_numbered k v (item w k n) ≡ true
numbered k w v n e = λ t. eq-eqb (kind_code k) (kind_code k) refl t && eq-eqb w v e t && true

-- no step
pub no_steps : (p : PassState) (f : Flight) → f ≡ p.flight → Steps p [] f p
no_steps p f e = (λ t. record p { trail = sym (append-nil p.trail) t; flight = sym e t })

-- one step more
pub step_more : (p q r : PassState) (T : List Item) (f g : Flight) (i : Item) (f' : Flight) → Steps p T f q → Moved q i g r → g ≡ f' → Steps p (T ++ i ∷ []) f' r
step_more p q r T f g i f' s m e =
    m.now ∙ (ap (λ (z : PassState). record z { trail = z.trail ++ i ∷ []; flight = g }) s ∙ λ t. record p { trail = append_assoc p.trail T (i ∷ []) t; flight = e t })

pub steps_then : (p q r : PassState) (T U : List Item) (f g : Flight) → Steps p T f q → Steps q U g r → Steps p (T ++ U) g r
steps_then p q r T U f g a b = b ∙ (ap (λ (z : PassState). record z { trail = z.trail ++ U; flight = g }) a ∙ ap (λ (l : List Item). record p { trail = l; flight = g }) (append_assoc p.trail T U))

-- the pass stays of its arena
pub steps_of : (a : ArenaState) (p q : PassState) (T : List Item) (f : Flight) → IsOf a p → Steps p T f q → IsOf a q
steps_of a p q T f of s = (ap (λ (z : PassState). z.arena) s ∙ of.0, ap (λ (z : PassState). z.shape) s ∙ of.1)

pub steps_flight : (p q : PassState) (T : List Item) (f : Flight) → Steps p T f q → q.flight ≡ f
steps_flight p q T f s = ap (λ (z : PassState). z.flight) s
