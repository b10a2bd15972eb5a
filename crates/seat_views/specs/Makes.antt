-- What whole calls say of a pass.
use Rattle.std.specs.Prelude.{◌≡◌, ℕ, List, [], ◌∷◌, ◌++◌, length}
use Rattle.op_table.specs.declared.call.Call.{Call}
use Rattle.op_table.specs.declared.call.Reply.{Reply}
use Rattle.place_core.specs.declared.entry.Entry.{Entry}
use Rattle.place_core.specs.declared.shape.Shape.{Shape}
use Rattle.place_core.specs.Histories.{Each}
use Rattle.place_core.specs.Earned.{IsEarned, IsSpuriousEntry}
use Rattle.seat_views.specs.declared.view.Item.{Item}
use Rattle.seat_views.specs.declared.view.Flight.TheVariants.{Idle}
use Rattle.seat_views.specs.Steps.{entry}
use Rattle.seat_views.specs.States.{PassState, IsKept}
use Rattle.seat_views.specs.Paths.{IsPath, ArePaths}

-- the pass made a call on object o, with this reply, by these steps and no load aside: the call's entry is the last that is
-- seen
pub record MakesEntry (o : ℕ) (call : Call) (p : PassState) (r : Reply) (steps : List Item) (q : PassState) : Type 0 where
  pub between : List Entry
  pub seen : q.seen ≡ (p.seen ++ between) ++ entry p.number o call r ∷ []
  pub rest : q ≡ record p { seen = q.seen; mine = p.mine ++ entry p.number o call r ∷ []; trail = p.trail ++ steps; flight = Idle }
  pub kept : IsKept q

-- besides the steps are a path of the call, and where it is a weak exchange that failed with the value that it expects,
-- that failure is earned
pub record MakesCall (S : Shape) (o : ℕ) (call : Call) (p : PassState) (r : Reply) (q : PassState) : Type 0 where
  pub steps : List Item
  pub made : MakesEntry o call p r steps q
  pub path : IsPath S o call r steps
  pub earned : IsSpuriousEntry (entry p.number o call r) → IsEarned S (p.seen ++ made.between) (entry p.number o call r)

-- ---- calls made one after another

-- the entries of calls with their replies
abbrev pub entries_with : ℕ → List (ℕ × Call) → List Reply → List Entry
entries_with c [] rs = []
entries_with c (a ∷ calls) [] = []
entries_with c (a ∷ calls) (r ∷ rs) = entry c a.0 a.1 r ∷ entries_with c calls rs

-- of the entries `more`, which come after H, each of caller c that is a weak exchange which failed with the value that it
-- expects is earned
abbrev pub EarnsOwn : Shape → ℕ → List Entry → List Entry → Type 0
EarnsOwn S c H more = Each (λ G x. x.caller ≡ c → IsSpuriousEntry x → IsEarned S (H ++ G) x) more

-- the pass made these calls, in order, with these replies, by these steps and no load aside: its own entries are one for
-- each call, what is seen begins with all that was, each failure of its own is earned, and nothing is in flight
pub record Makes (S : Shape) (calls : List (ℕ × Call)) (p : PassState) (replies : List Reply) (steps : List Item) (q : PassState) : Type 0 where
  pub more : List Entry
  pub count : length replies ≡ length calls
  pub seen : q.seen ≡ p.seen ++ more
  pub rest : q ≡ record p { seen = q.seen; mine = p.mine ++ entries_with p.number calls replies; trail = p.trail ++ steps; flight = Idle }
  pub earned : EarnsOwn S p.number p.seen more
  pub kept : IsKept q

-- besides, the steps are the paths of these calls
pub record MakesCalls (S : Shape) (calls : List (ℕ × Call)) (p : PassState) (replies : List Reply) (q : PassState) : Type 0 where
  pub steps : List Item
  pub made : Makes S calls p replies steps q
  pub paths : ArePaths S calls replies steps
