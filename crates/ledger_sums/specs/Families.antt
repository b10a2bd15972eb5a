-- Families of calls: calls of one family leave the same value in whichever order they are made.
use Rattle.std.specs.Prelude.{Bool, true, false, ◌&&◌, ◌||◌, List, [], ◌∷◌}
use Rattle.op_table.specs.declared.call.Call.{Call}
use Rattle.op_table.specs.declared.call.Call.TheVariants.{Load, Store, Swap, Cas, CasWeak, Add, Sub, And, Nand, Or, Xor, Max, Min, Not, Neg, BitSet, BitClear, BitToggle, AddFetch, SubFetch, AndFetch, NandFetch, OrFetch, XorFetch}
use Rattle.ledger_sums.specs.declared.families.Family.{Family}
use Rattle.ledger_sums.specs.declared.families.Family.TheVariants.{Sums, Flips, Sets, Clears, Maxima, Minima}
use Rattle.ledger_sums.specs.declared.families.Mix.{Mix}
use Rattle.ledger_sums.specs.declared.families.Mix.TheVariants.{Loads, One, Other}

-- a call alone: a load, a member of a family, or a call of no family. Quiet calls belong to the families too
abbrev pub mix_of : Call → Mix
mix_of Load = Loads
mix_of (Store a) = Other
mix_of (Swap a) = Other
mix_of (Cas e n) = Other
mix_of (CasWeak e n) = Other
mix_of (Add a q) = One Sums
mix_of (Sub a q) = One Sums
mix_of (And a q) = One Clears
mix_of (Nand a) = Other
mix_of (Or a q) = One Sets
mix_of (Xor a q) = One Flips
mix_of (Max a) = One Maxima
mix_of (Min a) = One Minima
mix_of (Not q) = One Flips
mix_of (Neg q) = Other
mix_of (BitSet p) = One Sets
mix_of (BitClear p) = One Clears
mix_of (BitToggle p) = One Flips
mix_of (AddFetch a) = One Sums
mix_of (SubFetch a) = One Sums
mix_of (AndFetch a) = One Clears
mix_of (NandFetch a) = Other
mix_of (OrFetch a) = One Sets
mix_of (XorFetch a) = One Flips

-- the families are one
abbrev pub is_same : Family → Family → Bool
is_same Sums Sums = true
is_same Flips Flips = true
is_same Sets Sets = true
is_same Clears Clears = true
is_same Maxima Maxima = true
is_same Minima Minima = true
is_same _ _ = false

-- loads alone, or loads and members of this family
abbrev pub suits : Family → Mix → Bool
suits f Loads = true
suits f (One g) = is_same f g
suits f Other = false

-- each call is a load or a member of the family
abbrev pub all_suit : Family → List Call → Bool
all_suit f [] = true
all_suit f (call ∷ calls) = suits f (mix_of call) && all_suit f calls

-- all calls are loads and members of one family
abbrev pub are_of_one_family : List Call → Bool
are_of_one_family calls =
    all_suit Sums calls || (all_suit Flips calls || (all_suit Sets calls || (all_suit Clears calls || (all_suit Maxima calls || all_suit Minima calls))))
