-- Words in which lanes lie.
use Rattle.std.specs.Prelude.{ℕ, suc, ◌+◌, ◌*◌, ◌^◌, ◌==◌, Bool, true, false, if◌then◌else◌, List, [], ◌∷◌, Option, Some, None}

-- a lane: its word, its lowest bit there, and how many bits it has
pub record Strip : Type 0 where
  pub word : ℕ
  pub shift : ℕ
  pub width : ℕ

-- whether it is a lane of word w
abbrev pub lies_in : ℕ → Option Strip → Bool
lies_in w None = false
lies_in w (Some s) = s.word == w

-- what a lane with the value v adds to word w
abbrev pub piece : Option Strip → ℕ → ℕ → ℕ
piece None w v = 0
piece (Some s) w v = if s.word == w then v * 2 ^ s.shift else 0

-- word w where the lanes, whose numbers begin with k, have the values g
unfoldable pub word_sum : List (Option Strip) → ℕ → (ℕ → ℕ) → ℕ → ℕ
word_sum [] k g w = 0
word_sum (a ∷ more) k g w = piece a w (g k) + word_sum more (suc k) g w

abbrev pub one_if : Bool → ℕ
one_if true = 1
one_if false = 0

-- how many lanes word w has
unfoldable pub lanes_in : List (Option Strip) → ℕ → ℕ
lanes_in [] w = 0
lanes_in (a ∷ more) w = one_if (lies_in w a) + lanes_in more w
