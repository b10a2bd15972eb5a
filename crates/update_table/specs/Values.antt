-- What contracts say of updates of typed atomics.
use Rattle.std.specs.Prelude.{◌≡◌, ℕ, Option, Some, None, Result, Ok, Err}
use Rattle.update_table.specs.declared.update.Stop.{Stop}
use Rattle.update_table.specs.declared.update.Stop.TheVariants.{Refused}

-- an answer as a number
abbrev pub answer_bits : {V : Type 0} → (V → ℕ) → Option V → Option ℕ
answer_bits bits (Some v) = Some (bits v)
answer_bits bits None = None

-- the number of a value is led to what the closure may answer at the value; `of_bits` gives a number's value, `bits` a value's
-- number
abbrev pub answers_as : {V : Type 0} → (ℕ → V) → (V → ℕ) → (V → Option V → Type 0) → ℕ → Option ℕ → Type 0
answers_as {V} of_bits bits gives a b = (answer : Option V) × gives (of_bits a) answer × (b ≡ answer_bits bits answer)

-- a closure that always answers
abbrev pub always : {V : Type 0} → (V → V → Type 0) → V → Option V → Type 0
always {V} gives v answer = (n : V) × gives v n × (answer ≡ Some n)

-- how an update of a value ended, in numbers
abbrev pub ended_as : {V : Type 0} → (V → ℕ) → Result V V → Result ℕ Stop
ended_as bits (Ok v) = Ok (bits v)
ended_as bits (Err v) = Err (Refused (bits v))
