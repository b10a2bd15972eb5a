-- Steps that may fail, one after another, and what a function does beside such a definition.
use Rattle.std.specs.Prelude.{◌≡◌, Result, Ok, Err}
use Rattle.line_words.specs.Cursor.{Cursor}

infixl 10 ◌>>=◌
abbrev pub ◌>>=◌ : {A B E : Type 0} → Result A E → (A → Result B E) → Result B E
(Ok x) >>= f = f x
(Err e) >>= f = Err e

-- what a function returned, seen by view, is what reading gives
abbrev pub Gives : {X Y E : Type 0} → (X → Y) → Result X E → Result Y E → Type 0
Gives view (Ok x) read = read ≡ Ok (view x)
Gives view (Err e) read = read ≡ Err e

-- the same of a step that leaves the cursor `new`
abbrev pub Steps : {X Y E : Type 0} → (X → Y) → Result X E → Cursor → Result (Y × Cursor) E → Type 0
Steps view (Ok x) new read = read ≡ Ok (view x, new)
Steps view (Err e) new read = read ≡ Err e
