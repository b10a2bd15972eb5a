-- The words of a table of blocks: word 0, which is quiet, then the locks, then each object's words.
use Rattle.std.specs.Prelude.{◌≡◌, ℕ, ◌+◌, ◌%◌, ◌<◌, List, [], ◌∷◌, length, take, drop}
use Rattle.any_size.specs.Bytes.{words_for}
use Rattle.any_size.specs.Histories.{start_at, size_of}

-- how many words all of these take
abbrev pub words_in : List (List ℕ) → ℕ
words_in [] = 0
words_in (v ∷ vs) = words_for (length v) + words_in vs

-- how many words object o has
abbrev pub count_of : List (List ℕ) → ℕ → ℕ
count_of starts o = words_for (size_of starts o)

-- the lock of an object: its number modulo the locks
abbrev pub lock_of : ℕ → ℕ → ℕ
lock_of locks o = o % locks

-- the table word of a lock
abbrev pub lock_word : ℕ → ℕ
lock_word l = 1 + l

-- the table word with which an object begins
abbrev pub first_word : List (List ℕ) → ℕ → ℕ → ℕ
first_word starts locks o = 1 + locks + words_in (take o starts)

-- n words from one on
abbrev pub words_at : List ℕ → ℕ → ℕ → List ℕ
words_at words f n = take n (drop f words)

-- how many words the table has
abbrev pub table_size : List (List ℕ) → ℕ → ℕ
table_size starts locks = 1 + locks + words_in starts
