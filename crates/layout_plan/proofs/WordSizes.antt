-- Bytes, words and parts, where a word has 4 or 8 bytes.
use Rattle.std.proofs.Common.{◌≡◌, ◌⊎◌, inl, inr, ℕ, ◌+◌, ◌-◌, ◌*◌, ◌/◌, ◌%◌, ◌^◌, ◌<◌, ◌≤◌, Bool, true, false, if◌then◌else◌, sym, subst, arith}
use Rattle.std.specs.Prelude.{max}
use Rattle.std.proofs.lemmas.Nat.{mod-mul-add}
use Rattle.op_table.specs.declared.kind.Width.{Width}
use Rattle.op_table.specs.declared.kind.Width.TheVariants.{W1, W8, W16, W32, W64, W128}
use Rattle.op_table.specs.Kind.{bits_of, width_bytes}
use Rattle.place_core.specs.Shapes.{parts_for}
use Rattle.layout_plan.specs.Layout.{next_multiple}

abbrev pub alignment : Bool → Width → ℕ → ℕ
alignment packed w n = if packed then width_bytes w else max (width_bytes w) (n / 8)

-- ---- widths

pub some_bytes : (w : Width) → (1 ≤ width_bytes w) × (width_bytes w ≤ 16) × (bits_of w ≤ 8 * width_bytes w) × (1 ≤ bits_of w)
some_bytes W1 = (omega arith, omega arith, omega arith, omega arith)
some_bytes W8 = (omega arith, omega arith, omega arith, omega arith)
some_bytes W16 = (omega arith, omega arith, omega arith, omega arith)
some_bytes W32 = (omega arith, omega arith, omega arith, omega arith)
some_bytes W64 = (omega arith, omega arith, omega arith, omega arith)
some_bytes W128 = (omega arith, omega arith, omega arith, omega arith)

-- ---- multiples

pub record IsNextMultiple (m n a : ℕ) : Type 0 where
  pub least : n ≤ a
  pub most : a < n + m
  pub aligned : a % m ≡ 0

pub next_is : (m n : ℕ) → 1 ≤ m → IsNextMultiple m n (next_multiple m n)
next_is m n pos = record {
  least = omega arith;
  most = omega arith;
  aligned = let z : (n + m - 1) / m * m ≡ (n + m - 1) / m * m + 0 = omega arith in subst (λ (k : ℕ). k % m ≡ 0) (sym z) (mod-mul-add ((n + m - 1) / m) m 0 pos);
}

-- ---- division by the bytes of a word

pub record Divides (b : ℕ) : Type 0 where
  pub same_word : (x y c : ℕ) → x + c ≤ y → x / b ≡ y / b → x % b + c ≤ y % b
  pub next_word : (x y : ℕ) → x < y → y % b ≡ 0 → x / b < y / b
  pub next_whole : (x y c m : ℕ) → x % b ≡ 0 → m * b ≡ c → x + c ≤ y → x / b + m ≤ y / b
  pub in_words : (x e : ℕ) → x < e → x / b < (e + b - 1) / b
  pub whole_in_words : (x e c m : ℕ) → x % b ≡ 0 → m * b ≡ c → x + c ≤ e → x / b + m ≤ (e + b - 1) / b
  pub few : (e : ℕ) → e ≤ 16777216 * b → (e + b - 1) / b ≤ 2 ^ 24
  pub some : (1 ≤ b) × (b ≤ 8)

four : Divides 4
four = record {
  same_word = λ x y c le e. omega (arith, le, e);
  next_word = λ x y lt e. omega (arith, lt, e);
  next_whole = λ x y c m e is le. omega (arith, e, is, le);
  in_words = λ x e lt. omega (arith, lt);
  whole_in_words = λ x e c m z is le. omega (arith, z, is, le);
  few = λ e le. omega (arith, le);
  some = (omega arith, omega arith);
}

eight : Divides 8
eight = record {
  same_word = λ x y c le e. omega (arith, le, e);
  next_word = λ x y lt e. omega (arith, lt, e);
  next_whole = λ x y c m e is le. omega (arith, e, is, le);
  in_words = λ x e lt. omega (arith, lt);
  whole_in_words = λ x e c m z is le. omega (arith, z, is, le);
  few = λ e le. omega (arith, le);
  some = (omega arith, omega arith);
}

-- ---- objects at their addresses

-- an object at an aligned address: a lane ends with its word or before, and so do its bytes where objects share words;
-- parts begin a word, and so does each object where nothing is packed
pub record IsSeated (packed : Bool) (w : Width) (n a : ℕ) : Type 0 where
  pub ends : bits_of w ≤ n → 64 - n + 8 * (a % (n / 8)) + bits_of w ≤ 64
  pub whole : n < bits_of w → a % (n / 8) ≡ 0
  pub alone : packed ≡ false → a % (n / 8) ≡ 0
  pub fits : packed ≡ true → bits_of w ≤ n → a % (n / 8) + width_bytes w ≤ n / 8

-- parts fill their words where a value is wider than one; else there is one part
pub record IsCounted (w : Width) (n : ℕ) : Type 0 where
  pub tight : n < bits_of w → parts_for (bits_of w) n * (n / 8) ≡ width_bytes w
  pub one : bits_of w ≤ n → parts_for (bits_of w) n ≡ 1

seated32 : (packed : Bool) (w : Width) (a : ℕ) → a % alignment packed w 32 ≡ 0 → IsSeated packed w 32 a
seated32 true W1 a e = record { ends = λ le. omega (arith, e, le); whole = λ lt. omega (arith, e, lt); alone = λ is. absurd cc; fits = λ is le. omega (arith, e, le) }
seated32 true W8 a e = record { ends = λ le. omega (arith, e, le); whole = λ lt. omega (arith, e, lt); alone = λ is. absurd cc; fits = λ is le. omega (arith, e, le) }
seated32 true W16 a e = record { ends = λ le. omega (arith, e, le); whole = λ lt. omega (arith, e, lt); alone = λ is. absurd cc; fits = λ is le. omega (arith, e, le) }
seated32 true W32 a e = record { ends = λ le. omega (arith, e, le); whole = λ lt. omega (arith, e, lt); alone = λ is. absurd cc; fits = λ is le. omega (arith, e, le) }
seated32 true W64 a e = record { ends = λ le. omega (arith, e, le); whole = λ lt. omega (arith, e, lt); alone = λ is. absurd cc; fits = λ is le. omega (arith, e, le) }
seated32 true W128 a e = record { ends = λ le. omega (arith, e, le); whole = λ lt. omega (arith, e, lt); alone = λ is. absurd cc; fits = λ is le. omega (arith, e, le) }
seated32 false W1 a e = record { ends = λ le. omega (arith, e, le); whole = λ lt. omega (arith, e, lt); alone = λ is. omega (arith, e); fits = λ is. absurd cc }
seated32 false W8 a e = record { ends = λ le. omega (arith, e, le); whole = λ lt. omega (arith, e, lt); alone = λ is. omega (arith, e); fits = λ is. absurd cc }
seated32 false W16 a e = record { ends = λ le. omega (arith, e, le); whole = λ lt. omega (arith, e, lt); alone = λ is. omega (arith, e); fits = λ is. absurd cc }
seated32 false W32 a e = record { ends = λ le. omega (arith, e, le); whole = λ lt. omega (arith, e, lt); alone = λ is. omega (arith, e); fits = λ is. absurd cc }
seated32 false W64 a e = record { ends = λ le. omega (arith, e, le); whole = λ lt. omega (arith, e, lt); alone = λ is. omega (arith, e); fits = λ is. absurd cc }
seated32 false W128 a e = record { ends = λ le. omega (arith, e, le); whole = λ lt. omega (arith, e, lt); alone = λ is. omega (arith, e); fits = λ is. absurd cc }

counted32 : (w : Width) → IsCounted w 32
counted32 W1 = record { tight = λ lt. omega (arith, lt); one = λ le. omega (arith, le) }
counted32 W8 = record { tight = λ lt. omega (arith, lt); one = λ le. omega (arith, le) }
counted32 W16 = record { tight = λ lt. omega (arith, lt); one = λ le. omega (arith, le) }
counted32 W32 = record { tight = λ lt. omega (arith, lt); one = λ le. omega (arith, le) }
counted32 W64 = record { tight = λ lt. omega (arith, lt); one = λ le. omega (arith, le) }
counted32 W128 = record { tight = λ lt. omega (arith, lt); one = λ le. omega (arith, le) }

seated64 : (packed : Bool) (w : Width) (a : ℕ) → a % alignment packed w 64 ≡ 0 → IsSeated packed w 64 a
seated64 true W1 a e = record { ends = λ le. omega (arith, e, le); whole = λ lt. omega (arith, e, lt); alone = λ is. absurd cc; fits = λ is le. omega (arith, e, le) }
seated64 true W8 a e = record { ends = λ le. omega (arith, e, le); whole = λ lt. omega (arith, e, lt); alone = λ is. absurd cc; fits = λ is le. omega (arith, e, le) }
seated64 true W16 a e = record { ends = λ le. omega (arith, e, le); whole = λ lt. omega (arith, e, lt); alone = λ is. absurd cc; fits = λ is le. omega (arith, e, le) }
seated64 true W32 a e = record { ends = λ le. omega (arith, e, le); whole = λ lt. omega (arith, e, lt); alone = λ is. absurd cc; fits = λ is le. omega (arith, e, le) }
seated64 true W64 a e = record { ends = λ le. omega (arith, e, le); whole = λ lt. omega (arith, e, lt); alone = λ is. absurd cc; fits = λ is le. omega (arith, e, le) }
seated64 true W128 a e = record { ends = λ le. omega (arith, e, le); whole = λ lt. omega (arith, e, lt); alone = λ is. absurd cc; fits = λ is le. omega (arith, e, le) }
seated64 false W1 a e = record { ends = λ le. omega (arith, e, le); whole = λ lt. omega (arith, e, lt); alone = λ is. omega (arith, e); fits = λ is. absurd cc }
seated64 false W8 a e = record { ends = λ le. omega (arith, e, le); whole = λ lt. omega (arith, e, lt); alone = λ is. omega (arith, e); fits = λ is. absurd cc }
seated64 false W16 a e = record { ends = λ le. omega (arith, e, le); whole = λ lt. omega (arith, e, lt); alone = λ is. omega (arith, e); fits = λ is. absurd cc }
seated64 false W32 a e = record { ends = λ le. omega (arith, e, le); whole = λ lt. omega (arith, e, lt); alone = λ is. omega (arith, e); fits = λ is. absurd cc }
seated64 false W64 a e = record { ends = λ le. omega (arith, e, le); whole = λ lt. omega (arith, e, lt); alone = λ is. omega (arith, e); fits = λ is. absurd cc }
seated64 false W128 a e = record { ends = λ le. omega (arith, e, le); whole = λ lt. omega (arith, e, lt); alone = λ is. omega (arith, e); fits = λ is. absurd cc }

counted64 : (w : Width) → IsCounted w 64
counted64 W1 = record { tight = λ lt. omega (arith, lt); one = λ le. omega (arith, le) }
counted64 W8 = record { tight = λ lt. omega (arith, lt); one = λ le. omega (arith, le) }
counted64 W16 = record { tight = λ lt. omega (arith, lt); one = λ le. omega (arith, le) }
counted64 W32 = record { tight = λ lt. omega (arith, lt); one = λ le. omega (arith, le) }
counted64 W64 = record { tight = λ lt. omega (arith, lt); one = λ le. omega (arith, le) }
counted64 W128 = record { tight = λ lt. omega (arith, lt); one = λ le. omega (arith, le) }

-- ---- words of 32 and of 64 bits

pub divides : (n : ℕ) → (n ≡ 32) ⊎ (n ≡ 64) → Divides (n / 8)
divides n (inl e) = subst (λ (k : ℕ). Divides (k / 8)) (sym e) four
divides n (inr e) = subst (λ (k : ℕ). Divides (k / 8)) (sym e) eight

pub seated : (n : ℕ) → (n ≡ 32) ⊎ (n ≡ 64) → (packed : Bool) (w : Width) (a : ℕ) → a % alignment packed w n ≡ 0 → IsSeated packed w n a
seated n (inl e) packed w a = subst (λ (k : ℕ). a % alignment packed w k ≡ 0 → IsSeated packed w k a) (sym e) (seated32 packed w a)
seated n (inr e) packed w a = subst (λ (k : ℕ). a % alignment packed w k ≡ 0 → IsSeated packed w k a) (sym e) (seated64 packed w a)

pub counted : (n : ℕ) → (n ≡ 32) ⊎ (n ≡ 64) → (w : Width) → IsCounted w n
counted n (inl e) w = subst (λ (k : ℕ). IsCounted w k) (sym e) (counted32 w)
counted n (inr e) w = subst (λ (k : ℕ). IsCounted w k) (sym e) (counted64 w)

aligns32 : (packed : Bool) (w : Width) → (1 ≤ alignment packed w 32) × (alignment packed w 32 ≤ 16)
aligns32 true w = let b = some_bytes w in (b.0, b.1)
aligns32 false W1 = (omega arith, omega arith)
aligns32 false W8 = (omega arith, omega arith)
aligns32 false W16 = (omega arith, omega arith)
aligns32 false W32 = (omega arith, omega arith)
aligns32 false W64 = (omega arith, omega arith)
aligns32 false W128 = (omega arith, omega arith)

aligns64 : (packed : Bool) (w : Width) → (1 ≤ alignment packed w 64) × (alignment packed w 64 ≤ 16)
aligns64 true w = let b = some_bytes w in (b.0, b.1)
aligns64 false W1 = (omega arith, omega arith)
aligns64 false W8 = (omega arith, omega arith)
aligns64 false W16 = (omega arith, omega arith)
aligns64 false W32 = (omega arith, omega arith)
aligns64 false W64 = (omega arith, omega arith)
aligns64 false W128 = (omega arith, omega arith)

pub aligns : (n : ℕ) → (n ≡ 32) ⊎ (n ≡ 64) → (packed : Bool) (w : Width) → (1 ≤ alignment packed w n) × (alignment packed w n ≤ 16)
aligns n (inl e) packed w = subst (λ (k : ℕ). (1 ≤ alignment packed w k) × (alignment packed w k ≤ 16)) (sym e) (aligns32 packed w)
aligns n (inr e) packed w = subst (λ (k : ℕ). (1 ≤ alignment packed w k) × (alignment packed w k ≤ 16)) (sym e) (aligns64 packed w)
