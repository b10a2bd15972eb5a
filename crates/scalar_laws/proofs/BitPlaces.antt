-- One bit of a number, as Rust's shifts and masks work on it.
use Rattle.std.proofs.Common.{◌≡◌, not, eqb, ℕ, zero, suc, ◌-◌, ◌*◌, ◌/◌, ◌%◌, ◌^◌, ◌<◌, zero-mul, refl, arith}
use Rattle.std.specs.Int.{Width, w64, w128, cast_signed, cast_unsigned}
use Rattle.std.specs.Int.Bits.{bit_and, bit_or, bit_xor}
use Rattle.std.proofs.lemmas.Int.{of_z-to_z}
use Rattle.std.proofs.lemmas.Nat.{or_lt, xor_lt, one_shl, and-not, and_comm, pow_pos, pow_below}
use Rattle.std.proofs.lemmas.Nat.Bits.{and_pow}
use Rattle.std.proofs.lemmas.Bool.Decides.{nat_tests}
use mir.Val.{bits}

-- `n & 1 << k != 0` tells whether the bit is 1
read : (w n k : ℕ) → k < w → not (eqb (bit_and n (1 * 2 ^ k % 2 ^ w)) 0) ≡ eqb (n / 2 ^ k % 2) 1
read w n k within = rw (one_shl k w within, and_pow n k) (of_bit (n / 2 ^ k % 2) (2 ^ k) (pow_pos k) (omega arith))
  where
    of_bit : (b m : ℕ) → 0 < m → b < 2 → not (eqb (b * m) 0) ≡ eqb b 1
    of_bit zero m some small = rw (zero-mul m) refl
    of_bit (suc zero) m some small = grind (arith, nat_tests)
    of_bit (suc (suc b)) m some small = absurd (omega arith)

-- `n & !(1 << k)` leaves out the bit
clear : (w n k : ℕ) → k < w → n < 2 ^ w → bit_and n (2 ^ w - 1 - 1 * 2 ^ k % 2 ^ w) ≡ n - bit_and n (2 ^ k)
clear w n k within small = rw (one_shl k w within) (omega (arith, and-not w (2 ^ k) n (pow_below k w within) small, and_comm n (2 ^ w - 1 - 2 ^ k), and_comm n (2 ^ k)))

-- `n | 1 << k` and `n ^ 1 << k` of a signed type
set : (w : Width) (n k : ℕ) → k < bits w → n < 2 ^ bits w → cast_unsigned w (cast_signed w (bit_or n (1 * 2 ^ k % 2 ^ bits w))) ≡ bit_or n (2 ^ k)
set w n k within small = rw (one_shl k (bits w) within) (of_z-to_z w _ (or_lt (bits w) n (2 ^ k) small (pow_below k (bits w) within)))

toggle : (w : Width) (n k : ℕ) → k < bits w → n < 2 ^ bits w → cast_unsigned w (cast_signed w (bit_xor n (1 * 2 ^ k % 2 ^ bits w))) ≡ bit_xor n (2 ^ k)
toggle w n k within small = rw (one_shl k (bits w) within) (of_z-to_z w _ (xor_lt (bits w) n (2 ^ k) small (pow_below k (bits w) within)))

-- Those at each width: a tactic reads the width as a numeral.
pub read_8 : (n k : ℕ) → k < 8 → not (eqb (bit_and n (1 * 2 ^ k % 2 ^ 8)) 0) ≡ eqb (n / 2 ^ k % 2) 1
read_8 = read 8

pub clear_8 : (n k : ℕ) → k < 8 → n < 2 ^ 8 → bit_and n (2 ^ 8 - 1 - 1 * 2 ^ k % 2 ^ 8) ≡ n - bit_and n (2 ^ k)
clear_8 = clear 8

pub ruleset bits_8 = (read_8, clear_8)

pub read_16 : (n k : ℕ) → k < 16 → not (eqb (bit_and n (1 * 2 ^ k % 2 ^ 16)) 0) ≡ eqb (n / 2 ^ k % 2) 1
read_16 = read 16

pub clear_16 : (n k : ℕ) → k < 16 → n < 2 ^ 16 → bit_and n (2 ^ 16 - 1 - 1 * 2 ^ k % 2 ^ 16) ≡ n - bit_and n (2 ^ k)
clear_16 = clear 16

pub ruleset bits_16 = (read_16, clear_16)

pub read_32 : (n k : ℕ) → k < 32 → not (eqb (bit_and n (1 * 2 ^ k % 2 ^ 32)) 0) ≡ eqb (n / 2 ^ k % 2) 1
read_32 = read 32

pub clear_32 : (n k : ℕ) → k < 32 → n < 2 ^ 32 → bit_and n (2 ^ 32 - 1 - 1 * 2 ^ k % 2 ^ 32) ≡ n - bit_and n (2 ^ k)
clear_32 = clear 32

pub ruleset bits_32 = (read_32, clear_32)

pub read_64 : (n k : ℕ) → k < 64 → not (eqb (bit_and n (1 * 2 ^ k % 2 ^ 64)) 0) ≡ eqb (n / 2 ^ k % 2) 1
read_64 = read 64

pub clear_64 : (n k : ℕ) → k < 64 → n < 2 ^ 64 → bit_and n (2 ^ 64 - 1 - 1 * 2 ^ k % 2 ^ 64) ≡ n - bit_and n (2 ^ k)
clear_64 = clear 64

pub ruleset bits_64 = (read_64, clear_64)

pub read_128 : (n k : ℕ) → k < 128 → not (eqb (bit_and n (1 * 2 ^ k % 2 ^ 128)) 0) ≡ eqb (n / 2 ^ k % 2) 1
read_128 = read 128

pub clear_128 : (n k : ℕ) → k < 128 → n < 2 ^ 128 → bit_and n (2 ^ 128 - 1 - 1 * 2 ^ k % 2 ^ 128) ≡ n - bit_and n (2 ^ k)
clear_128 = clear 128

pub ruleset bits_128 = (read_128, clear_128)

-- std's sets for `grind` bound `|` and `^` up to 32 bits.
pub or_64 : (a b : ℕ) → a < 2 ^ 64 → b < 2 ^ 64 → bit_or a b < 2 ^ 64
or_64 = or_lt 64

pub xor_64 : (a b : ℕ) → a < 2 ^ 64 → b < 2 ^ 64 → bit_xor a b < 2 ^ 64
xor_64 = xor_lt 64

pub set_64 : (n k : ℕ) → k < 64 → n < 2 ^ 64 → cast_unsigned w64 (cast_signed w64 (bit_or n (1 * 2 ^ k % 2 ^ 64))) ≡ bit_or n (2 ^ k)
set_64 = set w64

pub toggle_64 : (n k : ℕ) → k < 64 → n < 2 ^ 64 → cast_unsigned w64 (cast_signed w64 (bit_xor n (1 * 2 ^ k % 2 ^ 64))) ≡ bit_xor n (2 ^ k)
toggle_64 = toggle w64

pub ruleset signed_64 = (read_64, clear_64, or_64, xor_64, set_64, toggle_64)

pub or_128 : (a b : ℕ) → a < 2 ^ 128 → b < 2 ^ 128 → bit_or a b < 2 ^ 128
or_128 = or_lt 128

pub xor_128 : (a b : ℕ) → a < 2 ^ 128 → b < 2 ^ 128 → bit_xor a b < 2 ^ 128
xor_128 = xor_lt 128

pub set_128 : (n k : ℕ) → k < 128 → n < 2 ^ 128 → cast_unsigned w128 (cast_signed w128 (bit_or n (1 * 2 ^ k % 2 ^ 128))) ≡ bit_or n (2 ^ k)
set_128 = set w128

pub toggle_128 : (n k : ℕ) → k < 128 → n < 2 ^ 128 → cast_unsigned w128 (cast_signed w128 (bit_xor n (1 * 2 ^ k % 2 ^ 128))) ≡ bit_xor n (2 ^ k)
toggle_128 = toggle w128

pub ruleset signed_128 = (read_128, clear_128, or_128, xor_128, set_128, toggle_128)
