-- The kind of each size.
use Rattle.std.proofs.Common.{◌≡◌, ℕ, ◌*◌, ◌^◌, ◌≤◌, true, refl, arith}
use Rattle.std.specs.Prelude.{◌≢◌}
use Rattle.op_table.specs.declared.kind.Width.TheVariants.{W1, W8, W16, W32, W64, W128}
use Rattle.op_table.specs.Kind.{bytes_of, values_of, IsKind}
use Rattle.sized_calls.specs.Sizes.{is_size}
use Rattle.sized_calls.specs.Cells.{kind_of_size}
use Rattle.sized_calls.proofs.Sizes.{each_size}

pub kind_bytes : (n : ℕ) → is_size n ≡ true → bytes_of (kind_of_size n) ≡ n
kind_bytes = each_size (λ n. bytes_of (kind_of_size n) ≡ n) refl refl refl refl refl

pub kind_values : (n : ℕ) → is_size n ≡ true → values_of (kind_of_size n) ≡ 2 ^ (8 * n)
kind_values = each_size (λ n. values_of (kind_of_size n) ≡ 2 ^ (8 * n)) refl refl refl refl refl

w8 : W8 ≢ W1
w8 e = cc

w16 : W16 ≢ W1
w16 e = cc

w32 : W32 ≢ W1
w32 e = cc

w64 : W64 ≢ W1
w64 e = cc

w128 : W128 ≢ W1
w128 e = cc

pub kind_is : (n : ℕ) → is_size n ≡ true → IsKind (kind_of_size n)
kind_is = each_size (λ n. IsKind (kind_of_size n)) w8 w16 w32 w64 w128

pub size_bounds : (n : ℕ) → is_size n ≡ true → (1 ≤ n) × (n ≤ 16)
size_bounds = each_size (λ n. (1 ≤ n) × (n ≤ 16)) (omega arith, omega arith) (omega arith, omega arith) (omega arith, omega arith) (omega arith, omega arith) (omega arith, omega arith)
