-- Where each of sixteen begins in memory.
use Rattle.std.proofs.Common.{◌≤◌, ◌<◌, ◌^◌, ◌*◌, ℕ, Fits, w64, arith}
use Rattle.std.proofs.Math.Nat.{mul-le-mul_right}

-- each of sixteen that fit begins at a number that fits
pub begins_within : (k n : ℕ) → k ≤ 16 → 16 * n < 2 ^ 63 → Fits w64 (k * n)
begins_within k n few h = let less : k * n ≤ 16 * n = mul-le-mul_right n few in omega (arith, less, h)
