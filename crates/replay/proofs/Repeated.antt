-- The length of one number again and again.
use Rattle.std.proofs.Common.{◌≡◌, ℕ, length, replicate, sym}
use Rattle.std.proofs.Math.ListN.{length-replicate}

-- A law, since the array that is read into is too long to be counted.
pub repeated : (n : ℕ) → n ≡ length {A = ℕ} (replicate n 0)
repeated n = sym (length-replicate n 0)
