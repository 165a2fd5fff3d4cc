-- The running sum, turn by turn, and the row of amplitudes in a part of a list.
use Rattle.std.proofs.Common.{◌≡◌, ℕ, zero, suc, ◌+◌, ◌<◌, ◌≤◌, List, ◌++◌, length, take, drop, add-one, arith}
use Rattle.std.proofs.lemmas.List.{take-append-drop}
use Rattle.std.proofs.Math.ListN.{set, length-take}
use Rattle.std.specs.Prelude.{Float}
use Rattle.float.specs.Ops.{eight}
use Rattle.complex.specs.declared.value.Complex.{Complex}
use Rattle.complex.specs.Value.{c_norm, c_div}
use Rattle.complex.specs.Rows.{c_sum}
use Rattle.complex.proofs.RowLaws.{c_sum_cong}
use Rattle.lists.specs.Fill.{fill}
use Rattle.lists.proofs.Fill.{fill_turn0, fill_front}
use Rattle.row.specs.Envelope.{running_sum, amplitude}
use Rattle.row.specs.Inner.{moved_by}

pub run_none : (z : ℕ → Complex) (run : Complex) → run ≡ c_sum z 0 8 → run ≡ running_sum z 0
unfolding running_sum
run_none z run e = e

pub run_turn : (z : ℕ → Complex) (i : ℕ) (run r : Complex) → run ≡ running_sum z i → r ≡ moved_by z i run → r ≡ running_sum z (i + 1)
unfolding running_sum
run_turn z i run r p e = rw (add-one, e, p)

-- what is stored in a turn
pub amplitude_is : (z : ℕ → Complex) (i n : ℕ) (run mean : Complex) (v : Float)
    → run ≡ running_sum z i → mean ≡ c_div run eight → v ≡ c_norm mean → i ≤ n → n ≤ i → v ≡ amplitude z n
amplitude_is z i n run mean v p q e h g = let here : i ≡ n = omega arith in rw (e, q, p, here)

-- the last store, past the part that the loop filled
pub row_done : (l cur : List Float) (f : ℕ → Float) (i n : ℕ) (v : Float)
    → n < length l → cur ≡ fill (take n l) 0 f i → n ≤ i → i ≤ n → v ≡ f n → set (cur ++ drop n l) n v ≡ fill l 0 f (n + 1)
row_done l cur f i n v h p g k e =
    let all : i ≡ n = omega arith in
    let front : cur ++ drop n l ≡ fill l 0 f n =
    rw (p, all, fill_front (take n l) (drop n l) f n (simp length-take (omega arith)), take-append-drop) in
    fill_turn0 l f n (cur ++ drop n l) v front e

pub run_cong : (y z : ℕ → Complex) (n : ℕ) → ((k : ℕ) → k < 8 + n → y k ≡ z k) → running_sum y n ≡ running_sum z n
unfolding running_sum
run_cong y z zero h = c_sum_cong y z 0 8 h
run_cong y z (suc n) h = rw (run_cong y z n (λ k b. h k (omega arith)), h (8 + n) (omega arith), h n (omega arith))
