use Rattle.std.proofs.Common.{◌+◌, ◌*◌, ◌^◌, ◌<◌, ◌≤◌, ℕ, arith, lit<}
use Rattle.std.proofs.Math.Nat.{pow-le-pow_right}
use Rattle.rh_lines.proofs.hexadecimal.hex_number.Goals as goal

-- one of eight digits more
has_room : (number digit i : ℕ) → number + 1 ≤ 16 ^ i → i < 8 → digit < 16 → 16 * number + digit < 2 ^ 32
has_room number digit i bound few small =
    let below : i ≤ 7 = omega arith in
    let most : 16 ^ i ≤ 16 ^ 7 = pow-le-pow_right {n = 16} (lit< tt) below in omega arith

pub overflow_mul-number : goal.overflow_mul-number
overflow_mul-number c =
    let room : 16 * c.loop-b.number + 0 < 2 ^ 32 = has_room c.loop-b.number 0 c.loop-b.b-index c.loop-b.invariant.bound (omega arith) (lit< tt) in
    omega arith

pub overflow_add-number : goal.overflow_add-number
overflow_add-number c =
    let room : 16 * c.loop-b.number + c.in_ok-digit.digit < 2 ^ 32 =
    has_room c.loop-b.number c.in_ok-digit.digit c.loop-b.b-index c.loop-b.invariant.bound (omega arith) c.in_ok-digit.ensures.small in
    omega arith
