use Rattle.std.proofs.Common.{ℕ, ◌^◌, ◌<◌, ◌≤◌, arith, lit<}
use native.Mathlib.Nat.{pow-le-pow_right}
use Rattle.files.proofs.fields.figure_of.Goals as goal

-- while a seventh digit is left
digits_small : (n i : ℕ) → n < 10 ^ i → i < 7 → n < 1000000
digits_small n i h l =
    let k : i ≤ 6 = omega arith in
    let p : 10 ^ i ≤ 10 ^ 6 = pow-le-pow_right (lit< tt) k in
    omega arith

pub overflow_mul-sum : goal.overflow_mul-sum
overflow_mul-sum c = omega (arith, digits_small c.loop-b.sum c.loop-b.b-index c.loop-b.invariant.small (omega arith))

pub overflow_add-sum : goal.overflow_add-sum
overflow_add-sum c = omega (arith, digits_small c.loop-b.sum c.loop-b.b-index c.loop-b.invariant.small (omega arith), c.type_inv.field c.loop-b.b-index)
