-- Numbers that stand still at a greatest one.
use Rattle.std.proofs.Common.{◌≡◌, ℕ, ◌+◌, min, max, arith}

pub both : (m a b x y g : ℕ) → x ≡ min a m → y ≡ min b m → g ≡ max x y → g ≡ min (max a b) m
both m a b x y g h k e = grind (arith, h, k, e)

pub one_more : (m a g r : ℕ) → g ≡ min a m → r ≡ min (1 + g) m → r ≡ min (1 + a) m
one_more m a g r h e = grind (arith, h, e)
