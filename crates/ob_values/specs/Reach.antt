-- What is reached along the edges of a graph.
use Rattle.std.specs.Prelude.{◌≡◌, ℕ, zero, suc, List}
use Rattle.std.specs.List.{Contains}

module _ {N : Type 0} (next : N → List N) where
  -- a walk of n steps, each to one of those that `next` gives
  abbrev pub Walk : N → N → ℕ → Type 0
  Walk a b zero = a ≡ b
  Walk a b (suc n) = (c : N) × Walk a c n × Contains (next c) b

  -- a walk leads from one of the roots to b
  pub record Reaches (roots : List N) (b : N) : Type 0 where
    pub from : N
    pub start : Contains roots from
    pub steps : ℕ
    pub walk : Walk from b steps
