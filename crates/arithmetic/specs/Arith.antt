-- The arithmetic that definitions are written over: document 01's "each operation rounds once, no fused multiply". Definitions only. A
-- definition takes it as a parameter, so that a fact on closed numbers can be computed in another arithmetic that is proved equal to `ieee`
-- and computes faster (`proofs/Quick`). Contracts cite every definition at `ieee`.
use Rattle.std.specs.Prelude.{ℕ, Bool, Float}
use Rattle.std.specs.Float.{binary64}
use Rattle.std.specs.Float.Ieee.{round, add, sub, mul, div, rem}
use Rattle.arithmetic.specs.Sqrt.{sqrt}

pub record Arith : Type 0 where
  pub ◌⊕◌ : Float → Float → Float
  pub ◌⊖◌ : Float → Float → Float
  pub ◌⊗◌ : Float → Float → Float
  pub ◌⊘◌ : Float → Float → Float
  -- Rust's %: what is left of the quotient cut to a whole number, with the sign of the first
  pub remainder : Float → Float → Float
  pub root : Float → Float
  -- a whole number with its sign, rounded
  pub whole : Bool → ℕ → Float

-- IEEE 754's on f64, as lib.Ieee has it.
abbrev pub ieee : Arith
ieee =
    record {
      ◌⊕◌ = add binary64;
      ◌⊖◌ = sub binary64;
      ◌⊗◌ = mul binary64;
      ◌⊘◌ = div binary64;
      remainder = rem binary64;
      root = sqrt;
      whole = λ s n. round binary64 s n 1;
    }
