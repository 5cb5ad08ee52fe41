-- Numbers with a sign, as 32 and 64 bits hold them.
use native.Mathlib.Omega.{arith}
use lib.IntN.{ℤ, pos, negsuc}
use mir.Syntax.{w32, w64}
use mir.Val.{SFits}

pub wide : (z : ℤ) → SFits w32 z → SFits w64 z
wide (pos n) h = record { sfits = omega (arith, h.sfits) }
wide (negsuc n) h = record { sfits = omega (arith, h.sfits) }
