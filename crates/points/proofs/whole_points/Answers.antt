-- `points::whole_points` meets its contract: by the quotient of the room and the width.
use Prim.Native.Nat.{◌+◌, ◌/◌, ◌<◌}
use native.Mathlib.Nat.{div-mul-le_self, le-div_iff_mul-le, div-lt_iff_lt-mul}
use native.Mathlib.Omega.{arith}
use Rattle.points.proofs.whole_points.Goals as goal

pub returns-then-there-count : goal.returns-then-there-count
returns-then-there-count c =
    let a = c.args in
    (omega arith, div-mul-le_self a.room a.width, λ h. (div-lt_iff_lt-mul c.requires).0 (let z : a.room / a.width < a.room / a.width + 1 = omega arith in z))

pub returns : goal.returns
returns c = (omega arith, (le-div_iff_mul-le c.requires).0 (omega arith), λ h. absurd (omega arith))
