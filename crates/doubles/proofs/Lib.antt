-- `ValueLaws`: a double's value by its bits is its value in the logic. `DoubleLaws`: one number, one double. `OperandLaws`: the operands are exact.
-- `QuotientLaws`: the quotient is the exact fraction rounded once, and that fraction where F is zero. `NearestLaws`: no other double is as near to it.
-- `ReadingLaws`: what is promised holds, and no other double meets it.
pub mod ValueLaws
pub mod DoubleLaws
pub mod OperandLaws
pub mod QuotientLaws
pub mod NearestLaws
pub mod ReadingLaws
