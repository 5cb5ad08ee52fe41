-- `Thousandths`: the meaning of a reading. `NearestLaws`: what "nearest" is.
-- `Order`: what is claimed of the order of readings. That it is so, and that its bound is sharp, is proved in proofs/.
-- `Answers`: no second answer meets a promise. `Examples`: the scope's readings, but for P12, and the request's.
pub mod Thousandths
pub mod NearestLaws
pub mod Order
pub mod Answers
pub mod Examples
