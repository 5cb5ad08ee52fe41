-- `Write`: what writing a record does. `RoundTrips`, among the proofs: reading and writing, by their promises. `Answers`: no public function has a second answer.
-- What is claimed of it: `Naming`, which number 12 names; `BothOrders`, that the same values in either order are written the same. `NamingLaws` and `BothOrderLaws`, among the proofs, prove the claims.
-- `Parts` says what private functions put, and `WriteLaws`, among the proofs, has laws for proofs.
pub mod Write
pub mod Parts
pub mod Naming
pub mod BothOrders
pub mod Answers
