-- `Values`: whether values of points fit, and what is put of them. `ValueLaws`, among the proofs: those that fit are valid points, and what is put is their encoding.
-- `BothOrders`: what it means that both orders are judged the same. `BothOrderLaws`, among the proofs, shows it.
-- `Answers`: no public function has a second answer. `Parts` says what private functions answer.
pub mod Values
pub mod BothOrders
pub mod Parts
pub mod Answers
