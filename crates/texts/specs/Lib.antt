-- `Gathered`: what a text holds when bytes have joined it. `Digits`: numbers and bytes as digits, and what a text holds when they have joined it.
-- `ReadBack`: the digits of a number say it. `Answers`: no public function leaves a second text. `JoiningLaws` has laws for proofs.
pub mod Gathered
pub mod Digits
pub mod JoiningLaws
pub mod ReadBack
pub mod Answers
