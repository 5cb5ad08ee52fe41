-- The sixteen channels, what is said of them, and the numbers that are stored for them.
-- `Channel`: their order, their signs, and how wide their numbers are. `Bits`: sixteen bits, one for each channel. `BitLaws`: those that are moved up, and those of the signs. `Descriptors`: what says nothing, and whether a channel is stored. `Stored`: a number and what is stored for it.
-- `Answers`: no public function has a second answer.
pub mod Channel
pub mod Bits
pub mod BitLaws
pub mod Descriptors
pub mod Stored
pub mod Answers
