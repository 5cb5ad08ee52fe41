-- `Record`: the meaning of a full record, over that of sample points in `points`.
-- `Rules`: the rules that its bytes may break, each with its number.
-- `Demands`: what the meaning demands, proved. `Blame`: the rules are what reading refuses, and nothing else.
-- `Sizes`: how long the parts of a record can be. `EncodedLaws` has laws for proofs.
pub mod Record
pub mod EncodedLaws
pub mod Demands
pub mod Rules
pub mod Blame
pub mod Sizes
