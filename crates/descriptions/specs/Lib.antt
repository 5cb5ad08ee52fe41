-- `Description`: the meaning of a channel description. `Rules`: the rules that its bytes may break, each with its number.
-- `Marks`: what is claimed of its mark. `Read`: what the code that reads one answers. `Answers`: no public function has a second answer.
-- `EncodedLaws`, here and among the proofs: what is read is the encoding of a valid description. `FaultLaws`: the rules are what is refused, and nothing else. `SizeLaws`: how long it can be.
pub mod Description
pub mod Rules
pub mod Marks
pub mod Read
pub mod EncodedLaws
pub mod FaultLaws
pub mod SizeLaws
pub mod Answers
