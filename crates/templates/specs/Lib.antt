-- `Template`: what a template is. `Reading`: what bytes are read as, left to right, and the number of each refusal.
-- `EncodedLaws`: what is read is the encoding of a valid template, so that no bytes have two readings. `FaultLaws`: what a refusal says.
-- `Examples`: some templates, and a refusal of each number. `Answers`: no public function has a second answer.
pub mod Template
pub mod Reading
pub mod EncodedLaws
pub mod FaultLaws
pub mod Examples
pub mod Answers
