-- `Turning`: what a full record is made, what keeps it from that, and what becomes of the outputs.
-- `Demands`: what is claimed of turning. That it is so is proved in proofs/. `Examples`: those of request L4's specification.
-- `Parts`: what private functions answer. `Answers`: no public function has a second answer.
pub mod Turning
pub mod Demands
pub mod Examples
pub mod Parts
pub mod Answers
