-- `Body`: a compact body, as it is written and as it is read. `Reading`: what is said of one by its template. `Writing`: what writing one does.
-- `BodyLaws`, `WritingLaws`, among the proofs: what follows. `Demands`: what is claimed of them, and `DemandLaws`, among the proofs, that it holds.
-- `Answers`: no public function has a second answer. `Examples`: bodies that are read and written, and among the proofs, under the same name, that they are answered so.
pub mod Body
pub mod Reading
pub mod Writing
pub mod Demands
pub mod Answers
pub mod Examples
