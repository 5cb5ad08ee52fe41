-- `Layout`: where the parts of a record lie. `Answers`: no public function has a second answer. `LayoutLaws` has laws for proofs.
pub mod Layout
pub mod LayoutLaws
pub mod Answers
