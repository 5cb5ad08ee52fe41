-- `Switch`: how the state of the tip switch is stored. `Answers`: no public function has a second answer.
pub mod Switch
pub mod Answers
