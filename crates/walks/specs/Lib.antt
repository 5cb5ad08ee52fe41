-- `Walk`: what a step answers at a place of a file of joined records, and what it is for steps to give a cut of the file.
-- `Cut`: over whole records the steps give the one cut, and steps that come to the end have made one. `Answers`: no promise has a second answer.
-- `StepLaws` has laws for proofs.
pub mod Walk
pub mod StepLaws
pub mod Cut
pub mod Answers
