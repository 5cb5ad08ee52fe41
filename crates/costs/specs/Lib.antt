-- `Handed`: what is handed over to C, by what the library answers. `Answers`: no exported function has a second answer.
pub mod Handed
pub mod Answers
