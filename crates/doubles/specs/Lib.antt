-- `Double`: what number a double is, by its bits. `Nearest`: which double is nearest to a fraction. `Quotient`: a raw number divided by a scaling value, and what is promised of it. `Reading`: the answers.
-- `Examples`: doubles and readings by their bits. `Answers`: no second answer meets a promise.
pub mod Double
pub mod Nearest
pub mod Quotient
pub mod Reading
pub mod Examples
pub mod Answers
