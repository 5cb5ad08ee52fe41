-- `NearestLaws`: that a reading is what "nearest" says, and that nothing else is. `Laws`: what follows for readings, and their ends.
-- `OrderLaws`: that what is claimed of the order of readings is so, and that its bound is sharp. `Held`: the numbers that a word holds.
pub mod Held
pub mod NearestLaws
pub mod Laws
pub mod OrderLaws
