-- `Promises`: what the functions promise, as their contracts have it. `Saying`: what can be said of some bytes, and the numbers of points that were handed out.
-- `Judging`: what `judge`, `verdict_at` and `judge_whole` say of any bytes. `Shortest`: document 01's M is a record.
-- `Reading`: what the functions hand out of a record, and where there is none. `RoundTrips`: reading and writing together.
-- `JudgingLaws`, `ReadingLaws` and `RoundTripLaws` have laws for proofs.
pub mod Promises
pub mod Saying
pub mod JudgingLaws
pub mod Judging
pub mod Shortest
pub mod ReadingLaws
pub mod Reading
pub mod RoundTripLaws
pub mod RoundTrips
