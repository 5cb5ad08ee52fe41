-- A theory of readers of byte strings, in which formats are written. It knows nothing of signatures.
-- What a format is: `Bytes` has strings of bytes, `Binary` a number by its bits, `Reader` readers and what they answer, `Number` big-endian numbers,
-- `OneAnswer` what it is to have no second answer, `Part` what a part of a lent slice is, `Lent` an answer with what lent bytes hold.
-- What every reader obeys: `Law`; among the proofs, `Lawful` that it does, and `Settled` for a refusal found from the beginnings.
-- Which bytes a reader looks at: `Sight`; and that its answer depends on no other: `SightLaws`, among the proofs.
-- What encodings are: `Writes`. What the number of a refusal says: `Faults`.
-- What code is proved by: `Compose` goes from a place of a string part by part, `Told` says what code tells of it, `Jump` passes over free bytes,
-- `Gathered` reads parts into an array, `Fixed` finds the ith of many equal parts, `Put` writes bytes at a place and `Laid` one string behind the other, `Ascend` makes a number from bits.
pub mod Bytes
pub mod Binary
pub mod Ascend
pub mod Reader
pub mod OneAnswer
pub mod Answers
pub mod Part
pub mod Lent
pub mod Law
pub mod Compose
pub mod Told
pub mod Sight
pub mod Writes
pub mod Number
pub mod Faults
pub mod Jump
pub mod Gathered
pub mod Fixed
pub mod Put
pub mod Laid
