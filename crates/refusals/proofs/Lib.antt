-- What only proofs need, and laws that an edit of a definition would take along.
pub mod RangeLaws
