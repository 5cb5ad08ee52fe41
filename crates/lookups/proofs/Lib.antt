-- `LookupLaws`: what a lookup finds, by how reading ended. `Looking`: what is answered is what it finds.
-- `CountingLaws`, `UnseenLaws` and `JoiningLaws` prove what is claimed of it.
pub mod LookupLaws
pub mod CountingLaws
pub mod UnseenLaws
pub mod JoiningLaws
pub mod Looking
