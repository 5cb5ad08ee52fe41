-- `Write`: what writing a description does. `WriteLaws`: the three ways that it goes; what is written reads back.
-- `AsideLaws`: what is known of a description that was put where there is room. `Answers`: no public function has a second answer.
pub mod Write
pub mod WriteLaws
pub mod AsideLaws
pub mod Answers
