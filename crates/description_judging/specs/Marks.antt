-- What is claimed of the mark that a writer looks at (request L4).
use Rattle.std.specs.Prelude.{◌≡◌, ◌↔◌, T, Ok}
use Rattle.channels.specs.declared.Description.{Description}
use Rattle.channels.specs.declared.Format.{Format}
use Rattle.descriptions.specs.Description.{includes_xy, tidy}
use Rattle.description_judging.specs.Judging.{judgement_of}

-- a description is passed exactly where X and Y are included, it has the mark of the format, and it is tidy
abbrev pub PassesTidy : Type 0
PassesTidy = (format : Format) (d : Description) → (judgement_of format d ≡ Ok tt) ↔ (T (includes_xy d) × ((d.mark ≡ format) × T (tidy d)))
