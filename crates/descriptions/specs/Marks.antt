-- What is claimed of the mark that reading gives (request L4).
use Rattle.std.specs.Prelude.{◌≡◌, List, ℕ, T}
use Rattle.formats.specs.Bytes.{Bytes}
use Rattle.formats.specs.Reader.{ok, run}
use Rattle.channels.specs.declared.Description.{Description}
use Rattle.channels.specs.declared.Format.{Format}
use Rattle.descriptions.specs.Description.{description, tidy}

-- all that reading yields has the mark of its format, and is tidy: each of its numbers fits the mark too
abbrev pub ReadsTidy : Type 0
ReadsTidy = (format : Format) (s : List ℕ) (d : Description) (n : ℕ) → Bytes s → run (description format) s ≡ ok d n → (d.mark ≡ format) × T (tidy d)
