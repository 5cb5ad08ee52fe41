-- Where nothing is said: a description that includes no channel.
use Rattle.std.specs.Prelude.{◌≡◌, false, ℕ, ◌<◌, get_or}
use Rattle.channels.specs.declared.Description.{Description}
use Rattle.channels.specs.Descriptors.{absent}

-- no channel is included
abbrev pub Silent : Description → Type 0
Silent description = (k : ℕ) → k < 16 → (get_or description.channels k absent).included ≡ false
