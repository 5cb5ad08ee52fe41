-- Each public function has one answer: whatever meets its promise is the same.
use Rattle.std.specs.Prelude.{◌≡◌, List, ℕ}
use Rattle.formats.specs.Reader.{read_at}
use Rattle.formats.specs.OneAnswer.{OneAnswer, named}
use Rattle.channels.specs.declared.Format.{Format}
use Rattle.descriptions.specs.Description.{description}
use Rattle.descriptions.specs.Read.{nothing, described, measured}

pub one-nothing : (format : Format) → OneAnswer (λ r. r ≡ nothing format)
one-nothing format = named

pub one-described : (s : List ℕ) (start : ℕ) (format : Format) → OneAnswer (λ r. r ≡ described (read_at (description format) s start))
one-described s start format = named

pub one-measured : (s : List ℕ) (start : ℕ) (format : Format) → OneAnswer (λ r. r ≡ measured (read_at (description format) s start))
one-measured s start format = named
