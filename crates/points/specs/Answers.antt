-- Each public function has one answer: whatever meets its promise is the same.
use Rattle.std.specs.Prelude.{◌≡◌, Bool, List, ℕ, ◌≤◌}
use Rattle.formats.specs.OneAnswer.{OneAnswer, named}
use Rattle.formats.specs.Reader.{read_at, times}
use Rattle.formats.specs.Told.{told}
use Rattle.channels.specs.Channel.{width_of}
use Rattle.channels.specs.declared.Format.{Format}
use Rattle.points.specs.Points.{point, sample_size, width}

pub one-sample-size : (format : Format) (channel : ℕ) → OneAnswer (λ r. (r ≡ sample_size (width_of format) channel) × (r ≤ 2))
one-sample-size format channel r q e g = named r q e.0 g.0

pub one_width : (format : Format) (stored : List Bool) → OneAnswer (λ r. (r ≡ width (width_of format) stored) × (r ≤ 32))
one_width format stored r q e g = named r q e.0 g.0

module _ (s : List ℕ) (start : ℕ) (format : Format) where
  pub one-judged : (stored : List Bool) (count : ℕ) → OneAnswer (λ r. r ≡ told (read_at (times count (point (width_of format) stored)) s start))
  one-judged stored count = named
