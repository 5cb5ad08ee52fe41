-- What a number of a sample point is told as, by the tests of the code.
use Rattle.std.specs.Prelude.{◌≡◌, refl, Bool, true, false, List, ℕ, ◌+◌, ◌-◌, ◌≤◌, ◌<◌, eqb, length, get_or}
use Rattle.std.proofs.Math.Path.{ap}
use Rattle.std.proofs.Common.{◌∙◌, arith, eq-eqb, ne_eqb, eqb-true}
use Rattle.std.proofs.lemmas.Bool.{eqb-false}
use Rattle.formats.specs.Reader.{ok, short, bad, mapped, done, read_at, one}
use Rattle.formats.specs.Compose.{at_done, at_map, at-short, at-pass, at-fail}
use Rattle.formats.specs.Number.{number}
use Rattle.formats.proofs.NumberLaws.{at-number-short}
use Rattle.channels.specs.Channel.{S, signed_of, width_of}
use Rattle.channels.specs.Stored.{value_of}
use Rattle.tip_switch.specs.Switch.{admitted, state_of}
use Rattle.channels.specs.declared.Format.{Format}
use Rattle.channels.specs.declared.Format.TheVariants.{Full, Compact}
use Rattle.points.specs.Points.{switch, sample, sample_size}

-- a number has one byte or two
pub one-or-two : (format : Format) → (1 ≤ width_of format) × (width_of format ≤ 2)
one-or-two Full = (omega arith, omega arith)
one-or-two Compact = (omega arith, omega arith)

pub switch-size : (w channel : ℕ) → channel ≡ S → sample_size w channel ≡ 1
switch-size w channel e = rw (eq-eqb channel S e)

-- a channel whose number is no switch
abbrev pub Wide : ℕ → Type 0
Wide channel = channel ≡ S → ⊥

pub wide-size : (w channel : ℕ) → Wide channel → sample_size w channel ≡ w
wide-size w channel e = rw (ne_eqb channel S e)

module _ (w : ℕ) (s : List ℕ) (at channel : ℕ) where
  module _ (e : channel ≡ S) where
    narrow : read_at (sample w channel) s at ≡ mapped state_of (read_at (one switch) s at)
    unfolding sample
    narrow = rw e (at_map state_of (one switch) s at)

    pub switch-short : length s ≤ at → read_at (sample w channel) s at ≡ short
    unfolding mapped one
    switch-short h = narrow ∙ ap (mapped state_of) (at-short switch done s at h)

    pub switch-bad : at < length s → admitted (get_or s at 0) ≡ false → read_at (sample w channel) s at ≡ bad 8 at
    unfolding mapped one
    switch-bad h g = narrow ∙ ap (mapped state_of) (at-fail switch done s at h g)

    pub switch-ok : at < length s → admitted (get_or s at 0) ≡ true → read_at (sample w channel) s at ≡ ok (state_of (get_or s at 0)) (at + 1)
    unfolding mapped one
    switch-ok h g = narrow ∙ ap (mapped state_of) (at-pass switch done s at h g ∙ at_done (get_or s at 0) s (at + 1))

  module _ (e : channel ≡ S → ⊥) where
    wide : read_at (sample w channel) s at ≡ mapped (value_of w (signed_of channel)) (read_at (number w) s at)
    unfolding sample
    wide = rw (ne_eqb channel S e) (at_map (value_of w (signed_of channel)) (number w) s at)

    pub wide_short : length s - at < w → read_at (sample w channel) s at ≡ short
    unfolding mapped
    wide_short h = wide ∙ ap (mapped (value_of w (signed_of channel))) (at-number-short w s at h)

    pub wide_ok : {n m : ℕ} → read_at (number w) s at ≡ ok n m → read_at (sample w channel) s at ≡ ok (value_of w (signed_of channel) n) m
    unfolding mapped
    wide_ok h = wide ∙ ap (mapped (value_of w (signed_of channel))) h

pub sample-none : (w : ℕ) (s : List ℕ) (at channel : ℕ) → 1 ≤ w → length s ≤ at → read_at (sample w channel) s at ≡ short
sample-none w s at channel g h = go (eqb channel S) refl
  where
    go : (t : Bool) → eqb channel S ≡ t → read_at (sample w channel) s at ≡ short
    go true e = switch-short w s at channel (eqb-true channel S e) h
    go false e = wide_short w s at channel (eqb-false channel S e) (omega arith)
