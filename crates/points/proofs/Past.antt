-- Points that start past the end of the bytes: those that have no bytes are there, others are short.
use Rattle.std.specs.Prelude.{Ok, Err}
use mathlib.Core.Path.{◌≡◌, refl, sym, ap, ◌∙◌}
use mathlib.Core.Bool.{Bool, true, false, cond}
use mathlib.Core.List.{List, [], ◌∷◌}
use Prim.Native.Nat.{ℕ, zero, suc, ◌≤◌, ◌<◌}
use native.Mathlib.Omega.{arith}
use lib.Dec.{eqb}
use lib.ListN.{length}
use Rattle.formats.specs.Reader.{read_at, bind, done, each, times}
use Rattle.formats.specs.Compose.{at_done}
use Rattle.formats.specs.Told.{told, map-told, bind-failed, each-failed}
use Rattle.formats.specs.declared.Failure.TheVariants.{Short}
use Rattle.channels.specs.Channel.{S}
use Rattle.points.specs.Points.{channels, sample, point, sample_size, widths, width}
use Rattle.points.specs.SampleLaws.{sample-none}

module _ (w : ℕ) (some : 1 ≤ w) where
  sample-some : (channel : ℕ) → 1 ≤ sample_size w channel
  sample-some channel = go (eqb channel S)
    where
      go : (t : Bool) → 1 ≤ cond t 1 w
      go true = omega arith
      go false = some

  no-channel : (l : List ℕ) → widths w l ≡ 0 → l ≡ []
  unfolding widths
  no-channel [] e = refl
  no-channel (channel ∷ l) e = absurd (omega (arith, sample-some channel))

  module _ (s : List ℕ) (at : ℕ) where
    nothing-told : (n : ℕ) → told (read_at (times n (each [] (sample w))) s at) ≡ Ok at
    unfolding times each bind told
    nothing-told zero = ap told (at_done [] s at)
    nothing-told (suc n) = map-told (λ vs. [] ∷ vs) (times n (done [])) s at ∙ nothing-told n

    pub none_told : (stored : List Bool) (n : ℕ) → n ≡ 0 → told (read_at (times n (point w stored)) s at) ≡ Ok at
    unfolding times told
    none_told stored n e = rw e (ap told (at_done [] s at))

    pub empty-told : (stored : List Bool) (n : ℕ) → width w stored ≡ 0 → told (read_at (times n (point w stored)) s at) ≡ Ok at
    unfolding point width
    empty-told stored n e = rw (no-channel (channels stored) e) (nothing-told n)

    module _ (past : length s ≤ at) where
      first_short : (l : List ℕ) → 0 < widths w l → Err Short ≡ told (read_at (each l (sample w)) s at)
      unfolding widths told
      first_short [] h = absurd (omega arith)
      first_short (channel ∷ l) h = sym (each-failed channel l (sample w) s at (sym (ap told (sample-none w s at channel some past))))

      pub past-told : (stored : List Bool) (n : ℕ) → 0 < n → 0 < width w stored → told (read_at (times n (point w stored)) s at) ≡ Err Short
      unfolding times point width
      past-told stored zero h q = absurd (omega arith)
      past-told stored (suc n) h q = bind-failed (each (channels stored) (sample w)) _ s at (first_short (channels stored) q)
