-- What is left of a point after some channels, and that points with no switch are a fixed number of free bytes.
use mathlib.Core.Path.{◌≡◌, refl, sym, ap, ◌∙◌}
use mathlib.Core.Logic.{by_cases}
use mathlib.Core.Bool.{Bool, true, false, cond}
use mathlib.Core.List.{List, [], ◌∷◌}
use Prim.Native.Nat.{ℕ, suc, ◌+◌, ◌*◌, ◌≤◌, ◌<◌}
use native.Mathlib.Decide.{dec_lt}
use native.Mathlib.Numerals.{add-one}
use native.Mathlib.Omega.{arith}
use borrow.Author.Tests.{ne_eqb}
use lib.ListN.{length, get_or, drop, drop_of_length-le}
use lib.Seq.{drop-cons}
use Rattle.formats.specs.Bytes.{impossible}
use Rattle.formats.specs.Reader.{each, times}
use Rattle.formats.specs.Number.{at-number}
use Rattle.formats.specs.Told.{told}
use Rattle.formats.specs.Writes.{All}
use Rattle.formats.specs.Jump.{Jumps, ends_there, ends-short, jumps-done, jumps-bind, jumps-map, jumps-times}
use Rattle.channels.specs.Channel.{S}
use Rattle.points.specs.Points.{sample, point, stored_from, channels, sample_size, widths, width}
use Rattle.points.specs.SampleLaws.{Wide, wide_short, wide_ok}

-- ---- The channels from i on

module _ (stored : List Bool) (i : ℕ) (h : i < length stored) where
  -- whether channel i is one of them
  stored-by : (t : Bool) → get_or stored i false ≡ t
      → stored_from i (drop i stored) ≡ cond t (i ∷ stored_from (i + 1) (drop (i + 1) stored)) (stored_from (i + 1) (drop (i + 1) stored))
  unfolding stored_from
  stored-by t e =
      rw (add-one, drop-cons stored i false h) (ap (λ b. cond b (i ∷ stored_from (suc i) (drop (suc i) stored)) (stored_from (suc i) (drop (suc i) stored))) e)

  pub stored-in : get_or stored i false ≡ true → stored_from i (drop i stored) ≡ i ∷ stored_from (i + 1) (drop (i + 1) stored)
  stored-in e = stored-by true e

  pub stored-out : get_or stored i false ≡ false → stored_from i (drop i stored) ≡ stored_from (i + 1) (drop (i + 1) stored)
  stored-out e = stored-by false e

pub stored-none : (stored : List Bool) (i : ℕ) → length stored ≤ i → stored_from i (drop i stored) ≡ []
unfolding stored_from
stored-none stored i h = rw (drop_of_length-le stored {i = i} h)

-- ---- The width of what is left

module _ (w : ℕ) (stored : List Bool) (i : ℕ) where
  abbrev more : ℕ → ℕ
  more j = widths w (stored_from j (drop j stored))

  pub width-out : i < length stored → get_or stored i false ≡ false → more i ≡ more (i + 1)
  width-out h e = ap (widths w) (stored-out stored i h e)

  pub width-in : i < length stored → get_or stored i false ≡ true → more i ≡ sample_size w i + more (i + 1)
  unfolding widths
  width-in h e = ap (widths w) (stored-in stored i h e)

  pub width-none : length stored ≤ i → more i ≡ 0
  unfolding widths
  width-none h = ap (widths w) (stored-none stored i h)

-- ---- Points with no switch: a fixed number of free bytes

module _ (w : ℕ) where
  sample-jumps : (channel : ℕ) → Wide channel → Jumps (sample w channel) w
  unfolding told
  sample-jumps channel e s at h =
      by_cases
      (dec_lt (length s) (at + w))
      (λ q. ap told (wide_short w s at channel e (omega arith)) ∙ sym (ends-short s at w q))
      (λ q. ap told (wide_ok w s at channel e (at-number w s at (omega arith))) ∙ sym (ends_there s at w (omega arith)))

  pub each-jumps : (l : List ℕ) → All Wide l → Jumps (each l (sample w)) (widths w l)
  unfolding each widths
  each-jumps [] h = jumps-done []
  each-jumps (channel ∷ l) h =
      rw (ne_eqb channel S h.0)
      (jumps-bind (sample w channel) _ w (widths w l) (sample-jumps channel h.0) (λ v. jumps-map (λ vs. v ∷ vs) (each l (sample w)) (widths w l) (each-jumps l h.1)))

pub no_switch : (stored : List Bool) (i : ℕ) → ((j : ℕ) → j + i ≡ S → get_or stored j false ≡ false) → All Wide (stored_from i stored)
unfolding stored_from
no_switch [] i h = tt
no_switch (flag ∷ stored) i h = go flag refl (no_switch stored (suc i) (λ j e. h (suc j) (omega arith)))
  where
    go : (t : Bool) → flag ≡ t → All Wide (stored_from (suc i) stored)
        → All Wide (cond t (i ∷ stored_from (suc i) stored) (stored_from (suc i) stored))
    go true e r = (λ q. let x : flag ≡ false = h 0 (omega arith) in impossible (cc), r)
    go false e r = r

pub points-jump : (w : ℕ) (stored : List Bool) (n : ℕ) → get_or stored S false ≡ false → Jumps (times n (point w stored)) (n * width w stored)
unfolding point width channels
points-jump w stored n h =
    jumps-times (point w stored) (width w stored) (each-jumps w (channels stored) (no_switch stored 0 (λ j e. let z : j ≡ S = omega arith in rw z h))) n
