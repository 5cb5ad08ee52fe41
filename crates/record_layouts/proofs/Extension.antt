-- What the reader of extended data is told as, by the tests of the code.
use Rattle.std.specs.Prelude.{Ok, Err}
use mathlib.Core.Path.{◌≡◌, sym, ap, ◌∙◌}
use mathlib.Core.Logic.{by_cases}
use mathlib.Core.Bool.{Bool, true, false}
use mathlib.Core.List.{List}
use mathlib.Core.Option.{some}
use Prim.Native.Nat.{ℕ, ◌+◌, ◌-◌, ◌*◌, ◌≤◌, ◌<◌}
use native.Mathlib.Decide.{dec_lt}
use native.Mathlib.Omega.{arith}
use lib.ListN.{length, get_or}
use Rattle.formats.specs.Reader.{ok, free, map, read_at}
use Rattle.formats.specs.Compose.{at_done, at-free}
use Rattle.formats.proofs.Ends.{at-free-short}
use Rattle.formats.specs.Number.{number, at-number, value-two}
use Rattle.formats.proofs.NumberLaws.{at-number-short}
use Rattle.formats.specs.Jump.{Jumps, ends, ends_there, ends-short}
use Rattle.formats.specs.Told.{told, bind_done, map-told, at-bind-failed}
use Rattle.formats.specs.declared.Failure.TheVariants.{Short}
use Rattle.records.specs.Record.{extension}

-- free bytes are passed over
free-jumps : (n : ℕ) → Jumps (free n) n
unfolding told
free-jumps n s at h =
    by_cases
    (dec_lt (length s) (at + n))
    (λ q. ap told (at-free-short n s at (omega arith)) ∙ sym (ends-short s at n q))
    (λ q. ap told (at-free n s at (omega arith)) ∙ sym (ends_there s at n (omega arith)))

module _ (s : List ℕ) (at : ℕ) (announced : Bool) where
  pub no-extension : announced ≡ false → told (read_at (extension announced) s at) ≡ Ok at
  unfolding extension told
  no-extension e = rw e (ap told (at_done _ s at))

  pub extension-short : announced ≡ true → length s - at < 2 → told (read_at (extension announced) s at) ≡ Err Short
  unfolding extension told
  extension-short e h = rw e (ap told (at-bind-failed (number 2) _ s at Short (at-number-short 2 s at h)))

  pub extension-jump : announced ≡ true → at + 2 ≤ length s → told (read_at (extension announced) s at) ≡ ends s (at + 2) (get_or s at 0 * 256 + get_or s (at + 1) 0)
  unfolding extension map
  extension-jump e h =
      rw e
      (bind_done (number 2) _ s at (at-number 2 s at h ∙ ap (λ v. ok v (at + 2)) (value-two s at))
      ∙ map-told some (free (get_or s at 0 * 256 + get_or s (at + 1) 0)) s (at + 2)
      ∙ free-jumps (get_or s at 0 * 256 + get_or s (at + 1) 0) s (at + 2) h)
