-- What the identifier and the version are told as, one after the other.
use Rattle.std.specs.Prelude.{◌≡◌, List, ℕ, ◌≤◌, length, Ok, Err}
use Rattle.std.proofs.Common.{sym, ◌∙◌}
use Rattle.std.proofs.Math.Path.{ap}
use Rattle.formats.specs.Reader.{read_at, bind, literal}
use Rattle.formats.specs.Compose.{at-short}
use Rattle.formats.specs.Told.{told, told-done, bind_done, bind-failed, matched}
use Rattle.formats.proofs.Ends.{literal-told, done-within}
use Rattle.formats.specs.declared.Failure.{Failure}
use Rattle.formats.specs.declared.Failure.TheVariants.{Short}
use Rattle.records.specs.Record.{identifier_bytes, version_bytes}
use Rattle.identifications.specs.Identification.{identification}

module _ (s : List ℕ) (start : ℕ) where
  identified : told (read_at (literal 2 identifier_bytes tt) s start) ≡ matched s start identifier_bytes 2
  identified = literal-told 2 identifier_bytes tt s start

  pub identifier-within : start ≤ length s → {n : ℕ} → matched s start identifier_bytes 2 ≡ Ok n → n ≤ length s
  identifier-within h e = (done-within (literal 2 identifier_bytes tt) s start h (sym (identified ∙ e))).1

  pub identification-done : {n : ℕ} → matched s start identifier_bytes 2 ≡ Ok n → told (read_at identification s start) ≡ matched s n version_bytes 3
  unfolding identification
  identification-done {n} e =
      let x = told-done (read_at (literal 2 identifier_bytes tt) s start) (sym (identified ∙ e)) in
      bind_done _ _ s start x.1 ∙ literal-told 3 version_bytes tt s n

  pub identification-failed : {f : Failure} → matched s start identifier_bytes 2 ≡ Err f → told (read_at identification s start) ≡ Err f
  unfolding identification
  identification-failed e = bind-failed _ _ s start (sym (identified ∙ e))

  -- past the end there is none
  pub identification-past : length s ≤ start → told (read_at identification s start) ≡ Err Short
  unfolding identification literal bind told
  identification-past h = ap told (at-short _ _ s start h)
