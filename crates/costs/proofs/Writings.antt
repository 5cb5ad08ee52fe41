-- What a writer is handed and hands over: the description is the one of the header, and the bytes are as the library leaves them.
use mathlib.Core.Path.{◌≡◌, sym, ap, ◌∙◌}
use mathlib.Core.List.{List}
use Prim.Native.Nat.{ℕ}
use Rattle.std.specs.Prelude.{Result}
use Rattle.formats.specs.Reader.{read_at}
use Rattle.formats.specs.Lent.{Writing, writing}
use Rattle.formats.specs.declared.Failure.{Failure}
use Rattle.channels.specs.declared.Description.{Description}
use Rattle.channels.specs.declared.Format.{Format}
use Rattle.descriptions.specs.Description.{description}
use Rattle.descriptions.specs.Read.{described}
use Rattle.descriptions.specs.declared.Described.{Described}
use Rattle.costs.specs.declared.Done.{Done}
use Rattle.costs.specs.Handed.{said_in, read_header, handed_writing}

pub handed-over : {A : Type 0} (handed : A → Done) (write : Description → Writing A) (format : Format) (header : List ℕ) {x : Result Described Failure} {a : A} {r : Done} {bytes : List ℕ}
    → described (read_at (description format) header 0) ≡ x → r ≡ handed a → writing a bytes ≡ write (said_in format x)
    → writing r bytes ≡ handed_writing handed (write (read_header format header))
unfolding read_header
handed-over handed write format header {bytes = bytes} e g h =
    ap (λ y. writing y bytes) g ∙ ap (handed_writing handed) (h ∙ sym (ap (λ y. write (said_in format y)) e))
