-- What private functions answer: where a point with a switch ends.
use Rattle.std.specs.Prelude.{cond, List, ℕ, ◌+◌, leb, length, get_or, Result, Err}
use Rattle.formats.specs.Jump.{ends}
use Rattle.formats.specs.declared.Failure.TheVariants.{Short, Bad}
use Rattle.tip_switch.specs.Switch.{admitted}
use Rattle.formats.specs.declared.Failure.{Failure}

-- where a point of some width ends, of whose bytes only the switch, at an offset, can be refused
unfoldable pub switched : List ℕ → (at width offset : ℕ) → Result ℕ Failure
switched s at width offset =
    cond (leb (length s) (at + offset)) (Err Short)
    (cond (admitted (get_or s (at + offset) 0)) (ends s at width) (Err (Bad 8 (at + offset))))
