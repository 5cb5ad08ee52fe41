-- `descriptions::descriptor_end` meets its contract: the descriptor's byte is judged, and the attributes behind it are passed over at once.
use Rattle.std.specs.Prelude.{Result, ℕ}
use mathlib.Core.Path.{◌≡◌, sym, ap, ◌∙◌}
use native.Mathlib.Omega.{arith}
use Rattle.formats.specs.Reader.{Answer, mapped}
use Rattle.formats.specs.Told.{told, told-mapped}
use Rattle.channels.specs.declared.Descriptor.{Descriptor}
use Rattle.descriptions.proofs.Parts.{low_clear, descriptor-out, descriptor-bad}
use Rattle.descriptions.proofs.Measuring.{flags, descriptor-over, descriptor-cut}
use Rattle.descriptions.proofs.descriptor_end.Goals as goal
use Rattle.descriptions.proofs.descriptor_end.Goals.{After-descriptor_size-size}
use Rattle.formats.specs.declared.Failure.{Failure}

-- how it ended is told of its flags as well
by_flags : (x : Answer Descriptor) {o : Result ℕ Failure} → told (mapped flags x) ≡ o → o ≡ told x
by_flags x e = sym e ∙ told-mapped flags x

pub returns-then-s-at : goal.returns-then-s-at
unfolding told
returns-then-s-at c channel = sym (ap told (descriptor-out _ channel _ _ (omega arith)))

pub returns-then-byte-eq1 : goal.returns-then-byte-eq1
unfolding told
returns-then-byte-eq1 c channel = sym (ap told (descriptor-bad _ channel _ _ (omega arith) (omega arith)))

pub returns-then-s-at-2 : goal.returns-then-s-at-2
unfolding told
returns-then-s-at-2 c channel =
    let d = (goal.at.returns-then-s-at-2 c).After-descriptor_size-size in
    by_flags _ (ap told (descriptor-cut _ channel _ _ (omega arith) (low_clear _ d.if-byte-eq1.false) (omega (arith, d.descriptor_size-size.ensures.0))))

pub returns : goal.returns
unfolding told
returns c channel =
    let d = (goal.at.returns c).After-descriptor_size-size in
    rw d.descriptor_size-size.ensures.0 (by_flags _ (ap told (descriptor-over _ channel _ _ (omega arith) (low_clear _ d.if-byte-eq1.false) (omega (arith, d.descriptor_size-size.ensures.0)))))
