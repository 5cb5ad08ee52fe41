-- `words::next` goes over the marks and then to the next one, which is what its two calls promise.
use Rattle.words.proofs.next.Goals as goal

pub returns : goal.returns
returns c = record { begins = c.skip-from.ensures; ends = c.seek.ensures }
