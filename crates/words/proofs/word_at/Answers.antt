-- `words::word_at` answers the first word and where it ends, which is what its two calls promise.
use Rattle.words.proofs.word_at.Goals as goal

pub returns : goal.returns
returns c = record { from = c.next-span.result.from; place = c.next-span.ensures; bytes = c.part.ensures }
