-- `reading_questions::double` meets its contract: what `to_double` answers is a number. Assumes nothing.
use Rattle.doubles.proofs.ReadingLaws.{exactly-number}
use Rattle.reading_questions.proofs.double.Goals as goal

pub put_double-requires : goal.put_double-requires
put_double-requires c = exactly-number _ _ _ c.to_double.result c.to_double.ensures.1
