-- `reading_questions::bits_of` meets its contract: a number is no NaN, so its bits may be asked for. Assumes nothing.
use Rattle.doubles.proofs.ReadingLaws.{no_nan}
use Rattle.reading_questions.proofs.bits_of.Goals as goal

pub float_to_bits-result : goal.float_to_bits-result
float_to_bits-result c = no_nan c.args.number c.requires
