-- `words::says_not` asks whether the word begins with `!`, which is what its one call promises.
use Rattle.words.proofs.says_not.Goals as goal

pub returns : goal.returns
returns c = c.begins.ensures
