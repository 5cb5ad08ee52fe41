-- What a word says by its first byte; and why it cannot be read.
use Rattle.std.specs.Prelude.{Bool, false, cond, List, [], ◌∷◌, ℕ, eqb, length, drop}
use Rattle.words.specs.declared.Reason.{Reason}
use Rattle.words.specs.declared.Reason.TheVariants.{Missing}

-- whether a word begins with a mark
unfoldable pub begins_with : List ℕ → ℕ → Bool
begins_with [] mark = false
begins_with (byte ∷ bytes) mark = eqb byte mark

-- a word that begins with `!` says not
abbrev pub says_not : List ℕ → Bool
says_not word = begins_with word 33

-- a word without the `!` that it may begin with
abbrev pub without_not : List ℕ → List ℕ
without_not word = cond (says_not word) (drop 1 word) word

-- why a word that says nothing of what was wanted cannot be read: it is missing, or another reason
abbrev pub reason_of : List ℕ → Reason → Reason
reason_of word otherwise = cond (eqb (length word) 0) Missing otherwise
