-- Names: the words that a mark parts, counted from 0.
use Rattle.std.specs.Prelude.{◌≡◌, List, ℕ, suc, ◌≤◌, ◌<◌, ◌-◌, take, drop}
use Rattle.words.specs.Places.{Word}

-- what stands between two places
abbrev pub between : List ℕ → ℕ → ℕ → List ℕ
between line from to = take (to - from) (drop from line)

-- the word of a number, from a place on, stands from one place to another
pub data At (line : List ℕ) (mark : ℕ) : ℕ → ℕ → ℕ → ℕ → Type 0 where
  here : {at from to : ℕ} → Word line mark at from to → At line mark at 0 from to
  later : {at between to number from end : ℕ} → Word line mark at between to → At line mark to number from end → At line mark at (suc number) from end

-- a word is the one of a number; it is empty where there is no such number
pub record Nth (names : List ℕ) (mark number : ℕ) (word : List ℕ) : Type 0 where
  pub from : ℕ
  pub to : ℕ
  pub stands : At names mark 0 number from to
  pub bytes : word ≡ between names from to

-- a word is the name of a number
pub record Named (names : List ℕ) (mark : ℕ) (word : List ℕ) (number : ℕ) : Type 0 where
  pub from : ℕ
  pub to : ℕ
  pub stands : At names mark 0 number from to
  pub same : word ≡ between names from to

-- a word is none of the names, and they are so many: of that number on there is no name, and no name before it is the word
pub record Unnamed (names : List ℕ) (mark : ℕ) (word : List ℕ) (count : ℕ) : Type 0 where
  pub from : ℕ
  pub to : ℕ
  pub stands : At names mark 0 count from to
  pub none : to ≤ from
  pub others : (number start end : ℕ) → number < count → At names mark 0 number start end → word ≡ between names start end → ⊥

-- a word is the first of a line from a place on, where spaces part words, and another place is the one behind it
pub record Stands (line : List ℕ) (at : ℕ) (word : List ℕ) (behind : ℕ) : Type 0 where
  pub from : ℕ
  pub place : Word line 32 at from behind
  pub bytes : word ≡ between line from behind
