-- Places of a line: where a mark stands first, where a word begins and ends, and where no word follows.
use Rattle.std.specs.Prelude.{◌≡◌, List, ℕ, ◌≤◌, ◌<◌, length, get_or}

-- r is the first place, from a place on, whose byte is of one kind, where every byte before it is of the other; or the end, where there is none
pub record First (text : List ℕ) (from : ℕ) (Passed Found : ℕ → Type 0) (r : ℕ) : Type 0 where
  pub onward : from ≤ r
  pub inside : from < r → r ≤ length text
  pub passed : (k : ℕ) → k < r → from ≤ k → Passed (get_or text k 0)
  pub found : r < length text → Found (get_or text r 0)

-- the first place that holds the mark
abbrev pub Sought : List ℕ → ℕ → ℕ → ℕ → Type 0
Sought text from mark r = First text from (λ (byte : ℕ). byte ≡ mark → ⊥) (λ (byte : ℕ). byte ≡ mark) r

-- the first place that holds anything but the mark
abbrev pub Skipped : List ℕ → ℕ → ℕ → ℕ → Type 0
Skipped text from mark r = First text from (λ (byte : ℕ). byte ≡ mark) (λ (byte : ℕ). byte ≡ mark → ⊥) r

-- the first word from a place on begins behind the marks that part words, and ends before the next one
pub record Word (line : List ℕ) (mark at from to : ℕ) : Type 0 where
  pub begins : Skipped line at mark from
  pub ends : Sought line from mark to

-- from a place on the line has spaces only
abbrev pub Blank : List ℕ → ℕ → Type 0
Blank line at = (k : ℕ) → at ≤ k → k < length line → get_or line k 0 ≡ 32
